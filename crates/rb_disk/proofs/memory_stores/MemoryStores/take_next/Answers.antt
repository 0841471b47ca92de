use Rattle.std.proofs.Common.{◌≡◌, ◌∙◌, ap, sym, subst, arith, ℕ, true, false, is_none, position, Option, None}
use Rattle.std.proofs.lemmas.Grind.{common_steps}
use Rattle.std.specs.Prelude.{◌==◌}
use Rattle.std.specs.List.{list_any}
use Rattle.rb_base.specs.Counts.{risen}
use Rattle.rb_disk.specs.MemoryDisks.{DiskInMemory}
use Rattle.rb_disk.specs.Storing.{Places, is_out, disk_under}
use Rattle.rb_disk.specs.MemoryStores.{StoreInMemory, next_in_memory}
use Rattle.rb_disk.proofs.Placed.{empty_is_out, finds_none, finds_disk}
use Rattle.rb_disk.proofs.memory_stores.MemoryStores.take_next.Goals as goal

pub returns-then-is_some-clause-disk : goal.returns-then-is_some-clause-disk
returns-then-is_some-clause-disk c =
    let i = c.self.inside in
    let s : StoreInMemory = record { places = i.places.items; opens = i.opens; failing = i.failing; faults = i.faults; broken = i.broken } in
    let first = c.empty_place.ensures ∙ ap (λ (l : Places DiskInMemory). position (λ p. is_none p.1) l) c.as_slice-2.ensures.value in
    let listed : list_any (λ n. n == risen i.opens) i.failing ≡ false = grind (arith, common_steps) in
    let out : is_out i.places.items ≡ true = sym (empty_is_out i.places.items c.empty_place.result first) ∙ sym c.is_some.ensures ∙ c.if-is_some.true in
    subst (λ (x : StoreInMemory). None ≡ next_in_memory x c.args.name.now) c.self.view_is (finds_none s c.args.name.now listed out)

pub returns-clause-disk : goal.returns-clause-disk
returns-clause-disk c =
    let i = c.self.inside in
    let s : StoreInMemory = record { places = i.places.items; opens = i.opens; failing = i.failing; faults = i.faults; broken = i.broken } in
    let first = c.empty_place.ensures ∙ ap (λ (l : Places DiskInMemory). position (λ p. is_none p.1) l) c.as_slice-2.ensures.value in
    let listed : list_any (λ n. n == risen i.opens) i.failing ≡ false = grind (arith, common_steps) in
    let out : is_out i.places.items ≡ false = sym (empty_is_out i.places.items c.empty_place.result first) ∙ sym c.is_some.ensures ∙ c.if-is_some.false in
    c.take.ensures.disk ∙ subst (λ (x : StoreInMemory). disk_under i.places.items c.args.name.now ≡ next_in_memory x c.args.name.now) c.self.view_is (finds_disk s c.args.name.now listed out)
