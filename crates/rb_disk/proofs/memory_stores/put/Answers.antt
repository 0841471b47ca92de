use Rattle.std.proofs.Common.{◌≡◌, ◌∙◌, ap, arith, ℕ, List, true, is_none, position, slice_set, Option, Some}
use Rattle.rb_disk.specs.MemoryDisks.{DiskInMemory}
use Rattle.rb_disk.specs.Storing.{Places}
use Rattle.rb_disk.proofs.Placed.{empty_some, empty_no}
use Rattle.rb_disk.proofs.memory_stores.put.Goals as goal

pub unreachable-requires : goal.unreachable-requires
unreachable-requires c =
    let first = c.empty_place.ensures ∙ ap (λ (l : Places DiskInMemory). position (λ p. is_none p.1) l) c.as_slice.ensures.value in
    let full = empty_no c.args.places.now.items c.empty_place.result first c.in_default.is in
    absurd (grind (arith, full, c.requires))

pub returns : goal.returns
returns c =
    let ps : Places DiskInMemory = c.args.places.now.items in
    let first = c.empty_place.ensures ∙ ap (λ (l : Places DiskInMemory). position (λ p. is_none p.1) l) c.as_slice.ensures.value in
    ap (λ (p : List ℕ × Option DiskInMemory). slice_set ps c.in-Some.place (p.0, Some c.args.disk)) c.index_mut.ensures.value
    ∙ (empty_some ps c.empty_place.result c.in-Some.place first c.in-Some.is).rest c.args.disk c.index_mut.result.now
