use Rattle.std.proofs.Common.{◌≡◌, ◌∙◌, ap, sym, ℕ, List, Option, Some}
use Rattle.std.specs.Prelude.{option_map}
use Rattle.rb_base.specs.Devices.{Device}
use Rattle.rb_disk.specs.Images.{DiskRecord}
use Rattle.rb_disk.specs.MemoryDisks.{DiskInMemory, seen_device}
use Rattle.rb_disk.specs.Storing.{reopened}
use Rattle.rb_disk.specs.MemoryStores.{next_in_memory}
use Rattle.rb_disk.proofs.Placed.{told_next}
use Rattle.rb_disk.proofs.memory_stores.MemoryStoresStores.open.Goals as goal

pub returns-in-Some-clause-opens : goal.returns-in-Some-clause-opens
returns-in-Some-clause-opens c =
    let s = c.args.self.now in
    let next = told_next s c.args.name.now ∙ ap (λ (o : Option DiskInMemory). option_map seen_device o)
    (ap (λ (n : List ℕ). next_in_memory s n) (sym c.as_bytes.ensures.value) ∙ sym c.take_next.ensures.disk ∙ c.in-Some.is) in
    ap (λ (d : DiskInMemory). Some (seen_device d)) c.reopen.ensures ∙ sym (ap (λ (o : Option (Device DiskRecord)). option_map reopened o) next)

pub returns-in-None-clause-opens : goal.returns-in-None-clause-opens
returns-in-None-clause-opens c =
    let s = c.args.self.now in
    let next = told_next s c.args.name.now ∙ ap (λ (o : Option DiskInMemory). option_map seen_device o)
    (ap (λ (n : List ℕ). next_in_memory s n) (sym c.as_bytes.ensures.value) ∙ sym c.take_next.ensures.disk ∙ c.in-None.is) in
    sym (ap (λ (o : Option (Device DiskRecord)). option_map reopened o) next)
