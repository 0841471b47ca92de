use Rattle.std.proofs.Common.{◌≡◌, ◌∙◌, ap, sym, ℕ, List, position, slice_set, Option, None}
use Rattle.std.specs.Str.{bytes_eq}
use Rattle.rb_disk.specs.MemoryDisks.{DiskInMemory}
use Rattle.rb_disk.specs.Storing.{Places}
use Rattle.rb_disk.proofs.Placed.{under_some, under_no}
use Rattle.rb_disk.proofs.memory_stores.take.Goals as goal

pub returns-in_default-clause-disk : goal.returns-in_default-clause-disk
returns-in_default-clause-disk c =
    let name = c.args.name.now in
    let first = c.place_of.ensures ∙ ap (λ (l : Places DiskInMemory). position (λ p. bytes_eq p.0 name) l) c.as_slice.ensures.value in
    sym (under_no name c.args.places.now.items c.place_of.result first c.in_default.is).disk

pub returns-in_default-clause-places : goal.returns-in_default-clause-places
returns-in_default-clause-places c =
    let name = c.args.name.now in
    let first = c.place_of.ensures ∙ ap (λ (l : Places DiskInMemory). position (λ p. bytes_eq p.0 name) l) c.as_slice.ensures.value in
    sym (under_no name c.args.places.now.items c.place_of.result first c.in_default.is).rest

pub returns-clause-disk : goal.returns-clause-disk
returns-clause-disk c =
    let name = c.args.name.now in
    let first = c.place_of.ensures ∙ ap (λ (l : Places DiskInMemory). position (λ p. bytes_eq p.0 name) l) c.as_slice.ensures.value in
    let at = under_some name c.args.places.now.items c.place_of.result c.in-Some.place first c.in-Some.is in
    c.take.ensures.value ∙ ap (λ (p : List ℕ × Option DiskInMemory). p.1) c.index_mut.ensures.value ∙ sym (at.disk c.index_mut.result.now)

pub returns-clause-places : goal.returns-clause-places
returns-clause-places c =
    let name = c.args.name.now in
    let ps : Places DiskInMemory = c.args.places.now.items in
    let first = c.place_of.ensures ∙ ap (λ (l : Places DiskInMemory). position (λ p. bytes_eq p.0 name) l) c.as_slice.ensures.value in
    let at = under_some name ps c.place_of.result c.in-Some.place first c.in-Some.is in
    ap (λ (o : Option DiskInMemory). slice_set ps c.in-Some.place (c.index_mut.result.now.0, o)) c.take.ensures.after
    ∙ ap (λ (p : List ℕ × Option DiskInMemory). slice_set ps c.in-Some.place (p.0, None)) c.index_mut.ensures.value
    ∙ at.rest c.index_mut.result.now
