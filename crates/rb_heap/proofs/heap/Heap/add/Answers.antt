use Rattle.std.proofs.Common.{◌≡◌, ap, ◌∙◌, length, arith}
use Rattle.std.proofs.lemmas.List.{length-map, length_push}
use Rattle.rb_heap.specs.declared.stored.Stored.{Stored}
use Rattle.rb_heap.specs.Seen.{object_seen, objects_seen}
use Rattle.rb_heap.proofs.Seen.{laid_added}
use Rattle.rb_heap.proofs.heap.Heap.add.Goals as goal

pub invariant_of-self-2 : goal.invariant_of-self-2
invariant_of-self-2 c =
    let kept = c.self.inside in
    let stored : Stored = record { layout = c.in_ok-layout.layout; values = c.in_ok-values.values } in
    let seen : length (objects_seen kept.layouts kept.objects) ≡ length c.args.self.now = ap length c.self.view_is in
    let count = length-map kept.objects (object_seen kept.layouts) in
    let one_more = length_push kept.objects stored in
    let laid = laid_added kept.layouts c.place_for.new.self kept.objects c.args.object stored c.place_for.ensures.kept c.self.invariant.1 c.in_ok-layout.ensures.place (c.in_ok-values.ensures ∙ c.in_ok-values_of.ensures) in
    rw c.in_ok-push.ensures.ok (omega arith, laid)
