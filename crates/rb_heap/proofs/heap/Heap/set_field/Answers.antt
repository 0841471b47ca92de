use Rattle.std.proofs.Common.{sym, ap, ◌∙◌, length-set}
use Rattle.std.specs.Option.{option_copied}
use Rattle.rb_heap.proofs.Seen.{never_unlaid, seen_written, laid_written}
use Rattle.rb_heap.proofs.heap.Heap.set_field.Goals as goal
use Rattle.rb_heap.proofs.heap.Heap.set_field.Goals.{in-Some-get, in-None}

pub invariant_of-self-2 : goal.invariant_of-self-2
invariant_of-self-2 c =
    let kept = c.self.inside in
    let at = sym c.in-Some.ensures.value in
    elim c.match-get.branch [
      | in-Some-get w ↦ rw (w.self-inside-is, length-set)
          (c.self.invariant.0, laid_written kept.layouts kept.objects c.args.object c.in-Some.stored.now w.replace_named.new.values c.self.invariant.1 at w.replace_named.ensures.count)
      | in-None w ↦ absurd (never_unlaid kept.layouts kept.objects c.args.object c.in-Some.stored.now c.self.invariant.1 at (sym c.get.ensures ∙ ap option_copied w.in-None.is))
    ]

pub returns : goal.returns
returns c =
    let kept = c.self.inside in
    let at = sym c.in-Some.ensures.value in
    elim c.match-get.branch [
      | in-Some-get w ↦ rw (w.result-is, w.self-inside-is, ← c.self.view_is)
          (seen_written kept.layouts kept.objects c.args.object c.args.name.now c.args.value c.in-Some.stored.now w.in-Some-get.layout.now w.replace_named.new.values w.replace_named.result
          at (sym c.get.ensures ∙ ap option_copied w.in-Some-get.is) (rw w.as_slice.ensures at w.replace_named.ensures.replaced))
      | in-None w ↦ absurd (never_unlaid kept.layouts kept.objects c.args.object c.in-Some.stored.now c.self.invariant.1 at (sym c.get.ensures ∙ ap option_copied w.in-None.is))
    ]
