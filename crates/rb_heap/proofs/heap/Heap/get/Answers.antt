use Rattle.std.proofs.Common.{sym, ap, ◌∙◌, length, slice_get, Some}
use Rattle.rb_heap.specs.Views.{object_with}
use Rattle.rb_heap.proofs.Seen.{named_at, never_unlaid, seen_at}
use Rattle.rb_heap.proofs.heap.Heap.get.Goals as goal

pub returns-in_err-layout : goal.returns-in_err-layout
returns-in_err-layout c =
    absurd (never_unlaid c.self.inside.layouts c.self.inside.objects c.args.object c.in_ok-stored.stored.now c.self.invariant.1 (sym c.in_ok-stored.ensures.value) (sym c.in_err-layout.ensures))

pub returns : goal.returns
returns c =
    let kept = c.self.inside in
    let stored = c.in_ok-stored.stored.now in
    let layout = c.in_ok-layout.layout.now in
    let at = sym c.in_ok-stored.ensures.value in
    let laid = sym c.in_ok-layout.ensures in
    record {
      seen = ap (λ class. Some (object_with class layout.names c.list.result.now)) c.as_slice.ensures
          ∙ ap (λ values. Some (object_with layout.class layout.names values)) c.list.ensures ∙ sym (seen_at kept.layouts kept.objects c.args.object stored layout at laid) ∙ ap (λ seen. slice_get seen c.args.object) c.self.view_is;
      even = named_at kept.layouts kept.objects c.args.object stored layout c.self.invariant.1 at laid ∙ ap length (sym c.list.ensures);
    }
