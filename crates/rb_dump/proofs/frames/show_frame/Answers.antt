-- Where no whole frame stands, what is left is cut or broken.
use Rattle.std.proofs.Common.{◌+◌, drop, sym, subst}
use Rattle.rb_dump.specs.declared.verdicts.Verdict.TheVariants.{BadFrame, CutFrame}
use Rattle.rb_dump.specs.Streams.{Breaks, IsCutFrame, Tells, cut, broken}
use Rattle.rb_dump.proofs.frames.show_frame.Goals as goal

pub returns-in_ok-show_unread-in-Cut-clause-leads : goal.returns-in_ok-show_unread-in-Cut-clause-leads
returns-in_ok-show_unread-in-Cut-clause-leads c later told =
    let walk = c.args.walk.now in
    let here = subst (λ l. IsCutFrame l) c.rest.ensures c.in-Cut.ensures in
    subst (λ n. Tells walk.at (drop walk.at walk.bytes) (CutFrame n)) (sym c.at-at.ensures.at) (cut walk.at (drop walk.at walk.bytes) here)

pub returns-in_ok-show_unread-in-Broken-clause-leads : goal.returns-in_ok-show_unread-in-Broken-clause-leads
returns-in_ok-show_unread-in-Broken-clause-leads c later told =
    let walk = c.args.walk.now in
    let offset = c.in-Broken.offset in
    let here = subst (λ l. Breaks offset l) c.rest.ensures c.in-Broken.ensures in
    subst (λ n. Tells walk.at (drop walk.at walk.bytes) (BadFrame (n + offset))) (sym c.at-at.ensures.at) (broken walk.at offset (drop walk.at walk.bytes) here)
