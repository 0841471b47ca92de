-- A hub over whoever keeps requests served sessions.
use Rattle.std.proofs.Common.{ap, refl, subst, sym}
use Rattle.rb_base.specs.Devices.{device}
use Rattle.rb_top.specs.KeepParts.{IsReady, ServesKeptTo}
use Rattle.rb_top.specs.Scene.{output}
use Rattle.rb_top.proofs.KeptSessions.{served_kept}
use Rattle.rb_top.proofs.Serving.{made_new}
use Rattle.rb_top.proofs.keep_run.serve_kept.Goals as goal

pub serve_sessions-answer-requires : goal.serve_sessions-answer-requires
serve_sessions-answer-requires g c = made_new c.make-hub.result c.args.kept c.make-hub.ensures

pub returns : goal.returns
returns g c =
    let told = g.D.Disk.told in
    let faults = g.D.Disk.faults in
    let listen = device g.N.Listen.told g.N.Listen.faults c.args.listen.now in
    let last = device g.N.Listen.told g.N.Listen.faults c.serve_sessions-answer.new.listen in
    let before = output g.W.Sink c.args.out.now in
    let after = output g.W.Sink c.serve_sessions-answer.new.out in
    let made = ap (λ h. h.answers) c.make-hub.ensures in
    let law = c.answered_requests_are_kept.ensures in
    let served = served_kept told faults _ (λ k. refl) (λ k. refl) (λ x p y h. h) (λ x p s y h. h) (record { keeps = law.keeps; any_moment = law.any_moment; at_stop = law.at_stop })
    c.make-hub.result.answers c.serve_sessions-answer.new.hub.answers c.args.count c.serve_sessions-answer.result listen last before after
    (subst (IsReady faults) (sym made) c.requires) c.serve_sessions-answer.ensures in
    subst (λ k. ServesKeptTo told faults k c.into_answers.result c.args.count c.serve_sessions-answer.result listen last before after) made
    (subst (λ k. ServesKeptTo told faults c.make-hub.result.answers k c.args.count c.serve_sessions-answer.result listen last before after) (sym c.into_answers.ensures.value) served)
