use Rattle.std.proofs.Common.{ap, refl, ◌∙◌}
use Rattle.rb_base.specs.Devices.{device}
use Rattle.rb_top.specs.Scene.{output}
use Rattle.rb_top.proofs.Serving.{host_ends, made_new}
use Rattle.rb_top.proofs.server.serve_host.Goals as goal

pub serve_sessions-answer-requires : goal.serve_sessions-answer-requires
serve_sessions-answer-requires g c = made_new c.make-hub.result c.args.host c.make-hub.ensures

pub returns : goal.returns
returns g c =
    host_ends _ (λ h. refl) (λ h. refl) c.args.host c.make-hub.result.answers c.serve_sessions-answer.new.hub.answers c.args.count c.serve_sessions-answer.result c.say_end.result
    (device g.N.Listen.told g.N.Listen.faults c.args.listen.now) (device g.N.Listen.told g.N.Listen.faults c.serve_sessions-answer.new.listen) (output g.W.Sink c.args.out.now) (output g.W.Sink c.serve_sessions-answer.new.out) (output g.W.Sink c.say_end.new.out)
    (ap (λ h. h.answers) c.make-hub.ensures) c.serve_sessions-answer.ensures c.table.result.now (c.table.ensures ∙ ap (λ h. h.table) c.answers.ensures.value) c.say_end.ensures
