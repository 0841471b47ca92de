use Rattle.std.proofs.Common.{refl}
use Rattle.rb_base.specs.Devices.{device}
use Rattle.rb_base.specs.Listening.{ends_of}
use Rattle.rb_top.specs.Manners.{hub_manner}
use Rattle.rb_top.specs.ServerParts.{none_comes, not_given, starved_to_give}
use Rattle.rb_top.proofs.Serving.{done_leaves, last_served, next_served, session_is_out}
use Rattle.rb_top.proofs.sessions.serve_next.Goals as goal

pub serve_session-answer-requires-clause-out : goal.serve_session-answer-requires-clause-out
serve_session-answer-requires-clause-out g c =
    let first = ends_of (device g.N.S.Source.told g.N.S.Source.faults) (device g.N.K.Sink.told g.N.K.Sink.faults) c.in-Ok-Some.source c.in-Ok-Some.sink in
    session_is_out first (device g.N.Listen.told g.N.Listen.faults c.args.listen.now) (device g.N.Listen.told g.N.Listen.faults c.next.new.self)
    (record { gives = rw c.in-Ok-Some.field-0-is at c.in-Ok-Some.ensures.gives; fresh = rw c.in-Ok-Some.field-0-is at c.in-Ok-Some.ensures.fresh; faults = c.in-Ok-Some.ensures.faults })

pub returns-in-Ok-clause-serves : goal.returns-in-Ok-clause-serves
returns-in-Ok-clause-serves g c =
    let first = ends_of (device g.N.S.Source.told g.N.S.Source.faults) (device g.N.K.Sink.told g.N.K.Sink.faults) c.in-Ok-Some.source c.in-Ok-Some.sink in
    next_served (hub_manner g.A.Answers) c.args.number c.args.hub.now.answers c.serve_session-answer.new.hub.answers (device g.N.Listen.told g.N.Listen.faults c.args.listen.now) (device g.N.Listen.told g.N.Listen.faults c.next.new.self) _ first c.serve_session-answer.result _ _
    (record { gives = rw c.in-Ok-Some.field-0-is at c.in-Ok-Some.ensures.gives; fresh = rw c.in-Ok-Some.field-0-is at c.in-Ok-Some.ensures.fresh; faults = c.in-Ok-Some.ensures.faults }) c.serve_session-answer.ensures.serves c.in-Ok.ensures

pub returns-in-Ok-clause-leaves : goal.returns-in-Ok-clause-leaves
returns-in-Ok-clause-leaves g c = λ e. done_leaves c.args.number c.serve_session-answer.result c.args.hub.now c.serve_session-answer.new.hub _ _ c.in-Ok.ensures c.serve_session-answer.ensures.leaves

pub returns-in-Err-clause-serves : goal.returns-in-Err-clause-serves
returns-in-Err-clause-serves g c =
    let first = ends_of (device g.N.S.Source.told g.N.S.Source.faults) (device g.N.K.Sink.told g.N.K.Sink.faults) c.in-Ok-Some.source c.in-Ok-Some.sink in
    last_served (hub_manner g.A.Answers) c.args.number c.args.hub.now.answers c.serve_session-answer.new.hub.answers (device g.N.Listen.told g.N.Listen.faults c.args.listen.now) (device g.N.Listen.told g.N.Listen.faults c.next.new.self) _ first c.serve_session-answer.result c.in-Err.stop _ _
    (record { gives = rw c.in-Ok-Some.field-0-is at c.in-Ok-Some.ensures.gives; fresh = rw c.in-Ok-Some.field-0-is at c.in-Ok-Some.ensures.fresh; faults = c.in-Ok-Some.ensures.faults }) c.serve_session-answer.ensures.serves c.in-Err.ensures

pub returns-in-Ok-None-clause-serves : goal.returns-in-Ok-None-clause-serves
returns-in-Ok-None-clause-serves g c = none_comes (record { gives = rw c.in-Ok-None.field-0-is at c.in-Ok-None.ensures.gives; faults = c.in-Ok-None.ensures.faults }) refl refl

pub returns-in-Err-Failed-clause-serves : goal.returns-in-Err-Failed-clause-serves
returns-in-Err-Failed-clause-serves g c =
    not_given c.say-status.result (record { gives = rw c.in-Err-Failed.field-0-is at c.in-Err-Failed.ensures.gives; faults = rw c.in-Err-Failed.field-0-is at c.in-Err-Failed.ensures.faults }) refl c.say-status.ensures

pub returns-in-Err-Memory-clause-serves : goal.returns-in-Err-Memory-clause-serves
returns-in-Err-Memory-clause-serves g c = starved_to_give (record { gives = rw c.in-Err-Memory.field-0-is at c.in-Err-Memory.ensures.gives; faults = rw c.in-Err-Memory.field-0-is at c.in-Err-Memory.ensures.faults }) refl refl
