-- The session was opened and served.
use Rattle.std.proofs.Common.{refl, ap, ◌∙◌}
use Rattle.rb_base.specs.Devices.{device}
use Rattle.rb_hub.proofs.ServedHub.{from_before, answers, leaves, history}
use Rattle.rb_hub.proofs.ServedTo.{none_answered}
use Rattle.rb_hub.proofs.Somewhere.{going}
use Rattle.rb_meaning_frames.specs.Histories.{Open}
use Rattle.rb_hub.proofs.serving.serve_hub.Goals as goal

pub returns-in-Ok-buffer_of-clause-leaves : goal.returns-in-Ok-buffer_of-clause-leaves
returns-in-Ok-buffer_of-clause-leaves g c =
    leaves g.A.Answers c.args.hub.now c.serve_pieces.new.hub _ _ c.serve_pieces.result c.streams_are_read.ensures.streams (c.stands_somewhere.ensures.stands (going c.args.hub.now Open c.requires))
    (from_before g.A.Answers c.in-Ok.number c.args.hub.now c.open_session.new.hub c.serve_pieces.new.hub (device g.S.Source.told g.S.Source.faults c.args.source.now)
    (device g.K.Sink.told g.K.Sink.faults c.args.sink.now) _ c.serve_pieces.result c.in-Ok.ensures.number c.in-Ok.ensures.opens c.serve_pieces.ensures.serves)

pub returns-in-Ok-buffer_of-clause-history : goal.returns-in-Ok-buffer_of-clause-history
returns-in-Ok-buffer_of-clause-history g c =
    history g.A.Answers c.args.hub.now c.serve_pieces.new.hub (device g.S.Source.told g.S.Source.faults c.args.source.now) (device g.K.Sink.told g.K.Sink.faults c.args.sink.now)
    (device g.S.Source.told g.S.Source.faults c.serve_pieces.new.source) (device g.K.Sink.told g.K.Sink.faults c.serve_pieces.new.sink) c.serve_pieces.result c.requires
    (from_before g.A.Answers c.in-Ok.number c.args.hub.now c.open_session.new.hub c.serve_pieces.new.hub (device g.S.Source.told g.S.Source.faults c.args.source.now)
    (device g.K.Sink.told g.K.Sink.faults c.args.sink.now) _ c.serve_pieces.result c.in-Ok.ensures.number c.in-Ok.ensures.opens c.serve_pieces.ensures.serves)

pub returns-in_default-clause-answers : goal.returns-in_default-clause-answers
returns-in_default-clause-answers g c =
    rw c.stopped.ensures
    (none_answered g.A.Answers.does g.A.Answers.stops c.args.hub.now.answers c.open_session.new.hub.answers _ _ c.streams_are_read.ensures.streams c.open_session.ensures.same refl refl)

pub returns-in-Err-clause-answers : goal.returns-in-Err-clause-answers
returns-in-Err-clause-answers g c =
    rw c.stopped-in-Err.ensures
    (none_answered g.A.Answers.does g.A.Answers.stops c.args.hub.now.answers c.end.new.self.answers _ _ c.streams_are_read.ensures.streams
    (ap (λ h. h.answers) c.end.ensures ∙ c.open_session.ensures.same) refl refl)

pub returns-in-Ok-buffer_of-clause-answers : goal.returns-in-Ok-buffer_of-clause-answers
returns-in-Ok-buffer_of-clause-answers g c =
    answers g.A.Answers c.args.hub.now c.serve_pieces.new.hub _ _ c.serve_pieces.result (c.stands_somewhere.ensures.stands (going c.args.hub.now Open c.requires))
    (from_before g.A.Answers c.in-Ok.number c.args.hub.now c.open_session.new.hub c.serve_pieces.new.hub (device g.S.Source.told g.S.Source.faults c.args.source.now)
    (device g.K.Sink.told g.K.Sink.faults c.args.sink.now) _ c.serve_pieces.result c.in-Ok.ensures.number c.in-Ok.ensures.opens c.serve_pieces.ensures.serves)
