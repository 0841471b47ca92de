-- What was served so far, and how it ends.
use Rattle.std.proofs.Common.{refl, Ok, inl, ap, sym, ◌∙◌, subst, arith}
use Rattle.rb_base.specs.Devices.{device}
use Rattle.rb_meaning_frames.specs.Streams.{Waits}
use Rattle.rb_session.specs.Sessions.{IsBounded}
use Rattle.rb_session.proofs.Going.{with_host, none_served, piece_served, ended_at, stopped}
use Rattle.rb_session.proofs.serving.serve_pieces.Goals as goal

pub pieces-init : goal.pieces-init
pieces-init g c = record {
  served = none_served (with_host c.args.host.now (device g.S.Source.told g.S.Source.faults c.args.source.now) (device g.K.Sink.told g.K.Sink.faults c.args.sink.now)) _ c.requires.new;
  waits = subst (λ s. Waits s.rest) (sym c.requires.new) (inl refl);
  fresh = ap (λ s. s.stop) c.requires.new;
  bounded = subst (λ s. IsBounded s.offset s.requests) (sym c.requires.new) (record { offset_is = omega arith; requests_are = omega arith });
  typed = c.requires.typed;
  service = refl;
  room = c.requires.room;
}

pub pieces-preserved : goal.pieces-preserved
pieces-preserved g c =
    let so = c.pieces.invariant in
    let said = c.in-Ok-serve_piece.ensures in
    record {
      served = piece_served _
          (with_host c.pieces.host (device g.S.Source.told g.S.Source.faults c.pieces.source) (device g.K.Sink.told g.K.Sink.faults c.pieces.sink))
          (with_host c.serve_piece.new.host (device g.S.Source.told g.S.Source.faults c.read_most.new.source) (device g.K.Sink.told g.K.Sink.faults c.serve_piece.new.sink))
          _ _ _ _ so.service so.served c.in-Ok.ensures.after said.serves;
      waits = said.serves.says.1;
      fresh = said.serves.says.0;
      bounded = said.bounded;
      typed = said.typed;
      service = said.service ∙ so.service;
      room = omega arith;
    }

pub returns-then-count-eq0-clause-serves : goal.returns-then-count-eq0-clause-serves
returns-then-count-eq0-clause-serves g c =
    ended_at _
    (with_host c.pieces.host (device g.S.Source.told g.S.Source.faults c.pieces.source) (device g.K.Sink.told g.K.Sink.faults c.pieces.sink))
    (with_host c.pieces.host (device g.S.Source.told g.S.Source.faults c.read_most.new.source) (device g.K.Sink.told g.K.Sink.faults c.pieces.sink))
    _ _ _ _ c.if-count-eq0.true c.pieces.invariant.served c.ended.ensures refl refl c.in-Ok.ensures.after (c.in-Ok.ensures.end (ap Ok c.if-count-eq0.true))

pub returns-in-Err-serve_piece-clause-serves : goal.returns-in-Err-serve_piece-clause-serves
returns-in-Err-serve_piece-clause-serves g c =
    stopped _
    (with_host c.pieces.host (device g.S.Source.told g.S.Source.faults c.pieces.source) (device g.K.Sink.told g.K.Sink.faults c.pieces.sink))
    (with_host c.serve_piece.new.host (device g.S.Source.told g.S.Source.faults c.read_most.new.source) (device g.K.Sink.told g.K.Sink.faults c.serve_piece.new.sink))
    _ _ _ _ c.pieces.invariant.service c.pieces.invariant.served c.in-Ok.ensures.after c.in-Err-serve_piece.ensures.serves
