use Rattle.std.proofs.Common.{◌≡◌, ◌+◌, ◌-◌, ◌*◌, ◌<◌, None, length}
use Rattle.rb_base.specs.Devices.{device}
use Rattle.rb_meaning_frames.specs.Streams.{most_requests, Waits}
use Rattle.rb_session.specs.Answering.{IsTypedHost}
use Rattle.rb_session.specs.Taking.{longest_frame}
use Rattle.rb_session.specs.Sessions.{came, IsBounded}
use Rattle.rb_session.proofs.Going.{with_host, SoServed}
use Rattle.rb_session.proofs.serving.serve_pieces.Given as goal

abbrev pub invariant-pieces : goal.invariant-pieces
invariant-pieces g l = record {
  served : SoServed (with_host l.initial.host (device g.S.Source.told g.S.Source.faults l.initial.source) (device g.K.Sink.told g.K.Sink.faults l.initial.sink))
      (with_host l.host (device g.S.Source.told g.S.Source.faults l.source) (device g.K.Sink.told g.K.Sink.faults l.sink)) l.session;
  waits : Waits l.session.rest;
  fresh : l.session.stop ≡ None;
  bounded : IsBounded l.session.offset l.session.requests;
  typed : IsTypedHost l.host;
  service : l.host.service ≡ l.initial.host.service;
  room : 0 < length l.buffer;
}

abbrev pub decreases-pieces : goal.decreases-pieces
decreases-pieces g l = (most_requests + 1) * longest_frame - came l.session
