use Rattle.std.proofs.Common.{◌≡◌, ◌-◌, ◌<◌, ◌≤◌, length}
use Rattle.rb_base.specs.Devices.{device}
use Rattle.rb_hub.specs.Serving.{hub_ends, most_read}
use Rattle.rb_hub.proofs.Last.{came_at, most_bytes}
use Rattle.rb_hub.proofs.Pieces.{Going}
use Rattle.rb_hub.proofs.serving.serve_pieces.Given as goal

abbrev pub invariant-pieces : goal.invariant-pieces
invariant-pieces g l =
    let first = hub_ends g.A.Answers l.initial.hub (device g.S.Source.told g.S.Source.faults l.initial.source) (device g.K.Sink.told g.K.Sink.faults l.initial.sink) in
    let last = hub_ends g.A.Answers l.hub (device g.S.Source.told g.S.Source.faults l.source) (device g.K.Sink.told g.K.Sink.faults l.sink) in
    record {
      served : Going g.A.Answers l.number l.initial.hub l.hub first last l.requests;
      room : 0 < length l.buffer;
      few : length l.buffer ≤ most_read;
      service : g.A.Answers.service l.hub.answers ≡ g.A.Answers.service l.initial.hub.answers;
    }

abbrev pub decreases-pieces : goal.decreases-pieces
decreases-pieces g l = most_bytes - came_at l.number l.hub.seats
