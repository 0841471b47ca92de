-- What was served so far, and how it ends.
use Rattle.std.proofs.Common.{refl, ap, ◌∙◌, Ok, arith}
use Rattle.rb_base.specs.Devices.{device}
use Rattle.rb_hub.proofs.Pieces.{AllLaws, not_begun, is_last, source_ended, read_fault, was_read, still_going, has_ended, few_passed, smaller, may_leave, has_stopped, no_end}
use Rattle.rb_hub.proofs.serving.serve_pieces.Goals as goal

pub pieces-init : goal.pieces-init
pieces-init g c = record {
  served = not_begun g.A.Answers c.args.number c.args.hub.now _ c.streams_are_read.ensures.streams c.streams_are_read.ensures.fronts;
  room = c.requires.room;
  few = c.requires.few;
  service = refl;
}

pub close_last-requires : goal.close_last-requires
close_last-requires g c = is_last {X = g.row.A-Stop.Denot} g.A.Answers c.args.number c.args.hub.now c.pieces.hub _ _ c.pieces.requests c.requires.new c.pieces.invariant.served

pub close_last-end-requires : goal.close_last-end-requires
close_last-end-requires g c = is_last {X = g.row.A-Stop.Denot} g.A.Answers c.args.number c.args.hub.now c.pieces.hub _ _ c.pieces.requests c.requires.new c.pieces.invariant.served

pub returns-in-Err-clause-serves : goal.returns-in-Err-clause-serves
returns-in-Err-clause-serves g c =
    let laws : AllLaws = record {
      laws = record { stay = c.streams_are_read.ensures.stay; events = c.histories_go_on.ensures.events; histories = c.histories_go_on.ensures.histories; replies = c.histories_go_on.ensures.replies };
      once = c.each_stream_is_divided_once.ensures;
      streams = c.streams_are_read.ensures.streams;
      fronts = c.streams_are_read.ensures.fronts;
    } in
    rw c.stopped.ensures
    (read_fault {X = g.row.A-Stop.Denot} g.A.Answers c.args.number c.pieces.requests c.args.hub.now c.pieces.hub c.close_last.new.hub _
    (device g.S.Source.told g.S.Source.faults c.pieces.source) (device g.S.Source.told g.S.Source.faults c.read_most.new.source) (device g.K.Sink.told g.K.Sink.faults c.pieces.sink)
    c.close_last.result laws c.pieces.invariant.served c.close_last.ensures.closes c.in-Err.ensures.after)

pub returns-then-count-eq0-clause-serves : goal.returns-then-count-eq0-clause-serves
returns-then-count-eq0-clause-serves g c =
    let laws : AllLaws = record {
      laws = record { stay = c.streams_are_read.ensures.stay; events = c.histories_go_on.ensures.events; histories = c.histories_go_on.ensures.histories; replies = c.histories_go_on.ensures.replies };
      once = c.each_stream_is_divided_once.ensures;
      streams = c.streams_are_read.ensures.streams;
      fronts = c.streams_are_read.ensures.fronts;
    } in
    rw c.ended.ensures
    (source_ended {X = g.row.A-Stop.Denot} g.A.Answers c.args.number c.pieces.requests c.in-Ok.count c.read_most.new.buffer c.args.hub.now c.pieces.hub c.close_last-end.new.hub _
    (device g.S.Source.told g.S.Source.faults c.pieces.source) (device g.S.Source.told g.S.Source.faults c.read_most.new.source) (device g.K.Sink.told g.K.Sink.faults c.pieces.sink)
    c.close_last-end.result laws c.pieces.invariant.served c.close_last-end.ensures.closes c.if-count-eq0.true c.in-Ok.ensures.after
    (c.in-Ok.ensures.end (ap Ok c.if-count-eq0.true)) c.close_last-end.ensures.service)

pub overflow_add-requests : goal.overflow_add-requests
overflow_add-requests g c =
    let laws : AllLaws = record {
      laws = record { stay = c.streams_are_read.ensures.stay; events = c.histories_go_on.ensures.events; histories = c.histories_go_on.ensures.histories; replies = c.histories_go_on.ensures.replies };
      once = c.each_stream_is_divided_once.ensures;
      streams = c.streams_are_read.ensures.streams;
      fronts = c.streams_are_read.ensures.fronts;
    } in
    let few = few_passed {X = g.row.A-Stop.Denot} g.A.Answers c.args.number c.pieces.requests _ c.args.hub.now c.pieces.hub c.pass_on.new.hub _
    (device g.S.Source.told g.S.Source.faults c.pieces.source) (device g.S.Source.told g.S.Source.faults c.read_most.new.source) (device g.K.Sink.told g.K.Sink.faults c.pieces.sink)
    (device g.K.Sink.told g.K.Sink.faults c.pass_on.new.sink) c.in-Ok-pass_on.passed laws c.requires.new c.pieces.invariant.served c.in-Ok-pass_on.ensures.passes
    (was_read c.read_most.new.buffer c.in-Ok.count c.if-count-eq0.false c.in-Ok.ensures.within (omega (arith, c.pieces.invariant.few))) c.in-Ok-pass_on.ensures.bytes c.in-Ok.ensures.after c.in-Ok-pass_on.ensures.service in
    omega arith

pub returns-in-Some-clause-serves : goal.returns-in-Some-clause-serves
returns-in-Some-clause-serves g c =
    let laws : AllLaws = record {
      laws = record { stay = c.streams_are_read.ensures.stay; events = c.histories_go_on.ensures.events; histories = c.histories_go_on.ensures.histories; replies = c.histories_go_on.ensures.replies };
      once = c.each_stream_is_divided_once.ensures;
      streams = c.streams_are_read.ensures.streams;
      fronts = c.streams_are_read.ensures.fronts;
    } in
    rw c.ended-in-Some.ensures
    (has_ended {X = g.row.A-Stop.Denot} g.A.Answers c.args.number c.pieces.requests _ c.args.hub.now c.pieces.hub c.pass_on.new.hub _
    (device g.S.Source.told g.S.Source.faults c.pieces.source) (device g.S.Source.told g.S.Source.faults c.read_most.new.source) (device g.K.Sink.told g.K.Sink.faults c.pieces.sink)
    (device g.K.Sink.told g.K.Sink.faults c.pass_on.new.sink) c.in-Ok-pass_on.passed c.in-Some.end laws c.pieces.invariant.served c.in-Ok-pass_on.ensures.passes c.in-Some.is
    (was_read c.read_most.new.buffer c.in-Ok.count c.if-count-eq0.false c.in-Ok.ensures.within (omega (arith, c.pieces.invariant.few))) c.in-Ok-pass_on.ensures.bytes c.in-Ok.ensures.after c.in-Ok-pass_on.ensures.service)

pub pieces-smaller : goal.pieces-smaller
pieces-smaller g c =
    smaller {X = g.row.A-Stop.Denot} g.A.Answers c.args.number c.pieces.requests _ c.args.hub.now c.pieces.hub c.pass_on.new.hub _
    (device g.S.Source.told g.S.Source.faults c.pieces.source) (device g.K.Sink.told g.K.Sink.faults c.pieces.sink)
    (device g.K.Sink.told g.K.Sink.faults c.pass_on.new.sink) c.in-Ok-pass_on.passed c.requires.new c.pieces.invariant.served c.in-Ok-pass_on.ensures.passes
    (no_end c.in-Ok-pass_on.passed.end c.in_default.not-Some)
    (was_read c.read_most.new.buffer c.in-Ok.count c.if-count-eq0.false c.in-Ok.ensures.within (omega (arith, c.pieces.invariant.few)))

pub pieces-preserved : goal.pieces-preserved
pieces-preserved g c =
    let laws : AllLaws = record {
      laws = record { stay = c.streams_are_read.ensures.stay; events = c.histories_go_on.ensures.events; histories = c.histories_go_on.ensures.histories; replies = c.histories_go_on.ensures.replies };
      once = c.each_stream_is_divided_once.ensures;
      streams = c.streams_are_read.ensures.streams;
      fronts = c.streams_are_read.ensures.fronts;
    } in
    record {
      served = still_going {X = g.row.A-Stop.Denot} g.A.Answers c.args.number c.pieces.requests _ c.args.hub.now c.pieces.hub c.pass_on.new.hub _
          (device g.S.Source.told g.S.Source.faults c.pieces.source) (device g.S.Source.told g.S.Source.faults c.read_most.new.source) (device g.K.Sink.told g.K.Sink.faults c.pieces.sink)
          (device g.K.Sink.told g.K.Sink.faults c.pass_on.new.sink) c.in-Ok-pass_on.passed laws c.pieces.invariant.served c.in-Ok-pass_on.ensures.passes
          (no_end c.in-Ok-pass_on.passed.end c.in_default.not-Some)
          (was_read c.read_most.new.buffer c.in-Ok.count c.if-count-eq0.false c.in-Ok.ensures.within (omega (arith, c.pieces.invariant.few))) c.in-Ok-pass_on.ensures.bytes c.in-Ok.ensures.after c.in-Ok-pass_on.ensures.service;
      room = omega (arith, c.pieces.invariant.room);
      few = omega (arith, c.pieces.invariant.few);
      service = c.in-Ok-pass_on.ensures.service ∙ c.pieces.invariant.service;
    }

pub leave-requires : goal.leave-requires
leave-requires g c =
    let laws : AllLaws = record {
      laws = record { stay = c.streams_are_read.ensures.stay; events = c.histories_go_on.ensures.events; histories = c.histories_go_on.ensures.histories; replies = c.histories_go_on.ensures.replies };
      once = c.each_stream_is_divided_once.ensures;
      streams = c.streams_are_read.ensures.streams;
      fronts = c.streams_are_read.ensures.fronts;
    } in
    may_leave g.A.Answers c.args.number c.pieces.requests _ c.args.hub.now c.pieces.hub c.pass_on.new.hub _
    (device g.S.Source.told g.S.Source.faults c.pieces.source) (device g.S.Source.told g.S.Source.faults c.read_most.new.source) (device g.K.Sink.told g.K.Sink.faults c.pieces.sink)
    (device g.K.Sink.told g.K.Sink.faults c.pass_on.new.sink) c.in-Err-pass_on.stop laws c.requires.new c.pieces.invariant.served c.in-Err-pass_on.ensures.passes
    (was_read c.read_most.new.buffer c.in-Ok.count c.if-count-eq0.false c.in-Ok.ensures.within (omega (arith, c.pieces.invariant.few))) c.in-Err-pass_on.ensures.bytes c.in-Ok.ensures.after c.in-Err-pass_on.ensures.service

pub returns-in-Err-pass_on-clause-serves : goal.returns-in-Err-pass_on-clause-serves
returns-in-Err-pass_on-clause-serves g c =
    let laws : AllLaws = record {
      laws = record { stay = c.streams_are_read.ensures.stay; events = c.histories_go_on.ensures.events; histories = c.histories_go_on.ensures.histories; replies = c.histories_go_on.ensures.replies };
      once = c.each_stream_is_divided_once.ensures;
      streams = c.streams_are_read.ensures.streams;
      fronts = c.streams_are_read.ensures.fronts;
    } in
    rw c.leave.ensures.answer
    (has_stopped g.A.Answers c.args.number c.pieces.requests _ c.args.hub.now c.pieces.hub c.pass_on.new.hub c.leave.new.hub _
    (device g.S.Source.told g.S.Source.faults c.pieces.source) (device g.S.Source.told g.S.Source.faults c.read_most.new.source) (device g.K.Sink.told g.K.Sink.faults c.pieces.sink)
    (device g.K.Sink.told g.K.Sink.faults c.pass_on.new.sink) c.in-Err-pass_on.stop laws c.pieces.invariant.served c.in-Err-pass_on.ensures.passes c.leave.ensures.leaves
    (was_read c.read_most.new.buffer c.in-Ok.count c.if-count-eq0.false c.in-Ok.ensures.within (omega (arith, c.pieces.invariant.few))) c.in-Err-pass_on.ensures.bytes c.in-Ok.ensures.after
    c.in-Err-pass_on.ensures.service c.leave.ensures.service)
