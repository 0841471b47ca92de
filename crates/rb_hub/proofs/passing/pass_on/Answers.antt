-- A piece was played, and its replies were written, or a front of them.
use Rattle.rb_base.specs.Devices.{device}
use Rattle.rb_hub.proofs.Passed.{passed_on, stopped_on, wanted_on}
use Rattle.rb_hub.proofs.passing.pass_on.Goals as goal

pub returns-in-Ok-play_one-clause-passes : goal.returns-in-Ok-play_one-clause-passes
returns-in-Ok-play_one-clause-passes g c past stream is s =
    passed_on g.A.Answers c.args.number past stream c.in-Ok.piece c.args.piece.now c.args.hub.now c.play_one.new.hub _ _ _ c.in-Ok-play_one.field-0 _ _ c.deliver.result
    c.new-outs.ensures c.in-Ok.ensures c.in-Ok-play_one.ensures.plays c.as_slice.ensures c.deliver.ensures is s

pub returns-in-Err-Answers-clause-passes : goal.returns-in-Err-Answers-clause-passes
returns-in-Err-Answers-clause-passes g c past stream is s =
    let said = rw (c.in-Err-Answers.field-0-is, ← c.in-Err-Answers.stop-is) at c.in-Err-Answers.ensures in
    stopped_on g.A.Answers c.args.number past stream c.in-Ok.piece c.args.piece.now c.args.hub.now c.play_one.new.hub _ _ c.in-Err-Answers.stop
    (device g.K.Sink.told g.K.Sink.faults c.args.sink.now) c.in-Ok.ensures said.over said.plays is s

pub returns-in-Err-Memory-clause-passes : goal.returns-in-Err-Memory-clause-passes
returns-in-Err-Memory-clause-passes g c past stream is s =
    let said = rw c.in-Err-Memory.field-0-is at c.in-Err-Memory.ensures in
    wanted_on g.A.Answers c.args.number past stream c.in-Ok.piece c.args.piece.now c.args.hub.now c.play_one.new.hub _ _
    (device g.K.Sink.told g.K.Sink.faults c.args.sink.now) c.in-Ok.ensures said.over said.plays is s
