-- The reply is the one that comes out of the own piece.
use Rattle.rb_hub.proofs.Asked.{asked_so, answers_so}
use Rattle.rb_hub.proofs.asking.ask.Goals as goal

pub first_reply-requires : goal.first_reply-requires
first_reply-requires g c =
    let asked = asked_so g.A.Answers c.args.number c.args.request.now c.in_ok-frame.frame c.args.hub.now c.play_one.new.hub _ _ c.as_slice.result.now _ c.streams_are_read.ensures.streams
    c.streams_are_read.ensures.fronts c.requires.size c.requires.owns c.new-outs.ensures c.in_ok-frame.ensures c.in-Ok.ensures.plays c.as_slice.ensures in
    (asked.kind, asked.reply, asked.first)

pub returns-in-Ok-clause-answers : goal.returns-in-Ok-clause-answers
returns-in-Ok-clause-answers g c =
    let asked = asked_so g.A.Answers c.args.number c.args.request.now c.in_ok-frame.frame c.args.hub.now c.play_one.new.hub _ _ c.as_slice.result.now _ c.streams_are_read.ensures.streams
    c.streams_are_read.ensures.fronts c.requires.size c.requires.owns c.new-outs.ensures c.in_ok-frame.ensures c.in-Ok.ensures.plays c.as_slice.ensures in
    answers_so c.first_reply.result _ _ _ c.args.request.now asked.kind asked.reply asked.answers (c.first_reply.ensures asked.kind asked.reply asked.first)
