-- What was appended is the reply to the payload.
use Rattle.rb_session.proofs.Joined.{performed_replies, refused_replies}
use Rattle.rb_session.proofs.answers.answer.Goals as goal

pub returns-in_ok-perform-in-Some-clause-replies : goal.returns-in_ok-perform-in-Some-clause-replies
returns-in_ok-perform-in-Some-clause-replies c =
    performed_replies c.args.host.now c.perform.new.host c.args.payload.now c.in_ok-request.request c.in-Some.ready c.args.reply.now.items c.read_request.new.reply.items c.perform.new.reply.items
    c.in-Some.is c.in_ok-request.ensures.reads c.in_ok-perform-in-Some.ensures.performs

pub returns-in-None-clause-replies : goal.returns-in-None-clause-replies
returns-in-None-clause-replies c = refused_replies c.args.host.now c.args.payload.now c.in_ok-request.request _ _ c.in-None.is c.in_ok-request.ensures.reads
