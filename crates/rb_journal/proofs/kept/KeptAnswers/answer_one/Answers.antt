use Rattle.rb_journal.proofs.KeptSteps.{leaves_same, performed_replies, refused_replies}
use Rattle.rb_journal.proofs.kept.KeptAnswers.answer_one.Goals as goal

pub returns-in_err-request-clause-any_moment : goal.returns-in_err-request-clause-any_moment
returns-in_err-request-clause-any_moment g c = leaves_same g.D.Disk.told g.D.Disk.faults c.args.self.now.journal c.args.payload.now

pub returns-in_ok-keep_and_perform-in-Some-clause-replies :
    goal.returns-in_ok-keep_and_perform-in-Some-clause-replies
returns-in_ok-keep_and_perform-in-Some-clause-replies g c =
    performed_replies c.args.self.now.host c.keep_and_perform.new.self.host c.args.payload.now c.in_ok-request.request c.in-Some.ready
    c.args.reply.now.items c.read_request.new.reply.items c.keep_and_perform.new.reply.items
    c.in-Some.is c.in_ok-request.ensures.reads c.in_ok-keep_and_perform-in-Some.ensures.performs

pub returns-in-None-clause-replies : goal.returns-in-None-clause-replies
returns-in-None-clause-replies g c =
    refused_replies c.args.self.now.host c.args.payload.now c.in_ok-request.request _ _ c.in-None.is c.in_ok-request.ensures.reads

pub returns-in-None-clause-any_moment : goal.returns-in-None-clause-any_moment
returns-in-None-clause-any_moment g c = leaves_same g.D.Disk.told g.D.Disk.faults c.args.self.now.journal c.args.payload.now
