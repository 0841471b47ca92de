use Rattle.rb_top.proofs.Ended.{starved_unread}
use Rattle.rb_top.proofs.saying.say_unread.Goals as goal

pub returns-in_default : goal.returns-in_default
returns-in_default g c = starved_unread c.args.stop c.args.name.now _
