use Rattle.rb_top.proofs.Ended.{ends_by}
use Rattle.rb_top.proofs.json_run.say_answer.Goals as goal

pub returns-in-Ok : goal.returns-in-Ok
returns-in-Ok g c = rw c.in-Ok.is (ends_by _ _ _ _ c.print_reply.result c.ended.result c.ended.ensures c.print_reply.ensures)
