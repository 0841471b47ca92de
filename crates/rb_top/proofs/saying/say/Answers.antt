use Rattle.rb_top.proofs.Ended.{ends_by}
use Rattle.rb_top.proofs.saying.say.Goals as goal

pub returns : goal.returns
returns g c = ends_by c.args.status c.args.text.now _ _ c.print_text-printed.result c.ended.result c.ended.ensures c.print_text-printed.ensures
