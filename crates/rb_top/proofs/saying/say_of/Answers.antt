use Rattle.std.proofs.Common.{◌++◌}
use Rattle.rb_meaning.specs.Shown.{line}
use Rattle.rb_top.proofs.Ended.{starved_at_once}
use Rattle.rb_top.proofs.saying.say_of.Goals as goal

pub returns-in-Err : goal.returns-in-Err
returns-in-Err g c = starved_at_once c.args.status (line (c.args.what.now ++ c.args.name.now)) _
