use Rattle.std.proofs.lemmas.List.{take_rest}
use Rattle.rb_hub.proofs.asking.reply_of.Goals as goal

pub returns-clause-payload : goal.returns-clause-payload
returns-clause-payload c = rw (c.in_ok-extend_from_slice.ensures.ok, c.new-payload.ensures.items) (take_rest c.args.frame.now 11)
