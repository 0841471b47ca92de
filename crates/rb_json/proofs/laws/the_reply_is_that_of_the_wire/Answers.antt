use Rattle.rb_json.proofs.Replied.{replies_as_the_wire}
use Rattle.rb_json.proofs.laws.the_reply_is_that_of_the_wire.Goals as goal

pub returns : goal.returns
returns c = replies_as_the_wire c.script_payloads_mean_one_thing.ensures.alone
