use Rattle.std.proofs.Common.{ap, ◌∙◌}
use Rattle.serde_json.specs.Written.{has_float}
use Rattle.rb_json.specs.Mirrors.{sent}
use Rattle.rb_json.proofs.Replied.{reply_plain}
use Rattle.rb_json.proofs.answers.json_answer.Goals as goal

pub append-requires : goal.append-requires
append-requires c = ap has_float c.in_ok-json.ensures.json ∙ reply_plain c.args.host.now (sent c.in_ok-script.script c.as_slice.result.now)
