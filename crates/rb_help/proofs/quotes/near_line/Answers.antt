use Rattle.std.proofs.Common.{arith, ◌+◌}
use Rattle.rb_help.proofs.Nearby.{near_piece}
use Rattle.rb_help.proofs.quotes.near_line.Goals as goal

pub returns-clause-near : goal.returns-clause-near
returns-clause-near c =
    near_piece c.args.text.now c.args.at c.min-place.result c.saturating_sub-from.result (c.min-place.result + c.min.result) c.line_within.result.bytes.now c.line_within.result.offset (omega arith) (omega arith) (omega arith) (omega arith) (omega arith) (omega arith) c.line_within.ensures.line c.line_within.ensures.offset
