use Rattle.std.proofs.Common.{◌+◌, arith}
use Rattle.std.proofs.lemmas.Slice.{between_to_end}
use Rattle.rb_format.proofs.LinesRead.{at_feed}
use Rattle.rb_format.proofs.woven.first_line.Goals as goal

pub returns-in-Some : goal.returns-in-Some
returns-in-Some c =
    let first = c.in-Some.ensures in
    at_feed c.args.text.now _ c.in-Some.at (between_to_end c.args.text.now (c.in-Some.at + 1) _ (omega arith)) first.0.high (λ i l. first.0.before i (omega arith) l) first.1
