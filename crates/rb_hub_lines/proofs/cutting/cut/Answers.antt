use Rattle.std.proofs.Common.{◌+◌, arith}
use Rattle.std.proofs.lemmas.Slice.{between_to_end}
use Rattle.rb_hub_lines.proofs.Cut.{cut_so, cut_nowhere}
use Rattle.rb_hub_lines.proofs.cutting.cut.Goals as goal

pub returns-in-Some : goal.returns-in-Some
returns-in-Some c =
    let first = c.in-Some.ensures in
    cut_so c.args.byte c.args.text.now _ c.in-Some.at (between_to_end c.args.text.now (c.in-Some.at + 1) _ (omega arith)) first.0.high (λ i l. first.0.before i (omega arith) l) first.1

pub returns-in-None : goal.returns-in-None
returns-in-None c = cut_nowhere c.args.byte c.args.text.now (λ i l. c.in-None.ensures i (omega arith) l)
