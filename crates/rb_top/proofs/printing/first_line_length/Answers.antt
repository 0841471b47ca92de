use Rattle.std.proofs.Common.{arith, ap, length}
use Rattle.std.proofs.lemmas.List.Sums.{position_or_len_is}
use Rattle.rb_meaning.specs.Place.{is_line_feed}
use Rattle.rb_top.proofs.Printed.{line_all, line_to}
use Rattle.rb_top.proofs.printing.first_line_length.Goals as goal

pub returns-then-byte-eq10-clause-count : goal.returns-then-byte-eq10-clause-count
returns-then-byte-eq10-clause-count c =
    line_to c.args.text.now c.loop-count.count (omega arith) (position_or_len_is is_line_feed c.args.text.now c.loop-count.count 0 (omega arith) c.loop-count.invariant (λ h. ap is_line_feed c.if-byte-eq10.true))

pub returns-clause-count : goal.returns-clause-count
returns-clause-count c =
    line_all c.args.text.now
    (position_or_len_is is_line_feed c.args.text.now (length c.args.text.now) 0 (omega arith) (λ k h. c.loop-count.invariant k (omega arith)) (λ h. absurd (omega arith)))
