use Rattle.std.proofs.Common.{arith}
use Rattle.rb_hub_lines.proofs.Found.{a_piece, no_bytes, no_number, no_space}
use Rattle.rb_hub_lines.proofs.finding.piece_of.Goals as goal

pub returns-in_default : goal.returns-in_default
returns-in_default c = no_space c.args.words.now c.in_default.ensures

pub returns-in_default-number_of : goal.returns-in_default-number_of
returns-in_default-number_of c = no_number c.args.words.now c.in-Some.number.now c.in-Some.digits.now c.in-Some.ensures c.in_default-number_of.ensures

pub returns-in-Some-2 : goal.returns-in-Some-2
returns-in-Some-2 c = a_piece c.args.words.now c.in-Some.number.now c.in-Some.digits.now c.in-Some-2.piece c.in-Some-number_of.number c.in-Some.ensures (omega arith) c.in-Some-number_of.ensures (rw c.in-Some-2.is at c.in_ok-piece.ensures)

pub returns-in-None : goal.returns-in-None
returns-in-None c = no_bytes c.args.words.now c.in-Some.number.now c.in-Some.digits.now c.in-Some.ensures (rw c.in-None.is at c.in_ok-piece.ensures)
