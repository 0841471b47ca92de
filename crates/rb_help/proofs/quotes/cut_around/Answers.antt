use Rattle.std.proofs.Common.{arith, refl}
use Rattle.rb_help.proofs.Parts.{part_of_piece}
use Rattle.rb_help.proofs.quotes.cut_around.Goals as goal
use Rattle.rb_help.proofs.quotes.cut_around.Goals.{then-line-gt-LONGEST_WHOLE+then-line-at-gt-BESIDE, then-line-gt-LONGEST_WHOLE+else-line-at-gt-BESIDE, else-line-gt-LONGEST_WHOLE}

pub returns-clause-part : goal.returns-clause-part
returns-clause-part c = elim c.if-line-gt-LONGEST_WHOLE.branch [
  | then-line-gt-LONGEST_WHOLE+then-line-at-gt-BESIDE w ↦ part_of_piece c.args.line.now c.args.at _ _ _ (omega arith) (omega arith) (omega arith) (λ s. absurd (omega arith)) (λ l. omega arith) (λ l m. omega arith) refl refl refl
  | then-line-gt-LONGEST_WHOLE+else-line-at-gt-BESIDE w ↦ part_of_piece c.args.line.now c.args.at _ _ _ (omega arith) (omega arith) (omega arith) (λ s. absurd (omega arith)) (λ l. omega arith) (λ l m. omega arith) refl refl refl
  | else-line-gt-LONGEST_WHOLE w ↦ part_of_piece c.args.line.now c.args.at _ _ _ (omega arith) (omega arith) (omega arith) (λ s. (w.from-is, w.to-is)) (λ l. absurd (omega arith)) (λ l m. absurd (omega arith)) refl refl refl
]
