-- What a plan is seen as: a program, and the divisions of its batches.
use Rattle.std.specs.Prelude.{List}
use Rattle.std.specs.Coded.{Coded, code_by, coded×, coded_list}
use mathlib.Core.Path.{refl}
use Rattle.rb_trees.specs.contracts.declarations.Program as program_code
use Rattle.rb_trees.specs.contracts.remainders.Split as split_code
use Rattle.rb_trees.specs.declared.declarations.Program as program
use Rattle.rb_trees.specs.declared.remainders.Split.{Split}

pub record Planned : Type 0 where
  pub program : program.Program
  pub splits : List Split

abbrev pub planned_code : Coded Planned
planned_code =
    code_by (program.Program × List Split) (coded× program_code.the_row.coded (coded_list split_code.the_row.coded)) (λ p. (p.program, p.splits))
    (λ p. record { program = p.0; splits = p.1 }) (λ _. refl)
