-- Operators on two operands by what they do to numbers and truth values.
use Rattle.std.specs.Prelude.{ℤ, Bool, ◌&&◌, ◌||◌, Option, None, Some, Result}
use Rattle.rb_trees.specs.declared.code.BinOp.{BinOp}
use Rattle.rb_trees.specs.declared.code.BinOp.TheVariants as binary
use Rattle.rb_trees.specs.declared.values.Value.{Value}
use Rattle.rb_trees.specs.declared.values.Value.TheOpen.{Value-F}
use Rattle.rb_trees.specs.declared.values.Fault.{Fault}
use Rattle.rb_meaning_code.specs.Operators.{on_two}

abbrev pub both_numbers : Value-F Value → Value-F Value → Option (ℤ × ℤ)
both_numbers (Value-F.Int a) (Value-F.Int b) = Some (a, b)
both_numbers _ _ = None

-- what an operator gives on two numbers
abbrev pub number_rule : BinOp → ℤ → ℤ → Result Value Fault
number_rule op m n = on_two op (Value-F.Int m) (Value-F.Int n)

abbrev pub truth_rule : BinOp → Bool → Bool → Bool
truth_rule binary.And a b = a && b
truth_rule _ a b = a || b
