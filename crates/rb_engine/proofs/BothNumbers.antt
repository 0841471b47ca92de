-- Operators on two numbers, by whether both operands are numbers.
use Rattle.std.proofs.Common.{◌≡◌, ℤ, refl}
use Rattle.std.specs.Prelude.{Option, None, Some, Result, Err}
use Rattle.std.proofs.lemmas.Grind.{common_steps}
use Rattle.rb_trees.specs.declared.values.Value.{Value}
use Rattle.rb_trees.specs.declared.values.Value.TheOpen.{Value-F}
use Rattle.rb_trees.specs.declared.values.Fault.{Fault}
use Rattle.rb_meaning_code.specs.Faults.{kind}
use Rattle.rb_meaning_code.specs.Operators.{on_numbers}
use Rattle.rb_engine.specs.Numbers.{both_numbers}

abbrev by_numbers : (ℤ → ℤ → Result Value Fault) → Option (ℤ × ℤ) → Result Value Fault
by_numbers f None = Err kind
by_numbers f (Some p) = f p.0 p.1

pub numbers_decide : (f : ℤ → ℤ → Result Value Fault) (a b : Value-F Value) → on_numbers f a b ≡ by_numbers f (both_numbers a b)
numbers_decide f (Value-F.Int a) (Value-F.Int b) = refl
numbers_decide f (Value-F.Int a) Value-F.Unit = refl
numbers_decide f (Value-F.Int a) (Value-F.Bool b) = refl
numbers_decide f (Value-F.Int a) (Value-F.Text b) = refl
numbers_decide f (Value-F.Int a) (Value-F.List b) = refl
numbers_decide f (Value-F.Int a) (Value-F.Ref b) = refl
numbers_decide f (Value-F.Int a) (Value-F.Remote b) = refl
numbers_decide f (Value-F.Int a) (Value-F.Rows b) = refl
numbers_decide f Value-F.Unit b = refl
numbers_decide f (Value-F.Bool a) b = refl
numbers_decide f (Value-F.Text a) b = refl
numbers_decide f (Value-F.List a) b = refl
numbers_decide f (Value-F.Ref a) b = refl
numbers_decide f (Value-F.Remote a) b = refl
numbers_decide f (Value-F.Rows a) b = refl

pub ruleset number_steps = (numbers_decide, common_steps)
