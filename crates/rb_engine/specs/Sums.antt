-- A name that gets the sum of its own value and another.
use Rattle.std.specs.Prelude.{◌≡◌, ℕ, List, Some, Result, Ok, slice_get, slice_set}
use Rattle.rb_trees.specs.Outcome.{known, ◌>>=◌}
use Rattle.rb_trees.specs.declared.values.Value.{Value, out-Value}
use Rattle.rb_trees.specs.declared.values.Fault.{Fault}
use Rattle.rb_trees.specs.declared.code.BinOp.TheVariants.{Add}
use Rattle.rb_trees.specs.declared.code.Expr as expr
use Rattle.rb_trees.specs.mirror.Code as code
use Rattle.rb_trees.specs.mirror.Code.{Expr, mirror_expr}
use Rattle.rb_meaning_code.specs.Faults.{kind}
use Rattle.rb_meaning_code.specs.Operators.{plus}
use Rattle.rb_meaning_code.specs.State.{Names}
use Rattle.rb_engine.specs.Places.{first_place}

-- The expression adds `end` to the value of the name, which stands first at the place.
pub record AddsTo (names : Names) (name : List ℕ) (e : expr.Expr) (place : ℕ) (end : Expr) : Type 0 where
  pub at : ℕ
  pub form : mirror_expr e ≡ code.Binary e.at Add (code.Name at name) end
  pub there : first_place names name ≡ Some place

-- the names where another value is added to the one at a place
abbrev pub sum_at : Names → ℕ → Value → Result Names Fault
sum_at names place w =
    known kind (slice_get names place) >>= λ named.
    plus (out-Value named.1) (out-Value w) >>= λ sum. Ok (slice_set names place (named.0, sum))
