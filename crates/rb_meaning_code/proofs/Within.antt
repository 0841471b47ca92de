-- Runs of code are alike within two gases, whatever their tree: by induction on the gas.
use Rattle.std.proofs.Common.{ℕ, zero, suc, ◌+◌, arith, List}
use Rattle.std.specs.Prelude.{Option, Some, None}
use Rattle.rb_trees.specs.declared.values.Value.TheVariants as value
use Rattle.rb_trees.specs.mirror.Code.{Expr}
use Rattle.rb_trees.specs.mirror.Declarations.{Body, Class}
use Rattle.rb_meaning_code.specs.Faults.{fuel_used, raised}
use Rattle.rb_meaning_code.specs.State.{Local}
use Rattle.rb_meaning_code.specs.Bodies.{bodies_of, body_within, returns, runs}
use Rattle.rb_meaning_code.proofs.Alike.{Order, From, gave, fell, then}
use Rattle.rb_meaning_code.proofs.Values.{Reach, one, both, reach_on, reach_in, Gases, value_alike}
use Rattle.rb_meaning_code.proofs.Effects.{stmts_alike}

returns_alike : {Keeps : Local → Local → Type 0} {classes : List Class} {gas more : ℕ} → Gases Keeps classes gas more → (result : Option Expr) (l : Local) → Reach gas more l.fuel
    → From Keeps l (returns (bodies_of classes gas) result l) (returns (bodies_of classes more) result l)
returns_alike x None l r = gave x.order value.Unit l
returns_alike x (Some e) l r = value_alike x e l r

pub runs_alike : {Keeps : Local → Local → Type 0} {classes : List Class} {gas more : ℕ} → Gases Keeps classes gas more → (body : Body) (l : Local) → Reach gas more l.fuel
    → From Keeps l (runs (bodies_of classes gas) gas body l) (runs (bodies_of classes more) more body l)
runs_alike x body l r = then x.order (stmts_alike x body.statements l r) (λ u l1 k. returns_alike x body.result l1 (reach_on x.order k r))

body_alike : {Keeps : Local → Local → Type 0} → Order Keeps → (classes : List Class) (gas more at : ℕ) (body : Body) (l : Local) → Reach gas more (l.fuel + 1)
    → From Keeps l (body_within classes gas at body l) (body_within classes more at body l)
body_alike order classes zero zero at body l r = fell order (raised fuel_used at) l
body_alike order classes zero (suc more) at body l (one same) = absurd (cc (same))
body_alike order classes zero (suc more) at body l (both low le) = absurd (omega arith)
body_alike order classes (suc gas) zero at body l (one same) = absurd (cc (same))
body_alike order classes (suc gas) zero at body l (both le low) = absurd (omega arith)
body_alike order classes (suc gas) (suc more) at body l r =
    runs_alike (record { order = order; bodies = body_alike order classes gas more }) body l (reach_in gas more (l.fuel + 1) l.fuel (omega arith) r)

-- so for any two gases
pub within : {Keeps : Local → Local → Type 0} → Order Keeps → (classes : List Class) (gas more : ℕ) → Gases Keeps classes gas more
within order classes gas more = record { order = order; bodies = body_alike order classes gas more }
