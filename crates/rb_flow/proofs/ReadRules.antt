-- The equations that the reading of expressions and statements stands on.
use Rattle.std.proofs.Common.{◌≡◌, Bool, refl}
use Rattle.rb_trees.specs.mirror.Code.{Expr, Lit, Name, This, Unary, Binary, Field, Call, Index, New, Items, Taken}
use Rattle.rb_trees.proofs.mirror.Exprs.{exprs}
use Rattle.rb_trees.proofs.mirror.Stmts.{stmts}
use Rattle.rb_trees.proofs.mirror.Positions.{expr_at_tree}
use Rattle.rb_meaning_flow.specs.Facts.{Facts}
use Rattle.rb_meaning_flow.specs.Scopes.{Scope}
use Rattle.rb_flow.specs.declared.standing.Reading.{Reading}
use Rattle.rb_flow.specs.Readings.{itself_read, in_call_of, expr_read, parts_read}
use Rattle.rb_flow.proofs.Fronts.{take_front, kept_read, take_kept}
use Rattle.std.proofs.lemmas.Grind.{common_steps}

-- an expression reads itself, and then its parts
pub read_parts : (x : Facts) (scope : Scope) (called : Bool) (r : Reading) (e : Expr)
    → expr_read x scope called r e ≡ parts_read x scope (in_call_of x called e) (itself_read x scope called r e) e
read_parts x scope called r (Lit at value) = refl
read_parts x scope called r (Name at name) = refl
read_parts x scope called r (This at) = refl
read_parts x scope called r (Unary at op a) = refl
read_parts x scope called r (Binary at op a b) = refl
read_parts x scope called r (Field at a name) = refl
read_parts x scope called r (Call at a method args) = refl
read_parts x scope called r (Index at a b) = refl
read_parts x scope called r (New at class args) = refl
read_parts x scope called r (Items at item items) = refl
read_parts x scope called r (Taken at step) = refl

pub ruleset read_rules = (exprs, expr_at_tree, read_parts, common_steps)

pub ruleset read_stmt_rules = (stmts, take_front, kept_read, take_kept, common_steps)
