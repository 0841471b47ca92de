-- The parts of a batch's remainder: what is left to the client, statement by statement.
use Rattle.std.specs.Prelude.{ℕ, suc, ◌-◌, List, [], ◌∷◌, cond}
use Rattle.rb_trees.specs.Named.{lookup}
use Rattle.rb_trees.specs.mirror.Code.{Expr, Name, expr_at, Stmt, Stmts, Val, Run, If, For, NoStmts, MoreStmts}
use Rattle.rb_trees.specs.mirror.Declarations.{Program}
use Rattle.rb_trees.specs.mirror.Remainders.{Part, Parts, Plain, Pass, Bind, Both, Branch, Turns, Over, NoParts, MoreParts}
use Rattle.rb_meaning_flow.specs.declared.forms.PlacedForm.{PlacedForm}
use Rattle.rb_meaning_flow.specs.declared.scopes.Role.{Role}
use Rattle.rb_meaning_flow.specs.Facts.{facts_of}
use Rattle.rb_meaning_flow.specs.Scopes.{Scope, with_variable}
use Rattle.rb_meaning_flow.specs.Portable.{holds_call}
use Rattle.rb_meaning_flow.specs.Forms.{placed_form}
use Rattle.rb_meaning_flow.specs.Sites.{scope_after}
use Rattle.rb_meaning_types.specs.CallKinds.{call_kind}
use Rattle.rb_meaning.specs.RemoteExprs.{remote_of}
use Rattle.rb_meaning_split.specs.Cuts.{cut_stmt}
use Rattle.rb_meaning_split.specs.Numbers.{step_after, steps_after, var_after, vars_after}
use Rattle.rb_meaning_split.specs.Refs.{Refs, with_var, input_number}
use Rattle.rb_meaning_split.specs.Steps.{refs_after}

module _ (p : Program) where
  -- the steps that a statement takes, numbered from n on, each with the kind of what it kept
  abbrev pub takes : ℕ → List Expr → List (ℕ × ℕ)
  takes n [] = []
  takes n (e ∷ es) = (n, call_kind p (expr_at e)) ∷ takes (suc n) es

  -- a statement without its remote expressions
  abbrev pub plain : Scope → ℕ → Stmt → Part
  plain scope n stmt = Plain (cut_stmt (facts_of p) scope n stmt) (takes n (remote_of (facts_of p) scope stmt))

  -- A carried val: what isn't primitive stays in the script; what holds a call is bound to what was kept; and what holds none
  -- is evaluated on both sides.
  abbrev pub carried : ℕ → ℕ → List ℕ → Expr → Part
  carried n at name e =
      cond ((facts_of p).primitive (expr_at e))
      (cond (holds_call (facts_of p) e) (Bind n name (call_kind p (expr_at e))) (Both n at name e))
      (Pass n)

  -- the kind of a row, by the kind of rows
  abbrev pub row_kind : Expr → ℕ
  row_kind e = call_kind p (expr_at e) - 4

  -- a carried loop: its list is the client's own, of this name, and an input of this number
  abbrev pub over : Refs → ℕ → ℕ → List ℕ → Expr → Parts → Part
  over refs n at name (Name place list) body = Over n at name list (input_number (lookup refs list)) body
  over refs n at name e body = Pass n

  abbrev mutual
    -- the part of a statement at a script place, by its form, whose first step has the number n, and where m is the number of the
    -- script's next variable
    pub part_as : PlacedForm → Refs → Scope → (n m : ℕ) → Stmt → Part
    part_as PlacedForm.CarriedVal refs scope n m (Val at name e) = carried n at name e
    part_as PlacedForm.CallAlone refs scope n m (Run at e) = Pass n
    part_as PlacedForm.CarriedIf refs scope n m (If at c a b) =
        Branch n (block_parts refs scope (suc n) m a)
        (block_parts refs scope (steps_after (facts_of p) scope a (suc n)) (vars_after (facts_of p) scope a m) b)
    part_as PlacedForm.RowsLoop refs scope n m (For at name e a) =
        Turns n name (row_kind e) (block_parts (with_var refs name m) (with_variable scope name Role.Row at) (suc n) (suc m) a)
    part_as PlacedForm.CarriedLoop refs scope n m (For at name e a) =
        over refs n at name e (block_parts (with_var refs name m) (with_variable scope name Role.Row at) (suc n) (suc m) a)
    part_as form refs scope n m stmt = plain scope n stmt

    -- the parts of a block
    pub block_parts : Refs → Scope → (n m : ℕ) → Stmts → Parts
    block_parts refs scope n m NoStmts = NoParts
    block_parts refs scope n m (MoreStmts s ss) =
        MoreParts (part_as (placed_form (facts_of p) scope s) refs scope n m s)
        (block_parts (refs_after p refs m scope s) (scope_after (facts_of p) [] scope s) (step_after (facts_of p) scope s n) (var_after (facts_of p) scope s m) ss)

  -- the part of a statement at a script place
  abbrev pub part : Refs → Scope → (n m : ℕ) → Stmt → Part
  part refs scope n m stmt = part_as (placed_form (facts_of p) scope stmt) refs scope n m stmt
