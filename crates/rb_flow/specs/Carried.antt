-- The carried loops of a program's batches, as the walk through their script places notes them.
use Rattle.std.specs.Prelude.{◌≡◌, ℕ, List, [], ◌∷◌, ◌++◌, Bool, true, cond}
use Rattle.std.specs.BTreeMap.{is_at}
use Rattle.std.specs.BTreeSet.{BTreeSet, contains}
use Rattle.std.specs.Ordering.{nat_cmp}
use Rattle.rb_trees.specs.mirror.Code.{Expr, Stmt, Stmts, Val, Var, Assign, Run, Print, Throw, If, While, For, Try, Batch, NoStmts, MoreStmts}
use Rattle.rb_trees.specs.mirror.Declarations.{Program}
use Rattle.rb_meaning_flow.specs.declared.forms.PlacedForm.{PlacedForm}
use Rattle.rb_meaning_flow.specs.declared.scopes.Role.{Role}
use Rattle.rb_meaning_flow.specs.Facts.{Facts, over_rows}
use Rattle.rb_meaning_flow.specs.Scopes.{Scope, with_variable}
use Rattle.rb_meaning_flow.specs.Portable.{portable, branches_hold, may_carry, has_far_turns}
use Rattle.rb_meaning_flow.specs.Programs.{is_carried_at}
use Rattle.rb_flow.specs.Begun.{Begun}

-- the form of a loop
abbrev pub loop_form : Facts → Scope → Expr → Stmts → PlacedForm
loop_form x scope list block = cond (over_rows x list) PlacedForm.RowsLoop (cond (may_carry x scope list block) PlacedForm.CarriedLoop PlacedForm.Plain)

-- the loops so far, and one whose turns are the script's, where it is carried
abbrev pub loop_noted : Bool → List ℕ → ℕ → List ℕ
loop_noted rows loops at = cond rows loops (loops ++ at ∷ [])

-- the role of a `val` at a script place
abbrev pub val_role : Bool → Role
val_role portable = cond portable Role.Carried Role.Plain

-- the variables in scope after a statement at a script place
abbrev pub scope_noted : Facts → Scope → Stmt → Scope
scope_noted x scope (Val at name e) = with_variable scope name (val_role (portable x scope e)) at
scope_noted x scope (Var at name e) = with_variable scope name Role.Plain at
scope_noted x scope (Assign at a b) = scope
scope_noted x scope (Run at e) = scope
scope_noted x scope (Print at e) = scope
scope_noted x scope (Throw at e) = scope
scope_noted x scope (If at c a b) = scope
scope_noted x scope (While at c a) = scope
scope_noted x scope (For at name e a) = scope
scope_noted x scope (Try at a name b) = scope
scope_noted x scope (Batch at interface root a) = scope

-- the loops so far, and those that are carried in a statement at a script place
abbrev mutual
  pub stmt_noted : Facts → Scope → List ℕ → Stmt → List ℕ
  stmt_noted x scope loops (Val at name e) = loops
  stmt_noted x scope loops (Var at name e) = loops
  stmt_noted x scope loops (Assign at a b) = loops
  stmt_noted x scope loops (Run at e) = loops
  stmt_noted x scope loops (Print at e) = loops
  stmt_noted x scope loops (Throw at e) = loops
  stmt_noted x scope loops (If at c a b) = cond (branches_hold x a b) (block_noted x scope (block_noted x scope loops a) b) loops
  stmt_noted x scope loops (While at c a) = loops
  stmt_noted x scope loops (For at name e a) =
      cond (has_far_turns x scope e a) (block_noted x (with_variable scope name Role.Row at) (loop_noted (over_rows x e) loops at) a) loops
  stmt_noted x scope loops (Try at a name b) = loops
  stmt_noted x scope loops (Batch at interface root a) = loops

  pub block_noted : Facts → Scope → List ℕ → Stmts → List ℕ
  block_noted x scope loops NoStmts = loops
  block_noted x scope loops (MoreStmts s ss) = block_noted x (scope_noted x scope s) (stmt_noted x scope loops s) ss

-- in the block of a loop with this variable
abbrev pub turns_noted : Facts → Scope → List ℕ → ℕ → List ℕ → Stmts → List ℕ
turns_noted x scope name at loops block = block_noted x (with_variable scope name Role.Row at) loops block

-- in a batch, and in some batches
abbrev pub batch_noted : Facts → List ℕ → Begun → List ℕ
batch_noted x loops b = block_noted x b.scope loops b.block

abbrev pub batches_noted : Facts → List ℕ → List Begun → List ℕ
batches_noted x loops [] = loops
batches_noted x loops (b ∷ bs) = batches_noted x (batch_noted x loops b) bs

-- one more position, by what was in a set before and what is in it now
abbrev pub AddsPosition : ℕ → (ℕ → Bool) → (ℕ → Bool) → Type 0
AddsPosition at before now = (q : ℕ) → now q ≡ cond (is_at (nat_cmp at) q) true (before q)

-- The set has the positions of the program's carried loops.
abbrev pub AreCarriedLoopsOf : Program → BTreeSet ℕ → Type 0
AreCarriedLoopsOf p set = (at : ℕ) → contains nat_cmp set at ≡ is_carried_at p at
