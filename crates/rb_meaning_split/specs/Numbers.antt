-- How the steps and the variables of a script are numbered: steps in reading order, one before those of its blocks, and
-- variables in order of declaration.
use Rattle.std.specs.Prelude.{ℕ, suc, []}
use Rattle.rb_trees.specs.mirror.Code.{Stmt, Stmts, Val, If, For, NoStmts, MoreStmts}
use Rattle.rb_meaning_flow.specs.declared.forms.PlacedForm.{PlacedForm}
use Rattle.rb_meaning_flow.specs.declared.scopes.Role.{Role}
use Rattle.rb_meaning_flow.specs.Facts.{Facts}
use Rattle.rb_meaning_flow.specs.Scopes.{Scope, with_variable}
use Rattle.rb_meaning_flow.specs.Forms.{placed_form}
use Rattle.rb_meaning_flow.specs.Sites.{scope_after}
use Rattle.rb_meaning.specs.RemoteExprs.{remote_of}
use Rattle.rb_meaning_split.specs.Cuts.{counted}

-- the number behind the steps that keep what a statement takes
abbrev pub kept_after : Facts → Scope → Stmt → ℕ → ℕ
kept_after x scope stmt n = counted (remote_of x scope stmt) n

-- the number of the step that follows those of a statement, by its form, and of a block
abbrev mutual
  pub step_after_as : Facts → PlacedForm → Scope → Stmt → ℕ → ℕ
  step_after_as x PlacedForm.CarriedVal scope (Val at name e) n = suc n
  step_after_as x PlacedForm.CarriedIf scope (If at c a b) n = steps_after x scope b (steps_after x scope a (suc n))
  step_after_as x PlacedForm.RowsLoop scope (For at name e a) n = steps_after x (with_variable scope name Role.Row at) a (suc n)
  step_after_as x PlacedForm.CarriedLoop scope (For at name e a) n = steps_after x (with_variable scope name Role.Row at) a (suc n)
  step_after_as x form scope stmt n = kept_after x scope stmt n

  pub steps_after : Facts → Scope → Stmts → ℕ → ℕ
  steps_after x scope NoStmts n = n
  steps_after x scope (MoreStmts s ss) n = steps_after x (scope_after x [] scope s) ss (step_after_as x (placed_form x scope s) scope s n)

-- the number of the step that follows those of a statement
abbrev pub step_after : Facts → Scope → Stmt → ℕ → ℕ
step_after x scope stmt n = step_after_as x (placed_form x scope stmt) scope stmt n

-- the number of the variable that follows those of a statement, by its form, and of a block
abbrev mutual
  pub var_after_as : Facts → PlacedForm → Scope → Stmt → ℕ → ℕ
  var_after_as x PlacedForm.CarriedVal scope (Val at name e) m = suc m
  var_after_as x PlacedForm.CarriedIf scope (If at c a b) m = vars_after x scope b (vars_after x scope a m)
  var_after_as x PlacedForm.RowsLoop scope (For at name e a) m = vars_after x (with_variable scope name Role.Row at) a (suc m)
  var_after_as x PlacedForm.CarriedLoop scope (For at name e a) m = vars_after x (with_variable scope name Role.Row at) a (suc m)
  var_after_as x form scope stmt m = m

  pub vars_after : Facts → Scope → Stmts → ℕ → ℕ
  vars_after x scope NoStmts m = m
  vars_after x scope (MoreStmts s ss) m = vars_after x (scope_after x [] scope s) ss (var_after_as x (placed_form x scope s) scope s m)

-- the number of the variable that follows those of a statement
abbrev pub var_after : Facts → Scope → Stmt → ℕ → ℕ
var_after x scope stmt m = var_after_as x (placed_form x scope stmt) scope stmt m
