-- The inputs of a batch: the constant variables in remote expressions and in carried vals, and the lists of carried loops, in order
-- of first use.
use Rattle.std.specs.Prelude.{ℕ, suc, List, [], ◌∷◌, ◌++◌, cond}
use Rattle.std.specs.List.{flat_map}
use Rattle.rb_trees.specs.mirror.Code.{Expr, Exprs, Name, Unary, Binary, Call, NoExprs, MoreExprs, Stmt, Stmts, Val, If, For, NoStmts, MoreStmts}
use Rattle.rb_meaning_types.specs.Names.{is_new}
use Rattle.rb_meaning_flow.specs.declared.forms.PlacedForm.{PlacedForm}
use Rattle.rb_meaning_flow.specs.declared.scopes.Role.{Role}
use Rattle.rb_meaning_flow.specs.Facts.{Facts}
use Rattle.rb_meaning_flow.specs.Scopes.{Scope, with_variable, role_of, is_constant_role, is_list_role}
use Rattle.rb_meaning_flow.specs.Forms.{placed_form}
use Rattle.rb_meaning_flow.specs.Sites.{scope_after}
use Rattle.rb_meaning.specs.RemoteExprs.{remote_of}
use Rattle.rb_meaning.specs.ConstantLists.{name_of}

-- the constant variables in a portable expression, in order, each as often as it stands there
abbrev mutual
  pub constants : Scope → Expr → List (List ℕ)
  constants scope (Name at name) = cond (is_constant_role (role_of scope name)) (name ∷ []) []
  constants scope (Unary at op a) = constants scope a
  constants scope (Binary at op a b) = constants scope a ++ constants scope b
  constants scope (Call at a method args) = constants scope a ++ all_constants scope args
  constants scope _ = []

  pub all_constants : Scope → Exprs → List (List ℕ)
  all_constants scope NoExprs = []
  all_constants scope (MoreExprs e es) = constants scope e ++ all_constants scope es

-- those in the remote expressions of a statement
abbrev pub kept_constants : Facts → Scope → Stmt → List (List ℕ)
kept_constants x scope stmt = flat_map (constants scope) (remote_of x scope stmt)

-- those that a statement at a script place, by its form, and those in its blocks, give to the script
abbrev mutual
  pub used_as : Facts → PlacedForm → Scope → Stmt → List (List ℕ)
  used_as x PlacedForm.CarriedVal scope (Val at name e) = constants scope e
  used_as x PlacedForm.CarriedIf scope (If at c a b) = constants scope c ++ used_in x scope a ++ used_in x scope b
  used_as x PlacedForm.RowsLoop scope (For at name e a) = constants scope e ++ used_in x (with_variable scope name Role.Row at) a
  used_as x PlacedForm.CarriedLoop scope (For at name e a) = name_of e ++ used_in x (with_variable scope name Role.Row at) a
  used_as x form scope stmt = kept_constants x scope stmt

  pub used_in : Facts → Scope → Stmts → List (List ℕ)
  used_in x scope NoStmts = []
  used_in x scope (MoreStmts s ss) = used_as x (placed_form x scope s) scope s ++ used_in x (scope_after x [] scope s) ss

-- those of a statement at a script place
abbrev pub used : Facts → Scope → Stmt → List (List ℕ)
used x scope stmt = used_as x (placed_form x scope stmt) scope stmt

-- names without those of a list, and each once
abbrev pub first_uses : List (List ℕ) → List (List ℕ) → List (List ℕ)
first_uses before [] = []
first_uses before (name ∷ names) = cond (is_new name before) (name ∷ first_uses (name ∷ before) names) (first_uses before names)

-- the numbers of the inputs that are lists, in order, from n on
abbrev pub list_numbers : Scope → ℕ → List (List ℕ) → List ℕ
list_numbers scope n [] = []
list_numbers scope n (input ∷ inputs) =
    cond (is_list_role (role_of scope input)) (n ∷ list_numbers scope (suc n) inputs) (list_numbers scope (suc n) inputs)
