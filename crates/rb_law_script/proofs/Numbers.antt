-- The numbers of a script's variables grow.
use Rattle.std.proofs.Common.{◌≡◌, ◌≤◌, refl, arith, ℕ, suc, []}
use Rattle.rb_trees.specs.mirror.Code.{Stmt, Stmts, Val, If, For, NoStmts, MoreStmts}
use Rattle.rb_trees.specs.mirror.Declarations.{Program}
use Rattle.rb_meaning_flow.specs.declared.forms.PlacedForm.{PlacedForm}
use Rattle.rb_meaning_flow.specs.declared.scopes.Role.{Role}
use Rattle.rb_meaning_flow.specs.Facts.{Facts}
use Rattle.rb_meaning_flow.specs.Scopes.{Scope, with_variable}
use Rattle.rb_meaning_flow.specs.Forms.{placed_form}
use Rattle.rb_meaning_flow.specs.Sites.{scope_after}
use Rattle.rb_meaning_split.specs.Refs.{Refs}
use Rattle.rb_meaning_split.specs.Numbers.{var_after_as, var_after, vars_after}
use Rattle.rb_meaning_split.specs.Steps.{refs_after_as}

pub le_same : (a : ℕ) → a ≤ a
le_same a = omega arith

pub le_suc : (a : ℕ) → a ≤ suc a
le_suc a = omega arith

pub le_trans : (a b c : ℕ) → a ≤ b → b ≤ c → a ≤ c
le_trans a b c p q = omega (arith, p, q)

pub suc_le : (a b : ℕ) → suc a ≤ b → a ≤ b
suc_le a b h = omega (arith, h)

module _ (f : Facts) where
  mutual
    var_grows_as : (form : PlacedForm) (vs : Scope) (s : Stmt) (m : ℕ) → m ≤ var_after_as f form vs s m
    var_grows_as PlacedForm.CarriedVal vs (Val at name e) m = le_suc m
    var_grows_as PlacedForm.CarriedIf vs (If at c a b) m =
        le_trans m (vars_after f vs a m) (vars_after f vs b (vars_after f vs a m)) (vars_grow vs a m) (vars_grow vs b (vars_after f vs a m))
    var_grows_as PlacedForm.RowsLoop vs (For at name e a) m =
        let inner = with_variable vs name Role.Row at in
        suc_le m (vars_after f inner a (suc m)) (vars_grow inner a (suc m))
    var_grows_as PlacedForm.CarriedLoop vs (For at name e a) m =
        let inner = with_variable vs name Role.Row at in
        suc_le m (vars_after f inner a (suc m)) (vars_grow inner a (suc m))
    var_grows_as form vs s m = le_same m

    pub vars_grow : (vs : Scope) (ss : Stmts) (m : ℕ) → m ≤ vars_after f vs ss m
    vars_grow vs NoStmts m = le_same m
    vars_grow vs (MoreStmts s ss) m =
        let after = scope_after f [] vs s in
        le_trans m (var_after f vs s m) (vars_after f after ss (var_after f vs s m)) (var_grows_as (placed_form f vs s) vs s m) (vars_grow after ss (var_after f vs s m))

  pub var_grows : (vs : Scope) (s : Stmt) (m : ℕ) → m ≤ var_after f vs s m
  var_grows vs s m = var_grows_as (placed_form f vs s) vs s m

abbrev pub IsNoVal : Stmt → Type 0
IsNoVal (Val at name e) = ⊥
IsNoVal s = Unit {0}

-- what is no val gives the script no variable for what follows it
pub same_refs : (p : Program) (form : PlacedForm) (refs : Refs) (m : ℕ) (s : Stmt) → IsNoVal s → refs_after_as p form refs m s ≡ refs
same_refs p PlacedForm.CarriedVal refs m (Val at name e) unbound = absurd unbound
same_refs p form refs m s unbound = refl
