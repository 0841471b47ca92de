-- Statements and bodies are typed whatever the positions are.
use Rattle.std.proofs.Common.{◌≡◌, ℕ, List, Bool, true, false, not, ◌&&◌, Option, Some, None, option_map, refl, sym, ap, subst, ◌∙◌}
use Rattle.rb_trees.specs.Outcome.{must}
use Rattle.rb_trees.specs.mirror.Types.{TypeTree}
use Rattle.rb_trees.specs.mirror.Code.{Expr, Lit, Name, This, Unary, Binary, Field, Call, Index, New, Items, Taken, Stmt, Stmts, Val, Var, Assign, Run, Print, Throw, If, While, For, Try, Batch, NoStmts, MoreStmts, expr_at}
use Rattle.rb_trees.specs.mirror.Declarations.{Body, Class}
use Rattle.rb_trees.specs.printing.Unplaced.{unplaced_type, unplaced_expr, unplaced_stmt, unplaced_stmts, unplaced_body}
use Rattle.rb_meaning_types.specs.Kinds as kind
use Rattle.rb_meaning_types.specs.Kinds.{Kind, kind_of, is_unit, same_kind}
use Rattle.rb_meaning_types.specs.Declared.{of_service}
use Rattle.rb_meaning_types.specs.Violations.{Checked, Placed, NameTaken, NotAssignable, NotAllowedHere, MissingReturn, wrong_type}
use Rattle.rb_meaning_types.specs.Scopes.{Scope, is_free, with_variable}
use Rattle.rb_meaning_types.specs.Statements.{placed, condition, declare, is_assignable, assign, is_printable, print, turn_kind, loop_scope, catch_scope, batch_scope, closed, check_stmt, check_stmts}
use Rattle.rb_meaning_types.specs.Bodies.{return_fits, check_return, check_body}
use Rattle.rb_law_tables.proofs.alike.Checks.{Alike, pass, fail, Same, SameKind, bind_alike, then_alike, must_alike, placed_alike, tested_alike, wanted_alike, by_kind}
use Rattle.rb_law_tables.proofs.alike.Names.{bare, kind_bare}
use Rattle.rb_law_tables.proofs.alike.Members.{Here, There}
use Rattle.rb_law_tables.proofs.alike.Exprs.{type_alike}

free_alike : (scope : Scope) (at here : ℕ) (name : List ℕ) → Alike Same (must (is_free scope name) (NameTaken at)) (must (is_free scope name) (NameTaken here))
free_alike scope at here name = must_alike (is_free scope name) (is_free scope name) (NameTaken at) (NameTaken here) refl

declare_alike : (scope : Scope) (at here : ℕ) (name : List ℕ) (fixed : Bool) (p q : Placed) → SameKind p q → Alike Same (declare scope at name fixed p) (declare scope here name fixed q)
declare_alike scope at here name fixed p q e =
    then_alike (then_alike (free_alike scope at here name) (tested_alike (λ k. not (is_unit k)) p q (wrong_type p) (wrong_type q) e)) (pass (ap (λ k. with_variable scope name k fixed) e))

assignable_too : (scope : Scope) (e : Expr) → is_assignable scope e ≡ is_assignable scope (unplaced_expr e)
assignable_too scope (Lit at value) = refl
assignable_too scope (Name at name) = refl
assignable_too scope (This at) = refl
assignable_too scope (Unary at op a) = refl
assignable_too scope (Binary at op a b) = refl
assignable_too scope (Field at a name) = refl
assignable_too scope (Call at a method args) = refl
assignable_too scope (Index at a b) = refl
assignable_too scope (New at class args) = refl
assignable_too scope (Items at item items) = refl
assignable_too scope (Taken at step) = refl

assign_alike : (scope : Scope) (at here : ℕ) (left : Expr) (p q r s : Placed) → SameKind p q → SameKind r s → Alike Same (assign scope at left p r) (assign scope here (unplaced_expr left) q s)
assign_alike scope at here left p q r s e f =
    then_alike (then_alike (must_alike (is_assignable scope left) (is_assignable scope (unplaced_expr left)) (NotAssignable at) (NotAssignable here) (assignable_too scope left)) (wanted_alike p.kind q.kind r s e f)) (pass refl)

turn_by : (p q : Placed) (k : Kind) → Alike Same (turn_kind p k) (turn_kind q k)
turn_by p q (kind.ListOf item) = pass refl
turn_by p q (kind.RowsOf row) = pass refl
turn_by p q kind.Int = fail
turn_by p q kind.Bool = fail
turn_by p q kind.Text = fail
turn_by p q kind.Unit = fail
turn_by p q (kind.Named name) = fail

loop_alike : (scope : Scope) (at here : ℕ) (name : List ℕ) (p q : Placed) → SameKind p q → Alike Same (loop_scope scope at name p) (loop_scope scope here name q)
loop_alike scope at here name p q e =
    bind_alike (then_alike (free_alike scope at here name) (by_kind Same (turn_kind p) (turn_kind q) p q e (turn_by p q))) (λ k l same. pass (ap (λ x. with_variable scope name x true) same))

catch_alike : (scope : Scope) (at here : ℕ) (name : List ℕ) → Alike Same (catch_scope scope at name) (catch_scope scope here name)
catch_alike scope at here name = then_alike (free_alike scope at here name) (pass refl)

closed_alike : (scope other : Scope) {a b : Checked Scope} → scope ≡ other → Alike Same a b → Alike Same (closed scope a) (closed other b)
closed_alike scope other e (pass h) = pass e
closed_alike scope other e fail = fail

return_fits_alike : (k l : Kind) (p q : Placed) → k ≡ l → SameKind p q → Alike Same (return_fits k p) (return_fits l q)
return_fits_alike k l p q e f =
    must_alike (not (is_unit k) && same_kind k p.kind) (not (is_unit l) && same_kind l q.kind) (wrong_type p) (wrong_type q) (ap (λ x. not (is_unit x) && same_kind x p.kind) e ∙ ap (λ x. not (is_unit l) && same_kind l x) f)

module _ (cs : List Class) where
  printable_too : (k : Kind) → is_printable (of_service cs) k ≡ is_printable (of_service (bare cs)) k
  printable_too kind.Int = refl
  printable_too kind.Bool = refl
  printable_too kind.Text = refl
  printable_too kind.Unit = refl
  printable_too (kind.Named name) = refl
  printable_too (kind.ListOf item) = refl
  printable_too (kind.RowsOf row) = refl

  print_alike : (scope : Scope) (at here : ℕ) (p q : Placed) → SameKind p q → Alike Same (print (of_service cs) scope at p) (print (of_service (bare cs)) scope here q)
  print_alike scope at here p q e =
      then_alike (then_alike
      (must_alike (is_printable (of_service cs) p.kind) (is_printable (of_service (bare cs)) q.kind) (wrong_type p) (wrong_type q) (printable_too p.kind ∙ ap (is_printable (of_service (bare cs))) e)) fail)
      (pass refl)

  module _ (class : List ℕ) (remote : Bool) where
    here_alike : (scope : Scope) (e : Expr) → Alike SameKind (placed (Here cs class remote) scope e) (placed (There cs class remote) scope (unplaced_expr e))
    here_alike scope e = placed_alike (expr_at e) (expr_at (unplaced_expr e)) (type_alike cs class remote scope e)

    condition_alike : (scope : Scope) (e : Expr) → Alike Same (condition (Here cs class remote) scope e) (condition (There cs class remote) scope (unplaced_expr e))
    condition_alike scope e = bind_alike (here_alike scope e) (λ p q same. wanted_alike kind.Bool kind.Bool p q refl same)

    batch_alike : (scope : Scope) (at here : ℕ) (interface root : List ℕ) → Alike Same (batch_scope (Here cs class remote) scope at interface root) (batch_scope (There cs class remote) scope here interface root)
    batch_alike scope at here interface root = then_alike (then_alike (then_alike (free_alike scope at here root) fail) (must_alike remote remote (NotAllowedHere at) (NotAllowedHere here) refl)) (pass refl)

    mutual
      stmt_alike : (scope : Scope) (s : Stmt) → Alike Same (check_stmt (Here cs class remote) scope s) (check_stmt (There cs class remote) scope (unplaced_stmt s))
      stmt_alike scope (Val at name e) = bind_alike (here_alike scope e) (λ p q same. declare_alike scope at 0 name true p q same)
      stmt_alike scope (Var at name e) = bind_alike (here_alike scope e) (λ p q same. declare_alike scope at 0 name false p q same)
      stmt_alike scope (Assign at a b) = bind_alike (here_alike scope a) (λ p q e. bind_alike (here_alike scope b) (λ r s f. assign_alike scope at 0 a p q r s e f))
      stmt_alike scope (Run at e) = bind_alike (here_alike scope e) (λ p q same. pass refl)
      stmt_alike scope (Print at e) = bind_alike (here_alike scope e) (λ p q same. print_alike scope at 0 p q same)
      stmt_alike scope (Throw at e) = bind_alike (here_alike scope e) (λ p q same. then_alike (wanted_alike kind.Text kind.Text p q refl same) (pass refl))
      stmt_alike scope (If at c a b) =
          bind_alike (then_alike (condition_alike scope c) (closed_alike scope scope refl (stmts_alike scope a))) (λ s t same. closed_alike scope scope refl (stmts_alike scope b))
      stmt_alike scope (While at c a) = then_alike (condition_alike scope c) (closed_alike scope scope refl (stmts_alike scope a))
      stmt_alike scope (For at name e a) =
          bind_alike (here_alike scope e) (λ p q e. bind_alike (loop_alike scope at 0 name p q e) (λ s t same. closed_alike scope scope refl
          (subst (λ u. Alike Same (check_stmts (Here cs class remote) s a) (check_stmts (There cs class remote) u (unplaced_stmts a))) same (stmts_alike s a))))
      stmt_alike scope (Try at a name b) =
          bind_alike (closed_alike scope scope refl (stmts_alike scope a)) (λ r o also. bind_alike (catch_alike scope at 0 name) (λ s t same. closed_alike scope scope refl
          (subst (λ u. Alike Same (check_stmts (Here cs class remote) s b) (check_stmts (There cs class remote) u (unplaced_stmts b))) same (stmts_alike s b))))
      stmt_alike scope (Batch at interface root a) =
          bind_alike (batch_alike scope at 0 interface root) (λ s t same. closed_alike scope scope refl
          (subst (λ u. Alike Same (check_stmts (Here cs class remote) s a) (check_stmts (There cs class remote) u (unplaced_stmts a))) same (stmts_alike s a)))

      stmts_alike : (scope : Scope) (ss : Stmts) → Alike Same (check_stmts (Here cs class remote) scope ss) (check_stmts (There cs class remote) scope (unplaced_stmts ss))
      stmts_alike scope NoStmts = pass refl
      stmts_alike scope (MoreStmts s ss) =
          bind_alike (stmt_alike scope s) (λ t u same. subst (λ v. Alike Same (check_stmts (Here cs class remote) t ss) (check_stmts (There cs class remote) v (unplaced_stmts ss))) same (stmts_alike t ss))

    return_alike : (scope : Scope) (at here : ℕ) (k l : Kind) → k ≡ l → (o : Option Expr) → Alike Same (check_return (Here cs class remote) scope at k o) (check_return (There cs class remote) scope here l (option_map unplaced_expr o))
    return_alike scope at here k l e (Some x) = bind_alike (here_alike scope x) (λ p q same. return_fits_alike k l p q e same)
    return_alike scope at here k l e None = must_alike (is_unit k) (is_unit l) (MissingReturn at) (MissingReturn here) (ap is_unit e)

    pub body_alike : (scope : Scope) (at here : ℕ) (result : TypeTree) (b : Body)
        → Alike Same (check_body (Here cs class remote) scope at result b) (check_body (There cs class remote) scope here (unplaced_type result) (unplaced_body b))
    body_alike scope at here result b =
        bind_alike (stmts_alike scope b.statements) (λ s t same.
        subst (λ u. Alike Same (check_return (Here cs class remote) s at (kind_of result) b.result) (check_return (There cs class remote) u here (kind_of (unplaced_type result)) (option_map unplaced_expr b.result))) same
        (return_alike s at here (kind_of result) (kind_of (unplaced_type result)) (sym (kind_bare result)) b.result))
