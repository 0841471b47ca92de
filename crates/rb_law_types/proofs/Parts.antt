-- What it tells of the parts of a statement that it is typed.
use Rattle.std.proofs.Common.{◌≡◌, ◌⊎◌, inl, inr, refl, sym, ap, ◌∙◌, subst, ℕ, List, Bool as Truth, true, false, not, Ok, Err}
use Rattle.std.proofs.lemmas.Bool.{not-true}
use Rattle.rb_trees.specs.Outcome.{◌>>=◌, ◌>>◌, must}
use Rattle.rb_trees.specs.mirror.Code.{Expr, Stmt, Stmts, Val, Var, Assign, Run, Print, Throw, If, While, For, Try, Batch, MoreStmts, expr_at}
use Rattle.rb_meaning_types.specs.Kinds as kind
use Rattle.rb_meaning_types.specs.Kinds.{Kind, is_unit}
use Rattle.rb_meaning_types.specs.Violations.{Checked, Placed, UnknownName, NameTaken, NotAssignable, NotAllowedHere, wanted, wrong_type, with_place}
use Rattle.rb_meaning_types.specs.Declared.{Context, is_interface}
use Rattle.rb_meaning_types.specs.Scopes.{Scope, is_free, with_variable}
use Rattle.rb_meaning_types.specs.Expressions.{type_of}
use Rattle.rb_meaning_types.specs.Statements.{placed, condition, declare, is_assignable, is_printable, turn_kind, loop_scope, catch_scope, batch_scope, closed, check_stmt, check_stmts}
use Rattle.rb_law_types.proofs.Checks.{bind_ok, then_ok, must_ok, placed_ok, wanted_ok}

pub closed_ok : (scope : Scope) (r : Checked Scope) (after : Scope) → closed scope r ≡ Ok after → (inner : Scope) × (r ≡ Ok inner) × (scope ≡ after)
closed_ok scope (Ok inner) after h = (inner, refl, cc (h))
closed_ok scope (Err fault) after h = absurd (cc (h))

pub condition_typed : (x : Context) (scope : Scope) (c : Expr) → condition x scope c ≡ Ok tt → type_of x scope c ≡ Ok kind.Bool
condition_typed x scope c h =
    let s = placed_ok (expr_at c) (type_of x scope c) _ tt h in
    s.1 ∙ ap Ok (sym (wanted_ok kind.Bool (record { at = expr_at c; kind = s.0 }) s.2))

module _ (x : Context) (scope : Scope) where
  -- a new name, with its expression
  pub record Declares (name : List ℕ) (fixed : Truth) (e : Expr) (after : Scope) : Type 0 where
    pub kind : Kind
    pub typed : type_of x scope e ≡ Ok kind
    pub free : is_free scope name ≡ true
    pub no_unit : is_unit kind ≡ false
    pub same : with_variable scope name kind fixed ≡ after

  declared : (at : ℕ) (name : List ℕ) (fixed : Truth) (e : Expr) (after : Scope) → (placed x scope e >>= λ p. declare scope at name fixed p) ≡ Ok after → Declares name fixed e after
  declared at name fixed e after h =
      let s = placed_ok (expr_at e) (type_of x scope e) _ after h in
      let p : Placed = record { at = expr_at e; kind = s.0 } in
      let t = then_ok (must (is_free scope name) (NameTaken at) >> must (not (is_unit s.0)) (wrong_type p)) (Ok (with_variable scope name s.0 fixed)) after s.2 in
      let u = then_ok (must (is_free scope name) (NameTaken at)) (must (not (is_unit s.0)) (wrong_type p)) tt t.0 in
      record {
        kind = s.0;
        typed = s.1;
        free = must_ok (is_free scope name) (NameTaken at) u.0;
        no_unit = not-true (is_unit s.0) (must_ok (not (is_unit s.0)) (wrong_type p) u.1);
        same = cc (t.1);
      }

  pub val_parts : (at : ℕ) (name : List ℕ) (e : Expr) (after : Scope) → check_stmt x scope (Val at name e) ≡ Ok after → Declares name true e after
  val_parts at name e after h = declared at name true e after h

  pub var_parts : (at : ℕ) (name : List ℕ) (e : Expr) (after : Scope) → check_stmt x scope (Var at name e) ≡ Ok after → Declares name false e after
  var_parts at name e after h = declared at name false e after h

  -- an expression alone
  pub record Holds (e : Expr) (after : Scope) : Type 0 where
    pub kind : Kind
    pub typed : type_of x scope e ≡ Ok kind
    pub same : scope ≡ after

  pub run_parts : (at : ℕ) (e : Expr) (after : Scope) → check_stmt x scope (Run at e) ≡ Ok after → Holds e after
  run_parts at e after h = let s = placed_ok (expr_at e) (type_of x scope e) _ after h in record { kind = s.0; typed = s.1; same = cc (s.2) }

  pub throw_parts : (at : ℕ) (e : Expr) (after : Scope) → check_stmt x scope (Throw at e) ≡ Ok after → Holds e after
  throw_parts at e after h =
      let s = placed_ok (expr_at e) (type_of x scope e) _ after h in
      let t = then_ok (wanted kind.Text (record { at = expr_at e; kind = s.0 })) (Ok scope) after s.2 in
      record { kind = s.0; typed = s.1; same = cc (t.1) }

  pub record Prints (e : Expr) (after : Scope) : Type 0 where
    pub kind : Kind
    pub typed : type_of x scope e ≡ Ok kind
    pub printable : is_printable x.declared kind ≡ true
    pub same : scope ≡ after

  pub print_parts : (at : ℕ) (e : Expr) (after : Scope) → check_stmt x scope (Print at e) ≡ Ok after → Prints e after
  print_parts at e after h =
      let s = placed_ok (expr_at e) (type_of x scope e) _ after h in
      let p : Placed = record { at = expr_at e; kind = s.0 } in
      let t = then_ok (must (is_printable x.declared s.0) (wrong_type p) >> must (not x.declared.service) (NotAllowedHere at)) (Ok scope) after s.2 in
      let u = then_ok (must (is_printable x.declared s.0) (wrong_type p)) (must (not x.declared.service) (NotAllowedHere at)) tt t.0 in
      record { kind = s.0; typed = s.1; printable = must_ok (is_printable x.declared s.0) (wrong_type p) u.0; same = cc (t.1) }

  pub record Assigns (a b : Expr) (after : Scope) : Type 0 where
    pub left : Kind
    pub right : Kind
    pub left_typed : type_of x scope a ≡ Ok left
    pub right_typed : type_of x scope b ≡ Ok right
    pub assignable : is_assignable scope a ≡ true
    pub alike : left ≡ right
    pub same : scope ≡ after

  pub assign_parts : (at : ℕ) (a b : Expr) (after : Scope) → check_stmt x scope (Assign at a b) ≡ Ok after → Assigns a b after
  assign_parts at a b after h =
      let s = placed_ok (expr_at a) (type_of x scope a) _ after h in
      let t = placed_ok (expr_at b) (type_of x scope b) _ after s.2 in
      let p : Placed = record { at = expr_at b; kind = t.0 } in
      let u = then_ok (must (is_assignable scope a) (NotAssignable at) >> wanted s.0 p) (Ok scope) after t.2 in
      let w = then_ok (must (is_assignable scope a) (NotAssignable at)) (wanted s.0 p) tt u.0 in
      record { left = s.0; right = t.0; left_typed = s.1; right_typed = t.1; assignable = must_ok (is_assignable scope a) (NotAssignable at) w.0; alike = wanted_ok s.0 p w.1; same = cc (u.1) }

  pub record Branches (c : Expr) (a b : Stmts) (after : Scope) : Type 0 where
    pub typed : type_of x scope c ≡ Ok kind.Bool
    pub first : Scope
    pub second : Scope
    pub first_typed : check_stmts x scope a ≡ Ok first
    pub second_typed : check_stmts x scope b ≡ Ok second
    pub same : scope ≡ after

  pub if_parts : (at : ℕ) (c : Expr) (a b : Stmts) (after : Scope) → check_stmt x scope (If at c a b) ≡ Ok after → Branches c a b after
  if_parts at c a b after h =
      let t = bind_ok (condition x scope c >> closed scope (check_stmts x scope a)) _ after h in
      let u = then_ok (condition x scope c) (closed scope (check_stmts x scope a)) t.0 t.1 in
      let ca = closed_ok scope (check_stmts x scope a) t.0 u.1 in
      let cb = closed_ok scope (check_stmts x scope b) after t.2 in
      record { typed = condition_typed x scope c u.0; first = ca.0; second = cb.0; first_typed = ca.1; second_typed = cb.1; same = cb.2 }

  pub record Repeats (c : Expr) (a : Stmts) (after : Scope) : Type 0 where
    pub typed : type_of x scope c ≡ Ok kind.Bool
    pub last : Scope
    pub block_typed : check_stmts x scope a ≡ Ok last
    pub same : scope ≡ after

  pub while_parts : (at : ℕ) (c : Expr) (a : Stmts) (after : Scope) → check_stmt x scope (While at c a) ≡ Ok after → Repeats c a after
  while_parts at c a after h =
      let u = then_ok (condition x scope c) (closed scope (check_stmts x scope a)) after h in
      let ca = closed_ok scope (check_stmts x scope a) after u.1 in
      record { typed = condition_typed x scope c u.0; last = ca.0; block_typed = ca.1; same = ca.2 }

  -- a loop goes over a list or over rows
  turn_ok : (p : Placed) (k item : Kind) → turn_kind p k ≡ Ok item → (k ≡ kind.ListOf item) ⊎ (k ≡ kind.RowsOf item)
  turn_ok p (kind.ListOf item') item h = let same : item' ≡ item = cc (h) in inl (ap kind.ListOf same)
  turn_ok p (kind.RowsOf row) item h = let same : row ≡ item = cc (h) in inr (ap kind.RowsOf same)
  turn_ok p kind.Int item h = absurd (cc (h))
  turn_ok p _ item h = absurd (cc (h))

  pub record Loops (at : ℕ) (name : List ℕ) (e : Expr) (a : Stmts) (after : Scope) : Type 0 where
    pub list : Kind
    pub item : Kind
    pub typed : type_of x scope e ≡ Ok list
    pub over : (list ≡ kind.ListOf item) ⊎ (list ≡ kind.RowsOf item)
    pub free : is_free scope name ≡ true
    pub judged : (placed x scope e >>= λ p. loop_scope scope at name p) ≡ Ok (with_variable scope name item true)
    pub last : Scope
    pub block_typed : check_stmts x (with_variable scope name item true) a ≡ Ok last
    pub same : scope ≡ after

  pub for_parts : (at : ℕ) (name : List ℕ) (e : Expr) (a : Stmts) (after : Scope) → check_stmt x scope (For at name e a) ≡ Ok after → Loops at name e a after
  for_parts at name e a after h =
      let s = placed_ok (expr_at e) (type_of x scope e) _ after h in
      let p : Placed = record { at = expr_at e; kind = s.0 } in
      let t = bind_ok (loop_scope scope at name p) _ after s.2 in
      let u = bind_ok (must (is_free scope name) (NameTaken at) >> turn_kind p s.0) _ t.0 t.1 in
      let w = then_ok (must (is_free scope name) (NameTaken at)) (turn_kind p s.0) u.0 u.1 in
      let inner : with_variable scope name u.0 true ≡ t.0 = cc (u.2) in
      let ca = closed_ok scope (check_stmts x t.0 a) after t.2 in
      record {
        list = s.0;
        item = u.0;
        typed = s.1;
        over = turn_ok p s.0 u.0 w.1;
        free = must_ok (is_free scope name) (NameTaken at) w.0;
        judged = ap (λ r. with_place (expr_at e) r >>= λ q. loop_scope scope at name q) s.1 ∙ t.1 ∙ ap Ok (sym inner);
        last = ca.0;
        block_typed = subst (λ i. check_stmts x i a ≡ Ok ca.0) (sym inner) ca.1;
        same = ca.2;
      }

  pub record Tries (at : ℕ) (a : Stmts) (name : List ℕ) (b : Stmts) (after : Scope) : Type 0 where
    pub first : Scope
    pub first_typed : check_stmts x scope a ≡ Ok first
    pub free : is_free scope name ≡ true
    pub judged : catch_scope scope at name ≡ Ok (with_variable scope name kind.Text true)
    pub second : Scope
    pub second_typed : check_stmts x (with_variable scope name kind.Text true) b ≡ Ok second
    pub same : scope ≡ after

  pub try_parts : (at : ℕ) (a : Stmts) (name : List ℕ) (b : Stmts) (after : Scope) → check_stmt x scope (Try at a name b) ≡ Ok after → Tries at a name b after
  try_parts at a name b after h =
      let t = bind_ok (closed scope (check_stmts x scope a)) _ after h in
      let ca = closed_ok scope (check_stmts x scope a) t.0 t.1 in
      let u = bind_ok (catch_scope scope at name) _ after t.2 in
      let w = then_ok (must (is_free scope name) (NameTaken at)) (Ok (with_variable scope name kind.Text true)) u.0 u.1 in
      let inner : with_variable scope name kind.Text true ≡ u.0 = cc (w.1) in
      let cb = closed_ok scope (check_stmts x u.0 b) after u.2 in
      record {
        first = ca.0;
        first_typed = ca.1;
        free = must_ok (is_free scope name) (NameTaken at) w.0;
        judged = u.1 ∙ ap Ok (sym inner);
        second = cb.0;
        second_typed = subst (λ i. check_stmts x i b ≡ Ok cb.0) (sym inner) cb.1;
        same = cb.2;
      }

  pub record Begins (at : ℕ) (interface root : List ℕ) (a : Stmts) (after : Scope) : Type 0 where
    pub declared_as : is_interface x.declared interface ≡ true
    pub free : is_free scope root ≡ true
    pub remote : x.remote ≡ true
    pub judged : batch_scope x scope at interface root ≡ Ok (with_variable scope root (kind.Named interface) true)
    pub last : Scope
    pub block_typed : check_stmts x (with_variable scope root (kind.Named interface) true) a ≡ Ok last
    pub same : scope ≡ after

  pub batch_parts : (at : ℕ) (interface root : List ℕ) (a : Stmts) (after : Scope) → check_stmt x scope (Batch at interface root a) ≡ Ok after → Begins at interface root a after
  batch_parts at interface root a after h =
      let t = bind_ok (batch_scope x scope at interface root) _ after h in
      let u = then_ok (must (is_free scope root) (NameTaken at) >> must (is_interface x.declared interface) (UnknownName at) >> must x.remote (NotAllowedHere at)) (Ok (with_variable scope root (kind.Named interface) true)) t.0 t.1 in
      let w = then_ok (must (is_free scope root) (NameTaken at) >> must (is_interface x.declared interface) (UnknownName at)) (must x.remote (NotAllowedHere at)) tt u.0 in
      let y = then_ok (must (is_free scope root) (NameTaken at)) (must (is_interface x.declared interface) (UnknownName at)) tt w.0 in
      let inner : with_variable scope root (kind.Named interface) true ≡ t.0 = cc (u.1) in
      let ca = closed_ok scope (check_stmts x t.0 a) after t.2 in
      record {
        declared_as = must_ok (is_interface x.declared interface) (UnknownName at) y.1;
        free = must_ok (is_free scope root) (NameTaken at) y.0;
        remote = must_ok x.remote (NotAllowedHere at) w.1;
        judged = t.1 ∙ ap Ok (sym inner);
        last = ca.0;
        block_typed = subst (λ i. check_stmts x i a ≡ Ok ca.0) (sym inner) ca.1;
        same = ca.2;
      }

  pub record Goes (s : Stmt) (ss : Stmts) (after : Scope) : Type 0 where
    pub middle : Scope
    pub typed : check_stmt x scope s ≡ Ok middle
    pub rest : check_stmts x middle ss ≡ Ok after

  pub stmts_parts : (s : Stmt) (ss : Stmts) (after : Scope) → check_stmts x scope (MoreStmts s ss) ≡ Ok after → Goes s ss after
  stmts_parts s ss after h = let t = bind_ok (check_stmt x scope s) _ after h in record { middle = t.0; typed = t.1; rest = t.2 }
