-- The rules on statements and the scope that is computed agree.
use Rattle.std.proofs.Common.{◌≡◌, ℕ, List, Bool as Truth, true, false, not, Ok, Err, refl, sym, subst}
use Rattle.rb_trees.specs.mirror.Code.{Expr, Stmt, Stmts, Val, Var, Assign, Run, Print, Throw, If, While, For, Try, Batch, NoStmts, MoreStmts, expr_at}
use Rattle.rb_meaning_types.specs.Kinds.{Kind, Int, Bool, Text, Unit as UnitKind, Named, ListOf, RowsOf, is_unit}
use Rattle.rb_meaning_types.specs.Declared.{Declarations, Context, is_interface}
use Rattle.rb_meaning_types.specs.Violations.{Violation, Checked, Placed, UnknownName, NameTaken, NotAssignable, NotAllowedHere, wanted, wrong_type}
use Rattle.rb_trees.specs.Outcome.{◌>>=◌, ◌>>◌, must}
use Rattle.rb_meaning_types.specs.Scopes.{Scope, is_free, with_variable}
use Rattle.rb_meaning_types.specs.Expressions.{type_of}
use Rattle.rb_meaning_types.specs.Statements.{condition, declare, is_assignable, assign, is_printable, print, loop_scope, catch_scope, batch_scope, closed, check_stmt, check_stmts}
use Rattle.rb_typing_rules.specs.Rules.{HasType, Leads, AllLead, val, var, assign as assigned, run, print as printed, throw, branch, loop, items_loop, rows_loop, guarded, batch, end, then}
use Rattle.rb_typing_rules.proofs.Steps.{bind_ok, then_ok, must_ok, placed_ok, same_refl, wanted_ok}
use Rattle.rb_typing_rules.proofs.Exprs.{placed_at, typed_has, has_typed}

pub not_so : (b : Truth) → not b ≡ true → b ≡ false
not_so true h = sym h
not_so false h = refl

pub closed_ok : (scope : Scope) (r : Checked Scope) (after : Scope) → closed scope r ≡ Ok after → (inner : Scope) × (r ≡ Ok inner) × (scope ≡ after)
closed_ok scope (Ok inner) after h = (inner, refl, cc)
closed_ok scope (Err e) after h = absurd (cc)

declare_ok : (scope : Scope) (at : ℕ) (name : List ℕ) (fixed : Truth) (p : Placed) (after : Scope) → declare scope at name fixed p ≡ Ok after
    → (is_free scope name ≡ true) × (is_unit p.kind ≡ false) × (with_variable scope name p.kind fixed ≡ after)
declare_ok scope at name fixed p after h =
    let s = then_ok (must (is_free scope name) (NameTaken at) >> must (not (is_unit p.kind)) (wrong_type p)) (Ok (with_variable scope name p.kind fixed)) after h in
    let t = then_ok (must (is_free scope name) (NameTaken at)) (must (not (is_unit p.kind)) (wrong_type p)) tt s.0 in
    (must_ok (is_free scope name) (NameTaken at) t.0, not_so (is_unit p.kind) (must_ok (not (is_unit p.kind)) (wrong_type p) t.1), let e = s.1 in cc)

assign_ok : (scope : Scope) (at : ℕ) (left : Expr) (p q : Placed) (after : Scope) → assign scope at left p q ≡ Ok after → (is_assignable scope left ≡ true) × (p.kind ≡ q.kind) × (scope ≡ after)
assign_ok scope at left p q after h =
    let s = then_ok (must (is_assignable scope left) (NotAssignable at) >> wanted p.kind q) (Ok scope) after h in
    let t = then_ok (must (is_assignable scope left) (NotAssignable at)) (wanted p.kind q) tt s.0 in
    (must_ok (is_assignable scope left) (NotAssignable at) t.0, wanted_ok p.kind q t.1, let e = s.1 in cc)

print_ok : (d : Declarations) (scope : Scope) (at : ℕ) (p : Placed) (after : Scope) → print d scope at p ≡ Ok after
    → (is_printable d p.kind ≡ true) × (d.service ≡ false) × (scope ≡ after)
print_ok d scope at p after h =
    let s = then_ok (must (is_printable d p.kind) (wrong_type p) >> must (not d.service) (NotAllowedHere at)) (Ok scope) after h in
    let t = then_ok (must (is_printable d p.kind) (wrong_type p)) (must (not d.service) (NotAllowedHere at)) tt s.0 in
    (must_ok (is_printable d p.kind) (wrong_type p) t.0, not_so d.service (must_ok (not d.service) (NotAllowedHere at) t.1), let e = s.1 in cc)

catch_ok : (scope : Scope) (at : ℕ) (name : List ℕ) (inner : Scope) → catch_scope scope at name ≡ Ok inner → (is_free scope name ≡ true) × (with_variable scope name Text true ≡ inner)
catch_ok scope at name inner h =
    let s = then_ok (must (is_free scope name) (NameTaken at)) (Ok (with_variable scope name Text true)) inner h in
    (must_ok (is_free scope name) (NameTaken at) s.0, let e = s.1 in cc)

batch_ok : (x : Context) (scope : Scope) (at : ℕ) (interface root : List ℕ) (inner : Scope) → batch_scope x scope at interface root ≡ Ok inner
    → (is_free scope root ≡ true) × (is_interface x.declared interface ≡ true) × (x.remote ≡ true) × (with_variable scope root (Named interface) true ≡ inner)
batch_ok x scope at interface root inner h =
    let s = then_ok (must (is_free scope root) (NameTaken at) >> must (is_interface x.declared interface) (UnknownName at) >> must x.remote (NotAllowedHere at)) (Ok (with_variable scope root (Named interface) true)) inner h in
    let t = then_ok (must (is_free scope root) (NameTaken at) >> must (is_interface x.declared interface) (UnknownName at)) (must x.remote (NotAllowedHere at)) tt s.0 in
    let u = then_ok (must (is_free scope root) (NameTaken at)) (must (is_interface x.declared interface) (UnknownName at)) tt t.0 in
    (must_ok (is_free scope root) (NameTaken at) u.0, must_ok (is_interface x.declared interface) (UnknownName at) u.1, must_ok x.remote (NotAllowedHere at) t.1, let e = s.1 in cc)

pub batch_so : (x : Context) (scope : Scope) (at : ℕ) (interface root : List ℕ) → is_free scope root ≡ true → is_interface x.declared interface ≡ true → x.remote ≡ true
    → batch_scope x scope at interface root ≡ Ok (with_variable scope root (Named interface) true)
batch_so x scope at interface root free found may = rw free (rw found (rw may refl))

condition_ok : (x : Context) (scope : Scope) (e : Expr) → condition x scope e ≡ Ok tt → HasType x scope e Bool
condition_ok x scope e h =
    let s = placed_ok (expr_at e) (type_of x scope e) (λ p. wanted Bool p) tt h in
    subst (HasType x scope e) (sym (wanted_ok Bool (placed_at (expr_at e) s.0) s.2)) (typed_has x scope e s.0 s.1)

for_shape : (r : Checked (Unit {0})) (item : Kind) (scope : Scope) (name : List ℕ) (inner : Scope) → (r >> Ok item >>= λ k. Ok (with_variable scope name k true)) ≡ Ok inner
    → (r >> Ok (with_variable scope name item true)) ≡ Ok inner
for_shape (Ok u) item scope name inner h = h
for_shape (Err e) item scope name inner h = absurd (cc)

none_turns : (b : Truth) (taken wrong : Violation) (f : Kind → Checked Scope) (inner : Scope) → ((must b taken >> Err wrong) >>= f) ≡ Ok inner → ⊥
none_turns true taken wrong f inner h = cc
none_turns false taken wrong f inner h = cc

-- a loop, by the type of what it goes over
for_leads : (x : Context) (scope : Scope) (at : ℕ) (name : List ℕ) (e : Expr) (a : Stmts) (list : Kind) (inner last : Scope)
    → HasType x scope e list → loop_scope scope at name (placed_at (expr_at e) list) ≡ Ok inner → AllLead x inner a last → Leads x scope (For at name e a) scope
for_leads x scope at name e a (ListOf item) inner last typed h lead =
    let s = then_ok (must (is_free scope name) (NameTaken at)) (Ok (with_variable scope name item true)) inner (for_shape (must (is_free scope name) (NameTaken at)) item scope name inner h) in
    let same : with_variable scope name item true ≡ inner = (let f = s.1 in cc) in
    items_loop scope last at name e a item typed (must_ok (is_free scope name) (NameTaken at) s.0) (subst (λ i. AllLead x i a last) (sym same) lead)
for_leads x scope at name e a (RowsOf row) inner last typed h lead =
    let s = then_ok (must (is_free scope name) (NameTaken at)) (Ok (with_variable scope name row true)) inner (for_shape (must (is_free scope name) (NameTaken at)) row scope name inner h) in
    let same : with_variable scope name row true ≡ inner = (let f = s.1 in cc) in
    rows_loop scope last at name e a row typed (must_ok (is_free scope name) (NameTaken at) s.0) (subst (λ i. AllLead x i a last) (sym same) lead)
for_leads x scope at name e a Int inner last typed h lead = absurd (none_turns (is_free scope name) (NameTaken at) (wrong_type (placed_at (expr_at e) Int)) _ inner h)
for_leads x scope at name e a Bool inner last typed h lead = absurd (none_turns (is_free scope name) (NameTaken at) (wrong_type (placed_at (expr_at e) Bool)) _ inner h)
for_leads x scope at name e a Text inner last typed h lead = absurd (none_turns (is_free scope name) (NameTaken at) (wrong_type (placed_at (expr_at e) Text)) _ inner h)
for_leads x scope at name e a UnitKind inner last typed h lead = absurd (none_turns (is_free scope name) (NameTaken at) (wrong_type (placed_at (expr_at e) UnitKind)) _ inner h)
for_leads x scope at name e a (Named other) inner last typed h lead = absurd (none_turns (is_free scope name) (NameTaken at) (wrong_type (placed_at (expr_at e) (Named other))) _ inner h)

mutual
  pub typed_leads : (x : Context) (scope : Scope) (s : Stmt) (after : Scope) → check_stmt x scope s ≡ Ok after → Leads x scope s after
  typed_leads x scope (Val at name e) after h =
      let s = placed_ok (expr_at e) (type_of x scope e) (λ p. declare scope at name true p) after h in
      let t = declare_ok scope at name true (placed_at (expr_at e) s.0) after s.2 in
      subst (Leads x scope (Val at name e)) t.2 (val scope at name e s.0 (typed_has x scope e s.0 s.1) t.0 t.1)
  typed_leads x scope (Var at name e) after h =
      let s = placed_ok (expr_at e) (type_of x scope e) (λ p. declare scope at name false p) after h in
      let t = declare_ok scope at name false (placed_at (expr_at e) s.0) after s.2 in
      subst (Leads x scope (Var at name e)) t.2 (var scope at name e s.0 (typed_has x scope e s.0 s.1) t.0 t.1)
  typed_leads x scope (Assign at a b) after h =
      let s = placed_ok (expr_at a) (type_of x scope a) _ after h in
      let t = placed_ok (expr_at b) (type_of x scope b) _ after s.2 in
      let u = assign_ok scope at a (placed_at (expr_at a) s.0) (placed_at (expr_at b) t.0) after t.2 in
      subst (Leads x scope (Assign at a b)) u.2 (assigned scope at a b s.0 (typed_has x scope a s.0 s.1) (subst (HasType x scope b) (sym u.1) (typed_has x scope b t.0 t.1)) u.0)
  typed_leads x scope (Run at e) after h =
      let s = placed_ok (expr_at e) (type_of x scope e) (λ p. Ok scope) after h in
      let same : scope ≡ after = (let f = s.2 in cc) in
      subst (Leads x scope (Run at e)) same (run scope at e s.0 (typed_has x scope e s.0 s.1))
  typed_leads x scope (Print at e) after h =
      let s = placed_ok (expr_at e) (type_of x scope e) _ after h in
      let t = print_ok x.declared scope at (placed_at (expr_at e) s.0) after s.2 in
      subst (Leads x scope (Print at e)) t.2 (printed scope at e s.0 (typed_has x scope e s.0 s.1) t.0 t.1)
  typed_leads x scope (Throw at e) after h =
      let s = placed_ok (expr_at e) (type_of x scope e) _ after h in
      let t = then_ok (wanted Text (placed_at (expr_at e) s.0)) (Ok scope) after s.2 in
      let same : scope ≡ after = (let f = t.1 in cc) in
      subst (Leads x scope (Throw at e)) same (throw scope at e (subst (HasType x scope e) (sym (wanted_ok Text (placed_at (expr_at e) s.0) t.0)) (typed_has x scope e s.0 s.1)))
  typed_leads x scope (If at c a b) after h =
      let s = bind_ok (condition x scope c >> closed scope (check_stmts x scope a)) (λ s. closed scope (check_stmts x scope b)) after h in
      let t = then_ok (condition x scope c) (closed scope (check_stmts x scope a)) s.0 s.1 in
      let u = closed_ok scope (check_stmts x scope a) s.0 t.1 in
      let v = closed_ok scope (check_stmts x scope b) after s.2 in
      subst (Leads x scope (If at c a b)) v.2 (branch scope u.0 v.0 at c a b (condition_ok x scope c t.0) (all_lead x scope a u.0 u.1) (all_lead x scope b v.0 v.1))
  typed_leads x scope (While at c a) after h =
      let t = then_ok (condition x scope c) (closed scope (check_stmts x scope a)) after h in
      let u = closed_ok scope (check_stmts x scope a) after t.1 in
      subst (Leads x scope (While at c a)) u.2 (loop scope u.0 at c a (condition_ok x scope c t.0) (all_lead x scope a u.0 u.1))
  typed_leads x scope (For at name e a) after h =
      let s = placed_ok (expr_at e) (type_of x scope e) _ after h in
      let t = bind_ok (loop_scope scope at name (placed_at (expr_at e) s.0)) (λ inner. closed scope (check_stmts x inner a)) after s.2 in
      let u = closed_ok scope (check_stmts x t.0 a) after t.2 in
      subst (Leads x scope (For at name e a)) u.2 (for_leads x scope at name e a s.0 t.0 u.0 (typed_has x scope e s.0 s.1) t.1 (all_lead x t.0 a u.0 u.1))
  typed_leads x scope (Try at a name b) after h =
      let s = bind_ok (closed scope (check_stmts x scope a)) (λ s. catch_scope scope at name >>= λ inner. closed scope (check_stmts x inner b)) after h in
      let t = closed_ok scope (check_stmts x scope a) s.0 s.1 in
      let u = bind_ok (catch_scope scope at name) (λ inner. closed scope (check_stmts x inner b)) after s.2 in
      let v = catch_ok scope at name u.0 u.1 in
      let w = closed_ok scope (check_stmts x u.0 b) after u.2 in
      subst (Leads x scope (Try at a name b)) w.2
      (guarded scope t.0 w.0 at a name b (all_lead x scope a t.0 t.1) v.0 (subst (λ i. AllLead x i b w.0) (sym v.1) (all_lead x u.0 b w.0 w.1)))
  typed_leads x scope (Batch at interface root a) after h =
      let u = bind_ok (batch_scope x scope at interface root) (λ inner. closed scope (check_stmts x inner a)) after h in
      let v = batch_ok x scope at interface root u.0 u.1 in
      let w = closed_ok scope (check_stmts x u.0 a) after u.2 in
      subst (Leads x scope (Batch at interface root a)) w.2
      (batch scope w.0 at interface root a v.0 v.1 v.2 (subst (λ i. AllLead x i a w.0) (sym v.3) (all_lead x u.0 a w.0 w.1)))

  pub all_lead : (x : Context) (scope : Scope) (ss : Stmts) (after : Scope) → check_stmts x scope ss ≡ Ok after → AllLead x scope ss after
  all_lead x scope NoStmts after h = let same : scope ≡ after = cc in subst (AllLead x scope NoStmts) same (end scope)
  all_lead x scope (MoreStmts s ss) after h =
      let t = bind_ok (check_stmt x scope s) (λ middle. check_stmts x middle ss) after h in
      then scope t.0 after s ss (typed_leads x scope s t.0 t.1) (all_lead x t.0 ss after t.2)

mutual
  pub leads_typed : (x : Context) (scope : Scope) (s : Stmt) (after : Scope) → Leads x scope s after → check_stmt x scope s ≡ Ok after
  leads_typed x _ _ _ (val scope at name e kind typed free some) = rw (has_typed x scope e kind typed) (rw free (rw some refl))
  leads_typed x _ _ _ (var scope at name e kind typed free some) = rw (has_typed x scope e kind typed) (rw free (rw some refl))
  leads_typed x _ _ _ (assigned scope at a b kind first second may) = rw (has_typed x scope a kind first) (rw (has_typed x scope b kind second) (rw may (rw (same_refl kind) refl)))
  leads_typed x _ _ _ (run scope at e kind typed) = rw (has_typed x scope e kind typed) refl
  leads_typed x _ _ _ (printed scope at e kind typed may local) = rw (has_typed x scope e kind typed) (rw may (rw local refl))
  leads_typed x _ _ _ (throw scope at e typed) = rw (has_typed x scope e Text typed) refl
  leads_typed x _ _ _ (branch scope after other at c a b typed first second) =
      rw (has_typed x scope c Bool typed) (rw (lead_all x scope a after first) (rw (lead_all x scope b other second) refl))
  leads_typed x _ _ _ (loop scope after at c a typed block) = rw (has_typed x scope c Bool typed) (rw (lead_all x scope a after block) refl)
  leads_typed x _ _ _ (items_loop scope after at name e a kind typed free block) =
      rw (has_typed x scope e (ListOf kind) typed) (rw free (rw (lead_all x (with_variable scope name kind true) a after block) refl))
  leads_typed x _ _ _ (rows_loop scope after at name e a kind typed free block) =
      rw (has_typed x scope e (RowsOf kind) typed) (rw free (rw (lead_all x (with_variable scope name kind true) a after block) refl))
  leads_typed x _ _ _ (guarded scope after other at a name b first free second) =
      rw (lead_all x scope a after first) (rw free (rw (lead_all x (with_variable scope name Text true) b other second) refl))
  leads_typed x _ _ _ (batch scope after at interface root a free found remote block) =
      rw (batch_so x scope at interface root free found remote) (rw (lead_all x (with_variable scope root (Named interface) true) a after block) refl)

  pub lead_all : (x : Context) (scope : Scope) (ss : Stmts) (after : Scope) → AllLead x scope ss after → check_stmts x scope ss ≡ Ok after
  lead_all x _ _ _ (end scope) = refl
  lead_all x _ _ _ (then scope middle after s ss first rest) = rw (leads_typed x scope s middle first) (lead_all x middle ss after rest)
