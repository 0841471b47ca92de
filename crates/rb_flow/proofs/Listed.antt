-- The refusals that are found are exactly those of the table that look at one statement or expression alone.
use Rattle.std.proofs.Common.{◌≡◌, ℕ, suc, ◌≤◌, ◌⊎◌, inl, inr, List, [], ◌∷◌, ◌++◌, Bool, not, ◌&&◌, IsTrue, Option, Some, None, refl, sym, ap, subst, arith}
use Rattle.std.specs.List.{Contains, flat_map}
use Rattle.std.proofs.lemmas.List.Elements.{Contains-append_left, Contains-append_right, Contains-append_cases}
use Rattle.rb_trees.specs.declared.refusals.Refusal.{Refusal}
use Rattle.rb_trees.specs.declared.refusals.Refusal.TheVariants.{Flow, NotConstant, UnderLocalCondition, Escapes, BatchInside, InTry, RemoteVar, TooManyInputs, ScriptTooLarge}
use Rattle.rb_trees.specs.mirror.Code.{expr_at, stmt_at}
use Rattle.rb_meaning_flow.specs.Sites.{Around, StmtSite, ExprSite, own, all_sites, exprs_of}
use Rattle.rb_meaning_flow.specs.Facts.{Facts}
use Rattle.rb_meaning_flow.specs.Flow.{is_call}
use Rattle.rb_meaning_flow.specs.Refusals.{number, has_remote_type, expr_conditions, stmt_conditions, any_try, StandsFirst, is_rows_loop, is_batch, is_remote_var, calls_remote_method, may_be_remote, IsOperationAt, IsRefusal}
use Rattle.rb_flow.specs.Found.{innermost, standing_in, inside_of, where_so, under_found, operation_found, stmt_found, expr_found, site_found, all_found}
use Rattle.rb_flow.proofs.Members.{none_contained, first_contained, contained_cases, given_by, gives_all, cond_contained, contained_cond, cond_list, list_cond}

-- an expression of some statements is one of the expressions of one of them
pub record OwnOf (ss : List StmtSite) (e : ExprSite) : Type 0 where
  pub stmt : StmtSite
  pub is : Contains ss stmt
  pub has : Contains (all_sites stmt (own stmt.stmt)) e

pub own_of : (ss : List StmtSite) (e : ExprSite) → Contains (exprs_of ss) e → OwnOf ss e
own_of [] e h = absurd (none_contained e h)
own_of (s ∷ ss) e h = elim (Contains-append_cases (all_sites s (own s.stmt)) (exprs_of ss) e h) [
  | inl a ↦ record { stmt = s; is = first_contained s ss; has = a }
  | inr b ↦ let more = own_of ss e b in record { stmt = more.stmt; is = (suc more.is.0, omega (arith, more.is.1), more.is.2); has = more.has }
]

pub owned : (ss : List StmtSite) (s : StmtSite) (e : ExprSite) → Contains ss s → Contains (all_sites s (own s.stmt)) e → Contains (exprs_of ss) e
owned [] s e h g = absurd (none_contained s h)
owned (t ∷ ss) s e h g = elim (contained_cases t ss s h) [
  | inl q ↦ Contains-append_left (all_sites t (own t.stmt)) (exprs_of ss) e (subst (λ v. Contains (all_sites v (own v.stmt)) e) (sym q) g)
  | inr m ↦ Contains-append_right (all_sites t (own t.stmt)) (exprs_of ss) e (owned ss s e m g)
]

-- what is found comes of a statement, or of an expression
pub record FoundAt (x : Facts) (ss : List StmtSite) (r : Refusal) : Type 0 where
  pub is : ((s : StmtSite) × Contains ss s × Contains (stmt_found x s) r) ⊎ ((e : ExprSite) × Contains (exprs_of ss) e × Contains (expr_found x e) r)

found_at : (x : Facts) (ss : List StmtSite) (r : Refusal) → Contains (all_found x ss) r → FoundAt x ss r
found_at x ss r h =
    let g = given_by (site_found x) ss r h in
    elim (Contains-append_cases (stmt_found x g.by) (flat_map (expr_found x) (all_sites g.by (own g.by.stmt))) r g.gives) [
      | inl a ↦ record { is = inl (g.by, g.is, a) }
      | inr b ↦ let e = given_by (expr_found x) (all_sites g.by (own g.by.stmt)) r b in record { is = inr (e.by, owned ss g.by e.by g.is e.is, e.gives) }
    ]

of_stmt : (x : Facts) (ss : List StmtSite) (s : StmtSite) (r : Refusal) → Contains ss s → Contains (stmt_found x s) r → Contains (all_found x ss) r
of_stmt x ss s r h g = gives_all (site_found x) ss s r h (Contains-append_left (stmt_found x s) (flat_map (expr_found x) (all_sites s (own s.stmt))) r g)

of_expr : (x : Facts) (ss : List StmtSite) (e : ExprSite) (r : Refusal) → Contains (exprs_of ss) e → Contains (expr_found x e) r → Contains (all_found x ss) r
of_expr x ss e r h g =
    let o = own_of ss e h in
    gives_all (site_found x) ss o.stmt r o.is
    (Contains-append_right (stmt_found x o.stmt) (flat_map (expr_found x) (all_sites o.stmt (own o.stmt.stmt))) r (gives_all (expr_found x) (all_sites o.stmt (own o.stmt.stmt)) e r o.has g))

-- the innermost condition stands first
stands : (conditions : List ℕ) (p : ℕ) → innermost conditions ≡ Some p → StandsFirst p conditions
stands [] p e = absurd (let wrong : None ≡ Some p = e in cc)
stands (q ∷ qs) p e = (let same : Some q ≡ Some p = e in cc)

first_stands : (conditions : List ℕ) (p : ℕ) → StandsFirst p conditions → innermost conditions ≡ Some p
first_stands [] p h = absurd h
first_stands (q ∷ qs) p h = ap Some h

-- a refusal of a remote operation
OfOperation : List ℕ → Bool → ℕ → Refusal → Type 0
OfOperation conditions tried at r = ((p : ℕ) × StandsFirst p conditions × (UnderLocalCondition p at ≡ r)) ⊎ (IsTrue tried × (InTry at ≡ r))

under_is : (conditions : List ℕ) (found : Option ℕ) (at : ℕ) (r : Refusal) → innermost conditions ≡ found → Contains (under_found found at) r → (p : ℕ) × StandsFirst p conditions × (UnderLocalCondition p at ≡ r)
under_is conditions None at r e h = absurd (none_contained r h)
under_is conditions (Some p) at r e h = elim (contained_cases (UnderLocalCondition p at) [] r h) [ inl s ↦ (p, stands conditions p e, s) | inr n ↦ absurd (none_contained r n) ]

operation_is : (is : Bool) (conditions : List ℕ) (tried : Bool) (at : ℕ) (r : Refusal) → Contains (operation_found is (innermost conditions) tried at) r → IsTrue is × OfOperation conditions tried at r
unfolding OfOperation
operation_is is conditions tried at r h =
    let both = cond_list is (under_found (innermost conditions) at ++ where_so tried (InTry at)) r h in (
      both.0,
      elim (Contains-append_cases (under_found (innermost conditions) at) (where_so tried (InTry at)) r both.1) [
        | inl a ↦ inl (under_is conditions (innermost conditions) at r refl a)
        | inr b ↦ inr (cond_contained tried (InTry at) r b)
      ],
    )

is_under : (is : Bool) (conditions : List ℕ) (tried : Bool) (at p : ℕ) → IsTrue is → StandsFirst p conditions → Contains (operation_found is (innermost conditions) tried at) (UnderLocalCondition p at)
is_under is conditions tried at p t h =
    let listed : Contains (under_found (innermost conditions) at) (UnderLocalCondition p at) =
    subst (λ o. Contains (under_found o at) (UnderLocalCondition p at)) (sym (first_stands conditions p h)) (first_contained (UnderLocalCondition p at) []) in
    list_cond is _ _ t (Contains-append_left (under_found (innermost conditions) at) (where_so tried (InTry at)) (UnderLocalCondition p at) listed)

is_in_try : (is : Bool) (conditions : List ℕ) (tried : Bool) (at : ℕ) → IsTrue is → IsTrue tried → Contains (operation_found is (innermost conditions) tried at) (InTry at)
is_in_try is conditions tried at t h =
    list_cond is _ _ t (Contains-append_right (under_found (innermost conditions) at) (where_so tried (InTry at)) (InTry at) (contained_cond tried (InTry at) h))

-- the parts of what is found at a statement, and at an expression
three_cases : (as' bs cs : List Refusal) (r : Refusal) → Contains (as' ++ bs ++ cs) r → Contains as' r ⊎ (Contains bs r ⊎ Contains cs r)
three_cases as' bs cs r h = elim (Contains-append_cases (as' ++ bs) cs r h) [
  | inl m ↦ elim (Contains-append_cases as' bs r m) [ inl a ↦ inl a | inr b ↦ inr (inl b) ]
  | inr c ↦ inr (inr c)
]

first_of_three : (as' bs cs : List Refusal) (r : Refusal) → Contains as' r → Contains (as' ++ bs ++ cs) r
first_of_three as' bs cs r h = Contains-append_left (as' ++ bs) cs r (Contains-append_left as' bs r h)

second_of_three : (as' bs cs : List Refusal) (r : Refusal) → Contains bs r → Contains (as' ++ bs ++ cs) r
second_of_three as' bs cs r h = Contains-append_left (as' ++ bs) cs r (Contains-append_right as' bs r h)

third_of_three : (as' bs cs : List Refusal) (r : Refusal) → Contains cs r → Contains (as' ++ bs ++ cs) r
third_of_three as' bs cs r h = Contains-append_right (as' ++ bs) cs r h

stmt_is : (x : Facts) (ss : List StmtSite) (s : StmtSite) (r : Refusal) → Contains ss s → Contains (stmt_found x s) r → IsRefusal x ss r
unfolding OfOperation
stmt_is x ss s r h g = elim (three_cases _ _ _ r g) [
  | inl a ↦
      let o = operation_is (is_rows_loop x s.stmt) (stmt_conditions x s) (any_try s.around) (stmt_at s.stmt) r a in
      let op : IsOperationAt x ss (stmt_at s.stmt) (stmt_conditions x s) s.around = inr (s, h, o.0, refl, refl, refl) in
      elim o.1 [
        | inl u ↦ subst (IsRefusal x ss) u.2 (stmt_conditions x s, s.around, op, u.1)
        | inr t ↦ subst (IsRefusal x ss) t.1 (stmt_conditions x s, s.around, op, t.0)
      ]
  | inr m ↦ elim m [
    | inl b ↦ let c = cond_contained _ _ r b in subst (IsRefusal x ss) c.1 (inl (s, h, refl, c.0))
    | inr b ↦ let c = cond_contained _ _ r b in subst (IsRefusal x ss) c.1 (s, h, refl, c.0)
  ]
]

expr_is : (x : Facts) (ss : List StmtSite) (e : ExprSite) (r : Refusal) → Contains (exprs_of ss) e → Contains (expr_found x e) r → IsRefusal x ss r
unfolding OfOperation
expr_is x ss e r h g = elim (three_cases _ _ _ r g) [
  | inl a ↦
      let o = operation_is (is_call x e.expr) (expr_conditions x e) (any_try e.stands.around) (expr_at e.expr) r a in
      let op : IsOperationAt x ss (expr_at e.expr) (expr_conditions x e) e.stands.around = inl (e, h, o.0, refl, refl, refl) in
      elim o.1 [
        | inl u ↦ subst (IsRefusal x ss) u.2 (expr_conditions x e, e.stands.around, op, u.1)
        | inr t ↦ subst (IsRefusal x ss) t.1 (expr_conditions x e, e.stands.around, op, t.0)
      ]
  | inr m ↦ elim m [
    | inl b ↦ let c = cond_contained _ _ r b in subst (IsRefusal x ss) c.1 (e, h, refl, c.0)
    | inr b ↦ let c = cond_contained _ _ r b in subst (IsRefusal x ss) c.1 (inr (e, h, refl, c.0))
  ]
]

-- what is found is a refusal of the table
pub found_is_refusal : (x : Facts) (ss : List StmtSite) (r : Refusal) → Contains (all_found x ss) r → IsRefusal x ss r
found_is_refusal x ss r h = elim (found_at x ss r h).is [
  | inl a ↦ stmt_is x ss a.0 r a.1 a.2
  | inr b ↦ expr_is x ss b.0 r b.1 b.2
]

operation_listed : (x : Facts) (ss : List StmtSite) (at p : ℕ) (conditions : List ℕ) (around : List Around) → IsOperationAt x ss at conditions around → StandsFirst p conditions → Contains (all_found x ss) (UnderLocalCondition p at)
operation_listed x ss at p conditions around o h = elim o [
  | inl a ↦
      let e : ExprSite = a.0 in
      let under = is_under (is_call x e.expr) (expr_conditions x e) (any_try e.stands.around) (expr_at e.expr) p a.2 (subst (StandsFirst p) (sym a.4) h) in
      subst (λ n. Contains (all_found x ss) (UnderLocalCondition p n)) a.3 (of_expr x ss e _ a.1 (first_of_three _ _ _ _ under))
  | inr b ↦
      let s : StmtSite = b.0 in
      let under = is_under (is_rows_loop x s.stmt) (stmt_conditions x s) (any_try s.around) (stmt_at s.stmt) p b.2 (subst (StandsFirst p) (sym b.4) h) in
      subst (λ n. Contains (all_found x ss) (UnderLocalCondition p n)) b.3 (of_stmt x ss s _ b.1 (first_of_three _ _ _ _ under))
]

try_listed : (x : Facts) (ss : List StmtSite) (at : ℕ) (conditions : List ℕ) (around : List Around) → IsOperationAt x ss at conditions around → IsTrue (any_try around) → Contains (all_found x ss) (InTry at)
try_listed x ss at conditions around o h = elim o [
  | inl a ↦
      let e : ExprSite = a.0 in
      let tried = is_in_try (is_call x e.expr) (expr_conditions x e) (any_try e.stands.around) (expr_at e.expr) a.2 (subst (λ v. IsTrue (any_try v)) (sym a.5) h) in
      subst (λ n. Contains (all_found x ss) (InTry n)) a.3 (of_expr x ss e _ a.1 (first_of_three _ _ _ _ tried))
  | inr b ↦
      let s : StmtSite = b.0 in
      let tried = is_in_try (is_rows_loop x s.stmt) (stmt_conditions x s) (any_try s.around) (stmt_at s.stmt) b.2 (subst (λ v. IsTrue (any_try v)) (sym b.5) h) in
      subst (λ n. Contains (all_found x ss) (InTry n)) b.3 (of_stmt x ss s _ b.1 (first_of_three _ _ _ _ tried))
]

escape_listed : (x : Facts) (ss : List StmtSite) (e : ExprSite) → Contains (exprs_of ss) e → IsTrue (has_remote_type x e.expr && not (may_be_remote x e.stands e.above)) → Contains (all_found x ss) (Escapes (expr_at e.expr))
escape_listed x ss e h t = of_expr x ss e _ h (second_of_three _ _ _ _ (contained_cond _ _ t))

call_listed : (x : Facts) (ss : List StmtSite) (e : ExprSite) → Contains (exprs_of ss) e → IsTrue (calls_remote_method x e.expr) → Contains (all_found x ss) (BatchInside (expr_at e.expr))
call_listed x ss e h t =
    let inside = inside_of x e in
    of_expr x ss e _ h (third_of_three (operation_found (is_call x e.expr) inside.condition inside.tried (expr_at e.expr))
    (where_so (has_remote_type x e.expr && not inside.may) (Escapes (expr_at e.expr))) _ _ (contained_cond _ _ t))

batch_listed : (x : Facts) (ss : List StmtSite) (s : StmtSite) → Contains ss s → IsTrue (is_batch s.stmt) → Contains (all_found x ss) (BatchInside (stmt_at s.stmt))
batch_listed x ss s h t = of_stmt x ss s _ h (second_of_three _ _ _ _ (contained_cond _ _ t))

var_listed : (x : Facts) (ss : List StmtSite) (s : StmtSite) → Contains ss s → IsTrue (is_remote_var x s.stmt) → Contains (all_found x ss) (RemoteVar (stmt_at s.stmt))
var_listed x ss s h t =
    let standing = standing_in x s.around in
    of_stmt x ss s _ h (third_of_three (operation_found (is_rows_loop x s.stmt) standing.condition standing.tried (stmt_at s.stmt))
    (where_so (is_batch s.stmt) (BatchInside (stmt_at s.stmt))) _ _ (contained_cond _ _ t))

-- a refusal of the table that isn't of a flow is found
pub refusal_is_found : (x : Facts) (ss : List StmtSite) (r : Refusal) → IsRefusal x ss r → 3 ≤ number r → Contains (all_found x ss) r
refusal_is_found x ss (Flow chain) h n = absurd (omega (arith, n))
refusal_is_found x ss (NotConstant at) h n = absurd (omega (arith, n))
refusal_is_found x ss (UnderLocalCondition condition operation) h n = operation_listed x ss operation condition h.0 h.1 h.2 h.3
refusal_is_found x ss (Escapes at) h n = subst (λ p. Contains (all_found x ss) (Escapes p)) h.2 (escape_listed x ss h.0 h.1 h.3)
refusal_is_found x ss (BatchInside at) h n = elim h [
  | inl b ↦ subst (λ p. Contains (all_found x ss) (BatchInside p)) b.2 (batch_listed x ss b.0 b.1 b.3)
  | inr e ↦ subst (λ p. Contains (all_found x ss) (BatchInside p)) e.2 (call_listed x ss e.0 e.1 e.3)
]
refusal_is_found x ss (InTry at) h n = try_listed x ss at h.0 h.1 h.2 h.3
refusal_is_found x ss (RemoteVar at) h n = subst (λ p. Contains (all_found x ss) (RemoteVar p)) h.2 (var_listed x ss h.0 h.1 h.3)
refusal_is_found x ss (TooManyInputs batch count) h n = absurd h
refusal_is_found x ss (ScriptTooLarge batch bytes) h n = absurd h
