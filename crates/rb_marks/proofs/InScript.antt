-- Where a batch has no refusal, each Remote expression stands at a script place.
use Rattle.std.proofs.Common.{◌≡◌, ℕ, List, [], ◌∷◌, ◌++◌, map, Bool, true, false, cond, ◌&&◌, ◌||◌, refl, sym, ap, ◌∙◌, subst, ◌⊎◌, inl, inr, arith}
use Rattle.std.specs.List.{Contains, flat_map, list_any}
use Rattle.std.proofs.lemmas.Bool.{true≢false, false≢true, and_parts, and_from, or_cases, or_left, or_right, false_from_ne_true}
use Rattle.std.proofs.lemmas.List.Elements.{Contains-append_left, Contains-append_right, Contains-append_cases}
use Rattle.rb_trees.specs.declared.marks.Mark.{Mark}
use Rattle.rb_trees.specs.declared.refusals.Refusal.{Refusal}
use Rattle.rb_trees.specs.declared.refusals.Refusal.TheVariants.{UnderLocalCondition, BatchInside, InTry as InTryRefused}
use Rattle.rb_trees.specs.mirror.Code.{Expr, Exprs, Lit, Name, This, Unary, Binary, Field, Call, Index, New, Items, Taken, NoExprs, MoreExprs, expr_at, Stmt, Stmts, Val, Var, Assign, Run, Print, Throw, If, While, For, Try, Batch, NoStmts, MoreStmts, stmt_at}
use Rattle.rb_meaning_flow.specs.declared.scopes.Role.{Role}
use Rattle.rb_meaning_flow.specs.Facts.{Facts, is_remote, over_rows, facts_of}
use Rattle.rb_meaning_flow.specs.Scopes.{Scope, with_variable, opened}
use Rattle.rb_meaning_flow.specs.Portable.{portable, is_constant, holds_call, any_holds_call, holds_operation, block_holds, branches_hold, is_constant_list, has_far_turns}
use Rattle.rb_meaning_flow.specs.Sites.{Around, Branch, WhileTurn, Turn, InTry, InBatch, is_script_place, StmtSite, Over, ExprSite, expr_sites, exprs_sites, all_sites, own, sites, block_sites, exprs_of, scope_after, turn_role}
use Rattle.rb_meaning_flow.specs.Marks.{is_portable_call, is_remote_whole, is_remote_at}
use Rattle.rb_meaning_flow.specs.Outermost.{Outermost, batch_sites, program_batches}
use Rattle.rb_meaning_flow.specs.Flow.{is_call}
use Rattle.rb_meaning_flow.specs.Refusals.{frame_condition, expr_conditions, stmt_conditions, StandsFirst, any_try, is_rows_loop, is_batch, IsCallAt, IsLoopAt, IsRefusal}
use Rattle.rb_marks.specs.Laws.{RemoteInScript}
use Rattle.rb_marks.proofs.Counts.{contains_cases, first_one, one_more}

none_in : {A : Type 0} {B : Type 0} (a : A) → Contains [] a → B
none_in a h = absurd (omega (arith, h.1))

-- a remote call that stands in an expression has a site there
mutual
  call_inside : (x : Facts) (t : StmtSite) (above : List Over) (e : Expr) → holds_call x e ≡ true → (u : ExprSite) × Contains (expr_sites t above e) u × (is_call x u.expr ≡ true)
  call_inside x t above (Lit at value) h = absurd (false≢true h)
  call_inside x t above (Name at name) h = absurd (false≢true h)
  call_inside x t above (This at) h = absurd (false≢true h)
  call_inside x t above (Unary at op a) h =
      let i = call_inside x t (record { expr = Unary at op a; right = false } ∷ above) a h in (i.0, one_more _ i.0 _ i.1, i.2)
  call_inside x t above (Binary at op a b) h = elim (or_cases (holds_call x a) (holds_call x b) h) [
    | inl l ↦ (let i = call_inside x t (record { expr = Binary at op a b; right = false } ∷ above) a l in (i.0, one_more _ i.0 _ (Contains-append_left (expr_sites t (record { expr = Binary at op a b; right = false } ∷ above) a) (expr_sites t (record { expr = Binary at op a b; right = true } ∷ above) b) i.0 i.1), i.2))
    | inr r ↦ (let i = call_inside x t (record { expr = Binary at op a b; right = true } ∷ above) b r in (i.0, one_more _ i.0 _ (Contains-append_right (expr_sites t (record { expr = Binary at op a b; right = false } ∷ above) a) (expr_sites t (record { expr = Binary at op a b; right = true } ∷ above) b) i.0 i.1), i.2))
  ]
  call_inside x t above (Field at a name) h =
      let i = call_inside x t (record { expr = Field at a name; right = false } ∷ above) a h in (i.0, one_more _ i.0 _ i.1, i.2)
  call_inside x t above (Call at a method args) h = elim (or_cases (is_remote x a || holds_call x a) (any_holds_call x args) h) [
    | inl k ↦ elim (or_cases (is_remote x a) (holds_call x a) k) [
      | inl remote ↦ (record { stands = t; above = above; expr = Call at a method args }, first_one _ _, remote)
      | inr l ↦ (let i = call_inside x t (record { expr = Call at a method args; right = false } ∷ above) a l in (i.0, one_more _ i.0 _ (Contains-append_left (expr_sites t (record { expr = Call at a method args; right = false } ∷ above) a) (exprs_sites t (record { expr = Call at a method args; right = false } ∷ above) args) i.0 i.1), i.2))
    ]
    | inr r ↦ (let i = all_call_inside x t (record { expr = Call at a method args; right = false } ∷ above) args r in (i.0, one_more _ i.0 _ (Contains-append_right (expr_sites t (record { expr = Call at a method args; right = false } ∷ above) a) (exprs_sites t (record { expr = Call at a method args; right = false } ∷ above) args) i.0 i.1), i.2))
  ]
  call_inside x t above (Index at a b) h = elim (or_cases (holds_call x a) (holds_call x b) h) [
    | inl l ↦ (let i = call_inside x t (record { expr = Index at a b; right = false } ∷ above) a l in (i.0, one_more _ i.0 _ (Contains-append_left (expr_sites t (record { expr = Index at a b; right = false } ∷ above) a) (expr_sites t (record { expr = Index at a b; right = false } ∷ above) b) i.0 i.1), i.2))
    | inr r ↦ (let i = call_inside x t (record { expr = Index at a b; right = false } ∷ above) b r in (i.0, one_more _ i.0 _ (Contains-append_right (expr_sites t (record { expr = Index at a b; right = false } ∷ above) a) (expr_sites t (record { expr = Index at a b; right = false } ∷ above) b) i.0 i.1), i.2))
  ]
  call_inside x t above (New at class args) h =
      let i = all_call_inside x t (record { expr = New at class args; right = false } ∷ above) args h in (i.0, one_more _ i.0 _ i.1, i.2)
  call_inside x t above (Items at item items) h =
      let i = all_call_inside x t (record { expr = Items at item items; right = false } ∷ above) items h in (i.0, one_more _ i.0 _ i.1, i.2)
  call_inside x t above (Taken at step) h = absurd (false≢true h)

  all_call_inside : (x : Facts) (t : StmtSite) (above : List Over) (es : Exprs) → any_holds_call x es ≡ true → (u : ExprSite) × Contains (exprs_sites t above es) u × (is_call x u.expr ≡ true)
  all_call_inside x t above NoExprs h = absurd (false≢true h)
  all_call_inside x t above (MoreExprs e es) h = elim (or_cases (holds_call x e) (any_holds_call x es) h) [
    | inl l ↦ (let i = call_inside x t above e l in (i.0, Contains-append_left (expr_sites t above e) (exprs_sites t above es) i.0 i.1, i.2))
    | inr r ↦ (let i = all_call_inside x t above es r in (i.0, Contains-append_right (expr_sites t above e) (exprs_sites t above es) i.0 i.1, i.2))
  ]

-- whether a remote call stands in an expression, or in one above it
abbrev above_holds : Facts → List Over → Bool
above_holds x above = list_any (λ o. holds_call x o.expr) above

abbrev tells : Facts → ExprSite → Bool
tells x u = holds_call x u.expr || above_holds x u.above

-- what is told of a site in an expression: the statement, and that what it tells holds of the whole
abbrev Inside : Facts → StmtSite → Bool → ExprSite → Type 0
Inside x t whole u = (u.stands ≡ t) × (tells x u ≡ true → whole ≡ true)

up : (p e r : Bool) → (p ≡ true → e ≡ true) → (p || (e || r)) ≡ true → (e || r) ≡ true
up p e r f h = elim (or_cases p (e || r) h) [
  | inl k ↦ or_left e r (f k)
  | inr k ↦ k
]

itself : (x : Facts) (t : StmtSite) (above : List Over) (e : Expr) (u : ExprSite) → record { stands = t; above = above; expr = e } ≡ u → Inside x t (holds_call x e || above_holds x above) u
itself x t above e u same = subst (λ v. Inside x t (holds_call x e || above_holds x above) v) same (refl, λ k. k)

-- one of some expressions, or what is above
wider : (e es rest : Bool) → ((e ≡ true) ⊎ (es ≡ true)) ⊎ (rest ≡ true) → ((e || es) || rest) ≡ true
wider e es rest (inl (inl k)) = or_left (e || es) rest (or_left e es k)
wider e es rest (inl (inr k)) = or_left (e || es) rest (or_right e es k)
wider e es rest (inr k) = or_right (e || es) rest k

left_of : {P : Type 0} (e rest : Bool) → (e || rest) ≡ true → ((e ≡ true) ⊎ P) ⊎ (rest ≡ true)
left_of e rest h = elim (or_cases e rest h) [
  | inl k ↦ inl (inl k)
  | inr k ↦ inr k
]

right_of : {P : Type 0} (es rest : Bool) → (es || rest) ≡ true → (P ⊎ (es ≡ true)) ⊎ (rest ≡ true)
right_of es rest h = elim (or_cases es rest h) [
  | inl k ↦ inl (inr k)
  | inr k ↦ inr k
]

mutual
  inside : (x : Facts) (t : StmtSite) (above : List Over) (e : Expr) (u : ExprSite) → Contains (expr_sites t above e) u → Inside x t (holds_call x e || above_holds x above) u
  inside x t above (Lit at value) u h = elim (contains_cases _ u [] h) [
    | inl same ↦ itself x t above (Lit at value) u same
    | inr m ↦ none_in u m
  ]
  inside x t above (Name at name) u h = elim (contains_cases _ u [] h) [
    | inl same ↦ itself x t above (Name at name) u same
    | inr m ↦ none_in u m
  ]
  inside x t above (This at) u h = elim (contains_cases _ u [] h) [
    | inl same ↦ itself x t above (This at) u same
    | inr m ↦ none_in u m
  ]
  inside x t above (Unary at op a) u h = elim (contains_cases _ u _ h) [
    | inl same ↦ itself x t above (Unary at op a) u same
    | inr m ↦ (let i = inside x t (record { expr = Unary at op a; right = false } ∷ above) a u m in (i.0, λ k. up _ (holds_call x (Unary at op a)) (above_holds x above) (λ l. l) (i.1 k)))
  ]
  inside x t above (Binary at op a b) u h = elim (contains_cases _ u _ h) [
    | inl same ↦ itself x t above (Binary at op a b) u same
    | inr m ↦ elim (Contains-append_cases (expr_sites t (record { expr = Binary at op a b; right = false } ∷ above) a) (expr_sites t (record { expr = Binary at op a b; right = true } ∷ above) b) u m) [
      | inl l ↦ (let i = inside x t (record { expr = Binary at op a b; right = false } ∷ above) a u l in (i.0, λ k. up _ (holds_call x (Binary at op a b)) (above_holds x above) (λ l. or_left (holds_call x a) (holds_call x b) l) (i.1 k)))
      | inr r ↦ (let i = inside x t (record { expr = Binary at op a b; right = true } ∷ above) b u r in (i.0, λ k. up _ (holds_call x (Binary at op a b)) (above_holds x above) (λ l. or_right (holds_call x a) (holds_call x b) l) (i.1 k)))
    ]
  ]
  inside x t above (Field at a name) u h = elim (contains_cases _ u _ h) [
    | inl same ↦ itself x t above (Field at a name) u same
    | inr m ↦ (let i = inside x t (record { expr = Field at a name; right = false } ∷ above) a u m in (i.0, λ k. up _ (holds_call x (Field at a name)) (above_holds x above) (λ l. l) (i.1 k)))
  ]
  inside x t above (Call at a method args) u h = elim (contains_cases _ u _ h) [
    | inl same ↦ itself x t above (Call at a method args) u same
    | inr m ↦ elim (Contains-append_cases (expr_sites t (record { expr = Call at a method args; right = false } ∷ above) a) (exprs_sites t (record { expr = Call at a method args; right = false } ∷ above) args) u m) [
      | inl l ↦ (let i = inside x t (record { expr = Call at a method args; right = false } ∷ above) a u l in (i.0, λ k. up _ (holds_call x (Call at a method args)) (above_holds x above) (λ l. or_left (is_remote x a || holds_call x a) (any_holds_call x args) (or_right (is_remote x a) (holds_call x a) l)) (i.1 k)))
      | inr r ↦ (let i = all_inside x t (Call at a method args) false above args u r in (i.0, λ k. up _ (holds_call x (Call at a method args)) (above_holds x above) (λ l. or_right (is_remote x a || holds_call x a) (any_holds_call x args) l) (i.1 k)))
    ]
  ]
  inside x t above (Index at a b) u h = elim (contains_cases _ u _ h) [
    | inl same ↦ itself x t above (Index at a b) u same
    | inr m ↦ elim (Contains-append_cases (expr_sites t (record { expr = Index at a b; right = false } ∷ above) a) (expr_sites t (record { expr = Index at a b; right = false } ∷ above) b) u m) [
      | inl l ↦ (let i = inside x t (record { expr = Index at a b; right = false } ∷ above) a u l in (i.0, λ k. up _ (holds_call x (Index at a b)) (above_holds x above) (λ l. or_left (holds_call x a) (holds_call x b) l) (i.1 k)))
      | inr r ↦ (let i = inside x t (record { expr = Index at a b; right = false } ∷ above) b u r in (i.0, λ k. up _ (holds_call x (Index at a b)) (above_holds x above) (λ l. or_right (holds_call x a) (holds_call x b) l) (i.1 k)))
    ]
  ]
  inside x t above (New at class args) u h = elim (contains_cases _ u _ h) [
    | inl same ↦ itself x t above (New at class args) u same
    | inr m ↦ (let i = all_inside x t (New at class args) false above args u m in (i.0, λ k. up _ (holds_call x (New at class args)) (above_holds x above) (λ l. l) (i.1 k)))
  ]
  inside x t above (Items at item items) u h = elim (contains_cases _ u _ h) [
    | inl same ↦ itself x t above (Items at item items) u same
    | inr m ↦ (let i = all_inside x t (Items at item items) false above items u m in (i.0, λ k. up _ (holds_call x (Items at item items)) (above_holds x above) (λ l. l) (i.1 k)))
  ]
  inside x t above (Taken at step) u h = elim (contains_cases _ u [] h) [
    | inl same ↦ itself x t above (Taken at step) u same
    | inr m ↦ none_in u m
  ]

  all_inside : (x : Facts) (t : StmtSite) (p : Expr) (right : Bool) (above : List Over) (es : Exprs) (u : ExprSite) → Contains (exprs_sites t (record { expr = p; right = right } ∷ above) es) u
      → Inside x t (any_holds_call x es || (holds_call x p || above_holds x above)) u
  all_inside x t p right above NoExprs u h = none_in u h
  all_inside x t p right above (MoreExprs e es) u h =
      let over : List Over = record { expr = p; right = right } ∷ above in
      let rest : Bool = holds_call x p || above_holds x above in
      elim (Contains-append_cases (expr_sites t over e) (exprs_sites t over es) u h) [
        | inl l ↦ (let i = inside x t over e u l in (i.0, λ k. wider (holds_call x e) (any_holds_call x es) rest (left_of (holds_call x e) rest (i.1 k))))
        | inr r ↦ (let i = all_inside x t p right above es u r in (i.0, λ k. wider (holds_call x e) (any_holds_call x es) rest (right_of (any_holds_call x es) rest (i.1 k))))
      ]

one_of : (b : Bool) → (b || false) ≡ true → b ≡ true
one_of true h = refl
one_of false h = h

two_of : (a b : Bool) → (a || (b || false)) ≡ true → (a || b) ≡ true
two_of true b h = refl
two_of false b h = one_of b h

abbrev own_holds : Facts → List Expr → Bool
own_holds x es = list_any (holds_call x) es

in_own : (x : Facts) (t : StmtSite) (es : List Expr) (u : ExprSite) → Contains (all_sites t es) u → Inside x t (own_holds x es) u
in_own x t [] u h = none_in u h
in_own x t (e ∷ es) u h = elim (Contains-append_cases (expr_sites t [] e) (all_sites t es) u h) [
  | inl l ↦ (let i = inside x t [] e u l in (i.0, λ k. or_left (holds_call x e) (own_holds x es) (one_of (holds_call x e) (i.1 k))))
  | inr r ↦ (let i = in_own x t es u r in (i.0, λ k. or_right (holds_call x e) (own_holds x es) (i.1 k)))
]

-- an expression of some statements stands in one of them
in_exprs : (x : Facts) (ss : List StmtSite) (u : ExprSite) → Contains (exprs_of ss) u → Contains ss u.stands × (tells x u ≡ true → own_holds x (own u.stands.stmt) ≡ true)
in_exprs x [] u h = none_in u h
in_exprs x (t ∷ ts) u h = elim (Contains-append_cases (all_sites t (own t.stmt)) (exprs_of ts) u h) [
  | inl l ↦ (let i = in_own x t (own t.stmt) u l in
      (subst (λ v. Contains (t ∷ ts) v) (sym i.0) (first_one t ts), subst (λ v. tells x u ≡ true → own_holds x (own v.stmt) ≡ true) (sym i.0) i.1))
  | inr r ↦ (let i = in_exprs x ts u r in (one_more t u.stands ts i.0, i.1))
]

own_call : (x : Facts) (t : StmtSite) (es : List Expr) → own_holds x es ≡ true → (u : ExprSite) × Contains (all_sites t es) u × (is_call x u.expr ≡ true)
own_call x t [] h = absurd (false≢true h)
own_call x t (e ∷ es) h = elim (or_cases (holds_call x e) (own_holds x es) h) [
  | inl l ↦ (let i = call_inside x t [] e l in (i.0, Contains-append_left (expr_sites t [] e) (all_sites t es) i.0 i.1, i.2))
  | inr r ↦ (let i = own_call x t es r in (i.0, Contains-append_right (expr_sites t [] e) (all_sites t es) i.0 i.1, i.2))
]

own_in : (ss : List StmtSite) (t : StmtSite) (u : ExprSite) → Contains ss t → Contains (all_sites t (own t.stmt)) u → Contains (exprs_of ss) u
own_in [] t u h m = none_in t h
own_in (s ∷ ss) t u h m = elim (contains_cases s t ss h) [
  | inl same ↦ Contains-append_left (all_sites s (own s.stmt)) (exprs_of ss) u (subst (λ v. Contains (all_sites v (own v.stmt)) u) (sym same) m)
  | inr n ↦ Contains-append_right (all_sites s (own s.stmt)) (exprs_of ss) u (own_in ss t u n m)
]

-- a statement whose own expressions hold a remote call holds an operation
own_operation : (x : Facts) (s : Stmt) → own_holds x (own s) ≡ true → holds_operation x s ≡ true
own_operation x (Val at name e) h = one_of (holds_call x e) h
own_operation x (Var at name e) h = one_of (holds_call x e) h
own_operation x (Assign at a b) h = two_of (holds_call x a) (holds_call x b) h
own_operation x (Run at e) h = one_of (holds_call x e) h
own_operation x (Print at e) h = one_of (holds_call x e) h
own_operation x (Throw at e) h = one_of (holds_call x e) h
own_operation x (If at c a b) h = or_left _ (block_holds x b) (or_left (holds_call x c) (block_holds x a) (one_of (holds_call x c) h))
own_operation x (While at c a) h = or_left (holds_call x c) (block_holds x a) (one_of (holds_call x c) h)
own_operation x (For at name e a) h = or_left _ (block_holds x a) (or_right (over_rows x e) (holds_call x e) (one_of (holds_call x e) h))
own_operation x (Try at a name b) h = absurd (false≢true h)
own_operation x (Batch at interface root a) h = absurd (false≢true h)

-- whether each branch around is one of two that hold an operation, each block of a loop around holds one, and no batch
-- stands around
abbrev sound : Facts → List Around → Bool
sound x [] = true
sound x (Branch at scope c a b ∷ around) = branches_hold x a b && sound x around
sound x (WhileTurn at scope c ∷ around) = sound x around
sound x (Turn at scope list block ∷ around) = block_holds x block && sound x around
sound x (InTry at scope tried name handler ∷ around) = sound x around
sound x (InBatch at ∷ around) = false

abbrev NoBatch : List StmtSite → Type 0
NoBatch ss = (u : StmtSite) → Contains ss u → is_batch u.stmt ≡ true → ⊥

alone : (x : Facts) (s t : StmtSite) → (holds_operation x s.stmt ≡ true → sound x s.around ≡ true) → s ≡ t → holds_operation x t.stmt ≡ true → sound x t.around ≡ true
alone x s t h same = subst (λ v. holds_operation x v.stmt ≡ true → sound x v.around ≡ true) same h

mutual
  stmt_sound : (x : Facts) (around : List Around) (scope : Scope) (s : Stmt) (t : StmtSite) → (holds_operation x s ≡ true → sound x around ≡ true) → NoBatch (sites x around scope s)
      → Contains (sites x around scope s) t → holds_operation x t.stmt ≡ true → sound x t.around ≡ true
  stmt_sound x around scope (Val at name e) t h nb m op = elim (contains_cases _ t [] m) [
    | inl same ↦ alone x _ t h same op
    | inr n ↦ none_in t n
  ]
  stmt_sound x around scope (Var at name e) t h nb m op = elim (contains_cases _ t [] m) [
    | inl same ↦ alone x _ t h same op
    | inr n ↦ none_in t n
  ]
  stmt_sound x around scope (Assign at a b) t h nb m op = elim (contains_cases _ t [] m) [
    | inl same ↦ alone x _ t h same op
    | inr n ↦ none_in t n
  ]
  stmt_sound x around scope (Run at e) t h nb m op = elim (contains_cases _ t [] m) [
    | inl same ↦ alone x _ t h same op
    | inr n ↦ none_in t n
  ]
  stmt_sound x around scope (Print at e) t h nb m op = elim (contains_cases _ t [] m) [
    | inl same ↦ alone x _ t h same op
    | inr n ↦ none_in t n
  ]
  stmt_sound x around scope (Throw at e) t h nb m op = elim (contains_cases _ t [] m) [
    | inl same ↦ alone x _ t h same op
    | inr n ↦ none_in t n
  ]
  stmt_sound x around scope (If at c a b) t h nb m op = elim (contains_cases _ t _ m) [
    | inl same ↦ alone x _ t h same op
    | inr n ↦ elim (Contains-append_cases (block_sites x (Branch at scope c a b ∷ around) scope a) (block_sites x (Branch at scope c a b ∷ around) (scope) b) t n) [
      | inl l ↦ block_sound x (Branch at scope c a b ∷ around) scope a t (λ k. and_from _ _ (or_left (block_holds x a) (block_holds x b) k) (h (or_left (holds_call x c || block_holds x a) (block_holds x b) (or_right (holds_call x c) (block_holds x a) k)))) (λ u i. nb u (one_more _ u _ (Contains-append_left (block_sites x (Branch at scope c a b ∷ around) scope a) (block_sites x (Branch at scope c a b ∷ around) (scope) b) u i))) l op
      | inr r ↦ block_sound x (Branch at scope c a b ∷ around) (scope) b t (λ k. and_from _ _ (or_right (block_holds x a) (block_holds x b) k) (h (or_right (holds_call x c || block_holds x a) (block_holds x b) k))) (λ u i. nb u (one_more _ u _ (Contains-append_right (block_sites x (Branch at scope c a b ∷ around) scope a) (block_sites x (Branch at scope c a b ∷ around) (scope) b) u i))) r op
    ]
  ]
  stmt_sound x around scope (While at c a) t h nb m op = elim (contains_cases _ t _ m) [
    | inl same ↦ alone x _ t h same op
    | inr n ↦ block_sound x (WhileTurn at scope c ∷ around) (scope) a t (λ k. h (or_right (holds_call x c) (block_holds x a) k)) (λ u i. nb u (one_more _ u _ i)) n op
  ]
  stmt_sound x around scope (For at name e a) t h nb m op = elim (contains_cases _ t _ m) [
    | inl same ↦ alone x _ t h same op
    | inr n ↦ block_sound x (Turn at scope e a ∷ around) (with_variable scope name (turn_role x around scope e a) at) a t (λ k. and_from _ _ k (h (or_right (over_rows x e || holds_call x e) (block_holds x a) k))) (λ u i. nb u (one_more _ u _ i)) n op
  ]
  stmt_sound x around scope (Try at a name b) t h nb m op = elim (contains_cases _ t _ m) [
    | inl same ↦ alone x _ t h same op
    | inr n ↦ elim (Contains-append_cases (block_sites x (InTry at scope a name b ∷ around) scope a) (block_sites x (InTry at scope a name b ∷ around) (with_variable scope name Role.Plain at) b) t n) [
      | inl l ↦ block_sound x (InTry at scope a name b ∷ around) scope a t (λ k. h (or_left (block_holds x a) (block_holds x b) k)) (λ u i. nb u (one_more _ u _ (Contains-append_left (block_sites x (InTry at scope a name b ∷ around) scope a) (block_sites x (InTry at scope a name b ∷ around) (with_variable scope name Role.Plain at) b) u i))) l op
      | inr r ↦ block_sound x (InTry at scope a name b ∷ around) (with_variable scope name Role.Plain at) b t (λ k. h (or_right (block_holds x a) (block_holds x b) k)) (λ u i. nb u (one_more _ u _ (Contains-append_right (block_sites x (InTry at scope a name b ∷ around) scope a) (block_sites x (InTry at scope a name b ∷ around) (with_variable scope name Role.Plain at) b) u i))) r op
    ]
  ]
  stmt_sound x around scope (Batch at interface root a) t h nb m op = absurd (nb _ (first_one _ _) refl)

  block_sound : (x : Facts) (around : List Around) (scope : Scope) (ss : Stmts) (t : StmtSite) → (block_holds x ss ≡ true → sound x around ≡ true) → NoBatch (block_sites x around scope ss)
      → Contains (block_sites x around scope ss) t → holds_operation x t.stmt ≡ true → sound x t.around ≡ true
  block_sound x around scope NoStmts t h nb m op = none_in t m
  block_sound x around scope (MoreStmts s ss) t h nb m op =
      let rest = block_sites x around (scope_after x around scope s) ss in
      elim (Contains-append_cases (sites x around scope s) rest t m) [
        | inl l ↦ stmt_sound x around scope s t (λ k. h (or_left (holds_operation x s) (block_holds x ss) k)) (λ u i. nb u (Contains-append_left (sites x around scope s) rest u i)) l op
        | inr r ↦ block_sound x around (scope_after x around scope s) ss t (λ k. h (or_right (holds_operation x s) (block_holds x ss) k))
            (λ u i. nb u (Contains-append_right (sites x around scope s) rest u i)) r op
      ]

nil_parts : {A : Type 0} (as' bs : List A) → as' ++ bs ≡ [] → (as' ≡ []) × (bs ≡ [])
nil_parts [] bs e = (refl, e)
nil_parts (a ∷ as') bs e = cc

known_by : (b : Bool) (n : ℕ) → cond b [] (n ∷ []) ≡ [] → b ≡ true
known_by true n e = refl
known_by false n e = cc

-- a loop over rows or over a constant list, whose block holds an operation, has its turns in the script
far_by : (rows list holds : Bool) → (rows || list) ≡ true → holds ≡ true → (rows || (list && holds)) ≡ true
far_by true list holds e h = refl
far_by false list holds e h = and_from list holds e h

-- without local conditions and `try`, with branches that hold an operation, a place is a script place
script_by : (x : Facts) (around : List Around) → flat_map (frame_condition x) around ≡ [] → any_try around ≡ false → sound x around ≡ true → is_script_place x around ≡ true
script_by x [] c t s = refl
script_by x (Branch at scope e a b ∷ around) c t s =
    let parts = and_parts (branches_hold x a b) (sound x around) s in
    and_from (is_script_place x around) (branches_hold x a b) (script_by x around (nil_parts (frame_condition x (Branch at scope e a b)) (flat_map (frame_condition x) around) c).1 t parts.1) parts.0
script_by x (WhileTurn at scope e ∷ around) c t s = cc
script_by x (Turn at scope list block ∷ around) c t s =
    let parts = nil_parts (frame_condition x (Turn at scope list block)) (flat_map (frame_condition x) around) c in
    let holds = and_parts (block_holds x block) (sound x around) s in
    let known = known_by (over_rows x list || is_constant_list scope list) (expr_at list) parts.0 in
    and_from (is_script_place x around) (has_far_turns x scope list block) (script_by x around parts.1 t holds.1)
    (far_by (over_rows x list) (is_constant_list scope list) (block_holds x block) known holds.0)
script_by x (InTry at scope tried name handler ∷ around) c t s = absurd (true≢false t)
script_by x (InBatch at ∷ around) c t s = absurd (false≢true s)

no_conditions : (cs : List ℕ) → ((c : ℕ) → StandsFirst c cs → ⊥) → cs ≡ []
no_conditions [] f = refl
no_conditions (m ∷ ms) f = absurd (f m refl)

abbrev Admitted : Facts → List StmtSite → Type 0
Admitted x ss = (r : Refusal) → IsRefusal x ss r → ⊥

no_batch : (x : Facts) (ss : List StmtSite) → Admitted x ss → NoBatch ss
no_batch x ss admitted u m is = admitted (BatchInside (stmt_at u.stmt)) (inl (u, m, refl, is))

-- the place of a statement with an operation of its own
call_script : (x : Facts) (ss : List StmtSite) → Admitted x ss → (t : StmtSite) → Contains ss t → own_holds x (own t.stmt) ≡ true → sound x t.around ≡ true → is_script_place x t.around ≡ true
call_script x ss admitted t m h s =
    let i = own_call x t (own t.stmt) h in
    let stands = (in_own x t (own t.stmt) i.0 i.1).0 in
    let at = expr_at i.0.expr in
    let call : IsCallAt x ss at (expr_conditions x i.0) t.around = (i.0, own_in ss t i.0 m i.1, i.2, refl, refl, ap (λ v. v.around) stands) in
    let free = no_conditions (expr_conditions x i.0) (λ c first. admitted (UnderLocalCondition c at) (expr_conditions x i.0, t.around, inl call, first)) in
    let untried = false_from_ne_true (any_try t.around) (λ tried. admitted (InTryRefused at) (expr_conditions x i.0, t.around, inl call, tried)) in
    script_by x t.around (ap (λ v. flat_map (frame_condition x) v.around) (sym stands) ∙ (nil_parts _ (flat_map (frame_condition x) i.0.stands.around) free).1) untried s

loop_script : (x : Facts) (ss : List StmtSite) → Admitted x ss → (t : StmtSite) → Contains ss t → is_rows_loop x t.stmt ≡ true → sound x t.around ≡ true → is_script_place x t.around ≡ true
loop_script x ss admitted t m h s =
    let at = stmt_at t.stmt in
    let loop : IsLoopAt x ss at (stmt_conditions x t) t.around = (t, m, h, refl, refl, refl) in
    let free = no_conditions (stmt_conditions x t) (λ c first. admitted (UnderLocalCondition c at) (stmt_conditions x t, t.around, inr loop, first)) in
    let untried = false_from_ne_true (any_try t.around) (λ tried. admitted (InTryRefused at) (stmt_conditions x t, t.around, inr loop, tried)) in
    script_by x t.around free untried s

loop_operation : (x : Facts) (s : Stmt) → is_rows_loop x s ≡ true → holds_operation x s ≡ true
loop_operation x (Val at name e) h = absurd (false≢true h)
loop_operation x (Var at name e) h = absurd (false≢true h)
loop_operation x (Assign at a b) h = absurd (false≢true h)
loop_operation x (Run at e) h = absurd (false≢true h)
loop_operation x (Print at e) h = absurd (false≢true h)
loop_operation x (Throw at e) h = absurd (false≢true h)
loop_operation x (If at c a b) h = absurd (false≢true h)
loop_operation x (While at c a) h = absurd (false≢true h)
loop_operation x (For at name e a) h = or_left _ (block_holds x a) (or_left (over_rows x e) (holds_call x e) h)
loop_operation x (Try at a name b) h = absurd (false≢true h)
loop_operation x (Batch at interface root a) h = absurd (false≢true h)

-- a statement that makes its expression Remote is an `if` at a script place, or a loop over rows
whole_cases : (x : Facts) (around : List Around) (s : Stmt) → is_remote_whole x around s ≡ true → (is_script_place x around ≡ true) ⊎ (is_rows_loop x s ≡ true)
whole_cases x around (Val at name e) h = absurd (false≢true h)
whole_cases x around (Var at name e) h = absurd (false≢true h)
whole_cases x around (Assign at a b) h = absurd (false≢true h)
whole_cases x around (Run at e) h = absurd (false≢true h)
whole_cases x around (Print at e) h = absurd (false≢true h)
whole_cases x around (Throw at e) h = absurd (false≢true h)
whole_cases x around (If at c a b) h = inl (and_parts (is_script_place x around) (branches_hold x a b) h).0
whole_cases x around (While at c a) h = absurd (false≢true h)
whole_cases x around (For at name e a) h = inr h
whole_cases x around (Try at a name b) h = absurd (false≢true h)
whole_cases x around (Batch at interface root a) h = absurd (false≢true h)

-- what portable calls above tell
above_calls : (x : Facts) (scope : Scope) (above : List Over) → list_any (λ o. is_portable_call x scope o.expr) above ≡ true → above_holds x above ≡ true
above_calls x scope [] h = h
above_calls x scope (o ∷ above) h = elim (or_cases (is_portable_call x scope o.expr) (list_any (λ o. is_portable_call x scope o.expr) above) h) [
  | inl l ↦ or_left (holds_call x o.expr) (above_holds x above) (and_parts (portable x scope o.expr) (holds_call x o.expr) l).1
  | inr r ↦ or_right (holds_call x o.expr) (above_holds x above) (above_calls x scope above r)
]

is_remote_mark : (b c : Bool) → cond b Mark.Remote (cond c Mark.Constant Mark.Local) ≡ Mark.Remote → b ≡ true
is_remote_mark true c h = refl
is_remote_mark false true h = cc
is_remote_mark false false h = cc

in_map : {A B : Type 0} (f : B → A) (bs : List B) (a : A) → Contains (map f bs) a → (b : B) × (f b ≡ a)
in_map f [] a h = none_in a h
in_map f (b ∷ bs) a h = elim (contains_cases (f b) a (map f bs) h) [
  | inl same ↦ (b, same)
  | inr m ↦ in_map f bs a m
]

batch_script : (x : Facts) (b : Outermost) → Admitted x (batch_sites x b) → (s : ExprSite) → Contains (exprs_of (batch_sites x b)) s → is_remote_at x s ≡ true → is_script_place x s.stands.around ≡ true
batch_script x b admitted s m remote =
    let ss = batch_sites x b in
    let stands = in_exprs x ss s m in
    let sounds : holds_operation x s.stands.stmt ≡ true → sound x s.stands.around ≡ true =
    block_sound x [] (opened b.outer b.at b.root b.block) b.block s.stands (λ k. refl) (no_batch x ss admitted) stands.0 in
    let called : tells x s ≡ true → is_script_place x s.stands.around ≡ true = λ k.
    (let own_h = stands.1 k in call_script x ss admitted s.stands stands.0 own_h (sounds (own_operation x s.stands.stmt own_h))) in
    elim (or_cases (is_remote_whole x s.stands.around s.stands.stmt) _ remote) [
      | inl whole ↦ elim (whole_cases x s.stands.around s.stands.stmt whole) [
        | inl is ↦ is
        | inr loop ↦ loop_script x ss admitted s.stands stands.0 loop (sounds (loop_operation x s.stands.stmt loop))
      ]
      | inr part ↦ elim (or_cases (is_portable_call x s.stands.scope s.expr) _ part) [
        | inl l ↦ called (or_left (holds_call x s.expr) (above_holds x s.above) (and_parts (portable x s.stands.scope s.expr) (holds_call x s.expr) l).1)
        | inr r ↦ called (or_right (holds_call x s.expr) (above_holds x s.above) (above_calls x s.stands.scope s.above r))
      ]
    ]

pub remote_in_script : RemoteInScript
remote_in_script p none s h mark =
    let x = facts_of p in
    let b = in_map (batch_sites x) (program_batches x p) h.batch h.is_batch in
    let admitted : Admitted x h.batch = λ r is. none r (h.batch, h.is_batch, is) in
    batch_script x b.0 (subst (λ ss. Admitted x ss) (sym b.1) admitted) s (subst (λ ss. Contains (exprs_of ss) s) (sym b.1) h.stands)
    (is_remote_mark (is_remote_at x s) (is_constant s.stands.scope s.expr) mark)
