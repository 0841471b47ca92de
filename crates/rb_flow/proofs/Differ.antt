-- Where each position has at most one site, writers differ, and so do bad parts.
use Rattle.std.proofs.Common.{◌≡◌, ℕ, ◌+◌, ◌≤◌, ◌⊎◌, inl, inr, List, [], ◌∷◌, ◌++◌, map, Bool, true, false, cond, refl, sym, ap, ◌∙◌, subst, arith}
use Rattle.std.specs.List.{Contains, flat_map}
use Rattle.std.specs.Ordering.{nat_cmp}
use Rattle.std.specs.BTreeMap.{is_at}
use Rattle.std.proofs.lemmas.Bool.{cond-true}
use Rattle.std.proofs.lemmas.List.Elements.{Contains-append_left, Contains-append_right, Contains-append_cases}
use Rattle.rb_trees.specs.declared.flows.Writer.{Writer}
use Rattle.rb_trees.specs.declared.flows.BadPart.{BadPart}
use Rattle.rb_trees.specs.mirror.Code.{Expr, Exprs, Lit, Name, This, Unary, Binary, Field, Call, Index, New, Items, Taken, NoExprs, MoreExprs, expr_at, Stmt, Val, Var, Assign, Run, Print, Throw, If, While, For, Try, Batch, stmt_at}
use Rattle.rb_meaning_flow.specs.Facts.{Facts, is_remote, over_rows}
use Rattle.rb_meaning_flow.specs.Portable.{portable}
use Rattle.rb_meaning_flow.specs.Sites.{Around, StmtSite, Over, ExprSite, expr_sites, exprs_sites, own, all_sites, exprs_of}
use Rattle.rb_meaning_flow.specs.Chains.{PositionsDiffer}
use Rattle.rb_meaning_flow.specs.Flow.{writer, writers_for, assigned_node, assignment_reads, stmt_writers, expr_writers, writers, bad_in, all_bad_in, bad_of_call, bad_of_loop, bad_part, bad_parts}
use Rattle.rb_marks.proofs.Counts.{at_itself, here, count}
use Rattle.rb_marks.proofs.Placed.{site_at, stmt_site_at, total, count_sites}
use Rattle.rb_flow.specs.Parts.{parts_in}
use Rattle.rb_flow.specs.Answers.{SitesDiffer}
use Rattle.rb_flow.proofs.Members.{none_contained, first_contained, more_contained, contained_cases, given_by}
use Rattle.rb_flow.proofs.Listed.{owned}

-- what stands at a position is counted there
here_itself : (q a : ℕ) → is_at (nat_cmp a) q ≡ true → here q a ≡ 1
here_itself q a e = cond-true _ _ _ e

counted : {A : Type 0} (at : A → ℕ) (us : List A) (a : A) (q : ℕ) → Contains us a → at a ≡ q → 1 ≤ count q (map at us)
counted at [] a q h e = absurd (none_contained a h)
counted at (u ∷ us) a q h e = elim (contained_cases u us a h) [
  | inl s ↦ (let one : here q (at u) ≡ 1 = here_itself q (at u) (at_itself (at u) q (ap at s ∙ e)) in omega arith)
  | inr m ↦ (let more = counted at us a q m e in omega arith)
]

-- two of a list that stand at a position where one is counted are one
one_at : {A : Type 0} (at : A → ℕ) (us : List A) (q : ℕ) → count q (map at us) ≤ 1 → (a b : A) → Contains us a → Contains us b → at a ≡ q → at b ≡ q → a ≡ b
one_at at [] q n a b h g e f = absurd (none_contained a h)
one_at at (u ∷ us) q n a b h g e f = elim (contained_cases u us a h) [
  | inl s ↦ elim (contained_cases u us b g) [
    | inl t ↦ sym s ∙ t
    | inr m ↦ absurd (let one : here q (at u) ≡ 1 = here_itself q (at u) (at_itself (at u) q (ap at s ∙ e)) in let more = counted at us b q m f in omega arith)
  ]
  | inr m ↦ elim (contained_cases u us b g) [
    | inl t ↦ absurd (let one : here q (at u) ≡ 1 = here_itself q (at u) (at_itself (at u) q (ap at t ∙ f)) in let more = counted at us a q m e in omega arith)
    | inr k ↦ one_at at us q (omega arith) a b m k e f
  ]
]

-- statements and expressions are counted apart
both_counted : (q : ℕ) (ss : List StmtSite) → count q (map stmt_site_at ss) + count q (map site_at (exprs_of ss)) ≤ total q ss
both_counted q [] = omega arith
both_counted q (s ∷ ss) = omega (arith, count_sites q (all_sites s (own s.stmt)) (exprs_of ss), both_counted q ss)

-- at most one site stands at each position
abbrev pub Once : List StmtSite → Type 0
Once ss = (q : ℕ) → total q ss ≤ 1

one_stmt : (ss : List StmtSite) → Once ss → (s t : StmtSite) → Contains ss s → Contains ss t → stmt_site_at s ≡ stmt_site_at t → s ≡ t
one_stmt ss once s t h g e = one_at stmt_site_at ss (stmt_site_at t) (omega (arith, once (stmt_site_at t), both_counted (stmt_site_at t) ss)) s t h g e refl

one_expr : (ss : List StmtSite) → Once ss → (s t : ExprSite) → Contains (exprs_of ss) s → Contains (exprs_of ss) t → site_at s ≡ site_at t → s ≡ t
one_expr ss once s t h g e = one_at site_at (exprs_of ss) (site_at t) (omega (arith, once (site_at t), both_counted (site_at t) ss)) s t h g e refl

no_both : (ss : List StmtSite) → Once ss → (s : StmtSite) (t : ExprSite) → Contains ss s → Contains (exprs_of ss) t → stmt_site_at s ≡ site_at t → ⊥
no_both ss once s t h g e =
    let a = counted stmt_site_at ss s (site_at t) h e in
    let b = counted site_at (exprs_of ss) t (site_at t) g refl in
    let n = once (site_at t) in
    let m = both_counted (site_at t) ss in
    absurd (omega (arith, a, b, n, m))

-- a list of at most one writer, at a position
record Lone (at : ℕ) (ws : List Writer) : Type 0 where
  pub stands : (w : Writer) → Contains ws w → w.at ≡ at
  pub one : (v w : Writer) → Contains ws v → Contains ws w → v ≡ w

lone_none : (at : ℕ) → Lone at []
lone_none at = record { stands = λ w h. absurd (none_contained w h); one = λ v w h g. absurd (none_contained v h) }

lone_one : (at : ℕ) (w : Writer) → w.at ≡ at → Lone at (w ∷ [])
lone_one at w e = record {
  stands = λ v h. elim (contained_cases w [] v h) [ inl s ↦ ap (λ u. u.at) (sym s) ∙ e | inr n ↦ absurd (none_contained v n) ];
  one = λ v u h g. elim (contained_cases w [] v h) [
    | inl s ↦ elim (contained_cases w [] u g) [ inl t ↦ sym s ∙ t | inr n ↦ absurd (none_contained u n) ]
    | inr n ↦ absurd (none_contained v n)
  ];
}

lone_for : (x : Facts) (at : ℕ) (ns : List ℕ) (around : List Around) (mine : List ExprSite) → Lone at (writers_for x at ns around mine)
lone_for x at [] around mine = lone_none at
lone_for x at (n ∷ ns) around mine = lone_one at (writer x at n around mine) refl

lone_unless : (at : ℕ) (remote : Bool) (w : Writer) → w.at ≡ at → Lone at (cond remote [] (w ∷ []))
lone_unless at true w e = lone_none at
lone_unless at false w e = lone_one at w e

stmt_lone : (x : Facts) (s : StmtSite) (t : Stmt) → Lone (stmt_at t) (stmt_writers x s t)
stmt_lone x s (Val at name e) = lone_one at _ refl
stmt_lone x s (Var at name e) = lone_one at _ refl
stmt_lone x s (Assign at a b) = lone_for x at (assigned_node s.scope a) s.around (assignment_reads s a b)
stmt_lone x s (Run at e) = lone_none at
stmt_lone x s (Print at e) = lone_none at
stmt_lone x s (Throw at e) = lone_none at
stmt_lone x s (If at c a b) = lone_none at
stmt_lone x s (While at c a) = lone_none at
stmt_lone x s (For at name e a) = lone_one at _ refl
stmt_lone x s (Try at a name b) = lone_one at _ refl
stmt_lone x s (Batch at interface root a) = lone_none at

expr_lone : (x : Facts) (s : ExprSite) (e : Expr) → Lone (expr_at e) (expr_writers x s e)
expr_lone x s (Lit at value) = lone_none at
expr_lone x s (Name at name) = lone_none at
expr_lone x s (This at) = lone_none at
expr_lone x s (Unary at op a) = lone_none at
expr_lone x s (Binary at op a b) = lone_none at
expr_lone x s (Field at a name) = lone_none at
expr_lone x s (Call at a method args) = lone_unless at (is_remote x a) _ refl
expr_lone x s (Index at a b) = lone_none at
expr_lone x s (New at class args) = lone_one at _ refl
expr_lone x s (Items at item items) = lone_none at
expr_lone x s (Taken at step) = lone_none at

-- a writer is of a statement or of an expression
record WriterOf (x : Facts) (ss : List StmtSite) (w : Writer) : Type 0 where
  pub is : ((s : StmtSite) × Contains ss s × Contains (stmt_writers x s s.stmt) w) ⊎ ((e : ExprSite) × Contains (exprs_of ss) e × Contains (expr_writers x e e.expr) w)

writer_is : (x : Facts) (ss : List StmtSite) (w : Writer) → Contains (writers x ss) w → WriterOf x ss w
writer_is x ss w h = elim (Contains-append_cases (flat_map (λ s. stmt_writers x s s.stmt) ss) (flat_map (λ e. expr_writers x e e.expr) (exprs_of ss)) w h) [
  | inl a ↦ let g = given_by (λ s. stmt_writers x s s.stmt) ss w a in record { is = inl (g.by, g.is, g.gives) }
  | inr b ↦ let g = given_by (λ e. expr_writers x e e.expr) (exprs_of ss) w b in record { is = inr (g.by, g.is, g.gives) }
]

writers_once : (x : Facts) (ss : List StmtSite) → Once ss → PositionsDiffer (writers x ss)
writers_once x ss once v w hv hw e = elim (writer_is x ss v hv).is [
  | inl a ↦ elim (writer_is x ss w hw).is [
    | inl b ↦
        let s : StmtSite = a.0 in
        let t : StmtSite = b.0 in
        let at : stmt_site_at s ≡ stmt_site_at t = sym ((stmt_lone x s s.stmt).stands v a.2) ∙ e ∙ (stmt_lone x t t.stmt).stands w b.2 in
        let same : s ≡ t = one_stmt ss once s t a.1 b.1 at in
        (stmt_lone x t t.stmt).one v w (subst (λ u. Contains (stmt_writers x u u.stmt) v) same a.2) b.2
    | inr b ↦
        let s : StmtSite = a.0 in
        let t : ExprSite = b.0 in
        absurd (no_both ss once s t a.1 b.1 (sym ((stmt_lone x s s.stmt).stands v a.2) ∙ e ∙ (expr_lone x t t.expr).stands w b.2))
  ]
  | inr a ↦ elim (writer_is x ss w hw).is [
    | inl b ↦
        let s : ExprSite = a.0 in
        let t : StmtSite = b.0 in
        absurd (no_both ss once t s b.1 a.1 (sym ((stmt_lone x t t.stmt).stands w b.2) ∙ sym e ∙ (expr_lone x s s.expr).stands v a.2))
    | inr b ↦
        let s : ExprSite = a.0 in
        let t : ExprSite = b.0 in
        let at : site_at s ≡ site_at t = sym ((expr_lone x s s.expr).stands v a.2) ∙ e ∙ (expr_lone x t t.expr).stands w b.2 in
        let same : s ≡ t = one_expr ss once s t a.1 b.1 at in
        (expr_lone x t t.expr).one v w (subst (λ u. Contains (expr_writers x u u.expr) v) same a.2) b.2
  ]
]

-- the sites of a part are among those of the whole
Holds : List ExprSite → ExprSite → Type 0
Holds es s = (t : ExprSite) → Contains (expr_sites s.stands s.above s.expr) t → Contains es t

left_holds : (as' bs : List ExprSite) (s : ExprSite) → Holds as' s → Holds (as' ++ bs) s
unfolding Holds
left_holds as' bs s h t m = Contains-append_left as' bs t (h t m)

right_holds : (as' bs : List ExprSite) (s : ExprSite) → Holds bs s → Holds (as' ++ bs) s
unfolding Holds
right_holds as' bs s h t m = Contains-append_right as' bs t (h t m)

more_holds : (u : ExprSite) (es : List ExprSite) (s : ExprSite) → Holds es s → Holds (u ∷ es) s
unfolding Holds
more_holds u es s h t m = more_contained u es t (h t m)

itself_holds : (s : ExprSite) (es : List ExprSite) (u : ExprSite) → u ≡ s → es ≡ expr_sites u.stands u.above u.expr → Holds es s
unfolding Holds
itself_holds s es u e is t m = subst (λ fs. Contains fs t) (sym is) (subst (λ v. Contains (expr_sites v.stands v.above v.expr) t) (sym e) m)

mutual
  part_holds : (s : StmtSite) (above : List Over) (e : Expr) (t : ExprSite) → Contains (expr_sites s above e) t → Holds (expr_sites s above e) t
  part_holds s above (Lit at value) t h = elim (contained_cases (record { stands = s; above = above; expr = Lit at value }) [] t h) [
    | inl is ↦ itself_holds t (expr_sites s above (Lit at value)) (record { stands = s; above = above; expr = Lit at value }) is refl
    | inr n ↦ absurd (none_contained t n)
  ]
  part_holds s above (Name at name) t h = elim (contained_cases (record { stands = s; above = above; expr = Name at name }) [] t h) [
    | inl is ↦ itself_holds t (expr_sites s above (Name at name)) (record { stands = s; above = above; expr = Name at name }) is refl
    | inr n ↦ absurd (none_contained t n)
  ]
  part_holds s above (This at) t h = elim (contained_cases (record { stands = s; above = above; expr = This at }) [] t h) [
    | inl is ↦ itself_holds t (expr_sites s above (This at)) (record { stands = s; above = above; expr = This at }) is refl
    | inr n ↦ absurd (none_contained t n)
  ]
  part_holds s above (Unary at op a) t h = elim (contained_cases (record { stands = s; above = above; expr = Unary at op a }) (expr_sites s (record { expr = (Unary at op a); right = false } ∷ above) a) t h) [
    | inl is ↦ itself_holds t (expr_sites s above (Unary at op a)) (record { stands = s; above = above; expr = Unary at op a }) is refl
    | inr m ↦ more_holds (record { stands = s; above = above; expr = Unary at op a }) (expr_sites s (record { expr = (Unary at op a); right = false } ∷ above) a) t (part_holds s (record { expr = (Unary at op a); right = false } ∷ above) a t m)
  ]
  part_holds s above (Binary at op a b) t h = elim (contained_cases (record { stands = s; above = above; expr = Binary at op a b }) ((expr_sites s (record { expr = (Binary at op a b); right = false } ∷ above) a) ++ (expr_sites s (record { expr = (Binary at op a b); right = true } ∷ above) b)) t h) [
    | inl is ↦ itself_holds t (expr_sites s above (Binary at op a b)) (record { stands = s; above = above; expr = Binary at op a b }) is refl
    | inr m ↦ more_holds (record { stands = s; above = above; expr = Binary at op a b }) ((expr_sites s (record { expr = (Binary at op a b); right = false } ∷ above) a) ++ (expr_sites s (record { expr = (Binary at op a b); right = true } ∷ above) b)) t (elim (Contains-append_cases (expr_sites s (record { expr = (Binary at op a b); right = false } ∷ above) a) (expr_sites s (record { expr = (Binary at op a b); right = true } ∷ above) b) t m) [
      | inl l ↦ left_holds (expr_sites s (record { expr = (Binary at op a b); right = false } ∷ above) a) (expr_sites s (record { expr = (Binary at op a b); right = true } ∷ above) b) t (part_holds s (record { expr = (Binary at op a b); right = false } ∷ above) a t l)
      | inr r ↦ right_holds (expr_sites s (record { expr = (Binary at op a b); right = false } ∷ above) a) (expr_sites s (record { expr = (Binary at op a b); right = true } ∷ above) b) t (part_holds s (record { expr = (Binary at op a b); right = true } ∷ above) b t r)
    ])
  ]
  part_holds s above (Field at a name) t h = elim (contained_cases (record { stands = s; above = above; expr = Field at a name }) (expr_sites s (record { expr = (Field at a name); right = false } ∷ above) a) t h) [
    | inl is ↦ itself_holds t (expr_sites s above (Field at a name)) (record { stands = s; above = above; expr = Field at a name }) is refl
    | inr m ↦ more_holds (record { stands = s; above = above; expr = Field at a name }) (expr_sites s (record { expr = (Field at a name); right = false } ∷ above) a) t (part_holds s (record { expr = (Field at a name); right = false } ∷ above) a t m)
  ]
  part_holds s above (Call at a method args) t h = elim (contained_cases (record { stands = s; above = above; expr = Call at a method args }) ((expr_sites s (record { expr = (Call at a method args); right = false } ∷ above) a) ++ (exprs_sites s (record { expr = (Call at a method args); right = false } ∷ above) args)) t h) [
    | inl is ↦ itself_holds t (expr_sites s above (Call at a method args)) (record { stands = s; above = above; expr = Call at a method args }) is refl
    | inr m ↦ more_holds (record { stands = s; above = above; expr = Call at a method args }) ((expr_sites s (record { expr = (Call at a method args); right = false } ∷ above) a) ++ (exprs_sites s (record { expr = (Call at a method args); right = false } ∷ above) args)) t (elim (Contains-append_cases (expr_sites s (record { expr = (Call at a method args); right = false } ∷ above) a) (exprs_sites s (record { expr = (Call at a method args); right = false } ∷ above) args) t m) [
      | inl l ↦ left_holds (expr_sites s (record { expr = (Call at a method args); right = false } ∷ above) a) (exprs_sites s (record { expr = (Call at a method args); right = false } ∷ above) args) t (part_holds s (record { expr = (Call at a method args); right = false } ∷ above) a t l)
      | inr r ↦ right_holds (expr_sites s (record { expr = (Call at a method args); right = false } ∷ above) a) (exprs_sites s (record { expr = (Call at a method args); right = false } ∷ above) args) t (parts_hold s (record { expr = (Call at a method args); right = false } ∷ above) args t r)
    ])
  ]
  part_holds s above (Index at a b) t h = elim (contained_cases (record { stands = s; above = above; expr = Index at a b }) ((expr_sites s (record { expr = (Index at a b); right = false } ∷ above) a) ++ (expr_sites s (record { expr = (Index at a b); right = false } ∷ above) b)) t h) [
    | inl is ↦ itself_holds t (expr_sites s above (Index at a b)) (record { stands = s; above = above; expr = Index at a b }) is refl
    | inr m ↦ more_holds (record { stands = s; above = above; expr = Index at a b }) ((expr_sites s (record { expr = (Index at a b); right = false } ∷ above) a) ++ (expr_sites s (record { expr = (Index at a b); right = false } ∷ above) b)) t (elim (Contains-append_cases (expr_sites s (record { expr = (Index at a b); right = false } ∷ above) a) (expr_sites s (record { expr = (Index at a b); right = false } ∷ above) b) t m) [
      | inl l ↦ left_holds (expr_sites s (record { expr = (Index at a b); right = false } ∷ above) a) (expr_sites s (record { expr = (Index at a b); right = false } ∷ above) b) t (part_holds s (record { expr = (Index at a b); right = false } ∷ above) a t l)
      | inr r ↦ right_holds (expr_sites s (record { expr = (Index at a b); right = false } ∷ above) a) (expr_sites s (record { expr = (Index at a b); right = false } ∷ above) b) t (part_holds s (record { expr = (Index at a b); right = false } ∷ above) b t r)
    ])
  ]
  part_holds s above (New at class args) t h = elim (contained_cases (record { stands = s; above = above; expr = New at class args }) (exprs_sites s (record { expr = (New at class args); right = false } ∷ above) args) t h) [
    | inl is ↦ itself_holds t (expr_sites s above (New at class args)) (record { stands = s; above = above; expr = New at class args }) is refl
    | inr m ↦ more_holds (record { stands = s; above = above; expr = New at class args }) (exprs_sites s (record { expr = (New at class args); right = false } ∷ above) args) t (parts_hold s (record { expr = (New at class args); right = false } ∷ above) args t m)
  ]
  part_holds s above (Items at item items) t h = elim (contained_cases (record { stands = s; above = above; expr = Items at item items }) (exprs_sites s (record { expr = (Items at item items); right = false } ∷ above) items) t h) [
    | inl is ↦ itself_holds t (expr_sites s above (Items at item items)) (record { stands = s; above = above; expr = Items at item items }) is refl
    | inr m ↦ more_holds (record { stands = s; above = above; expr = Items at item items }) (exprs_sites s (record { expr = (Items at item items); right = false } ∷ above) items) t (parts_hold s (record { expr = (Items at item items); right = false } ∷ above) items t m)
  ]
  part_holds s above (Taken at step) t h = elim (contained_cases (record { stands = s; above = above; expr = Taken at step }) [] t h) [
    | inl is ↦ itself_holds t (expr_sites s above (Taken at step)) (record { stands = s; above = above; expr = Taken at step }) is refl
    | inr n ↦ absurd (none_contained t n)
  ]

  parts_hold : (s : StmtSite) (above : List Over) (es : Exprs) (t : ExprSite) → Contains (exprs_sites s above es) t → Holds (exprs_sites s above es) t
  parts_hold s above NoExprs t h = absurd (none_contained t h)
  parts_hold s above (MoreExprs e es) t h = elim (Contains-append_cases (expr_sites s above e) (exprs_sites s above es) t h) [
    | inl l ↦ left_holds (expr_sites s above e) (exprs_sites s above es) t (part_holds s above e t l)
    | inr r ↦ right_holds (expr_sites s above e) (exprs_sites s above es) t (parts_hold s above es t r)
  ]

own_holds : (s : StmtSite) (es : List Expr) (t : ExprSite) → Contains (all_sites s es) t → Holds (all_sites s es) t
own_holds s [] t h = absurd (none_contained t h)
own_holds s (e ∷ es) t h = elim (Contains-append_cases (expr_sites s [] e) (all_sites s es) t h) [
  | inl l ↦ left_holds (expr_sites s [] e) (all_sites s es) t (part_holds s [] e t l)
  | inr r ↦ right_holds (expr_sites s [] e) (all_sites s es) t (own_holds s es t r)
]

batch_holds : (ss : List StmtSite) (t : ExprSite) → Contains (exprs_of ss) t → Holds (exprs_of ss) t
batch_holds [] t h = absurd (none_contained t h)
batch_holds (s ∷ ss) t h = elim (Contains-append_cases (all_sites s (own s.stmt)) (exprs_of ss) t h) [
  | inl l ↦ left_holds (all_sites s (own s.stmt)) (exprs_of ss) t (own_holds s (own s.stmt) t l)
  | inr r ↦ right_holds (all_sites s (own s.stmt)) (exprs_of ss) t (batch_holds ss t r)
]

-- the parts of an expression of a batch are expressions of it
pub parts_stand : (ss : List StmtSite) (s : ExprSite) → Contains (exprs_of ss) s → (t : ExprSite) → Contains (expr_sites s.stands s.above s.expr) t → Contains (exprs_of ss) t
unfolding Holds
parts_stand ss s h = batch_holds ss s h

-- a bad part of an expression has a site among its sites
record SiteIn (s : StmtSite) (es : List ExprSite) (e : Expr) : Type 0 where
  pub above : List Over
  pub is : Contains es (record { stands = s; above = above; expr = e })

in_left : (s : StmtSite) (as' bs : List ExprSite) (e : Expr) → SiteIn s as' e → SiteIn s (as' ++ bs) e
in_left s as' bs e h = record { above = h.above; is = Contains-append_left as' bs _ h.is }

in_right : (s : StmtSite) (as' bs : List ExprSite) (e : Expr) → SiteIn s bs e → SiteIn s (as' ++ bs) e
in_right s as' bs e h = record { above = h.above; is = Contains-append_right as' bs _ h.is }

in_more : (s : StmtSite) (u : ExprSite) (es : List ExprSite) (e : Expr) → SiteIn s es e → SiteIn s (u ∷ es) e
in_more s u es e h = record { above = h.above; is = more_contained u es _ h.is }

first_site : (s : StmtSite) (above : List Over) (e : Expr) → Contains (expr_sites s above e) (record { stands = s; above = above; expr = e })
first_site s above (Lit at value) = first_contained _ []
first_site s above (Name at name) = first_contained _ []
first_site s above (This at) = first_contained _ []
first_site s above (Unary at op a) = first_contained _ _
first_site s above (Binary at op a b) = first_contained _ _
first_site s above (Field at a name) = first_contained _ _
first_site s above (Call at a method args) = first_contained _ _
first_site s above (Index at a b) = first_contained _ _
first_site s above (New at class args) = first_contained _ _
first_site s above (Items at item items) = first_contained _ _
first_site s above (Taken at step) = first_contained _ []

alone_in : (s : StmtSite) (above : List Over) (e u : Expr) → Contains (e ∷ []) u → SiteIn s (expr_sites s above e) u
alone_in s above e u h = elim (contained_cases e [] u h) [
  | inl is ↦ subst (SiteIn s (expr_sites s above e)) is (record { above = above; is = first_site s above e })
  | inr n ↦ absurd (none_contained u n)
]

unless_in : (s : StmtSite) (above : List Over) (known : Bool) (e u : Expr) → Contains (cond known [] (e ∷ [])) u → SiteIn s (expr_sites s above e) u
unless_in s above true e u h = absurd (none_contained u h)
unless_in s above false e u h = alone_in s above e u h

bad_stands : (x : Facts) (s : StmtSite) (above : List Over) (e u : Expr) → Contains (bad_in x s.scope e) u → SiteIn s (expr_sites s above e) u
bad_stands x s above (Lit at value) u h = absurd (none_contained u h)
bad_stands x s above (Name at name) u h = unless_in s above (portable x s.scope (Name at name)) (Name at name) u h
bad_stands x s above (This at) u h = alone_in s above (This at) u h
bad_stands x s above (Unary at op a) u h = in_more s _ _ u (bad_stands x s (record { expr = (Unary at op a); right = false } ∷ above) a u h)
bad_stands x s above (Binary at op a b) u h =
    in_more s _ _ u (elim (Contains-append_cases (bad_in x s.scope a) (bad_in x s.scope b) u h) [
      | inl l ↦ in_left s (expr_sites s (record { expr = (Binary at op a b); right = false } ∷ above) a) (expr_sites s (record { expr = (Binary at op a b); right = true } ∷ above) b) u (bad_stands x s (record { expr = (Binary at op a b); right = false } ∷ above) a u l)
      | inr r ↦ in_right s (expr_sites s (record { expr = (Binary at op a b); right = false } ∷ above) a) (expr_sites s (record { expr = (Binary at op a b); right = true } ∷ above) b) u (bad_stands x s (record { expr = (Binary at op a b); right = true } ∷ above) b u r)
    ])
bad_stands x s above (Field at a name) u h = alone_in s above (Field at a name) u h
bad_stands x s above (Call at a method args) u h = unless_in s above (is_remote x a) (Call at a method args) u h
bad_stands x s above (Index at a b) u h = alone_in s above (Index at a b) u h
bad_stands x s above (New at class args) u h = alone_in s above (New at class args) u h
bad_stands x s above (Items at item items) u h = alone_in s above (Items at item items) u h
bad_stands x s above (Taken at step) u h = alone_in s above (Taken at step) u h

all_bad_stand : (x : Facts) (s : StmtSite) (above : List Over) (es : Exprs) (u : Expr) → Contains (all_bad_in x s.scope es) u → SiteIn s (exprs_sites s above es) u
all_bad_stand x s above NoExprs u h = absurd (none_contained u h)
all_bad_stand x s above (MoreExprs e es) u h = elim (Contains-append_cases (bad_in x s.scope e) (all_bad_in x s.scope es) u h) [
  | inl l ↦ in_left s (expr_sites s above e) (exprs_sites s above es) u (bad_stands x s above e u l)
  | inr r ↦ in_right s (expr_sites s above e) (exprs_sites s above es) u (all_bad_stand x s above es u r)
]

where_bad : (remote : Bool) (es : List Expr) (u : Expr) → Contains (cond remote es []) u → Contains es u
where_bad true es u h = h
where_bad false es u h = absurd (none_contained u h)

call_bad : (x : Facts) (s : StmtSite) (above : List Over) (e u : Expr) → Contains (bad_of_call x s.scope e) u → SiteIn s (expr_sites s above e) u
call_bad x s above (Lit at value) u h = absurd (none_contained u h)
call_bad x s above (Name at name) u h = absurd (none_contained u h)
call_bad x s above (This at) u h = absurd (none_contained u h)
call_bad x s above (Unary at op a) u h = absurd (none_contained u h)
call_bad x s above (Binary at op a b) u h = absurd (none_contained u h)
call_bad x s above (Field at a name) u h = absurd (none_contained u h)
call_bad x s above (Call at a method args) u h =
    in_more s _ _ u (elim (Contains-append_cases (bad_in x s.scope a) (all_bad_in x s.scope args) u (where_bad (is_remote x a) _ u h)) [
      | inl l ↦ in_left s (expr_sites s (record { expr = (Call at a method args); right = false } ∷ above) a) (exprs_sites s (record { expr = (Call at a method args); right = false } ∷ above) args) u (bad_stands x s (record { expr = (Call at a method args); right = false } ∷ above) a u l)
      | inr r ↦ in_right s (expr_sites s (record { expr = (Call at a method args); right = false } ∷ above) a) (exprs_sites s (record { expr = (Call at a method args); right = false } ∷ above) args) u (all_bad_stand x s (record { expr = (Call at a method args); right = false } ∷ above) args u r)
    ])
call_bad x s above (Index at a b) u h = absurd (none_contained u h)
call_bad x s above (New at class args) u h = absurd (none_contained u h)
call_bad x s above (Items at item items) u h = absurd (none_contained u h)
call_bad x s above (Taken at step) u h = absurd (none_contained u h)

loop_bad : (x : Facts) (s : StmtSite) (t : Stmt) (u : Expr) → Contains (bad_of_loop x s.scope t) u → SiteIn s (all_sites s (own t)) u
loop_bad x s (Val at name e) u h = absurd (none_contained u h)
loop_bad x s (Var at name e) u h = absurd (none_contained u h)
loop_bad x s (Assign at a b) u h = absurd (none_contained u h)
loop_bad x s (Run at e) u h = absurd (none_contained u h)
loop_bad x s (Print at e) u h = absurd (none_contained u h)
loop_bad x s (Throw at e) u h = absurd (none_contained u h)
loop_bad x s (If at c a b) u h = absurd (none_contained u h)
loop_bad x s (While at c a) u h = absurd (none_contained u h)
loop_bad x s (For at name e a) u h = in_left s (expr_sites s [] e) [] u (bad_stands x s [] e u (where_bad (over_rows x e) _ u h))
loop_bad x s (Try at a name b) u h = absurd (none_contained u h)
loop_bad x s (Batch at interface root a) u h = absurd (none_contained u h)

-- a bad part is an expression of the batch, by its site
record PartAt (x : Facts) (ss : List StmtSite) (u : BadPart) : Type 0 where
  pub site : ExprSite
  pub is : Contains (exprs_of ss) site
  pub part : bad_part x site.stands site.expr ≡ u

part_given : (x : Facts) (s : StmtSite) (es : List Expr) (u : BadPart) → Contains (parts_in x s es) u → (e : Expr) × Contains es e × (bad_part x s e ≡ u)
part_given x s es u h =
    let g = given_by (λ e. bad_part x s e ∷ []) es u h in
    (g.by, g.is, elim (contained_cases (bad_part x s g.by) [] u g.gives) [ inl e ↦ e | inr n ↦ absurd (none_contained u n) ])

part_at : (x : Facts) (ss : List StmtSite) (u : BadPart) → Contains (bad_parts x ss) u → PartAt x ss u
unfolding Holds
part_at x ss u h = elim (Contains-append_cases (flat_map (λ s. parts_in x s (bad_of_loop x s.scope s.stmt)) ss) (flat_map (λ e. parts_in x e.stands (bad_of_call x e.stands.scope e.expr)) (exprs_of ss)) u h) [
  | inl a ↦
      let g = given_by (λ s. parts_in x s (bad_of_loop x s.scope s.stmt)) ss u a in
      let p = part_given x g.by (bad_of_loop x g.by.scope g.by.stmt) u g.gives in
      let there = loop_bad x g.by g.by.stmt p.0 p.1 in
      record { site = record { stands = g.by; above = there.above; expr = p.0 }; is = owned ss g.by _ g.is there.is; part = p.2 }
  | inr b ↦
      let g = given_by (λ e. parts_in x e.stands (bad_of_call x e.stands.scope e.expr)) (exprs_of ss) u b in
      let p = part_given x g.by.stands (bad_of_call x g.by.stands.scope g.by.expr) u g.gives in
      let there = call_bad x g.by.stands g.by.above g.by.expr p.0 p.1 in
      record { site = record { stands = g.by.stands; above = there.above; expr = p.0 }; is = batch_holds ss g.by g.is _ there.is; part = p.2 }
]

parts_once : (x : Facts) (ss : List StmtSite) → Once ss → (u v : BadPart) → Contains (bad_parts x ss) u → Contains (bad_parts x ss) v → u.at ≡ v.at → u ≡ v
parts_once x ss once u v hu hv e =
    let p = part_at x ss u hu in
    let q = part_at x ss v hv in
    let at : site_at p.site ≡ site_at q.site = ap (λ w. w.at) p.part ∙ e ∙ sym (ap (λ w. w.at) q.part) in
    let same : p.site ≡ q.site = one_expr ss once p.site q.site p.is q.is at in
    sym p.part ∙ ap (λ s. bad_part x s.stands s.expr) same ∙ q.part

pub sites_differ : (x : Facts) (ss : List StmtSite) → Once ss → SitesDiffer x ss
sites_differ x ss once = record { writers = writers_once x ss once; parts = parts_once x ss once }
