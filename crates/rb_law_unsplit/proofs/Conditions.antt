-- Without refusals a condition is portable above branches that hold a remote operation.
use Rattle.std.proofs.Common.{◌≡◌, ◌⊎◌, inl, inr, refl, sym, subst, ℕ, List, [], ◌∷◌, ◌++◌, Bool as Truth, true, false, ◌||◌, cond}
use Rattle.std.specs.List.{Contains, flat_map}
use Rattle.rb_trees.specs.declared.refusals.Refusal.{Refusal}
use Rattle.rb_trees.specs.declared.refusals.Refusal.TheVariants as refusal
use Rattle.rb_trees.specs.mirror.Code.{Expr, Exprs, Lit, Name, This, Unary, Binary, Field, Call, Index, New, Items, Taken, NoExprs, MoreExprs, expr_at, Stmt, Stmts, Val, Var, Assign, Run, Print, Throw, If, While, For, Try, Batch, NoStmts, MoreStmts}
use Rattle.rb_meaning_flow.specs.declared.scopes.Role.{Role}
use Rattle.rb_meaning_flow.specs.Facts.{Facts, is_remote, over_rows}
use Rattle.rb_meaning_flow.specs.Scopes.{Scope, with_variable}
use Rattle.rb_meaning_flow.specs.Portable.{portable, holds_call, any_holds_call, holds_operation, block_holds, branches_hold}
use Rattle.rb_meaning_flow.specs.Sites.{Around, Branch, WhileTurn, Turn, InTry, InBatch, StmtSite, Over, site, under, right_under, expr_sites, exprs_sites, own, all_sites, turn_role, scope_after, stmt_site, sites, block_sites, exprs_of}
use Rattle.rb_meaning_flow.specs.Refusals.{operand_condition, while_condition, frame_condition, expr_conditions, stmt_conditions, StandsFirst, IsRefusal}
use Rattle.rb_law_types.proofs.SitesWithin.{Within, within_left, within_right, within_tail, site_first, stmt_first, own_among, first_among}

or_cases : (a b : Truth) → (a || b) ≡ true → (a ≡ true) ⊎ (b ≡ true)
or_cases true b h = inl refl
or_cases false b h = inr h

abbrev NonEmpty : List ℕ → Type 0
NonEmpty xs = (q : ℕ) × StandsFirst q xs

some_more : (xs ys : List ℕ) → NonEmpty ys → NonEmpty (xs ++ ys)
some_more [] ys h = h
some_more (x ∷ xs) ys h = (x, refl)

module _ (f : Facts) (ss : List StmtSite) (none : (r : Refusal) → IsRefusal f ss r → ⊥) where
  -- a local condition stands around
  abbrev Under : List Around → Type 0
  Under around = NonEmpty (flat_map (frame_condition f) around)

  call_refused : (s : StmtSite) (above : List Over) (at : ℕ) (a : Expr) (method : List ℕ) (args : Exprs) → Under s.around → Contains (exprs_of ss) (site s above (Call at a method args)) → is_remote f a ≡ true → ⊥
  call_refused s above at a method args around is remote =
      let e = site s above (Call at a method args) in
      let first = some_more (flat_map (λ o. operand_condition f e.stands.scope o.right o.expr) e.above ++ while_condition e.stands.stmt) (flat_map (frame_condition f) s.around) around in
      none (refusal.UnderLocalCondition first.0 at) (expr_conditions f e, s.around, inl (e, is, remote, refl, refl, refl), first.1)

  mutual
    expr_refused : (s : StmtSite) (above : List Over) (e : Expr) → Under s.around → Within (expr_sites s above e) (exprs_of ss) → holds_call f e ≡ true → ⊥
    expr_refused s above (Lit at value) u w h = absurd (cc (h))
    expr_refused s above (Name at name) u w h = absurd (cc (h))
    expr_refused s above (This at) u w h = absurd (cc (h))
    expr_refused s above (Unary at op a) u w h = expr_refused s (under (Unary at op a) above) a u (within_tail _ _ _ w) h
    expr_refused s above (Binary at op a b) u w h =
        let t = within_tail _ _ _ w in
        elim (or_cases (holds_call f a) (holds_call f b) h) [
          | inl l ↦ expr_refused s (under (Binary at op a b) above) a u (within_left _ (expr_sites s (right_under (Binary at op a b) above) b) _ t) l
          | inr r ↦ expr_refused s (right_under (Binary at op a b) above) b u (within_right (expr_sites s (under (Binary at op a b) above) a) _ _ t) r
        ]
    expr_refused s above (Field at a name) u w h = expr_refused s (under (Field at a name) above) a u (within_tail _ _ _ w) h
    expr_refused s above (Call at a method args) u w h =
        let t = within_tail _ _ _ w in
        let o = under (Call at a method args) above in
        elim (or_cases (is_remote f a || holds_call f a) (any_holds_call f args) h) [
          | inl l ↦ elim (or_cases (is_remote f a) (holds_call f a) l) [
            | inl remote ↦ call_refused s above at a method args u (w (site s above (Call at a method args)) (site_first s above (Call at a method args))) remote
            | inr inside ↦ expr_refused s o a u (within_left _ (exprs_sites s o args) _ t) inside
          ]
          | inr r ↦ exprs_refused s o args u (within_right (expr_sites s o a) _ _ t) r
        ]
    expr_refused s above (Index at a b) u w h =
        let t = within_tail _ _ _ w in
        let o = under (Index at a b) above in
        elim (or_cases (holds_call f a) (holds_call f b) h) [
          | inl l ↦ expr_refused s o a u (within_left _ (expr_sites s o b) _ t) l
          | inr r ↦ expr_refused s o b u (within_right (expr_sites s o a) _ _ t) r
        ]
    expr_refused s above (New at class args) u w h = exprs_refused s (under (New at class args) above) args u (within_tail _ _ _ w) h
    expr_refused s above (Items at item items) u w h = exprs_refused s (under (Items at item items) above) items u (within_tail _ _ _ w) h
    expr_refused s above (Taken at step) u w h = absurd (cc (h))

    exprs_refused : (s : StmtSite) (above : List Over) (es : Exprs) → Under s.around → Within (exprs_sites s above es) (exprs_of ss) → any_holds_call f es ≡ true → ⊥
    exprs_refused s above NoExprs u w h = absurd (cc (h))
    exprs_refused s above (MoreExprs e es) u w h = elim (or_cases (holds_call f e) (any_holds_call f es) h) [
      | inl l ↦ expr_refused s above e u (within_left _ (exprs_sites s above es) _ w) l
      | inr r ↦ exprs_refused s above es u (within_right (expr_sites s above e) _ _ w) r
    ]

  one_refused : (around : List Around) (vs : Scope) (s : Stmt) (e : Expr) (es : List Expr) → own s ≡ e ∷ es → Under around → Within (sites f around vs s) ss → holds_call f e ≡ true → ⊥
  one_refused around vs s e es first u w h = expr_refused (stmt_site around vs s) [] e u (first_among f ss around vs s e es first w) h

  loop_refused : (around : List Around) (vs : Scope) (at : ℕ) (name : List ℕ) (e : Expr) (a : Stmts) → Under around → Within (sites f around vs (For at name e a)) ss → over_rows f e ≡ true → ⊥
  loop_refused around vs at name e a u w h =
      let s = stmt_site around vs (For at name e a) in
      none (refusal.UnderLocalCondition u.0 at) (stmt_conditions f s, around, inr (s, w s (stmt_first f around vs (For at name e a)), h, refl, refl, refl), u.1)

  mutual
    stmt_refused : (around : List Around) (vs : Scope) (s : Stmt) → Under around → Within (sites f around vs s) ss → holds_operation f s ≡ true → ⊥
    stmt_refused around vs (Val at name e) u w h = one_refused around vs (Val at name e) e [] refl u w h
    stmt_refused around vs (Var at name e) u w h = one_refused around vs (Var at name e) e [] refl u w h
    stmt_refused around vs (Assign at a b) u w h =
        let s = stmt_site around vs (Assign at a b) in
        let all = own_among f ss around vs (Assign at a b) w in
        elim (or_cases (holds_call f a) (holds_call f b) h) [
          | inl l ↦ one_refused around vs (Assign at a b) a (b ∷ []) refl u w l
          | inr r ↦ expr_refused s [] b u (within_left (expr_sites s [] b) [] _ (within_right (expr_sites s [] a) (all_sites s (b ∷ [])) _ all)) r
        ]
    stmt_refused around vs (Run at e) u w h = one_refused around vs (Run at e) e [] refl u w h
    stmt_refused around vs (Print at e) u w h = one_refused around vs (Print at e) e [] refl u w h
    stmt_refused around vs (Throw at e) u w h = one_refused around vs (Throw at e) e [] refl u w h
    stmt_refused around vs (If at c a b) u w h =
        let frame = Branch at vs c a b ∷ around in
        let inside = some_more (frame_condition f (Branch at vs c a b)) (flat_map (frame_condition f) around) u in
        let rest = within_tail _ _ _ w in
        elim (or_cases (holds_call f c || block_holds f a) (block_holds f b) h) [
          | inl l ↦ elim (or_cases (holds_call f c) (block_holds f a) l) [
            | inl call ↦ one_refused around vs (If at c a b) c [] refl u w call
            | inr block ↦ block_refused frame vs a inside (within_left (block_sites f frame vs a) (block_sites f frame vs b) _ rest) block
          ]
          | inr r ↦ block_refused frame vs b inside (within_right (block_sites f frame vs a) (block_sites f frame vs b) _ rest) r
        ]
    stmt_refused around vs (While at c a) u w h = elim (or_cases (holds_call f c) (block_holds f a) h) [
      | inl call ↦ one_refused around vs (While at c a) c [] refl u w call
      | inr block ↦ block_refused (WhileTurn at vs c ∷ around) vs a (some_more (frame_condition f (WhileTurn at vs c)) (flat_map (frame_condition f) around) u) (within_tail _ _ _ w) block
    ]
    stmt_refused around vs (For at name e a) u w h = elim (or_cases (over_rows f e || holds_call f e) (block_holds f a) h) [
      | inl l ↦ elim (or_cases (over_rows f e) (holds_call f e) l) [
        | inl rows ↦ loop_refused around vs at name e a u w rows
        | inr call ↦ one_refused around vs (For at name e a) e [] refl u w call
      ]
      | inr block ↦ block_refused (Turn at vs e a ∷ around) (with_variable vs name (turn_role f around vs e a) at) a (some_more (frame_condition f (Turn at vs e a)) (flat_map (frame_condition f) around) u) (within_tail _ _ _ w) block
    ]
    stmt_refused around vs (Try at a name b) u w h =
        let frame = InTry at vs a name b ∷ around in
        let caught = with_variable vs name Role.Plain at in
        let rest = within_tail _ _ _ w in
        elim (or_cases (block_holds f a) (block_holds f b) h) [
          | inl l ↦ block_refused frame vs a u (within_left (block_sites f frame vs a) (block_sites f frame caught b) _ rest) l
          | inr r ↦ block_refused frame caught b u (within_right (block_sites f frame vs a) (block_sites f frame caught b) _ rest) r
        ]
    stmt_refused around vs (Batch at interface root a) u w h = block_refused (InBatch at ∷ around) (with_variable vs root Role.Plain at) a u (within_tail _ _ _ w) h

    block_refused : (around : List Around) (vs : Scope) (block : Stmts) → Under around → Within (block_sites f around vs block) ss → block_holds f block ≡ true → ⊥
    block_refused around vs NoStmts u w h = absurd (cc (h))
    block_refused around vs (MoreStmts s rest) u w h = elim (or_cases (holds_operation f s) (block_holds f rest) h) [
      | inl l ↦ stmt_refused around vs s u (within_left (sites f around vs s) (block_sites f around (scope_after f around vs s) rest) _ w) l
      | inr r ↦ block_refused around (scope_after f around vs s) rest u (within_right (sites f around vs s) (block_sites f around (scope_after f around vs s) rest) _ w) r
    ]

  pub condition_portable : (around : List Around) (vs : Scope) (at : ℕ) (c : Expr) (a b : Stmts) → Within (sites f around vs (If at c a b)) ss → branches_hold f a b ≡ true → portable f vs c ≡ true
  condition_portable around vs at c a b w h = by (portable f vs c) refl
    where
      frame : List Around
      frame = Branch at vs c a b ∷ around

      inside : portable f vs c ≡ false → Under frame
      inside e = (expr_at c, subst (λ t. StandsFirst (expr_at c) (cond t [] (expr_at c ∷ []) ++ flat_map (frame_condition f) around)) (sym e) refl)

      rest : Within (block_sites f frame vs a ++ block_sites f frame vs b) ss
      rest = within_tail _ _ _ w

      by : (t : Truth) → portable f vs c ≡ t → t ≡ true
      by true e = refl
      by false e = elim (or_cases (block_holds f a) (block_holds f b) h) [
        | inl l ↦ absurd (block_refused frame vs a (inside e) (within_left (block_sites f frame vs a) (block_sites f frame vs b) _ rest) l)
        | inr r ↦ absurd (block_refused frame vs b (inside e) (within_right (block_sites f frame vs a) (block_sites f frame vs b) _ rest) r)
      ]
