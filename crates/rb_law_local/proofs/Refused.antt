-- Without refusals no remote operation stands under a local condition, nor in a `try`.
use Rattle.std.proofs.Common.{◌≡◌, ◌⊎◌, inl, inr, refl, sym, subst, ℕ, List, [], ◌∷◌, ◌++◌, Bool as Truth, true, false, ◌&&◌, ◌||◌, cond}
use Rattle.std.specs.List.{Contains, flat_map}
use Rattle.rb_trees.specs.declared.refusals.Refusal.{Refusal}
use Rattle.rb_trees.specs.declared.refusals.Refusal.TheVariants as refusal
use Rattle.rb_trees.specs.mirror.Code.{Expr, Exprs, Lit, Name, This, Unary, Binary, Field, Call, Index, New, Items, Taken, NoExprs, MoreExprs, expr_at, Stmt, Stmts, Val, Var, Assign, Run, Print, Throw, If, While, For, Try, Batch, NoStmts, MoreStmts}
use Rattle.rb_meaning_flow.specs.declared.scopes.Role.{Role}
use Rattle.rb_meaning_flow.specs.Facts.{Facts, is_remote, over_rows}
use Rattle.rb_meaning_flow.specs.Scopes.{Scope, with_variable}
use Rattle.rb_meaning_flow.specs.Portable.{holds_call, any_holds_call, holds_operation, block_holds, is_constant_list, may_carry, has_far_turns}
use Rattle.rb_meaning_flow.specs.Sites.{Around, Branch, WhileTurn, Turn, InTry, InBatch, StmtSite, Over, site, expr_sites, exprs_sites, all_sites, own, turn_role, scope_after, stmt_site, sites, block_sites, exprs_of}
use Rattle.rb_meaning_flow.specs.Refusals.{operand_condition, while_condition, frame_condition, any_try, is_try, StandsFirst, IsRefusal}
use Rattle.rb_law_local.proofs.Uncut.{or_none}
use Rattle.rb_law_types.proofs.SitesWithin.{Within, within_left, within_right, within_tail, site_first, stmt_first, own_among, first_among}

or_cases : (a b : Truth) → (a || b) ≡ true → (a ≡ true) ⊎ (b ≡ true)
or_cases true b h = inl refl
or_cases false b h = inr h

or_right : (a b : Truth) → b ≡ true → (a || b) ≡ true
or_right true b h = refl
or_right false b h = h

pub refuted : (b : Truth) → (b ≡ true → ⊥) → b ≡ false
refuted true h = absurd (h refl)
refuted false h = refl

abbrev pub NonEmpty : List ℕ → Type 0
NonEmpty xs = (q : ℕ) × StandsFirst q xs

some_more : (xs ys : List ℕ) → NonEmpty ys → NonEmpty (xs ++ ys)
some_more [] ys h = h
some_more (x ∷ xs) ys h = (x, refl)

some_over : (ws xs ys zs : List ℕ) → NonEmpty ((xs ++ ys) ++ zs) → NonEmpty (((ws ++ xs) ++ ys) ++ zs)
some_over [] xs ys zs h = h
some_over (w ∷ ws) xs ys zs h = (w, refl)

module _ (f : Facts) (ss : List StmtSite) (none : (r : Refusal) → IsRefusal f ss r → ⊥) where
  -- the local conditions above the parts of an expression
  abbrev conditions : StmtSite → List Over → List ℕ
  conditions s above = (flat_map (λ o. operand_condition f s.scope o.right o.expr) above ++ while_condition s.stmt) ++ flat_map (frame_condition f) s.around

  -- no remote operation may stand there
  abbrev pub Bad : StmtSite → List Over → Type 0
  Bad s above = NonEmpty (conditions s above) ⊎ (any_try s.around ≡ true)

  abbrev pub BadAround : List Around → Type 0
  BadAround around = NonEmpty (flat_map (frame_condition f) around) ⊎ (any_try around ≡ true)

  bad_over : (s : StmtSite) (o : Over) (above : List Over) → Bad s above → Bad s (o ∷ above)
  bad_over s o above (inl h) = inl (some_over (operand_condition f s.scope o.right o.expr) (flat_map (λ q. operand_condition f s.scope q.right q.expr) above) (while_condition s.stmt) (flat_map (frame_condition f) s.around) h)
  bad_over s o above (inr h) = inr h

  bad_frame : (a : Around) (around : List Around) → BadAround around → BadAround (a ∷ around)
  bad_frame a around (inl h) = inl (some_more (frame_condition f a) (flat_map (frame_condition f) around) h)
  bad_frame a around (inr h) = inr (or_right (is_try a) (any_try around) h)

  bad_site : (around : List Around) (vs : Scope) (s : Stmt) → BadAround around → Bad (stmt_site around vs s) []
  bad_site around vs s (inl h) = inl (some_more (while_condition s) (flat_map (frame_condition f) around) h)
  bad_site around vs s (inr h) = inr h

  call_refused : (s : StmtSite) (above : List Over) (at : ℕ) (a : Expr) (method : List ℕ) (args : Exprs) → Bad s above → Contains (exprs_of ss) (site s above (Call at a method args)) → is_remote f a ≡ true → ⊥
  call_refused s above at a method args (inl h) is remote =
      none (refusal.UnderLocalCondition h.0 at) (conditions s above, s.around, inl (site s above (Call at a method args), is, remote, refl, refl, refl), h.1)
  call_refused s above at a method args (inr h) is remote = none (refusal.InTry at) (conditions s above, s.around, inl (site s above (Call at a method args), is, remote, refl, refl, refl), h)

  mutual
    expr_refused : (s : StmtSite) (above : List Over) (e : Expr) → Bad s above → Within (expr_sites s above e) (exprs_of ss) → holds_call f e ≡ true → ⊥
    expr_refused s above (Lit at value) u w h = absurd (cc (h))
    expr_refused s above (Name at name) u w h = absurd (cc (h))
    expr_refused s above (This at) u w h = absurd (cc (h))
    expr_refused s above (Unary at op a) u w h = let o : Over = record { expr = Unary at op a; right = false } in expr_refused s (o ∷ above) a (bad_over s o above u) (within_tail _ _ _ w) h
    expr_refused s above (Binary at op a b) u w h =
        let t = within_tail _ _ _ w in
        let o : Over = record { expr = Binary at op a b; right = false } in
        let q : Over = record { expr = Binary at op a b; right = true } in
        elim (or_cases (holds_call f a) (holds_call f b) h) [
          | inl l ↦ expr_refused s (o ∷ above) a (bad_over s o above u) (within_left _ (expr_sites s (q ∷ above) b) _ t) l
          | inr r ↦ expr_refused s (q ∷ above) b (bad_over s q above u) (within_right (expr_sites s (o ∷ above) a) _ _ t) r
        ]
    expr_refused s above (Field at a name) u w h = let o : Over = record { expr = Field at a name; right = false } in expr_refused s (o ∷ above) a (bad_over s o above u) (within_tail _ _ _ w) h
    expr_refused s above (Call at a method args) u w h =
        let t = within_tail _ _ _ w in
        let o : Over = record { expr = Call at a method args; right = false } in
        elim (or_cases (is_remote f a || holds_call f a) (any_holds_call f args) h) [
          | inl l ↦ elim (or_cases (is_remote f a) (holds_call f a) l) [
            | inl remote ↦ call_refused s above at a method args u (w (site s above (Call at a method args)) (site_first s above (Call at a method args))) remote
            | inr inside ↦ expr_refused s (o ∷ above) a (bad_over s o above u) (within_left _ (exprs_sites s (o ∷ above) args) _ t) inside
          ]
          | inr r ↦ exprs_refused s (o ∷ above) args (bad_over s o above u) (within_right (expr_sites s (o ∷ above) a) _ _ t) r
        ]
    expr_refused s above (Index at a b) u w h =
        let t = within_tail _ _ _ w in
        let o : Over = record { expr = Index at a b; right = false } in
        elim (or_cases (holds_call f a) (holds_call f b) h) [
          | inl l ↦ expr_refused s (o ∷ above) a (bad_over s o above u) (within_left _ (expr_sites s (o ∷ above) b) _ t) l
          | inr r ↦ expr_refused s (o ∷ above) b (bad_over s o above u) (within_right (expr_sites s (o ∷ above) a) _ _ t) r
        ]
    expr_refused s above (New at class args) u w h = let o : Over = record { expr = New at class args; right = false } in exprs_refused s (o ∷ above) args (bad_over s o above u) (within_tail _ _ _ w) h
    expr_refused s above (Items at item items) u w h = let o : Over = record { expr = Items at item items; right = false } in exprs_refused s (o ∷ above) items (bad_over s o above u) (within_tail _ _ _ w) h
    expr_refused s above (Taken at step) u w h = absurd (cc (h))

    exprs_refused : (s : StmtSite) (above : List Over) (es : Exprs) → Bad s above → Within (exprs_sites s above es) (exprs_of ss) → any_holds_call f es ≡ true → ⊥
    exprs_refused s above NoExprs u w h = absurd (cc (h))
    exprs_refused s above (MoreExprs e es) u w h = elim (or_cases (holds_call f e) (any_holds_call f es) h) [
      | inl l ↦ expr_refused s above e u (within_left _ (exprs_sites s above es) _ w) l
      | inr r ↦ exprs_refused s above es u (within_right (expr_sites s above e) _ _ w) r
    ]

  pub no_call : (s : StmtSite) (above : List Over) (e : Expr) → Bad s above → Within (expr_sites s above e) (exprs_of ss) → holds_call f e ≡ false
  no_call s above e u w = refuted (holds_call f e) (expr_refused s above e u w)

  one_refused : (around : List Around) (vs : Scope) (s : Stmt) (e : Expr) (es : List Expr) → own s ≡ e ∷ es → BadAround around → Within (sites f around vs s) ss → holds_call f e ≡ true → ⊥
  one_refused around vs s e es first u w h = expr_refused (stmt_site around vs s) [] e (bad_site around vs s u) (first_among f ss around vs s e es first w) h

  loop_refused : (around : List Around) (vs : Scope) (at : ℕ) (name : List ℕ) (e : Expr) (a : Stmts) → BadAround around → Within (sites f around vs (For at name e a)) ss → over_rows f e ≡ true → ⊥
  loop_refused around vs at name e a (inl u) w h =
      none (refusal.UnderLocalCondition u.0 at) (flat_map (frame_condition f) around, around, inr (stmt_site around vs (For at name e a), w (stmt_site around vs (For at name e a)) (stmt_first f around vs (For at name e a)), h, refl, refl, refl), u.1)
  loop_refused around vs at name e a (inr u) w h =
      none (refusal.InTry at) (flat_map (frame_condition f) around, around, inr (stmt_site around vs (For at name e a), w (stmt_site around vs (For at name e a)) (stmt_first f around vs (For at name e a)), h, refl, refl, refl), u)

  mutual
    stmt_refused : (around : List Around) (vs : Scope) (s : Stmt) → BadAround around → Within (sites f around vs s) ss → holds_operation f s ≡ true → ⊥
    stmt_refused around vs (Val at name e) u w h = one_refused around vs (Val at name e) e [] refl u w h
    stmt_refused around vs (Var at name e) u w h = one_refused around vs (Var at name e) e [] refl u w h
    stmt_refused around vs (Assign at a b) u w h =
        let s = stmt_site around vs (Assign at a b) in
        let all = own_among f ss around vs (Assign at a b) w in
        elim (or_cases (holds_call f a) (holds_call f b) h) [
          | inl l ↦ one_refused around vs (Assign at a b) a (b ∷ []) refl u w l
          | inr r ↦ expr_refused s [] b (bad_site around vs (Assign at a b) u) (within_left (expr_sites s [] b) [] _ (within_right (expr_sites s [] a) (all_sites s (b ∷ [])) _ all)) r
        ]
    stmt_refused around vs (Run at e) u w h = one_refused around vs (Run at e) e [] refl u w h
    stmt_refused around vs (Print at e) u w h = one_refused around vs (Print at e) e [] refl u w h
    stmt_refused around vs (Throw at e) u w h = one_refused around vs (Throw at e) e [] refl u w h
    stmt_refused around vs (If at c a b) u w h =
        let frame = Branch at vs c a b in
        let rest = within_tail _ _ _ w in
        elim (or_cases (holds_call f c || block_holds f a) (block_holds f b) h) [
          | inl l ↦ elim (or_cases (holds_call f c) (block_holds f a) l) [
            | inl call ↦ one_refused around vs (If at c a b) c [] refl u w call
            | inr block ↦ block_refused (frame ∷ around) vs a (bad_frame frame around u) (within_left (block_sites f (frame ∷ around) vs a) (block_sites f (frame ∷ around) vs b) _ rest) block
          ]
          | inr r ↦ block_refused (frame ∷ around) vs b (bad_frame frame around u) (within_right (block_sites f (frame ∷ around) vs a) (block_sites f (frame ∷ around) vs b) _ rest) r
        ]
    stmt_refused around vs (While at c a) u w h = elim (or_cases (holds_call f c) (block_holds f a) h) [
      | inl call ↦ one_refused around vs (While at c a) c [] refl u w call
      | inr block ↦ block_refused (WhileTurn at vs c ∷ around) vs a (bad_frame (WhileTurn at vs c) around u) (within_tail _ _ _ w) block
    ]
    stmt_refused around vs (For at name e a) u w h = elim (or_cases (over_rows f e || holds_call f e) (block_holds f a) h) [
      | inl l ↦ elim (or_cases (over_rows f e) (holds_call f e) l) [
        | inl rows ↦ loop_refused around vs at name e a u w rows
        | inr call ↦ one_refused around vs (For at name e a) e [] refl u w call
      ]
      | inr block ↦ block_refused (Turn at vs e a ∷ around) (with_variable vs name (turn_role f around vs e a) at) a (bad_frame (Turn at vs e a) around u) (within_tail _ _ _ w) block
    ]
    stmt_refused around vs (Try at a name b) u w h =
        let frame = InTry at vs a name b in
        let caught = with_variable vs name Role.Plain at in
        let rest = within_tail _ _ _ w in
        elim (or_cases (block_holds f a) (block_holds f b) h) [
          | inl l ↦ block_refused (frame ∷ around) vs a (bad_frame frame around u) (within_left (block_sites f (frame ∷ around) vs a) (block_sites f (frame ∷ around) caught b) _ rest) l
          | inr r ↦ block_refused (frame ∷ around) caught b (bad_frame frame around u) (within_right (block_sites f (frame ∷ around) vs a) (block_sites f (frame ∷ around) caught b) _ rest) r
        ]
    stmt_refused around vs (Batch at interface root a) u w h = block_refused (InBatch at ∷ around) (with_variable vs root Role.Plain at) a (bad_frame (InBatch at) around u) (within_tail _ _ _ w) h

    block_refused : (around : List Around) (vs : Scope) (block : Stmts) → BadAround around → Within (block_sites f around vs block) ss → block_holds f block ≡ true → ⊥
    block_refused around vs NoStmts u w h = absurd (cc (h))
    block_refused around vs (MoreStmts s rest) u w h = elim (or_cases (holds_operation f s) (block_holds f rest) h) [
      | inl l ↦ stmt_refused around vs s u (within_left (sites f around vs s) (block_sites f around (scope_after f around vs s) rest) _ w) l
      | inr r ↦ block_refused around (scope_after f around vs s) rest u (within_right (sites f around vs s) (block_sites f around (scope_after f around vs s) rest) _ w) r
    ]

  pub no_operations : (around : List Around) (vs : Scope) (block : Stmts) → BadAround around → Within (block_sites f around vs block) ss → block_holds f block ≡ false
  no_operations around vs block u w = refuted (block_holds f block) (block_refused around vs block u w)

  -- nor in a loop whose turns are the client's own
  pub no_turns : (around : List Around) (inner : Scope) (vs : Scope) (at : ℕ) (e : Expr) (a : Stmts) → has_far_turns f vs e a ≡ false → Within (block_sites f (Turn at vs e a ∷ around) inner a) ss → block_holds f a ≡ false
  no_turns around inner vs at e a own_turns w = by (is_constant_list vs e) refl parts.1
    where
      parts : (over_rows f e ≡ false) × (may_carry f vs e a ≡ false)
      parts = or_none (over_rows f e) (may_carry f vs e a) own_turns

      bad : is_constant_list vs e ≡ false → NonEmpty (flat_map (frame_condition f) (Turn at vs e a ∷ around))
      bad changing = (
        expr_at e,
        subst (λ t. StandsFirst (expr_at e) (cond (t || is_constant_list vs e) [] (expr_at e ∷ []) ++ flat_map (frame_condition f) around)) (sym parts.0)
            (subst (λ t. StandsFirst (expr_at e) (cond t [] (expr_at e ∷ []) ++ flat_map (frame_condition f) around)) (sym changing) refl),
      )

      by : (t : Truth) → is_constant_list vs e ≡ t → (t && block_holds f a) ≡ false → block_holds f a ≡ false
      by true same may = may
      by false same may = no_operations (Turn at vs e a ∷ around) inner a (inl (bad same)) w
