-- Where no part of what is sent is bad, what is sent is portable.
use Rattle.std.proofs.Common.{◌≡◌, inl, inr, List, [], ◌∷◌, ◌++◌, Bool, true, false, ◌&&◌, cond, refl, subst}
use Rattle.std.specs.List.{Contains, flat_map}
use Rattle.std.proofs.lemmas.Bool.{and_parts}
use Rattle.std.proofs.lemmas.List.Elements.{Contains-append_left, Contains-append_right}
use Rattle.rb_trees.specs.declared.flows.BadPart.{BadPart}
use Rattle.rb_trees.specs.mirror.Code.{Expr, Exprs, Lit, Name, This, Unary, Binary, Field, Call, Index, New, Items, Taken, NoExprs, MoreExprs, Stmt, Val, Var, Assign, Run, Print, Throw, If, While, For, Try, Batch}
use Rattle.rb_meaning_flow.specs.Facts.{Facts, facts_of, is_remote, over_rows}
use Rattle.rb_meaning_flow.specs.Scopes.{Scope}
use Rattle.rb_meaning_flow.specs.Portable.{portable, all_portable}
use Rattle.rb_meaning_flow.specs.Sites.{StmtSite, Over, ExprSite, site, under, right_under, expr_sites, exprs_sites, own, all_sites, exprs_of}
use Rattle.rb_meaning_flow.specs.Flow.{bad_in, all_bad_in, bad_of_call, bad_of_loop, bad_part, bad_parts}
use Rattle.rb_flow.specs.Parts.{parts_in}
use Rattle.rb_flow.specs.Laws.{items_of, sent_by_call, sent_by_loop, AdmittedSendPortable}
use Rattle.rb_flow.proofs.Members.{none_contained, first_contained, more_contained, contained_cases, gives_all, cond_list, list_cond}
use Rattle.rb_flow.proofs.Listed.{owned}
use Rattle.rb_flow.proofs.Differ.{parts_stand}
use Rattle.rb_flow.proofs.Refused.{each_bad_part_has_a_refusal}

-- a list without items
abbrev IsEmpty : List Expr → Type 0
IsEmpty es = (u : Expr) → Contains es u → ⊥

none_left : (as' bs : List Expr) → IsEmpty (as' ++ bs) → IsEmpty as'
none_left as' bs h u m = h u (Contains-append_left as' bs u m)

none_right : (as' bs : List Expr) → IsEmpty (as' ++ bs) → IsEmpty bs
none_right as' bs h u m = h u (Contains-append_right as' bs u m)

none_where : (known : Bool) (es : List Expr) → IsEmpty (cond known es []) → known ≡ true → IsEmpty es
none_where known es h is u m = h u (list_cond known es u is m)

-- what is bad unless it is known is known
unless_bad : (known : Bool) (e : Expr) → IsEmpty (cond known [] (e ∷ [])) → known ≡ true
unless_bad true e h = refl
unless_bad false e h = absurd (h e (first_contained e []))

none_known : (known : Bool) (e : Expr) → known ≡ true → IsEmpty (cond known [] (e ∷ []))
none_known true e is u m = none_contained u m
none_known false e is u m = absurd (let wrong : false ≡ true = is in cc)

both : (a b : Bool) → a ≡ true → b ≡ true → (a && b) ≡ true
both true b h g = g
both false b h g = h

-- no remote call at these sites is sent a bad part
abbrev Clean : Facts → List ExprSite → Type 0
Clean x es = (t : ExprSite) → Contains es t → IsEmpty (bad_of_call x t.stands.scope t.expr)

clean_left : (x : Facts) (as' bs : List ExprSite) → Clean x (as' ++ bs) → Clean x as'
clean_left x as' bs h t m = h t (Contains-append_left as' bs t m)

clean_right : (x : Facts) (as' bs : List ExprSite) → Clean x (as' ++ bs) → Clean x bs
clean_right x as' bs h t m = h t (Contains-append_right as' bs t m)

clean_more : (x : Facts) (s : ExprSite) (es : List ExprSite) → Clean x (s ∷ es) → Clean x es
clean_more x s es h t m = h t (more_contained s es t m)

-- an expression without bad parts, whose remote calls are sent none, is portable
mutual
  portable_whole : (x : Facts) (s : StmtSite) (above : List Over) (e : Expr) → Clean x (expr_sites s above e) → IsEmpty (bad_in x s.scope e) → portable x s.scope e ≡ true
  portable_whole x s above (Lit at value) clean none = refl
  portable_whole x s above (Name at name) clean none = unless_bad (portable x s.scope (Name at name)) (Name at name) none
  portable_whole x s above (This at) clean none = absurd (none (This at) (first_contained (This at) []))
  portable_whole x s above (Unary at op a) clean none =
      let e : Expr = Unary at op a in
      portable_whole x s (under e above) a (clean_more x (site s above e) (expr_sites s (under e above) a) clean) none
  portable_whole x s above (Binary at op a b) clean none =
      let e : Expr = Binary at op a b in
      let left : List ExprSite = expr_sites s (under e above) a in
      let right : List ExprSite = expr_sites s (right_under e above) b in
      let parts : Clean x (left ++ right) = clean_more x (site s above e) (left ++ right) clean in
      both (portable x s.scope a) (portable x s.scope b)
      (portable_whole x s (under e above) a (clean_left x left right parts) (none_left (bad_in x s.scope a) (bad_in x s.scope b) none))
      (portable_whole x s (right_under e above) b (clean_right x left right parts) (none_right (bad_in x s.scope a) (bad_in x s.scope b) none))
  portable_whole x s above (Field at a name) clean none = absurd (none (Field at a name) (first_contained (Field at a name) []))
  portable_whole x s above (Call at a method args) clean none =
      let e : Expr = Call at a method args in
      let left : List ExprSite = expr_sites s (under e above) a in
      let right : List ExprSite = exprs_sites s (under e above) args in
      let parts : Clean x (left ++ right) = clean_more x (site s above e) (left ++ right) clean in
      let remote : is_remote x a ≡ true = unless_bad (is_remote x a) e none in
      let sent : IsEmpty (bad_in x s.scope a ++ all_bad_in x s.scope args) =
      none_where (is_remote x a) (bad_in x s.scope a ++ all_bad_in x s.scope args) (clean (site s above e) (first_contained (site s above e) (left ++ right))) remote in
      both (is_remote x a && portable x s.scope a) (all_portable x s.scope args)
      (both (is_remote x a) (portable x s.scope a) remote
      (portable_whole x s (under e above) a (clean_left x left right parts) (none_left (bad_in x s.scope a) (all_bad_in x s.scope args) sent)))
      (portable_parts x s (under e above) args (clean_right x left right parts) (none_right (bad_in x s.scope a) (all_bad_in x s.scope args) sent))
  portable_whole x s above (Index at a b) clean none = absurd (none (Index at a b) (first_contained (Index at a b) []))
  portable_whole x s above (New at class args) clean none = absurd (none (New at class args) (first_contained (New at class args) []))
  portable_whole x s above (Items at item items) clean none = absurd (none (Items at item items) (first_contained (Items at item items) []))
  portable_whole x s above (Taken at step) clean none = absurd (none (Taken at step) (first_contained (Taken at step) []))

  portable_parts : (x : Facts) (s : StmtSite) (above : List Over) (es : Exprs) → Clean x (exprs_sites s above es) → IsEmpty (all_bad_in x s.scope es) → all_portable x s.scope es ≡ true
  portable_parts x s above NoExprs clean none = refl
  portable_parts x s above (MoreExprs e es) clean none =
      both (portable x s.scope e) (all_portable x s.scope es)
      (portable_whole x s above e (clean_left x (expr_sites s above e) (exprs_sites s above es) clean) (none_left (bad_in x s.scope e) (all_bad_in x s.scope es) none))
      (portable_parts x s above es (clean_right x (expr_sites s above e) (exprs_sites s above es) clean) (none_right (bad_in x s.scope e) (all_bad_in x s.scope es) none))

each_portable : (x : Facts) (scope : Scope) (es : Exprs) → all_portable x scope es ≡ true → (e : Expr) → Contains (items_of es) e → portable x scope e ≡ true
each_portable x scope NoExprs h e m = absurd (none_contained e m)
each_portable x scope (MoreExprs f es) h e m =
    let parts = and_parts (portable x scope f) (all_portable x scope es) h in
    elim (contained_cases f (items_of es) e m) [
      | inl same ↦ subst (λ g. portable x scope g ≡ true) same parts.0
      | inr more ↦ each_portable x scope es parts.1 e more
    ]

call_sends : (x : Facts) (s : StmtSite) (above : List Over) (f : Expr) → Clean x (expr_sites s above f) → (e : Expr) → Contains (sent_by_call x f) e → portable x s.scope e ≡ true
call_sends x s above (Lit at value) clean e m = absurd (none_contained e m)
call_sends x s above (Name at name) clean e m = absurd (none_contained e m)
call_sends x s above (This at) clean e m = absurd (none_contained e m)
call_sends x s above (Unary at op a) clean e m = absurd (none_contained e m)
call_sends x s above (Binary at op a b) clean e m = absurd (none_contained e m)
call_sends x s above (Field at a name) clean e m = absurd (none_contained e m)
call_sends x s above (Call at a method args) clean e m =
    let there = cond_list (is_remote x a) (a ∷ items_of args) e m in
    let whole = portable_whole x s above (Call at a method args) clean (none_known (is_remote x a) (Call at a method args) there.0) in
    let parts = and_parts (is_remote x a && portable x s.scope a) (all_portable x s.scope args) whole in
    elim (contained_cases a (items_of args) e there.1) [
      | inl same ↦ subst (λ g. portable x s.scope g ≡ true) same (and_parts (is_remote x a) (portable x s.scope a) parts.0).1
      | inr more ↦ each_portable x s.scope args parts.1 e more
    ]
call_sends x s above (Index at a b) clean e m = absurd (none_contained e m)
call_sends x s above (New at class args) clean e m = absurd (none_contained e m)
call_sends x s above (Items at item items) clean e m = absurd (none_contained e m)
call_sends x s above (Taken at step) clean e m = absurd (none_contained e m)

loop_sends : (x : Facts) (s : StmtSite) (t : Stmt) → Clean x (all_sites s (own t)) → IsEmpty (bad_of_loop x s.scope t) → (e : Expr) → Contains (sent_by_loop x t) e → portable x s.scope e ≡ true
loop_sends x s (Val at name a) clean none e m = absurd (none_contained e m)
loop_sends x s (Var at name a) clean none e m = absurd (none_contained e m)
loop_sends x s (Assign at a b) clean none e m = absurd (none_contained e m)
loop_sends x s (Run at a) clean none e m = absurd (none_contained e m)
loop_sends x s (Print at a) clean none e m = absurd (none_contained e m)
loop_sends x s (Throw at a) clean none e m = absurd (none_contained e m)
loop_sends x s (If at c a b) clean none e m = absurd (none_contained e m)
loop_sends x s (While at c a) clean none e m = absurd (none_contained e m)
loop_sends x s (For at name list a) clean none e m =
    let there = cond_list (over_rows x list) (list ∷ []) e m in
    let whole = portable_whole x s [] list (clean_left x (expr_sites s [] list) [] clean) (none_where (over_rows x list) (bad_in x s.scope list) none there.0) in
    elim (contained_cases list [] e there.1) [
      | inl same ↦ subst (λ g. portable x s.scope g ≡ true) same whole
      | inr more ↦ absurd (none_contained e more)
    ]
loop_sends x s (Try at a name b) clean none e m = absurd (none_contained e m)
loop_sends x s (Batch at interface root a) clean none e m = absurd (none_contained e m)

-- the bad parts of a batch, of its loops and of its calls
abbrev loop_parts : Facts → StmtSite → List BadPart
loop_parts x s = parts_in x s (bad_of_loop x s.scope s.stmt)

abbrev call_parts : Facts → ExprSite → List BadPart
call_parts x s = parts_in x s.stands (bad_of_call x s.stands.scope s.expr)

part_among : (x : Facts) (s : StmtSite) (es : List Expr) (u : Expr) → Contains es u → Contains (parts_in x s es) (bad_part x s u)
part_among x s es u m = gives_all (λ e. bad_part x s e ∷ []) es u (bad_part x s u) m (first_contained (bad_part x s u) [])

NoParts : Facts → List StmtSite → Type 0
NoParts x ss = (u : BadPart) → Contains (bad_parts x ss) u → ⊥

calls_clean : (x : Facts) (ss : List StmtSite) → NoParts x ss → Clean x (exprs_of ss)
unfolding NoParts
calls_clean x ss none t h u m =
    let part = bad_part x t.stands u in
    none part (Contains-append_right (flat_map (loop_parts x) ss) (flat_map (call_parts x) (exprs_of ss)) part
    (gives_all (call_parts x) (exprs_of ss) t part h (part_among x t.stands (bad_of_call x t.stands.scope t.expr) u m)))

loops_clean : (x : Facts) (ss : List StmtSite) → NoParts x ss → (s : StmtSite) → Contains ss s → IsEmpty (bad_of_loop x s.scope s.stmt)
unfolding NoParts
loops_clean x ss none s h u m =
    let part = bad_part x s u in
    none part (Contains-append_left (flat_map (loop_parts x) ss) (flat_map (call_parts x) (exprs_of ss)) part
    (gives_all (loop_parts x) ss s part h (part_among x s (bad_of_loop x s.scope s.stmt) u m)))

no_parts : (x : Facts) (ss : List StmtSite) → ((u : BadPart) → Contains (bad_parts x ss) u → ⊥) → NoParts x ss
unfolding NoParts
no_parts x ss h = h

pub admitted_send_portable : AdmittedSendPortable
admitted_send_portable p lawful none ss batch =
    let x = facts_of p in
    let clear = no_parts x ss (λ u h. let r = each_bad_part_has_a_refusal p lawful ss batch u h in none r.0 r.1) in
    let clean = calls_clean x ss clear in
    record {
      calls = λ s h e m. call_sends x s.stands s.above s.expr (λ t k. clean t (parts_stand ss s h t k)) e m;
      loops = λ s h e m. loop_sends x s s.stmt (λ t k. clean t (owned ss s t h k)) (loops_clean x ss clear s h) e m;
    }
