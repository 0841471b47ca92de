-- What is Remote in a batch is so with all its parts.
use Rattle.std.proofs.Common.{◌≡◌, ◌⊎◌, inl, inr, refl, sym, ap, ◌∙◌, subst, ℕ, List, [], ◌∷◌, ◌++◌, Bool, true, false, ◌||◌, cond, Some}
use Rattle.std.specs.List.{AllByRecursion, Contains, list_any}
use Rattle.std.proofs.lemmas.List.Elements.{Contains-append_left, Contains-append_right, Contains-append_cases}
use Rattle.rb_trees.specs.declared.marks.Mark.{Mark}
use Rattle.rb_trees.specs.mirror.Code.{Expr, Exprs, Lit, Name, This, Unary, Binary, Field, Call, Index, New, Items, Taken, NoExprs, MoreExprs, expr_at}
use Rattle.rb_trees.specs.mirror.Declarations.{Program}
use Rattle.rb_meaning_types.specs.Lawful.{IsLawful, expr_positions, exprs_positions}
use Rattle.rb_meaning_flow.specs.Facts.{Facts, facts_of}
use Rattle.rb_meaning_flow.specs.Portable.{is_constant}
use Rattle.rb_meaning_flow.specs.Marks.{is_portable_call, is_remote_whole, is_remote_at}
use Rattle.rb_meaning_flow.specs.Sites.{StmtSite, Over, ExprSite, site, under, right_under, expr_sites, exprs_sites, own, all_sites, exprs_of}
use Rattle.rb_meaning_flow.specs.Programs.{sites_of}
use Rattle.rb_meaning.specs.Unsplit.{is_remote_mark, stands_remote}
use Rattle.rb_marks.specs.Laws.{InBatches, EachHasItsMark}
use Rattle.rb_flow.proofs.Members.{first_contained, more_contained, contained_cases, none_contained}
use Rattle.rb_law_division.proofs.Lists.{all_both}

abbrev pub Inside : {A : Type 0} → List A → List A → Type 0
Inside {A = A} xs ys = (z : A) → Contains xs z → Contains ys z

-- ---- the sites of an expression hold those of its parts

-- all sites of what stands at a site
abbrev pub sites_at : ExprSite → List ExprSite
sites_at s = expr_sites s.stands s.above s.expr

-- each of these holds its parts among those
abbrev Closed : List ExprSite → List ExprSite → Type 0
Closed xs ys = (s : ExprSite) → Contains xs s → Inside (sites_at s) ys

closed_both : (xs xs' ys : List ExprSite) → Closed xs ys → Closed xs' ys → Closed (xs ++ xs') ys
closed_both xs xs' ys h g s is = by (Contains-append_cases xs xs' s is)
  where
    by : Contains xs s ⊎ Contains xs' s → Inside (sites_at s) ys
    by (inl a) = h s a
    by (inr b) = g s b

closed_more : (xs ys zs : List ExprSite) → Inside ys zs → Closed xs ys → Closed xs zs
closed_more xs ys zs f h s is z c = f z (h s is z c)

closed_first : (s : ExprSite) (xs ys : List ExprSite) → Inside (sites_at s) ys → Closed xs ys → Closed (s ∷ xs) ys
closed_first s xs ys h g t is = by (contained_cases s xs t is)
  where
    by : (s ≡ t) ⊎ Contains xs t → Inside (sites_at t) ys
    by (inl e) = subst (λ u. Inside (sites_at u) ys) e h
    by (inr m) = g t m

closed_none : (ys : List ExprSite) → Closed [] ys
closed_none ys s is = absurd (none_contained s is)

in_rest : (s : ExprSite) (xs : List ExprSite) → Inside xs (s ∷ xs)
in_rest s xs z c = more_contained s xs z c

in_left : (xs ys : List ExprSite) → Inside xs (xs ++ ys)
in_left xs ys z c = Contains-append_left xs ys z c

in_right : (xs ys : List ExprSite) → Inside ys (xs ++ ys)
in_right xs ys z c = Contains-append_right xs ys z c

same : (xs : List ExprSite) → Inside xs xs
same xs z c = c

-- the whole, and its parts, which stand among these
whole_closed : (s : ExprSite) (parts : List ExprSite) → sites_at s ≡ s ∷ parts → Closed parts parts → Closed (s ∷ parts) (s ∷ parts)
whole_closed s parts e h = closed_first s parts (s ∷ parts) (subst (λ xs. Inside xs (s ∷ parts)) (sym e) (same (s ∷ parts))) (closed_more parts parts (s ∷ parts) (in_rest s parts) h)

two_closed : (xs ys : List ExprSite) → Closed xs xs → Closed ys ys → Closed (xs ++ ys) (xs ++ ys)
two_closed xs ys h g = closed_both xs ys (xs ++ ys) (closed_more xs xs (xs ++ ys) (in_left xs ys) h) (closed_more ys ys (xs ++ ys) (in_right xs ys) g)

mutual
  expr_closed : (st : StmtSite) (above : List Over) (e : Expr) → Closed (expr_sites st above e) (expr_sites st above e)
  expr_closed st above (Lit at value) = whole_closed (site st above (Lit at value)) [] refl (closed_none [])
  expr_closed st above (Name at name) = whole_closed (site st above (Name at name)) [] refl (closed_none [])
  expr_closed st above (This at) = whole_closed (site st above (This at)) [] refl (closed_none [])
  expr_closed st above (Unary at op a) = whole_closed (site st above (Unary at op a)) (expr_sites st (under (Unary at op a) above) a) refl (expr_closed st (under (Unary at op a) above) a)
  expr_closed st above (Binary at op a b) =
      whole_closed (site st above (Binary at op a b)) (expr_sites st (under (Binary at op a b) above) a ++ expr_sites st (right_under (Binary at op a b) above) b) refl
      (two_closed (expr_sites st (under (Binary at op a b) above) a) (expr_sites st (right_under (Binary at op a b) above) b) (expr_closed st (under (Binary at op a b) above) a) (expr_closed st (right_under (Binary at op a b) above) b))
  expr_closed st above (Field at a name) = whole_closed (site st above (Field at a name)) (expr_sites st (under (Field at a name) above) a) refl (expr_closed st (under (Field at a name) above) a)
  expr_closed st above (Call at a method args) =
      whole_closed (site st above (Call at a method args)) (expr_sites st (under (Call at a method args) above) a ++ exprs_sites st (under (Call at a method args) above) args) refl
      (two_closed (expr_sites st (under (Call at a method args) above) a) (exprs_sites st (under (Call at a method args) above) args) (expr_closed st (under (Call at a method args) above) a) (exprs_closed st (under (Call at a method args) above) args))
  expr_closed st above (Index at a b) =
      whole_closed (site st above (Index at a b)) (expr_sites st (under (Index at a b) above) a ++ expr_sites st (under (Index at a b) above) b) refl
      (two_closed (expr_sites st (under (Index at a b) above) a) (expr_sites st (under (Index at a b) above) b) (expr_closed st (under (Index at a b) above) a) (expr_closed st (under (Index at a b) above) b))
  expr_closed st above (New at class args) = whole_closed (site st above (New at class args)) (exprs_sites st (under (New at class args) above) args) refl (exprs_closed st (under (New at class args) above) args)
  expr_closed st above (Items at item items) = whole_closed (site st above (Items at item items)) (exprs_sites st (under (Items at item items) above) items) refl (exprs_closed st (under (Items at item items) above) items)
  expr_closed st above (Taken at step) = whole_closed (site st above (Taken at step)) [] refl (closed_none [])

  exprs_closed : (st : StmtSite) (above : List Over) (es : Exprs) → Closed (exprs_sites st above es) (exprs_sites st above es)
  exprs_closed st above NoExprs = closed_none []
  exprs_closed st above (MoreExprs e es) = two_closed (expr_sites st above e) (exprs_sites st above es) (expr_closed st above e) (exprs_closed st above es)

all_closed : (st : StmtSite) (es : List Expr) → Closed (all_sites st es) (all_sites st es)
all_closed st [] = closed_none []
all_closed st (e ∷ es) = two_closed (expr_sites st [] e) (all_sites st es) (expr_closed st [] e) (all_closed st es)

pub batch_closed : (ss : List StmtSite) → Closed (exprs_of ss) (exprs_of ss)
batch_closed [] = closed_none []
batch_closed (s ∷ ss) = two_closed (all_sites s (own s.stmt)) (exprs_of ss) (all_closed s (own s.stmt)) (batch_closed ss)

-- ---- marks

or_first : (a b : Bool) → a ≡ true → (a || b) ≡ true
or_first a b h = ap (λ t. t || b) h

-- what is Remote has only Remote parts
part_remote : (f : Facts) (st : StmtSite) (above : List Over) (e : Expr) (right : Bool) (part : Expr) → is_remote_at f (site st above e) ≡ true → is_remote_at f (site st (record { expr = e; right = right } ∷ above) part) ≡ true
part_remote f st above e right part h =
    by (is_remote_whole f st.around st.stmt) (is_portable_call f st.scope e) (list_any (λ o. is_portable_call f st.scope o.expr) above) (is_portable_call f st.scope part) h
  where
    by : (whole here any mine : Bool) → (whole || (here || any)) ≡ true → (whole || (mine || (here || any))) ≡ true
    by true here any mine k = refl
    by false here any true k = refl
    by false here any false k = k

abbrev pub EachMarked : Program → List ℕ → Type 0
EachMarked p ats = AllByRecursion (λ at. stands_remote p at ≡ true) ats

module _ (law : EachHasItsMark) (p : Program) (lawful : IsLawful p) (batch : List StmtSite) (is_batch : Contains (sites_of p) batch) where
  abbrev f : Facts
  f = facts_of p

  here_marked : (st : StmtSite) (above : List Over) (e : Expr) → Contains (exprs_of batch) (site st above e) → is_remote_at f (site st above e) ≡ true → stands_remote p (expr_at e) ≡ true
  here_marked st above e is h =
      ap is_remote_mark (law p lawful (site st above e) (record { batch = batch; is_batch = is_batch; stands = is }))
      ∙ ap (λ (t : Bool). is_remote_mark (Some (cond t Mark.Remote (cond (is_constant st.scope e) Mark.Constant Mark.Local)))) h

  abbrev Among : List ExprSite → Type 0
  Among xs = Inside xs (exprs_of batch)

  first_among : (s : ExprSite) (xs : List ExprSite) → Among (s ∷ xs) → Contains (exprs_of batch) s
  first_among s xs h = h s (first_contained s xs)

  rest_among : (s : ExprSite) (xs : List ExprSite) → Among (s ∷ xs) → Among xs
  rest_among s xs h z c = h z (more_contained s xs z c)

  left_among : (xs ys : List ExprSite) → Among (xs ++ ys) → Among xs
  left_among xs ys h z c = h z (Contains-append_left xs ys z c)

  right_among : (xs ys : List ExprSite) → Among (xs ++ ys) → Among ys
  right_among xs ys h z c = h z (Contains-append_right xs ys z c)

  marked_two : (xs ys : List ℕ) → EachMarked p xs → EachMarked p ys → EachMarked p (xs ++ ys)
  marked_two xs ys h g = all_both (λ at. stands_remote p at ≡ true) xs ys h g

  mutual
    pub parts_marked : (st : StmtSite) (above : List Over) (e : Expr) → Among (expr_sites st above e) → is_remote_at f (site st above e) ≡ true → EachMarked p (expr_positions e)
    parts_marked st above (Lit at value) w h = (here_marked st above (Lit at value) (first_among _ [] w) h, tt)
    parts_marked st above (Name at name) w h = (here_marked st above (Name at name) (first_among _ [] w) h, tt)
    parts_marked st above (This at) w h = (here_marked st above (This at) (first_among _ [] w) h, tt)
    parts_marked st above (Unary at op a) w h =
        (here_marked st above (Unary at op a) (first_among _ _ w) h, parts_marked st (under (Unary at op a) above) a (rest_among _ _ w) (part_remote f st above (Unary at op a) false a h))
    parts_marked st above (Binary at op a b) w h =
        let rest = rest_among _ _ w in (
          here_marked st above (Binary at op a b) (first_among _ _ w) h,
          marked_two (expr_positions a) (expr_positions b)
              (parts_marked st (under (Binary at op a b) above) a (left_among _ (expr_sites st (right_under (Binary at op a b) above) b) rest) (part_remote f st above (Binary at op a b) false a h))
              (parts_marked st (right_under (Binary at op a b) above) b (right_among (expr_sites st (under (Binary at op a b) above) a) _ rest) (part_remote f st above (Binary at op a b) true b h)),
        )
    parts_marked st above (Field at a name) w h =
        (here_marked st above (Field at a name) (first_among _ _ w) h, parts_marked st (under (Field at a name) above) a (rest_among _ _ w) (part_remote f st above (Field at a name) false a h))
    parts_marked st above (Call at a method args) w h =
        let rest = rest_among _ _ w in
        let o = under (Call at a method args) above in (
          here_marked st above (Call at a method args) (first_among _ _ w) h,
          marked_two (expr_positions a) (exprs_positions args)
              (parts_marked st o a (left_among _ (exprs_sites st o args) rest) (part_remote f st above (Call at a method args) false a h))
              (all_marked st above (Call at a method args) args (right_among (expr_sites st o a) _ rest) h),
        )
    parts_marked st above (Index at a b) w h =
        let rest = rest_among _ _ w in
        let o = under (Index at a b) above in (
          here_marked st above (Index at a b) (first_among _ _ w) h,
          marked_two (expr_positions a) (expr_positions b)
              (parts_marked st o a (left_among _ (expr_sites st o b) rest) (part_remote f st above (Index at a b) false a h)) (parts_marked st o b (right_among (expr_sites st o a) _ rest) (part_remote f st above (Index at a b) false b h)),
        )
    parts_marked st above (New at class args) w h = (here_marked st above (New at class args) (first_among _ _ w) h, all_marked st above (New at class args) args (rest_among _ _ w) h)
    parts_marked st above (Items at item items) w h = (here_marked st above (Items at item items) (first_among _ _ w) h, all_marked st above (Items at item items) items (rest_among _ _ w) h)
    parts_marked st above (Taken at step) w h = (here_marked st above (Taken at step) (first_among _ [] w) h, tt)

    all_marked : (st : StmtSite) (above : List Over) (e : Expr) (es : Exprs) → Among (exprs_sites st (under e above) es) → is_remote_at f (site st above e) ≡ true → EachMarked p (exprs_positions es)
    all_marked st above e NoExprs w h = tt
    all_marked st above e (MoreExprs a es) w h =
        marked_two (expr_positions a) (exprs_positions es) (parts_marked st (under e above) a (left_among _ (exprs_sites st (under e above) es) w) (part_remote f st above e false a h))
        (all_marked st above e es (right_among (expr_sites st (under e above) a) _ w) h)

-- all positions of what is Remote at a site are marked so
pub site_marked : EachHasItsMark → (p : Program) → IsLawful p → (s : ExprSite) → InBatches p s → is_remote_at (facts_of p) s ≡ true → EachMarked p (expr_positions s.expr)
site_marked law p lawful s h remote = parts_marked law p lawful h.batch h.is_batch s.stands s.above s.expr (batch_closed h.batch s h.stands) remote
