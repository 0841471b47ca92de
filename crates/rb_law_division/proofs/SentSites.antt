-- What the service evaluates of a statement of a batch is Remote where it stands.
use Rattle.std.proofs.Common.{◌≡◌, ◌⊎◌, inl, inr, refl, sym, ap, subst, List, [], ◌∷◌, ◌++◌, Bool, true, false, cond, ◌||◌}
use Rattle.std.specs.List.{Contains, list_any}
use Rattle.std.proofs.lemmas.List.Elements.{Contains-append_left, Contains-append_right, Contains-append_cases}
use Rattle.rb_trees.specs.mirror.Code.{Expr, Exprs, Lit, Name, This, Unary, Binary, Field, Call, Index, New, Items, Taken, NoExprs, MoreExprs}
use Rattle.rb_meaning_flow.specs.Facts.{Facts, facts_of}
use Rattle.rb_meaning_flow.specs.Marks.{is_portable_call, is_remote_whole}
use Rattle.rb_meaning_flow.specs.Sites.{StmtSite, Over, ExprSite, site, under, right_under, expr_sites, exprs_sites, own, all_sites}
use Rattle.rb_meaning_flow.specs.Outermost.{batch_sites, program_batches}
use Rattle.rb_meaning.specs.RemoteExprs.{whole_or, remote_in, all_remote_in, remote_of}
use Rattle.rb_flow.proofs.Members.{first_contained, more_contained, contained_cases, none_contained, given_by}
use Rattle.rb_flow.proofs.Among.{mapped_to}
use Rattle.rb_law_types.proofs.SitesWithin.{exprs_among, site_first}
use Rattle.rb_law_division.specs.Faults.{StandsRemote, SentIsRemote}
use Rattle.rb_law_division.proofs.Marked.{Inside}

module _ (f : Facts) (st : StmtSite) (e : Expr) where
  -- it stands among these sites, and is portable with a call in it
  record IsFound (xs : List ExprSite) : Type 0 where
    above : List Over
    among : Contains xs (site st above e)
    calls : is_portable_call f st.scope e ≡ true

  found_in : (xs ys : List ExprSite) → Inside xs ys → IsFound xs → IsFound ys
  found_in xs ys i h = record { above = h.above; among = i (site st h.above e) h.among; calls = h.calls }

  found_left : (xs ys : List ExprSite) → IsFound xs → IsFound (xs ++ ys)
  found_left xs ys h = found_in xs (xs ++ ys) (λ z c. Contains-append_left xs ys z c) h

  found_right : (xs ys : List ExprSite) → IsFound ys → IsFound (xs ++ ys)
  found_right xs ys h = found_in ys (xs ++ ys) (λ z c. Contains-append_right xs ys z c) h

  found_more : (s : ExprSite) (xs : List ExprSite) → IsFound xs → IsFound (s ∷ xs)
  found_more s xs h = found_in xs (s ∷ xs) (λ z c. more_contained s xs z c) h

  -- of two lists, by what each tells
  of_two : (es es' : List Expr) (xs ys : List ExprSite) → (Contains es e → IsFound xs) → (Contains es' e → IsFound ys) → Contains (es ++ es') e → IsFound (xs ++ ys)
  of_two es es' xs ys h g is = by (Contains-append_cases es es' e is)
    where
      by : Contains es e ⊎ Contains es' e → IsFound (xs ++ ys)
      by (inl a) = found_left xs ys (h a)
      by (inr b) = found_right xs ys (g b)

  -- the whole, or what is in its parts
  whole_found : (above : List Over) (whole : Expr) (parts : List Expr) (xs : List ExprSite) → (Contains parts e → IsFound xs) → Contains (whole_or f st.scope whole parts) e → IsFound (site st above whole ∷ xs)
  whole_found above whole parts xs h is = by (is_portable_call f st.scope whole) refl is
    where
      first : is_portable_call f st.scope whole ≡ true → (whole ≡ e) ⊎ Contains [] e → IsFound (site st above whole ∷ xs)
      first k (inl same) = record {
        above = above;
        among = subst (λ w. Contains (site st above whole ∷ xs) (site st above w)) same (first_contained (site st above whole) xs);
        calls = subst (λ w. is_portable_call f st.scope w ≡ true) same k;
      }
      first k (inr none) = absurd (none_contained e none)

      by : (t : Bool) → is_portable_call f st.scope whole ≡ t → Contains (cond t (whole ∷ []) parts) e → IsFound (site st above whole ∷ xs)
      by true k c = first k (contained_cases whole [] e c)
      by false k c = found_more (site st above whole) xs (h c)

  mutual
    expr_found : (above : List Over) (a : Expr) → Contains (remote_in f st.scope a) e → IsFound (expr_sites st above a)
    expr_found above (Lit at value) is = absurd (none_contained e is)
    expr_found above (Name at name) is = absurd (none_contained e is)
    expr_found above (This at) is = absurd (none_contained e is)
    expr_found above (Unary at op a) is = whole_found above (Unary at op a) (remote_in f st.scope a) (expr_sites st (under (Unary at op a) above) a) (λ c. expr_found (under (Unary at op a) above) a c) is
    expr_found above (Binary at op a b) is =
        whole_found above (Binary at op a b) (remote_in f st.scope a ++ remote_in f st.scope b) (expr_sites st (under (Binary at op a b) above) a ++ expr_sites st (right_under (Binary at op a b) above) b) (λ c.
        of_two (remote_in f st.scope a) (remote_in f st.scope b) (expr_sites st (under (Binary at op a b) above) a) (expr_sites st (right_under (Binary at op a b) above) b)
        (λ d. expr_found (under (Binary at op a b) above) a d) (λ d. expr_found (right_under (Binary at op a b) above) b d) c) is
    expr_found above (Field at a name) is = found_more (site st above (Field at a name)) (expr_sites st (under (Field at a name) above) a) (expr_found (under (Field at a name) above) a is)
    expr_found above (Call at a method args) is =
        let o = under (Call at a method args) above in
        whole_found above (Call at a method args) (remote_in f st.scope a ++ all_remote_in f st.scope args) (expr_sites st o a ++ exprs_sites st o args) (λ c.
        of_two (remote_in f st.scope a) (all_remote_in f st.scope args) (expr_sites st o a) (exprs_sites st o args) (λ d. expr_found o a d) (λ d. exprs_found o args d) c) is
    expr_found above (Index at a b) is =
        let o = under (Index at a b) above in
        found_more (site st above (Index at a b)) (expr_sites st o a ++ expr_sites st o b)
        (of_two (remote_in f st.scope a) (remote_in f st.scope b) (expr_sites st o a) (expr_sites st o b) (λ d. expr_found o a d) (λ d. expr_found o b d) is)
    expr_found above (New at class args) is = found_more (site st above (New at class args)) (exprs_sites st (under (New at class args) above) args) (exprs_found (under (New at class args) above) args is)
    expr_found above (Items at item items) is = found_more (site st above (Items at item items)) (exprs_sites st (under (Items at item items) above) items) (exprs_found (under (Items at item items) above) items is)
    expr_found above (Taken at step) is = absurd (none_contained e is)

    exprs_found : (above : List Over) (es : Exprs) → Contains (all_remote_in f st.scope es) e → IsFound (exprs_sites st above es)
    exprs_found above NoExprs is = absurd (none_contained e is)
    exprs_found above (MoreExprs a es) is =
        of_two (remote_in f st.scope a) (all_remote_in f st.scope es) (expr_sites st above a) (exprs_sites st above es) (λ d. expr_found above a d) (λ d. exprs_found above es d) is

-- the sites of one of some expressions
one_inside : (st : StmtSite) (es : List Expr) (a : Expr) → Contains es a → Inside (expr_sites st [] a) (all_sites st es)
one_inside st [] a is = absurd (none_contained a is)
one_inside st (b ∷ es) a is = by (contained_cases b es a is) (one_inside st es a)
  where
    by : (b ≡ a) ⊎ Contains es a → (Contains es a → Inside (expr_sites st [] a) (all_sites st es)) → Inside (expr_sites st [] a) (expr_sites st [] b ++ all_sites st es)
    by (inl same) more = λ z c. Contains-append_left (expr_sites st [] b) (all_sites st es) z (subst (λ w. Contains (expr_sites st [] w) z) (sym same) c)
    by (inr rest) more = λ z c. Contains-append_right (expr_sites st [] b) (all_sites st es) z (more rest z c)

or_second : (a b c : Bool) → b ≡ true → (a || (b || c)) ≡ true
or_second true b c h = refl
or_second false b c h = ap (λ t. t || c) h

pub sent_is_remote : SentIsRemote
sent_is_remote p b among s stands e is = by (Contains-append_cases (remote_of f s.scope s.stmt) (cond (is_remote_whole f s.around s.stmt) (own s.stmt) []) e is)
  where
    f : Facts
    f = facts_of p

    batch : List StmtSite
    batch = batch_sites f b

    by_whole : (t : Bool) → is_remote_whole f s.around s.stmt ≡ t → Contains (cond t (own s.stmt) []) e → StandsRemote p s e
    by_whole true k c = record {
      above = [];
      stands = record { batch = batch; is_batch = mapped_to (batch_sites f) (program_batches f p) b among; stands = exprs_among batch s stands (site s [] e) (one_inside s (own s.stmt) e c (site s [] e) (site_first s [] e)) };
      remote = ap (λ t. t || (is_portable_call f s.scope e || false)) k;
    }
    by_whole false k c = absurd (none_contained e c)

    by : Contains (remote_of f s.scope s.stmt) e ⊎ Contains (cond (is_remote_whole f s.around s.stmt) (own s.stmt) []) e → StandsRemote p s e
    by (inl c) =
        let of_one = given_by (remote_in f s.scope) (own s.stmt) e c in
        let found = expr_found f s e [] of_one.by of_one.gives in
        record {
          above = found.above;
          stands = record {
            batch = batch;
            is_batch = mapped_to (batch_sites f) (program_batches f p) b among;
            stands = exprs_among batch s stands (site s found.above e) (one_inside s (own s.stmt) of_one.by of_one.is (site s found.above e) found.among);
          };
          remote = or_second (is_remote_whole f s.around s.stmt) (is_portable_call f s.scope e) (list_any (λ o. is_portable_call f s.scope o.expr) found.above) found.calls;
        }
    by (inr c) = by_whole (is_remote_whole f s.around s.stmt) refl c
