-- What stands at a position is a carried loop just where the position is that of one, where positions differ.
use Rattle.std.proofs.Common.{◌≡◌, ◌⊎◌, inl, inr, refl, sym, ap, ◌∙◌, subst, ℕ, List, [], ◌∷◌, ◌++◌, map, Bool, true, false, cond, ◌||◌, ◌==◌, append_assoc}
use Rattle.std.specs.List.{AllByRecursion, Contains, flat_map, list_any}
use Rattle.std.proofs.lemmas.List.{append-nil, map-append}
use Rattle.std.proofs.lemmas.Grind.{flat_map-append}
use Rattle.std.proofs.lemmas.List.Folds.{list_any-append}
use Rattle.std.proofs.lemmas.List.Elements.{Contains-append_left, Contains-append_right, Contains-append_cases}
use Rattle.rb_trees.specs.mirror.Code.{Expr, Exprs, Lit, Name, This, Unary, Binary, Field, Call, Index, New, Items, Taken, NoExprs, MoreExprs, expr_at, Stmt, Stmts, Val, Var, Assign, Run, Print, Throw, If, While, For, Try, Batch, NoStmts, MoreStmts, stmt_at}
use Rattle.rb_trees.specs.mirror.Declarations.{Body, Method, Class}
use Rattle.rb_meaning_types.specs.Lawful.{expr_positions, exprs_positions, stmt_positions, stmts_positions, return_positions, body_positions, methods_positions, classes_positions}
use Rattle.rb_meaning_flow.specs.declared.scopes.Role.{Role}
use Rattle.rb_meaning_flow.specs.Facts.{Facts, facts_of}
use Rattle.rb_meaning_flow.specs.Scopes.{Scope, with_variable, opened}
use Rattle.rb_meaning_flow.specs.Sites.{Around, Branch, WhileTurn, Turn, InTry, InBatch, StmtSite, Over, ExprSite, site, under, right_under, expr_sites, exprs_sites, own, all_sites, turn_role, scope_after, stmt_site, sites, block_sites, exprs_of}
use Rattle.rb_meaning_flow.specs.Outermost.{Outermost, batch_sites, outer_role, outer_after, parameters, outermost, outermost_in, method_batches, class_batches, program_batches}
use Rattle.rb_meaning_flow.specs.Programs.{is_carried_loop, carried_loop, is_carried_at}
use Rattle.rb_flow.proofs.Members.{first_contained, more_contained, contained_cases, none_contained}
use Rattle.rb_law_unsplit.specs.CarriedLoops.{stmt_outside, stmts_outside, body_outside, methods_outside, classes_outside, LawfulHaveCarriedLoops}
use Rattle.rb_law_unsplit.proofs.Positions.{same_position, Apart, Differ, differ_from, apart_left, apart_right, differ_left, differ_right, EachApart, differ_apart}

each : {A : Type 0} (P : A → Type 0) (xs : List A) (x : A) → AllByRecursion P xs → Contains xs x → P x
each P [] x h is = absurd (none_contained x is)
each P (y ∷ ys) x h is = elim (contained_cases y ys x is) [
  | inl e ↦ subst P e h.0
  | inr m ↦ each P ys x h.1 m
]

each_of : {A : Type 0} (P : A → Type 0) (xs : List A) → ((x : A) → Contains xs x → P x) → AllByRecursion P xs
each_of P [] h = tt
each_of P (x ∷ xs) h = (h x (first_contained x xs), each_of P xs (λ y is. h y (more_contained x xs y is)))

front_apart : (xs ys : List ℕ) → Differ (xs ++ ys) → EachApart xs ys
front_apart [] ys h = tt
front_apart (x ∷ xs) ys h = (apart_right x xs ys h.0, front_apart xs ys h.1)

or_false : (b : Bool) → (b || false) ≡ b
or_false true = refl
or_false false = refl

-- whether a position is among these
abbrev among : List ℕ → ℕ → Bool
among at q = list_any (λ n. n == q) at

among_both : (C D : List ℕ) (q : ℕ) → among (C ++ D) q ≡ (among C q || among D q)
among_both C D q = list_any-append (λ n. n == q) C D

-- Of code at the positions P carried loops stand at C: at none but those, and just at those of which T says so.
record Told (P C : List ℕ) (T : ℕ → Bool → Type 0) : Type 0 where
  within : (q : ℕ) → Apart q P → among C q ≡ false
  stands : (q : ℕ) (b : Bool) → T q b → Contains P q
  told : Differ P → (q : ℕ) (b : Bool) → T q b → among C q ≡ b

weaker : {P C : List ℕ} {T U : ℕ → Bool → Type 0} → ((q : ℕ) (b : Bool) → U q b → T q b) → Told P C T → Told P C U
weaker f t = record { within = t.within; stands = λ q b u. t.stands q b (f q b u); told = λ d q b u. t.told d q b (f q b u) }

both : {P Q C D : List ℕ} {T U : ℕ → Bool → Type 0} → Told P C T → Told Q D U → Told (P ++ Q) (C ++ D) (λ q b. T q b ⊎ U q b)
both {P = P} {Q = Q} {C = C} {D = D} {T = T} {U = U} t u = record {
  within = λ q h. among_both C D q ∙ ap (λ a. a || among D q) (t.within q (apart_left q P Q h)) ∙ u.within q (apart_right q P Q h);
  stands = stands_in;
  told = told_in;
}
  where
    stands_in : (q : ℕ) (b : Bool) → T q b ⊎ U q b → Contains (P ++ Q) q
    stands_in q b (inl h) = Contains-append_left P Q q (t.stands q b h)
    stands_in q b (inr h) = Contains-append_right P Q q (u.stands q b h)

    told_in : Differ (P ++ Q) → (q : ℕ) (b : Bool) → T q b ⊎ U q b → among (C ++ D) q ≡ b
    told_in d q b (inl h) =
        let apart = each (λ y. Apart y Q) P q (front_apart P Q d) (t.stands q b h) in
        among_both C D q ∙ ap (λ a. among C q || a) (u.within q apart) ∙ or_false (among C q) ∙ t.told (differ_left P Q d) q b h
    told_in d q b (inr h) =
        let apart = each (λ y. Apart y P) Q q (differ_apart P Q d) (u.stands q b h) in
        among_both C D q ∙ ap (λ a. a || among D q) (t.within q apart) ∙ u.told (differ_right P Q d) q b h

-- none stands at any of some positions
abbrev Nowhere : List ℕ → ℕ → Bool → Type 0
Nowhere P q b = Contains P q × (b ≡ false)

free : (P : List ℕ) → Told P [] (Nowhere P)
free P = record { within = λ q h. refl; stands = λ q b h. h.0; told = λ d q b h. sym h.1 }

-- one statement, by itself
first : (at : ℕ) (carried : Bool) → Told (at ∷ []) (cond carried (at ∷ []) []) (λ q b. (q ≡ at) × (b ≡ carried))
first at carried = record { within = λ q h. apart q h.0 carried; stands = λ q b h. subst (Contains (at ∷ [])) (sym h.0) (first_contained at []); told = λ d q b h. subst (λ z. among (cond carried (at ∷ []) []) z ≡ b) (sym h.0) (here carried ∙ sym h.1) }
  where
    apart : (q : ℕ) → (at == q) ≡ false → (t : Bool) → among (cond t (at ∷ []) []) q ≡ false
    apart q e true = ap (λ a. a || false) e
    apart q e false = refl

    here : (t : Bool) → among (cond t (at ∷ []) []) at ≡ t
    here true = ap (λ a. a || false) (same_position at)
    here false = refl

-- ---- the sites of a batch

module _ (f : Facts) where
  abbrev loops : List StmtSite → List ℕ
  loops ss = flat_map (carried_loop f) ss

  -- a statement that is a carried loop or none, or an expression, which is none
  abbrev OfSites : List StmtSite → ℕ → Bool → Type 0
  OfSites ss q b = ((s : StmtSite) × Contains ss s × (q ≡ stmt_at s.stmt) × (b ≡ is_carried_loop f s)) ⊎ ((s : ExprSite) × Contains (exprs_of ss) s × (q ≡ expr_at s.expr) × (b ≡ false))

  abbrev Sites : List ℕ → List StmtSite → Type 0
  Sites P ss = Told P (loops ss) (OfSites ss)

  no_sites : Sites [] []
  no_sites = record { within = λ q h. refl; stands = λ q b h. absurd (nothing q b h); told = λ d q b h. absurd (nothing q b h) }
    where
      nothing : (q : ℕ) (b : Bool) → OfSites [] q b → ⊥
      nothing q b (inl h) = none_contained h.0 h.1
      nothing q b (inr h) = none_contained h.0 h.1

  exprs_two : (ss ts : List StmtSite) (s : ExprSite) → Contains (exprs_of (ss ++ ts)) s → Contains (exprs_of ss) s ⊎ Contains (exprs_of ts) s
  exprs_two [] ts s is = inr is
  exprs_two (t ∷ ss) ts s is = elim (Contains-append_cases (all_sites t (own t.stmt)) (exprs_of (ss ++ ts)) s is) [
    | inl h ↦ inl (Contains-append_left (all_sites t (own t.stmt)) (exprs_of ss) s h)
    | inr h ↦ elim (exprs_two ss ts s h) [
      | inl l ↦ inl (Contains-append_right (all_sites t (own t.stmt)) (exprs_of ss) s l)
      | inr r ↦ inr r
    ]
  ]

  two : (P Q : List ℕ) (ss ts : List StmtSite) → Sites P ss → Sites Q ts → Sites (P ++ Q) (ss ++ ts)
  two P Q ss ts h g = subst (λ z. Told (P ++ Q) z (OfSites (ss ++ ts))) (sym (flat_map-append (carried_loop f) ss ts)) (weaker split (both h g))
    where
      split : (q : ℕ) (b : Bool) → OfSites (ss ++ ts) q b → OfSites ss q b ⊎ OfSites ts q b
      split q b (inl u) = elim (Contains-append_cases ss ts u.0 u.1) [ inl l ↦ inl (inl (u.0, l, u.2, u.3)) | inr r ↦ inr (inl (u.0, r, u.2, u.3)) ]
      split q b (inr u) = elim (exprs_two ss ts u.0 u.1) [ inl l ↦ inl (inr (u.0, l, u.2, u.3)) | inr r ↦ inr (inr (u.0, r, u.2, u.3)) ]

  -- the sites of expressions stand at their positions
  abbrev AtOne : List ℕ → ExprSite → Type 0
  AtOne E t = Contains E (expr_at t.expr)

  abbrev AllAt : List ℕ → List ExprSite → Type 0
  AllAt E ts = (t : ExprSite) → Contains ts t → AtOne E t

  at_none : (E : List ℕ) → AllAt E []
  at_none E t is = absurd (none_contained t is)

  at_both : (E F : List ℕ) (ss ts : List ExprSite) → AllAt E ss → AllAt F ts → AllAt (E ++ F) (ss ++ ts)
  at_both E F ss ts h g t is = elim (Contains-append_cases ss ts t is) [
    | inl l ↦ Contains-append_left E F (expr_at t.expr) (h t l)
    | inr r ↦ Contains-append_right E F (expr_at t.expr) (g t r)
  ]

  at_more : (s : ExprSite) (E : List ℕ) (ts : List ExprSite) → AllAt E ts → AllAt (expr_at s.expr ∷ E) (s ∷ ts)
  at_more s E ts h t is = elim (contained_cases s ts t is) [
    | inl e ↦ subst (λ z. Contains (expr_at s.expr ∷ E) (expr_at z.expr)) e (first_contained (expr_at s.expr) E)
    | inr m ↦ more_contained (expr_at s.expr) E (expr_at t.expr) (h t m)
  ]

  mutual
    expr_at_places : (st : StmtSite) (above : List Over) (e : Expr) → AllAt (expr_positions e) (expr_sites st above e)
    expr_at_places st above (Lit at value) = at_more (site st above (Lit at value)) [] [] (at_none [])
    expr_at_places st above (Name at name) = at_more (site st above (Name at name)) [] [] (at_none [])
    expr_at_places st above (This at) = at_more (site st above (This at)) [] [] (at_none [])
    expr_at_places st above (Unary at op a) = at_more (site st above (Unary at op a)) _ _ (expr_at_places st (under (Unary at op a) above) a)
    expr_at_places st above (Binary at op a b) =
        at_more (site st above (Binary at op a b)) _ _
        (at_both (expr_positions a) (expr_positions b) _ _ (expr_at_places st (under (Binary at op a b) above) a) (expr_at_places st (right_under (Binary at op a b) above) b))
    expr_at_places st above (Field at a name) = at_more (site st above (Field at a name)) _ _ (expr_at_places st (under (Field at a name) above) a)
    expr_at_places st above (Call at a method args) =
        at_more (site st above (Call at a method args)) _ _
        (at_both (expr_positions a) (exprs_positions args) _ _ (expr_at_places st (under (Call at a method args) above) a) (exprs_at_places st (under (Call at a method args) above) args))
    expr_at_places st above (Index at a b) =
        at_more (site st above (Index at a b)) _ _
        (at_both (expr_positions a) (expr_positions b) _ _ (expr_at_places st (under (Index at a b) above) a) (expr_at_places st (under (Index at a b) above) b))
    expr_at_places st above (New at class args) = at_more (site st above (New at class args)) _ _ (exprs_at_places st (under (New at class args) above) args)
    expr_at_places st above (Items at item items) = at_more (site st above (Items at item items)) _ _ (exprs_at_places st (under (Items at item items) above) items)
    expr_at_places st above (Taken at step) = at_more (site st above (Taken at step)) [] [] (at_none [])

    exprs_at_places : (st : StmtSite) (above : List Over) (es : Exprs) → AllAt (exprs_positions es) (exprs_sites st above es)
    exprs_at_places st above NoExprs = at_none []
    exprs_at_places st above (MoreExprs e es) = at_both (expr_positions e) (exprs_positions es) _ _ (expr_at_places st above e) (exprs_at_places st above es)

  own_one : (st : StmtSite) (e : Expr) → AllAt (expr_positions e) (all_sites st (e ∷ []))
  own_one st e = subst (λ E. AllAt E (all_sites st (e ∷ []))) (append-nil (expr_positions e)) (at_both (expr_positions e) [] (expr_sites st [] e) [] (expr_at_places st [] e) (at_none []))

  own_two : (st : StmtSite) (a b : Expr) → AllAt (expr_positions a ++ expr_positions b) (all_sites st (a ∷ b ∷ []))
  own_two st a b = at_both (expr_positions a) (expr_positions b) (expr_sites st [] a) (all_sites st (b ∷ [])) (expr_at_places st [] a) (own_one st b)

  -- a statement with its own expressions, and the statements of its blocks
  with_blocks : (s : StmtSite) (E P : List ℕ) (inner : List StmtSite) → AllAt E (all_sites s (own s.stmt)) → Sites P inner → Sites (stmt_at s.stmt ∷ (E ++ P)) (s ∷ inner)
  with_blocks s E P inner exprs h = weaker split (both (first (stmt_at s.stmt) (is_carried_loop f s)) (both (free E) h))
    where
      split : (q : ℕ) (b : Bool) → OfSites (s ∷ inner) q b → ((q ≡ stmt_at s.stmt) × (b ≡ is_carried_loop f s)) ⊎ (Nowhere E q b ⊎ OfSites inner q b)
      split q b (inl u) = elim (contained_cases s inner u.0 u.1) [
        | inl same ↦ inl (u.2 ∙ ap (λ z. stmt_at z.stmt) (sym same), u.3 ∙ ap (is_carried_loop f) (sym same))
        | inr m ↦ inr (inr (inl (u.0, m, u.2, u.3)))
      ]
      split q b (inr u) = elim (Contains-append_cases (all_sites s (own s.stmt)) (exprs_of inner) u.0 u.1) [
        | inl l ↦ inr (inl (subst (Contains E) (sym u.2) (exprs u.0 l), u.3))
        | inr r ↦ inr (inr (inr (u.0, r, u.2, u.3)))
      ]

  -- one without blocks
  alone : (s : StmtSite) (E : List ℕ) → AllAt E (all_sites s (own s.stmt)) → Sites (stmt_at s.stmt ∷ E) (s ∷ [])
  alone s E exprs = subst (λ z. Sites (stmt_at s.stmt ∷ z) (s ∷ [])) (append-nil E) (with_blocks s E [] [] exprs no_sites)

  -- one with two blocks
  with_two : (s : StmtSite) (E P Q : List ℕ) (ss ts : List StmtSite) → AllAt E (all_sites s (own s.stmt)) → Sites P ss → Sites Q ts → Sites (stmt_at s.stmt ∷ (E ++ P ++ Q)) (s ∷ (ss ++ ts))
  with_two s E P Q ss ts exprs h g = subst (λ z. Sites (stmt_at s.stmt ∷ z) (s ∷ (ss ++ ts))) (sym (append_assoc E P Q)) (with_blocks s E (P ++ Q) (ss ++ ts) exprs (two P Q ss ts h g))

  mutual
    stmt_told : (around : List Around) (vs : Scope) (s : Stmt) → Sites (stmt_positions s) (sites f around vs s)
    stmt_told around vs (Val at name e) = let st = stmt_site around vs (Val at name e) in alone st (expr_positions e) (own_one st e)
    stmt_told around vs (Var at name e) = let st = stmt_site around vs (Var at name e) in alone st (expr_positions e) (own_one st e)
    stmt_told around vs (Assign at a b) = let st = stmt_site around vs (Assign at a b) in alone st (expr_positions a ++ expr_positions b) (own_two st a b)
    stmt_told around vs (Run at e) = let st = stmt_site around vs (Run at e) in alone st (expr_positions e) (own_one st e)
    stmt_told around vs (Print at e) = let st = stmt_site around vs (Print at e) in alone st (expr_positions e) (own_one st e)
    stmt_told around vs (Throw at e) = let st = stmt_site around vs (Throw at e) in alone st (expr_positions e) (own_one st e)
    stmt_told around vs (If at c a b) =
        let st = stmt_site around vs (If at c a b) in
        let frame = Branch at vs c a b ∷ around in
        with_two st (expr_positions c) (stmts_positions a) (stmts_positions b) (block_sites f frame vs a) (block_sites f frame vs b) (own_one st c) (block_told frame vs a) (block_told frame vs b)
    stmt_told around vs (While at c a) =
        let st = stmt_site around vs (While at c a) in
        with_blocks st (expr_positions c) (stmts_positions a) _ (own_one st c) (block_told (WhileTurn at vs c ∷ around) vs a)
    stmt_told around vs (For at name e a) =
        let st = stmt_site around vs (For at name e a) in
        with_blocks st (expr_positions e) (stmts_positions a) _ (own_one st e) (block_told (Turn at vs e a ∷ around) (with_variable vs name (turn_role f around vs e a) at) a)
    stmt_told around vs (Try at a name b) =
        let frame = InTry at vs a name b ∷ around in
        let caught = with_variable vs name Role.Plain at in
        with_blocks (stmt_site around vs (Try at a name b)) [] (stmts_positions a ++ stmts_positions b) _ (at_none [])
        (two (stmts_positions a) (stmts_positions b) (block_sites f frame vs a) (block_sites f frame caught b) (block_told frame vs a) (block_told frame caught b))
    stmt_told around vs (Batch at interface root a) =
        with_blocks (stmt_site around vs (Batch at interface root a)) [] (stmts_positions a) _ (at_none []) (block_told (InBatch at ∷ around) (with_variable vs root Role.Plain at) a)

    block_told : (around : List Around) (vs : Scope) (ss : Stmts) → Sites (stmts_positions ss) (block_sites f around vs ss)
    block_told around vs NoStmts = no_sites
    block_told around vs (MoreStmts s ss) = two (stmt_positions s) (stmts_positions ss) (sites f around vs s) (block_sites f around (scope_after f around vs s) ss) (stmt_told around vs s) (block_told around (scope_after f around vs s) ss)

  -- ---- the batches of code, and what stands outside of them

  abbrev OfBatches : List (List StmtSite) → ℕ → Bool → Type 0
  OfBatches sss q b = (ss : List StmtSite) × Contains sss ss × OfSites ss q b

  abbrev OfCode : List (List StmtSite) → List ℕ → ℕ → Bool → Type 0
  OfCode sss outside q b = OfBatches sss q b ⊎ Nowhere outside q b

  -- code with these batches, of which these positions stand outside
  abbrev Code : List ℕ → List Outermost → List ℕ → Type 0
  Code P bs outside = Told P (flat_map loops (map (batch_sites f) bs)) (OfCode (map (batch_sites f) bs) outside)

  plain : (P : List ℕ) → Code P [] P
  plain P = weaker split (free P)
    where
      split : (q : ℕ) (b : Bool) → OfCode [] P q b → Nowhere P q b
      split q b (inl (ss, is, h)) = absurd (none_contained ss is)
      split q b (inr h) = h

  joined : (P Q O N : List ℕ) (bs cs : List Outermost) → Code P bs O → Code Q cs N → Code (P ++ Q) (bs ++ cs) (O ++ N)
  joined P Q O N bs cs h g =
      subst (λ z. Told (P ++ Q) (flat_map loops z) (OfCode z (O ++ N))) (sym (map-append (batch_sites f) bs cs))
      (subst (λ z. Told (P ++ Q) z (OfCode (map (batch_sites f) bs ++ map (batch_sites f) cs) (O ++ N))) (sym (flat_map-append loops (map (batch_sites f) bs) (map (batch_sites f) cs))) (weaker split (both h g)))
    where
      split : (q : ℕ) (b : Bool) → OfCode (map (batch_sites f) bs ++ map (batch_sites f) cs) (O ++ N) q b → OfCode (map (batch_sites f) bs) O q b ⊎ OfCode (map (batch_sites f) cs) N q b
      split q b (inl (ss, is, h')) = elim (Contains-append_cases (map (batch_sites f) bs) (map (batch_sites f) cs) ss is) [ inl l ↦ inl (inl (ss, l, h')) | inr r ↦ inr (inl (ss, r, h')) ]
      split q b (inr (is, e)) = elim (Contains-append_cases O N q is) [ inl l ↦ inl (inr (l, e)) | inr r ↦ inr (inr (r, e)) ]

  one_batch : (o : Outermost) → Code (o.at ∷ stmts_positions o.block) (o ∷ []) (o.at ∷ [])
  one_batch o =
      subst (λ z. Told (o.at ∷ stmts_positions o.block) z (OfCode (batch_sites f o ∷ []) (o.at ∷ []))) (sym (append-nil (loops (batch_sites f o))))
      (weaker split (both (free (o.at ∷ [])) (block_told [] (opened o.outer o.at o.root o.block) o.block)))
    where
      split : (q : ℕ) (b : Bool) → OfCode (batch_sites f o ∷ []) (o.at ∷ []) q b → Nowhere (o.at ∷ []) q b ⊎ OfSites (batch_sites f o) q b
      split q b (inl (ss, is, h)) = elim (contained_cases (batch_sites f o) [] ss is) [
        | inl e ↦ inr (subst (λ z. OfSites z q b) (sym e) h)
        | inr m ↦ absurd (none_contained ss m)
      ]
      split q b (inr h) = inl h

  -- code and then such without batches
  before : (P O : List ℕ) (bs : List Outermost) (R : List ℕ) → Code P bs O → Code (P ++ R) bs (O ++ R)
  before P O bs R h = subst (λ z. Code (P ++ R) z (O ++ R)) (append-nil bs) (joined P R O R bs [] h (plain R))

  after : (P O : List ℕ) (at : ℕ) (bs : List Outermost) → Code P bs O → Code (at ∷ P) bs (at ∷ O)
  after P O at bs h = joined (at ∷ []) P (at ∷ []) O [] bs (plain (at ∷ [])) h

  -- such without batches and then code
  behind : (E P O : List ℕ) (bs : List Outermost) → Code P bs O → Code (E ++ P) bs (E ++ O)
  behind E P O bs h = joined E P E O [] bs (plain E) h

  mutual
    stmt_code : (vs : Scope) (s : Stmt) → Code (stmt_positions s) (outermost f vs s) (stmt_outside s)
    stmt_code vs (Val at name e) = plain (stmt_positions (Val at name e))
    stmt_code vs (Var at name e) = plain (stmt_positions (Var at name e))
    stmt_code vs (Assign at a b) = plain (stmt_positions (Assign at a b))
    stmt_code vs (Run at e) = plain (stmt_positions (Run at e))
    stmt_code vs (Print at e) = plain (stmt_positions (Print at e))
    stmt_code vs (Throw at e) = plain (stmt_positions (Throw at e))
    stmt_code vs (If at c a b) =
        after _ _ at (outermost_in f vs a ++ outermost_in f vs b)
        (joined _ _ _ _ (outermost_in f vs a) (outermost_in f vs b) (behind (expr_positions c) (stmts_positions a) (stmts_outside a) (outermost_in f vs a) (stmts_code vs a)) (stmts_code vs b))
    stmt_code vs (While at c a) = after _ _ at (outermost_in f vs a) (behind (expr_positions c) (stmts_positions a) (stmts_outside a) (outermost_in f vs a) (stmts_code vs a))
    stmt_code vs (For at name e a) =
        let inner = with_variable vs name (outer_role (f.items (expr_at e)) (f.lists (expr_at e))) at in
        after _ _ at (outermost_in f inner a) (behind (expr_positions e) (stmts_positions a) (stmts_outside a) (outermost_in f inner a) (stmts_code inner a))
    stmt_code vs (Try at a name b) =
        let caught = with_variable vs name (outer_role true false) at in
        after _ _ at (outermost_in f vs a ++ outermost_in f caught b) (joined _ _ _ _ (outermost_in f vs a) (outermost_in f caught b) (stmts_code vs a) (stmts_code caught b))
    stmt_code vs (Batch at interface root a) = one_batch (record { at = at; outer = vs; root = root; block = a })

    stmts_code : (vs : Scope) (ss : Stmts) → Code (stmts_positions ss) (outermost_in f vs ss) (stmts_outside ss)
    stmts_code vs NoStmts = plain []
    stmts_code vs (MoreStmts s ss) = joined (stmt_positions s) (stmts_positions ss) (stmt_outside s) (stmts_outside ss) (outermost f vs s) (outermost_in f (outer_after f vs s) ss) (stmt_code vs s) (stmts_code (outer_after f vs s) ss)

  body_code : (vs : Scope) (body : Body) → Code (body_positions body) (outermost_in f vs body.statements) (body_outside body)
  body_code vs body = before (stmts_positions body.statements) (stmts_outside body.statements) (outermost_in f vs body.statements) (return_positions body.result) (stmts_code vs body.statements)

  methods_code : (ms : List Method) → Code (methods_positions ms) (flat_map (method_batches f) ms) (methods_outside ms)
  methods_code [] = plain []
  methods_code (m ∷ ms) = joined (body_positions m.body) (methods_positions ms) (body_outside m.body) (methods_outside ms) (method_batches f m) (flat_map (method_batches f) ms) (body_code (parameters m.signature.params) m.body) (methods_code ms)

  classes_code : (cs : List Class) → Code (classes_positions cs) (flat_map (class_batches f) cs) (classes_outside cs)
  classes_code [] = plain []
  classes_code (c ∷ cs) = joined (methods_positions c.methods) (classes_positions cs) (methods_outside c.methods) (classes_outside cs) (class_batches f c) (flat_map (class_batches f) cs) (methods_code c.methods) (classes_code cs)

pub lawful_have_carried_loops : LawfulHaveCarriedLoops
lawful_have_carried_loops p lawful =
    let f = facts_of p in
    let all : Code f (classes_positions p.classes ++ body_positions p.body) (program_batches f p) (classes_outside p.classes ++ body_outside p.body) =
    joined f (classes_positions p.classes) (body_positions p.body) (classes_outside p.classes) (body_outside p.body) (flat_map (class_batches f) p.classes) (outermost_in f [] p.body.statements) (classes_code f p.classes) (body_code f [] p.body) in
    let told = all.told (differ_from (classes_positions p.classes ++ body_positions p.body) lawful.positions) in
    record {
      loops = λ ss is s stands. told (stmt_at s.stmt) (is_carried_loop f s) (inl (ss, is, inl (s, stands, refl, refl)));
      exprs = λ ss is s stands. told (expr_at s.expr) false (inl (ss, is, inr (s, stands, refl, refl)));
      classes = each_of (λ q. is_carried_at p q ≡ false) (classes_outside p.classes) (λ q is. told q false (inr (Contains-append_left (classes_outside p.classes) (body_outside p.body) q is, refl)));
      main = each_of (λ q. is_carried_at p q ≡ false) (body_outside p.body) (λ q is. told q false (inr (Contains-append_right (classes_outside p.classes) (body_outside p.body) q is, refl)));
    }
