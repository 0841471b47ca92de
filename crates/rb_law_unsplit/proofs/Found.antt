-- A batch is the one that is found by its position, where positions differ.
use Rattle.std.proofs.Common.{◌≡◌, ◌⊎◌, inl, inr, refl, ap, ◌∙◌, subst, arith, ℕ, List, [], ◌∷◌, ◌++◌, Bool, true, false, cond, ◌==◌, Some, None}
use Rattle.std.specs.List.{Contains, flat_map}
use Rattle.std.proofs.lemmas.List.Elements.{Contains-append_cases}
use Rattle.rb_trees.specs.mirror.Code.{Stmt, Stmts, Val, Var, Assign, Run, Print, Throw, If, While, For, Try, Batch, NoStmts, MoreStmts, expr_at}
use Rattle.rb_trees.specs.mirror.Declarations.{Method, Class, Program}
use Rattle.rb_meaning_types.specs.Lawful.{IsLawful, expr_positions, stmt_positions, stmts_positions, return_positions, body_positions, methods_positions, classes_positions}
use Rattle.rb_meaning_flow.specs.Facts.{Facts, facts_of}
use Rattle.rb_meaning_flow.specs.Scopes.{Scope, with_variable}
use Rattle.rb_meaning_flow.specs.Outermost.{Outermost, outer_role, outer_after, parameters, outermost, outermost_in, method_batches, class_batches, program_batches}
use Rattle.rb_flow.proofs.Members.{contained_cases, none_contained}
use Rattle.rb_meaning.specs.Unsplit.{batch_within, batch_at}
use Rattle.rb_law_unsplit.proofs.Positions.{same_position, Apart, Differ, differ_from, apart_left, apart_right, differ_left, differ_right, EachApart, differ_apart}

within_first : (bs cs : List Outermost) (q : ℕ) (b : Outermost) → batch_within bs q ≡ Some b → batch_within (bs ++ cs) q ≡ Some b
within_first [] cs q b h = absurd (cc (h))
within_first (c ∷ bs) cs q b h = by (c.at == q) h (within_first bs cs q b)
  where
    by : (t : Bool) → cond t (Some c) (batch_within bs q) ≡ Some b → (batch_within bs q ≡ Some b → batch_within (bs ++ cs) q ≡ Some b) → cond t (Some c) (batch_within (bs ++ cs) q) ≡ Some b
    by true e rest = e
    by false e rest = rest e

within_rest : (bs cs : List Outermost) (q : ℕ) → batch_within bs q ≡ None → batch_within (bs ++ cs) q ≡ batch_within cs q
within_rest [] cs q h = refl
within_rest (c ∷ bs) cs q h = by (c.at == q) h (within_rest bs cs q)
  where
    by : (t : Bool) → cond t (Some c) (batch_within bs q) ≡ None → (batch_within bs q ≡ None → batch_within (bs ++ cs) q ≡ batch_within cs q) → cond t (Some c) (batch_within (bs ++ cs) q) ≡ batch_within cs q
    by true e rest = absurd (cc (e))
    by false e rest = rest e

pub each_left : (P Q X : List ℕ) → EachApart (P ++ Q) X → EachApart P X
each_left [] Q X h = tt
each_left (q ∷ P) Q X h = (h.0, each_left P Q X h.1)

pub each_right : (P Q X : List ℕ) → EachApart (P ++ Q) X → EachApart Q X
each_right [] Q X h = h
each_right (q ∷ P) Q X h = each_right P Q X h.1

-- batches that stand at some of these positions
record Numbered (bs : List Outermost) (P : List ℕ) : Type 0 where
  free : (q : ℕ) → Apart q P → batch_within bs q ≡ None
  found : Differ P → (b : Outermost) → Contains bs b → batch_within bs b.at ≡ Some b
  among : (b : Outermost) → Contains bs b → (X : List ℕ) → EachApart P X → Apart b.at X

both : {bs cs : List Outermost} {P Q : List ℕ} → Numbered bs P → Numbered cs Q → Numbered (bs ++ cs) (P ++ Q)
both {bs = bs} {cs = cs} {P = P} {Q = Q} m n = record {
  free = λ q h. within_rest bs cs q (m.free q (apart_left q P Q h)) ∙ n.free q (apart_right q P Q h);
  found = λ d b is. found_in d b (Contains-append_cases bs cs b is);
  among = λ b is X h. among_in b (Contains-append_cases bs cs b is) X h;
}
  where
    found_in : Differ (P ++ Q) → (b : Outermost) → Contains bs b ⊎ Contains cs b → batch_within (bs ++ cs) b.at ≡ Some b
    found_in d b (inl is) = within_first bs cs b.at b (m.found (differ_left P Q d) b is)
    found_in d b (inr is) = within_rest bs cs b.at (m.free b.at (n.among b is P (differ_apart P Q d))) ∙ n.found (differ_right P Q d) b is

    among_in : (b : Outermost) → Contains bs b ⊎ Contains cs b → (X : List ℕ) → EachApart (P ++ Q) X → Apart b.at X
    among_in b (inl is) X h = m.among b is X (each_left P Q X h)
    among_in b (inr is) X h = n.among b is X (each_right P Q X h)

none : (P : List ℕ) → Numbered [] P
none P = record { free = λ q h. refl; found = λ d b is. absurd (omega (arith, is.1)); among = λ b is X h. absurd (omega (arith, is.1)) }

skip : {bs : List Outermost} {P : List ℕ} (at : ℕ) → Numbered bs P → Numbered bs (at ∷ P)
skip at n = record { free = λ q h. n.free q h.1; found = λ d b is. n.found d.1 b is; among = λ b is X h. n.among b is X h.1 }

-- positions behind which the batches stand
after : {bs : List Outermost} {Q : List ℕ} (P : List ℕ) → Numbered bs Q → Numbered bs (P ++ Q)
after P n = both (none P) n

before : {bs : List Outermost} {P : List ℕ} (Q : List ℕ) → Numbered bs P → Numbered bs (P ++ Q)
before {bs = bs} {P = P} Q n = record {
  free = λ q h. n.free q (apart_left q P Q h);
  found = λ d b is. n.found (differ_left P Q d) b is;
  among = λ b is X h. n.among b is X (each_left P Q X h);
}

only : (b c : Outermost) → Contains (b ∷ []) c → b ≡ c
only b c is = by (contained_cases b [] c is)
  where
    by : (b ≡ c) ⊎ Contains [] c → b ≡ c
    by (inl e) = e
    by (inr m) = absurd (none_contained c m)

one : (b : Outermost) (P : List ℕ) → Numbered (b ∷ []) (b.at ∷ P)
one b P = record {
  free = λ q h. ap (λ t. cond t (Some b) None) h.0;
  found = λ d c is. subst (λ e. batch_within (b ∷ []) e.at ≡ Some e) (only b c is) (ap (λ t. cond t (Some b) None) (same_position b.at));
  among = λ c is X h. subst (λ e. Apart e.at X) (only b c is) h.0;
}

module _ (x : Facts) where
  mutual
    stmt_numbered : (scope : Scope) (s : Stmt) → Numbered (outermost x scope s) (stmt_positions s)
    stmt_numbered scope (Val at name e) = none (stmt_positions (Val at name e))
    stmt_numbered scope (Var at name e) = none (stmt_positions (Var at name e))
    stmt_numbered scope (Assign at a b) = none (stmt_positions (Assign at a b))
    stmt_numbered scope (Run at e) = none (stmt_positions (Run at e))
    stmt_numbered scope (Print at e) = none (stmt_positions (Print at e))
    stmt_numbered scope (Throw at e) = none (stmt_positions (Throw at e))
    stmt_numbered scope (If at c a b) = skip at (both (after (expr_positions c) (stmts_numbered scope a)) (stmts_numbered scope b))
    stmt_numbered scope (While at c a) = skip at (after (expr_positions c) (stmts_numbered scope a))
    stmt_numbered scope (For at name e a) = skip at (after (expr_positions e) (stmts_numbered (with_variable scope name (outer_role (x.items (expr_at e)) (x.lists (expr_at e))) at) a))
    stmt_numbered scope (Try at a name b) = skip at (both (stmts_numbered scope a) (stmts_numbered (with_variable scope name (outer_role true false) at) b))
    stmt_numbered scope (Batch at interface root a) = one (record { at = at; outer = scope; root = root; block = a }) (stmts_positions a)

    stmts_numbered : (scope : Scope) (ss : Stmts) → Numbered (outermost_in x scope ss) (stmts_positions ss)
    stmts_numbered scope NoStmts = none []
    stmts_numbered scope (MoreStmts s ss) = both (stmt_numbered scope s) (stmts_numbered (outer_after x scope s) ss)

  methods_numbered : (ms : List Method) → Numbered (flat_map (method_batches x) ms) (methods_positions ms)
  methods_numbered [] = none []
  methods_numbered (m ∷ ms) = both (before (return_positions m.body.result) (stmts_numbered (parameters m.signature.params) m.body.statements)) (methods_numbered ms)

  classes_numbered : (cs : List Class) → Numbered (flat_map (class_batches x) cs) (classes_positions cs)
  classes_numbered [] = none []
  classes_numbered (c ∷ cs) = both (methods_numbered c.methods) (classes_numbered cs)

-- a batch of a lawful program is found by its position
pub batch_found : (p : Program) → IsLawful p → (b : Outermost) → Contains (program_batches (facts_of p) p) b → batch_at p b.at ≡ Some b
batch_found p lawful b is =
    let x = facts_of p in
    let all = both (classes_numbered x p.classes) (before (return_positions p.body.result) (stmts_numbered x [] p.body.statements)) in
    all.found (differ_from (classes_positions p.classes ++ body_positions p.body) lawful.positions) b is
