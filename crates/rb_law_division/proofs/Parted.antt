-- The positions of expressions in batches are none of those at which other code raises.
use Rattle.std.proofs.Common.{◌≡◌, ℕ, List, [], ◌∷◌, ◌++◌, false, nat_eq}
use Rattle.std.specs.List.{AllByRecursion}
use Rattle.rb_trees.specs.mirror.Code.{Stmt, Stmts, Val, Var, Assign, Run, Print, Throw, If, While, For, Try, Batch, NoStmts, MoreStmts}
use Rattle.rb_trees.specs.mirror.Declarations.{Body, Method, Class, Program}
use Rattle.rb_meaning_types.specs.Lawful.{IsLawful, expr_positions, stmt_positions, stmts_positions, return_positions, body_positions, methods_positions, classes_positions}
use Rattle.rb_law_unsplit.proofs.Positions.{Apart, Differ, differ_from, apart_left, apart_right, differ_left, differ_right, EachApart, each_none, each_more, differ_apart}
use Rattle.rb_law_unsplit.proofs.Found.{each_left, each_right}
use Rattle.rb_law_division.proofs.Lists.{all_both}

-- ---- the two kinds of positions

-- in a batch: those of its statements, and those of their expressions
abbrev mutual
  pub stmt_ats : Stmt → List ℕ
  stmt_ats (Val at name e) = at ∷ []
  stmt_ats (Var at name e) = at ∷ []
  stmt_ats (Assign at a b) = at ∷ []
  stmt_ats (Run at e) = at ∷ []
  stmt_ats (Print at e) = at ∷ []
  stmt_ats (Throw at e) = at ∷ []
  stmt_ats (If at c a b) = at ∷ (stmts_ats a ++ stmts_ats b)
  stmt_ats (While at c a) = at ∷ stmts_ats a
  stmt_ats (For at name e a) = at ∷ stmts_ats a
  stmt_ats (Try at a name b) = at ∷ (stmts_ats a ++ stmts_ats b)
  stmt_ats (Batch at interface root a) = at ∷ stmts_ats a

  pub stmts_ats : Stmts → List ℕ
  stmts_ats NoStmts = []
  stmts_ats (MoreStmts s ss) = stmt_ats s ++ stmts_ats ss

abbrev mutual
  pub expr_ats : Stmt → List ℕ
  expr_ats (Val at name e) = expr_positions e
  expr_ats (Var at name e) = expr_positions e
  expr_ats (Assign at a b) = expr_positions a ++ expr_positions b
  expr_ats (Run at e) = expr_positions e
  expr_ats (Print at e) = expr_positions e
  expr_ats (Throw at e) = expr_positions e
  expr_ats (If at c a b) = expr_positions c ++ exprs_ats a ++ exprs_ats b
  expr_ats (While at c a) = expr_positions c ++ exprs_ats a
  expr_ats (For at name e a) = expr_positions e ++ exprs_ats a
  expr_ats (Try at a name b) = exprs_ats a ++ exprs_ats b
  expr_ats (Batch at interface root a) = exprs_ats a

  pub exprs_ats : Stmts → List ℕ
  exprs_ats NoStmts = []
  exprs_ats (MoreStmts s ss) = expr_ats s ++ exprs_ats ss

-- outside of batches: all but the expressions of batches, and those
abbrev mutual
  pub free_at : Stmt → List ℕ
  free_at (Val at name e) = at ∷ expr_positions e
  free_at (Var at name e) = at ∷ expr_positions e
  free_at (Assign at a b) = at ∷ (expr_positions a ++ expr_positions b)
  free_at (Run at e) = at ∷ expr_positions e
  free_at (Print at e) = at ∷ expr_positions e
  free_at (Throw at e) = at ∷ expr_positions e
  free_at (If at c a b) = at ∷ (expr_positions c ++ free_in a ++ free_in b)
  free_at (While at c a) = at ∷ (expr_positions c ++ free_in a)
  free_at (For at name e a) = at ∷ (expr_positions e ++ free_in a)
  free_at (Try at a name b) = at ∷ (free_in a ++ free_in b)
  free_at (Batch at interface root a) = at ∷ stmts_ats a

  pub free_in : Stmts → List ℕ
  free_in NoStmts = []
  free_in (MoreStmts s ss) = free_at s ++ free_in ss

abbrev mutual
  pub batch_at : Stmt → List ℕ
  batch_at (Val at name e) = []
  batch_at (Var at name e) = []
  batch_at (Assign at a b) = []
  batch_at (Run at e) = []
  batch_at (Print at e) = []
  batch_at (Throw at e) = []
  batch_at (If at c a b) = batch_in a ++ batch_in b
  batch_at (While at c a) = batch_in a
  batch_at (For at name e a) = batch_in a
  batch_at (Try at a name b) = batch_in a ++ batch_in b
  batch_at (Batch at interface root a) = exprs_ats a

  pub batch_in : Stmts → List ℕ
  batch_in NoStmts = []
  batch_in (MoreStmts s ss) = batch_at s ++ batch_in ss

abbrev pub free_body : Body → List ℕ
free_body body = free_in body.statements ++ return_positions body.result

abbrev pub free_methods : List Method → List ℕ
free_methods [] = []
free_methods (m ∷ ms) = free_body m.body ++ free_methods ms

abbrev pub free_classes : List Class → List ℕ
free_classes [] = []
free_classes (c ∷ cs) = free_methods c.methods ++ free_classes cs

abbrev pub batch_methods : List Method → List ℕ
batch_methods [] = []
batch_methods (m ∷ ms) = batch_in m.body.statements ++ batch_methods ms

abbrev pub batch_classes : List Class → List ℕ
batch_classes [] = []
batch_classes (c ∷ cs) = batch_methods c.methods ++ batch_classes cs

abbrev pub free_ats : Program → List ℕ
free_ats p = free_classes p.classes ++ free_body p.body

abbrev pub batch_ats : Program → List ℕ
batch_ats p = batch_classes p.classes ++ batch_in p.body.statements

-- ---- they are apart where all positions differ

each_weaker : (P Q : ℕ → Type 0) (xs : List ℕ) → ((q : ℕ) → P q → Q q) → AllByRecursion P xs → AllByRecursion Q xs
each_weaker P Q [] f h = tt
each_weaker P Q (x ∷ xs) f h = (f x h.0, each_weaker P Q xs f h.1)

apart_both : (q : ℕ) (xs ys : List ℕ) → Apart q xs → Apart q ys → Apart q (xs ++ ys)
apart_both q xs ys h g = all_both (λ y. nat_eq y q ≡ false) xs ys h g

each_both : (R R' X : List ℕ) → EachApart R X → EachApart R' X → EachApart (R ++ R') X
each_both R R' X h g = all_both (λ y. Apart y X) R R' h g

each_sym : (ys xs : List ℕ) → EachApart ys xs → EachApart xs ys
each_sym [] xs h = each_none xs
each_sym (y ∷ ys) xs h = each_more y xs ys h.0 (each_sym ys xs h.1)

-- Of these positions the first are none of the second.
record Parted (R M P : List ℕ) : Type 0 where
  apart : Differ P → EachApart R M
  among : (X : List ℕ) → EachApart P X → EachApart R X
  free : (q : ℕ) → Apart q P → Apart q M

both : {R R' M M' P P' : List ℕ} → Parted R M P → Parted R' M' P' → Parted (R ++ R') (M ++ M') (P ++ P')
both {R = R} {R' = R'} {M = M} {M' = M'} {P = P} {P' = P'} h g = record {
  apart = λ d.
      let first = h.apart (differ_left P P' d) in
      let second = g.apart (differ_right P P' d) in
      let across : EachApart P' P = differ_apart P P' d in
      let cross = each_weaker (λ q. Apart q P') (λ q. Apart q M') R (λ q k. g.free q k) (h.among P' (each_sym P' P across)) in
      let cross' = each_weaker (λ q. Apart q P) (λ q. Apart q M) R' (λ q k. h.free q k) (g.among P across) in
      each_both R R' (M ++ M') (beside R M M' first cross) (beside R' M M' cross' second);
  among = λ X k. each_both R R' X (h.among X (each_left P P' X k)) (g.among X (each_right P P' X k));
  free = λ q k. apart_both q M M' (h.free q (apart_left q P P' k)) (g.free q (apart_right q P P' k));
}
  where
    beside : (Q A B : List ℕ) → EachApart Q A → EachApart Q B → EachApart Q (A ++ B)
    beside [] A B m n = tt
    beside (q ∷ Q) A B m n = (apart_both q A B m.0 n.0, beside Q A B m.1 n.1)

-- a position of the first kind before the others
front : {R M P : List ℕ} (at : ℕ) → Parted R M P → Parted (at ∷ R) M (at ∷ P)
front {R = R} {M = M} {P = P} at h = record {
  apart = λ d. (h.free at d.0, h.apart d.1);
  among = λ X k. (k.0, h.among X k.1);
  free = λ q k. h.free q k.1;
}

-- all of the first kind, and all of the second
all_free : (P : List ℕ) → Parted P [] P
all_free P = record { apart = λ d. each_none P; among = λ X k. k; free = λ q k. tt }

all_batch : (P : List ℕ) → Parted [] P P
all_batch P = record { apart = λ d. tt; among = λ X k. tt; free = λ q k. k }

no_more : {R M P : List ℕ} → Parted (R ++ []) M P → Parted R M P
no_more {R = R} h = record {
  apart = λ d. each_left R [] _ (h.apart d);
  among = λ X k. each_left R [] X (h.among X k);
  free = h.free;
}

mutual
  inner : (s : Stmt) → Parted (stmt_ats s) (expr_ats s) (stmt_positions s)
  inner (Val at name e) = front at (all_batch (expr_positions e))
  inner (Var at name e) = front at (all_batch (expr_positions e))
  inner (Assign at a b) = front at (all_batch (expr_positions a ++ expr_positions b))
  inner (Run at e) = front at (all_batch (expr_positions e))
  inner (Print at e) = front at (all_batch (expr_positions e))
  inner (Throw at e) = front at (all_batch (expr_positions e))
  inner (If at c a b) = front at (both (both (all_batch (expr_positions c)) (inners a)) (inners b))
  inner (While at c a) = front at (both (all_batch (expr_positions c)) (inners a))
  inner (For at name e a) = front at (both (all_batch (expr_positions e)) (inners a))
  inner (Try at a name b) = front at (both (inners a) (inners b))
  inner (Batch at interface root a) = front at (inners a)

  inners : (ss : Stmts) → Parted (stmts_ats ss) (exprs_ats ss) (stmts_positions ss)
  inners NoStmts = all_free []
  inners (MoreStmts s ss) = both (inner s) (inners ss)

mutual
  outer : (s : Stmt) → Parted (free_at s) (batch_at s) (stmt_positions s)
  outer (Val at name e) = front at (all_free (expr_positions e))
  outer (Var at name e) = front at (all_free (expr_positions e))
  outer (Assign at a b) = front at (all_free (expr_positions a ++ expr_positions b))
  outer (Run at e) = front at (all_free (expr_positions e))
  outer (Print at e) = front at (all_free (expr_positions e))
  outer (Throw at e) = front at (all_free (expr_positions e))
  outer (If at c a b) = front at (both (both (all_free (expr_positions c)) (outers a)) (outers b))
  outer (While at c a) = front at (both (all_free (expr_positions c)) (outers a))
  outer (For at name e a) = front at (both (all_free (expr_positions e)) (outers a))
  outer (Try at a name b) = front at (both (outers a) (outers b))
  outer (Batch at interface root a) = front at (inners a)

  outers : (ss : Stmts) → Parted (free_in ss) (batch_in ss) (stmts_positions ss)
  outers NoStmts = all_free []
  outers (MoreStmts s ss) = both (outer s) (outers ss)

-- a list with nothing behind it
behind : {R M P : List ℕ} (Q : List ℕ) → Parted R M P → Parted (R ++ Q) M (P ++ Q)
behind {R = R} {M = M} {P = P} Q h = record { apart = whole.apart'; among = whole.among'; free = whole.free' }
  where
    joined : Parted (R ++ Q) (M ++ []) (P ++ Q)
    joined = both h (all_free Q)

    each_front : (S : List ℕ) → EachApart S (M ++ []) → EachApart S M
    each_front [] k = tt
    each_front (s ∷ S) k = (apart_left s M [] k.0, each_front S k.1)

    whole : record { apart' : Differ (P ++ Q) → EachApart (R ++ Q) M; among' : (X : List ℕ) → EachApart (P ++ Q) X → EachApart (R ++ Q) X; free' : (q : ℕ) → Apart q (P ++ Q) → Apart q M }
    whole = record { apart' = λ d. each_front (R ++ Q) (joined.apart d); among' = joined.among; free' = λ q k. h.free q (apart_left q P Q k) }

methods_parted : (ms : List Method) → Parted (free_methods ms) (batch_methods ms) (methods_positions ms)
methods_parted [] = all_free []
methods_parted (m ∷ ms) = both (behind (return_positions m.body.result) (outers m.body.statements)) (methods_parted ms)

classes_parted : (cs : List Class) → Parted (free_classes cs) (batch_classes cs) (classes_positions cs)
classes_parted [] = all_free []
classes_parted (c ∷ cs) = both (methods_parted c.methods) (classes_parted cs)

pub program_parted : (p : Program) → IsLawful p → EachApart (free_ats p) (batch_ats p)
program_parted p lawful =
    (both (classes_parted p.classes) (behind (return_positions p.body.result) (outers p.body.statements))).apart
    (differ_from (classes_positions p.classes ++ body_positions p.body) lawful.positions)
