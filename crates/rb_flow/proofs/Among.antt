-- The answer for one more batch.
use Rattle.std.proofs.Common.{◌≡◌, ℕ, ◌≤◌, ◌⊎◌, inl, inr, List, [], ◌∷◌, ◌++◌, map, true, false, Option, Some, None, refl, sym, ap, ◌∙◌, append_assoc, subst, arith}
use Rattle.std.specs.List.{Contains, flat_map}
use Rattle.std.proofs.lemmas.Bool.{cases_Bool, cond-true, cond-false}
use Rattle.std.proofs.lemmas.List.{append-nil, map-append}
use Rattle.std.proofs.lemmas.List.Elements.{Contains-append_left, Contains-append_right}
use Rattle.rb_trees.specs.declared.refusals.Refusal.{Refusal}
use Rattle.rb_trees.specs.mirror.Code.{expr_at, Stmt, Stmts, Val, Var, Assign, Run, Print, Throw, If, While, For, Try, Batch, NoStmts, MoreStmts}
use Rattle.rb_trees.specs.mirror.Declarations.{Method, Class, Program}
use Rattle.rb_meaning_types.specs.Lawful.{IsLawful, classes_positions, body_positions}
use Rattle.rb_meaning_flow.specs.Facts.{Facts, facts_of}
use Rattle.rb_meaning_flow.specs.Scopes.{Scope, with_variable}
use Rattle.rb_meaning_flow.specs.Outermost.{Outermost, batch_sites, outer_role, outer_after, outermost, outermost_in, parameters, method_batches, class_batches, program_batches}
use Rattle.rb_meaning_flow.specs.Refusals.{IsRefusal, IsBefore}
use Rattle.rb_meaning_flow.specs.Programs.{IsRefusalOf}
use Rattle.rb_marks.proofs.Counts.{at_most_once}
use Rattle.rb_marks.proofs.Placed.{total, totals, program_stands}
use Rattle.rb_flow.specs.Earliest.{is_before}
use Rattle.rb_flow.specs.declared.outermost.OpenBatch.{OpenBatch}
use Rattle.rb_flow.specs.Begun.{Begun, begun_of, begun, begun_sites, stmt_begun, block_begun, methods_begun, classes_begun, program_begun}
use Rattle.rb_flow.specs.Answers.{SitesDiffer, IsBatchAnswer}
use Rattle.rb_flow.specs.Program.{AllDiffer, IsRefusalAmong, IsAnswerAmong, with_answer, TakenSo, IsProgramAnswer}
use Rattle.rb_flow.proofs.Members.{none_contained, first_contained, more_contained, contained_cases}
use Rattle.rb_flow.proofs.First.{AtMost, before_true, before_false}
use Rattle.rb_flow.proofs.Differ.{Once, sites_differ}

-- what is before a refusal is before what isn't before that
before_more : (q r s : Refusal) → IsBefore q r → AtMost r s → IsBefore q s
before_more q r s b m = elim b [
  | inl lt ↦ elim m.is [ inl l ↦ inl (omega (arith, lt, l)) | inr t ↦ inl (omega (arith, lt, t.0)) ]
  | inr tied ↦ elim m.is [ inl l ↦ inl (omega (arith, tied.0, l)) | inr t ↦ inr (tied.0 ∙ t.0, omega (arith, tied.1, t.1)) ]
]

-- a refusal of one more batch, or of those before
one_more : (x : Facts) (b : Begun) (bs : List Begun) (r : Refusal) → IsRefusalAmong x (b ∷ bs) r → IsRefusal x (begun_sites x b) r ⊎ IsRefusalAmong x bs r
one_more x b bs r h = elim (contained_cases b bs h.0 h.1) [
  | inl e ↦ inl (subst (λ c. IsRefusal x (begun_sites x c) r) (sym e) h.2)
  | inr m ↦ inr (h.0, m, h.2)
]

of_first : (x : Facts) (b : Begun) (bs : List Begun) (r : Refusal) → IsRefusal x (begun_sites x b) r → IsRefusalAmong x (b ∷ bs) r
of_first x b bs r h = (b, first_contained b bs, h)

of_rest : (x : Facts) (b : Begun) (bs : List Begun) (r : Refusal) → IsRefusalAmong x bs r → IsRefusalAmong x (b ∷ bs) r
of_rest x b bs r h = (h.0, more_contained b bs h.0 h.1, h.2)

pub among_more : (x : Facts) (b : Begun) (bs : List Begun) (first answer : Option Refusal) → IsAnswerAmong x bs first → IsBatchAnswer x (begun_sites x b) answer
    → IsAnswerAmong x (b ∷ bs) (with_answer first answer)
among_more x b bs None None f a = λ r h. elim (one_more x b bs r h) [ inl m ↦ a r m | inr m ↦ f r m ]
among_more x b bs None (Some r) f a = (of_first x b bs r a.0, λ other h before. elim (one_more x b bs other h) [ inl m ↦ a.1 other m before | inr m ↦ f other m ])
among_more x b bs (Some s) None f a = (of_rest x b bs s f.0, λ other h before. elim (one_more x b bs other h) [ inl m ↦ a other m | inr m ↦ f.1 other m before ])
among_more x b bs (Some s) (Some r) f a = elim (cases_Bool (is_before r s)) [
  | inl is ↦ subst (IsAnswerAmong x (b ∷ bs)) (sym (cond-true _ _ _ is))
      (of_first x b bs r a.0, λ other h before. elim (one_more x b bs other h) [ inl m ↦ a.1 other m before | inr m ↦ f.1 other m (before_more other r s before (before_true r s is)) ])
  | inr isnt ↦ subst (IsAnswerAmong x (b ∷ bs)) (sym (cond-false _ _ _ isnt))
      (of_rest x b bs s f.0, λ other h before. elim (one_more x b bs other h) [ inl m ↦ a.1 other m (before_more other s r before (before_false r s isnt)) | inr m ↦ f.1 other m before ])
]

pub none_taken : (x : Facts) (all : List Begun) → TakenSo x all all None
none_taken x all = record { taken = []; whole = append-nil all; answer = λ r h. none_contained h.0 h.1 }

pub one_taken : (x : Facts) (all rest : List Begun) (b : Begun) (first answer : Option Refusal) → TakenSo x all (rest ++ b ∷ []) first → IsBatchAnswer x (begun_sites x b) answer
    → TakenSo x all rest (with_answer first answer)
one_taken x all rest b first answer t a = record { taken = b ∷ t.taken; whole = sym (append_assoc rest (b ∷ []) t.taken) ∙ t.whole; answer = among_more x b t.taken first answer t.answer a }

pub last_differs : (x : Facts) (all rest : List Begun) (b : Begun) (first : Option Refusal) → TakenSo x all (rest ++ b ∷ []) first → AllDiffer x all → SitesDiffer x (begun_sites x b)
last_differs x all rest b first t h =
    h b (subst (λ bs. Contains bs b) t.whole (Contains-append_left (rest ++ b ∷ []) t.taken b (Contains-append_right rest (b ∷ []) b (first_contained b []))))

pub all_taken : (x : Facts) (all : List Begun) (first : Option Refusal) → TakenSo x all [] first → IsAnswerAmong x all first
all_taken x all first t = subst (λ bs. IsAnswerAmong x bs first) t.whole t.answer

joined_batches : (bs : List Begun) (os ps : List Outermost) → (bs ++ map begun os) ++ map begun ps ≡ bs ++ map begun (os ++ ps)
joined_batches bs os ps = append_assoc bs (map begun os) (map begun ps) ∙ ap (λ cs. bs ++ cs) (sym (map-append begun os ps))

-- the walk collects the outermost batches
mutual
  stmt_collected : (x : Facts) (scope : Scope) (bs : List Begun) (s : Stmt) → stmt_begun x scope bs s ≡ bs ++ map begun (outermost x scope s)
  stmt_collected x scope bs (Val at name e) = sym (append-nil bs)
  stmt_collected x scope bs (Var at name e) = sym (append-nil bs)
  stmt_collected x scope bs (Assign at a b) = sym (append-nil bs)
  stmt_collected x scope bs (Run at e) = sym (append-nil bs)
  stmt_collected x scope bs (Print at e) = sym (append-nil bs)
  stmt_collected x scope bs (Throw at e) = sym (append-nil bs)
  stmt_collected x scope bs (If at c a b) =
      block_collected x scope (block_begun x scope bs a) b ∙ ap (λ cs. cs ++ map begun (outermost_in x scope b)) (block_collected x scope bs a)
      ∙ joined_batches bs (outermost_in x scope a) (outermost_in x scope b)
  stmt_collected x scope bs (While at c a) = block_collected x scope bs a
  stmt_collected x scope bs (For at name e a) = block_collected x (with_variable scope name (outer_role (x.items (expr_at e)) (x.lists (expr_at e))) at) bs a
  stmt_collected x scope bs (Try at a name b) =
      let inner = with_variable scope name (outer_role true false) at in
      block_collected x inner (block_begun x scope bs a) b ∙ ap (λ cs. cs ++ map begun (outermost_in x inner b)) (block_collected x scope bs a)
      ∙ joined_batches bs (outermost_in x scope a) (outermost_in x inner b)
  stmt_collected x scope bs (Batch at interface root a) = refl

  block_collected : (x : Facts) (scope : Scope) (bs : List Begun) (ss : Stmts) → block_begun x scope bs ss ≡ bs ++ map begun (outermost_in x scope ss)
  block_collected x scope bs NoStmts = sym (append-nil bs)
  block_collected x scope bs (MoreStmts s ss) =
      block_collected x (outer_after x scope s) (stmt_begun x scope bs s) ss
      ∙ ap (λ cs. cs ++ map begun (outermost_in x (outer_after x scope s) ss)) (stmt_collected x scope bs s)
      ∙ joined_batches bs (outermost x scope s) (outermost_in x (outer_after x scope s) ss)

methods_collected : (x : Facts) (bs : List Begun) (ms : List Method) → methods_begun x bs ms ≡ bs ++ map begun (flat_map (method_batches x) ms)
methods_collected x bs [] = sym (append-nil bs)
methods_collected x bs (m ∷ ms) =
    methods_collected x (block_begun x (parameters m.signature.params) bs m.body.statements) ms
    ∙ ap (λ cs. cs ++ map begun (flat_map (method_batches x) ms)) (block_collected x (parameters m.signature.params) bs m.body.statements)
    ∙ joined_batches bs (method_batches x m) (flat_map (method_batches x) ms)

classes_collected : (x : Facts) (bs : List Begun) (cs : List Class) → classes_begun x bs cs ≡ bs ++ map begun (flat_map (class_batches x) cs)
classes_collected x bs [] = sym (append-nil bs)
classes_collected x bs (c ∷ cs) =
    classes_collected x (methods_begun x bs c.methods) cs
    ∙ ap (λ ds. ds ++ map begun (flat_map (class_batches x) cs)) (methods_collected x bs c.methods)
    ∙ joined_batches bs (class_batches x c) (flat_map (class_batches x) cs)

pub program_collected : (x : Facts) (p : Program) → program_begun x p ≡ map begun (program_batches x p)
program_collected x p =
    block_collected x [] (classes_begun x [] p.classes) p.body.statements
    ∙ ap (λ cs. cs ++ map begun (outermost_in x [] p.body.statements)) (classes_collected x [] p.classes)
    ∙ joined_batches [] (flat_map (class_batches x) p.classes) (outermost_in x [] p.body.statements)

-- a member of a mapped list
pub mapped_from : {A B : Type 0} (f : A → B) (xs : List A) (y : B) → Contains (map f xs) y → (a : A) × Contains xs a × (f a ≡ y)
mapped_from f [] y h = absurd (none_contained y h)
mapped_from f (x ∷ xs) y h = elim (contained_cases (f x) (map f xs) y h) [
  | inl e ↦ (x, first_contained x xs, e)
  | inr m ↦ let more = mapped_from f xs y m in (more.0, more_contained x xs more.0 more.1, more.2)
]

pub mapped_to : {A B : Type 0} (f : A → B) (xs : List A) (a : A) → Contains xs a → Contains (map f xs) (f a)
mapped_to f [] a h = absurd (none_contained a h)
mapped_to f (x ∷ xs) a h = elim (contained_cases x xs a h) [
  | inl e ↦ subst (λ b. Contains (f x ∷ map f xs) (f b)) e (first_contained (f x) (map f xs))
  | inr m ↦ more_contained (f x) (map f xs) (f a) (mapped_to f xs a m)
]

-- at most one site of each batch stands at a position
among_totals : (q : ℕ) (x : Facts) (bs : List Outermost) (b : Outermost) → Contains bs b → total q (batch_sites x b) ≤ totals q x bs
among_totals q x [] b h = absurd (none_contained b h)
among_totals q x (c ∷ bs) b h = elim (contained_cases c bs b h) [
  | inl e ↦ (let same : total q (batch_sites x c) ≡ total q (batch_sites x b) = ap (λ d. total q (batch_sites x d)) e in omega arith)
  | inr m ↦ (let more = among_totals q x bs b m in omega arith)
]

pub batch_once : (x : Facts) (p : Program) → IsLawful p → (b : Outermost) → Contains (program_batches x p) b → Once (batch_sites x b)
batch_once x p lawful b h q =
    let few = at_most_once q (classes_positions p.classes ++ body_positions p.body) lawful.positions in
    let all = program_stands q x p in
    let one = among_totals q x (program_batches x p) b h in
    omega (arith, few, all, one)

pub program_differs : (p : Program) → IsLawful p → (bs : List Begun) → bs ≡ program_begun (facts_of p) p → AllDiffer (facts_of p) bs
program_differs p lawful bs e b h =
    let x = facts_of p in
    let m = mapped_from begun (program_batches x p) b (subst (λ cs. Contains cs b) (e ∙ program_collected x p) h) in
    subst (λ c. SitesDiffer x (begun_sites x c)) m.2 (sites_differ x (batch_sites x m.0) (batch_once x p lawful m.0 m.1))

to_program : (p : Program) (r : Refusal) → IsRefusalAmong (facts_of p) (map begun (program_batches (facts_of p) p)) r → IsRefusalOf p r
to_program p r h =
    let x = facts_of p in
    let m = mapped_from begun (program_batches x p) h.0 h.1 in
    (batch_sites x m.0, mapped_to (batch_sites x) (program_batches x p) m.0 m.1, subst (λ c. IsRefusal x (begun_sites x c) r) (sym m.2) h.2)

from_program : (p : Program) (r : Refusal) → IsRefusalOf p r → IsRefusalAmong (facts_of p) (map begun (program_batches (facts_of p) p)) r
from_program p r h =
    let x = facts_of p in
    let m = mapped_from (batch_sites x) (program_batches x p) h.0 h.1 in
    (begun m.0, mapped_to begun (program_batches x p) m.0 m.1, subst (λ ss. IsRefusal x ss r) (sym m.2) h.2)

program_answered : (p : Program) (answer : Option Refusal) → IsAnswerAmong (facts_of p) (map begun (program_batches (facts_of p) p)) answer → IsProgramAnswer p answer
program_answered p None h = λ r m. h r (from_program p r m)
program_answered p (Some r) h = (to_program p r h.0, λ other m before. h.1 other (from_program p other m) before)

pub program_result : (p : Program) (bs : List Begun) (answer : Option Refusal) → bs ≡ program_begun (facts_of p) p
    → IsAnswerAmong (facts_of p) bs answer → IsProgramAnswer p answer
program_result p bs answer e h = program_answered p answer (subst (λ cs. IsAnswerAmong (facts_of p) cs answer) (e ∙ program_collected (facts_of p) p) h)

pub pop_taken : (x : Facts) (all : List Begun) (first : Option Refusal) (rest new : List OpenBatch) (last : OpenBatch) → rest ≡ new ++ last ∷ [] → TakenSo x all (map begun_of rest) first
    → TakenSo x all (map begun_of new ++ begun_of last ∷ []) first
pop_taken x all first rest new last e t = subst (λ bs. TakenSo x all bs first) (ap (map begun_of) e ∙ map-append begun_of new (last ∷ [])) t
