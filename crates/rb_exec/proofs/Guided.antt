-- What the places of variables lead to.
use Rattle.std.proofs.Common.{◌≡◌, ℕ, suc, zero, ◌<◌, ◌≤◌, List, [], ◌∷◌, ◌++◌, ◌-◌, length, reverse, take, Bool, true, false, cond, nat_eq, nat_lt, Option, Some, None, slice_get, refl, sym, ap, ◌∙◌, subst, arith}
use Rattle.std.specs.Option.{option_map}
use Rattle.std.proofs.lemmas.Grind.{common_steps}
use Rattle.std.proofs.lemmas.Bool.Decides.{nat_tests}
use Rattle.std.proofs.lemmas.List.{reverse-append, reverse-reverse, length-reverse, length-append}
use Rattle.std.proofs.Math.Seq.{take-append_seam}
use Rattle.rb_trees.specs.declared.values.Value.{Value}
use Rattle.rb_meaning_code.specs.ScriptRun.{Vars, latest}
use Rattle.rb_exec.specs.Bindings.{as_variables, Guides, latest_binding, oldest, Sets, without_latest}
use Rattle.rb_exec.specs.declared.variables.Binding.{Binding}

same_number : (a b : ℕ) → nat_eq a b ≡ true → a ≡ b
same_number a b e = grind (arith, nat_tests)

eq_itself : (n : ℕ) → nat_eq n n ≡ true
eq_itself n = grind (arith, nat_tests)

-- what guides, guides wherever it says the same
pub guides_alike : (bs : List Binding) (p q : ℕ → Option ℕ) → ((n : ℕ) → q n ≡ p n) → Guides p bs → Guides q bs
guides_alike [] p q e h = λ n. e n ∙ h n
guides_alike (b ∷ bs) p q e h =
    (e b.number ∙ h.0, guides_alike bs _ _ (λ n. ap (λ o. cond (nat_eq b.number n) b.before o) (e n)) h.1)

-- a binding more
back : (t : Bool) (number n : ℕ) (p q : ℕ → Option ℕ) (place before : Option ℕ) → nat_eq number n ≡ t → before ≡ p number → q n ≡ cond t place (p n)
    → cond t before (q n) ≡ p n
back true number n p q place before t e u = e ∙ ap p (same_number number n t)
back false number n p q place before t e u = u

pub guides_more : (b : Binding) (bs : List Binding) (p q : ℕ → Option ℕ) → b.before ≡ p b.number → ((n : ℕ) → q n ≡ cond (nat_eq b.number n) (Some (length bs)) (p n))
    → Guides p bs → Guides q (b ∷ bs)
guides_more b bs p q e u h = (
  u b.number ∙ ap (λ t. cond t (Some (length bs)) (p b.number)) (eq_itself b.number),
  guides_alike bs p _ (λ n. back (nat_eq b.number n) b.number n p q (Some (length bs)) b.before refl e (u n)) h,
)

-- a binding less
pub guides_less : (b : Binding) (bs : List Binding) (p q : ℕ → Option ℕ) → ((n : ℕ) → q n ≡ cond (nat_eq b.number n) b.before (p n)) → Guides p (b ∷ bs) → Guides q bs
guides_less b bs p q u h = guides_alike bs _ q u h.1

-- the binding at a place
abbrev pub placed : List Binding → ℕ → Option Binding
placed [] k = None
placed (b ∷ bs) k = cond (nat_eq (length bs) k) (Some b) (placed bs k)

-- places lie within the list
within_step : (t : Bool) (place before : ℕ) (o : Option ℕ) (k : ℕ) → (t ≡ false → o ≡ Some k → k < before) → (t ≡ true → o ≡ Some before) → o ≡ Some k → k < suc before
within_step true place before o k h g e = let there = g refl in let same : before ≡ k = cc in omega arith
within_step false place before o k h g e = let low = h refl e in omega arith

at_same : (p : ℕ → Option ℕ) (a b : ℕ) (o : Option ℕ) → nat_eq a b ≡ true → p a ≡ o → p b ≡ o
at_same p a b o t e = ap p (sym (same_number a b t)) ∙ e

pub within : (bs : List Binding) (p : ℕ → Option ℕ) (n k : ℕ) → Guides p bs → p n ≡ Some k → k < length bs
within [] p n k h e = let nowhere : p n ≡ None = h n in absurd (cc (nowhere, e))
within (b ∷ bs) p n k h e =
    within_step (nat_eq b.number n) 0 (length bs) (p n) k
    (λ t is. within bs _ n k h.1 (ap (λ x. cond x b.before (p n)) t ∙ is))
    (λ t. at_same p b.number n (Some (length bs)) t h.0) e

-- the value that the places lead to
abbrev pub led : List Binding → Option ℕ → Option Value
led bs None = None
led bs (Some k) = option_map (λ b. b.value) (placed bs k)

past : (b : Binding) (bs : List Binding) (o : Option ℕ) → ((k : ℕ) → o ≡ Some k → k < length bs) → led (b ∷ bs) o ≡ led bs o
past b bs None h = refl
past b bs (Some k) h =
    let low = h k refl in
    let other : nat_eq (length bs) k ≡ false = grind (arith, nat_tests) in
    ap (λ t. option_map (λ x. x.value) (cond t (Some b) (placed bs k))) other

find_step : (t : Bool) (b : Binding) (bs : List Binding) (p : ℕ → Option ℕ) (n : ℕ) → nat_eq b.number n ≡ t → Guides p (b ∷ bs)
    → latest (as_variables bs) n ≡ led bs (cond t b.before (p n)) → cond t (Some b.value) (latest (as_variables bs) n) ≡ led (b ∷ bs) (p n)
find_step true b bs p n t h before =
    ap (λ x. option_map (λ y. y.value) (cond x (Some b) (placed bs (length bs)))) (sym (eq_itself (length bs)))
    ∙ ap (led (b ∷ bs)) (sym (at_same p b.number n (Some (length bs)) t h.0))
find_step false b bs p n t h before =
    before ∙ sym (past b bs (p n) (λ k e. within bs _ n k h.1 (ap (λ x. cond x b.before (p n)) t ∙ e)))

-- the latest value of a variable is that to which the places lead
pub found : (bs : List Binding) (p : ℕ → Option ℕ) (n : ℕ) → Guides p bs → latest (as_variables bs) n ≡ led bs (p n)
found [] p n h = ap (led []) (sym (h n))
found (b ∷ bs) p n h = find_step (nat_eq b.number n) b bs p n refl h (found bs _ n h.1)

-- bindings in order of binding
at_end : (xs : List Binding) (b : Binding) → slice_get (xs ++ b ∷ []) (length xs) ≡ Some b
at_end [] b = refl
at_end (x ∷ xs) b = at_end xs b

before_end : (xs : List Binding) (b : Binding) (k : ℕ) → (length xs ≡ k → ⊥) → slice_get (xs ++ b ∷ []) k ≡ slice_get xs k
before_end [] b zero h = absurd (h refl)
before_end [] b (suc k) h = refl
before_end (x ∷ xs) b zero h = refl
before_end (x ∷ xs) b (suc k) h = before_end xs b k (λ e. h (ap suc e))

differ : (a b : ℕ) → nat_eq a b ≡ false → a ≡ b → ⊥
differ a b e f = let itself : nat_eq a b ≡ true = ap (nat_eq a) (sym f) ∙ eq_itself a in absurd (cc (e, itself))

last_by : (t : Bool) (xs : List Binding) (b : Binding) (k : ℕ) → nat_eq (length xs) k ≡ t → slice_get (xs ++ b ∷ []) k ≡ cond t (Some b) (slice_get xs k)
last_by true xs b k e = ap (slice_get (xs ++ b ∷ [])) (sym (same_number (length xs) k e)) ∙ at_end xs b
last_by false xs b k e = before_end xs b k (differ (length xs) k e)

last_at : (xs : List Binding) (b : Binding) (k : ℕ) → slice_get (xs ++ b ∷ []) k ≡ cond (nat_eq (length xs) k) (Some b) (slice_get xs k)
last_at xs b k = last_by (nat_eq (length xs) k) xs b k refl

placed_so : (bs : List Binding) (k : ℕ) → slice_get (reverse bs) k ≡ placed bs k
placed_so [] k = refl
placed_so (b ∷ bs) k =
    ap (λ ys. slice_get ys k) (reverse-append (b ∷ []) bs)
    ∙ last_at (reverse bs) b k
    ∙ ap (λ n. cond (nat_eq n k) (Some b) (slice_get (reverse bs) k)) (length-reverse bs)
    ∙ ap (λ o. cond (nat_eq (length bs) k) (Some b) o) (placed_so bs k)

pub placed_at : (xs : List Binding) (k : ℕ) → slice_get xs k ≡ placed (reverse xs) k
placed_at xs k = ap (λ ys. slice_get ys k) (sym (reverse-reverse xs)) ∙ placed_so (reverse xs) k

-- the latest binding stands last
pub reverse_last : (xs : List Binding) (b : Binding) → reverse (xs ++ b ∷ []) ≡ b ∷ reverse xs
reverse_last xs b = reverse-append xs (b ∷ [])

as_many : (bs : List Binding) → length (as_variables bs) ≡ length bs
as_many [] = refl
as_many (b ∷ bs) = ap suc (as_many bs)

pub count_of : (xs : List Binding) → length (as_variables (reverse xs)) ≡ length xs
count_of xs = as_many (reverse xs) ∙ length-reverse xs

-- the oldest bindings
oldest_step : (vs : Vars) (count : ℕ) → count < length vs → oldest count vs ≡ oldest count (without_latest vs)
oldest_step [] count l = refl
oldest_step (v ∷ vs) count l =
    let low : nat_lt (length vs) count ≡ false = grind (arith, nat_tests) in
    ap (λ t. cond t (v ∷ vs) (oldest count vs)) low

pub oldest_less : (vs : Vars) (count : ℕ) → count < length vs → oldest count (without_latest vs) ≡ oldest count vs
oldest_less vs count l = sym (oldest_step vs count l)

pub oldest_all : (vs : Vars) (count : ℕ) → length vs ≤ count → oldest count vs ≡ vs
oldest_all [] count l = refl
oldest_all (v ∷ vs) count l =
    let low : nat_lt (length vs) count ≡ true = grind (arith, nat_tests) in
    ap (λ t. cond t (v ∷ vs) (oldest count vs)) low

length_more : (more rest : Vars) → length rest ≤ length (more ++ rest)
length_more [] rest = omega arith
length_more (v ∷ more) rest = let h = length_more more rest in omega arith

pub oldest_of : (more rest : Vars) → oldest (length rest) (more ++ rest) ≡ rest
oldest_of [] rest = oldest_all rest (length rest) (omega arith)
oldest_of (v ∷ more) rest =
    let h = length_more more rest in
    let low : nat_lt (length (more ++ rest)) (length rest) ≡ false = grind (arith, nat_tests) in
    ap (λ t. cond t (v ∷ more ++ rest) (oldest (length rest) (more ++ rest))) low ∙ oldest_of more rest

-- what a look-up finds, by what the places and the bindings say
pub find_nothing : (xs : List Binding) (p : ℕ → Option ℕ) (n : ℕ) → Guides p (reverse xs) → p n ≡ None → latest (as_variables (reverse xs)) n ≡ None
find_nothing xs p n h e = found (reverse xs) p n h ∙ ap (led (reverse xs)) e

pub find_placed : (xs : List Binding) (p : ℕ → Option ℕ) (n k : ℕ) → Guides p (reverse xs) → p n ≡ Some k → latest (as_variables (reverse xs)) n ≡ option_map (λ b. b.value) (slice_get xs k)
find_placed xs p n k h e = found (reverse xs) p n h ∙ ap (led (reverse xs)) e ∙ ap (option_map (λ b. b.value)) (sym (placed_at xs k))

pub ruleset finds = (find_nothing, find_placed, common_steps)

pub ruleset closings = (oldest_all, oldest_less, common_steps)

-- a binding more at the end
pub bound_more : (xs ys : List Binding) (b : Binding) (p q : ℕ → Option ℕ) (place : ℕ) → ys ≡ xs ++ b ∷ [] → place ≡ length xs → b.before ≡ p b.number → Guides p (reverse xs)
    → ((n : ℕ) → q n ≡ cond (nat_eq b.number n) (Some place) (p n)) → Guides q (reverse ys)
bound_more xs ys b p q place e l f h u =
    subst (λ zs. Guides q zs) (sym (ap reverse e ∙ reverse_last xs b))
    (guides_more b (reverse xs) p q f (λ n. u n ∙ ap (λ k. cond (nat_eq b.number n) (Some k) (p n)) (l ∙ sym (length-reverse xs))) h)

-- a binding less at the end
shorter : (bs xs : List Binding) (b : Binding) (size : ℕ) → reverse xs ≡ b ∷ bs → size ≡ length xs → reverse (take (size - 1) xs) ≡ bs
shorter bs xs b size r s =
    let whole : xs ≡ reverse bs ++ b ∷ [] = sym (reverse-reverse xs) ∙ ap reverse r ∙ reverse-append (b ∷ []) bs in
    let less : size - 1 ≡ length (reverse bs) = omega (arith, s, ap length whole, length-append (reverse bs) (b ∷ [])) in
    ap reverse (ap (λ n. take n xs) less ∙ ap (take (length (reverse bs))) whole ∙ take-append_seam (reverse bs) (b ∷ [])) ∙ reverse-reverse bs

guides_latest : (b : Binding) (bs : List Binding) (p q : ℕ → Option ℕ) (number : ℕ) (before : Option ℕ) → latest_binding (b ∷ bs) ≡ Some (number, before)
    → Sets number before p q → Guides p (b ∷ bs) → Guides q bs
guides_latest b bs p q number before l u h =
    let pair : (b.number, b.before) ≡ (number, before) = cc in
    let same : b.number ≡ number = ap (λ (x : ℕ × Option ℕ). x.0) pair in
    let then : b.before ≡ before = ap (λ (x : ℕ × Option ℕ). x.1) pair in
    guides_less b bs p q (λ n. u n ∙ ap (λ k. cond (nat_eq k n) before (p n)) (sym same) ∙ ap (λ o. cond (nat_eq b.number n) o (p n)) (sym then)) h

less_by : (bs xs : List Binding) (p q : ℕ → Option ℕ) (number : ℕ) (before : Option ℕ) (size : ℕ) → reverse xs ≡ bs → size ≡ length xs
    → latest_binding bs ≡ Some (number, before) → Guides p bs → Sets number before p q → Guides q (reverse (take (size - 1) xs))
less_by [] xs p q number before size r s l h u = absurd (cc l)
less_by (b ∷ bs) xs p q number before size r s l h u =
    subst (λ zs. Guides q zs) (sym (shorter bs xs b size r s)) (guides_latest b bs p q number before l u h)

pub bound_less : (xs ys : List Binding) (p q : ℕ → Option ℕ) (number : ℕ) (before : Option ℕ) (size : ℕ) → ys ≡ take (size - 1) xs → size ≡ length xs
    → latest_binding (reverse xs) ≡ Some (number, before) → Guides p (reverse xs) → Sets number before p q → Guides q (reverse ys)
bound_less xs ys p q number before size e s l h u =
    subst (λ zs. Guides q (reverse zs)) (sym e) (less_by (reverse xs) xs p q number before size refl s l h u)

seen_by : (bs xs : List Binding) (number : ℕ) (before : Option ℕ) (size : ℕ) → reverse xs ≡ bs → size ≡ length xs → latest_binding bs ≡ Some (number, before)
    → as_variables (reverse (take (size - 1) xs)) ≡ without_latest (as_variables bs)
seen_by [] xs number before size r s l = absurd (cc l)
seen_by (b ∷ bs) xs number before size r s l = ap as_variables (shorter bs xs b size r s)

pub seen_less : (xs ys : List Binding) (number : ℕ) (before : Option ℕ) (size : ℕ) → ys ≡ take (size - 1) xs → size ≡ length xs
    → latest_binding (reverse xs) ≡ Some (number, before) → as_variables (reverse ys) ≡ without_latest (as_variables (reverse xs))
seen_less xs ys number before size e s l = ap (λ zs. as_variables (reverse zs)) e ∙ seen_by (reverse xs) xs number before size refl s l
