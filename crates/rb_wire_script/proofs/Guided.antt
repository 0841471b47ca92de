-- What guesses at the places of numbers tell.
use Rattle.std.proofs.Common.{◌≡◌, ℕ, suc, zero, List, [], ◌∷◌, ◌++◌, take, length, Bool, true, false, cond, nat_eq, Option, Some, None, slice_get, IsTrue, refl, sym, ap, ◌∙◌, subst, arith}
use Rattle.std.specs.Prelude.{◌==◌, ◌||◌}
use Rattle.std.specs.Option.{option_map, is_some}
use Rattle.std.specs.Ordering.{nat_cmp, is_eq}
use Rattle.std.specs.BTreeMap as tree
use Rattle.std.specs.Cmp.{nat_cmp_total, eq_by_cmp_equiv}
use Rattle.std.specs.declared.cmp.Ordering.{Ordering}
use Rattle.std.specs.declared.cmp.Ordering.TheVariants.{Less, Equal, Greater}
use Rattle.std.proofs.lemmas.Map.Lookups.{exact_unsigned}
use Rattle.std.proofs.lemmas.Bool.{eqb-true, eq-eqb}
use Rattle.std.proofs.lemmas.Bool.Decides.{nat_tests}
use Rattle.rb_trees.specs.Validity.{has}
use Rattle.rb_wire_script.specs.Guesses.{first_place, is_at, Guides}

-- whether the number stands at a place
abbrev pub stands_so : ℕ → Option ℕ → Bool
stands_so wanted None = false
stands_so wanted (Some word) = nat_eq word wanted

-- the place, if the number stands there
abbrev pub confirmed : ℕ → ℕ → Option ℕ → Option ℕ
confirmed wanted place None = None
confirmed wanted place (Some word) = cond (nat_eq word wanted) (Some place) None

abbrev pub tried : List ℕ → ℕ → Option ℕ → Option ℕ
tried words wanted None = None
tried words wanted (Some place) = confirmed wanted place (slice_get words place)

-- at its first place the number stands
stands_step : (b : Bool) (o : Option ℕ) (w : ℕ) (ws : List ℕ) (wanted : ℕ) (place : ℕ) → nat_eq w wanted ≡ b
    → ((p : ℕ) → o ≡ Some p → stands_so wanted (slice_get ws p) ≡ true) → cond b (Some 0) (option_map suc o) ≡ Some place → stands_so wanted (slice_get (w ∷ ws) place) ≡ true
stands_step true o w ws wanted place is before e = let at : 0 ≡ place = cc in subst (λ p. stands_so wanted (slice_get (w ∷ ws) p) ≡ true) at is
stands_step false None w ws wanted place is before e = cc
stands_step false (Some p) w ws wanted place is before e = let at : suc p ≡ place = cc in subst (λ p. stands_so wanted (slice_get (w ∷ ws) p) ≡ true) at (before p refl)

stands : (ws : List ℕ) (wanted : ℕ) (place : ℕ) → first_place wanted ws ≡ Some place → stands_so wanted (slice_get ws place) ≡ true
stands [] wanted place e = cc
stands (w ∷ ws) wanted place e = stands_step (nat_eq w wanted) (first_place wanted ws) w ws wanted place refl (stands ws wanted) e

-- without a first place the number stands nowhere
nowhere_step : (b : Bool) (o : Option ℕ) → cond b (Some 0) (option_map suc o) ≡ None → (b ≡ false) × (o ≡ None)
nowhere_step true o e = cc
nowhere_step false None e = (refl, refl)
nowhere_step false (Some p) e = cc

nowhere : (ws : List ℕ) (wanted : ℕ) → first_place wanted ws ≡ None → (place : ℕ) → stands_so wanted (slice_get ws place) ≡ false
nowhere [] wanted e place = refl
nowhere (w ∷ ws) wanted e zero = (nowhere_step (nat_eq w wanted) (first_place wanted ws) e).0
nowhere (w ∷ ws) wanted e (suc place) = nowhere ws wanted (nowhere_step (nat_eq w wanted) (first_place wanted ws) e).1 place

confirmed_so : (o : Option ℕ) (wanted : ℕ) (place : ℕ) → stands_so wanted o ≡ true → confirmed wanted place o ≡ Some place
confirmed_so None wanted place e = cc
confirmed_so (Some w) wanted place e = ap (λ b. cond b (Some place) None) e

denied_so : (o : Option ℕ) (wanted : ℕ) (place : ℕ) → stands_so wanted o ≡ false → confirmed wanted place o ≡ None
denied_so None wanted place e = refl
denied_so (Some w) wanted place e = ap (λ b. cond b (Some place) None) e

right_step : (o g : Option ℕ) (ws : List ℕ) (wanted : ℕ) → first_place wanted ws ≡ o → ((place : ℕ) → o ≡ Some place → IsTrue (is_at g place)) → tried ws wanted g ≡ o
right_step None None ws wanted is h = refl
right_step None (Some q) ws wanted is h = denied_so (slice_get ws q) wanted q (nowhere ws wanted is q)
right_step (Some p) None ws wanted is h = let wrong = h p refl in cc
right_step (Some p) (Some q) ws wanted is h =
    let said : IsTrue (nat_eq q p) = h p refl in
    let same : q ≡ p = grind (arith, nat_tests) in
    confirmed_so (slice_get ws q) wanted q (stands ws wanted q (is ∙ ap Some (sym same))) ∙ ap Some same

-- a guess that is tried is the first place
pub tried_right : (ws : List ℕ) (wanted : ℕ) (guess : ℕ → Option ℕ) → Guides guess ws → tried ws wanted (guess wanted) ≡ first_place wanted ws
tried_right ws wanted guess h = right_step (first_place wanted ws) (guess wanted) ws wanted refl (h wanted)

-- what each outcome of a try tells
pub tried_yes : (ws : List ℕ) (wanted : ℕ) (guess : ℕ → Option ℕ) → Guides guess ws → (place : ℕ) (word : ℕ)
    → guess wanted ≡ Some place → slice_get ws place ≡ Some word → nat_eq word wanted ≡ true → first_place wanted ws ≡ Some place
tried_yes ws wanted guess h place word told there so = sym (tried_right ws wanted guess h) ∙ ap (tried ws wanted) told ∙ ap (confirmed wanted place) there ∙ ap (λ b. cond b (Some place) None) so

pub tried_no : (ws : List ℕ) (wanted : ℕ) (guess : ℕ → Option ℕ) → Guides guess ws → (place : ℕ) (word : ℕ)
    → guess wanted ≡ Some place → slice_get ws place ≡ Some word → nat_eq word wanted ≡ false → first_place wanted ws ≡ None
tried_no ws wanted guess h place word told there so = sym (tried_right ws wanted guess h) ∙ ap (tried ws wanted) told ∙ ap (confirmed wanted place) there ∙ ap (λ b. cond b (Some place) None) so

pub tried_past : (ws : List ℕ) (wanted : ℕ) (guess : ℕ → Option ℕ) → Guides guess ws → (place : ℕ)
    → guess wanted ≡ Some place → slice_get ws place ≡ None → first_place wanted ws ≡ None
tried_past ws wanted guess h place told there = sym (tried_right ws wanted guess h) ∙ ap (tried ws wanted) told ∙ ap (confirmed wanted place) there

pub untried : (ws : List ℕ) (wanted : ℕ) (guess : ℕ → Option ℕ) → Guides guess ws → guess wanted ≡ None → first_place wanted ws ≡ None
untried ws wanted guess h told = sym (tried_right ws wanted guess h) ∙ ap (tried ws wanted) told

-- a map's own test of its keys is that of numbers
is_equal : (r : Ordering) → is_eq r ≡ true → r ≡ Equal
is_equal Less e = cc
is_equal Equal e = refl
is_equal Greater e = cc

same_tests : (b c : Bool) → (b ≡ true → c ≡ true) → (c ≡ true → b ≡ true) → b ≡ c
same_tests true c there back = sym (there refl)
same_tests false true there back = back refl
same_tests false false there back = refl

same_key : (a b : ℕ) → tree.is_at (nat_cmp a) b ≡ nat_eq a b
same_key a b = same_tests _ _
    (λ e. eq-eqb a b (exact_unsigned a b (is_equal (nat_cmp a b) e)))
    (λ e. ap (λ q. tree.is_at (nat_cmp a) q) (sym (eqb-true a b e)) ∙ (eq_by_cmp_equiv nat_cmp_total).refl a)

-- what a map says after it was told one thing
pub told_one : (key place : ℕ) (before after : ℕ → Option ℕ) → ((q : ℕ) → after q ≡ cond (tree.is_at (nat_cmp key) q) (Some place) (before q))
    → (q : ℕ) → after q ≡ cond (nat_eq key q) (Some place) (before q)
told_one key place before after is q = is q ∙ ap (λ b. cond b (Some place) (before q)) (same_key key q)

abbrev pub or_else : Option ℕ → Option ℕ → Option ℕ
or_else None other = other
or_else (Some p) other = Some p

push_step : (b c : Bool) (o : Option ℕ) (n : ℕ) → cond b (Some 0) (option_map suc (or_else o (cond c (Some n) None))) ≡ or_else (cond b (Some 0) (option_map suc o)) (cond c (Some (suc n)) None)
push_step true c o n = refl
push_step false c (Some p) n = refl
push_step false true None n = refl
push_step false false None n = refl

first_place_push : (ws : List ℕ) (w wanted : ℕ) → first_place wanted (ws ++ w ∷ []) ≡ or_else (first_place wanted ws) (cond (nat_eq w wanted) (Some (length ws)) None)
first_place_push [] w wanted = refl
first_place_push (v ∷ ws) w wanted = ap (λ o. cond (nat_eq v wanted) (Some 0) (option_map suc o)) (first_place_push ws w wanted)
    ∙ push_step (nat_eq v wanted) (nat_eq w wanted) (first_place wanted ws) (length ws)

-- a number that stands already is added
known_step : (b : Bool) (o p : Option ℕ) (n place : ℕ) → (b ≡ true → o ≡ Some n) → or_else o (cond b p None) ≡ Some place → o ≡ Some place
known_step b (Some q) p n place h e = e
known_step true None p n place h e = let wrong = h refl in cc
known_step false None p n place h e = cc

pub guides_known : (ws : List ℕ) (w : ℕ) (n : ℕ) (guess : ℕ → Option ℕ) → first_place w ws ≡ Some n → Guides guess ws → Guides guess (ws ++ w ∷ [])
guides_known ws w n guess here h wanted place e =
    let same : nat_eq w wanted ≡ true → first_place wanted ws ≡ Some n = λ b. subst (λ v. first_place v ws ≡ Some n) (eqb-true w wanted b) here in
    h wanted place (known_step (nat_eq w wanted) (first_place wanted ws) (Some (length ws)) n place same (sym (first_place_push ws w wanted) ∙ e))

-- a new number is noted
noted_step : (b : Bool) (g : Option ℕ) (n place : ℕ) → (b ≡ true → ⊥) → IsTrue (is_at g place) → IsTrue (is_at (cond b (Some n) g) place)
noted_step true g n place h said = absurd (h refl)
noted_step false g n place h said = said

pub guides_noted : (ws : List ℕ) (w : ℕ) (n : ℕ) (guess after : ℕ → Option ℕ) → first_place w ws ≡ None → Guides guess ws
    → ((wanted : ℕ) → after wanted ≡ cond (nat_eq w wanted) (Some n) (guess wanted)) → Guides after ws
guides_noted ws w n guess after absent h is wanted place e =
    let other : nat_eq w wanted ≡ true → ⊥ = λ b. (let there = subst (λ v. first_place v ws ≡ None) (eqb-true w wanted b) absent in cc) in
    subst (λ g. IsTrue (is_at g place)) (sym (is wanted)) (noted_step (nat_eq w wanted) (guess wanted) n place other (h wanted place e))

-- and then added
added_step : (b : Bool) (o g : Option ℕ) (n place : ℕ) → ((p : ℕ) → o ≡ Some p → IsTrue (is_at (cond b (Some n) g) p)) → or_else o (cond b (Some n) None) ≡ Some place → IsTrue (is_at (cond b (Some n) g) place)
added_step b (Some q) g n place h e = h place e
added_step true None g n place h e = let same : n ≡ place = cc in grind (arith, nat_tests)
added_step false None g n place h e = cc

pub guides_added : (ws : List ℕ) (w : ℕ) (guess after : ℕ → Option ℕ) → Guides after ws
    → ((wanted : ℕ) → after wanted ≡ cond (nat_eq w wanted) (Some (length ws)) (guess wanted)) → Guides after (ws ++ w ∷ [])
guides_added ws w guess after h is wanted place e =
    subst (λ g. IsTrue (is_at g place)) (sym (is wanted))
    (added_step (nat_eq w wanted) (first_place wanted ws) (guess wanted) (length ws) place
    (λ p at. subst (λ g. IsTrue (is_at g p)) (is wanted) (h wanted p at)) (sym (first_place_push ws w wanted) ∙ e))

-- the front of the list keeps its places
front_step : (b : Bool) (o all : Option ℕ) (place : ℕ) → ((p : ℕ) → o ≡ Some p → all ≡ Some p) → cond b (Some 0) (option_map suc o) ≡ Some place → cond b (Some 0) (option_map suc all) ≡ Some place
front_step true o all place h e = e
front_step false None all place h e = cc
front_step false (Some p) all place h e = ap (option_map suc) (h p refl) ∙ e

front_place : (n : ℕ) (ws : List ℕ) (wanted : ℕ) (place : ℕ) → first_place wanted (take n ws) ≡ Some place → first_place wanted ws ≡ Some place
front_place zero ws wanted place e = cc
front_place (suc n) [] wanted place e = e
front_place (suc n) (w ∷ ws) wanted place e = front_step (nat_eq w wanted) (first_place wanted (take n ws)) (first_place wanted ws) place (front_place n ws wanted) e

pub guides_front : (n : ℕ) (ws : List ℕ) (guess : ℕ → Option ℕ) → Guides guess ws → Guides guess (take n ws)
guides_front n ws guess h wanted place e = h wanted place (front_place n ws wanted place e)

-- a number is in the list where it has a place
has_step : (b c r : Bool) (o : Option ℕ) → b ≡ c → r ≡ is_some o → (b || r) ≡ is_some (cond c (Some 0) (option_map suc o))
has_step true true r o h e = refl
has_step true false r o h e = cc
has_step false true r o h e = cc
has_step false false r None h e = e
has_step false false r (Some p) h e = e

same_test : (m n : ℕ) → (m == n) ≡ nat_eq n m
same_test m n = grind (arith, nat_tests)

pub has_place : (ws : List ℕ) (wanted : ℕ) → has wanted ws ≡ is_some (first_place wanted ws)
has_place [] wanted = refl
has_place (w ∷ ws) wanted = has_step (wanted == w) (nat_eq w wanted) (has wanted ws) (first_place wanted ws) (same_test wanted w) (has_place ws wanted)
