-- What the index of a frame's later names tells.
use Rattle.std.proofs.Common.{◌≡◌, ℕ, suc, zero, ◌+◌, ◌-◌, ◌<◌, ◌≤◌, List, [], ◌∷◌, ◌++◌, map, take, drop, length, Bool, true, false, cond, nat_le, Option, Some, None, refl, ap, ◌∙◌, sym, arith}
use Rattle.std.specs.Prelude.{slice_get, slice_set}
use Rattle.std.specs.Option.{option_map}
use Rattle.std.specs.Str.{bytes_eq}
use Rattle.std.proofs.lemmas.Bool.Decides.{nat_tests}
use Rattle.rb_trees.specs.declared.values.Value.{Value}
use Rattle.rb_names.specs.Guesses.{first_place as place_named}
use Rattle.rb_engine.specs.declared.later.Later.{Later}
use Rattle.rb_engine.specs.Places.{first_place, IsIndexed, cut as later_cut, with_name}

-- the names alone
abbrev pub names_of : List (List ℕ × Value) → List (List ℕ)
names_of fs = map (λ n. n.0) fs

-- a place among the first n, or among the others
abbrev pub either : ℕ → Option ℕ → Option ℕ → Option ℕ
either n (Some p) later = Some p
either n None later = option_map (λ p. n + p) later

either_step : (b : Bool) (n : ℕ) (o later all : Option ℕ) → all ≡ either n o later → cond b (Some 0) (option_map suc all) ≡ either (suc n) (cond b (Some 0) (option_map suc o)) later
either_step true n o later all e = refl
either_step false n (Some p) later all e = ap (option_map suc) e
either_step false n None None all e = ap (option_map suc) e
either_step false n None (Some p) all e = let same : suc (n + p) ≡ suc n + p = omega arith in ap (option_map suc) e ∙ ap Some same

same_place : (fs : List (List ℕ × Value)) (name : List ℕ) → first_place fs name ≡ place_named name (names_of fs)
same_place [] name = refl
same_place (f ∷ fs) name = ap (λ o. cond (bytes_eq f.0 name) (Some 0) (option_map suc o)) (same_place fs name)

none_before : (o : Option ℕ) → o ≡ option_map (λ p. 0 + p) o
none_before None = refl
none_before (Some p) = let same : p ≡ 0 + p = omega arith in ap Some same

split : (n : ℕ) (fs : List (List ℕ × Value)) (name : List ℕ) → first_place fs name ≡ either n (first_place (take n fs) name) (place_named name (names_of (drop n fs)))
split zero fs name = same_place fs name ∙ none_before (place_named name (names_of fs))
split (suc n) [] name = refl
split (suc n) (f ∷ fs) name = either_step (bytes_eq f.0 name) n (first_place (take n fs) name) (place_named name (names_of (drop n fs))) (first_place fs name) (split n fs name)

-- a place among the first few is the first place
pub place_before : (n : ℕ) (fs : List (List ℕ × Value)) (name : List ℕ) (p : ℕ) → first_place (take n fs) name ≡ Some p → first_place fs name ≡ Some p
place_before n fs name p e = split n fs name ∙ ap (λ o. either n o (place_named name (names_of (drop n fs)))) e

-- else it is that of the index, so many further
pub place_after : (n : ℕ) (fs : List (List ℕ × Value)) (name : List ℕ) (ws : List (List ℕ)) (o : Option ℕ) → first_place (take n fs) name ≡ None → ws ≡ names_of (drop n fs)
    → place_named name ws ≡ o → first_place fs name ≡ option_map (λ p. n + p) o
place_after n fs name ws o e is named =
    split n fs name ∙ ap (λ o. either n o (place_named name (names_of (drop n fs)))) e ∙ ap (λ ws. option_map (λ p. n + p) (place_named name ws)) (sym is) ∙ ap (option_map (λ p. n + p)) named

-- such a place is one of the frame
within_step : (b : Bool) (o : Option ℕ) (n p : ℕ) → cond b (Some 0) (option_map suc o) ≡ Some p → ((q : ℕ) → o ≡ Some q → q < n) → p < suc n
within_step true o n p e h = let same : 0 ≡ p = cc in omega arith
within_step false None n p e h = cc
within_step false (Some q) n p e h = let same : suc q ≡ p = cc in let less = h q refl in omega arith

place_within_names : (ws : List (List ℕ)) (name : List ℕ) (p : ℕ) → place_named name ws ≡ Some p → p < length ws
place_within_names [] name p e = cc
place_within_names (w ∷ ws) name p e = within_step (bytes_eq w name) (place_named name ws) (length ws) p e (place_within_names ws name)

length_after : (n : ℕ) (fs : List (List ℕ × Value)) → length (names_of (drop n fs)) ≡ length fs - n
length_after zero [] = refl
length_after zero (f ∷ fs) = let before : length (names_of fs) ≡ length fs - 0 = length_after zero fs in omega arith
length_after (suc n) [] = let none : 0 ≡ 0 - suc n = omega arith in none
length_after (suc n) (f ∷ fs) = let before : length (names_of (drop n fs)) ≡ length fs - n = length_after n fs in omega arith

pub place_within : (n : ℕ) (fs : List (List ℕ × Value)) (ws : List (List ℕ)) (name : List ℕ) (p : ℕ) → ws ≡ names_of (drop n fs) → place_named name ws ≡ Some p → n ≤ length fs → n + p < length fs
place_within n fs ws name p is e l =
    let less : p < length ws = place_within_names ws name p e in
    let many : length ws ≡ length fs - n = ap length is ∙ length_after n fs in
    omega arith

-- one more name
after_push : (n : ℕ) (fs : List (List ℕ × Value)) (f : List ℕ × Value) → n ≤ length fs → names_of (drop n (fs ++ f ∷ [])) ≡ names_of (drop n fs) ++ f.0 ∷ []
after_push zero [] f l = refl
after_push zero (g ∷ fs) f l = ap (λ ws. g.0 ∷ ws) (after_push zero fs f (omega arith))
after_push (suc n) [] f l = absurd (omega arith)
after_push (suc n) (g ∷ fs) f l = after_push n fs f (omega arith)

none_after : (n : ℕ) (fs : List (List ℕ × Value)) → length fs ≤ n → names_of (drop n fs) ≡ []
none_after zero [] l = refl
none_after zero (f ∷ fs) l = absurd (omega arith)
none_after (suc n) [] l = refl
none_after (suc n) (f ∷ fs) l = none_after n fs (omega arith)

length_pushed : (fs : List (List ℕ × Value)) (f : List ℕ × Value) → length (fs ++ f ∷ []) ≡ suc (length fs)
length_pushed [] f = refl
length_pushed (g ∷ fs) f = ap suc (length_pushed fs f)

known : (later : Later) (fs : List (List ℕ × Value)) (f : List ℕ × Value) (b : Bool) → nat_le later.first (length fs) ≡ b → IsIndexed (Some later) fs
    → cond b (later.names ++ f.0 ∷ []) later.names ≡ names_of (drop later.first (fs ++ f ∷ []))
known later fs f true t is =
    let few : later.first ≤ length fs = grind (arith, nat_tests) in
    ap (λ ws. ws ++ f.0 ∷ []) is ∙ sym (after_push later.first fs f few)
known later fs f false t is =
    let many : length fs < later.first = grind (arith, nat_tests) in
    let long : length (fs ++ f ∷ []) ≤ later.first = let e = length_pushed fs f in omega arith in
    is ∙ none_after later.first fs (omega arith) ∙ sym (none_after later.first (fs ++ f ∷ []) long)

pub bound : (later : Option Later) (fs : List (List ℕ × Value)) (f : List ℕ × Value) → IsIndexed later fs → IsIndexed (with_name (length fs) f.0 later) (fs ++ f ∷ [])
bound None fs f is = ap (λ ws. ws ++ f.0 ∷ []) (sym (none_after (length fs) fs (omega arith))) ∙ sym (after_push (length fs) fs f (omega arith))
bound (Some later) fs f is = known later fs f (nat_le later.first (length fs)) refl is

-- the first so many names
taken : (count : ℕ) (fs : List (List ℕ × Value)) → names_of (take count fs) ≡ take count (names_of fs)
taken zero fs = refl
taken (suc count) [] = refl
taken (suc count) (f ∷ fs) = ap (λ ws. f.0 ∷ ws) (taken count fs)

none_taken : (count : ℕ) → [] ≡ take {A = List ℕ} count []
none_taken zero = refl
none_taken (suc count) = refl

taken_after : (n count : ℕ) (fs : List (List ℕ × Value)) → names_of (drop n (take count fs)) ≡ take (count - n) (names_of (drop n fs))
taken_after zero count fs = let all : count ≡ count - 0 = omega arith in taken count fs ∙ ap (λ k. take k (names_of fs)) all
taken_after (suc n) zero fs = let none : 0 ≡ 0 - suc n = omega arith in ap (λ k. take k (names_of (drop (suc n) fs))) none
taken_after (suc n) (suc count) [] = none_taken (suc count - suc n)
taken_after (suc n) (suc count) (f ∷ fs) = let same : count - n ≡ suc count - suc n = omega arith in taken_after n count fs ∙ ap (λ k. take k (names_of (drop n fs))) same

pub cut : (later : Later) (fs : List (List ℕ × Value)) (count : ℕ) → IsIndexed (Some later) fs → IsIndexed (Some (later_cut count later)) (take count fs)
cut later fs count is = ap (take (count - later.first)) is ∙ sym (taken_after later.first count fs)

-- another value for a name
same_names : (fs : List (List ℕ × Value)) (place : ℕ) (f : List ℕ × Value) (value : Value) → slice_get fs place ≡ Some f → names_of (slice_set fs place (f.0, value)) ≡ names_of fs
same_names [] place f value e = refl
same_names (g ∷ fs) zero f value e = cc
same_names (g ∷ fs) (suc place) f value e = ap (λ ws. g.0 ∷ ws) (same_names fs place f value e)

after_map : (n : ℕ) (fs : List (List ℕ × Value)) → names_of (drop n fs) ≡ drop n (names_of fs)
after_map zero fs = refl
after_map (suc n) [] = refl
after_map (suc n) (f ∷ fs) = after_map n fs

pub renamed : (later : Option Later) (fs : List (List ℕ × Value)) (place : ℕ) (f : List ℕ × Value) (value : Value) → slice_get fs place ≡ Some f → IsIndexed later fs
    → IsIndexed later (slice_set fs place (f.0, value))
renamed None fs place f value e is = tt
renamed (Some later) fs place f value e is =
    is ∙ after_map later.first fs ∙ ap (drop later.first) (sym (same_names fs place f value e)) ∙ sym (after_map later.first (slice_set fs place (f.0, value)))
