-- Where a name stands among variables.
use Rattle.std.proofs.Common.{◌≡◌, ℕ, suc, zero, ◌<◌, ◌≤◌, ◌-◌, List, [], ◌∷◌, ◌++◌, map, take, length, Bool, true, false, cond, Option, Some, None, refl, ap, ◌∙◌, sym, subst, arith}
use Rattle.std.specs.Prelude.{slice_get}
use Rattle.std.specs.Option.{option_map}
use Rattle.std.specs.Str.{bytes_eq}
use Rattle.rb_names.specs.Guesses.{first_place}
use Rattle.rb_names.proofs.Guided.{item_at, item_named}
use Rattle.rb_meaning_flow.specs.declared.scopes.Variable.{Variable}
use Rattle.rb_meaning_flow.specs.Scopes.{Scope, variable_named}

abbrev pub names_of : Scope → List (List ℕ)
names_of vs = map (λ v. v.name) vs

pub variable_placed : (vs : Scope) (name : List ℕ) → variable_named vs name ≡ item_at vs (first_place name (names_of vs))
variable_placed vs name = item_named (λ v. v.name) vs name

-- a name whose first place is among the first so many variables
inside_step : (b : Bool) (o : Option ℕ) (v : Variable) (vs : Scope) (name : List ℕ) (p c : ℕ) → ((q : ℕ) → o ≡ Some q → q < c → variable_named (take c vs) name ≡ slice_get vs q)
    → cond b (Some 0) (option_map suc o) ≡ Some p → p < suc c → cond b (Some v) (variable_named (take c vs) name) ≡ slice_get (v ∷ vs) p
inside_step true o v vs name p c h e l = let at : 0 ≡ p = cc in subst (λ q. Some v ≡ slice_get (v ∷ vs) q) at refl
inside_step false None v vs name p c h e l = cc
inside_step false (Some q) v vs name p c h e l =
    let at : suc q ≡ p = cc in
    let less : q < c = omega arith in
    subst (λ r. variable_named (take c vs) name ≡ slice_get (v ∷ vs) r) at (h q refl less)

pub inside : (vs : Scope) (name : List ℕ) (p c : ℕ) → first_place name (names_of vs) ≡ Some p → p < c → variable_named (take c vs) name ≡ slice_get vs p
inside [] name p c e l = cc
inside (v ∷ vs) name p zero e l = absurd (omega arith)
inside (v ∷ vs) name p (suc c) e l =
    inside_step (bytes_eq v.name name) (first_place name (names_of vs)) v vs name p c (λ q f m. inside vs name q c f m) e l

-- one whose first place is behind them
outside_step : (b : Bool) (o : Option ℕ) (v : Variable) (vs : Scope) (name : List ℕ) (p c : ℕ) → ((q : ℕ) → o ≡ Some q → c ≤ q → variable_named (take c vs) name ≡ None)
    → cond b (Some 0) (option_map suc o) ≡ Some p → suc c ≤ p → cond b (Some v) (variable_named (take c vs) name) ≡ None
outside_step true o v vs name p c h e l = let at : 0 ≡ p = cc in absurd (omega arith)
outside_step false None v vs name p c h e l = cc
outside_step false (Some q) v vs name p c h e l =
    let at : suc q ≡ p = cc in
    let more : c ≤ q = omega arith in
    h q refl more

pub outside : (vs : Scope) (name : List ℕ) (p c : ℕ) → first_place name (names_of vs) ≡ Some p → c ≤ p → variable_named (take c vs) name ≡ None
outside [] name p c e l = cc
outside (v ∷ vs) name p zero e l = refl
outside (v ∷ vs) name p (suc c) e l =
    outside_step (bytes_eq v.name name) (first_place name (names_of vs)) v vs name p c (λ q f m. outside vs name q c f m) e l

-- one that stands nowhere
nowhere_step : (b : Bool) (o : Option ℕ) (v : Variable) (r : Option Variable) → (o ≡ None → r ≡ None) → cond b (Some 0) (option_map suc o) ≡ None → cond b (Some v) r ≡ None
nowhere_step true o v r h e = cc
nowhere_step false None v r h e = h refl
nowhere_step false (Some q) v r h e = cc

pub nowhere : (vs : Scope) (name : List ℕ) (c : ℕ) → first_place name (names_of vs) ≡ None → variable_named (take c vs) name ≡ None
nowhere [] name zero e = refl
nowhere [] name (suc c) e = refl
nowhere (v ∷ vs) name zero e = refl
nowhere (v ∷ vs) name (suc c) e = nowhere_step (bytes_eq v.name name) (first_place name (names_of vs)) v (variable_named (take c vs) name) (nowhere vs name c) e

-- the first of two answers
abbrev pub first_of : Option Variable → Option Variable → Option Variable
first_of (Some v) o = Some v
first_of None o = o

named_step : (b : Bool) (v : Variable) (o p r : Option Variable) → r ≡ first_of o p → cond b (Some v) r ≡ first_of (cond b (Some v) o) p
named_step true v o p r e = refl
named_step false v o p r e = e

pub named_joined : (vs ws : Scope) (name : List ℕ) → variable_named (vs ++ ws) name ≡ first_of (variable_named vs name) (variable_named ws name)
named_joined [] ws name = refl
named_joined (v ∷ vs) ws name = named_step (bytes_eq v.name name) v (variable_named vs name) (variable_named ws name) (variable_named (vs ++ ws) name) (named_joined vs ws name)

pub take_joined : {A : Type 0} (xs ys : List A) (n : ℕ) → take n (xs ++ ys) ≡ take n xs ++ take (n - length xs) ys
take_joined [] ys zero = refl
take_joined [] ys (suc n) = let same : suc n ≡ suc n - 0 = omega arith in ap (λ m. take m ys) same
take_joined (x ∷ xs) ys zero = let none : 0 ≡ 0 - suc (length xs) = omega arith in ap (λ m. take m ys) none
take_joined (x ∷ xs) ys (suc n) = let less : n - length xs ≡ suc n - suc (length xs) = omega arith in ap (λ zs. x ∷ zs) (take_joined xs ys n) ∙ ap (λ m. x ∷ take n xs ++ take m ys) less

-- what is found among the first variables of a list and of those after it
pub take_named : (vs ws : Scope) (n : ℕ) (name : List ℕ) → variable_named (take n (vs ++ ws)) name ≡ first_of (variable_named (take n vs) name) (variable_named (take (n - length vs) ws) name)
take_named vs ws n name = ap (λ us. variable_named us name) (take_joined vs ws n) ∙ named_joined (take n vs) (take (n - length vs) ws) name

pub get_front : {A : Type 0} (xs ys : List A) (i : ℕ) → i < length xs → slice_get (xs ++ ys) i ≡ slice_get xs i
get_front [] ys i l = absurd (omega arith)
get_front (x ∷ xs) ys zero l = refl
get_front (x ∷ xs) ys (suc i) l = let less : i < length xs = omega arith in get_front xs ys i less

pub get_back : {A : Type 0} (xs ys : List A) (i : ℕ) → length xs ≤ i → slice_get (xs ++ ys) i ≡ slice_get ys (i - length xs)
get_back [] ys i l = let same : i ≡ i - 0 = omega arith in ap (λ j. slice_get ys j) same
get_back (x ∷ xs) ys zero l = absurd (omega arith)
get_back (x ∷ xs) ys (suc i) l =
    let more : length xs ≤ i = omega arith in
    let same : i - length xs ≡ suc i - suc (length xs) = omega arith in
    get_back xs ys i more ∙ ap (λ j. slice_get ys j) same

pub get_within : {A : Type 0} (xs : List A) (n i : ℕ) → i < n → slice_get (take n xs) i ≡ slice_get xs i
get_within [] zero i l = refl
get_within [] (suc n) i l = refl
get_within (x ∷ xs) zero i l = absurd (omega arith)
get_within (x ∷ xs) (suc n) zero l = refl
get_within (x ∷ xs) (suc n) (suc i) l = let less : i < n = omega arith in get_within xs n i less
