-- What a batch sees of variables from outside and of its own.
use Rattle.std.proofs.Common.{◌≡◌, ℕ, suc, zero, ◌<◌, ◌≤◌, ◌-◌, ◌+◌, List, [], ◌∷◌, ◌++◌, map, take, length, min, Option, Some, None, refl, ap, ◌∙◌, sym, subst, arith}
use Rattle.std.specs.Prelude.{slice_get}
use Rattle.std.specs.Option.{option_map, option_to_list}
use Rattle.std.proofs.lemmas.List.{length-take-le, length-map, length-append, take-map}
use Rattle.std.proofs.lemmas.Option.{slice_get-map}
use Rattle.rb_names.proofs.Guided.{viewed}
use Rattle.rb_meaning_flow.specs.declared.scopes.Role.{Role}
use Rattle.rb_meaning_flow.specs.declared.scopes.Variable.{Variable}
use Rattle.rb_meaning_flow.specs.Scopes.{Scope, variable_named, variable_with, scope_with, role_in, role_of, node_in, node_of}
use Rattle.rb_scopes.specs.Seen.{name_and_node, newest, role_and_node}
use Rattle.rb_scopes.proofs.Placed.{first_of, named_joined, take_joined, get_front, get_back, get_within}

-- the variable of a name
pub seen_first : (assigned : List (List ℕ)) (vs own : Scope) (name : List ℕ)
    → variable_named (scope_with assigned vs ++ own) name ≡ first_of (option_map (variable_with assigned) (variable_named vs name)) (variable_named own name)
seen_first assigned vs own name = named_joined (scope_with assigned vs) own name ∙ ap (λ o. first_of o (variable_named own name)) (viewed (variable_with assigned) (λ v. v.name) vs name)

-- how many there are
pub seen_count : (assigned : List (List ℕ)) (outer own : Scope) (shown : ℕ) → shown ≤ length outer → length (scope_with assigned (take shown outer) ++ own) ≡ shown + length own
seen_count assigned outer own shown l =
    length-append (scope_with assigned (take shown outer)) own ∙ ap (λ n. n + length own) (length-map (take shown outer) (variable_with assigned) ∙ length-take-le shown outer l)

-- how many are from outside
seen_outside : (assigned : List (List ℕ)) (outer : Scope) (shown : ℕ) → shown ≤ length outer → length (scope_with assigned (take shown outer)) ≡ shown
seen_outside assigned outer shown l = length-map (take shown outer) (variable_with assigned) ∙ length-take-le shown outer l

nil_take : {A : Type 0} (n : ℕ) → take {A = A} n [] ≡ []
nil_take zero = refl
nil_take (suc n) = refl

take_twice : {A : Type 0} (xs : List A) (n m : ℕ) → take n (take m xs) ≡ take (min m n) xs
take_twice [] n m = ap (take n) (nil_take m) ∙ nil_take n ∙ sym (nil_take (min m n))
take_twice (x ∷ xs) zero m = let none : 0 ≡ min m 0 = omega arith in ap (λ k. take k (x ∷ xs)) none
take_twice (x ∷ xs) (suc n) zero = let none : 0 ≡ min 0 (suc n) = omega arith in ap (λ k. take k (x ∷ xs)) none
take_twice (x ∷ xs) (suc n) (suc m) =
    let same : suc (min m n) ≡ min (suc m) (suc n) = omega arith in ap (λ zs. x ∷ zs) (take_twice xs n m) ∙ ap (λ k. take k (x ∷ xs)) same

-- the first so many of all
pub seen_cut : (assigned : List (List ℕ)) (outer own : Scope) (shown n : ℕ) → shown ≤ length outer
    → scope_with assigned (take (min shown n) outer) ++ take (n - shown) own ≡ take n (scope_with assigned (take shown outer) ++ own)
seen_cut assigned outer own shown n l =
    sym (take_joined (scope_with assigned (take shown outer)) own n ∙ ap (λ k. take n (scope_with assigned (take shown outer)) ++ take (n - k) own) (seen_outside assigned outer shown l)
    ∙ ap (λ vs. vs ++ take (n - shown) own) (take-map (variable_with assigned) n (take shown outer) ∙ ap (scope_with assigned) (take_twice outer n shown)))

same_told : (assigned : List (List ℕ)) (o : Option Variable) → option_map name_and_node (option_map (variable_with assigned) o) ≡ option_map name_and_node o
same_told assigned None = refl
same_told assigned (Some v) = refl

-- a variable from outside, and one of its own
pub seen_outer : (assigned : List (List ℕ)) (outer own : Scope) (shown place : ℕ) → shown ≤ length outer → place < shown
    → option_map name_and_node (slice_get (scope_with assigned (take shown outer) ++ own) place) ≡ option_map name_and_node (slice_get outer place)
seen_outer assigned outer own shown place l less =
    let within : place < length (scope_with assigned (take shown outer)) = subst (λ n. place < n) (sym (seen_outside assigned outer shown l)) less in
    ap (option_map name_and_node) (get_front (scope_with assigned (take shown outer)) own place within ∙ slice_get-map (variable_with assigned) (take shown outer) place)
    ∙ same_told assigned (slice_get (take shown outer) place) ∙ ap (option_map name_and_node) (get_within outer shown place less)

pub seen_own : (assigned : List (List ℕ)) (outer own : Scope) (shown place : ℕ) → shown ≤ length outer → shown ≤ place
    → slice_get (scope_with assigned (take shown outer) ++ own) place ≡ slice_get own (place - shown)
seen_own assigned outer own shown place l more =
    let past : length (scope_with assigned (take shown outer)) ≤ place = subst (λ n. n ≤ place) (sym (seen_outside assigned outer shown l)) more in
    get_back (scope_with assigned (take shown outer)) own place past ∙ ap (λ n. slice_get own (place - n)) (seen_outside assigned outer shown l)

-- no variables have no last one
pub newest_none : (vs : Scope) → length vs ≡ 0 → newest vs ≡ None
newest_none [] e = refl
newest_none (v ∷ vs) e = cc

-- the role and the node of a name, as they are found
abbrev pub role_told : Option (Role × ℕ) → Role
role_told (Some found) = found.0
role_told None = Role.Plain

abbrev pub node_told : Option (Role × ℕ) → List ℕ
node_told (Some found) = found.1 ∷ []
node_told None = []

role_known : (o : Option Variable) → role_in o ≡ role_told (option_map role_and_node o)
role_known None = refl
role_known (Some v) = refl

node_known : (o : Option Variable) → node_in o ≡ node_told (option_map role_and_node o)
node_known None = refl
node_known (Some v) = refl

pub role_found : (vs : Scope) (name : List ℕ) → role_of vs name ≡ role_told (option_map role_and_node (variable_named vs name))
role_found vs name = role_known (variable_named vs name)

pub node_found : (vs : Scope) (name : List ℕ) → node_of vs name ≡ node_told (option_map role_and_node (variable_named vs name))
node_found vs name = node_known (variable_named vs name)
