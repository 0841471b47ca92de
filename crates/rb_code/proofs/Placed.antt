-- Places of names, and what stands at them.
use Rattle.std.proofs.Common.{◌≡◌, ℕ, ◌+◌, zero, suc, List, [], ◌∷◌, ◌++◌, map, length, slice_get, Bool, true, false, not, ◌||◌, cond, nat_lt, if◌then◌else◌, Option, None, Some, position, option_and_then, refl, sym, ap, ◌∙◌, arith}
use Rattle.std.specs.List.{list_any, position_or_len}
use Rattle.std.specs.Option.{option_map}
use Rattle.std.specs.Str.{bytes_eq}
use Rattle.std.specs.Cmp.Lexicographic.{nat_list_eq_equiv}
use Rattle.std.proofs.lemmas.Bool.Decides.{nat_tests}
use Rattle.rb_trees.specs.Named.{first_named}
use Rattle.rb_trees.specs.declared.declarations.Class.{Class}
use Rattle.rb_trees.specs.declared.declarations.Method.{Method}
use Rattle.rb_trees.specs.mirror.Declarations.{mirror_class, mirror_method, Method as Tree}
use Rattle.rb_trees.specs.Classes.{class_named, method_named}
use Rattle.rb_code.specs.Places.{place_of, names_of_classes, names_of_methods, methods_of_each, method_at_place}

-- the first place by the first item
later : (n len : ℕ) → (b : Bool) → nat_lt n len ≡ b → cond (nat_lt (1 + n) (suc len)) (Some (1 + n)) None ≡ option_map suc (cond b (Some n) None)
later n len true e = let more : nat_lt (1 + n) (suc len) ≡ true = grind (arith, nat_tests) in let same : 1 + n ≡ suc n = omega arith in ap (λ c. cond c (Some (1 + n)) None) more ∙ ap Some same
later n len false e = let more : nat_lt (1 + n) (suc len) ≡ false = grind (arith, nat_tests) in ap (λ c. cond c (Some (1 + n)) None) more

place_step : (b : Bool) (n len : ℕ) → cond (nat_lt (cond (not b) (1 + n) 0) (suc len)) (Some (cond (not b) (1 + n) 0)) None ≡ cond b (Some 0) (option_map suc (cond (nat_lt n len) (Some n) None))
place_step true n len = let more : nat_lt 0 (suc len) ≡ true = grind (arith, nat_tests) in ap (λ c. cond c (Some 0) None) more
place_step false n len = later n len (nat_lt n len) refl

place_next : {A : Type 0} (test : A → Bool) (x : A) (xs : List A) → position test (x ∷ xs) ≡ cond (test x) (Some 0) (option_map suc (position test xs))
place_next test x xs = place_step (test x) (position_or_len test xs) (length xs)

-- a test of views has the first place, and the answer, of the test of what is viewed
pub place_viewed : {A B : Type 0} (view : A → B) (test : B → Bool) (xs : List A) → position test (map view xs) ≡ position (λ x. test (view x)) xs
place_viewed view test [] = refl
place_viewed view test (x ∷ xs) =
    place_next test (view x) (map view xs)
    ∙ ap (λ o. cond (test (view x)) (Some 0) (option_map suc o)) (place_viewed view test xs)
    ∙ sym (place_next (λ y. test (view y)) x xs)

pub among_viewed : {A B : Type 0} (view : A → B) (test : B → Bool) (xs : List A) → list_any test (map view xs) ≡ list_any (λ x. test (view x)) xs
among_viewed view test [] = refl
among_viewed view test (x ∷ xs) = ap (λ b. test (view x) || b) (among_viewed view test xs)

-- the view of a list with an item at the end, or of the list as it was
viewed_push : {A B : Type 0} (view : A → B) (xs : List A) (x : A) → map view (xs ++ x ∷ []) ≡ map view xs ++ view x ∷ []
viewed_push view [] x = refl
viewed_push view (y ∷ ys) x = ap (λ zs. view y ∷ zs) (viewed_push view ys x)

pub added_viewed : {A B : Type 0} (view : A → B) (b : Bool) (xs : List A) (x : A) → map view (if b then xs else xs ++ x ∷ []) ≡ (if not b then map view xs ++ view x ∷ [] else map view xs)
added_viewed view true xs x = refl
added_viewed view false xs x = viewed_push view xs x

-- the item at a place, if there is one
abbrev pub item_at : {A : Type 0} → List A → Option ℕ → Option A
item_at xs None = None
item_at xs (Some place) = slice_get xs place

item_step : {A : Type 0} (b : Bool) (o : Option ℕ) (x : A) (xs : List A) (r : Option A) → r ≡ item_at xs o → cond b (Some x) r ≡ item_at (x ∷ xs) (cond b (Some 0) (option_map suc o))
item_step true o x xs r e = refl
item_step false None x xs r e = e
item_step false (Some p) x xs r e = e

-- the first item of a name stands at the name's first place
item_named : {A : Type 0} (name_of : A → List ℕ) (xs : List A) (name : List ℕ) → first_named name_of xs name ≡ item_at xs (place_of name (map name_of xs))
item_named name_of [] name = refl
item_named name_of (x ∷ xs) name =
    ap (λ b. cond b (Some x) (first_named name_of xs name)) (nat_list_eq_equiv.symm (name_of x) name)
    ∙ item_step (bytes_eq name (name_of x)) (place_of name (map name_of xs)) x xs (first_named name_of xs name) (item_named name_of xs name)
    ∙ ap (item_at (x ∷ xs)) (sym (place_next (bytes_eq name) (name_of x) (map name_of xs)))

-- the views of a list have their items at the same places
pub slice_viewed : {A B : Type 0} (view : A → B) (xs : List A) (i : ℕ) → slice_get (map view xs) i ≡ option_map view (slice_get xs i)
slice_viewed view [] i = refl
slice_viewed view (x ∷ xs) zero = refl
slice_viewed view (x ∷ xs) (suc i) = slice_viewed view xs i

-- the first of a name among views is the view of the first
view_step : {A B : Type 0} (b : Bool) (view : A → B) (x : A) (r : Option A) (s : Option B) → s ≡ option_map view r → cond b (Some (view x)) s ≡ option_map view (cond b (Some x) r)
view_step true view x r s e = refl
view_step false view x r s e = e

viewed : {A B : Type 0} (view : A → B) (name_of : B → List ℕ) (xs : List A) (name : List ℕ) → first_named name_of (map view xs) name ≡ option_map view (first_named (λ x. name_of (view x)) xs name)
viewed view name_of [] name = refl
viewed view name_of (x ∷ xs) name = view_step (bytes_eq (name_of (view x)) name) view x (first_named (λ x. name_of (view x)) xs name) (first_named name_of (map view xs) name) (viewed view name_of xs name)

pub class_placed : (cs : List Class) (name : List ℕ) → class_named (map mirror_class cs) name ≡ option_map mirror_class (item_at cs (place_of name (names_of_classes cs)))
class_placed cs name = viewed mirror_class (λ c. c.name) cs name ∙ ap (option_map mirror_class) (item_named (λ c. c.name) cs name)

pub method_placed : (ms : List Method) (name : List ℕ) → method_named (map mirror_method ms) name ≡ option_map mirror_method (item_at ms (place_of name (names_of_methods ms)))
method_placed ms name = viewed mirror_method (λ m. m.signature.name) ms name ∙ ap (option_map mirror_method) (item_named (λ m. m.signature.name) ms name)

-- what a look-up of a class gives
pub class_found : (cs : List Class) (name : List ℕ) (place : ℕ) → place_of name (names_of_classes cs) ≡ Some place → class_named (map mirror_class cs) name ≡ slice_get (map mirror_class cs) place
class_found cs name place e = class_placed cs name ∙ ap (λ o. option_map mirror_class (item_at cs o)) e ∙ sym (slice_viewed mirror_class cs place)

pub class_missing : (cs : List Class) (name : List ℕ) → place_of name (names_of_classes cs) ≡ None → class_named (map mirror_class cs) name ≡ None
class_missing cs name e = class_placed cs name ∙ ap (λ o. option_map mirror_class (item_at cs o)) e

-- and of a method
pub method_found : (ms : List Method) (name : List ℕ) (place : ℕ) → place_of name (names_of_methods ms) ≡ Some place → method_named (map mirror_method ms) name ≡ option_map mirror_method (slice_get ms place)
method_found ms name place e = method_placed ms name ∙ ap (λ o. option_map mirror_method (item_at ms o)) e

pub method_missing : (ms : List Method) (name : List ℕ) → place_of name (names_of_methods ms) ≡ None → method_named (map mirror_method ms) name ≡ None
method_missing ms name e = method_placed ms name ∙ ap (λ o. option_map mirror_method (item_at ms o)) e

-- the names of the methods of the class at a place
pub methods_at : (cs : List Class) (each : List (List (List ℕ))) (place : ℕ) (c : Class) (names : List (List ℕ)) → each ≡ methods_of_each cs
    → Some c ≡ slice_get cs place → Some names ≡ slice_get each place → names ≡ names_of_methods c.methods
methods_at cs each place c names indexed at named =
    let both : Some names ≡ Some (names_of_methods c.methods) = named ∙ ap (λ ns. slice_get ns place) indexed ∙ slice_viewed (λ k. names_of_methods k.methods) cs place
    ∙ ap (option_map (λ k. names_of_methods k.methods)) (sym at) in
    cc

-- what is found in the class at a place
pub found_at : (cs : List Class) (place : ℕ) (c : Class) (name : List ℕ) (found : Option Tree) → Some c ≡ slice_get cs place
    → found ≡ method_named (map mirror_method c.methods) name → found ≡ method_at_place (map mirror_class cs) place name
found_at cs place c name found at is =
    is ∙ ap (option_and_then (λ k. method_named k.methods name)) (ap (option_map mirror_class) at ∙ sym (slice_viewed mirror_class cs place))
