-- What guesses at the places of names tell.
use Rattle.std.proofs.Common.{◌≡◌, ℕ, suc, zero, List, [], ◌∷◌, ◌++◌, map, take, length, Bool, true, false, cond, nat_eq, Option, Some, None, slice_get, IsTrue, refl, sym, ap, ◌∙◌, subst, arith}
use Rattle.std.specs.Option.{option_map, is_none}
use Rattle.std.specs.Str.{bytes_eq}
use Rattle.std.proofs.lemmas.Slice.Eq.{bytes_eq-Decides}
use Rattle.std.proofs.lemmas.Bool.Decides.{nat_tests}
use Rattle.rb_trees.specs.Named.{first_named}
use Rattle.rb_meaning_types.specs.Names.{is_new}
use Rattle.rb_names.specs.Guesses.{first_place, is_at, Guides}

-- whether a name stands at a place
abbrev pub named_so : List ℕ → Option (List ℕ) → Bool
named_so name None = false
named_so name (Some word) = bytes_eq word name

-- the place, if the name stands there
abbrev pub confirmed : List ℕ → ℕ → Option (List ℕ) → Option ℕ
confirmed name place None = None
confirmed name place (Some word) = cond (bytes_eq word name) (Some place) None

abbrev pub tried : List (List ℕ) → List ℕ → Option ℕ → Option ℕ
tried words name None = None
tried words name (Some place) = confirmed name place (slice_get words place)

-- at its first place the name stands
stands_step : (b : Bool) (o : Option ℕ) (w : List ℕ) (ws : List (List ℕ)) (name : List ℕ) (place : ℕ) → bytes_eq w name ≡ b
    → ((p : ℕ) → o ≡ Some p → named_so name (slice_get ws p) ≡ true) → cond b (Some 0) (option_map suc o) ≡ Some place → named_so name (slice_get (w ∷ ws) place) ≡ true
stands_step true o w ws name place is before e = let at : 0 ≡ place = cc in subst (λ p. named_so name (slice_get (w ∷ ws) p) ≡ true) at is
stands_step false None w ws name place is before e = cc
stands_step false (Some p) w ws name place is before e = let at : suc p ≡ place = cc in subst (λ p. named_so name (slice_get (w ∷ ws) p) ≡ true) at (before p refl)

stands : (ws : List (List ℕ)) (name : List ℕ) (place : ℕ) → first_place name ws ≡ Some place → named_so name (slice_get ws place) ≡ true
stands [] name place e = cc
stands (w ∷ ws) name place e = stands_step (bytes_eq w name) (first_place name ws) w ws name place refl (stands ws name) e

-- without a first place the name stands nowhere
nowhere_step : (b : Bool) (o : Option ℕ) → cond b (Some 0) (option_map suc o) ≡ None → (b ≡ false) × (o ≡ None)
nowhere_step true o e = cc
nowhere_step false None e = (refl, refl)
nowhere_step false (Some p) e = cc

nowhere : (ws : List (List ℕ)) (name : List ℕ) → first_place name ws ≡ None → (place : ℕ) → named_so name (slice_get ws place) ≡ false
nowhere [] name e place = refl
nowhere (w ∷ ws) name e zero = (nowhere_step (bytes_eq w name) (first_place name ws) e).0
nowhere (w ∷ ws) name e (suc place) = nowhere ws name (nowhere_step (bytes_eq w name) (first_place name ws) e).1 place

confirmed_so : (o : Option (List ℕ)) (name : List ℕ) (place : ℕ) → named_so name o ≡ true → confirmed name place o ≡ Some place
confirmed_so None name place e = cc
confirmed_so (Some w) name place e = ap (λ b. cond b (Some place) None) e

denied_so : (o : Option (List ℕ)) (name : List ℕ) (place : ℕ) → named_so name o ≡ false → confirmed name place o ≡ None
denied_so None name place e = refl
denied_so (Some w) name place e = ap (λ b. cond b (Some place) None) e

right_step : (o g : Option ℕ) (ws : List (List ℕ)) (name : List ℕ) → first_place name ws ≡ o → ((place : ℕ) → o ≡ Some place → IsTrue (is_at g place)) → tried ws name g ≡ o
right_step None None ws name is h = refl
right_step None (Some q) ws name is h = denied_so (slice_get ws q) name q (nowhere ws name is q)
right_step (Some p) None ws name is h = let wrong = h p refl in cc
right_step (Some p) (Some q) ws name is h =
    let said : IsTrue (nat_eq q p) = h p refl in
    let same : q ≡ p = grind (arith, nat_tests) in
    confirmed_so (slice_get ws q) name q (stands ws name q (is ∙ ap Some (sym same))) ∙ ap Some same

-- a guess that is tried is the first place
pub tried_right : (ws : List (List ℕ)) (name : List ℕ) (guess : List ℕ → Option ℕ) → Guides guess ws → tried ws name (guess name) ≡ first_place name ws
tried_right ws name guess h = right_step (first_place name ws) (guess name) ws name refl (h name)

-- what each outcome of a try tells
pub tried_yes : (ws : List (List ℕ)) (name : List ℕ) (guess : List ℕ → Option ℕ) → Guides guess ws → (place : ℕ) (word : List ℕ)
    → guess name ≡ Some place → slice_get ws place ≡ Some word → bytes_eq word name ≡ true → first_place name ws ≡ Some place
tried_yes ws name guess h place word told there so = sym (tried_right ws name guess h) ∙ ap (tried ws name) told ∙ ap (confirmed name place) there ∙ ap (λ b. cond b (Some place) None) so

pub tried_no : (ws : List (List ℕ)) (name : List ℕ) (guess : List ℕ → Option ℕ) → Guides guess ws → (place : ℕ) (word : List ℕ)
    → guess name ≡ Some place → slice_get ws place ≡ Some word → bytes_eq word name ≡ false → first_place name ws ≡ None
tried_no ws name guess h place word told there so = sym (tried_right ws name guess h) ∙ ap (tried ws name) told ∙ ap (confirmed name place) there ∙ ap (λ b. cond b (Some place) None) so

pub tried_past : (ws : List (List ℕ)) (name : List ℕ) (guess : List ℕ → Option ℕ) → Guides guess ws → (place : ℕ)
    → guess name ≡ Some place → slice_get ws place ≡ None → first_place name ws ≡ None
tried_past ws name guess h place told there = sym (tried_right ws name guess h) ∙ ap (tried ws name) told ∙ ap (confirmed name place) there

abbrev pub or_else : Option ℕ → Option ℕ → Option ℕ
or_else None other = other
or_else (Some p) other = Some p

push_step : (b c : Bool) (o : Option ℕ) (n : ℕ) → cond b (Some 0) (option_map suc (or_else o (cond c (Some n) None))) ≡ or_else (cond b (Some 0) (option_map suc o)) (cond c (Some (suc n)) None)
push_step true c o n = refl
push_step false c (Some p) n = refl
push_step false true None n = refl
push_step false false None n = refl

first_place_push : (ws : List (List ℕ)) (w name : List ℕ) → first_place name (ws ++ w ∷ []) ≡ or_else (first_place name ws) (cond (bytes_eq w name) (Some (length ws)) None)
first_place_push [] w name = refl
first_place_push (v ∷ ws) w name = ap (λ o. cond (bytes_eq v name) (Some 0) (option_map suc o)) (first_place_push ws w name)
    ∙ push_step (bytes_eq v name) (bytes_eq w name) (first_place name ws) (length ws)

-- a name that stands already is added
known_step : (b : Bool) (o p : Option ℕ) (n place : ℕ) → (b ≡ true → o ≡ Some n) → or_else o (cond b p None) ≡ Some place → o ≡ Some place
known_step b (Some q) p n place h e = e
known_step true None p n place h e = let wrong = h refl in cc
known_step false None p n place h e = cc

pub guides_known : (ws : List (List ℕ)) (w : List ℕ) (n : ℕ) (guess : List ℕ → Option ℕ) → first_place w ws ≡ Some n → Guides guess ws → Guides guess (ws ++ w ∷ [])
guides_known ws w n guess here h name place e =
    let same : bytes_eq w name ≡ true → first_place name ws ≡ Some n = λ b. subst (λ v. first_place v ws ≡ Some n) ((bytes_eq-Decides w name).0 b) here in
    h name place (known_step (bytes_eq w name) (first_place name ws) (Some (length ws)) n place same (sym (first_place_push ws w name) ∙ e))

-- a new name is noted
noted_step : (b : Bool) (g : Option ℕ) (n place : ℕ) → (b ≡ true → ⊥) → IsTrue (is_at g place) → IsTrue (is_at (cond b (Some n) g) place)
noted_step true g n place h said = absurd (h refl)
noted_step false g n place h said = said

pub guides_noted : (ws : List (List ℕ)) (w : List ℕ) (n : ℕ) (guess after : List ℕ → Option ℕ) → first_place w ws ≡ None → Guides guess ws
    → ((name : List ℕ) → after name ≡ cond (bytes_eq w name) (Some n) (guess name)) → Guides after ws
guides_noted ws w n guess after absent h is name place e =
    let other : bytes_eq w name ≡ true → ⊥ = λ b. (let there = subst (λ v. first_place v ws ≡ None) ((bytes_eq-Decides w name).0 b) absent in cc) in
    subst (λ g. IsTrue (is_at g place)) (sym (is name)) (noted_step (bytes_eq w name) (guess name) n place other (h name place e))

-- and then added
added_step : (b : Bool) (o g : Option ℕ) (n place : ℕ) → ((p : ℕ) → o ≡ Some p → IsTrue (is_at (cond b (Some n) g) p)) → or_else o (cond b (Some n) None) ≡ Some place → IsTrue (is_at (cond b (Some n) g) place)
added_step b (Some q) g n place h e = h place e
added_step true None g n place h e = let same : n ≡ place = cc in grind (arith, nat_tests)
added_step false None g n place h e = cc

pub guides_added : (ws : List (List ℕ)) (w : List ℕ) (guess after : List ℕ → Option ℕ) → Guides after ws
    → ((name : List ℕ) → after name ≡ cond (bytes_eq w name) (Some (length ws)) (guess name)) → Guides after (ws ++ w ∷ [])
guides_added ws w guess after h is name place e =
    subst (λ g. IsTrue (is_at g place)) (sym (is name))
    (added_step (bytes_eq w name) (first_place name ws) (guess name) (length ws) place
    (λ p at. subst (λ g. IsTrue (is_at g p)) (is name) (h name p at)) (sym (first_place_push ws w name) ∙ e))

-- the front of the list keeps its places
front_step : (b : Bool) (o all : Option ℕ) (place : ℕ) → ((p : ℕ) → o ≡ Some p → all ≡ Some p) → cond b (Some 0) (option_map suc o) ≡ Some place → cond b (Some 0) (option_map suc all) ≡ Some place
front_step true o all place h e = e
front_step false None all place h e = cc
front_step false (Some p) all place h e = ap (option_map suc) (h p refl) ∙ e

front_place : (n : ℕ) (ws : List (List ℕ)) (name : List ℕ) (place : ℕ) → first_place name (take n ws) ≡ Some place → first_place name ws ≡ Some place
front_place zero ws name place e = cc
front_place (suc n) [] name place e = e
front_place (suc n) (w ∷ ws) name place e = front_step (bytes_eq w name) (first_place name (take n ws)) (first_place name ws) place (front_place n ws name) e

pub guides_front : (n : ℕ) (ws : List (List ℕ)) (guess : List ℕ → Option ℕ) → Guides guess ws → Guides guess (take n ws)
guides_front n ws guess h name place e = h name place (front_place n ws name place e)

-- a name without a place is new
new_step : (b r : Bool) (o : Option ℕ) → r ≡ is_none o → cond b false r ≡ is_none (cond b (Some 0) (option_map suc o))
new_step true r o e = refl
new_step false r None e = e
new_step false r (Some p) e = e

pub new_place : (ws : List (List ℕ)) (name : List ℕ) → is_new name ws ≡ is_none (first_place name ws)
new_place [] name = refl
new_place (w ∷ ws) name = new_step (bytes_eq w name) (is_new name ws) (first_place name ws) (new_place ws name)

-- the first item of a name stands at the name's first place
abbrev pub item_at : {A : Type 0} → List A → Option ℕ → Option A
item_at xs None = None
item_at xs (Some place) = slice_get xs place

item_step : {A : Type 0} (b : Bool) (o : Option ℕ) (x : A) (xs : List A) (r : Option A) → r ≡ item_at xs o → cond b (Some x) r ≡ item_at (x ∷ xs) (cond b (Some 0) (option_map suc o))
item_step true o x xs r e = refl
item_step false None x xs r e = e
item_step false (Some p) x xs r e = e

pub item_named : {A : Type 0} (name_of : A → List ℕ) (xs : List A) (name : List ℕ) → first_named name_of xs name ≡ item_at xs (first_place name (map name_of xs))
item_named name_of [] name = refl
item_named name_of (x ∷ xs) name = item_step (bytes_eq (name_of x) name) (first_place name (map name_of xs)) x xs (first_named name_of xs name) (item_named name_of xs name)

-- the first of a name among views of items is the view of the first
view_step : {A B : Type 0} (b : Bool) (view : A → B) (x : A) (r : Option A) (s : Option B) → s ≡ option_map view r → cond b (Some (view x)) s ≡ option_map view (cond b (Some x) r)
view_step true view x r s e = refl
view_step false view x r s e = e

pub viewed : {A B : Type 0} (view : A → B) (name_of : B → List ℕ) (xs : List A) (name : List ℕ) → first_named name_of (map view xs) name ≡ option_map view (first_named (λ x. name_of (view x)) xs name)
viewed view name_of [] name = refl
viewed view name_of (x ∷ xs) name = view_step (bytes_eq (name_of (view x)) name) view x (first_named (λ x. name_of (view x)) xs name) (first_named name_of (map view xs) name) (viewed view name_of xs name)

-- it stands at the name's first place
pub place_viewed : {A B : Type 0} (view : A → B) (name_of : B → List ℕ) (xs : List A) (name : List ℕ)
    → first_named name_of (map view xs) name ≡ option_map view (item_at xs (first_place name (map (λ x. name_of (view x)) xs)))
place_viewed view name_of xs name = viewed view name_of xs name ∙ ap (option_map view) (item_named (λ x. name_of (view x)) xs name)
