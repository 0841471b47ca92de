-- What a map with the places of texts tells.
use Rattle.std.proofs.Common.{◌≡◌, ℕ, suc, List, [], ◌∷◌, ◌++◌, length, Bool, true, false, cond, Option, Some, None, refl, sym, ap, ◌∙◌, subst}
use Rattle.std.specs.BTreeMap.{BTreeMap, UpdatesBy}
use Rattle.std.specs.Cmp.Lexicographic.{slice_cmp}
use Rattle.std.specs.Option.{option_map, is_some}
use Rattle.std.specs.Ordering.{nat_cmp}
use Rattle.std.specs.Prelude.{◌||◌}
use Rattle.std.specs.Str.{bytes_eq}
use Rattle.std.proofs.lemmas.Map.Text.{btree_map_updates_str}
use Rattle.std.proofs.lemmas.Slice.Eq.{bytes_eq-Decides}
use Rattle.rb_meaning_bytes.specs.formats.Pools.{is_among, place_in}
use Rattle.rb_wire_script.specs.Places.{place_of, Placed}
use denote.Ref.{Bor}

has_step : (b r : Bool) (o : Option ℕ) → r ≡ is_some o → (b || r) ≡ is_some (cond b (Some 0) (option_map suc o))
has_step true r o e = refl
has_step false r None e = e
has_step false r (Some p) e = e

-- a text is among others where it has a place
pub has_place : (texts : List (List ℕ)) (text : List ℕ) → is_among text texts ≡ is_some (place_of texts text)
has_place [] text = refl
has_place (t ∷ texts) text = has_step (bytes_eq t text) (is_among text texts) (place_of texts text) (has_place texts text)

-- a place, or how many there are
abbrev pub place_or : ℕ → Option ℕ → ℕ
place_or n None = n
place_or n (Some place) = place

in_step : (b : Bool) (n p : ℕ) (o : Option ℕ) → p ≡ place_or n o → cond b 0 (suc p) ≡ place_or (suc n) (cond b (Some 0) (option_map suc o))
in_step true n p o e = refl
in_step false n p None e = ap suc e
in_step false n p (Some q) e = ap suc e

pub has_place_in : (texts : List (List ℕ)) (text : List ℕ) → place_in texts text ≡ place_or (length texts) (place_of texts text)
has_place_in [] text = refl
has_place_in (t ∷ texts) text = in_step (bytes_eq t text) (length texts) (place_in texts text) (place_of texts text) (has_place_in texts text)

-- one more text
abbrev or_else : Option ℕ → Option ℕ → Option ℕ
or_else None other = other
or_else (Some p) other = Some p

push_step : (b c : Bool) (o : Option ℕ) (n : ℕ) → cond b (Some 0) (option_map suc (or_else o (cond c (Some n) None))) ≡ or_else (cond b (Some 0) (option_map suc o)) (cond c (Some (suc n)) None)
push_step true c o n = refl
push_step false c (Some p) n = refl
push_step false true None n = refl
push_step false false None n = refl

push_place : (texts : List (List ℕ)) (t text : List ℕ) → place_of (texts ++ t ∷ []) text ≡ or_else (place_of texts text) (cond (bytes_eq t text) (Some (length texts)) None)
push_place [] t text = refl
push_place (u ∷ texts) t text = ap (λ o. cond (bytes_eq u text) (Some 0) (option_map suc o)) (push_place texts t text)
    ∙ push_step (bytes_eq u text) (bytes_eq t text) (place_of texts text) (length texts)

texts_same : (xs ys : List ℕ) → bytes_eq xs ys ≡ true → xs ≡ ys
texts_same xs ys e = (bytes_eq-Decides xs ys).0 e

-- a map that was told the place of a new text
added_step : (b c : Bool) (o : Option ℕ) (n : ℕ) → b ≡ c → (b ≡ true → o ≡ None) → cond b (Some n) o ≡ or_else o (cond c (Some n) None)
added_step true true None n e h = refl
added_step true true (Some p) n e h = let wrong = h refl in absurd cc
added_step true false o n e h = absurd cc
added_step false true o n e h = absurd cc
added_step false false None n e h = refl
added_step false false (Some p) n e h = refl

no_place : (b : Bool) (o : Option ℕ) → b ≡ is_some o → b ≡ false → o ≡ None
no_place b None e h = refl
no_place b (Some p) e h = absurd cc

pub placed_more : (text : List ℕ) (texts : List (List ℕ)) (old new : BTreeMap (Bor (List ℕ)) ℕ) → is_among text texts ≡ false → Placed old texts
    → UpdatesBy (λ x y. slice_cmp nat_cmp x.now y.now) (λ k. slice_cmp nat_cmp text k.now) old new (Some (length texts)) → Placed new (texts ++ text ∷ [])
placed_more text texts old new absent placed updates other =
    let none : place_of texts text ≡ None = no_place (is_among text texts) (place_of texts text) (has_place texts text) absent in
    btree_map_updates_str text old new (Some (length texts)) updates other
    ∙ ap (λ o. cond (bytes_eq text other) (Some (length texts)) o) (placed other)
    ∙ added_step (bytes_eq text other) (bytes_eq text other) (place_of texts other) (length texts) refl (λ same. subst (λ t. place_of texts t ≡ None) (texts_same text other same) none)
    ∙ sym (push_place texts text other)
