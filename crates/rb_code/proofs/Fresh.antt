-- Where names differ, each is new after those before it.
use Rattle.std.proofs.Common.{◌≡◌, ℕ, ◌+◌, ◌<◌, zero, suc, List, [], ◌∷◌, ◌++◌, map, take, length, slice_get, get_or, Bool, true, false, not, ◌||◌, cond, if◌then◌else◌, Option, None, Some, refl, sym, ap, ◌∙◌, subst}
use Rattle.std.proofs.lemmas.List.{take_more, map-append}
use Rattle.std.proofs.lemmas.Option.{slice_get-get_or}
use Rattle.std.specs.Str.{bytes_eq}
use Rattle.rb_trees.specs.Named.{first_named}
use Rattle.rb_trees.specs.declared.declarations.Class.{Class}
use Rattle.rb_trees.specs.declared.declarations.Method.{Method}
use Rattle.rb_trees.specs.mirror.Declarations.{mirror_class, mirror_method}
use Rattle.rb_code.specs.Differ.{MethodsDiffer, ClassesDiffer}
use Rattle.rb_code.specs.Places.{is_among, names_of_classes, names_of_methods}

-- no item has the name of one before it
abbrev Differ : {A : Type 0} → (A → List ℕ) → List A → Type 0
Differ name_of [] = Unit {0}
Differ name_of (x ∷ xs) = (first_named name_of xs (name_of x) ≡ None) × Differ name_of xs

-- nothing of a name is in a list where the first of the name isn't
absent_step : {A : Type 0} (b : Bool) (y : A) (o : Option A) → cond b (Some y) o ≡ None → (b ≡ false) × (o ≡ None)
absent_step true y o e = absurd (cc e)
absent_step false y o e = (refl, e)

absent_at : {A : Type 0} (name_of : A → List ℕ) (name : List ℕ) (xs : List A) (i : ℕ) (x : A) → first_named name_of xs name ≡ None → slice_get xs i ≡ Some x → bytes_eq (name_of x) name ≡ false
absent_at name_of name [] i x none at = absurd (cc at)
absent_at name_of name (y ∷ ys) zero x none at = let same : y ≡ x = cc in subst (λ z. bytes_eq (name_of z) name ≡ false) same (absent_step (bytes_eq (name_of y) name) y (first_named name_of ys name) none).0
absent_at name_of name (y ∷ ys) (suc i) x none at = absent_at name_of name ys i x (absent_step (bytes_eq (name_of y) name) y (first_named name_of ys name) none).1 at

-- so an item's name is none of those before it
new_at : {A : Type 0} (name_of : A → List ℕ) (xs : List A) (i : ℕ) (x : A) → Differ name_of xs → slice_get xs i ≡ Some x → is_among (name_of x) (map name_of (take i xs)) ≡ false
new_at name_of xs zero x d at = refl
new_at name_of [] (suc i) x d at = absurd (cc at)
new_at name_of (y ∷ ys) (suc i) x d at =
    ap (λ b. b || is_among (name_of x) (map name_of (take i ys))) (absent_at name_of (name_of y) ys i x d.0 at)
    ∙ new_at name_of ys i x d.1 at

seen : {A B : Type 0} (view : A → B) (name_of : B → List ℕ) (xs : List A) (name : List ℕ) → first_named name_of (map view xs) name ≡ None → first_named (λ x. name_of (view x)) xs name ≡ None
seen view name_of [] name e = refl
seen view name_of (x ∷ xs) name e =
    let here = absent_step (bytes_eq (name_of (view x)) name) (view x) (first_named name_of (map view xs) name) e in
    ap (λ b. cond b (Some x) (first_named (λ x. name_of (view x)) xs name)) here.0 ∙ seen view name_of xs name here.1

methods_apart : (ms : List Method) → MethodsDiffer (map mirror_method ms) → Differ (λ m. m.signature.name) ms
methods_apart [] d = tt
methods_apart (m ∷ ms) d = (seen mirror_method (λ m. m.signature.name) ms m.signature.name d.0, methods_apart ms d.1)

classes_apart : (cs : List Class) → ClassesDiffer (map mirror_class cs) → Differ (λ c. c.name) cs
classes_apart [] d = tt
classes_apart (c ∷ cs) d = (seen mirror_class (λ c. c.name) cs c.name d.0, classes_apart cs d.2)

-- a new name goes to the end of the names so far
pub grown : {A : Type 0} (name_of : A → List ℕ) (xs : List A) (i : ℕ) (x : A) (name : List ℕ) (new : Bool) (before after : List (List ℕ)) → i < length xs → x ≡ get_or xs i x
    → name ≡ name_of x → before ≡ map name_of (take i xs) → new ≡ true → after ≡ (if new then before ++ name ∷ [] else before) → after ≡ map name_of (take (i + 1) xs)
grown name_of xs i x name new before after within is named so_far is_new added =
    let more : take (i + 1) xs ≡ take i xs ++ x ∷ [] = take_more xs i x within ∙ ap (λ y. take i xs ++ y ∷ []) (sym is) in
    added ∙ ap (λ b. if b then before ++ name ∷ [] else before) is_new
    ∙ ap (λ ns. ns ++ name ∷ []) so_far ∙ ap (λ n. map name_of (take i xs) ++ n ∷ []) named
    ∙ sym (ap (map name_of) more ∙ map-append name_of (take i xs) (x ∷ []))

-- so where names differ, the name of the next item goes there
next_names : {A : Type 0} (name_of : A → List ℕ) (xs : List A) (i : ℕ) (x : A) (name : List ℕ) (new : Bool) (before after : List (List ℕ)) → Differ name_of xs
    → i < length xs → x ≡ get_or xs i x → name ≡ name_of x → before ≡ map name_of (take i xs) → new ≡ not (is_among name before)
    → after ≡ (if new then before ++ name ∷ [] else before) → after ≡ map name_of (take (i + 1) xs)
next_names name_of xs i x name new before after d within is named so_far answer added =
    let at : slice_get xs i ≡ Some x = slice_get-get_or xs i x within ∙ ap Some (sym is) in
    let fresh : is_among name before ≡ false = ap (λ n. is_among n before) named ∙ ap (is_among (name_of x)) so_far ∙ new_at name_of xs i x d at in
    grown name_of xs i x name new before after within is named so_far (answer ∙ ap not fresh) added

pub next_method : (ms : List Method) (i : ℕ) (m : Method) (name : List ℕ) (new : Bool) (before after : List (List ℕ)) → MethodsDiffer (map mirror_method ms)
    → i < length ms → m ≡ get_or ms i m → name ≡ m.signature.name → before ≡ names_of_methods (take i ms) → new ≡ not (is_among name before)
    → after ≡ (if new then before ++ name ∷ [] else before) → after ≡ names_of_methods (take (i + 1) ms)
next_method ms i m name new before after d = next_names (λ m. m.signature.name) ms i m name new before after (methods_apart ms d)

pub next_class : (cs : List Class) (i : ℕ) (c : Class) (name : List ℕ) (new : Bool) (before after : List (List ℕ)) → ClassesDiffer (map mirror_class cs)
    → i < length cs → c ≡ get_or cs i c → name ≡ c.name → before ≡ names_of_classes (take i cs) → new ≡ not (is_among name before)
    → after ≡ (if new then before ++ name ∷ [] else before) → after ≡ names_of_classes (take (i + 1) cs)
next_class cs i c name new before after d = next_names (λ c. c.name) cs i c name new before after (classes_apart cs d)

-- the methods of each class differ
methods_at : (cs : List Class) (i : ℕ) (c : Class) → ClassesDiffer (map mirror_class cs) → slice_get cs i ≡ Some c → MethodsDiffer (map mirror_method c.methods)
methods_at [] i c d at = absurd (cc at)
methods_at (k ∷ ks) zero c d at = let same : k ≡ c = cc in subst (λ k. MethodsDiffer (map mirror_method k.methods)) same d.1
methods_at (k ∷ ks) (suc i) c d at = methods_at ks i c d.2 at

pub methods_of_one : (cs : List Class) (i : ℕ) (c : Class) (methods : List Method) → ClassesDiffer (map mirror_class cs) → i < length cs → c ≡ get_or cs i c
    → methods ≡ c.methods → MethodsDiffer (map mirror_method methods)
methods_of_one cs i c methods d within is same =
    subst (λ ms. MethodsDiffer (map mirror_method ms)) (sym same) (methods_at cs i c d (slice_get-get_or cs i c within ∙ ap Some (sym is)))
