-- Names that differ still do after a new one at the end.
use Rattle.std.proofs.Common.{◌≡◌, ℕ, ◌+◌, ◌<◌, List, [], ◌∷◌, ◌++◌, map, take, length, get_or, Bool, true, false, not, ◌||◌, cond, if◌then◌else◌, Option, None, Some, refl, sym, ap, ◌∙◌, subst}
use Rattle.std.specs.Str.{bytes_eq}
use Rattle.std.proofs.lemmas.List.{take_more, map-append}
use Rattle.rb_trees.specs.Named.{first_named}
use Rattle.rb_trees.specs.declared.declarations.Class.{Class}
use Rattle.rb_trees.specs.declared.declarations.Method.{Method}
use Rattle.rb_trees.specs.mirror.Declarations.{mirror_class, mirror_method}
use Rattle.rb_code.specs.Differ.{MethodsDiffer, ClassesDiffer}
use Rattle.rb_code.proofs.Fresh.{grown}
use Rattle.rb_code.specs.Places.{is_among, names_of_classes, names_of_methods}

-- what is not in a list is neither its first item nor behind it
new_or : (b r : Bool) → (b || r) ≡ false → (b ≡ false) × (r ≡ false)
new_or true r e = absurd (cc e)
new_or false r e = (refl, e)

-- nothing of a name is found in a list with another name at the end
none_step : {A : Type 0} (b : Bool) (y : A) (o p : Option A) → cond b (Some y) o ≡ None → (o ≡ None → p ≡ None) → cond b (Some y) p ≡ None
none_step true y o p e rest = absurd (cc e)
none_step false y o p e rest = rest e

none_pushed : {A : Type 0} (name_of : A → List ℕ) (xs : List A) (x : A) (name : List ℕ) → first_named name_of xs name ≡ None → bytes_eq (name_of x) name ≡ false
    → first_named name_of (xs ++ x ∷ []) name ≡ None
none_pushed name_of [] x name e other = ap (λ b. cond b (Some x) None) other
none_pushed name_of (y ∷ ys) x name e other =
    none_step (bytes_eq (name_of y) name) y (first_named name_of ys name) (first_named name_of (ys ++ x ∷ []) name) e (λ rest. none_pushed name_of ys x name rest other)

methods_pushed : (ms : List Method) (m : Method) → MethodsDiffer (map mirror_method ms) → is_among m.signature.name (names_of_methods ms) ≡ false → MethodsDiffer (map mirror_method (ms ++ m ∷ []))
methods_pushed [] m d new = (refl, tt)
methods_pushed (k ∷ ks) m d new =
    let apart = new_or (bytes_eq m.signature.name k.signature.name) (is_among m.signature.name (names_of_methods ks)) new in
    let none = none_pushed (λ x. x.signature.name) (map mirror_method ks) (mirror_method m) k.signature.name d.0 apart.0 in
    (ap (λ ms. first_named (λ x. x.signature.name) ms k.signature.name) (map-append mirror_method ks (m ∷ [])) ∙ none, methods_pushed ks m d.1 apart.1)

classes_pushed : (cs : List Class) (c : Class) → ClassesDiffer (map mirror_class cs) → MethodsDiffer (map mirror_method c.methods) → is_among c.name (names_of_classes cs) ≡ false
    → ClassesDiffer (map mirror_class (cs ++ c ∷ []))
classes_pushed [] c d own new = (refl, own, tt)
classes_pushed (k ∷ ks) c d own new =
    let apart = new_or (bytes_eq c.name k.name) (is_among c.name (names_of_classes ks)) new in
    let none = none_pushed (λ x. x.name) (map mirror_class ks) (mirror_class c) k.name d.0 apart.0 in
    (ap (λ cs. first_named (λ x. x.name) cs k.name) (map-append mirror_class ks (c ∷ [])) ∙ none, d.1, classes_pushed ks c d.2 own apart.1)

-- what the answer that a name is new tells
was_new : (new : Bool) (name : List ℕ) (before : List (List ℕ)) → new ≡ true → new ≡ not (is_among name before) → is_among name before ≡ false
was_new new name before is_new answer = denied (is_among name before) (sym answer ∙ is_new)
  where
    denied : (b : Bool) → not b ≡ true → b ≡ false
    denied true e = absurd (cc e)
    denied false e = refl

pub methods_grown : (ms : List Method) (i : ℕ) (m : Method) (name : List ℕ) (new : Bool) (before after : List (List ℕ)) → i < length ms → m ≡ get_or ms i m
    → name ≡ m.signature.name → (before ≡ names_of_methods (take i ms)) × MethodsDiffer (map mirror_method (take i ms)) → new ≡ true → new ≡ not (is_among name before)
    → after ≡ (if new then before ++ name ∷ [] else before) → (after ≡ names_of_methods (take (i + 1) ms)) × MethodsDiffer (map mirror_method (take (i + 1) ms))
methods_grown ms i m name new before after within is named so_far is_new answer added =
    let more : take (i + 1) ms ≡ take i ms ++ m ∷ [] = take_more ms i m within ∙ ap (λ y. take i ms ++ y ∷ []) (sym is) in
    let fresh = ap (λ n. is_among n (names_of_methods (take i ms))) (sym named) ∙ ap (is_among name) (sym so_far.0) ∙ was_new new name before is_new answer in (
      grown (λ m. m.signature.name) ms i m name new before after within is named so_far.0 is_new added,
      subst (λ ms. MethodsDiffer (map mirror_method ms)) (sym more) (methods_pushed (take i ms) m so_far.1 fresh),
    )

pub classes_grown : (cs : List Class) (i : ℕ) (c : Class) (name : List ℕ) (methods : List Method) (new : Bool) (before after : List (List ℕ)) → i < length cs → c ≡ get_or cs i c
    → name ≡ c.name → methods ≡ c.methods → (before ≡ names_of_classes (take i cs)) × ClassesDiffer (map mirror_class (take i cs)) → new ≡ true → new ≡ not (is_among name before)
    → after ≡ (if new then before ++ name ∷ [] else before) → MethodsDiffer (map mirror_method methods)
    → (after ≡ names_of_classes (take (i + 1) cs)) × ClassesDiffer (map mirror_class (take (i + 1) cs))
classes_grown cs i c name methods new before after within is named held so_far is_new answer added own =
    let more : take (i + 1) cs ≡ take i cs ++ c ∷ [] = take_more cs i c within ∙ ap (λ y. take i cs ++ y ∷ []) (sym is) in
    let fresh = ap (λ n. is_among n (names_of_classes (take i cs))) (sym named) ∙ ap (is_among name) (sym so_far.0) ∙ was_new new name before is_new answer in (
      grown (λ c. c.name) cs i c name new before after within is named so_far.0 is_new added,
      subst (λ cs. ClassesDiffer (map mirror_class cs)) (sym more)
          (classes_pushed (take i cs) c so_far.1 (subst (λ ms. MethodsDiffer (map mirror_method ms)) held own) fresh),
    )
