-- Objects that suit the classes have no refusal.
use Rattle.std.proofs.Common.{◌≡◌, ℕ, ◌+◌, ◌<◌, ◌≤◌, suc, zero, List, [], ◌∷◌, map, length, Bool, true, false, cond, nat_eq, nat_le, Option, Some, None, option_map, Ok, refl, sym, ap, subst, ◌∙◌, slice_get, arith}
use Rattle.std.specs.Option.{is_some}
use Rattle.std.specs.Str.{bytes_eq}
use Rattle.std.proofs.lemmas.Slice.Eq.{bytes_eq-Decides}
use Rattle.std.proofs.lemmas.Bool.{and_from}
use Rattle.std.proofs.lemmas.Bool.Decides.{nat_tests}
use Rattle.rb_trees.specs.Limits.{longest_list}
use Rattle.rb_trees.specs.mirror.Declarations.{Param, Class}
use Rattle.rb_trees.specs.mirror.Services.{Literal, Literals, Int, Bool as Truth, Text, Object as Reference, Items, NoLiterals, MoreLiterals, ObjectText, ServiceText}
use Rattle.rb_trees.specs.printing.Unplaced.{unplaced_param, unplaced_class}
use Rattle.rb_meaning_types.specs.Kinds as kind
use Rattle.rb_meaning_types.specs.Kinds.{Kind, kind_of}
use Rattle.rb_meaning_types.specs.Names.{class_named}
use Rattle.rb_meaning_types.specs.Lawful.{literal_count}
use Rattle.rb_meaning_types.specs.Programs.{check_service}
use Rattle.rb_meaning_types.specs.Stores.{class_written, may_be_of, all_literals, is_of_kind, refers_well, all_refer_well, check_literals, has_fields, check_object, check_objects, check_text}
use Rattle.rb_law_tables.proofs.alike.Names.{bare, class_bare, kind_bare}
use Rattle.rb_law_tables.proofs.tables.Suits.{IsIntLiteral, IsBoolLiteral, IsTextLiteral, IsReference, AllSuit, AreItems, Suits, GivenSuit, ObjectSuits, ObjectsSuit}

-- the classes of objects, in order
abbrev pub classes_in : List ObjectText → List (List ℕ)
classes_in os = map (λ o. o.class) os

same_true : (a b : ℕ) → a ≡ b → nat_eq a b ≡ true
same_true a b e = grind (arith, nat_tests)

apart : (a b : ℕ) → a < b → nat_eq a b ≡ false
apart a b e = grind (arith, nat_tests)

within : (a b : ℕ) → a ≤ b → nat_le a b ≡ true
within a b e = grind (arith, nat_tests)

equal_bytes : (a b : List ℕ) → a ≡ b → bytes_eq a b ≡ true
equal_bytes a b e = (bytes_eq-Decides a b).1 e

cond_true : {A : Type 0} (b : Bool) (x y : A) → b ≡ true → cond b x y ≡ x
cond_true true x y e = refl
cond_true false x y e = absurd (cc)

cond_false : {A : Type 0} (b : Bool) (x y : A) → b ≡ false → cond b x y ≡ y
cond_false true x y e = absurd (cc)
cond_false false x y e = refl

-- The object at a place is found by its number.
written_at : (declared : List Class) (classes : List (List ℕ)) (n : ℕ) (os : List ObjectText) → ObjectsSuit declared classes n os → (i : ℕ) (name : List ℕ) → slice_get (classes_in os) i ≡ Some name
    → (number : ℕ) → number ≡ n + i → class_written os number ≡ Some name
written_at declared classes n [] h i name e number is = absurd (cc)
written_at declared classes n (o ∷ os) h zero name e number is =
    let numbered : o.number ≡ n = h.0.number in
    cond_true (nat_eq o.number number) (Some o.class) (class_written os number) (same_true o.number number (omega arith)) ∙ e
written_at declared classes n (o ∷ os) h (suc i) name e number is =
    let numbered : o.number ≡ n = h.0.number in
    cond_false (nat_eq o.number number) (Some o.class) (class_written os number) (apart o.number number (omega arith))
    ∙ written_at declared classes (n + 1) os h.1 i name e number (omega arith)

module _ (objects : List ObjectText) (classes : List (List ℕ)) (placed : (number : ℕ) (name : List ℕ) → slice_get classes number ≡ Some name → class_written objects number ≡ Some name) where
  -- what a literal's checks answer
  abbrev Passes : Kind → Literal → Type 0
  Passes k l = (is_of_kind objects k l ≡ true) × (refers_well objects l ≡ true)

  int_passes : (l : Literal) → IsIntLiteral l → Passes kind.Int l
  int_passes (Int n) h = (refl, refl)
  int_passes (Truth b) h = absurd h
  int_passes (Text t) h = absurd h
  int_passes (Reference n) h = absurd h
  int_passes (Items ls) h = absurd h

  bool_passes : (l : Literal) → IsBoolLiteral l → Passes kind.Bool l
  bool_passes (Int n) h = absurd h
  bool_passes (Truth b) h = (refl, refl)
  bool_passes (Text t) h = absurd h
  bool_passes (Reference n) h = absurd h
  bool_passes (Items ls) h = absurd h

  text_passes : (l : Literal) → IsTextLiteral l → Passes kind.Text l
  text_passes (Int n) h = absurd h
  text_passes (Truth b) h = absurd h
  text_passes (Text t) h = (refl, refl)
  text_passes (Reference n) h = absurd h
  text_passes (Items ls) h = absurd h

  reference_passes : (name : List ℕ) (l : Literal) → IsReference classes name l → Passes (kind.Named name) l
  reference_passes name (Int n) h = absurd h
  reference_passes name (Truth b) h = absurd h
  reference_passes name (Text t) h = absurd h
  reference_passes name (Reference n) h = let is = placed n name h in (ap (may_be_of name) is ∙ equal_bytes name name refl, ap is_some is)
  reference_passes name (Items ls) h = absurd h

  all_pass : (k : Kind) → ((l : Literal) → Suits classes k l → Passes k l) → (ls : Literals) → AllSuit (Suits classes k) ls → (all_literals (is_of_kind objects k) ls ≡ true) × (all_refer_well objects ls ≡ true)
  all_pass k one NoLiterals h = (refl, refl)
  all_pass k one (MoreLiterals l ls) h =
      let first = one l h.0 in
      let rest = all_pass k one ls h.1 in
      (and_from (is_of_kind objects k l) (all_literals (is_of_kind objects k) ls) first.0 rest.0, and_from (refers_well objects l) (all_refer_well objects ls) first.1 rest.1)

  items_pass : (k : Kind) → ((l : Literal) → Suits classes k l → Passes k l) → (l : Literal) → AreItems (Suits classes k) l → Passes (kind.ListOf k) l
  items_pass k one (Int n) h = absurd h
  items_pass k one (Truth b) h = absurd h
  items_pass k one (Text t) h = absurd h
  items_pass k one (Reference n) h = absurd h
  items_pass k one (Items ls) h =
      let those = all_pass k one ls h.1 in
      (and_from (nat_le (literal_count ls) longest_list) (all_literals (is_of_kind objects k) ls) (within (literal_count ls) longest_list h.0) those.0, those.1)

  literal_passes : (k : Kind) (l : Literal) → Suits classes k l → Passes k l
  literal_passes kind.Int l h = int_passes l h
  literal_passes kind.Bool l h = bool_passes l h
  literal_passes kind.Text l h = text_passes l h
  literal_passes kind.Unit l h = absurd h
  literal_passes (kind.Named name) l h = reference_passes name l h
  literal_passes (kind.ListOf item) l h = items_pass item (literal_passes item) l h
  literal_passes (kind.RowsOf row) l h = absurd h

  literals_pass : (n : ℕ) (ps : List Param) (gs : List (List ℕ × Literal)) → GivenSuit classes (map unplaced_param ps) gs → (has_fields ps gs ≡ true) × (check_literals objects n ps gs ≡ Ok tt)
  literals_pass n [] [] h = (refl, refl)
  literals_pass n [] (g ∷ gs) h = absurd h
  literals_pass n (p ∷ ps) [] h = absurd h
  literals_pass n (p ∷ ps) (g ∷ gs) h =
      let first = literal_passes (kind_of p.kind) g.1 (subst (λ k. Suits classes k g.1) (kind_bare p.kind) h.1) in
      let rest = literals_pass n ps gs h.2 in
      (and_from (bytes_eq p.name g.0) (has_fields ps gs) (equal_bytes p.name g.0 h.0) rest.0, rw (first.0, first.1) rest.1)

-- a class that is found among those without positions
record FoundClass (declared : List Class) (name : List ℕ) (fields : List Param) : Type 0 where
  class : Class
  found : class_named declared name ≡ Some class
  same : map unplaced_param class.fields ≡ fields

found_class : (declared : List Class) (name : List ℕ) (u : Class) → class_named (bare declared) name ≡ Some u → FoundClass declared name u.fields
found_class declared name u e = go (class_named declared name) refl
  where
    go : (o : Option Class) → class_named declared name ≡ o → FoundClass declared name u.fields
    go None is = let no : None ≡ Some u = sym (ap (option_map unplaced_class) is) ∙ sym (class_bare declared name) ∙ e in absurd (cc)
    go (Some c) is =
        let yes_it : Some (unplaced_class c) ≡ Some u = sym (ap (option_map unplaced_class) is) ∙ sym (class_bare declared name) ∙ e in
        let it : unplaced_class c ≡ u = cc in
        record { class = c; found = is; same = ap (λ x. x.fields) it }

module _ (t : ServiceText) (classes : List (List ℕ)) (placed : (number : ℕ) (name : List ℕ) → slice_get classes number ≡ Some name → class_written t.objects number ≡ Some name) where
  object_passes : (n : ℕ) (o : ObjectText) → ObjectSuits (bare t.classes) classes n o → check_object t n o ≡ Ok tt
  object_passes n o h =
      let f = found_class t.classes o.class h.class h.found in
      let g = literals_pass t.objects classes placed n f.class.fields o.fields (subst (λ ps. GivenSuit classes ps o.fields) (sym f.same) h.fields) in
      let numbered = same_true o.number n h.number in
      rw (numbered, f.found, g.0) g.1

  objects_pass : (n : ℕ) (os : List ObjectText) → ObjectsSuit (bare t.classes) classes n os → check_objects t n os ≡ Ok tt
  objects_pass n [] h = refl
  objects_pass n (o ∷ os) h = let first = object_passes n o h.0 in rw first (objects_pass (n + 1) os h.1)

-- what stands at a place
there : {A : Type 0} (xs : List A) (i : ℕ) → i < length xs → (x : A) × (slice_get xs i ≡ Some x)
there [] i h = absurd (omega arith)
there (x ∷ xs) zero h = (x, refl)
there (x ∷ xs) (suc i) h = there xs i (omega arith)

length_classes : (os : List ObjectText) → length (classes_in os) ≡ length os
length_classes [] = refl
length_classes (o ∷ os) = ap suc (length_classes os)

-- The text has no refusal.
pub service_passes : (t : ServiceText) → check_service t.classes ≡ Ok tt → ObjectsSuit (bare t.classes) (classes_in t.objects) 0 t.objects → t.root < length t.objects → check_text t ≡ Ok tt
service_passes t typed suit root =
    let classes = classes_in t.objects in
    let placed : (number : ℕ) (name : List ℕ) → slice_get classes number ≡ Some name → class_written t.objects number ≡ Some name =
    λ number name is. written_at (bare t.classes) classes 0 t.objects suit number name is number (omega arith) in
    let all = objects_pass t classes placed 0 t.objects suit in
    let at = there classes t.root (omega (arith, length_classes t.objects)) in
    let written = ap is_some (placed t.root at.0 at.1) in
    rw (typed, all, written) refl
