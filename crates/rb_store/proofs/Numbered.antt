-- Objects without a refusal: each is numbered by its place, so that the first object of a number stands there.
use Rattle.std.proofs.Common.{◌≡◌, ℕ, ◌+◌, ◌<◌, ◌≤◌, suc, List, [], ◌∷◌, map, length, Bool, true, false, ◌&&◌, cond, nat_eq, nat_lt, Option, Some, None, Ok, Err, refl, ap, subst, slice_get, arith}
use Rattle.std.specs.Str.{bytes_eq}
use Rattle.std.proofs.lemmas.Bool.Decides.{nat_tests}
use Rattle.std.proofs.lemmas.Option.{slice_get_within}
use Rattle.rb_trees.specs.Outcome.{◌>>=◌, ◌>>◌, known, must}
use Rattle.rb_trees.specs.mirror.Declarations.{Class, Param}
use Rattle.rb_trees.specs.mirror.Services.{Literal, Literals, Int, Bool as Truth, Text, Object as Reference, Items, NoLiterals, MoreLiterals, ObjectText, ServiceText}
use Rattle.rb_meaning_types.specs.Names.{class_named}
use Rattle.rb_meaning_types.specs.Kinds.{kind_of}
use Rattle.rb_meaning_types.specs.Violations as violation
use Rattle.rb_meaning_types.specs.Stores.{Stored, StoreRefusal, Types, NoRoot, ObjectNumber, FieldMissing, FieldKind, BadReference, class_written, is_written, is_of_kind, check_literal, check_literals, check_fields, check_object, check_objects, check_table, has_fields, refers_well, all_refer_well}
use Rattle.rb_store.specs.Referred.{is_below, are_below, FieldsBelow, ObjectsBelow}

-- what passes first, and what passes then
pub passed : {B : Type 0} (a : Stored (Unit {0})) (b : Stored B) (y : B) → a >> b ≡ Ok y → (a ≡ Ok tt) × (b ≡ Ok y)
passed (Ok u) b y e = (refl, e)
passed (Err d) b y e = cc

pub held : (b : Bool) (d : StoreRefusal) → must b d ≡ Ok tt → b ≡ true
held true d e = refl
held false d e = cc

pub both : (a b : Bool) → (a && b) ≡ true → (a ≡ true) × (b ≡ true)
both true true e = (refl, refl)
both true false e = cc
both false b e = cc

joined : (a b : Bool) → a ≡ true → b ≡ true → (a && b) ≡ true
joined true b first second = second
joined false b first second = first

less : (a b : ℕ) → a < b → nat_lt a b ≡ true
less a b e = grind (arith, nat_tests)

-- an object without a refusal
pub record Passes (t : ServiceText) (n : ℕ) (o : ObjectText) : Type 0 where
  pub number : o.number ≡ n
  pub class : Class
  pub found : class_named t.classes o.class ≡ Some class
  pub named : has_fields class.fields o.fields ≡ true
  pub literals : check_literals t.objects n class.fields o.fields ≡ Ok tt

same : (a b : ℕ) → nat_eq a b ≡ true → a ≡ b
same a b e = grind (arith, nat_tests)

class_step : (t : ServiceText) (n : ℕ) (o : ObjectText) (d : StoreRefusal) (found : Option Class) → class_named t.classes o.class ≡ found → o.number ≡ n
    → (known d found >>= λ class. check_fields t.objects n class o.fields) ≡ Ok tt → Passes t n o
class_step t n o d None is number e = cc
class_step t n o d (Some class) is number e =
    let parts = passed (must (has_fields class.fields o.fields) (FieldMissing n)) (check_literals t.objects n class.fields o.fields) tt e in
    record { number = number; class = class; found = is; named = held (has_fields class.fields o.fields) (FieldMissing n) parts.0; literals = parts.1 }

object_passes : (t : ServiceText) (n : ℕ) (o : ObjectText) → check_object t n o ≡ Ok tt → Passes t n o
object_passes t n o e =
    let d : StoreRefusal = Types (violation.UnknownName o.at) in
    let parts = passed (must (nat_eq o.number n) (ObjectNumber n)) (known d (class_named t.classes o.class) >>= λ class. check_fields t.objects n class o.fields) tt e in
    class_step t n o d (class_named t.classes o.class) refl (same o.number n (held (nat_eq o.number n) (ObjectNumber n) parts.0)) parts.1

-- objects without a refusal, the first at place n
abbrev pub AllPass : ServiceText → ℕ → List ObjectText → Type 0
AllPass t n [] = Unit {0}
AllPass t n (o ∷ os) = Passes t n o × AllPass t (n + 1) os

objects_pass : (t : ServiceText) (n : ℕ) (os : List ObjectText) → check_objects t n os ≡ Ok tt → AllPass t n os
objects_pass t n [] e = tt
objects_pass t n (o ∷ os) e =
    let parts = passed (check_object t n o) (check_objects t (n + 1) os) tt e in
    (object_passes t n o parts.0, objects_pass t (n + 1) os parts.1)

pub all_pass : (t : ServiceText) → check_table t ≡ Ok tt → AllPass t 0 t.objects
all_pass t e = objects_pass t 0 t.objects (passed (check_objects t 0 t.objects) (must (is_written t.objects t.root) NoRoot) tt e).0

-- The first object of a number stands at that place.
abbrev pub classes_written : List ObjectText → List (List ℕ)
classes_written os = map (λ o. o.class) os

pub record StandsAt (n number : ℕ) (os : List ObjectText) (class : List ℕ) : Type 0 where
  pub place : ℕ
  pub is : number ≡ n + place
  pub there : slice_get (classes_written os) place ≡ Some class

stands_step : (b : Bool) (t : ServiceText) (n number : ℕ) (o : ObjectText) (os : List ObjectText) (class : List ℕ) → nat_eq o.number number ≡ b → o.number ≡ n
    → (class_written os number ≡ Some class → StandsAt (n + 1) number os class) → cond b (Some o.class) (class_written os number) ≡ Some class → StandsAt n number (o ∷ os) class
stands_step true t n number o os class is numbered later e =
    let here : o.number ≡ number = same o.number number is in
    record { place = 0; is = omega arith; there = e }
stands_step false t n number o os class is numbered later e =
    let at = later e in
    record { place = suc at.place; is = (let was : number ≡ n + 1 + at.place = at.is in omega arith); there = at.there }

stands : (t : ServiceText) (n : ℕ) (os : List ObjectText) → AllPass t n os → (number : ℕ) (class : List ℕ) → class_written os number ≡ Some class → StandsAt n number os class
stands t n [] all number class e = cc
stands t n (o ∷ os) all number class e =
    stands_step (nat_eq o.number number) t n number o os class refl all.0.number (stands t (n + 1) os all.1 number class) e

pub at_place : (t : ServiceText) → check_table t ≡ Ok tt → (number : ℕ) (class : List ℕ) → class_written t.objects number ≡ Some class → slice_get (classes_written t.objects) number ≡ Some class
at_place t e number class is =
    let at = stands t 0 t.objects (all_pass t e) number class is in
    let here : number ≡ 0 + at.place = at.is in
    let place : at.place ≡ number = omega arith in
    subst (λ n. slice_get (classes_written t.objects) n ≡ Some class) place at.there

length_classes : (os : List ObjectText) → length (classes_written os) ≡ length os
length_classes [] = refl
length_classes (o ∷ os) = ap suc (length_classes os)

written_step : (o : Option (List ℕ)) → Rattle.std.specs.Option.is_some o ≡ true → (class : List ℕ) × (o ≡ Some class)
written_step None e = cc
written_step (Some class) e = (class, refl)

-- a number that an object is written with is that of a place
pub within : (t : ServiceText) → check_table t ≡ Ok tt → (number : ℕ) → is_written t.objects number ≡ true → number < length t.objects
within t e number is =
    let w = written_step (class_written t.objects number) is in
    subst (λ n. number < n) (length_classes t.objects) (slice_get_within (classes_written t.objects) number w.0 (at_place t e number w.0 w.1))

pub root_within : (t : ServiceText) → check_table t ≡ Ok tt → t.root < length t.objects
root_within t e =
    let parts = passed (check_objects t 0 t.objects) (must (is_written t.objects t.root) NoRoot) tt e in
    within t e t.root (held (is_written t.objects t.root) NoRoot parts.1)

-- The numbers that literals refer to are those of places.
module _ (objects : List ObjectText) (bound : ℕ) (small : (number : ℕ) → is_written objects number ≡ true → number < bound) where
  mutual
    below : (l : Literal) → refers_well objects l ≡ true → is_below bound l ≡ true
    below (Int number) e = refl
    below (Truth truth) e = refl
    below (Text text) e = refl
    below (Reference number) e = less number bound (small number e)
    below (Items items) e = all_below items e

    all_below : (ls : Literals) → all_refer_well objects ls ≡ true → are_below bound ls ≡ true
    all_below NoLiterals e = refl
    all_below (MoreLiterals l ls) e =
        let parts = both (refers_well objects l) (all_refer_well objects ls) e in
        joined (is_below bound l) (are_below bound ls) (below l parts.0) (all_below ls parts.1)

  fields_below : (n : ℕ) (ps : List Param) (fs : List (List ℕ × Literal)) → has_fields ps fs ≡ true → check_literals objects n ps fs ≡ Ok tt → FieldsBelow bound fs
  fields_below n [] [] named e = tt
  fields_below n [] (f ∷ fs) named e = cc
  fields_below n (p ∷ ps) [] named e = cc
  fields_below n (p ∷ ps) (f ∷ fs) named e =
      let parts = passed (check_literal objects n (kind_of p.kind) f.1) (check_literals objects n ps fs) tt e in
      let first = passed (must (is_of_kind objects (kind_of p.kind) f.1) (FieldKind n)) (must (refers_well objects f.1) (BadReference n)) tt parts.0 in
      (below f.1 (held (refers_well objects f.1) (BadReference n) first.1), fields_below n ps fs (both (bytes_eq p.name f.0) (has_fields ps fs) named).1 parts.1)

objects_below : (t : ServiceText) (bound : ℕ) → ((number : ℕ) → is_written t.objects number ≡ true → number < bound) → (n : ℕ) (os : List ObjectText) → AllPass t n os → ObjectsBelow bound os
objects_below t bound small n [] all = tt
objects_below t bound small n (o ∷ os) all =
    (fields_below t.objects bound small n all.0.class.fields o.fields all.0.named all.0.literals, objects_below t bound small (n + 1) os all.1)

-- every number is small, where there are so few objects
pub all_small : (t : ServiceText) (bound : ℕ) → check_table t ≡ Ok tt → length t.objects ≤ bound → ObjectsBelow bound t.objects
all_small t bound e few = objects_below t bound (λ number is. (let at = within t e number is in omega arith)) 0 t.objects (all_pass t e)
