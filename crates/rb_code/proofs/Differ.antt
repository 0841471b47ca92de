-- The classes of a typed program or service differ by name, and so do the methods of each.
use Rattle.std.proofs.Common.{◌≡◌, ℕ, List, [], ◌∷◌, ◌++◌, map, Bool, true, false, None, Some, Result, Ok, Err, cond, ap, sym, ◌∙◌, refl}
use Rattle.std.specs.Str.{bytes_eq}
use Rattle.std.specs.Result.{is_ok}
use Rattle.std.proofs.lemmas.Slice.Eq.{bytes_eq-Decides}
use Rattle.rb_trees.specs.Named.{first_named}
use Rattle.rb_trees.specs.Outcome.{◌>>◌, must}
use Rattle.rb_trees.specs.mirror.Declarations.{Class, Method, Program}
use Rattle.rb_meaning_types.specs.Names.{is_new}
use Rattle.rb_meaning_types.specs.Declared.{Declarations, of_program, of_service}
use Rattle.rb_meaning_types.specs.Declarations.{new_name, check_params, check_method, check_methods, check_class, check_classes, check_interfaces, check_declarations}
use Rattle.rb_meaning_types.specs.Bodies.{check_class_bodies}
use Rattle.rb_meaning_types.specs.Programs.{check_main, is_typed, is_typed_service}
use Rattle.rb_code.specs.Differ.{MethodsDiffer, ClassesDiffer}

-- where one check and then another is passed, each is
first_passed : {B D : Type 0} (a : Result (Unit {0}) D) (b : Result B D) → is_ok (a >> b) ≡ true → is_ok a ≡ true
first_passed (Ok u) b h = refl
first_passed (Err d) b h = absurd (cc h)

then_passed : {B D : Type 0} (a : Result (Unit {0}) D) (b : Result B D) → is_ok (a >> b) ≡ true → is_ok b ≡ true
then_passed (Ok u) b h = h
then_passed (Err d) b h = absurd (cc h)

must_hold : {D : Type 0} (b : Bool) (d : D) → is_ok (must b d) ≡ true → b ≡ true
must_hold true d h = refl
must_hold false d h = absurd (cc h)

-- each name is none of those before it
abbrev Fresh : {A : Type 0} → (A → List ℕ) → List (List ℕ) → List A → Type 0
Fresh name_of before [] = Unit {0}
Fresh name_of before (x ∷ xs) = (is_new (name_of x) before ≡ true) × Fresh name_of (before ++ name_of x ∷ []) xs

-- a name that stands before isn't new behind more names
old_among_more : (name : List ℕ) (before more : List (List ℕ)) → is_new name before ≡ false → is_new name (before ++ more) ≡ false
old_among_more name [] more h = absurd (cc h)
old_among_more name (other ∷ others) more h = by_name (bytes_eq other name) refl (old_among_more name others more)
  where
    by_name : (b : Bool) → bytes_eq other name ≡ b → (is_new name others ≡ false → is_new name (others ++ more) ≡ false) → is_new name (other ∷ (others ++ more)) ≡ false
    by_name true e rest = ap (λ c. cond c false (is_new name (others ++ more))) e
    by_name false e rest = ap (λ c. cond c false (is_new name (others ++ more))) e ∙ rest (sym (ap (λ c. cond c false (is_new name others)) e) ∙ h)

-- the last name isn't new
last_is_old : (name : List ℕ) (before : List (List ℕ)) → is_new name (before ++ name ∷ []) ≡ false
last_is_old name [] = ap (λ c. cond c false true) ((bytes_eq-Decides name name).1 refl)
last_is_old name (other ∷ others) = by_name (bytes_eq other name) refl (last_is_old name others)
  where
    by_name : (b : Bool) → bytes_eq other name ≡ b → is_new name (others ++ name ∷ []) ≡ false → is_new name (other ∷ (others ++ name ∷ [])) ≡ false
    by_name true e rest = ap (λ c. cond c false (is_new name (others ++ name ∷ []))) e
    by_name false e rest = ap (λ c. cond c false (is_new name (others ++ name ∷ []))) e ∙ rest

-- what stands before is found of nothing behind
none_behind : {A : Type 0} (name_of : A → List ℕ) (before : List (List ℕ)) (xs : List A) (name : List ℕ) → Fresh name_of before xs → is_new name before ≡ false → first_named name_of xs name ≡ None
none_behind name_of before [] name f h = refl
none_behind name_of before (x ∷ xs) name f h = by_name (bytes_eq (name_of x) name) refl (none_behind name_of (before ++ name_of x ∷ []) xs name f.1 (old_among_more name before (name_of x ∷ []) h))
  where
    by_name : (b : Bool) → bytes_eq (name_of x) name ≡ b → first_named name_of xs name ≡ None → first_named name_of (x ∷ xs) name ≡ None
    by_name true e rest = let g = sym f.0 ∙ ap (λ n. is_new n before) ((bytes_eq-Decides (name_of x) name).0 e) ∙ h in absurd (cc g)
    by_name false e rest = ap (λ c. cond c (Some x) (first_named name_of xs name)) e ∙ rest

-- no later one has the name of one before
none_later : {A : Type 0} (name_of : A → List ℕ) (before : List (List ℕ)) (x : A) (xs : List A) → Fresh name_of before (x ∷ xs) → first_named name_of xs (name_of x) ≡ None
none_later name_of before x xs f = none_behind name_of (before ++ name_of x ∷ []) xs (name_of x) f.1 (last_is_old (name_of x) before)

fresh_methods : (d : Declarations) (before : List (List ℕ)) (ms : List Method) → is_ok (check_methods d before ms) ≡ true → Fresh (λ m. m.signature.name) before ms
fresh_methods d before [] h = tt
fresh_methods d before (m ∷ ms) h =
    let name = new_name before m.signature.at m.signature.name in
    let rest = check_methods d (before ++ m.signature.name ∷ []) ms in (
      must_hold (is_new m.signature.name before) _ (first_passed name (check_method d m) (first_passed (name >> check_method d m) rest h)),
      fresh_methods d (before ++ m.signature.name ∷ []) ms (then_passed (name >> check_method d m) rest h),
    )

methods_differ : (before : List (List ℕ)) (ms : List Method) → Fresh (λ m. m.signature.name) before ms → MethodsDiffer ms
methods_differ before [] f = tt
methods_differ before (m ∷ ms) f = (none_later (λ x. x.signature.name) before m ms f, methods_differ (before ++ m.signature.name ∷ []) ms f.1)

fresh_classes : (d : Declarations) (before : List (List ℕ)) (cs : List Class) → is_ok (check_classes d before cs) ≡ true → Fresh (λ c. c.name) before cs
fresh_classes d before [] h = tt
fresh_classes d before (c ∷ cs) h =
    let name = new_name before c.at c.name in
    let rest = check_classes d (before ++ c.name ∷ []) cs in (
      must_hold (is_new c.name before) _ (first_passed name (check_class d c) (first_passed (name >> check_class d c) rest h)),
      fresh_classes d (before ++ c.name ∷ []) cs (then_passed (name >> check_class d c) rest h),
    )

classes_differ : (d : Declarations) (before : List (List ℕ)) (cs : List Class) → is_ok (check_classes d before cs) ≡ true → ClassesDiffer cs
classes_differ d before [] h = tt
classes_differ d before (c ∷ cs) h =
    let name = new_name before c.at c.name in
    let rest = check_classes d (before ++ c.name ∷ []) cs in
    let class = then_passed name (check_class d c) (first_passed (name >> check_class d c) rest h) in (
      none_later (λ x. x.name) before c cs (fresh_classes d before (c ∷ cs) h),
      methods_differ [] c.methods (fresh_methods d [] c.methods (then_passed (check_params false d [] c.fields) (check_methods d [] c.methods) class)),
      classes_differ d (before ++ c.name ∷ []) cs (then_passed (name >> check_class d c) rest h),
    )

-- so the classes of what passes the check of declarations are those that `Code` takes
declared_differ : (d : Declarations) → is_ok (check_declarations d) ≡ true → ClassesDiffer d.classes
declared_differ d h = let names = map (λ i. i.name) d.interfaces in classes_differ d names d.classes (then_passed (check_interfaces d [] d.interfaces) (check_classes d names d.classes) h)

pub typed_differ : (p : Program) → is_typed p ≡ true → ClassesDiffer p.classes
typed_differ p h =
    let d = of_program p in
    declared_differ d (first_passed (check_declarations d) (check_class_bodies d p.classes) (first_passed (check_declarations d >> check_class_bodies d p.classes) (check_main p) h))

pub service_classes_differ : (cs : List Class) → is_typed_service cs ≡ true → ClassesDiffer cs
service_classes_differ cs h = let d = of_service cs in declared_differ d (first_passed (check_declarations d) (check_class_bodies d cs) h)
