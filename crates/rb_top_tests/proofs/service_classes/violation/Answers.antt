use Rattle.std.proofs.Common.{◌≡◌, List, [], ◌∷◌, ◌++◌, Bool, false}
use Rattle.std.specs.List.{IsDistinct, AllByRecursion}
use Rattle.rb_trees.specs.mirror.Declarations.{Program}
use Rattle.rb_meaning_types.specs.Lawful.{IsLawful, IsLawfulService, classes_positions}
use Rattle.rb_top_tests.proofs.service_classes.violation.Goals as goal

apart_front : {A : Type 0} (e : A → A → Bool) (x : A) (xs ys : List A) → AllByRecursion (λ y. e x y ≡ false) (xs ++ ys) → AllByRecursion (λ y. e x y ≡ false) xs
apart_front e x [] ys h = tt
apart_front e x (y ∷ xs) ys h = (h.0, apart_front e x xs ys h.1)

distinct_front : {A : Type 0} (e : A → A → Bool) (xs ys : List A) → IsDistinct e (xs ++ ys) → IsDistinct e xs
unfolding IsDistinct
distinct_front e [] ys h = tt
distinct_front e (x ∷ xs) ys h = (apart_front e x xs ys h.0, distinct_front e xs ys h.1)

-- the classes of a lawful program are lawful as those of a service
service : (p : Program) → IsLawful p → IsLawfulService p.classes
service p l = record { each = l.classes; class_count = l.class_count; depths = l.class_depths; positions = distinct_front _ (classes_positions p.classes) _ l.positions }

pub check_service-requires : goal.check_service-requires
check_service-requires c = service _ c.in-Ok.ensures.lawful
