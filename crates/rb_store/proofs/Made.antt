-- The service that is made of a text without a refusal.
use Rattle.std.proofs.Common.{◌≡◌, ◌<◌, ◌≤◌, ◌^◌, suc, List, [], ◌∷◌, map, length, Result, Ok, Err, refl, sym, ap, subst, arith}
use Rattle.rb_trees.specs.Limits.{most_objects}
use Rattle.rb_trees.specs.Outcome.{refused_as}
use Rattle.rb_trees.specs.declared.services.Service as service
use Rattle.rb_trees.specs.declared.services.ServiceText as text
use Rattle.rb_trees.specs.declared.services.Object.{Object}
use Rattle.rb_trees.specs.mirror.Declarations.{mirror_class}
use Rattle.rb_trees.specs.mirror.Services.{ServiceText, mirror_object, mirror_service, mirror_service_text}
use Rattle.rb_meaning_types.specs.Lawful.{IsLawfulServiceText}
use Rattle.rb_meaning_types.specs.Programs.{check_service}
use Rattle.rb_meaning_types.specs.Stores.{Types, check_table, check_text, table_of}
use Rattle.rb_meaning.specs.Links.{IsTyped}
use Rattle.rb_store.specs.Referred.{ObjectsBelow}
use Rattle.rb_store.specs.Views.{objects_of}
use Rattle.rb_store.proofs.Numbered.{passed, all_small, root_within}
use Rattle.rb_store.proofs.Fitting.{table_fits}

length_map : {A B : Type 0} (f : A → B) (xs : List A) → length (map f xs) ≡ length xs
length_map f [] = refl
length_map f (x ∷ xs) = ap suc (length_map f xs)

table_passes : (t : ServiceText) → check_text t ≡ Ok tt → check_table t ≡ Ok tt
table_passes t e = (passed (refused_as Types (check_service t.classes)) (check_table t) tt e).1

classes_pass : (t : ServiceText) → check_text t ≡ Ok tt → refused_as Types (check_service t.classes) ≡ Ok tt
classes_pass t e = (passed (refused_as Types (check_service t.classes)) (check_table t) tt e).0

few : (t : text.ServiceText) → length t.objects ≤ most_objects → length (objects_of t) ≤ most_objects
few t room = subst (λ n. n ≤ most_objects) (sym (length_map mirror_object t.objects)) room

pub below : (t : text.ServiceText) → check_text (mirror_service_text t) ≡ Ok tt → length t.objects ≤ most_objects → ObjectsBelow (2 ^ 32) (objects_of t)
below t e room = let all = few t room in all_small (mirror_service_text t) (2 ^ 32) (table_passes (mirror_service_text t) e) (omega arith)

pub root_below : (t : text.ServiceText) → check_text (mirror_service_text t) ≡ Ok tt → length t.objects ≤ most_objects → t.root < 2 ^ 32
root_below t e room = let all = few t room in let at = root_within (mirror_service_text t) (table_passes (mirror_service_text t) e) in omega arith

accepted : {R S : Type 0} (f : R → S) (x : Result (Unit {0}) R) → refused_as f x ≡ Ok tt → x ≡ Ok tt
accepted f (Ok u) e = refl
accepted f (Err r) e = cc

module _ (t : text.ServiceText) (s : service.Service) (table : List Object) (classes : s.classes ≡ t.classes) (root : s.root ≡ t.root) (made : table ≡ table_of (objects_of t)) where
  pub typed : IsLawfulServiceText (mirror_service_text t) → check_text (mirror_service_text t) ≡ Ok tt → IsTyped (mirror_service s) table
  typed lawful e =
      let those : IsTyped (record { classes = map mirror_class t.classes; root = t.root }) (table_of (objects_of t)) = record {
        lawful = lawful.classes;
        typed = accepted Types (check_service (map mirror_class t.classes)) (classes_pass (mirror_service_text t) e);
        fits = table_fits (mirror_service_text t) lawful (table_passes (mirror_service_text t) e);
      } in
      subst (λ cs. IsTyped (record { classes = map mirror_class cs; root = s.root }) table) (sym classes)
      (subst (λ n. IsTyped (record { classes = map mirror_class t.classes; root = n }) table) (sym root)
      (subst (IsTyped (record { classes = map mirror_class t.classes; root = t.root })) (sym made) those))
