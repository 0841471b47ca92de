-- How the refusal of a service's text is shown: its number, its name, and its place or its object.
use Rattle.std.specs.Prelude.{ℕ, List, [], ◌++◌, codes}
use Rattle.std.specs.Fmt.{decimal}
use Rattle.rb_trees.specs.declared.stores.StoreError.{StoreError}
use Rattle.rb_trees.specs.declared.stores.StoreError.TheVariants as errors
use Rattle.rb_top.specs.Refusals.{shown_refusal, shown_violation}

-- what is wrong with the object of a number
abbrev pub with_object : List ℕ → ℕ → List ℕ
with_object heading object = heading ++ codes " object " ++ decimal object

-- the refusal of a service's text, without its line feed; want of memory is none
abbrev pub shown_service_refusal : List ℕ → StoreError → List ℕ
shown_service_refusal text (errors.Read error) = codes "service " ++ shown_refusal text error
shown_service_refusal text (errors.Types error) = codes "service " ++ shown_violation text error
shown_service_refusal text errors.NoRoot = codes "service 20 NoRoot"
shown_service_refusal text (errors.BadReference object) = with_object (codes "service 21 BadReference") object
shown_service_refusal text (errors.FieldMissing object) = with_object (codes "service 22 FieldMissing") object
shown_service_refusal text (errors.FieldKind object) = with_object (codes "service 23 FieldKind") object
shown_service_refusal text (errors.ObjectNumber object) = with_object (codes "service 24 ObjectNumber") object
shown_service_refusal text errors.Memory = []
