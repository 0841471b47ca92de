-- How answers stand to the definitions, and what trees stand for in them.
use Rattle.std.specs.Prelude.{ℕ, List, map, Option, Result}
use Rattle.std.specs.Option.{option_map, option_copied}
use Rattle.std.specs.Borrow.{Bor}
use Rattle.rb_trees.specs.Outcome.{Gives}
use Rattle.rb_trees.specs.declared.stores.StoreError.{StoreError}
use Rattle.rb_trees.specs.declared.stores.StoreError.TheVariants as error
use Rattle.rb_trees.specs.declared.typing.TypeError.TheVariants as types
use Rattle.rb_trees.specs.declared.services.Service as service
use Rattle.rb_trees.specs.declared.services.ServiceText as text
use Rattle.rb_trees.specs.declared.services.Literal as literal
use Rattle.rb_trees.specs.declared.services.Object.{Object}
use Rattle.rb_trees.specs.mirror.Services.{Literal, Service, ObjectText, mirror_service, mirror_object, mirror_literal}
use Rattle.rb_meaning_types.specs.Stores.{Stored, store_refusal}

-- A check that gives nothing: Ok exactly where the rule holds, else its first refusal.
abbrev pub Passes : Result (Unit {0}) StoreError → Stored (Unit {0}) → Type 0
Passes result rule = Gives (λ u. u) store_refusal result rule

-- Want of memory has an error of its own, and no other holds it.
abbrev pub HoldsNoMemory : StoreError → Type 0
HoldsNoMemory (error.Types types.Memory) = ⊥
HoldsNoMemory _ = Unit {0}

-- the objects of a text
abbrev pub objects_of : text.ServiceText → List ObjectText
objects_of t = map mirror_object t.objects

-- the fields that an object is written with
abbrev pub written_fields : List (List ℕ × literal.Literal) → List (List ℕ × Literal)
written_fields fields = map (λ f. (f.0, mirror_literal f.1)) fields

-- a service with its table
abbrev pub stored : service.Service × List Object → Service × List Object
stored s = (mirror_service s.0, s.1)

-- what is found, or nothing, seen by view
abbrev pub found : {X Y : Type 0} → (X → Y) → Option (Bor X) → Option Y
found view result = option_map view (option_copied result)
