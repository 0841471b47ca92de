-- What a heap is seen as that keeps each layout once.
use Rattle.std.specs.Prelude.{◌≡◌, ℕ, List, [], ◌∷◌, ◌++◌, Option, None, Some, map, length, slice_get}
use Rattle.rb_trees.specs.declared.values.Value.{Value}
use Rattle.rb_trees.specs.declared.services.Object.{Object}
use Rattle.rb_heap.specs.declared.layouts.Layout.{Layout}
use Rattle.rb_heap.specs.declared.stored.Stored.{Stored}
use Rattle.rb_heap.specs.Views.{object_with}

-- an object's layout
abbrev pub names_of : List (List ℕ × Value) → List (List ℕ)
names_of fields = map (λ f. f.0) fields

abbrev pub layout_of : Object → Layout
layout_of o = record { class = o.class; names = names_of o.fields }

-- and its values
abbrev pub values_of : List (List ℕ × Value) → List Value
values_of fields = map (λ f. f.1) fields

-- the object of a layout with values; where there is no layout there is no such object
abbrev pub laid_out : Option Layout → List Value → Object
laid_out None values = object_with [] [] []
laid_out (Some l) values = object_with l.class l.names values

abbrev pub object_seen : List Layout → Stored → Object
object_seen layouts s = laid_out (slice_get layouts s.layout) s.values

abbrev pub objects_seen : List Layout → List Stored → List Object
objects_seen layouts objects = map (object_seen layouts) objects

-- an object's layout is there, with a name for each of its values
abbrev pub IsLaidOut : List Layout → Stored → Type 0
IsLaidOut layouts s = (l : Layout) × (slice_get layouts s.layout ≡ Some l) × (length l.names ≡ length s.values)

abbrev pub AreLaidOut : List Layout → List Stored → Type 0
AreLaidOut layouts [] = Unit {0}
AreLaidOut layouts (s ∷ ss) = IsLaidOut layouts s × AreLaidOut layouts ss

-- the layouts are those there were, and maybe more at the end
abbrev pub Extends : List Layout → List Layout → Type 0
Extends before after = (more : List Layout) × (after ≡ before ++ more)
