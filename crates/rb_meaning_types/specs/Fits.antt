-- When values, objects, frames, local states and tables fit the typing. Values fit a list of class
-- names, that of the objects of their heap in order: it stays as it is where a field is written, and
-- grows where an object is added.
use Rattle.std.specs.Prelude.{◌≡◌, ℕ, ◌<◌, List, [], ◌∷◌, map, true, length, slice_get, Option, Some, None, codes}
use Rattle.std.specs.List.{All}
use Rattle.rb_trees.specs.declared.values.Value.{Value}
use Rattle.rb_trees.specs.declared.values.Value.TheOpen.{Value-F}
use Rattle.rb_trees.specs.declared.values.Value.TheViews.{out-Value}
use Rattle.rb_trees.specs.declared.services.Object.{Object}
use Rattle.rb_trees.specs.mirror.Declarations.{Param, Interface, Class}
use Rattle.rb_meaning_types.specs.Kinds as kind
use Rattle.rb_meaning_types.specs.Kinds.{Kind, kind_of}
use Rattle.rb_meaning_types.specs.Names.{class_named, interface_named}
use Rattle.rb_meaning_types.specs.Values.{IsInt, IsText, IsList}
use Rattle.rb_meaning_types.specs.Scopes.{Scope}
use Rattle.rb_meaning_types.specs.Declared.{Context}

-- the classes of the objects of a heap, in order
abbrev pub classes_of : List Object → List (List ℕ)
classes_of objects = map (λ o. o.class) objects

abbrev pub IsIntValue : Value-F Value → Type 0
IsIntValue (Value-F.Int number) = IsInt number
IsIntValue _ = ⊥

abbrev pub IsBoolValue : Value-F Value → Type 0
IsBoolValue (Value-F.Bool truth) = Unit {0}
IsBoolValue _ = ⊥

abbrev pub IsTextValue : Value-F Value → Type 0
IsTextValue (Value-F.Text text) = IsText text
IsTextValue _ = ⊥

abbrev pub IsUnitValue : Value-F Value → Type 0
IsUnitValue Value-F.Unit = Unit {0}
IsUnitValue _ = ⊥

-- an object of the own heap, of the class of the name
abbrev pub IsObjectOf : List (List ℕ) → List ℕ → Value-F Value → Type 0
IsObjectOf classes name (Value-F.Ref object) = slice_get classes object ≡ Some name
IsObjectOf classes name _ = ⊥

-- an object of the service's table
abbrev pub IsRemoteValue : Value-F Value → Type 0
IsRemoteValue (Value-F.Remote object) = Unit {0}
IsRemoteValue _ = ⊥

abbrev pub AreItems : (Value → Type 0) → Value-F Value → Type 0
AreItems P (Value-F.List items) = IsList items × All P items
AreItems P _ = ⊥

abbrev pub AreRows : (Value → Type 0) → Value-F Value → Type 0
AreRows P (Value-F.Rows rows) = All P rows
AreRows P _ = ⊥

-- a value of a name's type: an object of the service where the name is an interface's, else of the
-- class; no name of a typed program is both
abbrev pub FitsNamed : Option Interface → List (List ℕ) → List ℕ → Value-F Value → Type 0
FitsNamed (Some interface) classes name value = IsRemoteValue value
FitsNamed None classes name value = IsObjectOf classes name value

-- A value fits a type.
abbrev pub Fits : List Interface → List (List ℕ) → Kind → Value → Type 0
Fits interfaces classes kind.Int value = IsIntValue (out-Value value)
Fits interfaces classes kind.Bool value = IsBoolValue (out-Value value)
Fits interfaces classes kind.Text value = IsTextValue (out-Value value)
Fits interfaces classes kind.Unit value = IsUnitValue (out-Value value)
Fits interfaces classes (kind.Named name) value = FitsNamed (interface_named interfaces name) classes name (out-Value value)
Fits interfaces classes (kind.ListOf item) value = AreItems (Fits interfaces classes item) (out-Value value)
Fits interfaces classes (kind.RowsOf row) value = AreRows (Fits interfaces classes row) (out-Value value)

-- Fields have the declared names, in order, and values of their types.
abbrev pub FieldsFit : List Interface → List (List ℕ) → List Param → List (List ℕ × Value) → Type 0
FieldsFit interfaces classes [] [] = Unit {0}
FieldsFit interfaces classes [] (f ∷ fs) = ⊥
FieldsFit interfaces classes (p ∷ ps) [] = ⊥
FieldsFit interfaces classes (p ∷ ps) (f ∷ fs) = (p.name ≡ f.0) × Fits interfaces classes (kind_of p.kind) f.1 × FieldsFit interfaces classes ps fs

-- An object is of a declared class, and its fields fit those of the class.
pub record ObjectFits (interfaces : List Interface) (declared : List Class) (classes : List (List ℕ)) (o : Object) : Type 0 where
  pub class : Class
  pub found : class_named declared o.class ≡ Some class
  pub fields : FieldsFit interfaces classes class.fields o.fields

-- Each object of a heap fits, with the objects of the same heap in its fields.
abbrev pub HeapFits : List Interface → List Class → List Object → Type 0
HeapFits interfaces declared heap = All (ObjectFits interfaces declared (classes_of heap)) heap

-- A frame: names with their values, in order of binding.
abbrev pub Frame : Type 0
Frame = List (List ℕ × Value)

abbrev pub this_name : List ℕ
this_name = codes "this"

-- The names that a frame has, and their types: in a method `this` comes first, with the type of its
-- class, and then the scope; in `main` there is the scope alone.
abbrev pub frame_scope : Option (List ℕ) → Scope → Scope
frame_scope (Some class) scope = record { name = this_name; kind = kind.Named class; fixed = true } ∷ scope
frame_scope None scope = scope

-- These names stand first in a frame, in order, with values of their types; more names may follow.
abbrev pub NamesFit : List Interface → List (List ℕ) → Scope → Frame → Type 0
NamesFit interfaces classes [] frame = Unit {0}
NamesFit interfaces classes (v ∷ vs) [] = ⊥
NamesFit interfaces classes (v ∷ vs) (n ∷ ns) = (v.name ≡ n.0) × Fits interfaces classes v.kind n.1 × NamesFit interfaces classes vs ns

-- A local state holds at least what a scope has: so it is after a fault, too.
pub record StateHolds (x : Context) (scope : Scope) (frame : Frame) (heap : List Object) : Type 0 where
  pub names_fit : NamesFit x.declared.interfaces (classes_of heap) (frame_scope x.this scope) frame
  pub heap_fits : HeapFits x.declared.interfaces x.declared.classes heap

-- A local state fits a scope: its frame has these names and no others.
pub record StateFits (x : Context) (scope : Scope) (frame : Frame) (heap : List Object) : Type 0 where
  pub holds : StateHolds x scope frame heap
  pub count : length (frame_scope x.this scope) ≡ length frame

-- A table fits a service: each of its objects does, and the root is among them.
pub record TableFits (classes : List Class) (root : ℕ) (table : List Object) : Type 0 where
  pub heap_fits : HeapFits [] classes table
  pub root_is : root < length table
