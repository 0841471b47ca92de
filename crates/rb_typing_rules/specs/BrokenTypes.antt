-- The first broken rule in a written type, by cases: its names first, then its place, from the outside in.
use Rattle.std.specs.Prelude.{◌≡◌, ℕ, List, Bool as Truth, true, false}
use Rattle.rb_trees.specs.mirror.Types.{TypeTree, Unit, Named, ListOf, RowsOf, type_at}
use Rattle.rb_meaning_types.specs.Declared.{Declarations, is_class, is_declared}
use Rattle.rb_meaning_types.specs.Violations.{Violation, UnknownName, TypeNotHere}
use Rattle.rb_meaning_types.specs.Places.{is_remote_value, is_remote_result, is_main_result}
use Rattle.rb_typing_rules.specs.Order.{InOrder}
use Rattle.rb_typing_rules.specs.Programs.{IsKnown}

-- A name in a type isn't declared.
pub data UnknownType (d : Declarations) : TypeTree → Violation → Type 0 where
  unknown_name : (at : ℕ) (name : List ℕ) → is_declared d name ≡ false → UnknownType d (Named at name) (UnknownName at)
  unknown_item : (at : ℕ) (item : TypeTree) (v : Violation) → UnknownType d item v → UnknownType d (ListOf at item) v
  unknown_row : (at : ℕ) (row : TypeTree) (v : Violation) → UnknownType d row v → UnknownType d (RowsOf at row) v

-- A type is none of local code's values, told where it is none.
pub data NoValueType (d : Declarations) : TypeTree → Violation → Type 0 where
  no_unit : (at : ℕ) → NoValueType d (Unit at) (TypeNotHere at)
  no_class : (at : ℕ) (name : List ℕ) → is_class d name ≡ false → NoValueType d (Named at name) (TypeNotHere at)
  no_item : (at : ℕ) (item : TypeTree) (v : Violation) → NoValueType d item v → NoValueType d (ListOf at item) v
  no_rows : (at : ℕ) (row : TypeTree) → NoValueType d (RowsOf at row) (TypeNotHere at)

-- The same of a result, which may be Unit.
abbrev pub NoValueResult : Declarations → TypeTree → Violation → Type 0
NoValueResult d (Unit at) v = ⊥
NoValueResult d kind v = NoValueType d kind v

-- A type doesn't pass the test of its place.
abbrev pub Fails : Truth → TypeTree → Violation → Type 0
Fails passes kind v = (passes ≡ false) × (TypeNotHere (type_at kind) ≡ v)

-- A type has an unknown name, or its names are known and it isn't one for its place.
abbrev pub BrokenType : Declarations → TypeTree → (Violation → Type 0) → Violation → Type 0
BrokenType d kind Misplaced = InOrder (UnknownType d kind) (IsKnown d kind) Misplaced

-- the type of an item of a List
abbrev pub BrokenItem : Declarations → TypeTree → Violation → Type 0
BrokenItem d kind = BrokenType d kind (NoValueType d kind)

-- the type of a parameter, of an interface's method or of a class's
abbrev pub BrokenParameter : Truth → Declarations → TypeTree → Violation → Type 0
BrokenParameter true d kind = BrokenType d kind (Fails (is_remote_value d kind) kind)
BrokenParameter false d kind = BrokenType d kind (NoValueType d kind)

-- the type of a result, of an interface's method or of a class's
abbrev pub BrokenResult : Truth → Declarations → TypeTree → Violation → Type 0
BrokenResult true d kind = BrokenType d kind (Fails (is_remote_result d kind) kind)
BrokenResult false d kind = BrokenType d kind (NoValueResult d kind)

-- the result of `main`, at its position
abbrev pub BrokenMainResult : Declarations → ℕ → TypeTree → Violation → Type 0
BrokenMainResult d main kind = BrokenType d kind (Fails (is_main_result main kind) kind)
