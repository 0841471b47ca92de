-- A law of remote calls: the table that they leave fits, and what they give is of the kind asked for.
use Rattle.std.specs.Prelude.{◌≡◌, ◌<◌, ◌≤◌, ◌⊎◌, ℕ, List, [], length, Some, None, Ok}
use Rattle.std.specs.List.{All}
use Rattle.rb_trees.specs.declared.values.Value.{Value}
use Rattle.rb_trees.specs.declared.values.Value.TheOpen.{Value-F}
use Rattle.rb_trees.specs.declared.values.Value.TheViews.{out-Value}
use Rattle.rb_trees.specs.declared.values.Fault.{Fault}
use Rattle.rb_trees.specs.declared.services.Object.{Object}
use Rattle.rb_trees.specs.mirror.Declarations.{Class}
use Rattle.rb_meaning_types.specs.Values.{IsInt, IsText, IsList}
use Rattle.rb_meaning_types.specs.Programs.{check_service}
use Rattle.rb_meaning_types.specs.Fits.{classes_of, TableFits}
use Rattle.rb_meaning_code.specs.Remote.{Server, Reply, Got, Stopped, Item, AnInt, ABool, AText, AnObject, Kind, Nothing, One, Rows, kind_of, remote_object, invoke}
use Rattle.rb_law_types.specs.Formed.{AreFormed}
use Rattle.rb_law_types.specs.Kept.{IsBounded}
use Rattle.rb_law_types.specs.Ends.{Grown}

-- a single value at the client: of a primitive kind, within its limits, or one of so many objects of the table
abbrev pub IsItemForm : ℕ → Item → Value-F Value → Type 0
IsItemForm objects AnInt (Value-F.Int number) = IsInt number
IsItemForm objects ABool (Value-F.Bool truth) = Unit {0}
IsItemForm objects AText (Value-F.Text text) = IsText text
IsItemForm objects AnObject (Value-F.Remote object) = object < objects
IsItemForm objects _ _ = ⊥

abbrev pub AreRowsForm : ℕ → Item → Value-F Value → Type 0
AreRowsForm objects item (Value-F.Rows rows) = IsList rows × All (λ v. IsItemForm objects item (out-Value v)) rows
AreRowsForm objects item _ = ⊥

abbrev pub IsNothingForm : Value-F Value → Type 0
IsNothingForm Value-F.Unit = Unit {0}
IsNothingForm _ = ⊥

-- a value at the client, of a kind
abbrev pub IsKindForm : ℕ → Kind → Value-F Value → Type 0
IsKindForm objects Nothing v = IsNothingForm v
IsKindForm objects (One item) v = IsItemForm objects item v
IsKindForm objects (Rows item) v = AreRowsForm objects item v

-- the same, of the kind of a number
abbrev pub IsOfKind : ℕ → ℕ → Value → Type 0
IsOfKind number objects v = (kind : Kind) × (kind_of number ≡ Some kind) × IsKindForm objects kind (out-Value v)

-- A fault: its code, and a text that only Thrown has.
pub record IsFault (f : Fault) : Type 0 where
  pub least : 1 ≤ f.code
  pub most : f.code ≤ 12
  pub text : IsText f.text
  pub plain : (f.code ≡ 8) ⊎ (f.text ≡ [])

-- A remote call faults at its position, and Kind only where the receiver isn't remote.
pub record IsCallFault (call : ℕ) (target : Value-F Value) (at : ℕ) (f : Fault) : Type 0 where
  pub here : at ≡ call
  pub fault : IsFault f
  pub kind : f.code ≡ 12 → remote_object target ≡ None

-- The table still fits, and its objects stay, each with its class.
pub record TableKeeps (classes : List Class) (root : ℕ) (before after : List Object) : Type 0 where
  pub fits : TableFits classes root after
  pub grown : Grown (classes_of before) (classes_of after)

-- The server gave what P says, of as many objects as its table then has, or a fault; and its table still fits.
abbrev pub ReplyKeeps : {A : Type 0} → List Class → ℕ → List Object → (ℕ → A → Type 0) → (ℕ → Fault → Type 0) → Reply A → Type 0
ReplyKeeps classes root before P IsFallen (Got a s) = P (length s.table) a × TableKeeps classes root before s.table
ReplyKeeps classes root before P IsFallen (Stopped at f s) = IsFallen at f × TableKeeps classes root before s.table

-- A remote call on typed classes and a table that fits keeps the table fitting, whatever its receiver and arguments.
abbrev pub CallsKeep : Type 0
CallsKeep = (classes : List Class) → check_service classes ≡ Ok tt → AreFormed classes
    → (root at kind : ℕ) (target : Value-F Value) (method : List ℕ) (args : List Value) (s : Server) → TableFits classes root s.table → All IsBounded args
    → ReplyKeeps classes root s.table (IsOfKind kind) (IsCallFault at target) (invoke classes at kind target method args s)
