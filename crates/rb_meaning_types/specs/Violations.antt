-- What a check gives: a value, or the first violation.
use Rattle.std.specs.Prelude.{ℕ, Option, Some, None, Result, Ok, Err}
use Rattle.rb_trees.specs.declared.typing.TypeError.{TypeError}
use Rattle.rb_trees.specs.declared.typing.TypeError.TheVariants as error
use Rattle.rb_trees.specs.Outcome.{must}
use Rattle.rb_meaning_types.specs.Kinds.{Kind, kind_of_form, same_kind}

-- A violation at its position. A wrong type is told with the type that was found.
pub data Violation : Type 0 where
  UnknownName : (at : ℕ) → Violation
  NameTaken : (at : ℕ) → Violation
  WrongType : (at : ℕ) (found : Kind) → Violation
  WrongCount : (at : ℕ) → Violation
  NotAssignable : (at : ℕ) → Violation
  MissingReturn : (at : ℕ) → Violation
  TypeNotHere : (at : ℕ) → Violation
  NotAllowedHere : (at : ℕ) → Violation

abbrev pub Checked : Type 0 → Type 0
Checked A = Result A Violation

-- an expression's type, with the expression's position
pub record Placed : Type 0 where
  pub at : ℕ
  pub kind : Kind

abbrev pub with_place : ℕ → Checked Kind → Checked Placed
with_place at (Ok kind) = Ok (record { at = at; kind = kind })
with_place at (Err violation) = Err violation

-- the violation of an expression whose type isn't wanted where it stands
abbrev pub wrong_type : Placed → Violation
wrong_type p = WrongType p.at p.kind

-- an expression that has to have one type
abbrev pub wanted : Kind → Placed → Checked (Unit {0})
wanted kind p = must (same_kind kind p.kind) (wrong_type p)

-- The violation that an error of the checker tells. A wrong type's own positions count for nothing.
abbrev pub violation_of : TypeError → Option Violation
violation_of (error.UnknownName at) = Some (UnknownName at)
violation_of (error.NameTaken at) = Some (NameTaken at)
violation_of (error.WrongType at found) = Some (WrongType at (kind_of_form found))
violation_of (error.WrongCount at) = Some (WrongCount at)
violation_of (error.NotAssignable at) = Some (NotAssignable at)
violation_of (error.MissingReturn at) = Some (MissingReturn at)
violation_of (error.TypeNotHere at) = Some (TypeNotHere at)
violation_of (error.NotAllowedHere at) = Some (NotAllowedHere at)
violation_of error.Memory = None
