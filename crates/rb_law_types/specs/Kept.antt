-- Values and faults as typed code keeps them: within their limits, and no fault Kind.
use Rattle.std.specs.Prelude.{◌≡◌, ◌≤◌, ◌⊎◌, [], Bool, true, false, Result, Ok, Err}
use Rattle.rb_trees.specs.declared.values.Value.{Value}
use Rattle.rb_trees.specs.declared.values.Value.TheOpen.{Value-F}
use Rattle.rb_trees.specs.declared.values.Value.TheViews.{out-Value}
use Rattle.rb_trees.specs.declared.values.Fault.{Fault}
use Rattle.rb_trees.specs.declared.outcomes.Raised.{Raised}
use Rattle.rb_meaning_types.specs.Values.{IsInt, IsText}
use Rattle.rb_meaning_types.specs.Declared.{Declarations}

-- a primitive value within its limits
abbrev pub IsPrimitiveForm : Value-F Value → Type 0
IsPrimitiveForm (Value-F.Int number) = IsInt number
IsPrimitiveForm (Value-F.Bool truth) = Unit {0}
IsPrimitiveForm (Value-F.Text text) = IsText text
IsPrimitiveForm _ = ⊥

abbrev pub IsPrimitive : Value → Type 0
IsPrimitive value = IsPrimitiveForm (out-Value value)

-- A value whose number or text is within its limits, if it is one.
abbrev pub IsBoundedForm : Value-F Value → Type 0
IsBoundedForm (Value-F.Int number) = IsInt number
IsBoundedForm (Value-F.Text text) = IsText text
IsBoundedForm _ = Unit {0}

abbrev pub IsBounded : Value → Type 0
IsBounded v = IsBoundedForm (out-Value v)

-- A fault that a rule of typed code gives: it isn't Kind, its text is one, and only Thrown has a text.
pub record IsRuleFault (f : Fault) : Type 0 where
  pub least : 1 ≤ f.code
  pub most : f.code ≤ 11
  pub text : IsText f.text
  pub plain : (f.code ≡ 8) ⊎ (f.text ≡ [])

-- A fault that typed code ends by: such a one, or that the lists of a batch are too large.
pub record IsOwnFault (f : Fault) : Type 0 where
  pub least : 1 ≤ f.code
  pub most : f.code ≤ 13
  pub not_kind : f.code ≡ 12 → ⊥
  pub text : IsText f.text
  pub plain : (f.code ≡ 8) ⊎ (f.text ≡ [])

-- No batch stands in a service, so its code ends by a rule's fault.
abbrev pub IsFaultOf : Bool → Fault → Type 0
IsFaultOf true f = IsRuleFault f
IsFaultOf false f = IsOwnFault f

abbrev pub FaultFits : Declarations → Raised → Type 0
FaultFits d r = IsFaultOf d.service r.fault

-- what is given is such a value, or a rule's fault
abbrev pub Fair : {A : Type 0} → (A → Type 0) → Result A Fault → Type 0
Fair P (Ok a) = P a
Fair P (Err f) = IsRuleFault f
