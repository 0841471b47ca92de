-- Laws of operators on values that fit: each gives a value that fits, or a fault that typed code gives by itself.
use Rattle.std.specs.Prelude.{◌≡◌, ℕ, List, Bool, Option, Some, None, Ok}
use Rattle.std.specs.List.{All}
use Rattle.rb_trees.specs.declared.values.Value.{Value}
use Rattle.rb_trees.specs.declared.values.Value.TheViews.{out-Value}
use Rattle.rb_trees.specs.declared.values.Fault.{Fault}
use Rattle.rb_trees.specs.declared.code.UnOp.{UnOp}
use Rattle.rb_trees.specs.declared.code.BinOp.{BinOp}
use Rattle.rb_trees.specs.mirror.Declarations.{Interface}
use Rattle.rb_meaning_types.specs.Kinds as kind
use Rattle.rb_meaning_types.specs.Kinds.{Kind}
use Rattle.rb_meaning_types.specs.Values.{IsText}
use Rattle.rb_meaning_types.specs.Violations.{Placed}
use Rattle.rb_meaning_types.specs.Operators.{unary_kind, binary_kind, index_kind}
use Rattle.rb_meaning_types.specs.Fits.{Fits}
use Rattle.rb_meaning_code.specs.Faults.{caught_text}
use Rattle.rb_meaning_code.specs.Operators.{on_one, on_two, by_left}
use Rattle.rb_meaning_code.specs.Expressions.{indexed, list_of}
use Rattle.rb_meaning_code.specs.Statements.{truth_of}
use Rattle.rb_law_types.specs.Kept.{Fair}

-- what the left operand decides, where it does
abbrev pub IfDecided : (Value → Type 0) → Option Value → Type 0
IfDecided P None = Unit {0}
IfDecided P (Some v) = P v

abbrev pub OneKeeps : Type 0
OneKeeps = (interfaces : List Interface) (classes : List (List ℕ)) (op : UnOp) (p : Placed) (kind : Kind) (v : Value) → unary_kind op p ≡ Ok kind
    → Fits interfaces classes p.kind v → Fair (Fits interfaces classes kind) (on_one op (out-Value v))

abbrev pub TwoKeep : Type 0
TwoKeep = (interfaces : List Interface) (classes : List (List ℕ)) (op : BinOp) (p q : Placed) (kind : Kind) (v w : Value) → binary_kind op p q ≡ Ok kind
    → Fits interfaces classes p.kind v → Fits interfaces classes q.kind w → Fair (Fits interfaces classes kind) (on_two op (out-Value v) (out-Value w))

-- What the left operand of `&&` or `||` decides is a truth value, too.
abbrev pub LeftKeeps : Type 0
LeftKeeps = (interfaces : List Interface) (classes : List (List ℕ)) (op : BinOp) (p q : Placed) (kind : Kind) (v : Value) → binary_kind op p q ≡ Ok kind
    → Fits interfaces classes p.kind v → Fair (IfDecided (Fits interfaces classes kind)) (by_left op (out-Value v))

abbrev pub IndexKeeps : Type 0
IndexKeeps = (interfaces : List Interface) (classes : List (List ℕ)) (p q : Placed) (kind : Kind) (v w : Value) → index_kind p q ≡ Ok kind
    → Fits interfaces classes p.kind v → Fits interfaces classes q.kind w → Fair (Fits interfaces classes kind) (indexed (out-Value v) (out-Value w))

abbrev pub ListsKeep : Type 0
ListsKeep = (interfaces : List Interface) (classes : List (List ℕ)) (item : Kind) (vs : List Value) → All (Fits interfaces classes item) vs
    → Fair (Fits interfaces classes (kind.ListOf item)) (list_of vs)

-- A condition has a truth.
abbrev pub ConditionsHold : Type 0
ConditionsHold = (interfaces : List Interface) (classes : List (List ℕ)) (v : Value) → Fits interfaces classes kind.Bool v
    → Fair (λ (b : Bool). Unit {0}) (truth_of (out-Value v))

-- What a `catch` binds is a text.
abbrev pub CaughtIsText : Type 0
CaughtIsText = (f : Fault) → IsText f.text → IsText (caught_text f)
