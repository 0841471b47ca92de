-- How the checker's answers stand to the rules.
use Rattle.std.specs.Prelude.{List, Result}
use Rattle.std.specs.Borrow.{Bor}
use Rattle.rb_trees.specs.declared.declarations.Class as class
use Rattle.rb_trees.specs.mirror.Declarations.{Class, mirror_class}
use Rattle.rb_trees.specs.declared.typing.TypeError.{TypeError}
use Rattle.rb_trees.specs.declared.code.TypeForm.{TypeForm}
use Rattle.rb_trees.specs.Outcome.{Gives}
use Rattle.rb_meaning_types.specs.Kinds.{Kind, kind_of_form}
use Rattle.rb_meaning_types.specs.Violations.{Checked, violation_of}
use Rattle.rb_meaning_types.specs.Scopes.{Scope}
use Rattle.rb_meaning_types.specs.Notes.{Note}
use Rattle.rb_types.specs.declared.scope.Variable.{Variable}
use Rattle.rb_types.specs.declared.checker.Checker.{Checker}
use Rattle.rb_types.specs.Steps.{State}
use Rattle.rb_types.specs.Views.{scope_of, notes_of}

-- A check that gives nothing: Ok exactly where the rule holds, else its first violation.
abbrev pub Passes : Result (Unit {0}) TypeError → Checked (Unit {0}) → Type 0
Passes result rule = Gives (λ u. u) violation_of result rule

-- A check that gives a type: that of the rule, or its first violation.
abbrev pub Types : Result TypeForm TypeError → Checked Kind → Type 0
Types result rule = Gives kind_of_form violation_of result rule

-- A check that gives a class: that of the rule, or its first violation.
abbrev pub Classes : Result (Bor class.Class) TypeError → Checked Class → Type 0
Classes result rule = Gives (λ c. mirror_class c.now) violation_of result rule

-- A check that leaves the scope as it is: Ok exactly where the rule does so, too, else its first violation.
abbrev pub Leaves : (Scope → Checked Scope) → List Variable → Result (Unit {0}) TypeError → Type 0
Leaves rule scope result = Gives (λ (u : Unit {0}). scope_of scope) violation_of result (rule (scope_of scope))

-- what the checker keeps
abbrev pub state_of : Checker → State
state_of c = record { scope = scope_of c.scope; notes = notes_of c.notes }

-- The answer and the state behind it are what the rule makes of the state before.
abbrev pub Checks : (State → Checked State) → Checker → Result (Unit {0}) TypeError → Checker → Type 0
Checks rule old result new = Gives (λ (u : Unit {0}). state_of new) violation_of result (rule (state_of old))

-- The same of a rule that finds something, too: what is answered is that, seen by view.
abbrev pub Finds : {X Y : Type 0} → (X → Y) → (State → Checked (Y × State)) → Checker → Result X TypeError → Checker → Type 0
Finds view rule old result new = Gives (λ x. (view x, state_of new)) violation_of result (rule (state_of old))

-- The answer and the notes behind it are what the rule makes of the notes before; the scope counts for nothing.
abbrev pub Notes : (List Note → Checked (List Note)) → Checker → Result (Unit {0}) TypeError → Checker → Type 0
Notes rule old result new = Gives (λ (u : Unit {0}). notes_of new.notes) violation_of result (rule (notes_of old.notes))
