-- Calls of methods of the own side: what is checked, in which order, and what a body begins with.
use Rattle.std.specs.Prelude.{ℕ, zero, suc, ◌+◌, List, ◌∷◌, length, nat_eq, nat_lt, Option, Result, Ok, Err, option_and_then, slice_get}
use Rattle.rb_trees.specs.Classes.{method_of_class}
use Rattle.rb_trees.specs.Outcome.{known, must, ◌>>=◌, ◌>>◌}
use Rattle.rb_trees.specs.declared.values.Value.{Value, out-Value}
use Rattle.rb_trees.specs.declared.values.Value.TheOpen.{Value-F}
use Rattle.rb_trees.specs.declared.values.Fault.{Fault}
use Rattle.rb_trees.specs.declared.services.Object.{Object}
use Rattle.rb_trees.specs.mirror.Declarations.{Body, Class, Method, Param}
use Rattle.rb_meaning_code.specs.Faults.{fuel_used, too_deep, kind, raises}
use Rattle.rb_meaning_code.specs.State.{Names, Local, this_name, spent}
use Rattle.rb_meaning_code.specs.Dialogue.{Invoke, Done, Ask, Outcome, Gave, Faulted, Run, seq, next, end}
use Rattle.rb_meaning_code.specs.Objects.{matched}

-- the greatest number of calls of one side that are active within each other
abbrev pub deepest_call : ℕ
deepest_call = 32

-- what code needs of its program or service: the classes, and how a method's body runs that is called at a position
pub record Bodies : Type 0 where
  pub classes : List Class
  pub run : ℕ → Body → Local → Run Value

-- the method of an object, by its name
abbrev pub method_of : List Class → List Object → ℕ → List ℕ → Option Method
method_of classes heap object name = option_and_then (λ o. method_of_class classes o.class name) (slice_get heap object)

-- a method of an own object, which has as many parameters as there are arguments
abbrev pub own_method : List Class → List Object → ℕ → List ℕ → ℕ → Result Method Fault
own_method classes heap object name count = known kind (method_of classes heap object name) >>= λ m.
    must (nat_eq (length m.signature.params) count) kind >> Ok m

-- the method that is called: the receiver is an own object
abbrev pub called_method : List Class → List Object → Value-F Value → List ℕ → ℕ → Result Method Fault
called_method classes heap (Value-F.Ref object) name count = own_method classes heap object name count
called_method classes heap _ name count = Err kind

-- a unit of fuel is due
abbrev pub unit_due : ℕ → Result (Unit {0}) Fault
unit_due zero = Err fuel_used
unit_due (suc n) = Ok tt

-- one call more is active
abbrev pub call_fits : ℕ → Result (Unit {0}) Fault
call_fits depth = must (nat_lt depth deepest_call) too_deep

-- the names that a body begins with: the receiver as `this`, and the parameters with the arguments
abbrev pub names_within : Value → List Param → List Value → Names
names_within receiver params args = (this_name, receiver) ∷ matched params args

abbrev pub entered : Names → Local → Local
entered names l = record l { names = names; depth = l.depth + 1 }

-- back in the caller, whatever the body ended by: with its names and its depth
abbrev pub left : {A : Type 0} → Local → Outcome A → Run A
left l (Gave a l1) = Done (Gave a (record l1 { names = l.names; depth = l.depth }))
left l (Faulted r l1) = Done (Faulted r (record l1 { names = l.names; depth = l.depth }))

-- A call of an own method: the method, then a unit of fuel, then the depth, then the body.
abbrev pub call : Bodies → ℕ → Value → List ℕ → List Value → Local → Run Value
call bodies at receiver name args l =
    next (end l (raises at (called_method bodies.classes l.heap (out-Value receiver) name (length args)))) (λ m l1.
    next (end l1 (raises at (unit_due l1.fuel))) (λ u l2.
    next (end (spent l2) (raises at (call_fits l2.depth))) (λ w l3.
    seq (bodies.run at m.body (entered (names_within receiver m.signature.params args) l3)) (left l3))))

-- A call on a value: the surroundings perform it where the value is remote.
abbrev pub called : Bodies → ℕ → Value → Value-F Value → List ℕ → List Value → Local → Run Value
called bodies at receiver (Value-F.Remote object) name args l = Ask (Invoke at receiver name args) (end l)
called bodies at receiver _ name args l = call bodies at receiver name args l
