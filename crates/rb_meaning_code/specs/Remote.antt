-- A remote call on a service: the checks in their order, the call as the service's own code makes it, and its result at
-- the client.
use Rattle.std.specs.Prelude.{ℕ, List, [], ◌∷◌, cond, Option, None, Some, option_and_then, option_map, Result, Ok, Err, slice_get}
use Rattle.std.specs.Str.{bytes_eq}
use Rattle.rb_trees.specs.Outcome.{known, ◌>>=◌}
use Rattle.rb_trees.specs.declared.values.Value.{Value, out-Value}
use Rattle.rb_trees.specs.declared.values.Value.TheOpen.{Value-F}
use Rattle.rb_trees.specs.declared.values.Value.TheVariants as value
use Rattle.rb_trees.specs.declared.values.Fault.{Fault}
use Rattle.rb_trees.specs.declared.services.Object.{Object}
use Rattle.rb_trees.specs.mirror.Types as types
use Rattle.rb_trees.specs.mirror.Types.{TypeTree}
use Rattle.rb_trees.specs.mirror.Declarations.{Param, Class}
use Rattle.rb_meaning_code.specs.Faults as faults
use Rattle.rb_meaning_code.specs.Faults.{no_method, bad_arguments, wrong_kind}
use Rattle.rb_meaning_code.specs.State.{Local}
use Rattle.rb_meaning_code.specs.Dialogue.{Outcome, Gave, Faulted, handle}
use Rattle.rb_meaning_code.specs.Calls.{method_of, call}
use Rattle.rb_meaning_code.specs.Bodies.{bodies_of, in_service}

-- the service while a script runs: its table of objects, and the units of fuel that are left
pub record Server : Type 0 where
  pub table : List Object
  pub fuel : ℕ

-- the units of fuel of a batch, which are fresh at its start
unfoldable pub batch_fuel : ℕ
batch_fuel = 1000000

-- what the server does: a value, or a fault at a position, with the server after it
pub data Reply (A : Type 0) : Type 0 where
  Got : A → Server → Reply A
  Stopped : (at : ℕ) → Fault → Server → Reply A

-- one after the other, until a fault
abbrev pub and_then : {A B : Type 0} → Reply A → (A → Server → Reply B) → Reply B
and_then (Got a s) k = k a s
and_then (Stopped at f s) k = Stopped at f s

-- a value, or a fault at a position; the server stays as it is
abbrev pub replies : {A : Type 0} → ℕ → Result A Fault → Server → Reply A
replies at (Ok a) s = Got a s
replies at (Err f) s = Stopped at f s

-- the rows of a value of the client, which a loop over rows goes over
abbrev pub rows_in : Value-F Value → Result (List Value) Fault
rows_in (Value-F.Rows rows) = Ok rows
rows_in _ = Err faults.kind

-- what a single value is
pub data Item : Type 0 where
  AnInt : Item
  ABool : Item
  AText : Item
  AnObject : Item

-- what a value is at the client: nothing, a single value, or rows of such
pub data Kind : Type 0 where
  Nothing : Kind
  One : Item → Kind
  Rows : Item → Kind

-- the kinds by their numbers, from 0
abbrev pub kinds : List Kind
kinds = Nothing ∷ One AnInt ∷ One ABool ∷ One AText ∷ One AnObject ∷ Rows AnInt ∷ Rows ABool ∷ Rows AText ∷ Rows AnObject ∷ []

abbrev pub kind_of : ℕ → Option Kind
kind_of number = slice_get kinds number

-- A single value of the service as the client sees it, where it is what it has to be. Primitive values are the same on
-- both sides; an object of the service is a remote one.
abbrev pub seen_item : Item → Value-F Value → Option Value
seen_item AnInt (Value-F.Int n) = Some (value.Int n)
seen_item ABool (Value-F.Bool b) = Some (value.Bool b)
seen_item AText (Value-F.Text text) = Some (value.Text text)
seen_item AnObject (Value-F.Ref object) = Some (value.Remote object)
seen_item item _ = None

-- the same of each of a list's values
abbrev pub seen_items : Item → List Value → Option (List Value)
seen_items item [] = Some []
seen_items item (v ∷ vs) = option_and_then (λ w. option_map (λ ws. w ∷ ws) (seen_items item vs)) (seen_item item (out-Value v))

-- a list of the service, which is rows at the client
abbrev pub seen_rows : Item → Value-F Value → Option Value
seen_rows item (Value-F.List items) = option_map value.Rows (seen_items item items)
seen_rows item _ = None

abbrev pub seen_nothing : Value-F Value → Option Value
seen_nothing Value-F.Unit = Some value.Unit
seen_nothing _ = None

-- a value of the service as the client sees it, where it is of the kind
abbrev pub seen : Kind → Value-F Value → Option Value
seen Nothing v = seen_nothing v
seen (One item) v = seen_item item v
seen (Rows item) v = seen_rows item v

-- the same by the number of the kind; nothing is of a number that no kind has
abbrev pub seen_as : ℕ → Value-F Value → Option Value
seen_as number v = option_and_then (λ kind. seen kind v) (kind_of number)

-- an object of the table, where it is one of the class
abbrev pub object_of_class : List Object → List ℕ → ℕ → Option Value
object_of_class table class object =
    option_and_then (λ o. cond (bytes_eq o.class class) (Some (value.Ref object)) None) (slice_get table object)

-- a remote object as an object of the service, where it is one of the class
abbrev pub taken_object : List Object → List ℕ → Value-F Value → Option Value
taken_object table class (Value-F.Remote object) = object_of_class table class object
taken_object table class _ = None

-- An argument of the client as the service sees it, where it is of the parameter's type. No argument is of another type
-- than these.
abbrev pub taken_as : List Object → TypeTree → Value-F Value → Option Value
taken_as table (types.Int at) v = seen_item AnInt v
taken_as table (types.Bool at) v = seen_item ABool v
taken_as table (types.Text at) v = seen_item AText v
taken_as table (types.Named at class) v = taken_object table class v
taken_as table _ v = None

-- the same of all arguments, of which there are as many as parameters
abbrev pub taken_all : List Object → List Param → List Value → Option (List Value)
taken_all table [] [] = Some []
taken_all table (p ∷ ps) (v ∷ vs) = option_and_then (λ w. option_map (λ ws. w ∷ ws) (taken_all table ps vs)) (taken_as table p.kind (out-Value v))
taken_all table _ _ = None

-- the number of a remote object
abbrev pub remote_object : Value-F Value → Option ℕ
remote_object (Value-F.Remote object) = Some object
remote_object _ = None

-- What is checked before a call, in this order: the receiver is remote, the object is there and its class has the method,
-- the arguments fit. It gives the object, and the arguments as the service sees them.
abbrev pub checked : List Class → List Object → Value-F Value → List ℕ → List Value → Result (ℕ × List Value) Fault
checked classes table target method args =
    known faults.kind (remote_object target) >>= λ object.
    known no_method (method_of classes table object method) >>= λ m.
    known bad_arguments (taken_all table m.signature.params args) >>= λ values. Ok (object, values)

-- the local state that a call begins with: no call is active
abbrev pub begun : Server → Local
begun s = record { names = []; heap = s.table; fuel = s.fuel; depth = 0 }

-- the server that a local state leaves
abbrev pub server_of : Local → Server
server_of l = record { table = l.heap; fuel = l.fuel }

-- The call as the service's own code makes it: a unit of fuel, the depth, the body. The gas is the fuel, and enough.
abbrev pub served : List Class → ℕ → ℕ → List ℕ → List Value → Server → Outcome Value
served classes at object method values s =
    (handle in_service (call (bodies_of classes s.fuel) at (value.Ref object) method values (begun s)) tt).0

-- How it ended, at the client: its value has to be of the kind, and each fault within it stands at the call. What the body
-- did stays done.
abbrev pub returned : ℕ → ℕ → Outcome Value → Reply Value
returned at kind (Gave v l) = replies at (known wrong_kind (seen_as kind (out-Value v))) (server_of l)
returned at kind (Faulted r l) = Stopped at r.fault (server_of l)

-- a remote call at a position, whose result has to be of a kind: the checks, the call, the result's kind
abbrev pub invoke : List Class → ℕ → ℕ → Value-F Value → List ℕ → List Value → Server → Reply Value
invoke classes at kind target method args s =
    and_then (replies at (checked classes s.table target method args) s) (λ c s1. returned at kind (served classes at c.0 method c.1 s1))
