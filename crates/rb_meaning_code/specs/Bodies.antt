-- How the bodies of methods run, within so much gas; and the surroundings of a service's code.
use Rattle.std.specs.Prelude.{ℕ, zero, suc, List, Option, None, Some, Result, Ok, Err}
use Rattle.rb_trees.specs.declared.values.Value.{Value}
use Rattle.rb_trees.specs.declared.values.Value.TheVariants as value
use Rattle.rb_trees.specs.declared.outcomes.Raised.{Raised}
use Rattle.rb_trees.specs.mirror.Code.{Expr}
use Rattle.rb_trees.specs.mirror.Declarations.{Body, Class}
use Rattle.rb_meaning_code.specs.Faults.{fuel_used, kind, raised}
use Rattle.rb_meaning_code.specs.State.{Local}
use Rattle.rb_meaning_code.specs.Dialogue as ask
use Rattle.rb_meaning_code.specs.Dialogue.{Question, Done, Faulted, Run, Handler, next, gives}
use Rattle.rb_meaning_code.specs.Calls.{Bodies}
use Rattle.rb_meaning_code.specs.Expressions.{evaluates}
use Rattle.rb_meaning_code.specs.Statements.{performs_all}

-- the value of a `return`, which is Unit where there is none
abbrev pub returns : Bodies → Option Expr → Local → Run Value
returns bodies None l = gives value.Unit l
returns bodies (Some e) l = evaluates bodies e l

-- a body: its statements, then its value
abbrev pub runs : Bodies → ℕ → Body → Local → Run Value
runs bodies gas body l = next (performs_all bodies gas body.statements l) (λ u l1. returns bodies body.result l1)

-- A body within so much gas, called at a position, where it faults if no gas is left.
-- A call takes a unit of fuel, so that the bodies within it have less gas, and enough.
abbrev pub body_within : List Class → ℕ → ℕ → Body → Local → Run Value
body_within classes zero at body l = Done (Faulted (raised fuel_used at) l)
body_within classes (suc gas) at body l = runs (record { classes = classes; run = body_within classes gas }) gas body l

-- the bodies of a program's or service's methods, within so much gas
abbrev pub bodies_of : List Class → ℕ → Bodies
bodies_of classes gas = record { classes = classes; run = body_within classes gas }

-- What the surroundings of a service's code answer: a turn over a list goes on, and all else faults Kind.
abbrev pub unasked : Question → Result Value Raised
unasked (ask.Line at bytes) = Err (raised kind at)
unasked (ask.Taken step) = Err (raised kind 0)
unasked (ask.Invoke at target method args) = Err (raised kind at)
unasked (ask.Turn at) = Err (raised kind at)
unasked (ask.ListTurn at) = Ok value.Unit

-- the surroundings of a service's code; no batch stands in it
abbrev pub in_service : Handler (Unit {0})
in_service = record { answer = λ s question. (unasked question, s); batch = λ s at l. (Faulted (raised kind at) l, s) }
