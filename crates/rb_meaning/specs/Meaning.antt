-- The meaning of a program on a service: how it ends, what it shows, and the tables that its batches find and leave. Others may
-- change the table before each batch.
use Rattle.std.specs.Prelude.{ℕ, Bool, true, false, List, [], ◌∷◌, ◌++◌, drop, map, Option, None, Some, Result, Ok, Err}
use Rattle.rb_trees.specs.declared.values.Value.{Value}
use Rattle.rb_trees.specs.declared.values.Value.TheVariants as value
use Rattle.rb_trees.specs.declared.outcomes.Raised.{Raised}
use Rattle.rb_trees.specs.declared.outcomes.Ending as ending
use Rattle.rb_trees.specs.declared.outcomes.Ending.TheVariants as endings
use Rattle.rb_trees.specs.declared.services.Object.{Object}
use Rattle.rb_trees.specs.mirror.Code.{Expr}
use Rattle.rb_trees.specs.mirror.Declarations.{Body, Class, Program}
use Rattle.rb_trees.specs.mirror.Services.{Service}
use Rattle.rb_meaning_code.specs.Faults.{kind, input_too_large, raised}
use Rattle.rb_meaning_code.specs.State.{Local}
use Rattle.rb_meaning_code.specs.Dialogue as ask
use Rattle.rb_meaning_code.specs.Dialogue.{Question, Outcome, Gave, Faulted, Run, next, gives, Handler, handle}
use Rattle.rb_meaning_code.specs.Calls.{Bodies}
use Rattle.rb_meaning_code.specs.Expressions.{evaluates}
use Rattle.rb_meaning_code.specs.Statements.{performs_all}
use Rattle.rb_meaning_code.specs.Bodies.{bodies_of}
use Rattle.rb_meaning.specs.Others.{Others, becomes, found_table}
use Rattle.rb_meaning.specs.State as state
use Rattle.rb_meaning.specs.State.{Event, Outside, shows}
use Rattle.rb_meaning_flow.specs.Outermost.{Outermost}
use Rattle.rb_meaning.specs.ConstantLists.{takes_too_many}
use Rattle.rb_meaning.specs.Unsplit.{batch_at, performs_batch}

-- how a program ends, what it shows, the tables that its batches found and left, and the table at its end
pub record Meaning : Type 0 where
  pub ending : ending.Ending
  pub events : List Event
  pub found : List (List Object)
  pub left : List (List Object)
  pub table : List Object

-- What is around `main`: what is around all code, what others will do before each of the coming batches, and the tables that the
-- batches so far found and left.
pub record Around : Type 0 where
  pub outside : Outside
  pub others : List Others
  pub found : List (List Object)
  pub left : List (List Object)

-- what code outside of a batch is answered: nothing is remote there
abbrev pub local_answer : Question → Result Value Raised
local_answer (ask.Line at bytes) = Ok value.Unit
local_answer (ask.Taken step) = Err (raised kind 0)
local_answer (ask.Invoke at target method args) = Err (raised kind at)
local_answer (ask.Turn at) = Err (raised kind at)
local_answer (ask.ListTurn at) = Ok value.Unit

-- what a question shows: a line is printed
abbrev pub shown_by : Question → Outside → Outside
shown_by (ask.Line at bytes) s = shows (state.Line bytes) s
shown_by _ s = s

abbrev pub answers_around : Around → Question → Result Value Raised × Around
answers_around a question = (local_answer question, record a { outside = shown_by question a.outside })

-- what is around the next batch: the server's table is the one that the batch finds
abbrev pub at_batch : Around → Outside
at_batch a =
    let table = found_table a.others a.outside.server.table in
    record { events = a.outside.events; server = record { table = table; fuel = a.outside.server.fuel } }

-- behind a batch: the tables that it found and left are noted
abbrev pub behind_batch : Around → Outcome (Unit {0}) × Outside → Outcome (Unit {0}) × Around
behind_batch a (o, s) = (
  o,
  record {
    outside = s;
    others = drop 1 a.others;
    found = a.found ++ (at_batch a).server.table ∷ [];
    left = a.left ++ s.server.table ∷ [];
  },
)

-- a batch that would take too many items along ends by a fault of its own side before it begins
abbrev pub begins_or_faults : Bool → Program → Service → Outermost → Local → Around → Outcome (Unit {0}) × Around
begins_or_faults true program service b l a = (Faulted (raised input_too_large b.at) l, a)
begins_or_faults false program service b l a = behind_batch a (performs_batch program service b l (at_batch a))

-- a batch that was found, as one is wherever a program asks for a batch
abbrev pub performs_found : Program → Service → Option Outermost → ℕ → Local → Around → Outcome (Unit {0}) × Around
performs_found program service None at l a = (Faulted (raised kind at) l, a)
performs_found program service (Some b) at l a = begins_or_faults (takes_too_many program b l.names) program service b l a

abbrev pub in_main : Program → Service → Handler Around
in_main program service = record {
  answer = answers_around;
  batch = λ a at l. performs_found program service (batch_at program at) at l a;
}

-- the value of `main`, if it has one
abbrev pub gives_some : Value → Local → Run (Option Value)
gives_some v l = gives (Some v) l

abbrev pub main_result : Bodies → Option Expr → Local → Run (Option Value)
main_result bodies None l = gives None l
main_result bodies (Some e) l = next (evaluates bodies e l) gives_some

abbrev pub runs_main : List Class → ℕ → Body → Local → Run (Option Value)
runs_main classes gas body l =
    next (performs_all (bodies_of classes gas) gas body.statements l) (λ u l1. main_result (bodies_of classes gas) body.result l1)

abbrev pub ending_of : Outcome (Option Value) → ending.Ending
ending_of (Gave v l) = endings.Done v
ending_of (Faulted r l) = endings.Faulted r.fault r.at

-- `main` begins with an empty heap, no names, depth 0 and the given fuel
abbrev pub at_start : ℕ → Local
at_start fuel = record { names = []; heap = []; fuel = fuel; depth = 0 }

abbrev pub outside_of : List Object → Outside
outside_of table = record { events = []; server = record { table = table; fuel = 0 } }

abbrev pub around_of : List Object → List Others → Around
around_of table others = record { outside = outside_of table; others = others; found = []; left = [] }

abbrev pub meant : Outcome (Option Value) × Around → Meaning
meant r = record { ending = ending_of r.0; events = r.1.outside.events; found = r.1.found; left = r.1.left; table = r.1.outside.server.table }

-- the meaning where others do this to the table before the batches
abbrev pub meaning_with : Program → Service → List Object → List Others → ℕ → Meaning
meaning_with program service table others fuel =
    meant (handle (in_main program service) (runs_main program.classes fuel program.body (at_start fuel)) (around_of table others))

-- where the batches find these tables
abbrev pub meaning_on : Program → Service → List Object → List (List Object) → ℕ → Meaning
meaning_on program service table finds fuel = meaning_with program service table (map becomes finds) fuel

-- where nobody else changes the table
abbrev pub meaning : Program → Service → List Object → ℕ → Meaning
meaning program service table fuel = meaning_with program service table [] fuel
