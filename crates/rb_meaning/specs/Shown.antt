-- The text that a run prints: its lines, its ending, the number of exchanges, and the table.
use Rattle.std.specs.Prelude.{ℕ, ◌+◌, ◌==◌, List, [], ◌∷◌, ◌++◌, cond, Option, None, Some, codes}
use Rattle.std.specs.Fmt.{decimal, signed_decimal}
use Rattle.rb_trees.specs.declared.values.Value.{Value}
use Rattle.rb_trees.specs.declared.values.Value.TheOpen.{Value-F}
use Rattle.rb_trees.specs.declared.values.Value.TheFolds.{fold-Value}
use Rattle.rb_trees.specs.declared.values.Fault.{Fault}
use Rattle.rb_trees.specs.declared.outcomes.Ending as ending
use Rattle.rb_trees.specs.declared.outcomes.Ending.TheVariants as endings
use Rattle.rb_trees.specs.declared.services.Object.{Object}
use Rattle.rb_trees.specs.printing.Words.{all_escaped}
use Rattle.rb_meaning_code.specs.Faults.{fault_name}
use Rattle.rb_meaning_code.specs.Operators.{bool_text}
use Rattle.rb_meaning.specs.Place.{line_of, column_of}
use Rattle.rb_meaning.specs.State as state
use Rattle.rb_meaning.specs.State.{Event}
use Rattle.rb_meaning.specs.Meaning.{Meaning}

-- each line ends with a line feed
abbrev pub line : List ℕ → List ℕ
line bytes = bytes ++ 10 ∷ []

abbrev pub text_literal : List ℕ → List ℕ
text_literal bytes = codes "\"" ++ all_escaped bytes ++ codes "\""

-- texts with a comma and a space between them
abbrev pub more_listed : List (List ℕ) → List ℕ
more_listed [] = []
more_listed (t ∷ ts) = codes ", " ++ t ++ more_listed ts

abbrev pub listed : List (List ℕ) → List ℕ
listed [] = []
listed (t ∷ ts) = t ++ more_listed ts

abbrev pub value_step : Value-F (List ℕ) → List ℕ
value_step Value-F.Unit = []
value_step (Value-F.Int n) = signed_decimal n
value_step (Value-F.Bool b) = bool_text b
value_step (Value-F.Text text) = text_literal text
value_step (Value-F.List items) = codes "[" ++ listed items ++ codes "]"
value_step (Value-F.Ref object) = codes "#" ++ decimal object
value_step (Value-F.Remote object) = []
value_step (Value-F.Rows rows) = []

-- a value as a literal; Unit, remote objects and rows have none
abbrev pub literal : Value → List ℕ
literal = fold-Value (List ℕ) value_step

abbrev pub line_and_column : List ℕ → ℕ → List ℕ
line_and_column source at = decimal (line_of source at) ++ codes ":" ++ decimal (column_of source at)

-- a fault's code and name; Thrown shows its text
abbrev pub shown_fault : Fault → List ℕ
shown_fault f = decimal f.code ++ codes " " ++ fault_name f ++ cond (f.code == 8) (codes " " ++ text_literal f.text) []

abbrev pub shown_result : Option Value → List ℕ
shown_result None = codes "done"
shown_result (Some v) = codes "done " ++ literal v

abbrev pub shown_ending : List ℕ → ending.Ending → List ℕ
shown_ending source (endings.Done v) = shown_result v
shown_ending source (endings.Faulted f at) = codes "fault " ++ shown_fault f ++ codes " at " ++ line_and_column source at

-- the lines of a run in order
abbrev pub shown_events : List Event → List ℕ
shown_events [] = []
shown_events (state.Line bytes ∷ es) = line bytes ++ shown_events es
shown_events (state.Batch ∷ es) = shown_events es

-- the number of batches that were begun, which is that of the exchanges
abbrev pub exchanges : List Event → ℕ
exchanges [] = 0
exchanges (state.Line bytes ∷ es) = exchanges es
exchanges (state.Batch ∷ es) = exchanges es + 1

abbrev pub shown_fields : List (List ℕ × Value) → List ℕ
shown_fields [] = []
shown_fields (f ∷ fs) = f.0 ++ codes " = " ++ literal f.1 ++ codes "; " ++ shown_fields fs

abbrev pub shown_object : ℕ → Object → List ℕ
shown_object n o = codes "object " ++ decimal n ++ codes ": " ++ o.class ++ codes " { " ++ shown_fields o.fields ++ codes "}"

-- a line for each object, numbered from n
abbrev pub shown_table : ℕ → List Object → List ℕ
shown_table n [] = []
shown_table n (o ∷ os) = line (shown_object n o) ++ shown_table (n + 1) os

abbrev pub shown_exchanges : List Event → List ℕ
shown_exchanges events = codes "exchanges " ++ decimal (exchanges events)

-- what a run prints, with its table; places are those of the program's text
abbrev pub shown : List ℕ → Meaning → List ℕ
shown source m =
    shown_events m.events ++ line (shown_ending source m.ending) ++ line (shown_exchanges m.events) ++ shown_table 0 m.table
