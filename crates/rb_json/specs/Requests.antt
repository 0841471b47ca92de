-- The form of requests in JSON.
use Rattle.std.specs.Prelude.{ℕ, ◌+◌, List, Bool, false, cond, ◌==◌, codes, length, Option, None, Some, Result, Ok, Err}
use Rattle.std.specs.Str.{is_utf8}
use Rattle.rb_trees.specs.Outcome.{◌>>=◌, known, refused_as}
use Rattle.rb_trees.specs.declared.values.Value.{Value}
use Rattle.rb_trees.specs.declared.versions.Version.TheVariants.{Two}
use Rattle.rb_trees.specs.mirror.Scripts.{Steps, Script}
use Rattle.rb_meaning_bytes.specs.formats.Items.{list_numbers}
use Rattle.rb_meaning_bytes.specs.formats.Messages.{Sent}
use Rattle.serde_json.specs.Data.{Data, null, boolean, number, string, array, object}
use Rattle.serde_json.specs.Find.{get}
use Rattle.serde_json.specs.Read.{read}
use Rattle.rb_json.specs.declared.stops.JsonRefusal.{JsonRefusal}
use Rattle.rb_json.specs.declared.stops.JsonRefusal.TheVariants.{NotJson, WrongForm}
use Rattle.rb_json.specs.Counts.{count, members_number}
use Rattle.rb_json.specs.Values.{Read, inputs_at}
use Rattle.rb_json.specs.Steps.{steps_at}

-- The script of these steps, whose inputs have these values, as version 2 sends it.
abbrev pub sent_of : List Value → Steps → Sent
sent_of values steps = record {
  version = Two;
  script = record { inputs = length values; lists = list_numbers 0 values; body = steps };
  values = values;
}

-- an object of just two members
abbrev pub is_pair : Data → Bool
is_pair (object ms) = members_number ms == 2
is_pair _ = false

-- both values, where both are there
abbrev pub both_of : Option Data → Option Data → Option (Data × Data)
both_of (Some a) (Some b) = Some (a, b)
both_of _ _ = None

-- what stands at the keys `inputs` and `steps` of an object with just these keys
abbrev pub members : Data → Option (Data × Data)
members d = cond (is_pair d) (both_of (get (codes "inputs") d) (get (codes "steps") d)) None

-- an object with just the keys `inputs` and `steps`, whose values stand in this order
abbrev pub request_at : ℕ → Data → Read Sent
request_at p d =
    known p (members d) >>= λ m. inputs_at (p + 1) m.0 >>= λ values. steps_at (p + 1 + count m.0) m.1 >>= λ steps.
    Ok (sent_of values steps)

-- what a JSON value means as a request: its own number is 0
unfoldable pub request_of : Data → Read Sent
request_of d = request_at 0 d

-- the reading of bytes: that of their text, of at most 127 levels
abbrev pub reading : List ℕ → Option Data
reading bytes = cond (is_utf8 bytes) (read bytes) None

-- the reading, or that there is none
unfoldable pub json_of : List ℕ → Result Data JsonRefusal
json_of bytes = known NotJson (reading bytes)

-- what bytes mean as a request
unfoldable pub request_in : List ℕ → Result Sent JsonRefusal
request_in bytes = json_of bytes >>= λ d. refused_as WrongForm (request_of d)
