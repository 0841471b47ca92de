-- What the request of a batch is.
use Rattle.std.specs.Prelude.{◌≤◌, ℕ, suc, List, [], ◌∷◌, length}
use Rattle.rb_meaning_split.specs.Division.{mirror_split}
use Rattle.rb_trees.specs.Validity.{has}
use Rattle.rb_trees.specs.declared.remainders.Split.{Split}
use Rattle.rb_trees.specs.declared.values.Value.{Value, out-Value}
use Rattle.rb_meaning_bytes.specs.formats.FormedScripts.{input_form}
use Rattle.rb_meaning_bytes.specs.formats.Messages.{Sent}
use Rattle.rb_meaning_bytes.specs.formats.Payloads.{IsRequestOf}
use Rattle.rb_meaning_code.specs.State.{Names}
use Rattle.rb_meaning.specs.Answers.{longest_request}
use Rattle.rb_meaning_split.specs.Client.{input_values, sent_version}

-- a batch's script and the values of its inputs, as they are sent
abbrev pub to_send : Split → Names → Sent
to_send split names = record { version = sent_version; script = (mirror_split split).script; values = input_values split.inputs names }

-- The bytes are the request of that, and short enough.
pub record IsRequest (split : Split) (names : Names) (bytes : List ℕ) : Type 0 where
  pub spells : IsRequestOf sent_version bytes (mirror_split split).script (input_values split.inputs names)
  pub short : length bytes ≤ longest_request

-- Values for the inputs from a number on, where the inputs of these numbers are lists.
abbrev pub AreFor : ℕ → List ℕ → List Value → Type 0
AreFor number lists [] = Unit {0}
AreFor number lists (v ∷ vs) = input_form (has number lists) (out-Value v) × AreFor (suc number) lists vs
