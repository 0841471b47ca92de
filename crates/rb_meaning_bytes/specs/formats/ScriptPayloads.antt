-- What a payload that should be a script comes to: the script that it spells, or why it is refused.
use Rattle.std.specs.Prelude.{◌≡◌, ◌<◌, ◌^◌, ℕ, List, length, get_or, nat_eq, cond, Result, Ok, Err}
use Rattle.rb_trees.specs.declared.validity.ScriptRefusal.{ScriptRefusal}
use Rattle.rb_trees.specs.declared.validity.ScriptRefusal.TheVariants.{UnknownVariable, UnknownInput, StepRepeated, TooDeep, WrongInput}
use Rattle.rb_trees.specs.mirror.Scripts.{Script}
use Rattle.rb_trees.specs.Validity.{verdict}
use Rattle.rb_trees.specs.declared.versions.Version.{Version}
use Rattle.rb_trees.specs.declared.versions.Version.TheVariants.{One, Two}
use Rattle.rb_meaning_bytes.specs.formats.Messages.{Sent, Refused}
use Rattle.rb_meaning_bytes.specs.formats.Formats.{Spells, FirstViolation}
use Rattle.rb_meaning_bytes.specs.formats.ScriptMessages.{script_message}
use Rattle.rb_meaning_bytes.specs.formats.ScriptBytes.{pool_of, script_bytes}
use Rattle.rb_meaning_bytes.specs.formats.FormedScripts.{FormedScript, IsWithoutLists, AreInputs, IsWithinLimits}

-- The number of a script's refusal on the wire. A script that was read isn't too deep.
abbrev pub number_of : ScriptRefusal → ℕ
number_of (UnknownVariable step) = 11
number_of (UnknownInput step) = 12
number_of (StepRepeated step) = 13
number_of (TooDeep step) = 14
number_of (WrongInput step) = 15

-- the step that is refused, which is the refusal's place
abbrev pub step_of : ScriptRefusal → ℕ
step_of (UnknownVariable step) = step
step_of (UnknownInput step) = step
step_of (StepRepeated step) = step
step_of (TooDeep step) = step
step_of (WrongInput step) = step

abbrev pub refused : Version → ScriptRefusal → Refused
refused version r = record { version = version; number = number_of r; at = step_of r }

-- The version of a payload is that which its first byte names, and version 1 for any other byte and for none.
abbrev pub version_of : List ℕ → Version
version_of payload = cond (nat_eq (get_or payload 0 0) 2) Two One

-- A valid script is taken. What the bytes violate comes before what the script's rules refuse.
pub data Means (payload : List ℕ) : Result Sent Refused → Type 0 where
  taken : (x : Sent) → Spells script_message payload x → verdict x.script ≡ Ok tt → Means payload (Ok x)
  violated : (number at : ℕ) → FirstViolation script_message payload number at
      → Means payload (Err (record { version = version_of payload; number = number; at = at }))
  not_valid : (x : Sent) (r : ScriptRefusal) → Spells script_message payload x → verdict x.script ≡ Err r → Means payload (Err (refused x.version r))

-- the bytes of a script with its values
abbrev pub sent_bytes : Sent → List ℕ
sent_bytes x = script_bytes x.version x.script x.values

-- Version 1 has no lists.
abbrev pub Suits : Version → Script → Type 0
Suits One s = IsWithoutLists s
Suits Two s = Unit {0}

-- which scripts have a spelling, with the values of their inputs
pub record CanBeSent (x : Sent) : Type 0 where
  pub formed : FormedScript x.script
  pub suits : Suits x.version x.script
  pub values : AreInputs x.script x.values
  pub within : IsWithinLimits x.script
  pub pool : length (pool_of x.version x.script x.values) < 2 ^ 32
