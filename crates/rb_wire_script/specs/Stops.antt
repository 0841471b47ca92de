-- What answers tell.
use Rattle.std.specs.Prelude.{ℕ, List, Option, None, Some}
use Rattle.rb_trees.specs.declared.values.Value.{Value}
use Rattle.rb_trees.specs.declared.scripts.Script as script
use Rattle.rb_trees.specs.declared.versions.Version.{Version}
use Rattle.rb_trees.specs.mirror.Scripts.{mirror_script}
use Rattle.rb_meaning_bytes.specs.formats.Messages.{Sent, Refused}
use Rattle.rb_meaning_bytes.specs.formats.Staged.{Used}
use Rattle.rb_trees.specs.declared.validity.ScriptRefusal.{ScriptRefusal}
use Rattle.rb_wire_script.specs.declared.checking.RuleStop.{RuleStop}
use Rattle.rb_wire_script.specs.declared.checking.RuleStop.TheVariants as rules
use Rattle.rb_wire_script.specs.declared.decoding.ScriptStop.{ScriptStop}
use Rattle.rb_wire_script.specs.declared.decoding.ScriptStop.TheVariants as answers
use Rattle.rb_wire_script.specs.declared.pools.Place.{Place}

-- A refusal, by its place in the payload.
abbrev pub refusal_of : ScriptStop → Option Refused
refusal_of (answers.Refused version number at) = Some (record { version = version; number = number; at = at })
refusal_of answers.Memory = None

-- A refusal of the script's rules.
abbrev pub rule_of : RuleStop → Option ScriptRefusal
rule_of (rules.Refused r) = Some r
rule_of rules.Memory = None

-- a script with its version and its values in the mirror
abbrev pub seen : Version × script.Script × List Value → Sent
seen x = record { version = x.0; script = mirror_script x.1; values = x.2 }

-- what was read, as `view` sees it, with how many texts of a pool were used by then, and the bytes behind it
abbrev pub seen_at : {A B : Type 0} → (A → B) → A × Place → Used B × List ℕ
seen_at view x = ((view x.0, x.1.used), x.1.bytes.now)

-- the same, seen as it is
abbrev pub at_place : {A : Type 0} → A × Place → Used A × List ℕ
at_place x = ((x.0, x.1.used), x.1.bytes.now)
