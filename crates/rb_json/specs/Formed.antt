-- Which scripts have a request in JSON.
use Rattle.rb_trees.specs.declared.versions.Version.TheVariants.{Two}
use Rattle.std.specs.Prelude.{◌≡◌}
use Rattle.rb_trees.specs.declared.validity.ScriptRefusal.{ScriptRefusal}
use Rattle.rb_trees.specs.declared.validity.ScriptRefusal.TheVariants.{TooDeep}
use Rattle.rb_meaning_bytes.specs.formats.FormedScripts.{FormedScript, AreInputs, IsWithinLimits}
use Rattle.rb_meaning_bytes.specs.formats.Messages.{Sent}

-- A formed script with values for its inputs, as version 2 sends it.
pub record HasForm (x : Sent) : Type 0 where
  pub version : x.version ≡ Two
  pub script : FormedScript x.script
  pub values : AreInputs x.script x.values

-- It is within the limits of nesting, too.
pub record IsSendable (x : Sent) : Type 0 where
  pub form : HasForm x
  pub within : IsWithinLimits x.script

-- a refusal of a script that doesn't come from how deep it nests
abbrev pub IsShallow : ScriptRefusal → Type 0
IsShallow (TooDeep step) = ⊥
IsShallow _ = Unit {0}
