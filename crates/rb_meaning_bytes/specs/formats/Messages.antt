-- What messages hold.
use Rattle.std.specs.Prelude.{ℕ, List}
use Rattle.rb_trees.specs.declared.values.Value.{Value}
use Rattle.rb_trees.specs.declared.versions.Version.{Version}
use Rattle.rb_trees.specs.mirror.Scripts.{Script}

-- a script with the values of its inputs, and the version that spells it
pub record Sent : Type 0 where
  pub version : Version
  pub script : Script
  pub values : List Value

-- a refusal: the version that spells it, its number and its place
pub record Refused : Type 0 where
  pub version : Version
  pub number : ℕ
  pub at : ℕ
