-- How a batch begins, and what a local fault in it leaves.
use Rattle.std.specs.Prelude.{◌≡◌, List, [], ◌∷◌, ◌++◌, ℕ, Result, Ok, Err}
use Rattle.rb_meaning_code.specs.Remote.{batch_fuel}
use Rattle.rb_trees.specs.declared.values.Value.TheVariants as value
use Rattle.rb_trees.specs.declared.outcomes.Raised.{Raised}
use Rattle.rb_trees.specs.declared.services.Object.{Object}
use Rattle.rb_trees.specs.declared.want.Memory.{Memory}
use Rattle.rb_trees.specs.mirror.Code.{mirror_stmts}
use Rattle.rb_meaning_code.specs.State.{Names}
use Rattle.rb_meaning.specs.RemotePart.{remote_only}
use Rattle.rb_meaning.specs.Unsplit.{server_after, table_after, with_side}
use Rattle.rb_base.specs.declared.sinks.Failed.{Failed}
use Rattle.rb_engine.specs.declared.misses.Miss.{Miss}
use Rattle.rb_engine.specs.declared.misses.Miss.TheVariants as miss
use Rattle.rb_engine.specs.declared.world.Halt.{Halt}
use Rattle.rb_engine.specs.declared.world.Halt.TheVariants as halt
use Rattle.rb_flow.specs.declared.outermost.OpenBatch.{OpenBatch}
use Rattle.rb_plain.specs.Remote.{SameStage}
use Rattle.rb_plain.specs.Staged.{Staged, program_of, service_of}
use Rattle.rb_plain.specs.declared.batch_run.Start.{Start}
use Rattle.rb_plain.specs.declared.batch_run.Start.TheVariants as begin
use Rattle.rb_plain.specs.declared.remote_world.RemoteWorld.{RemoteWorld}

-- the table that the whole remote part of a batch leaves from these names and this table
abbrev pub whole_from : Staged → OpenBatch → Names → List Object → List Object
whole_from st b names table =
    (server_after (remote_only (program_of st) (service_of st) b.scope (mirror_stmts b.block.now) names (record { table = table; fuel = batch_fuel }))).table

-- the same from a batch's start
abbrev pub whole_table : Staged → OpenBatch → Start → List Object
whole_table st b (begin.Copied names table) = whole_from st b names table
whole_table st b (begin.Performed table) = table

-- A start was had where a batch begins: it tells the table of the whole remote part from here, and the names and the table stay.
pub record Prepared (b : OpenBatch) (start : Start) (before : RemoteWorld) (names : Names) (after : RemoteWorld) (names' : Names) : Type 0 where
  pub whole_so : whole_table before.stage b start ≡ whole_from before.stage b names before.server.table
  pub names_so : names' ≡ names
  pub table_so : after.server.table ≡ before.server.table
  pub stage_so : SameStage before after

-- the same, unless memory ran out
abbrev pub Prepares : OpenBatch → Result Start Memory → RemoteWorld → Names → RemoteWorld → Names → Type 0
Prepares b (Ok start) before names after names' = Prepared b start before names after names'
Prepares b (Err want) before names after names' = Unit {0}

-- A batch was begun: its root is bound, its start tells the table of its whole remote part, and the remote fuel is fresh.
pub record Begun (root : List ℕ) (b : OpenBatch) (start : Start) (before : RemoteWorld) (names : Names) (after : RemoteWorld) (names' : Names) : Type 0 where
  pub bound_so : names' ≡ names ++ (root, value.Remote before.stage.service.root) ∷ []
  pub whole_so : whole_table before.stage b start ≡ whole_from before.stage b names' before.server.table
  pub server_so : after.server ≡ record { table = before.server.table; fuel = batch_fuel }
  pub stage_so : SameStage before after

-- the same, unless memory ran out
abbrev pub Begins : List ℕ → OpenBatch → Result Start Memory → RemoteWorld → Names → RemoteWorld → Names → Type 0
Begins root b (Ok start) before names after names' = Begun root b start before names after names'
Begins root b (Err want) before names after names' = Unit {0}

abbrev pub sided : Staged → Raised → Raised
sided st r = with_side (program_of st) r

-- A walk is over unless memory ran out.
abbrev pub IsOver : Result (Unit {0}) Miss → Type 0
IsOver (Ok u) = Unit {0}
IsOver (Err (miss.Fault at f)) = Unit {0}
IsOver (Err miss.Memory) = ⊥

-- The table is another, and nothing else.
pub record SetsTable (table : List Object) (before after : RemoteWorld) : Type 0 where
  pub server_so : after.server ≡ record { table = table; fuel = before.server.fuel }
  pub stage_so : SameStage before after

-- A fault has its side, and a local one leaves the table of the whole remote part.
pub record Settles (b : OpenBatch) (start : Start) (raised settled : Raised) (before after : RemoteWorld) : Type 0 where
  pub raised_so : settled ≡ sided before.stage raised
  pub table_so : SetsTable (table_after settled before.server.table (whole_table before.stage b start)) before after

-- How a batch's body ended, back outside: a fault is settled, and all else stays.
abbrev pub SettlesStep : OpenBatch → Start → Result (Result (Unit {0}) Raised) (Halt Failed) → Result (Result (Unit {0}) Raised) (Halt Failed) → RemoteWorld → RemoteWorld → Type 0
SettlesStep b start (Ok (Err raised)) (Ok (Err settled)) before after = Settles b start raised settled before after
SettlesStep b start (Ok (Err raised)) (Ok (Ok u)) before after = ⊥
SettlesStep b start (Ok (Err raised)) (Err halt.Memory) before after = Unit {0}
SettlesStep b start (Ok (Err raised)) (Err (halt.World stop)) before after = ⊥
SettlesStep b start ended result before after = (result ≡ ended) × (after ≡ before)
