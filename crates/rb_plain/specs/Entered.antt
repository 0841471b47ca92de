-- How a batch is entered: others change the table that it finds, it is counted, and it begins.
use Rattle.std.specs.Prelude.{◌≡◌, ◌+◌, ℕ, List, drop, map, Result, Ok, Err}
use Rattle.rb_trees.specs.declared.want.Memory.{Memory}
use Rattle.rb_trees.specs.declared.services.Object.{Object}
use Rattle.rb_meaning_code.specs.State.{Names}
use Rattle.rb_meaning.specs.Changes.{all_changed}
use Rattle.rb_meaning.specs.Others.{found_table}
use Rattle.rb_flow.specs.declared.outermost.OpenBatch.{OpenBatch}
use Rattle.rb_plain.specs.BatchRuns.{Begun, SetsTable}
use Rattle.rb_plain.specs.declared.batch_run.Start.{Start}
use Rattle.rb_plain.specs.declared.outer_world.OuterWorld.{OuterWorld}

-- the table that the next batch finds
abbrev pub table_found : {W : Type 0} → OuterWorld W → List Object
table_found w = found_table (map all_changed w.others.now) w.inner.remote.server.table

-- A batch was come to: the table is the one that it finds, and others have a list of changes less before them.
pub record Comes {W : Type 0} (before after : OuterWorld W) : Type 0 where
  pub table_so : SetsTable (table_found before) before.inner.remote after.inner.remote
  pub others_so : after.others.now ≡ drop 1 before.others.now
  pub out_so : after.inner.out ≡ before.inner.out
  pub batches_so : after.batches ≡ before.batches
  pub exchanges_so : after.exchanges ≡ before.exchanges

-- A batch was entered: it was come to, counted, and begun.
pub record Entered {W : Type 0} (root : List ℕ) (b : OpenBatch) (start : Start) (before : OuterWorld W) (names : Names) (after : OuterWorld W) (names' : Names) : Type 0 where
  pub there : OuterWorld W
  pub come_so : Comes before there
  pub begun_so : Begun root b start there.inner.remote names after.inner.remote names'
  pub others_so : after.others ≡ there.others
  pub out_so : after.inner.out ≡ there.inner.out
  pub batches_so : after.batches ≡ there.batches
  pub exchanges_so : after.exchanges ≡ there.exchanges + 1

-- the same, unless memory ran out
abbrev pub Enters : {W : Type 0} → List ℕ → OpenBatch → Result Start Memory → OuterWorld W → Names → OuterWorld W → Names → Type 0
Enters root b (Ok start) before names after names' = Entered root b start before names after names'
Enters root b (Err want) before names after names' = Unit {0}
