-- The start of a batch, and the whole remote part from it.
use Rattle.std.proofs.Common.{◌≡◌, refl, sym, ap, ◌∙◌, List}
use Rattle.std.specs.Prelude.{OnOk, Result, Ok, Err}
use Rattle.rb_trees.specs.declared.services.Object.{Object}
use Rattle.rb_trees.specs.declared.want.Memory.{Memory}
use Rattle.rb_meaning_code.specs.State.{Names}
use Rattle.rb_meaning_code.specs.Remote.{Server, Reply, batch_fuel}
use Rattle.rb_meaning.specs.Unsplit.{server_after}
use Rattle.rb_meaning_flow.specs.Scopes.{Scope}
use Rattle.rb_engine.specs.Misses.{Means}
use Rattle.rb_engine.specs.declared.misses.Miss.{Miss}
use Rattle.rb_engine.specs.declared.misses.Miss.TheVariants as miss
use Rattle.rb_flow.specs.declared.outermost.OpenBatch.{OpenBatch}
use Rattle.rb_plain.specs.BatchRuns.{IsOver, Prepared, SetsTable, whole_from}
use Rattle.rb_plain.specs.Remote.{Ended, SameStage, Unstarved}
use Rattle.rb_plain.specs.Walks.{block_from, block_meant}
use Rattle.rb_plain.specs.declared.batch_run.Start.TheVariants as begin
use Rattle.rb_plain.specs.declared.remote_world.RemoteWorld.{RemoteWorld}

-- the fuel that the code gives
pub fuel_so : 1000000 ≡ batch_fuel
unfolding batch_fuel
fuel_so = refl

pub fresh : {s : Server} {table : List Object} → s ≡ record { table = table; fuel = 1000000 } → s ≡ record { table = table; fuel = batch_fuel }
fresh {table = table} e = e ∙ ap (λ n. record { table = table; fuel = n }) fuel_so

-- the server that a walk leaves which is over
left_by : (t : Result (Unit {0}) Miss) (m : Reply (Unit {0})) (s : Server) → IsOver t → Means m t s → server_after m ≡ s
left_by (Ok u) m s o h = ap server_after h
left_by (Err (miss.Fault at f)) m s o h = ap server_after h
left_by (Err miss.Memory) m s o h = absurd o

stage_by : (t : Result (Unit {0}) Miss) (P : Type 0) → IsOver t → Unstarved t P → P
stage_by (Ok u) P o p = p
stage_by (Err (miss.Fault at f)) P o p = p
stage_by (Err miss.Memory) P o p = absurd o

-- the whole remote part of a batch was performed in a world with this table
left_whole : (w w1 w2 : RemoteWorld) (b : OpenBatch) (names : Names) (table : List Object) (scope : Scope) (t : Result (Unit {0}) Miss) → IsOver t
    → w1.stage ≡ w.stage → w1.server ≡ record { table = table; fuel = 1000000 } → scope ≡ b.scope
    → Ended (block_meant w1 scope b.block.now names) t w1 w2 → w2.server.table ≡ whole_from w.stage b names table
left_whole w w1 w2 b names table scope t o e f g d =
    let walked : server_after (block_meant w1 scope b.block.now names) ≡ w2.server = left_by t (block_meant w1 scope b.block.now names) w2.server o d.means in
    let same : block_meant w1 scope b.block.now names ≡ block_from w.stage b.scope b.block.now names (record { table = table; fuel = batch_fuel }) =
    ap (λ st. block_from st scope b.block.now names w1.server) e ∙ ap (λ sc. block_from w.stage sc b.block.now names w1.server) g
    ∙ ap (λ s. block_from w.stage b.scope b.block.now names s) (fresh f) in
    ap (λ s. s.table) (sym walked ∙ ap server_after same)

-- the table that was left is put in its place, with the fuel of before
pub sets_whole : (w w1 w2 w3 : RemoteWorld) (b : OpenBatch) (names : Names) (table : List Object) (scope : Scope) (t : Result (Unit {0}) Miss) (r : Result (Unit {0}) Memory) → OnOk r (IsOver t)
    → w1.stage ≡ w.stage → w1.server ≡ record { table = table; fuel = 1000000 } → scope ≡ b.scope
    → Ended (block_meant w1 scope b.block.now names) t w1 w2 → w3.stage ≡ w2.stage → w3.server ≡ record { table = w2.server.table; fuel = w.server.fuel }
    → OnOk r (SetsTable (whole_from w.stage b names table) w w3)
sets_whole w w1 w2 w3 b names table scope t (Err want) o e f g d i j = tt
sets_whole w w1 w2 w3 b names table scope t (Ok u) o e f g d i j = record {
  server_so = j ∙ ap (λ x. record { table = x; fuel = w.server.fuel }) (left_whole w w1 w2 b names table scope t o e f g d);
  stage_so = i ∙ stage_by t (SameStage w1 w2) o d.stage_so ∙ e;
}

-- or it is kept, and the table of before is put back
pub ahead : (w w1 w2 w3 : RemoteWorld) (b : OpenBatch) (names names' : Names) (scope : Scope) (t : Result (Unit {0}) Miss) (whole : List Object) → IsOver t
    → w1.stage ≡ w.stage → w1.server ≡ record { table = w.server.table; fuel = 1000000 } → scope ≡ b.scope → Ended (block_meant w1 scope b.block.now names) t w1 w2
    → whole ≡ w2.server.table → names' ≡ names → w3.stage ≡ w2.stage → w3.server.table ≡ w.server.table → Prepared b (begin.Performed whole) w names w3 names'
ahead w w1 w2 w3 b names names' scope t whole o e f g d h k i j = record {
  whole_so = h ∙ left_whole w w1 w2 b names w.server.table scope t o e f g d;
  names_so = k;
  table_so = j;
  stage_so = i ∙ stage_by t (SameStage w1 w2) o d.stage_so ∙ e;
}
