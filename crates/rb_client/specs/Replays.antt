-- What performing a remainder on a node leaves.
use Rattle.std.specs.Prelude.{◌≡◌, ◌≤◌, ℕ, List, length, map, Result, Ok, Err}
use Rattle.rb_trees.specs.declared.declarations.Class as class
use Rattle.rb_trees.specs.declared.remainders.Part as part
use Rattle.rb_trees.specs.mirror.Declarations.{mirror_class}
use Rattle.rb_trees.specs.mirror.Forests.{Node}
use Rattle.rb_trees.specs.mirror.Remainders.{mirror_parts}
use Rattle.rb_meaning_code.specs.Dialogue.{Gave, Faulted}
use Rattle.rb_meaning_code.specs.State.{Local}
use Rattle.rb_meaning.specs.Shown.{shown_events}
use Rattle.rb_meaning.specs.State.{Event}
use Rattle.rb_meaning_split.specs.Client.{left}
use Rattle.rb_meaning_split.specs.Replay.{Replayed, ended, replay_all}
use Rattle.rb_base.specs.Devices.{Device, failed}
use Rattle.rb_base.specs.Sinks.{with_bytes, WrotePrefix}
use Rattle.rb_base.specs.declared.sinks.Sink as sinks
use Rattle.rb_client.specs.Worlds.{output}
use Rattle.rb_client.specs.declared.early.Early.{Early}
use Rattle.rb_client.specs.declared.early.Early.TheVariants as early

-- what was replayed, back outside, where so many names were
abbrev pub outside : ℕ → Replayed → Replayed
outside count r = record r { outcome = left count r.outcome }

-- parts on a node from a local state and after these events, to their end
abbrev pub replay_meant : List class.Class → List part.Part → ℕ → Local → List Event → Node → Replayed
replay_meant classes ps gas l events n =
    outside (length l.names) (replay_all (map mirror_class classes) gas (mirror_parts ps) l (record { events = events; node = n }) ended)

-- It ended so, with this local state, and what it shows was written; or a write failed in that. Nothing is said after want
-- of memory.
abbrev pub EndsSo : {W : Type 0} → sinks.Ghosts W → Device (List ℕ) → Replayed → Result (Unit {0}) Early → Local → W → Type 0
EndsSo g start r (Ok u) l out = (r.outcome ≡ Gave tt l) × (output g out ≡ with_bytes start (shown_events r.events))
EndsSo g start r (Err (early.Raised f)) l out = (r.outcome ≡ Faulted f l) × (output g out ≡ with_bytes start (shown_events r.events))
EndsSo g start r (Err early.WriteFault) l out = WrotePrefix (failed start) (output g out) (shown_events r.events)
EndsSo g start r (Err early.Memory) l out = Unit {0}

-- A remainder was performed as it means, within any gas that is at least the fuel, after whatever was shown since the output
-- stood so. Fuel doesn't rise, and the number of active calls is the same.
pub record Replays {W : Type 0} (g : sinks.Ghosts W) (meaning : ℕ → Local → List Event → Replayed) (before : Local) (old : W) (result : Result (Unit {0}) Early) (after : Local) (new : W) : Type 0 where
  pub fuel : after.fuel ≤ before.fuel
  pub depth : after.depth ≡ before.depth
  pub ends : (gas : ℕ) → before.fuel ≤ gas → (start : Device (List ℕ)) (events : List Event) → output g old ≡ with_bytes start (shown_events events)
      → EndsSo g start (meaning gas before events) result after new

-- what that is of a remainder on a node
abbrev pub remainder_meant : List class.Class → List part.Part → Node → ℕ → Local → List Event → Replayed
remainder_meant classes ps n gas l events = replay_meant classes ps gas l events n
