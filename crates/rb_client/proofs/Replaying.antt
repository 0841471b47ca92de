-- A remainder that was performed as it means leaves what it means.
use Rattle.std.proofs.Common.{◌≡◌, refl, sym, ap, ◌∙◌, subst, ℕ, List, [], ◌∷◌, length, arith}
use Rattle.std.specs.Prelude.{Result, Ok, Err}
use Rattle.rb_trees.specs.declared.declarations.Class as class
use Rattle.rb_trees.specs.declared.remainders.Part as part
use Rattle.rb_trees.specs.mirror.Forests.{Node}
use Rattle.rb_meaning_code.specs.Dialogue.{Gave, Faulted}
use Rattle.rb_meaning_code.specs.State.{Local, closed}
use Rattle.rb_meaning.specs.Shown.{shown_events}
use Rattle.rb_meaning_split.specs.Client.{left}
use Rattle.rb_meaning_split.specs.Replay.{Replayed, Rest, ended}
use Rattle.rb_base.specs.Devices.{Device, failed}
use Rattle.rb_base.specs.Sinks.{with_bytes, WrotePrefix}
use Rattle.rb_base.specs.declared.sinks.Sink as sinks
use Rattle.rb_wire_forest.specs.Opens.{AtNode}
use Rattle.rb_wire_forest.specs.Opened.{opened}
use Rattle.rb_client.specs.Replays.{EndsSo, Replays, outside, remainder_meant}
use Rattle.rb_client.specs.Walks.{Does, Performs, all_meant}
use Rattle.rb_client.specs.Worlds.{SeesReplay, output}
use Rattle.rb_client.specs.declared.early.Early.{Early}
use Rattle.rb_client.specs.declared.early.Early.TheVariants as early
use Rattle.rb_client.specs.declared.replay_world.ReplayWorld.{ReplayWorld}
use Rattle.rb_client.proofs.Adding.{ended_adds}
use Rattle.rb_client.proofs.Events.{adding}

module _ {W : Type 0} (g : sinks.Ghosts W) (start : Device (List ℕ)) (count : ℕ) (m : Rest → Replayed) (l l1 : Local) (w w1 : ReplayWorld W) (new : W) where
  ends_so : (r : Result (Unit {0}) Early) → l1 ≡ closed count l → (w1.out.ghost_name ≡ w.out.ghost_name → new ≡ w1.out.now) → Does g w.out start (SeesReplay g w.out start []) m r l w1 → EndsSo g start (outside count (m ended)) r l1 new
  ends_so (Ok u) end last (s, sees, h) = (
    ap (λ x. left count x.outcome) (h ended) ∙ ap (λ x. Gave tt x) (sym end),
    ap (output g) (last sees.same_output) ∙ sees.written ∙ ap (λ x. with_bytes start (shown_events x.events)) (sym (h ended)),
  )
  ends_so (Err (early.Raised f)) end last (s, sees, h) = (
    ap (λ x. left count x.outcome) (h ended) ∙ ap (λ x. Faulted f x) (sym end),
    ap (output g) (last sees.same_output) ∙ sees.written ∙ ap (λ x. with_bytes start (shown_events x.events)) (sym (h ended)),
  )
  ends_so (Err early.WriteFault) end last h =
      let c = h ended (ended_adds adding) in
      subst (λ x. WrotePrefix (failed start) (output g x) (shown_events (m ended).events)) (sym (last c.same_output)) c.written
  ends_so (Err early.Memory) end last h = tt

-- what the parts did, in a World over the whole node
pub replay_so : {W : Type 0} (g : sinks.Ghosts W) (classes : List class.Class) (ps xs : List part.Part) (n : Node) (l l1 l2 : Local) (w w1 : ReplayWorld W) (old new : W) (r : Result (Unit {0}) Early)
    → xs ≡ ps → opened w.left ≡ AtNode n ∷ [] → w.out.now ≡ old → Performs g (all_meant classes xs) l w r l1 w1 → l2 ≡ closed (length l.names) l1 → (w1.out.ghost_name ≡ w.out.ghost_name → new ≡ w1.out.now)
    → Replays g (remainder_meant classes ps n) l old r l2 new
replay_so g classes ps xs n l l1 l2 w w1 old new r same begin_left begin_out h end last =
    let a = h.fuel in
    let b : l2.fuel ≡ l1.fuel = ap (λ x. x.fuel) end in
    record {
      fuel = omega (arith, a, b);
      depth = ap (λ x. x.depth) end ∙ h.depth;
      ends = λ gas le start events e.
          subst (λ ys. EndsSo g start (remainder_meant classes ys n gas l events) r l2 new) same
          (ends_so g start (length l.names) (all_meant classes xs gas l (record { events = events; node = n })) l1 l2 w w1 new r end last
          (h.does gas le w.out start [] (record { events = events; node = n }) (record { same_output = refl; written = ap (output g) begin_out ∙ e; open_so = begin_left })));
    }
