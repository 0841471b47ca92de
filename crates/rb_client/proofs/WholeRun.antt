-- What a World held is given back.
use Rattle.std.proofs.Common.{◌≡◌, sym, subst, ℕ}
use Rattle.std.specs.Prelude.{Result, Ok, Err}
use Rattle.std.specs.Borrow.{MutBor}
use Rattle.rb_trees.specs.declared.declarations.Program as program
use Rattle.rb_trees.specs.declared.outcomes.Run as runs
use Rattle.rb_trees.specs.mirror.Declarations.{mirror_program}
use Rattle.rb_base.specs.declared.links.Link as links
use Rattle.rb_base.specs.declared.sinks.Sink as sinks
use Rattle.rb_client.specs.Clients.{HoldsBoth, scene_of}
use Rattle.rb_client.specs.MainRuns.{Leaves, RunsMain, origin, program_of}
use Rattle.rb_client.specs.Scenes.{Between, scene}
use Rattle.rb_client.specs.declared.client_world.ClientWorld.{ClientWorld}
use Rattle.rb_client.specs.declared.stops.RunStop.{RunStop}
use Rattle.rb_client.specs.declared.stops.RunStop.TheVariants as stops

module _ {L W : Type 0} (gl : links.Ghosts L) (gw : sinks.Ghosts W) (p : program.Program) (fuel : ℕ) (w w' : ClientWorld L W) (link : MutBor L) (out : MutBor W) (link' : L) (out' : W)
    (own : w.plan.now.program ≡ p) (now_link : w.link.now ≡ link.now) (now_out : w.out.now ≡ out.now)
    (last_link : w'.link.ghost_name ≡ w.link.ghost_name → link' ≡ w'.link.now) (last_out : w'.out.ghost_name ≡ w.out.ghost_name → out' ≡ w'.out.now) where
  abbrev Left : Result runs.Run RunStop → Type 0
  Left r = Leaves (mirror_program p) fuel r (scene gl gw link.now out.now) (scene gl gw link' out')

  held : (r : Result runs.Run RunStop) → HoldsBoth (origin w) w' → Leaves (program_of w) fuel r (scene_of gl gw w) (scene_of gl gw w') → Left r
  held r kept h =
      subst (λ q. Leaves (mirror_program q) fuel r (scene gl gw link.now out.now) (scene gl gw link' out')) own
      (subst (λ x. Leaves (program_of w) fuel r (scene gl gw x out.now) (scene gl gw link' out')) now_link
      (subst (λ x. Leaves (program_of w) fuel r (scene gl gw w.link.now x) (scene gl gw link' out')) now_out
      (subst (λ x. Leaves (program_of w) fuel r (scene_of gl gw w) (scene gl gw x out')) (sym (last_link kept.same_link))
      (subst (λ x. Leaves (program_of w) fuel r (scene_of gl gw w) (scene gl gw w'.link.now x)) (sym (last_out kept.same_output)) h))))

  pub given_back : (r : Result runs.Run RunStop) → RunsMain gl gw fuel w r w' → Between gl gw link.now out.now link' out' (Leaves (mirror_program p) fuel r)
  given_back (Ok run) h = held (Ok run) h.0 h.1
  given_back (Err stops.WriteFault) h = held (Err stops.WriteFault) h.0 h.1
  given_back (Err stops.Memory) h = tt
  given_back (Err (stops.LinkFault k)) h = held (Err (stops.LinkFault k)) h.0 h.1
  given_back (Err (stops.BadReply k why kind bytes)) h = held (Err (stops.BadReply k why kind bytes)) h.0 h.1
