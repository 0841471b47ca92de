-- How `main` ends over the client's World.
use Rattle.std.proofs.Common.{◌≡◌, refl, sym, ap, ◌∙◌, subst, ℕ, List, [], ◌++◌, append-nil}
use Rattle.std.specs.Prelude.{Option, None, Some, Result, Ok, Err}
use Rattle.rb_trees.specs.declared.declarations.Body as body
use Rattle.rb_trees.specs.declared.declarations.Class as class
use Rattle.rb_trees.specs.declared.outcomes.Ending.TheVariants as endings
use Rattle.rb_trees.specs.declared.outcomes.Raised.{Raised}
use Rattle.rb_trees.specs.declared.outcomes.Run as runs
use Rattle.rb_trees.specs.declared.values.Value.{Value}
use Rattle.rb_meaning_code.specs.Dialogue.{Outcome, Gave, Faulted, Run, Done, Ask, AskBatch, Follows, handle}
use Rattle.rb_meaning_code.specs.Led.{CutsOff, Passes}
use Rattle.rb_meaning_code.specs.State.{Local}
use Rattle.rb_meaning.specs.Links.{Pair, TellsTyped}
use Rattle.rb_meaning.specs.Meaning.{at_start, ending_of}
use Rattle.rb_meaning.specs.Unsplit.{batch_at}
use Rattle.rb_meaning_flow.specs.Outermost.{Outermost}
use Rattle.rb_meaning_split.specs.Client.{in_client}
use Rattle.rb_law_client.specs.Reached.{main_run, with_nodes}
use Rattle.rb_base.specs.declared.links.Link as links
use Rattle.rb_base.specs.declared.sinks.Sink as sinks
use Rattle.rb_base.proofs.Pieces.{bytes_none}
use Rattle.rb_engine.specs.declared.world.Halt.{Halt}
use Rattle.rb_engine.specs.declared.world.Halt.TheVariants as halt
use Rattle.rb_client.specs.Clients.{Origin, Past, PerformedAs, SeesClient, first_scene, nothing_yet, scene_of, waiting}
use Rattle.rb_client.specs.MainRuns.{ComesTo, KeepsBoth, Leads, Leaves, RunsMain, body_run, origin, surrounds}
use Rattle.rb_client.specs.Replies.{more_pairs, pairs_of}
use Rattle.rb_client.specs.Serving.{server_of}
use Rattle.rb_client.specs.Worlds.{output}
use Rattle.rb_client.specs.declared.client_world.ClientWorld.{ClientWorld}
use Rattle.rb_client.specs.declared.stops.RunStop.{RunStop}
use Rattle.rb_client.specs.declared.stops.RunStop.TheVariants as stops
use Rattle.rb_client.proofs.ClientRuns.{Cut, cuts, ends}
use Rattle.rb_client.proofs.Serving.{counts_none, performed_none}

-- What is left where the World cut `main` off.
module _ {L W : Type 0} (gl : links.Ghosts L) (gw : sinks.Ghosts W) (o : Origin L W) (fuel : ℕ) (w' : ClientWorld L W) where
  abbrev Ended : Result runs.Run RunStop → Type 0
  Ended r = KeepsBoth r o w' × Leaves o.program fuel r (first_scene gl gw o) (scene_of gl gw w')

  at_batch : (h : Past) (b : Option Outermost) (at : ℕ) (l : Local) (go : Outcome (Unit {0}) → Run (Option Value)) → batch_at o.program at ≡ b → ComesTo o.program fuel h (AskBatch at l go)
      → (y : RunStop) → PerformedAs gl gw o h b at l (Err y) w' → Ended (Err y)
  at_batch h b at l go stands comes stops.Memory t = (tt, tt)
  at_batch h None at l go stands comes stops.WriteFault t = absurd t
  at_batch h None at l go stands comes (stops.LinkFault k) t = absurd t
  at_batch h None at l go stands comes (stops.BadReply k why kind bytes) t = absurd t
  at_batch h (Some b) at l go stands comes stops.WriteFault t = (t.0, record { past = h; rest = AskBatch at l go; comes = comes; stops_so = (b, stands, t.1) })
  at_batch h (Some b) at l go stands comes (stops.LinkFault k) t = (t.0, record { past = h; batch = b; at = at; local = l; go = go; stands = stands; comes = comes; stops_so = t.1 })
  at_batch h (Some b) at l go stands comes (stops.BadReply k why kind bytes) t = (t.0, record { past = h; batch = b; at = at; local = l; go = go; stands = stands; comes = comes; stops_so = t.1 })

  by_rest : (h : Past) (before : ClientWorld L W) (x : RunStop) → SeesClient gl gw o before h → (rest : Run (Option Value)) → ComesTo o.program fuel h rest → CutsOff (surrounds gl gw) rest before x w' → Ended (Err x)
  by_rest h before x sees (Done a) comes cut = absurd cut
  by_rest h before x sees (Ask q go) comes cut =
      let t = cut o h sees in
      subst (λ y. Ended (Err y)) (sym t.0) (t.1, record { past = h; rest = Ask q go; comes = comes; stops_so = t.2 })
  by_rest h before x sees (AskBatch at l go) comes cut = at_batch h (batch_at o.program at) at l go refl comes x (cut o h sees)

  ends_cut : (x : RunStop) → Cut gl gw o (main_run o.program fuel) nothing_yet x w' → Ended (Err x)
  ends_cut x c =
      by_rest c.past c.before x c.sees c.rest
      (λ more. subst (λ ns. Passes (in_client o.program) (main_run o.program fuel) (with_nodes (ns ++ more)) c.rest (waiting c.past more)) (sym c.nodes_so) (c.passes more)) c.cut

  ends_well : (w : ClientWorld L W) (e : Outcome (Option Value)) → SeesClient gl gw o w nothing_yet → Follows (surrounds gl gw) (main_run o.program fuel) w (Ok e) w'
      → Ended (Ok (record { ending = ending_of e; exchanges = w'.exchanges }))
  ends_well w e sees led =
      let r = ends gl gw o (main_run o.program fuel) w w' nothing_yet e sees led in (
        r.sees.holds,
        record {
          past = r.past;
          outcome = e;
          handled = ap (λ ns. handle (in_client o.program) (main_run o.program fuel) (with_nodes ns)) (r.nodes_so ∙ sym (append-nil r.nodes)) ∙ r.handled [];
          ending_so = refl;
          exchanges_so = r.sees.exchanges_so;
          done = r.sees.done;
        },
      )

-- how a run ended over a World, which counted its exchanges
abbrev pub ended_run : {L W : Type 0} → ClientWorld L W → Result (Result (Option Value) Raised) (Halt RunStop) → Result runs.Run RunStop
ended_run w (Ok (Ok v)) = Ok (record { ending = endings.Done v; exchanges = w.exchanges })
ended_run w (Ok (Err f)) = Ok (record { ending = endings.Faulted f.fault f.at; exchanges = w.exchanges })
ended_run w (Err halt.Memory) = Err stops.Memory
ended_run w (Err (halt.World x)) = Err x

by_end : {L W : Type 0} (gl : links.Ghosts L) (gw : sinks.Ghosts W) (o : Origin L W) (fuel : ℕ) (w w' : ClientWorld L W) (r : Result (Result (Option Value) Raised) (Halt RunStop)) → SeesClient gl gw o w nothing_yet
    → Leads gl gw (main_run o.program fuel) w r w' → Ended gl gw o fuel w' (ended_run w' r)
by_end gl gw o fuel w w' (Ok (Ok v)) sees h = ends_well gl gw o fuel w' w (Gave v h.0) sees h.1
by_end gl gw o fuel w w' (Ok (Err f)) sees h = ends_well gl gw o fuel w' w (Faulted f h.0) sees h.1
by_end gl gw o fuel w w' (Err halt.Memory) sees h = (tt, tt)
by_end gl gw o fuel w w' (Err (halt.World x)) sees h = ends_cut gl gw o fuel w' x (cuts gl gw o (main_run o.program fuel) w w' nothing_yet x sees h)

-- Nothing was done yet.

no_pairs : (before : Option (List Pair)) → before ≡ more_pairs [] before
no_pairs None = refl
no_pairs (Some pairs) = ap Some (sym (append-nil pairs))

sees_first : {L W : Type 0} (gl : links.Ghosts L) (gw : sinks.Ghosts W) (w : ClientWorld L W) → (gl.honest w.link.now → TellsTyped (server_of gl w.link.now)) → w.exchanges ≡ 0 → SeesClient gl gw (origin w) w nothing_yet
sees_first gl gw w tells count = record {
  program_so = refl;
  holds = record { same_output = refl; same_link = refl };
  done = record {
    written = sym (bytes_none (output gw w.out.now));
    exchanged = record {
      exchanged = record { pairs = []; pairs_so = no_pairs (pairs_of gl w.link.now); exchanges = tt };
      lends_so = refl;
      stays = λ honest. honest;
      stays_quiet = λ quiet. quiet;
      served = λ honest. performed_none (gl.quiet w.link.now) (server_of gl w.link.now) (tells honest);
    };
    faults_so = refl;
    counts = counts_none (server_of gl w.link.now);
  };
  exchanges_so = count;
}

-- what `main` did, in a World in which nothing was exchanged yet
pub main_so : {L W : Type 0} (gl : links.Ghosts L) (gw : sinks.Ghosts W) (tells : (link : L) → gl.honest link → TellsTyped (server_of gl link)) (fuel : ℕ) (w w' : ClientWorld L W) (classes : List class.Class) (b : body.Body) (l : Local) (r : Result (Result (Option Value) Raised) (Halt RunStop)) (s : Result runs.Run RunStop)
    → w.exchanges ≡ 0 → classes ≡ w.plan.now.program.classes → b ≡ w.plan.now.program.body → l ≡ at_start fuel → ended_run w' r ≡ s → Leads gl gw (body_run classes b l) w r w' → RunsMain gl gw fuel w s w'
main_so gl gw tells fuel w w' classes b l r s count own main start is h =
    subst (λ x. Ended gl gw (origin w) fuel w' x) is
    (by_end gl gw (origin w) fuel w w' r (sees_first gl gw w (tells w.link.now) count)
    (subst (λ x. Leads gl gw (body_run w.plan.now.program.classes w.plan.now.program.body x) w r w') start
    (subst (λ x. Leads gl gw (body_run w.plan.now.program.classes x l) w r w') main (subst (λ cs. Leads gl gw (body_run cs b l) w r w') own h))))
