-- What a run leaves is what its contract says, over any link.
use Rattle.std.proofs.Common.{◌≡◌, inl, inr, refl, sym, ap, ◌∙◌, subst, ℕ, suc, [], length, append-nil}
use Rattle.std.specs.Prelude.{Option, Result, Ok, Err}
use Rattle.rb_trees.specs.declared.outcomes.Raised.{Raised}
use Rattle.rb_trees.specs.declared.outcomes.Run as runs
use Rattle.rb_trees.specs.declared.values.Value.{Value}
use Rattle.rb_trees.specs.mirror.Declarations.{Program}
use Rattle.rb_meaning_code.specs.Dialogue as ask
use Rattle.rb_meaning_code.specs.Dialogue.{Question, Outcome, Dialogue, Done, Ask, AskBatch}
use Rattle.rb_meaning_code.specs.Led.{Passes}
use Rattle.rb_meaning.specs.Shown.{shown_events}
use Rattle.rb_meaning_split.specs.Client.{client, heard, in_client}
use Rattle.rb_law_client.specs.Reached.{ClientComesTo, main_run, with_nodes}
use Rattle.rb_base.specs.Sinks.{with_bytes}
use Rattle.rb_client.specs.Clients.{FailsToAnswer, Past, waiting}
use Rattle.rb_client.specs.MainRuns.{ComesTo, EndsAt, EndsWell, Leaves, StopsWriting}
use Rattle.rb_client.specs.Runs.{CutAtBatch, CutInWriting, ExchangedAll, FailsAsListed, Ran, RunsOver}
use Rattle.rb_client.specs.Scenes.{Scene}
use Rattle.rb_client.specs.Servers.{FailsAfter, NoneFails}
use Rattle.rb_client.specs.declared.stops.RunStop.{RunStop}
use Rattle.rb_client.specs.declared.stops.RunStop.TheVariants as stops
use Rattle.rb_client.proofs.Serving.{counts_more, failed_after, none_failed}

-- With the nodes that were used a client comes so far.
pub client_comes : (p : Program) (fuel : ℕ) (h : Past) (rest : Dialogue (Outcome (Option Value))) → ComesTo p fuel h rest → ClientComesTo p fuel h.nodes rest (waiting h [])
client_comes p fuel h rest comes = record {
  passes = subst (λ ns. Passes (in_client p) (main_run p fuel) (with_nodes ns) rest (waiting h [])) (append-nil h.nodes) (comes []);
  used = refl;
}

module _ (p : Program) (fuel : ℕ) (before after : Scene) where
  pub ran_so : (run : runs.Run) → EndsWell p fuel run before after → Ran p fuel run before after
  ran_so run e =
      let whole : client p fuel e.past.nodes ≡ heard (e.outcome, waiting e.past []) = ap heard e.handled in
      record {
        nodes = e.past.nodes;
        ending_so = e.ending_so ∙ sym (ap (λ x. x.ending) whole);
        exchanges_so = e.exchanges_so ∙ sym (ap (λ x. length x.sent) whole);
        written = e.done.written ∙ ap (λ x. with_bytes before.out (shown_events x.events)) (sym whole);
        exchanged = subst (λ x. ExchangedAll p before after x.sent e.past.nodes) (sym whole) e.done.exchanged;
        faults_so = e.done.faults_so;
      }

  at_line : (h : Past) (q : Question) (go : Result Value Raised → Dialogue (Outcome (Option Value))) → ComesTo p fuel h (Ask q go) → FailsToAnswer p before after h q → CutInWriting p fuel before after
  at_line h (ask.Line at bytes) go comes f =
      inl (record { nodes = h.nodes; past = waiting h []; at = at; bytes = bytes; go = go; comes = client_comes p fuel h (Ask (ask.Line at bytes) go) comes; fails = f })
  at_line h (ask.Taken step) go comes f = absurd f
  at_line h (ask.Invoke at target method args) go comes f = absurd f
  at_line h (ask.Turn at) go comes f = absurd f
  at_line h (ask.ListTurn at) go comes f = absurd f

  writing_so : (h : Past) (rest : Dialogue (Outcome (Option Value))) → ComesTo p fuel h rest → StopsWriting p h rest before after → CutInWriting p fuel before after
  writing_so h (Done a) comes s = absurd s
  writing_so h (Ask q go) comes f = at_line h q go comes f
  writing_so h (AskBatch at l go) comes (b, stands, f) =
      inr (record { nodes = h.nodes; past = waiting h []; batch = b; local = l; reaches = record { at = at; go = go; stands = stands; comes = client_comes p fuel h (AskBatch at l go) comes }; fails = f })

  at_batch : (stop : RunStop) → EndsAt p fuel stop before after → CutAtBatch p fuel stop before after
  at_batch stop e = record {
    nodes = e.past.nodes;
    past = waiting e.past [];
    batch = e.batch;
    local = e.local;
    reaches = record { at = e.at; go = e.go; stands = e.stands; comes = client_comes p fuel e.past (AskBatch e.at e.local e.go) e.comes };
    begins = e.stops_so.begins;
    written = e.stops_so.written;
    gives_none = e.stops_so.gives_none;
    lends_so = e.stops_so.lends_so;
  }

  pub runs_over : (r : Result runs.Run RunStop) → Leaves p fuel r before after → RunsOver p fuel r before after
  runs_over (Ok run) e = ran_so run e
  runs_over (Err stops.WriteFault) e = writing_so e.past e.rest e.comes e.stops_so
  runs_over (Err stops.Memory) e = tt
  runs_over (Err (stops.LinkFault k)) e = at_batch (stops.LinkFault k) e
  runs_over (Err (stops.BadReply k why kind bytes)) e = at_batch (stops.BadReply k why kind bytes) e

  -- Exchanges fail as listed.

  pub fails_as_listed : (r : Result runs.Run RunStop) → Leaves p fuel r before after → FailsAsListed r before after
  fails_as_listed (Ok run) e = subst (λ k. NoneFails k before.server) (sym e.exchanges_so) (none_failed (length e.past.sent) before.server after.server e.done.counts)
  fails_as_listed (Err stops.WriteFault) e = tt
  fails_as_listed (Err stops.Memory) e = tt
  fails_as_listed (Err (stops.LinkFault k)) e =
      let s = e.stops_so in
      let count = sym s.gives_none.0 in (
        subst (λ n. NoneFails n before.server) count (none_failed (length e.past.sent) before.server s.server s.counts),
        subst (λ n. FailsAfter n before.server) count (failed_after (length e.past.sent) before.server s.server after.server s.counts s.lost.0),
      )
  fails_as_listed (Err (stops.BadReply k why kind bytes)) e =
      let s = e.stops_so in
      let n = length e.past.sent in
      subst (λ m. NoneFails (suc m) before.server) (sym s.gives_none.0) (none_failed (suc n) before.server after.server (counts_more n (suc n) before.server s.server after.server refl s.counts s.lost.0))
