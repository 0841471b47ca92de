-- The client's World answers as the surroundings of the definition do.
use Rattle.std.proofs.Common.{◌≡◌, refl, sym, ap, ◌∙◌, subst, ℕ, List, [], length, append-nil}
use Rattle.std.specs.Prelude.{None, Some, Result, Ok, Err}
use Rattle.rb_trees.specs.declared.outcomes.Raised.{Raised}
use Rattle.rb_trees.specs.declared.remainders.Split.{Split}
use Rattle.rb_trees.specs.declared.values.Value.{Value}
use Rattle.rb_trees.specs.declared.values.Value.TheVariants as value
use Rattle.rb_trees.specs.mirror.Declarations.{mirror_program}
use Rattle.rb_trees.specs.mirror.Forests.{Node}
use Rattle.rb_meaning_bytes.specs.formats.Messages.{Sent}
use Rattle.rb_meaning_bytes.specs.formats.ScriptPayloads.{taken}
use Rattle.rb_meaning_code.specs.Dialogue as ask
use Rattle.rb_meaning_code.specs.Dialogue.{Question, Outcome, Gave, Faulted}
use Rattle.rb_meaning_code.specs.Faults.{kind, raised}
use Rattle.rb_meaning_code.specs.State.{Local, Names}
use Rattle.rb_meaning.specs.Shown.{line, shown_events}
use Rattle.rb_meaning.specs.Unsplit.{batch_at}
use Rattle.rb_meaning_split.specs.Client.{answers_waiting, performs_divided}
use Rattle.rb_meaning_split.specs.Division.{division, mirror_split}
use Rattle.rb_base.specs.Devices.{failed}
use Rattle.rb_base.specs.Sinks.{with_bytes, WrotePrefix}
use Rattle.rb_base.specs.declared.links.Link as links
use Rattle.rb_base.specs.declared.links.Reply.{Reply}
use Rattle.rb_base.specs.declared.sinks.Sink as sinks
use Rattle.rb_base.proofs.Pieces.{both_whole}
use Rattle.rb_engine.specs.Answers.{Answered, performed}
use Rattle.rb_engine.specs.declared.world.Halt.{Halt}
use Rattle.rb_engine.specs.declared.world.Halt.TheVariants as halt
use Rattle.rb_client.specs.Clients.{Fetched, Fetches, Origin, Past, PerformedAs, PerformsSplit, asked, client_answers, client_performs, first_scene, scene_of, waiting}
use Rattle.rb_client.specs.Exchanges.{AreDivisions, CanBeSent}
use Rattle.rb_client.specs.Replies.{Replied}
use Rattle.rb_client.specs.Requests.{IsRequest, to_send}
use Rattle.rb_client.specs.Runs.{ExchangedAll}
use Rattle.rb_client.specs.Scenes.{scene}
use Rattle.rb_client.specs.Serving.{Counts, server_of}
use Rattle.rb_client.specs.Splits.{split_at}
use Rattle.rb_client.specs.Worlds.{output}
use Rattle.rb_client.specs.declared.client_world.ClientWorld.{ClientWorld}
use Rattle.rb_client.specs.declared.stops.RunStop.{RunStop}
use Rattle.rb_client.specs.declared.stops.RunStop.TheVariants as stops
use Rattle.rb_client.proofs.Divided.{none_found, some_found}
use Rattle.rb_client.proofs.Events.{shown_line}
use Rattle.rb_client.proofs.Serving.{none_failed}

module _ {L W : Type 0} (gl : links.Ghosts L) (gw : sinks.Ghosts W) where
  -- an answer after which nothing is another
  pub answered_still : (w : ClientWorld L W) (q : Question) (a : Result Value Raised) → ((h : Past) (more : List Node) → answers_waiting (waiting h more) q ≡ (a, waiting h more)) → client_answers gl gw w q (Ok a) w
  answered_still w q a e = λ o h sees. (h, sees, refl, λ more. e h more)

  -- Lines.

  -- what was done with the link stands, where only the output changed
  exchanged_still : (o : Origin L W) (w w' : ClientWorld L W) (sent : List Sent) (nodes : List Node) → w'.link ≡ w.link → ExchangedAll o.program (first_scene gl gw o) (scene_of gl gw w) sent nodes → ExchangedAll o.program (first_scene gl gw o) (scene_of gl gw w') sent nodes
  exchanged_still o w w' sent nodes link e =
      subst (λ x. ExchangedAll o.program (first_scene gl gw o) (scene gl gw x.now w'.out.now) sent nodes) (sym link) (record { exchanged = e.exchanged; lends_so = e.lends_so; stays = e.stays; stays_quiet = e.stays_quiet; served = e.served })

  pub line_whole : (w w' : ClientWorld L W) (at : ℕ) (bytes : List ℕ) → w'.plan ≡ w.plan → w'.link ≡ w.link → w'.exchanges ≡ w.exchanges → w'.out.ghost_name ≡ w.out.ghost_name
      → output gw w'.out.now ≡ with_bytes (output gw w.out.now) (line bytes) → client_answers gl gw w (ask.Line at bytes) (Ok (Ok value.Unit)) w'
  line_whole w w' at bytes plan link count name e = λ o h sees. (
    asked (ask.Line at bytes) h,
    record {
      program_so = ap (λ x. mirror_program x.now.program) plan ∙ sees.program_so;
      holds = record { same_output = name ∙ sees.holds.same_output; same_link = ap (λ x. x.ghost_name) link ∙ sees.holds.same_link };
      done = record {
        written = both_whole (first_scene gl gw o).out (output gw w.out.now) (output gw w'.out.now) (shown_events h.events) (line bytes) sees.done.written e ∙ ap (with_bytes (first_scene gl gw o).out) (sym (shown_line h.events bytes));
        exchanged = exchanged_still o w w' h.sent h.nodes link sees.done.exchanged;
        faults_so = ap (λ x. gl.faults x.now) link ∙ sees.done.faults_so;
        counts = subst (λ x. Counts (length h.sent) (first_scene gl gw o).server (server_of gl x.now)) (sym link) sees.done.counts;
      };
      exchanges_so = count ∙ sees.exchanges_so;
    },
    refl,
    λ more. refl,
  )

  pub line_cut : (w w' : ClientWorld L W) (at : ℕ) (bytes : List ℕ) → w'.link ≡ w.link → w'.out.ghost_name ≡ w.out.ghost_name → WrotePrefix (failed (output gw w.out.now)) (output gw w'.out.now) (line bytes)
      → client_answers gl gw w (ask.Line at bytes) (Err stops.WriteFault) w'
  line_cut w w' at bytes link name p = λ o h sees. (
    refl,
    record { same_output = name ∙ sees.holds.same_output; same_link = ap (λ x. x.ghost_name) link ∙ sees.holds.same_link },
    record {
      written = subst (λ d. WrotePrefix (failed d) (output gw w'.out.now) (line bytes)) sees.done.written p;
      exchanged = exchanged_still o w w' h.sent h.nodes link sees.done.exchanged;
      faults_so = ap (λ x. gl.faults x.now) link ∙ sees.done.faults_so;
      none_listed = none_failed (length h.sent) (first_scene gl gw o).server (server_of gl w.link.now) sees.done.counts;
    },
  )

  -- Batches.

  found_in : (w w' : ClientWorld L W) (at : ℕ) (l : Local) (e : Result (Outcome (Unit {0})) RunStop) (split : Split) → AreDivisions w.plan.now.program w.plan.now.splits → split_at w.plan.now.splits at ≡ Some split → PerformsSplit gl gw split w l e w'
      → client_performs gl gw w at l e w'
  found_in w w' at l e split are is h = λ o past sees.
      let f = some_found (mirror_program w.plan.now.program) w.plan.now.splits at split are.divided is in
      let stands : batch_at o.program at ≡ Some f.batch = ap (λ p. batch_at p at) (sym sees.program_so) ∙ f.stands in
      let done = h o past f.batch sees (ap (batch_at o.program) f.place ∙ stands) (f.is ∙ ap (λ p. division p f.batch) sees.program_so) in
      subst (λ b. PerformedAs gl gw o past b at l e w') (sym stands) (subst (λ place. PerformedAs gl gw o past (Some f.batch) place l e w') f.place done)

  pub batch_found : (w w' : ClientWorld L W) (at : ℕ) (l l' : Local) (q : Result (Result (Unit {0}) Raised) (Halt RunStop)) (split : Split) → AreDivisions w.plan.now.program w.plan.now.splits → split_at w.plan.now.splits at ≡ Some split
      → Answered (performed l' q) (λ e. PerformsSplit gl gw split w l e w') → Answered (performed l' q) (λ e. client_performs gl gw w at l e w')
  batch_found w w' at l l' (Ok (Ok u)) split are is h = found_in w w' at l (Ok (Gave tt l')) split are is h
  batch_found w w' at l l' (Ok (Err f)) split are is h = found_in w w' at l (Ok (Faulted f l')) split are is h
  batch_found w w' at l l' (Err halt.Memory) split are is h = tt
  batch_found w w' at l l' (Err (halt.World x)) split are is h = found_in w w' at l (Err x) split are is h

  pub batch_missing : (w : ClientWorld L W) (at : ℕ) (l : Local) (r : Raised) → AreDivisions w.plan.now.program w.plan.now.splits → split_at w.plan.now.splits at ≡ None → r ≡ raised kind at → client_performs gl gw w at l (Ok (Faulted r l)) w
  batch_missing w at l r are is same = λ o h sees.
      let none : batch_at o.program at ≡ None = ap (λ p. batch_at p at) (sym sees.program_so) ∙ none_found (mirror_program w.plan.now.program) w.plan.now.splits at are.divided is in (
        [],
        h,
        sees,
        sym (append-nil h.nodes),
        λ more. ap (λ b. performs_divided o.program b at l (waiting h more)) none ∙ ap (λ x. (Faulted x l, waiting h more)) (sym same),
      )

-- Exchanges.

pub fetch_so : {L W : Type 0} (gl : links.Ghosts L) (split : Split) (names : Names) (w w' : ClientWorld L W) (request slice : List ℕ) (r : Result Reply RunStop) → slice ≡ request → CanBeSent (mirror_split split).script → IsRequest split names request
    → Replied gl w.exchanges slice w.link.now r w'.link.now → w'.link.ghost_name ≡ w.link.ghost_name → w'.plan ≡ w.plan → w'.out ≡ w.out → w'.exchanges ≡ w.exchanges → Fetches gl split names w r w'
fetch_so gl split names w w' request slice r same sent is replied link plan out count = unless_memory r (record {
  request = request;
  request_so = is.spells;
  means = taken (to_send split names) is.spells sent.valid;
  replied = subst (λ x. Replied gl w.exchanges x w.link.now r w'.link.now) same replied;
  same_link = link;
  same_plan = plan;
  same_output = out;
  same_count = count;
})
  where
    unless_memory : (r : Result Reply RunStop) → Fetched gl split names w r w' → Fetches gl split names w r w'
    unless_memory (Ok n) f = f
    unless_memory (Err (stops.LinkFault k)) f = f
    unless_memory (Err (stops.BadReply k why number bytes)) f = f
    unless_memory (Err stops.WriteFault) f = f
    unless_memory (Err stops.Memory) f = tt
