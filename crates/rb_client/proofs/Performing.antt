-- A batch is performed as the definition performs it, where its division was found.
use Rattle.std.proofs.Common.{◌≡◌, refl, sym, ap, ◌∙◌, subst, ℕ, suc, ◌+◌, arith, List, [], ◌∷◌, ◌++◌, map, length, length-append, append_assoc, append-nil}
use Rattle.std.specs.Prelude.{Bool, true, false, Option, None, Some, OnOk, Result, Ok, Err}
use Rattle.rb_trees.specs.declared.declarations.Class as class
use Rattle.rb_trees.specs.declared.outcomes.Raised.{Raised}
use Rattle.rb_trees.specs.declared.remainders.Split.{Split}
use Rattle.rb_trees.specs.mirror.Declarations.{Program, mirror_class, mirror_program}
use Rattle.rb_trees.specs.mirror.Forests.{Node}
use Rattle.rb_trees.specs.mirror.Remainders.{mirror_parts}
use Rattle.rb_meaning_bytes.specs.formats.Messages.{Sent}
use Rattle.rb_meaning_bytes.specs.formats.Payloads.{IsRequestOf}
use Rattle.rb_meaning_bytes.specs.formats.ScriptPayloads.{Means}
use Rattle.rb_meaning_code.specs.Dialogue.{Outcome, Gave, Faulted}
use Rattle.rb_meaning_code.specs.Faults.{input_too_large, raised}
use Rattle.rb_meaning_code.specs.State.{Local, Names}
use Rattle.rb_meaning.specs.Answers.{forest_kind}
use Rattle.rb_meaning.specs.Links.{Pair}
use Rattle.rb_meaning.specs.Shown.{shown_events}
use Rattle.rb_meaning.specs.State as state
use Rattle.rb_meaning.specs.State.{Event}
use Rattle.rb_meaning.specs.Unsplit.{batch_at}
use Rattle.rb_meaning_flow.specs.Outermost.{Outermost}
use Rattle.rb_meaning_split.specs.Client.{are_too_many, begins_or_faults, input_values, lengths, replays, sent_version, sent_for}
use Rattle.rb_meaning_split.specs.Division.{Division, division, mirror_split}
use Rattle.rb_meaning_split.specs.Replay.{Replayed, ended, replay_all}
use Rattle.rb_base.specs.Counts.{risen}
use Rattle.rb_base.specs.Devices.{failed}
use Rattle.rb_base.specs.Sinks.{with_bytes, WrotePrefix}
use Rattle.rb_base.specs.declared.links.Link as links
use Rattle.rb_base.specs.declared.links.Reply.{Reply}
use Rattle.rb_base.specs.declared.sinks.Sink as sinks
use Rattle.rb_base.proofs.Pieces.{bytes_none}
use Rattle.rb_engine.specs.Answers.{Answered, performed}
use Rattle.rb_engine.specs.declared.world.Halt.{Halt}
use Rattle.rb_wire_forest.specs.Opened.{root_of}
use Rattle.rb_wire_forest.specs.declared.forest.Forest.{Forest}
use Rattle.rb_client.specs.Clients.{Fetched, Fetches, HasDone, HoldsBoth, Origin, Past, PerformedAs, PerformsSplit, SeesClient, first_scene, performed_past, scene_of, waiting}
use Rattle.rb_client.specs.Demands.{Demand, demand_of, demanded, meets}
use Rattle.rb_client.specs.Ends.{halted, stepped}
use Rattle.rb_client.specs.Exchanges.{Exchanged, Exchanges, IsExchange}
use Rattle.rb_client.specs.Inputs.{Measures, exceed}
use Rattle.rb_client.specs.Replays.{EndsSo, Replays, outside, remainder_meant}
use Rattle.rb_client.specs.Replies.{HasReason, Takes, more_pairs, pair_of, pairs_of, refused_pairs}
use Rattle.rb_client.specs.Requests.{to_send}
use Rattle.rb_client.specs.Runs.{ExchangedAll, FailsInBatch}
use Rattle.rb_client.specs.Scenes.{Scene, scene}
use Rattle.rb_client.specs.Serving.{Counts, GivesMisfit, server_of}
use Rattle.rb_client.specs.Worlds.{output}
use Rattle.rb_client.specs.declared.client_world.ClientWorld.{ClientWorld}
use Rattle.rb_client.specs.declared.early.Early.{Early}
use Rattle.rb_client.specs.declared.early.Early.TheVariants as early
use Rattle.rb_client.specs.declared.stops.RunStop.{RunStop}
use Rattle.rb_client.specs.declared.stops.RunStop.TheVariants as stops
use Rattle.rb_client.proofs.Divided.{position}
use Rattle.rb_client.proofs.Events.{shown_append, shown_batch}
use Rattle.rb_client.proofs.Fronts.{beyond_whole}
use Rattle.rb_client.proofs.Serving.{counts_more, none_failed, performed_before, performed_on}
use Rattle.rb_client.proofs.Showing.{batch_more}
use Rattle.rb_client.proofs.Traded.{Trades, traded, unread, untraded}

-- one exchange more
exchanges_more : (p : Program) (pairs : List Pair) (sent : List Sent) (nodes : List Node) (pair : Pair) (x : Sent) (n : Node) → Exchanges p pairs sent nodes → IsExchange p pair x n → Exchanges p (pairs ++ pair ∷ []) (sent ++ x ∷ []) (nodes ++ n ∷ [])
exchanges_more p [] [] [] pair x n e i = (i, tt)
exchanges_more p (a ∷ pairs) (b ∷ sent) (c ∷ nodes) pair x n e i = (e.0, exchanges_more p pairs sent nodes pair x n e.1 i)
exchanges_more p [] [] (c ∷ nodes) pair x n e i = absurd e
exchanges_more p [] (b ∷ sent) [] pair x n e i = absurd e
exchanges_more p [] (b ∷ sent) (c ∷ nodes) pair x n e i = absurd e
exchanges_more p (a ∷ pairs) [] [] pair x n e i = absurd e
exchanges_more p (a ∷ pairs) [] (c ∷ nodes) pair x n e i = absurd e
exchanges_more p (a ∷ pairs) (b ∷ sent) [] pair x n e i = absurd e

pairs_twice : (before : Option (List Pair)) (a b : List Pair) → more_pairs b (more_pairs a before) ≡ more_pairs (a ++ b) before
pairs_twice None a b = refl
pairs_twice (Some pairs) a b = ap Some (append_assoc pairs a b)

exchanged_more : (p : Program) (before mid after : Option (List Pair)) (sent : List Sent) (nodes : List Node) (pair : Pair) (x : Sent) (n : Node) → Exchanged p before mid sent nodes → after ≡ more_pairs (pair ∷ []) mid → IsExchange p pair x n
    → Exchanged p before after (sent ++ x ∷ []) (nodes ++ n ∷ [])
exchanged_more p before mid after sent nodes pair x n e is i = record {
  pairs = e.pairs ++ pair ∷ [];
  pairs_so = is ∙ ap (more_pairs (pair ∷ [])) e.pairs_so ∙ pairs_twice before e.pairs (pair ∷ []);
  exchanges = exchanges_more p e.pairs sent nodes pair x n e.exchanges i;
}

-- what is sent is what the division says
sent_so : (split : Split) (d : Division) (l : Local) → mirror_split split ≡ d → to_send split l.names ≡ sent_for d l
sent_so split d l is = ap (λ x. sent_for x l) is

-- what is demanded of the node
abbrev pub wanted : Split → Names → Demand
wanted split names = demanded split.remainder (lengths (input_values split.inputs names))

-- .. by the numbers of items that were told
wanted_so : (split : Split) (names : Names) (counts : List ℕ) → Measures split.inputs names (Some counts) → demanded split.remainder counts ≡ wanted split names
wanted_so split names counts m = ap (demanded split.remainder) m.1

-- The exchange of a batch and the reading of its reply: all else stands, but for the count of exchanges.
pub record Tried {L W : Type 0} (gl : links.Ghosts L) (split : Split) (names : Names) (w : ClientWorld L W) (result : Result Node RunStop) (w' : ClientWorld L W) : Type 0 where
  pub request : List ℕ
  pub request_so : IsRequestOf sent_version request (to_send split names).script (to_send split names).values
  pub means : Means request (Ok (to_send split names))
  pub trades : Trades gl (wanted split names) w.exchanges request w.link.now result w'.link.now
  pub same_link : w'.link.ghost_name ≡ w.link.ghost_name
  pub same_plan : w'.plan ≡ w.plan
  pub same_output : w'.out ≡ w.out
  pub counted : OnOk result (w'.exchanges ≡ w.exchanges + 1)

-- they gave no node, unless memory ran out
abbrev pub InVain : {L W : Type 0} → links.Ghosts L → Split → Names → ClientWorld L W → RunStop → ClientWorld L W → Type 0
InVain gl split names w stops.Memory w' = Unit {0}
InVain gl split names w stop w' = Tried gl split names w (Err stop) w'

module _ {L W : Type 0} (gl : links.Ghosts L) (split : Split) (names : Names) (w w1 w2 : ClientWorld L W) where
  tried_so : (q : Result Reply RunStop) (r : Result Node RunStop) (f : Fetched gl split names w q w1) → w2.link ≡ w1.link → w2.plan ≡ w1.plan → w2.out ≡ w1.out → OnOk r (w2.exchanges ≡ w.exchanges + 1)
      → Trades gl (wanted split names) w.exchanges f.request w.link.now r w1.link.now → Tried gl split names w r w2
  tried_so q r f link plan out count t = record {
    request = f.request;
    request_so = f.request_so;
    means = f.means;
    trades = subst (λ x. Trades gl (wanted split names) w.exchanges f.request w.link.now r x.now) (sym link) t;
    same_link = ap (λ x. x.ghost_name) link ∙ f.same_link;
    same_plan = plan ∙ f.same_plan;
    same_output = out ∙ f.same_output;
    counted = count;
  }

  -- the forest of the reply was read
  pub read_so : (counts : List ℕ) → Measures split.inputs names (Some counts) → (reply : Reply) (forest : Forest) (done next : ℕ) (f : Fetched gl split names w (Ok reply) w1) → done ≡ w.exchanges
      → Takes (demanded split.remainder counts) done reply.kind reply.payload.items (Ok forest)
      → w2.link ≡ w1.link → w2.plan ≡ w1.plan → w2.out ≡ w1.out → w2.exchanges ≡ next → next ≡ done + 1 → Tried gl split names w (Ok (root_of forest)) w2
  read_so counts measured reply forest done next f is h link plan out count more =
      tried_so (Ok reply) (Ok (root_of forest)) f link plan out (omega (arith, is, count, more))
      (traded gl (wanted split names) w.exchanges f.request w.link.now w1.link.now reply f.replied forest
      (subst (λ d. Takes d done reply.kind reply.payload.items (Ok forest)) (wanted_so split names counts measured) h))

module _ {L W : Type 0} (gl : links.Ghosts L) (split : Split) (names : Names) (w w1 : ClientWorld L W) where
  -- there was no whole reply
  pub unanswered : (stop : RunStop) → Fetches gl split names w (Err stop) w1 → InVain gl split names w stop w1
  unanswered (stops.LinkFault k) f = tried_so gl split names w w1 w1 (Err (stops.LinkFault k)) (Err (stops.LinkFault k)) f refl refl refl tt f.replied
  unanswered (stops.BadReply k why kind bytes) f =
      tried_so gl split names w w1 w1 (Err (stops.BadReply k why kind bytes)) (Err (stops.BadReply k why kind bytes)) f refl refl refl tt
      (untraded gl (wanted split names) w.exchanges f.request w.link.now w1.link.now (stops.BadReply k why kind bytes) f.replied)
  unanswered stops.WriteFault f = absurd f.replied
  unanswered stops.Memory f = tt

  -- the reply was refused
  pub refused_so : (counts : List ℕ) → Measures split.inputs names (Some counts) → (reply : Reply) (stop : RunStop) → Fetched gl split names w (Ok reply) w1
      → Takes (demanded split.remainder counts) w.exchanges reply.kind reply.payload.items (Err stop) → InVain gl split names w stop w1
  refused_so counts measured reply (stops.LinkFault k) f h = absurd h
  refused_so counts measured reply (stops.BadReply k why kind bytes) f h =
      tried_so gl split names w w1 w1 (Ok reply) (Err (stops.BadReply k why kind bytes)) f refl refl refl tt
      (unread gl (wanted split names) w.exchanges f.request w.link.now w1.link.now reply f.replied (stops.BadReply k why kind bytes)
      (subst (λ d. Takes d w.exchanges reply.kind reply.payload.items (Err (stops.BadReply k why kind bytes))) (wanted_so split names counts measured) h))
  refused_so counts measured reply stops.WriteFault f h = absurd h
  refused_so counts measured reply stops.Memory f h = tt

-- a batch that is found by its division has too many items just where its inputs have
limit_so : (p : Program) (split : Split) (b : Outermost) (l : Local) (t : Bool) → mirror_split split ≡ division p b → exceed split.inputs l.names ≡ t → are_too_many (division p b) l ≡ t
limit_so p split b l t is e = ap (λ d. are_too_many d l) (sym is) ∙ e

-- a batch with too many items ends by a fault, and nothing else is done
pub faults_so : {L W : Type 0} (gl : links.Ghosts L) (gw : sinks.Ghosts W) (split : Split) (w : ClientWorld L W) (l : Local) (r : Raised) → exceed split.inputs l.names ≡ true → r ≡ raised input_too_large split.at
    → PerformsSplit gl gw split w l (Ok (Faulted r l)) w
faults_so gl gw split w l r many same = λ o h b sees stands is.
    let place : r ≡ raised input_too_large b.at = same ∙ ap (raised input_too_large) (ap (λ d. d.at) is ∙ position o.program b) in (
      [],
      h,
      sees,
      sym (append-nil h.nodes),
      λ more. ap (λ t. begins_or_faults t o.program b l (waiting h more)) (limit_so o.program split b l true is many) ∙ ap (λ x. (Faulted x l, waiting h more)) (sym place),
    )

-- the World after the exchange, and after the remainder
pub record After {L W : Type 0} (w1 w2 : ClientWorld L W) (out : W) : Type 0 where
  pub same_plan : w2.plan ≡ w1.plan
  pub same_link : w2.link ≡ w1.link
  pub same_output : w2.out.ghost_name ≡ w1.out.ghost_name
  pub now : w2.out.now ≡ out
  pub exchanges_so : w2.exchanges ≡ w1.exchanges

module _ {L W : Type 0} (gl : links.Ghosts L) (gw : sinks.Ghosts W) (split : Split) (classes : List class.Class) (w w1 w2 : ClientWorld L W) (out : W) (n : Node) (l l1 : Local)
    (few : exceed split.inputs l.names ≡ false) (own : classes ≡ w.plan.now.program.classes) (fetched : Tried gl split l.names w (Ok n) w1) (after : After w1 w2 out) where
  module _ (o : Origin L W) (h : Past) (b : Outermost) (sees : SeesClient gl gw o w h) (stands : batch_at o.program split.at ≡ Some b) (is : mirror_split split ≡ division o.program b) where
    abbrev d : Division
    d = division o.program b

    abbrev begun : List Event
    begun = h.events ++ state.Batch ∷ []

    abbrev meant : Replayed
    meant = replays o.program d l begun n

    abbrev past : Past
    past = performed_past o.program d l h n

    meant_so : remainder_meant classes split.remainder n l.fuel l begun ≡ meant
    meant_so =
        ap (λ cs. outside (length l.names) (replay_all cs l.fuel (mirror_parts split.remainder) l (record { events = begun; node = n }) ended)) (ap (map mirror_class) own ∙ ap (λ x. x.classes) sees.program_so)
        ∙ ap (λ ps. outside (length l.names) (replay_all o.program.classes l.fuel ps l (record { events = begun; node = n }) ended)) (ap (λ x. x.remainder) is)

    abbrev first : Scene
    first = first_scene gl gw o

    -- the scene after the exchange, and after the remainder
    abbrev last : Scene
    last = scene gl gw w1.link.now out

    written_so : output gw w1.out.now ≡ with_bytes first.out (shown_events begun)
    written_so = ap (λ x. output gw x.now) fetched.same_output ∙ sees.done.written ∙ ap (with_bytes first.out) (sym (shown_batch h.events))

    exchange_so : IsExchange o.program (pair_of fetched.request forest_kind fetched.trades.reply) (sent_for d l) n
    exchange_so = record {
      at = split.at;
      batch = b;
      stands = stands;
      version_so = refl;
      script_so = refl;
      request = subst (λ x. IsRequestOf x.version fetched.request x.script x.values) (sent_so split d l is) fetched.request_so;
      kind = refl;
      reply = fetched.trades.forest.spells;
      fits_so = subst (λ x. meets (demand_of x l) n ≡ Ok tt) is fetched.trades.forest.fits_so;
    }

    exchanged_so : ExchangedAll o.program first last past.sent past.nodes
    exchanged_so = record {
      exchanged = exchanged_more o.program first.pairs (pairs_of gl w.link.now) last.pairs h.sent h.nodes (pair_of fetched.request forest_kind fetched.trades.reply) (sent_for d l) n
          sees.done.exchanged.exchanged fetched.trades.pairs_so exchange_so;
      lends_so = fetched.trades.lends_so ∙ sees.done.exchanged.lends_so;
      stays = λ honest. fetched.trades.stays (sees.done.exchanged.stays honest);
      stays_quiet = λ quiet. fetched.trades.stays_quiet (sees.done.exchanged.stays_quiet quiet);
      served = λ honest.
          performed_on first.quiet first.server (server_of gl w.link.now) last.server h.sent (sent_for d l ∷ []) h.nodes (n ∷ []) (sees.done.exchanged.served honest)
          (performed_before first.quiet (gl.quiet w.link.now) (server_of gl w.link.now) last.server (sent_for d l ∷ []) (n ∷ []) sees.done.exchanged.stays_quiet
          (fetched.trades.served (sees.done.exchanged.stays honest) (sent_for d l) (subst (λ x. Means fetched.request (Ok x)) (sent_so split d l is) fetched.means)));
    }

    longer : suc (length h.sent) ≡ length past.sent
    longer = omega (arith, length-append h.sent (sent_for d l ∷ []))

    counts_so : Counts (length past.sent) first.server last.server
    counts_so = counts_more (length h.sent) (length past.sent) first.server (server_of gl w.link.now) last.server longer sees.done.counts fetched.trades.counts

    done_so : output gw out ≡ with_bytes first.out (shown_events meant.events) → HasDone o.program first last past
    done_so e = record {
      written = e;
      exchanged = exchanged_so;
      faults_so = fetched.trades.faults_so ∙ sees.done.faults_so;
      counts = counts_so;
    }

    -- of the World as it is then
    at_last : (Holds : Scene → Type 0) → Holds last → Holds (scene_of gl gw w2)
    at_last Holds h = subst (λ x. Holds (scene gl gw x.now w2.out.now)) (sym after.same_link) (subst (λ x. Holds (scene gl gw w1.link.now x)) (sym after.now) h)

    holds : HoldsBoth o w2
    holds = record {
      same_output = after.same_output ∙ ap (λ x. x.ghost_name) fetched.same_output ∙ sees.holds.same_output;
      same_link = ap (λ x. x.ghost_name) after.same_link ∙ fetched.same_link ∙ sees.holds.same_link;
    }

    sees_after : output gw out ≡ with_bytes first.out (shown_events meant.events) → SeesClient gl gw o w2 past
    sees_after e =
        let a = after.exchanges_so in
        let c = fetched.counted in
        let s = sees.exchanges_so in
        record {
          program_so = ap (λ x. mirror_program x.now.program) (after.same_plan ∙ fetched.same_plan) ∙ sees.program_so;
          holds = holds;
          done = at_last (λ x. HasDone o.program first x past) (done_so e);
          exchanges_so = omega (arith, a, c, s, length-append h.sent (sent_for d l ∷ []));
        }

    gave : (e : Outcome (Unit {0})) → (meant.outcome ≡ e) × (output gw out ≡ with_bytes first.out (shown_events meant.events)) → PerformedAs gl gw o h (Some b) split.at l (Ok e) w2
    gave e (same, wrote) = (
      n ∷ [],
      past,
      sees_after wrote,
      refl,
      λ more. ap (λ t. begins_or_faults t o.program b l (waiting h (n ∷ more))) (limit_so o.program split b l false is few) ∙ ap (λ x. (x, waiting past more)) same,
    )

    -- A write failed in what was replayed: all that was shown before the batch stands.
    failed_so : WrotePrefix (failed first.out) (output gw out) (shown_events meant.events) → (shown : List ℕ) → WrotePrefix (failed (output gw w1.out.now)) (output gw out) shown → FailsInBatch o.program first last d l (waiting h []) h.nodes
    failed_so front shown kept =
        let m = batch_more o.program d l h.events n in
        let shows : shown_events meant.events ≡ shown_events h.events ++ shown_events m.0 = ap shown_events m.1 ∙ shown_append h.events m.0 in
        record {
          begins = limit_so o.program split b l false is few;
          node = n;
          own = m.0;
          own_so = m.1;
          fails = record {
            written = beyond_whole first.out (output gw w1.out.now) (output gw out) (shown_events h.events) (shown_events m.0) shown
                (written_so ∙ ap (with_bytes first.out) (shown_batch h.events)) (subst (WrotePrefix (failed first.out) (output gw out)) shows front) kept;
            exchanged = exchanged_so;
            faults_so = fetched.trades.faults_so ∙ sees.done.faults_so;
            none_listed = none_failed (length past.sent) first.server last.server counts_so;
          };
        }

    by_end : (r : Result (Unit {0}) Early) → EndsSo gw first.out meant r l1 out → (again : Replayed) → EndsSo gw (output gw w1.out.now) again r l1 out → Answered (performed l1 (stepped r)) (λ e. PerformedAs gl gw o h (Some b) split.at l e w2)
    by_end (Ok u) e again kept = gave (Gave tt l1) e
    by_end (Err (early.Raised f)) e again kept = gave (Faulted f l1) e
    by_end (Err early.WriteFault) e again kept = (holds, at_last (λ x. FailsInBatch o.program first x d l (waiting h []) h.nodes) (failed_so e (shown_events again.events) kept))
    by_end (Err early.Memory) e again kept = tt

  each : (r : Result (Unit {0}) Early)
      → ((o : Origin L W) (h : Past) (b : Outermost) → SeesClient gl gw o w h → batch_at o.program split.at ≡ Some b → mirror_split split ≡ division o.program b → Answered (performed l1 (stepped r)) (λ e. PerformedAs gl gw o h (Some b) split.at l e w2))
      → Answered (performed l1 (stepped r)) (λ e. PerformsSplit gl gw split w l e w2)
  each (Ok u) f = f
  each (Err (early.Raised x)) f = f
  each (Err early.WriteFault) f = f
  each (Err early.Memory) f = tt

  pub performs_so : (r : Result (Unit {0}) Early) (q : Result (Result (Unit {0}) Raised) (Halt RunStop)) → q ≡ stepped r → Replays gw (remainder_meant classes split.remainder n) l w1.out.now r l1 out
      → Answered (performed l1 q) (λ e. PerformsSplit gl gw split w l e w2)
  performs_so r q same replayed =
      subst (λ x. Answered (performed l1 x) (λ e. PerformsSplit gl gw split w l e w2)) (sym same)
      (each r (λ o h b sees stands is.
      by_end o h b sees stands is r
      (subst (λ x. EndsSo gw (first_scene gl gw o).out x r l1 out) (meant_so o h b sees stands is)
      (replayed.ends l.fuel (omega arith) (first_scene gl gw o).out (begun o h b sees stands is) (written_so o h b sees stands is)))
      (remainder_meant classes split.remainder n l.fuel l []) (replayed.ends l.fuel (omega arith) (output gw w1.out.now) [] (sym (bytes_none (output gw w1.out.now))))))

-- the exchange gave no node
pub stops_so : {L W : Type 0} (gl : links.Ghosts L) (gw : sinks.Ghosts W) (split : Split) (w w1 : ClientWorld L W) (l : Local) (stop : RunStop) (x : Halt RunStop) → exceed split.inputs l.names ≡ false → x ≡ halted stop → InVain gl split l.names w stop w1
    → Answered (performed {X = RunStop} l (Err x)) (λ e. PerformsSplit gl gw split w l e w1)
stops_so {L = L} {W = W} gl gw split w w1 l stop x few same h = subst (λ y. Answered (performed {X = RunStop} l (Err y)) (λ e. PerformsSplit gl gw split w l e w1)) (sym same) (by_stop stop h)
  where
    meant : (request : List ℕ) (d : Division) → mirror_split split ≡ d → Means request (Ok (to_send split l.names)) → Means request (Ok (sent_for d l))
    meant request d e m = subst (λ x. Means request (Ok x)) (sent_so split d l e) m

    held : (o : Origin L W) (h : Past) → SeesClient gl gw o w h → w1.out ≡ w.out → w1.link.ghost_name ≡ w.link.ghost_name → HoldsBoth o w1
    held o h sees output link = record { same_output = ap (λ y. y.ghost_name) output ∙ sees.holds.same_output; same_link = link ∙ sees.holds.same_link }

    by_stop : (stop : RunStop) → InVain gl split l.names w stop w1 → Answered (performed {X = RunStop} l (Err (halted stop))) (λ e. PerformsSplit gl gw split w l e w1)
    by_stop (stops.LinkFault k) f = λ o h b sees stands is. (
      held o h sees f.same_output f.same_link,
      record {
        begins = limit_so o.program split b l false is few;
        server = server_of gl w.link.now;
        written = ap (λ y. output gw y.now) f.same_output ∙ sees.done.written;
        gives_none = (
          f.trades.0 ∙ sees.exchanges_so,
          record { pairs = sees.done.exchanged.exchanged.pairs; pairs_so = f.trades.1.pairs_so ∙ sees.done.exchanged.exchanged.pairs_so; exchanges = sees.done.exchanged.exchanged.exchanges },
          f.trades.1.faults_so ∙ ap risen sees.done.faults_so,
        );
        lends_so = f.trades.1.lends_so ∙ sees.done.exchanged.lends_so;
        counts = sees.done.counts;
        served = sees.done.exchanged.served;
        lost = (
          f.trades.1.counts,
          let lost = f.trades.1.lost (sent_for (division o.program b) l) (meant f.request (division o.program b) is f.means) in
              let done = sees.done.exchanged in
              record { fitting = λ honest. lost.fitting (done.stays honest); standing = λ honest quiet. lost.standing (done.stays honest) (done.stays_quiet quiet) },
        );
      },
    )
    by_stop (stops.BadReply k why kind bytes) f = λ o h b sees stands is. (
      held o h sees f.same_output f.same_link,
      record {
        begins = limit_so o.program split b l false is few;
        server = server_of gl w.link.now;
        written = ap (λ y. output gw y.now) f.same_output ∙ sees.done.written;
        gives_none = (
          f.trades.0 ∙ sees.exchanges_so,
          subst (λ y. HasReason why (demand_of y l) kind bytes) is f.trades.1.reason_so,
          record {
            pairs = sees.done.exchanged.exchanged.pairs;
            request = f.request;
            request_so = subst (λ x. IsRequestOf x.version f.request x.script x.values) (sent_so split (division o.program b) l is) f.request_so;
            pairs_so = f.trades.1.pairs_so ∙ ap (more_pairs (refused_pairs why (pair_of f.request kind bytes))) sees.done.exchanged.exchanged.pairs_so;
            exchanges = sees.done.exchanged.exchanged.exchanges;
          },
          f.trades.1.faults_so ∙ sees.done.faults_so,
        );
        lends_so = f.trades.1.lends_so ∙ sees.done.exchanged.lends_so;
        counts = sees.done.counts;
        served = sees.done.exchanged.served;
        lost = (
          f.trades.1.counts,
          λ honest.
              subst (λ y. GivesMisfit (server_of gl w.link.now) (sent_for (division o.program b) l) (demand_of y l)) is
              (f.trades.1.misfit (sees.done.exchanged.stays honest) (sent_for (division o.program b) l) (meant f.request (division o.program b) is f.means)),
        );
      },
    )
    by_stop stops.WriteFault f = absurd f.trades
    by_stop stops.Memory f = tt
