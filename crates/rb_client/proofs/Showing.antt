-- What a client shows: its batches only add events, with one for each script that it sends.
use Rattle.std.proofs.Common.{◌≡◌, refl, ◌∙◌, arith, ℕ, ◌+◌, List, [], ◌∷◌, ◌++◌, length, length-append}
use Rattle.std.specs.Prelude.{Bool, true, false, Option, None, Some}
use Rattle.rb_trees.specs.mirror.Declarations.{Program}
use Rattle.rb_trees.specs.mirror.Forests.{Node}
use Rattle.rb_meaning_code.specs.Dialogue as ask
use Rattle.rb_meaning_code.specs.Dialogue.{Question, Dialogue, Done, Ask, AskBatch, handle}
use Rattle.rb_meaning_code.specs.Led.{Passes, here, answered, performed}
use Rattle.rb_meaning_code.specs.State.{Local}
use Rattle.rb_meaning.specs.Shown.{exchanges}
use Rattle.rb_meaning.specs.State as state
use Rattle.rb_meaning.specs.State.{Event}
use Rattle.rb_meaning.specs.Unsplit.{batch_at}
use Rattle.rb_meaning_flow.specs.Outermost.{Outermost}
use Rattle.rb_meaning_split.specs.Client.{Waiting, answers_waiting, are_too_many, begins, begins_or_faults, client, in_client, performs_divided, replays_next, sent_for}
use Rattle.rb_meaning_split.specs.Division.{Division, division}
use Rattle.rb_meaning_split.specs.Replay.{ended}
use Rattle.rb_law_client.specs.Reached.{main_run, with_nodes}
use Rattle.rb_client.specs.Events.{More}
use Rattle.rb_client.specs.Runs.{with_batch}
use Rattle.rb_client.proofs.Adding.{ended_adds, parts_more}
use Rattle.rb_client.proofs.Events.{Coming, adding, more_far}

-- A batch only adds events.
pub batch_more : (p : Program) (d : Division) (l : Local) (events : List Event) (n : Node) → More events (with_batch p d l events n)
batch_more p d l events n =
    let begun = events ++ state.Batch ∷ [] in
    more_far events begun (with_batch p d l events n) (state.Batch ∷ [], refl) (parts_more adding p.classes l.fuel d.remainder l (record { events = begun; node = n }) ended (ended_adds adding))

-- A client shows that a batch was begun for each script that it sends.

exchanges_append : (es fs : List Event) → exchanges (es ++ fs) ≡ exchanges es + exchanges fs
exchanges_append [] fs = omega arith
exchanges_append (state.Line bytes ∷ es) fs = exchanges_append es fs
exchanges_append (state.Batch ∷ es) fs = let h = exchanges_append es fs in omega (arith, h)

-- the events that are counted are those, and lines
abbrev counting : Coming
counting = record {
  Later = λ es fs. exchanges fs ≡ exchanges es;
  same = λ es. refl;
  far = λ a b c e f. f ∙ e;
  line = λ es bytes. line_counts es bytes;
}
  where
    line_counts : (es : List Event) (bytes : List ℕ) → exchanges (es ++ state.Line bytes ∷ []) ≡ exchanges es
    line_counts es bytes = let h = exchanges_append es (state.Line bytes ∷ []) in omega (arith, h)

abbrev Counted : Waiting → Type 0
Counted s = exchanges s.events ≡ length s.sent

module _ (p : Program) where
  begun_counted : (d : Division) (l : Local) (s : Waiting) → Counted s → Counted (begins d l s)
  begun_counted d l s h =
      let a = exchanges_append s.events (state.Batch ∷ []) in
      let b = length-append s.sent (sent_for d l ∷ []) in
      omega (arith, h, a, b)

  replayed_counted : (d : Division) (l : Local) (s : Waiting) (ns : List Node) → Counted s → Counted (replays_next p d l s ns).1
  replayed_counted d l s [] h = h
  replayed_counted d l s (n ∷ ns) h = parts_more counting p.classes l.fuel d.remainder l (record { events = s.events; node = n }) ended (ended_adds counting) ∙ h

  begun_or_not : (t : Bool) (b : Outermost) (l : Local) (s : Waiting) → Counted s → Counted (begins_or_faults t p b l s).1
  begun_or_not true b l s h = h
  begun_or_not false b l s h = replayed_counted (division p b) l (begins (division p b) l s) s.nodes (begun_counted (division p b) l s h)

  performed_counted : (b : Option Outermost) (at : ℕ) (l : Local) (s : Waiting) → Counted s → Counted (performs_divided p b at l s).1
  performed_counted None at l s h = h
  performed_counted (Some b) at l s h = begun_or_not (are_too_many (division p b) l) b l s h

  answered_counted : (s : Waiting) (q : Question) → Counted s → Counted (answers_waiting s q).1
  answered_counted s (ask.Line at bytes) h = let a = exchanges_append s.events (state.Line bytes ∷ []) in omega (arith, h, a)
  answered_counted s (ask.Taken step) h = h
  answered_counted s (ask.Invoke at target method args) h = h
  answered_counted s (ask.Turn at) h = h
  answered_counted s (ask.ListTurn at) h = h

  handled_counted : {A : Type 0} (d : Dialogue A) (s : Waiting) → Counted s → Counted (handle (in_client p) d s).1
  handled_counted (Done a) s h = h
  handled_counted (Ask q go) s h = handled_counted (go (answers_waiting s q).0) (answers_waiting s q).1 (answered_counted s q h)
  handled_counted (AskBatch at l go) s h =
      let next = performs_divided p (batch_at p at) at l s in handled_counted (go next.0) next.1 (performed_counted (batch_at p at) at l s h)

  pub client_counted : (fuel : ℕ) (nodes : List Node) → exchanges (client p fuel nodes).events ≡ length (client p fuel nodes).sent
  client_counted fuel nodes = handled_counted (main_run p fuel) (with_nodes nodes) refl

  pub passed_counted : {A : Type 0} (d rest : Dialogue A) (s s' : Waiting) → Passes (in_client p) d s rest s' → Counted s → Counted s'
  passed_counted _ _ _ _ (here d s) h = h
  passed_counted _ _ _ _ (answered q go s s' rest passes) h = passed_counted (go (answers_waiting s q).0) rest (answers_waiting s q).1 s' passes (answered_counted s q h)
  passed_counted _ _ _ _ (performed at l go s s' rest passes) h =
      let next = performs_divided p (batch_at p at) at l s in passed_counted (go next.0) rest next.1 s' passes (performed_counted (batch_at p at) at l s h)
