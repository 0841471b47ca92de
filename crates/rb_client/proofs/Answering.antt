-- The World of replayed code answers as the surroundings of the definition do.
use Rattle.std.proofs.Common.{◌≡◌, refl, sym, ap, ◌∙◌, subst, ℕ, List, ◌∷◌}
use Rattle.std.specs.Prelude.{Result, Ok, Err}
use Rattle.std.specs.Borrow.{MutBor}
use Rattle.rb_trees.specs.declared.values.Value.{Value}
use Rattle.rb_trees.specs.declared.values.Value.TheVariants as value
use Rattle.rb_trees.specs.declared.outcomes.Raised.{Raised}
use Rattle.rb_meaning_code.specs.Dialogue as ask
use Rattle.rb_meaning_code.specs.Dialogue.{Surroundings, handle}
use Rattle.rb_meaning.specs.Shown.{line, shown_events}
use Rattle.rb_meaning.specs.State.{Event}
use Rattle.rb_meaning_split.specs.Replay.{Seen, in_replay, taken, with_taken}
use Rattle.rb_base.specs.Devices.{Device, failed}
use Rattle.rb_base.specs.Sinks.{with_bytes, WrotePrefix}
use Rattle.rb_base.specs.declared.sinks.Failed.{Failed}
use Rattle.rb_base.specs.declared.sinks.Sink as sinks
use Rattle.rb_base.proofs.Pieces.{both_whole, fails_next}
use Rattle.rb_engine.specs.Answers.{Answered}
use Rattle.rb_engine.specs.declared.world.Halt.{Halt}
use Rattle.rb_engine.specs.declared.world.Halt.TheVariants as halt
use Rattle.rb_wire_forest.specs.Opens.{Open, AtNode}
use Rattle.rb_wire_forest.specs.Opened.{opened}
use Rattle.rb_client.specs.Ends.{flattened}
use Rattle.rb_client.specs.Events.{More}
use Rattle.rb_client.specs.Missed.{taken_open}
use Rattle.rb_client.specs.Worlds.{CutsReplay, Prints, SeesOpen, SeesReplay, Takes, Told, output, replay_answers, replay_performs, replay_view}
use Rattle.rb_client.specs.declared.early.Early.{Early}
use Rattle.rb_client.specs.declared.replay_world.ReplayWorld.{ReplayWorld}
use Rattle.rb_client.proofs.Events.{adding, replay_more, shown_line}
use Rattle.rb_client.proofs.Fronts.{front_later}
use Rattle.rb_client.proofs.Missed.{taken_at}
use Rattle.rb_client.proofs.Told.{AnswersAs}

pub cut_later : {W : Type 0} (g : sinks.Ghosts W) (out : MutBor W) (start : Device (List ℕ)) (w : ReplayWorld W) (es fs : List Event) → More es fs → CutsReplay g out start w es → CutsReplay g out start w fs
cut_later g out start w es fs more c = record { same_output = c.same_output; written = front_later start (output g w.out.now) es fs more c.written }

-- the World of replayed code as surroundings
abbrev pub within : {W : Type 0} → sinks.Ghosts W → Surroundings (ReplayWorld W) Failed
within g = record { answers = replay_answers g; performs = replay_performs g }

pub replay_as : {W : Type 0} (g : sinks.Ghosts W) (out : MutBor W) (start : Device (List ℕ)) (below : List Open) → AnswersAs (replay_view g out start below) (within g) in_replay
replay_as g out start below = record {
  questions = λ w w' s q r sees answered. answered out start below s sees;
  batches = λ w w' s at l r sees performed. performed out start below s sees;
  later = λ A w s d c. cut_later g out start w s.events (handle in_replay d s).1.events (replay_more adding d s) c;
}

-- Lines.

-- a line was written whole
pub line_whole : {W : Type 0} (g : sinks.Ghosts W) (w w' : ReplayWorld W) (bytes : List ℕ) → w'.left ≡ w.left → w'.out.ghost_name ≡ w.out.ghost_name
    → output g w'.out.now ≡ with_bytes (output g w.out.now) (line bytes) → Prints g w bytes (Ok (Ok value.Unit)) w'
line_whole g w w' bytes same name e = λ out start below s sees. (
  refl,
  record {
    same_output = name ∙ sees.same_output;
    written = both_whole start (output g w.out.now) (output g w'.out.now) (shown_events s.events) (line bytes) sees.written e ∙ ap (with_bytes start) (sym (shown_line s.events bytes));
    open_so = ap opened same ∙ sees.open_so;
  },
)

-- a write failed in a line
pub line_cut : {W : Type 0} (g : sinks.Ghosts W) (w w' : ReplayWorld W) (bytes : List ℕ) (stop : Failed) → w'.out.ghost_name ≡ w.out.ghost_name
    → WrotePrefix (failed (output g w.out.now)) (output g w'.out.now) (line bytes) → Prints g w bytes (Err stop) w'
line_cut g w w' bytes stop name h = λ out start below s sees. record {
  same_output = name ∙ sees.same_output;
  written = subst (λ t. WrotePrefix (failed start) (output g w'.out.now) t) (sym (shown_line s.events bytes))
      (fails_next start (output g w.out.now) (output g w'.out.now) (shown_events s.events) (line bytes) sees.written h);
}

-- What was kept.

-- where the World stands after it read
pub sees_moved : {W : Type 0} (g : sinks.Ghosts W) (out : MutBor W) (start : Device (List ℕ)) (os os1 : List Open) (w w' : ReplayWorld W) (events : List Event) → SeesOpen g out start os w events → w'.out ≡ w.out → opened w'.left ≡ os1
    → SeesOpen g out start os1 w' events
sees_moved g out start os os1 w w' events sees same left = record {
  same_output = ap (λ o. o.ghost_name) same ∙ sees.same_output;
  written = ap (λ o. output g o.now) same ∙ sees.written;
  open_so = left;
}

-- what the definition reads, where the World is seen as its surroundings
pub taken_seen : {W : Type 0} (g : sinks.Ghosts W) (out : MutBor W) (start : Device (List ℕ)) (below : List Open) (w w' : ReplayWorld W) (s : Seen) (step : ℕ) (a : Result Value Raised) → SeesReplay g out start below w s
    → taken_open step (opened w.left) ≡ (a, opened w'.left) → w'.out ≡ w.out → (taken step s.node ≡ (a, (taken step s.node).1)) × SeesReplay g out start below w' (record s { node = (taken step s.node).1 })
taken_seen g out start below w w' s step a sees e same =
    let is : ((taken step s.node).0, AtNode (taken step s.node).1 ∷ below) ≡ (a, opened w'.left) = sym (taken_at step s.node below) ∙ ap (taken_open step) (sym sees.open_so) ∙ e in (
      ap (λ x. (x, (taken step s.node).1)) (ap (λ (x : Result Value Raised × List Open). x.0) is),
      sees_moved g out start (AtNode s.node ∷ below) (AtNode (taken step s.node).1 ∷ below) w w' s.events sees same (sym (ap (λ (x : Result Value Raised × List Open). x.1) is)),
    )

-- the answer to code that asks for it
pub taken_answered : {W : Type 0} (g : sinks.Ghosts W) (w w' : ReplayWorld W) (step : ℕ) (t : Result Value Early) (r : Result (Result Value Raised) (Halt Failed)) → flattened r ≡ t → Takes (taken_open step (opened w.left)) w t w'
    → Answered r (λ a. replay_answers g w (ask.Taken step) a w')
taken_answered g w w' step t r same h = by_result r (subst (λ x. Takes (taken_open step (opened w.left)) w x w') (sym same) h)
  where
    answers : (a : Result Value Raised) → taken_open step (opened w.left) ≡ (a, opened w'.left) → w'.out ≡ w.out → replay_answers g w (ask.Taken step) (Ok a) w'
    answers a e out_same = λ out start below s sees.
        let k = taken_seen g out start below w w' s step a sees e out_same in
        subst (λ x. Told {X = Failed} (replay_view g out start below) (Ok a) w' (with_taken s x)) (sym k.0) (refl, k.1)

    by_result : (r : Result (Result Value Raised) (Halt Failed)) → Takes (taken_open step (opened w.left)) w (flattened r) w' → Answered r (λ a. replay_answers g w (ask.Taken step) a w')
    by_result (Ok (Ok v)) h = answers (Ok v) h.0 h.1
    by_result (Ok (Err f)) h = answers (Err f) h.0 h.1
    by_result (Err halt.Memory) h = tt
    by_result (Err (halt.World x)) h = absurd h
