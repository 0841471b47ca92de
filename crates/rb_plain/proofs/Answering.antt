-- The Worlds of a program's code answer as the surroundings of the unsplit meaning do.
use Rattle.std.proofs.Common.{◌≡◌, refl, sym, ap, ◌∙◌, subst, ℕ, List}
use Rattle.std.specs.Prelude.{map, Result, Ok, Err}
use Rattle.rb_trees.specs.declared.values.Value.TheVariants as value
use Rattle.rb_trees.specs.declared.outcomes.Raised.{Raised}
use Rattle.rb_meaning_code.specs.Dialogue as ask
use Rattle.rb_meaning_code.specs.Dialogue.{Question, Dialogue, Surroundings, handle}
use Rattle.rb_meaning.specs.Changes.{all_changed}
use Rattle.rb_meaning.specs.State.{Outside}
use Rattle.rb_meaning.specs.Shown.{line, shown_events}
use Rattle.rb_base.specs.Devices.{Device, failed}
use Rattle.rb_base.specs.Sinks.{with_bytes, WrotePrefix}
use Rattle.rb_base.specs.declared.sinks.Failed.{Failed}
use Rattle.rb_base.specs.declared.sinks.Sink as sinks
use Rattle.rb_base.proofs.Pieces.{both_whole, fails_next, prefix_front}
use Rattle.rb_engine.specs.Answers.{Answer, Answered, as_value}
use Rattle.rb_engine.specs.declared.world.Halt.{Halt}
use Rattle.rb_engine.specs.declared.world.Halt.TheVariants as halt
use Rattle.rb_plain.specs.Batches.{AreBatchesOf}
use Rattle.rb_plain.specs.MainRuns.{surrounds}
use Rattle.rb_plain.specs.Staged.{program_of, service_of}
use Rattle.rb_plain.specs.Worlds.{CutsBatch, Prints, batch_answers, batch_performs, around_view, batch_view, inner, outer, outer_answers, output}
use Rattle.rb_plain.specs.declared.batch_world.BatchWorld.{BatchWorld}
use Rattle.rb_plain.specs.declared.outer_world.OuterWorld.{OuterWorld}
use Rattle.rb_plain.proofs.Events.{More, batch_more, exchanges_line, outer_more, shown_append, shown_line}
use Rattle.rb_plain.proofs.Told.{AnswersAs}

-- a cut in what is shown is one in what is shown later
cut_later : {W : Type 0} (g : sinks.Ghosts W) (first : BatchWorld W) (start : Device (List ℕ)) (w : BatchWorld W) (s s' : Outside) → More s s' → CutsBatch g first start w s → CutsBatch g first start w s'
cut_later g first start w s s' (more, e) c = record {
  same_output = c.same_output;
  written = subst (λ t. WrotePrefix (failed start) (output g w.out.now) t) (sym (ap shown_events e ∙ shown_append s.events more))
      (prefix_front (failed start) (output g w.out.now) (shown_events s.events) (shown_events more) c.written);
}

-- the World of a batch's code as surroundings
abbrev pub within : {W : Type 0} → sinks.Ghosts W → Surroundings (BatchWorld W) Failed
within g = record { answers = batch_answers g; performs = batch_performs g }

pub batch_as : {W : Type 0} (g : sinks.Ghosts W) (first : BatchWorld W) (start : Device (List ℕ)) → AnswersAs (batch_view g first start) (within g) (inner first)
batch_as g first start = record {
  questions = λ w w' s q r sees answered. answered first start s sees;
  batches = λ w w' s at l r sees performed. performed first start s sees;
  later = λ A w s d c. cut_later g first start w s (handle (inner first) d s).1 (batch_more (program_of first.remote.stage) (service_of first.remote.stage) d s) c;
}

pub outer_as : {W : Type 0} (g : sinks.Ghosts W) (first : OuterWorld W) (start : Device (List ℕ)) → AnswersAs (around_view g first start) (surrounds g) (outer first)
outer_as g first start = record {
  questions = λ w w' a q r sees answered. answered first start a sees;
  batches = λ w w' a at l r sees performed. performed first start a sees;
  later = λ A w a d c. cut_later g first.inner start w.inner a.outside (handle (outer first) d a).1.outside (outer_more (program_of first.inner.remote.stage) (service_of first.inner.remote.stage) d a) c;
}

-- Lines.

-- a line was written whole
pub line_whole : {W : Type 0} (g : sinks.Ghosts W) (w w' : BatchWorld W) (bytes : List ℕ) → w'.remote ≡ w.remote → w'.out.ghost_name ≡ w.out.ghost_name
    → output g w'.out.now ≡ with_bytes (output g w.out.now) (line bytes) → Prints g w bytes (Ok (Ok value.Unit)) w'
line_whole g w w' bytes same name e = λ first start s sees. (
  refl,
  record {
    stage_so = ap (λ r. r.stage) same ∙ sees.stage_so;
    same_output = name ∙ sees.same_output;
    written = both_whole start (output g w.out.now) (output g w'.out.now) (shown_events s.events) (line bytes) sees.written e ∙ ap (with_bytes start) (sym (shown_line s.events bytes));
    server_so = ap (λ r. r.server) same ∙ sees.server_so;
  },
)

-- a write failed in a line
pub line_cut : {W : Type 0} (g : sinks.Ghosts W) (w w' : BatchWorld W) (bytes : List ℕ) (stop : Failed) → w'.out.ghost_name ≡ w.out.ghost_name
    → WrotePrefix (failed (output g w.out.now)) (output g w'.out.now) (line bytes) → Prints g w bytes (Err stop) w'
line_cut g w w' bytes stop name h = λ first start s sees. record {
  same_output = name ∙ sees.same_output;
  written = subst (λ t. WrotePrefix (failed start) (output g w'.out.now) t) (sym (shown_line s.events bytes))
      (fails_next start (output g w.out.now) (output g w'.out.now) (shown_events s.events) (line bytes) sees.written h);
}

-- a line that the World within a batch prints is one of the World outside
pub line_outside : {W : Type 0} (g : sinks.Ghosts W) (w w' : OuterWorld W) (at : ℕ) (bytes : List ℕ) (a : Answer Failed) → w'.batches ≡ w.batches → w'.exchanges ≡ w.exchanges → w'.others ≡ w.others
    → Prints g w.inner bytes a w'.inner → outer_answers g w (ask.Line at bytes) a w'
line_outside g w w' at bytes (Ok v) same count rest h = λ first start a sees.
    let t = h first.inner start a.outside sees.outer_so.inner_so in (
      t.0,
      record {
        outer_so = record {
          inner_so = t.1;
          batches_so = subst (λ b. AreBatchesOf (program_of first.inner.remote.stage) b.now) (sym same) sees.outer_so.batches_so;
          exchanges_so = count ∙ sees.outer_so.exchanges_so ∙ sym (exchanges_line a.outside.events bytes);
        };
        others_so = sees.others_so ∙ ap (λ os. map all_changed os.now) (sym rest);
      },
    )
line_outside g w w' at bytes (Err stop) same count rest h = λ first start a sees. h first.inner start a.outside sees.outer_so.inner_so

pub line_answered : {W : Type 0} (g : sinks.Ghosts W) (w w' : OuterWorld W) (at : ℕ) (bytes : List ℕ) (r : Result (Result (Unit {0}) Raised) (Halt Failed)) → w'.batches ≡ w.batches → w'.exchanges ≡ w.exchanges → w'.others ≡ w.others
    → Answered (as_value r) (λ a. Prints g w.inner bytes a w'.inner) → Answered (as_value r) (λ a. outer_answers g w (ask.Line at bytes) a w')
line_answered g w w' at bytes (Ok (Ok u)) same count rest h = line_outside g w w' at bytes (Ok (Ok value.Unit)) same count rest h
line_answered g w w' at bytes (Ok (Err f)) same count rest h = line_outside g w w' at bytes (Ok (Err f)) same count rest h
line_answered g w w' at bytes (Err halt.Memory) same count rest h = tt
line_answered g w w' at bytes (Err (halt.World x)) same count rest h = line_outside g w w' at bytes (Err x) same count rest h
