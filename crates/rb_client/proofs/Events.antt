-- Events only come.
use Rattle.std.proofs.Common.{◌≡◌, refl, sym, ap, ◌∙◌, subst, ℕ, List, [], ◌∷◌, ◌++◌, append_assoc, append-nil}
use Rattle.std.specs.Prelude.{Result}
use Rattle.rb_trees.specs.declared.values.Value.{Value}
use Rattle.rb_trees.specs.declared.outcomes.Raised.{Raised}
use Rattle.rb_trees.specs.mirror.Forests.{Node}
use Rattle.rb_meaning_code.specs.Dialogue as ask
use Rattle.rb_meaning_code.specs.Dialogue.{Question, Dialogue, Done, Ask, AskBatch, Handler, handle}
use Rattle.rb_meaning_code.specs.State.{Local}
use Rattle.rb_meaning.specs.Shown.{line, shown_events}
use Rattle.rb_meaning.specs.State as state
use Rattle.rb_meaning.specs.State.{Event}
use Rattle.rb_meaning_split.specs.Replay.{Seen, answers_replayed, in_replay, taken, with_taken}
use Rattle.rb_client.specs.Events.{More}

pub no_more : (es : List Event) → More es es
no_more es = ([], sym (append-nil es))

pub more_far : (a b c : List Event) → More a b → More b c → More a c
more_far a b c (m, e) (n, f) = (m ++ n, f ∙ ap (λ es. es ++ n) e ∙ append_assoc a m n)

-- How later events may stand to those before: lines may come.
pub record Coming : Type 1 where
  pub Later : List Event → List Event → Type 0
  pub same : (es : List Event) → Later es es
  pub far : (a b c : List Event) → Later a b → Later b c → Later a c
  pub line : (es : List Event) (bytes : List ℕ) → Later es (es ++ state.Line bytes ∷ [])

-- They are those before and more.
abbrev pub adding : Coming
adding = record { Later = More; same = no_more; far = more_far; line = λ es bytes. (state.Line bytes ∷ [], refl) }

-- what a handler does to the events
pub record AddsEvents {S : Type 0} (c : Coming) (events : S → List Event) (h : Handler S) : Type 0 where
  pub questions : (s : S) (q : Question) → c.Later (events s) (events (h.answer s q).1)
  pub batches : (s : S) (at : ℕ) (l : Local) → c.Later (events s) (events (h.batch s at l).1)

pub handled_more : {S A : Type 0} (c : Coming) (events : S → List Event) (h : Handler S) → AddsEvents c events h → (d : Dialogue A) (s : S) → c.Later (events s) (events (handle h d s).1)
handled_more c events h adds (Done a) s = c.same (events s)
handled_more c events h adds (Ask q go) s =
    c.far (events s) (events (h.answer s q).1) (events (handle h (Ask q go) s).1) (adds.questions s q) (handled_more c events h adds (go (h.answer s q).0) (h.answer s q).1)
handled_more c events h adds (AskBatch at l go) s =
    c.far (events s) (events (h.batch s at l).1) (events (handle h (AskBatch at l go) s).1) (adds.batches s at l) (handled_more c events h adds (go (h.batch s at l).0) (h.batch s at l).1)

taken_same : (s : Seen) (r : Result Value Raised × Node) → (with_taken s r).1.events ≡ s.events
taken_same s (a, n) = refl

replay_adds : (c : Coming) → AddsEvents c (λ (s : Seen). s.events) in_replay
replay_adds c = record { questions = by_question; batches = λ s at l. c.same s.events }
  where
    by_question : (s : Seen) (q : Question) → c.Later s.events (answers_replayed s q).1.events
    by_question s (ask.Line at bytes) = c.line s.events bytes
    by_question s (ask.Taken step) = subst (c.Later s.events) (sym (taken_same s (taken step s.node))) (c.same s.events)
    by_question s (ask.Invoke at target method args) = c.same s.events
    by_question s (ask.Turn at) = c.same s.events
    by_question s (ask.ListTurn at) = c.same s.events

pub replay_more : {A : Type 0} (c : Coming) (d : Dialogue A) (s : Seen) → c.Later s.events (handle in_replay d s).1.events
replay_more c d s = handled_more c (λ (x : Seen). x.events) in_replay (replay_adds c) d s

-- what events show, one after the other
pub shown_append : (es fs : List Event) → shown_events (es ++ fs) ≡ shown_events es ++ shown_events fs
shown_append [] fs = refl
shown_append (state.Line bytes ∷ es) fs = ap (λ t. line bytes ++ t) (shown_append es fs) ∙ sym (append_assoc (line bytes) (shown_events es) (shown_events fs))
shown_append (state.Batch ∷ es) fs = shown_append es fs

pub shown_line : (es : List Event) (bytes : List ℕ) → shown_events (es ++ state.Line bytes ∷ []) ≡ shown_events es ++ line bytes
shown_line es bytes = shown_append es (state.Line bytes ∷ []) ∙ ap (λ t. shown_events es ++ t) (append-nil (line bytes))

pub shown_batch : (es : List Event) → shown_events (es ++ state.Batch ∷ []) ≡ shown_events es
shown_batch es = shown_append es (state.Batch ∷ []) ∙ append-nil (shown_events es)
