-- Events only come.
use Rattle.std.proofs.Common.{◌≡◌, refl, sym, ap, ◌∙◌, ℕ, List, [], ◌∷◌, ◌++◌, length, append_assoc, append-nil}
use Rattle.std.specs.Prelude.{◌+◌, Bool, true, false, Option, None, Some, Result}
use Rattle.rb_trees.specs.declared.values.Value.{Value}
use Rattle.rb_trees.specs.declared.outcomes.Raised.{Raised}
use Rattle.rb_trees.specs.declared.services.Object.{Object}
use Rattle.rb_trees.specs.mirror.Declarations.{Program}
use Rattle.rb_trees.specs.mirror.Services.{Service}
use Rattle.rb_meaning_code.specs.Dialogue as ask
use Rattle.rb_meaning_code.specs.Dialogue.{Question, Outcome, Gave, Faulted, Dialogue, Done, Ask, AskBatch, Handler, handle}
use Rattle.rb_meaning_code.specs.Remote.{Server}
use Rattle.rb_meaning_code.specs.Bodies.{bodies_of}
use Rattle.rb_meaning_code.specs.State.{Local, bound}
use Rattle.rb_meaning_code.specs.Statements.{performs_all}
use Rattle.rb_trees.specs.declared.values.Value.TheVariants as value
use Rattle.rb_meaning_flow.specs.Outermost.{Outermost}
use Rattle.rb_meaning_flow.specs.Programs.{is_carried_at}
use Rattle.rb_meaning.specs.ConstantLists.{takes_too_many}
use Rattle.rb_meaning.specs.Meaning.{Around, at_batch, begins_or_faults, behind_batch, in_main, performs_found, shown_by}
use Rattle.rb_meaning.specs.RemoteAnswers.{answer_of, remote_answer, unit_of}
use Rattle.rb_meaning.specs.Shown.{exchanges, line, shown_events}
use Rattle.rb_meaning.specs.State as state
use Rattle.rb_meaning.specs.State.{Event, Outside}
use Rattle.rb_meaning.specs.Unsplit.{answers_in_batch, batch_at, begun, in_batch, list_turn, performs_batch, settles, whole_table, with_answer}

-- later events are those before and more
abbrev pub More : Outside → Outside → Type 0
More s s' = (more : List Event) × (s'.events ≡ s.events ++ more)

no_more : (s s' : Outside) → s'.events ≡ s.events → More s s'
no_more s s' e = ([], e ∙ sym (append-nil s.events))

more_far : (a b c : Outside) → More a b → More b c → More a c
more_far a b c (m, e) (n, f) = (m ++ n, f ∙ ap (λ es. es ++ n) e ∙ append_assoc a.events m n)

-- what a handler does that only adds events to what shows them of its state
record Adds {S : Type 0} (out : S → Outside) (h : Handler S) : Type 0 where
  questions : (s : S) (q : Question) → More (out s) (out (h.answer s q).1)
  batches : (s : S) (at : ℕ) (l : Local) → More (out s) (out (h.batch s at l).1)

handled_more : {S A : Type 0} (out : S → Outside) (h : Handler S) → Adds out h → (d : Dialogue A) (s : S) → More (out s) (out (handle h d s).1)
handled_more out h adds (Done a) s = no_more (out s) (out s) refl
handled_more out h adds (Ask q go) s =
    more_far (out s) (out (h.answer s q).1) (out (handle h (Ask q go) s).1) (adds.questions s q) (handled_more out h adds (go (h.answer s q).0) (h.answer s q).1)
handled_more out h adds (AskBatch at l go) s =
    more_far (out s) (out (h.batch s at l).1) (out (handle h (AskBatch at l go) s).1) (adds.batches s at l) (handled_more out h adds (go (h.batch s at l).0) (h.batch s at l).1)

answered_same : (s : Outside) (r : Result Value Raised × Server) → (with_answer s r).1.events ≡ s.events
answered_same s (a, server) = refl

pub turned_same : (carried : Bool) (at : ℕ) (s : Outside) → (list_turn carried at s).1.events ≡ s.events
turned_same true at s = answered_same s (answer_of (unit_of at s.server))
turned_same false at s = refl

abbrev itself : Outside → Outside
itself s = s

batch_adds : (p : Program) (service : Service) → Adds itself (in_batch p service)
batch_adds p service = record { questions = by_question; batches = λ s at l. no_more s s refl }
  where
    by_question : (s : Outside) (q : Question) → More s (answers_in_batch p service s q).1
    by_question s (ask.Line at bytes) = (state.Line bytes ∷ [], refl)
    by_question s (ask.Taken step) = no_more s s refl
    by_question s (ask.Invoke at target method args) =
        let r = remote_answer p service s.server (ask.Invoke at target method args) in no_more s (with_answer s r).1 (answered_same s r)
    by_question s (ask.Turn at) = let r = remote_answer p service s.server (ask.Turn at) in no_more s (with_answer s r).1 (answered_same s r)
    by_question s (ask.ListTurn at) = no_more s (list_turn (is_carried_at p at) at s).1 (turned_same (is_carried_at p at) at s)

pub batch_more : {A : Type 0} (p : Program) (service : Service) (d : Dialogue A) (s : Outside) → More s (handle (in_batch p service) d s).1
batch_more p service d s = handled_more itself (in_batch p service) (batch_adds p service) d s

settled_same : (p : Program) (count : ℕ) (whole : List Object) (r : Outcome (Unit {0}) × Outside) → (settles p count whole r).1.events ≡ r.1.events
settled_same p count whole (Gave u l, s) = refl
settled_same p count whole (Faulted f l, s) = refl

performed_more : (p : Program) (service : Service) (b : Outermost) (l : Local) (s : Outside) → More s (performs_batch p service b l s).1
performed_more p service b l s =
    let start = bound b.root (value.Remote service.root) l in
    let run = performs_all (bodies_of p.classes l.fuel) l.fuel b.block start in
    let body = handle (in_batch p service) run (begun s) in
    more_far s (begun s) (performs_batch p service b l s).1 (state.Batch ∷ [], refl)
    (more_far (begun s) body.1 (performs_batch p service b l s).1 (batch_more p service run (begun s))
    (no_more body.1 (performs_batch p service b l s).1 (settled_same p (length l.names) (whole_table p service b start (begun s).server) body)))

abbrev outside_in : Around → Outside
outside_in a = a.outside

behind_same : (a : Around) (r : Outcome (Unit {0}) × Outside) → (behind_batch a r).1.outside.events ≡ r.1.events
behind_same a (o, s) = refl

found_more : (p : Program) (service : Service) (b : Outermost) (a : Around) (l : Local) (many : Bool) → More a.outside (begins_or_faults many p service b l a).1.outside
found_more p service b a l true = no_more a.outside a.outside refl
found_more p service b a l false =
    let r = performs_batch p service b l (at_batch a) in
    more_far (at_batch a) r.1 (behind_batch a r).1.outside (performed_more p service b l (at_batch a)) (no_more r.1 (behind_batch a r).1.outside (behind_same a r))

outer_adds : (p : Program) (service : Service) → Adds outside_in (in_main p service)
outer_adds p service = record { questions = λ a q. by_question a.outside q; batches = λ a at l. by_batch (batch_at p at) a at l }
  where
    by_question : (s : Outside) (q : Question) → More s (shown_by q s)
    by_question s (ask.Line at bytes) = (state.Line bytes ∷ [], refl)
    by_question s (ask.Taken step) = no_more s s refl
    by_question s (ask.Invoke at target method args) = no_more s s refl
    by_question s (ask.Turn at) = no_more s s refl
    by_question s (ask.ListTurn at) = no_more s s refl

    by_batch : (b : Option Outermost) (a : Around) (at : ℕ) (l : Local) → More a.outside (performs_found p service b at l a).1.outside
    by_batch None a at l = no_more a.outside a.outside refl
    by_batch (Some b) a at l = found_more p service b a l (takes_too_many p b l.names)

pub outer_more : {A : Type 0} (p : Program) (service : Service) (d : Dialogue A) (a : Around) → More a.outside (handle (in_main p service) d a).1.outside
outer_more p service d a = handled_more outside_in (in_main p service) (outer_adds p service) d a

-- what events show, one after the other
pub shown_append : (es fs : List Event) → shown_events (es ++ fs) ≡ shown_events es ++ shown_events fs
shown_append [] fs = refl
shown_append (state.Line bytes ∷ es) fs = ap (λ t. line bytes ++ t) (shown_append es fs) ∙ sym (append_assoc (line bytes) (shown_events es) (shown_events fs))
shown_append (state.Batch ∷ es) fs = shown_append es fs

pub shown_line : (es : List Event) (bytes : List ℕ) → shown_events (es ++ state.Line bytes ∷ []) ≡ shown_events es ++ line bytes
shown_line es bytes = shown_append es (state.Line bytes ∷ []) ∙ ap (λ t. shown_events es ++ t) (append-nil (line bytes))

pub shown_batch : (es : List Event) → shown_events (es ++ state.Batch ∷ []) ≡ shown_events es
shown_batch es = shown_append es (state.Batch ∷ []) ∙ append-nil (shown_events es)

-- a line is no exchange, and a batch is one
pub exchanges_line : (es : List Event) (bytes : List ℕ) → exchanges (es ++ state.Line bytes ∷ []) ≡ exchanges es
exchanges_line [] bytes = refl
exchanges_line (state.Line b ∷ es) bytes = exchanges_line es bytes
exchanges_line (state.Batch ∷ es) bytes = ap (λ n. n + 1) (exchanges_line es bytes)

pub exchanges_batch : (es : List Event) → exchanges (es ++ state.Batch ∷ []) ≡ exchanges es + 1
exchanges_batch [] = refl
exchanges_batch (state.Line b ∷ es) = exchanges_batch es
exchanges_batch (state.Batch ∷ es) = ap (λ n. n + 1) (exchanges_batch es)
