-- What a program has shown on its way is a front of what it means to show: running on only shows more.
use Rattle.std.proofs.Common.{◌≡◌, refl, sym, ap, ◌∙◌, subst, ℕ, List, [], ◌∷◌, ◌++◌, append_assoc, append-nil, length, Bool as Truth, true, false, Option, Some, None}
use Rattle.rb_trees.specs.declared.values.Value.TheVariants as value
use Rattle.rb_trees.specs.declared.services.Object.{Object}
use Rattle.rb_trees.specs.mirror.Declarations.{Program}
use Rattle.rb_trees.specs.mirror.Services.{Service}
use Rattle.rb_meaning_code.specs.State.{Local, bound}
use Rattle.rb_meaning_code.specs.Dialogue.{Question, Line, Taken, Invoke, Turn, ListTurn, Outcome, Gave, Faulted, Dialogue, Done, Ask, AskBatch, Handler, handle}
use Rattle.rb_meaning_code.specs.Statements.{performs_all}
use Rattle.rb_meaning_code.specs.Bodies.{bodies_of}
use Rattle.rb_meaning_code.proofs.Led.{rest_ends_as_whole}
use Rattle.rb_meaning_flow.specs.Outermost.{Outermost}
use Rattle.rb_meaning_flow.specs.Programs.{is_carried_at}
use Rattle.rb_meaning.specs.State as state
use Rattle.rb_meaning.specs.State.{Event, Outside}
use Rattle.rb_meaning.specs.Unsplit.{batch_at, list_turn, in_batch, begun, settles, whole_table}
use Rattle.rb_meaning.specs.ConstantLists.{takes_too_many}
use Rattle.rb_meaning.specs.Meaning.{Around, around_of, at_batch, begins_or_faults, performs_found, in_main}
use Rattle.rb_law_client.specs.Reached.{main_run, IsFront, FrontsAreShown}

front_same : (xs : List Event) → IsFront xs xs
front_same xs = record { more = []; is = sym (append-nil xs) }

front_on : (xs ys zs : List Event) → IsFront xs ys → IsFront ys zs → IsFront xs zs
front_on xs ys zs f g = record { more = f.more ++ g.more; is = g.is ∙ ap (λ q. q ++ g.more) f.is ∙ append_assoc xs f.more g.more }

front_with : (xs : List Event) (event : Event) → IsFront xs (xs ++ event ∷ [])
front_with xs event = record { more = event ∷ []; is = refl }

-- A handler by which only more is shown.
record ShowsMore {S : Type 0} (shown : S → List Event) (h : Handler S) : Type 0 where
  answers : (s : S) (q : Question) → IsFront (shown s) (shown (h.answer s q).1)
  batches : (s : S) (at : ℕ) (l : Local) → IsFront (shown s) (shown (h.batch s at l).1)

run_shows : {S A : Type 0} (shown : S → List Event) (h : Handler S) → ShowsMore shown h → (run : Dialogue A) (s : S) → IsFront (shown s) (shown (handle h run s).1)
run_shows shown h more (Done a) s = front_same (shown s)
run_shows shown h more (Ask q go) s =
    let next = h.answer s q in front_on (shown s) (shown next.1) (shown (handle h (go next.0) next.1).1) (more.answers s q) (run_shows shown h more (go next.0) next.1)
run_shows shown h more (AskBatch at l go) s =
    let next = h.batch s at l in front_on (shown s) (shown next.1) (shown (handle h (go next.0) next.1).1) (more.batches s at l) (run_shows shown h more (go next.0) next.1)

-- what is shown outside of a batch's body, and around it
abbrev shown_outside : Outside → List Event
shown_outside s = s.events

abbrev shown_around : Around → List Event
shown_around a = a.outside.events

module _ (p : Program) (service : Service) where
  -- in a batch

  turn_shows : (carried : Truth) (at : ℕ) (s : Outside) → IsFront s.events (list_turn carried at s).1.events
  turn_shows true at s = front_same s.events
  turn_shows false at s = front_same s.events

  batch_answers : (s : Outside) (q : Question) → IsFront s.events ((in_batch p service).answer s q).1.events
  batch_answers s (Line at bytes) = front_with s.events (state.Line bytes)
  batch_answers s (ListTurn at) = turn_shows (is_carried_at p at) at s
  batch_answers s (Taken step) = front_same s.events
  batch_answers s (Invoke at target method args) = front_same s.events
  batch_answers s (Turn at) = front_same s.events

  batch_shows : ShowsMore shown_outside (in_batch p service)
  batch_shows = record { answers = batch_answers; batches = λ s at l. front_same s.events }

  settles_same : (count : ℕ) (whole : List Object) (r : Outcome (Unit {0}) × Outside) → r.1.events ≡ (settles p count whole r).1.events
  settles_same count whole (Gave u l, s) = refl
  settles_same count whole (Faulted r l, s) = refl

  -- outside of batches

  main_answers : (a : Around) (q : Question) → IsFront (shown_around a) (shown_around ((in_main p service).answer a q).1)
  main_answers a (Line at bytes) = front_with (shown_around a) (state.Line bytes)
  main_answers a (ListTurn at) = front_same (shown_around a)
  main_answers a (Taken step) = front_same (shown_around a)
  main_answers a (Invoke at target method args) = front_same (shown_around a)
  main_answers a (Turn at) = front_same (shown_around a)

  begins_shows : (many : Truth) (b : Outermost) (l : Local) (a : Around) → IsFront (shown_around a) (shown_around (begins_or_faults many p service b l a).1)
  begins_shows true b l a = front_same (shown_around a)
  begins_shows false b l a =
      let s = at_batch a in
      let start = bound b.root (value.Remote service.root) l in
      let whole = whole_table p service b start (begun s).server in
      let run = performs_all (bodies_of p.classes l.fuel) l.fuel b.block start in
      let ended = handle (in_batch p service) run (begun s) in
      front_on s.events (begun s).events (settles p (length l.names) whole ended).1.events (front_with s.events state.Batch)
      (subst (IsFront (begun s).events) (settles_same (length l.names) whole ended) (run_shows shown_outside (in_batch p service) batch_shows run (begun s)))

  found_shows : (o : Option Outermost) (a : Around) (at : ℕ) (l : Local) → IsFront (shown_around a) (shown_around (performs_found p service o at l a).1)
  found_shows None a at l = front_same (shown_around a)
  found_shows (Some b) a at l = begins_shows (takes_too_many p b l.names) b l a

  main_shows : ShowsMore shown_around (in_main p service)
  main_shows = record { answers = main_answers; batches = λ a at l. found_shows (batch_at p at) a at l }

pub fronts : FrontsAreShown
fronts p service table others fuel rest a passes =
    let main = in_main p service in
    subst (λ q. IsFront (shown_around a) (shown_around q.1)) (rest_ends_as_whole main (main_run p fuel) rest (around_of table others) a passes)
    (run_shows shown_around main (main_shows p service) rest a)
