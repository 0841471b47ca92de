-- A session takes a piece.
use Rattle.std.proofs.Common.{◌≡◌, ◌<◌, arith, ap, sym, ◌∙◌, subst, ℕ, All, List, [], ◌++◌, length, inl, inr, Option, Some, None, Result, Ok, Err}
use Rattle.std.specs.Prelude.{slice_set}
use Rattle.std.proofs.lemmas.Bool.{cases_lt}
use Rattle.rb_meaning.specs.Replies.{header_length}
use Rattle.rb_meaning_frames.specs.Streams.{Waits}
use Rattle.rb_meaning_frames.specs.Histories.{asked_by}
use Rattle.rb_session.specs.declared.answerers.Answers as answerers
use Rattle.rb_session.specs.declared.sessions.SessionStop.{SessionStop}
use Rattle.rb_session.specs.declared.sessions.SessionStop.TheVariants as stops
use Rattle.rb_session.specs.Taking.{longest_frame}
use Rattle.rb_session.specs.Sessions.{SessionSeen, CutsPiece, Gathered, GatheredUnlessMemory, Gathers, stop_of}
use Rattle.rb_hub.specs.Seats.{with_session, IsPlace, GathersAt}
use Rattle.rb_hub.specs.Hubs.{Hears, IsNoWant, IsOpen, GivesReplies, end_of, RepliesAll, AnswersSo, AnswersPiece}
use Rattle.rb_hub.specs.declared.seats.Seat.{Seat}
use Rattle.rb_hub.specs.declared.events.End.{End}
use Rattle.rb_hub.specs.declared.events.Out.{Out}
use Rattle.rb_hub.specs.declared.events.HubStop.{HubStop}
use Rattle.rb_hub.specs.declared.events.HubStop.TheVariants.{Refused, Memory, Answers}

-- what waits is less than a frame
pub waits_short : (bytes : List ℕ) → Waits bytes → length bytes < longest_frame
waits_short bytes (inl none) = omega (arith, ap length none)
waits_short bytes (inr cut) =
    elim cut.short [
      | inl less ↦ omega arith
      | inr less ↦ elim (cases_lt (length bytes) header_length) [
        | inl short ↦ omega arith
        | inr there ↦ let fits = cut.fits there in omega arith
      ]
    ]

gathered : (before now : SessionSeen) (piece : List ℕ) (old new : List (List ℕ)) (answer : Result Unit SessionStop) → IsNoWant answer
    → GatheredUnlessMemory before now piece old new answer → Gathered before now piece old new answer
gathered before now piece old new (Ok u) sure h = h
gathered before now piece old new (Err (stops.BadFrame at)) sure h = h
gathered before now piece old new (Err stops.SessionSpent) sure h = h
gathered before now piece old new (Err stops.Memory) sure h = absurd sure

-- the session that stands at a place took a piece
pub record Heard (number place : ℕ) (piece : List ℕ) (seats mid : List Seat) (whole : List (List ℕ)) (answer : Result Unit SessionStop) : Type 0 where
  pub now : SessionSeen
  pub hears : Hears number piece seats whole answer now
  pub is : mid ≡ with_session number now seats

heard_by : (number place : ℕ) (piece : List ℕ) (seats mid : List Seat) (whole : List (List ℕ)) (answer : Result Unit SessionStop) → IsPlace number seats place
    → IsNoWant answer → (t : GathersAt seats mid place piece [] whole answer) → (t.now.stop ≡ stop_of answer) × Gathered t.before.session t.now piece [] whole answer
    → Heard number place piece seats mid whole answer
heard_by number place piece seats mid whole answer at sure t h =
    let g = h.1 in
    record {
      now = t.now;
      hears = record {
        session = t.before.session;
        found = at.is t.before ∙ ap (λ (s : Seat). Some s.session) (t.was t.before);
        cuts = subst (λ ps. CutsPiece t.before.session t.now piece ps) (sym g.gains) g.cuts;
        stop = h.0;
        leaves = g.leaves;
        no_want = sure;
      };
      is = t.is ∙ ap (λ (s : Seat). slice_set seats place record s { session = t.now }) (sym (t.was t.before)) ∙ sym (at.changed t.before t.now);
    }

pub heard : (number place : ℕ) (piece : List ℕ) (seats mid : List Seat) (whole : List (List ℕ)) (answer : Result Unit SessionStop) → IsPlace number seats place → All IsOpen seats
    → IsNoWant answer → GathersAt seats mid place piece [] whole answer → Heard number place piece seats mid whole answer
heard number place piece seats mid whole answer at all sure t =
    let fresh : t.before.session.stop ≡ None = (subst IsOpen (t.was t.before) (all place t.before at.within)).fresh in
    let g = subst (λ o. Gathers t.before.session t.now piece [] whole answer o) fresh t.gathers in
    heard_by number place piece seats mid whole answer at sure t (g.0, gathered t.before.session t.now piece [] whole answer sure g.1)

-- ---- its requests are answered

-- not all were
answers_not : {A X : Type 0} (a : answerers.Ghosts A X) (before after : A) (number place : ℕ) (piece : List ℕ) (seats mid : List Seat) (whole : List (List ℕ)) (answer : Result Unit SessionStop) (given : List Out) (stop : HubStop X)
    → Heard number place piece seats mid whole answer → RepliesAll a (asked_by number whole) before after given (Err stop)
    → AnswersPiece a number piece before after seats mid given (Err stop)
answers_not a before after number place piece seats mid whole answer given Memory h r =
    inr (record { payloads = whole; answer = answer; now = h.now; hears = h.hears; says = r })
answers_not a before after number place piece seats mid whole answer given (Answers stop) h r =
    record { payloads = whole; answer = answer; now = h.now; hears = h.hears; says = r }
answers_not a before after number place piece seats mid whole answer given (Refused refusal) h r = absurd r

-- the lists that code makes: those that were gathered, and the slice of them
pub record Gathering (number place : ℕ) (piece : List ℕ) (seats mid : List Seat) (start whole slice : List (List ℕ)) (answer : Result Unit SessionStop) (end : Option End) : Type 0 where
  pub at : IsPlace number seats place
  pub all : All IsOpen seats
  pub none : start ≡ []
  pub gathers : GathersAt seats mid place piece start whole answer
  pub ends : (end ≡ end_of answer) × IsNoWant answer
  pub same : slice ≡ whole

heard_in : (number place : ℕ) (piece : List ℕ) (seats mid : List Seat) (start whole slice : List (List ℕ)) (answer : Result Unit SessionStop) (end : Option End)
    → Gathering number place piece seats mid start whole slice answer end → Heard number place piece seats mid slice answer
heard_in number place piece seats mid start whole slice answer end h =
    subst (λ ps. Heard number place piece seats mid ps answer) (sym h.same)
    (heard number place piece seats mid whole answer h.at h.all h.ends.1 (subst (λ ps. GathersAt seats mid place piece ps whole answer) h.none h.gathers))

pub answered_so : {A X : Type 0} (a : answerers.Ghosts A X) (before after : A) (number place : ℕ) (piece : List ℕ) (seats mid : List Seat) (start whole slice : List (List ℕ)) (answer : Result Unit SessionStop) (end : Option End) (old new : List Out)
    → Gathering number place piece seats mid start whole slice answer end
    → (given : List Out) × (new ≡ old ++ given) × GivesReplies a before after (asked_by number slice) given
    → (given : List Out) × (new ≡ old ++ given) × AnswersSo a number piece before after seats mid given end
answered_so a before after number place piece seats mid start whole slice answer end old new g r =
    let h = heard_in number place piece seats mid start whole slice answer end g in
    (r.0, r.1, record { payloads = slice; answer = answer; now = h.now; hears = h.hears; gives = r.2; seats_are = h.is; end_is = g.ends.0 })

pub answered_not : {A X : Type 0} (a : answerers.Ghosts A X) (before after : A) (number place : ℕ) (piece : List ℕ) (seats mid : List Seat) (start whole slice : List (List ℕ)) (answer : Result Unit SessionStop) (end : Option End) (old new : List Out) (stop : HubStop X)
    → Gathering number place piece seats mid start whole slice answer end
    → (given : List Out) × (new ≡ old ++ given) × RepliesAll a (asked_by number slice) before after given (Err stop)
    → (given : List Out) × (new ≡ old ++ given) × AnswersPiece a number piece before after seats mid given (Err stop)
answered_not a before after number place piece seats mid start whole slice answer end old new stop g r =
    (r.0, r.1, answers_not a before after number place piece seats mid slice answer r.0 stop (heard_in number place piece seats mid start whole slice answer end g) r.2)
