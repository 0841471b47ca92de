-- What is written of the replies to a piece.
use Rattle.std.proofs.Common.{◌≡◌, ℕ, ◌<◌, ◌≤◌, List, [], ◌++◌, length, None, Result, Ok, Err, refl, ap, sym, ◌∙◌, subst, arith, inl, inr}
use Rattle.rb_trees.specs.declared.services.Object.{Object}
use Rattle.rb_trees.specs.mirror.Services.{Service, mirror_service}
use Rattle.rb_base.specs.Devices.{Device, failed}
use Rattle.rb_base.specs.Sinks.{with_bytes, WrotePrefix}
use Rattle.rb_meaning_frames.specs.Streams.{Waits, Rest, Empty, Cut, Broken, IsRest}
use Rattle.rb_meaning_frames.specs.Served.{RepliesTo, no_more, one_more}
use Rattle.rb_exec.specs.Hosted.{Hosted}
use Rattle.rb_session.specs.declared.sessions.SessionStop.{SessionStop}
use Rattle.rb_session.specs.declared.sessions.SessionStop.TheVariants as sessions
use Rattle.rb_session.specs.declared.serving.ServeCause.{ServeCause}
use Rattle.rb_session.specs.Sessions.{SessionSeen, stop_of, Leaves, Goes, Answered, AnsweredUnlessMemory, Feeds}
use Rattle.rb_session.specs.Serving.{IsLast}
use Rattle.rb_session.specs.Pieces.{serving, cause_of, WritesThen, ServesPiece}

some_payloads : (service : Service) (table after : List Object) (ps : List (List ℕ)) (bs : List ℕ) → RepliesTo service table ps bs after → 0 < length bs → 1 ≤ length ps
some_payloads service _ _ _ _ (no_more table) some = absurd (omega arith)
some_payloads service _ _ _ _ (one_more table between after payload reply kind ps bs a rest) some = omega arith

-- A reply was written only where a request was answered.
some_requests : (host after : Hosted) (s t : SessionSeen) (piece replies : List ℕ) → Goes host after s t piece replies → 0 < length replies → 1 ≤ t.requests
some_requests host after s t piece replies g some =
    let one = some_payloads (mirror_service host.service) host.table after.table g.payloads replies g.answers some in
    let more = g.cuts.requests in
    omega arith

-- what follows the last whole frame
waits_last : (rest : List ℕ) → Waits rest → (kind : Rest) × IsRest rest kind
waits_last rest (inl none) = (Empty, none)
waits_last rest (inr cut) = (Cut, cut)

last_of : (t : SessionSeen) (answer : Result Unit SessionStop) → (answer ≡ Err sessions.Memory → ⊥) → Leaves answer t → IsLast t.requests t.rest
last_of t (Ok u) there left = inl (waits_last t.rest left)
last_of t (Err (sessions.BadFrame at)) there left = inl (Broken left.0, left.2)
last_of t (Err sessions.SessionSpent) there left = inr left
last_of t (Err sessions.Memory) there left = absurd (there refl)

-- a session that hadn't stopped, fed with an empty buffer
fresh_feeds : (host after : Hosted) (s t : SessionSeen) (piece old new : List ℕ) (answer : Result Unit SessionStop) → s.stop ≡ None
    → Feeds host after s t piece old new answer s.stop → (t.stop ≡ stop_of answer) × AnsweredUnlessMemory host after s t piece old new answer
fresh_feeds host after s t piece old new answer fresh h = subst (λ o. Feeds host after s t piece old new answer o) fresh h

gained : (old new replies slice : List ℕ) → new ≡ old ++ replies → old ≡ [] → slice ≡ new → slice ≡ replies
gained old new replies slice gains none same = same ∙ gains ∙ ap (λ x. x ++ replies) none

-- what is answered to a piece where no write fails
abbrev pub wanted : Result Unit SessionStop → Result Unit ServeCause
wanted (Ok u) = Ok u
wanted (Err stop) = Err (cause_of stop)

-- all was written
served : (host after : Hosted) (s t : SessionSeen) (piece : List ℕ) (answer : Result Unit SessionStop) (sink now : Device (List ℕ)) (replies : List ℕ)
    → (answer ≡ Err sessions.Memory → ⊥) → t.stop ≡ stop_of answer → Goes host after s t piece replies → Leaves answer t → now ≡ with_bytes sink replies
    → ServesPiece (serving host s sink) (serving after t now) piece (wanted answer)
served host after s t piece (Ok u) sink now replies there stop goes left wrote = record { replies = replies; goes = goes; wrote = wrote; says = (stop, left) }
served host after s t piece (Err (sessions.BadFrame at)) sink now replies there stop goes left wrote = record { replies = replies; goes = goes; wrote = wrote; says = left }
served host after s t piece (Err sessions.SessionSpent) sink now replies there stop goes left wrote = record { replies = replies; goes = goes; wrote = wrote; says = left }
served host after s t piece (Err sessions.Memory) sink now replies there stop goes left wrote = absurd (there refl)

unless : (host after : Hosted) (s t : SessionSeen) (piece old new : List ℕ) (answer : Result Unit SessionStop) → (answer ≡ Err sessions.Memory → ⊥)
    → AnsweredUnlessMemory host after s t piece old new answer → Answered host after s t piece old new answer
unless host after s t piece old new (Ok u) there a = a
unless host after s t piece old new (Err (sessions.BadFrame at)) there a = a
unless host after s t piece old new (Err sessions.SessionSpent) there a = a
unless host after s t piece old new (Err sessions.Memory) there a = absurd (there refl)

-- a piece that was answered, and the write of the replies
pub written : (host after : Hosted) (s t : SessionSeen) (piece old new slice : List ℕ) (answer : Result Unit SessionStop) (sink now : Device (List ℕ)) (result : Result Unit ServeCause)
    → s.stop ≡ None → old ≡ [] → slice ≡ new → (answer ≡ Err sessions.Memory → ⊥) → Feeds host after s t piece old new answer s.stop
    → WritesThen sink now slice (wanted answer) result → ServesPiece (serving host s sink) (serving after t now) piece result
written host after s t piece old new slice answer sink now result fresh none same there h (inl (is, all)) =
    let f = fresh_feeds host after s t piece old new answer fresh h in
    let a = unless host after s t piece old new answer there f.1 in
    subst (λ r. ServesPiece (serving host s sink) (serving after t now) piece r) (sym is)
    (served host after s t piece answer sink now a.replies there f.0 a.goes a.leaves (all ∙ ap (with_bytes sink) (gained old new a.replies slice a.gains none same)))
written host after s t piece old new slice answer sink now result fresh none same there h (inr fails) =
    let f = fresh_feeds host after s t piece old new answer fresh h in
    let a = unless host after s t piece old new answer there f.1 in
    let is = gained old new a.replies slice a.gains none same in
    subst (λ r. ServesPiece (serving host s sink) (serving after t now) piece r) (sym fails.fault)
    (record {
      replies = a.replies;
      goes = a.goes;
      wrote = subst (λ r. WrotePrefix (failed sink) now r) is fails.wrote;
      some = some_requests host after s t piece a.replies a.goes (subst (λ r. 0 < length r) is fails.some);
      last = last_of t answer there a.leaves;
    })

-- the same of a stop that is known
pub written_stop : (host after : Hosted) (s t : SessionSeen) (piece old new slice : List ℕ) (said stop : SessionStop) (sink now : Device (List ℕ)) (result : Result Unit ServeCause)
    → said ≡ stop → s.stop ≡ None → old ≡ [] → slice ≡ new → (stop ≡ sessions.Memory → ⊥) → Feeds host after s t piece old new (Err said) s.stop
    → WritesThen sink now slice (Err (cause_of stop)) result → ServesPiece (serving host s sink) (serving after t now) piece result
written_stop host after s t piece old new slice said stop sink now result is fresh none same there h w =
    written host after s t piece old new slice (Err stop) sink now result fresh none same (λ e. there (cc e))
    (subst (λ x. Feeds host after s t piece old new (Err x) s.stop) is h) w
