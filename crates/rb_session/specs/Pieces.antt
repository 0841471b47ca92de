-- What serving a session does, piece by piece.
use Rattle.std.specs.Prelude.{◌≡◌, ◌⊎◌, ℕ, ◌+◌, ◌<◌, ◌≤◌, List, [], length, None, Result, Ok, Err}
use Rattle.rb_base.specs.Devices.{Device, failed}
use Rattle.rb_base.specs.Sinks.{with_bytes, WrotePrefix}
use Rattle.rb_meaning_frames.specs.Streams.{most_requests, IsCutRequest, BreaksRequest, Waits, BeginsWhole}
use Rattle.rb_exec.specs.Hosted.{Hosted}
use Rattle.rb_session.specs.declared.serving.ServeCause.{ServeCause}
use Rattle.rb_session.specs.declared.serving.ServeCause.TheVariants.{ReadFault, WriteFault, Cut, BadFrame, SessionSpent, Memory}
use Rattle.rb_session.specs.declared.sessions.SessionStop.{SessionStop}
use Rattle.rb_session.specs.declared.sessions.SessionStop.TheVariants as sessions
use Rattle.rb_session.specs.Sessions.{SessionSeen, came, Goes}
use Rattle.rb_session.specs.Serving.{Ends, IsLast, EndsWhole, StopsBy, UnlessMemory}

-- why a session is served no further that stopped so
abbrev pub cause_of : SessionStop → ServeCause
cause_of (sessions.BadFrame at) = BadFrame at
cause_of sessions.SessionSpent = SessionSpent
cause_of sessions.Memory = Memory

-- A session, with its host and its sink.
pub record Serving : Type 0 where
  pub host : Hosted
  pub session : SessionSeen
  pub sink : Device (List ℕ)

abbrev pub serving : Hosted → SessionSeen → Device (List ℕ) → Serving
serving host session sink = record { host = host; session = session; sink = sink }

-- A front of some replies was written, and that is the answer.
pub record FailsWriting (sink after : Device (List ℕ)) (replies : List ℕ) (answer : Result Unit ServeCause) : Type 0 where
  pub fault : answer ≡ Err WriteFault
  pub some : 0 < length replies
  pub wrote : WrotePrefix (failed sink) after replies

-- Replies were written, and the answer is the one that was wanted then; or the write failed.
abbrev pub WritesThen : Device (List ℕ) → Device (List ℕ) → List ℕ → Result Unit ServeCause → Result Unit ServeCause → Type 0
WritesThen sink after replies wanted answer = ((answer ≡ wanted) × (after ≡ with_bytes sink replies)) ⊎ FailsWriting sink after replies answer

-- A piece was fed, and the replies to it were written. This is said of the session then.
pub record WritesReplies (before after : Serving) (piece : List ℕ) (Says : Type 0) : Type 0 where
  pub replies : List ℕ
  pub goes : Goes before.host after.host before.session after.session piece replies
  pub wrote : after.sink ≡ with_bytes before.sink replies
  pub says : Says

-- A piece was fed, and a front of the replies to it was written.
pub record WritesFront (before after : Serving) (piece : List ℕ) : Type 0 where
  pub replies : List ℕ
  pub goes : Goes before.host after.host before.session after.session piece replies
  pub wrote : WrotePrefix (failed before.sink) after.sink replies
  pub some : 1 ≤ after.session.requests
  pub last : IsLast after.session.requests after.session.rest

-- A piece was served, and that was the answer.
abbrev pub ServesPiece : Serving → Serving → List ℕ → Result Unit ServeCause → Type 0
ServesPiece before after piece (Ok u) = WritesReplies before after piece ((after.session.stop ≡ None) × Waits after.session.rest)
ServesPiece before after piece (Err WriteFault) = WritesFront before after piece
ServesPiece before after piece (Err (BadFrame at)) =
    WritesReplies before after piece ((offset : ℕ) × (at ≡ after.session.offset + offset) × BreaksRequest offset after.session.rest)
ServesPiece before after piece (Err SessionSpent) = WritesReplies before after piece ((after.session.requests ≡ most_requests) × BeginsWhole after.session.rest)
ServesPiece before after piece (Err Memory) = after.sink ≡ before.sink
ServesPiece before after piece (Err ReadFault) = ⊥
ServesPiece before after piece (Err (Cut at)) = ⊥

-- Where a source ended, by what the session has of its stream.
abbrev pub EndsSo : SessionSeen → Result Unit ServeCause → Type 0
EndsSo s (Ok u) = s.rest ≡ []
EndsSo s (Err (Cut at)) = IsCutRequest s.rest × (at ≡ came s)
EndsSo s (Err ReadFault) = ⊥
EndsSo s (Err WriteFault) = ⊥
EndsSo s (Err (BadFrame at)) = ⊥
EndsSo s (Err SessionSpent) = ⊥
EndsSo s (Err Memory) = ⊥

-- A session was served to its end or to a stop.
abbrev pub ServesTo : Ends → Ends → ℕ → Result Unit ServeCause → Type 0
ServesTo before after requests (Ok u) = EndsWhole before after requests
ServesTo before after requests (Err cause) = StopsBy before after requests cause

abbrev pub UnlessErrMemory : Result Unit ServeCause → Type 0 → Type 0
UnlessErrMemory (Ok u) Holds = Holds
UnlessErrMemory (Err cause) Holds = UnlessMemory cause Holds
