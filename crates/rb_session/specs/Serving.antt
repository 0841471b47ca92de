-- What serving a session does to its two ends and to the table of whoever answers.
use Rattle.std.specs.Prelude.{◌≡◌, ◌⊎◌, ℕ, ◌+◌, ◌≤◌, List, [], length, Result, Ok, Err}
use Rattle.rb_trees.specs.declared.services.Object.{Object}
use Rattle.rb_trees.specs.mirror.Services.{Service, mirror_service}
use Rattle.rb_base.specs.Devices.{Device, failed}
use Rattle.rb_base.specs.Sinks.{with_bytes, WrotePrefix}
use Rattle.rb_base.specs.Sources.{before_giving, IsAtEnd}
use Rattle.rb_meaning_frames.specs.Streams.{most_requests, IsCutRequest, BreaksRequest, Waits, BeginsWhole, Rest, IsRest}
use Rattle.rb_exec.specs.Hosted.{Hosted}
use Rattle.rb_session.specs.declared.serving.Served.{Served}
use Rattle.rb_session.specs.declared.serving.ServeStop.{ServeStop}
use Rattle.rb_session.specs.declared.serving.ServeCause.{ServeCause}
use Rattle.rb_session.specs.declared.serving.ServeCause.TheVariants.{ReadFault, WriteFault, Cut, BadFrame, SessionSpent, Memory}
use Rattle.rb_session.specs.Taking.{Takes}

-- The two ends of a session, and the service and the table of whoever answers in it.
pub record Ends : Type 0 where
  pub service : Service
  pub table : List Object
  pub source : Device (List ℕ)
  pub sink : Device (List ℕ)

abbrev pub ends : Service → List Object → Device (List ℕ) → Device (List ℕ) → Ends
ends service table source sink = record { service = service; table = table; source = source; sink = sink }

-- the same where a host answers
abbrev pub host_ends : Hosted → Device (List ℕ) → Device (List ℕ) → Ends
host_ends host source sink = ends (mirror_service host.service) host.table source sink

-- The source gave some bytes. So many requests that they are whole frames of were answered in order, and these are the frames
-- of their replies.
pub record Took (before after : Ends) (given rest : List ℕ) (requests : ℕ) (replies : List ℕ) : Type 0 where
  pub gave : before.source ≡ before_giving given after.source
  pub takes : Takes before.service before.table after.table given rest requests replies

-- All whole frames were taken: what follows them begins no whole one, or no more may be answered.
abbrev pub IsLast : ℕ → List ℕ → Type 0
IsLast requests rest = ((kind : Rest) × IsRest rest kind) ⊎ ((requests ≡ most_requests) × BeginsWhole rest)

-- The replies were written, and this is to be said of the bytes that the source gave and of those behind the last frame.
pub record Wrote (before after : Ends) (requests : ℕ) (Says : List ℕ → List ℕ → Type 0) : Type 0 where
  pub given : List ℕ
  pub rest : List ℕ
  pub replies : List ℕ
  pub took : Took before after given rest requests replies
  pub wrote : after.sink ≡ with_bytes before.sink replies
  pub says : Says given rest

-- A write failed: a front of the replies was written. At least one request was answered, and all that were whole.
pub record FailedWrite (before after : Ends) (requests : ℕ) : Type 0 where
  pub given : List ℕ
  pub rest : List ℕ
  pub replies : List ℕ
  pub took : Took before after given rest requests replies
  pub wrote : WrotePrefix (failed before.sink) after.sink replies
  pub some : 1 ≤ requests
  pub last : IsLast requests rest

-- No call of either end failed.
pub record NoneFailed (before after : Ends) : Type 0 where
  pub source : after.source.faults ≡ before.source.faults
  pub sink : after.sink.faults ≡ before.sink.faults

-- the ends before a read failed
abbrev pub with_read_fault : Ends → Ends
with_read_fault e = record e { source = failed e.source }

-- The session was served to this stop.
abbrev pub StopsBy : Ends → Ends → ℕ → ServeCause → Type 0
StopsBy before after requests ReadFault = Wrote (with_read_fault before) after requests (λ given rest. Waits rest)
StopsBy before after requests WriteFault = FailedWrite before after requests
StopsBy before after requests (Cut at) =
    Wrote before after requests (λ given rest. IsAtEnd after.source.told × IsCutRequest rest × (at ≡ length given))
StopsBy before after requests (BadFrame at) =
    Wrote before after requests (λ given rest. (offset : ℕ) × (at + length rest ≡ length given + offset) × BreaksRequest offset rest)
StopsBy before after requests SessionSpent = Wrote before after requests (λ given rest. (requests ≡ most_requests) × BeginsWhole rest)
StopsBy before after requests Memory = NoneFailed before after

-- The session was served to the end of its source, which is the end of a frame.
abbrev pub EndsWhole : Ends → Ends → ℕ → Type 0
EndsWhole before after requests = Wrote before after requests (λ given rest. IsAtEnd after.source.told × (rest ≡ []))

-- It was served to its end, or to a stop.
abbrev pub Serves : Ends → Ends → Result Served ServeStop → Type 0
Serves before after (Ok served) = EndsWhole before after served.requests
Serves before after (Err stop) = StopsBy before after stop.requests stop.cause

-- The fact holds, unless memory was wanting.
abbrev pub UnlessMemory : ServeCause → Type 0 → Type 0
UnlessMemory Memory Holds = Unit {0}
UnlessMemory cause Holds = Holds

abbrev pub UnlessServedMemory : Result Served ServeStop → Type 0 → Type 0
UnlessServedMemory (Ok served) Holds = Holds
UnlessServedMemory (Err stop) Holds = UnlessMemory stop.cause Holds
