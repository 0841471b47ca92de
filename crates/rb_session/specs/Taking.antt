-- Requests that are taken from a stream, and what becomes of them: they are answered in order, or gathered.
use Rattle.std.specs.Prelude.{◌≡◌, ℕ, ◌+◌, ◌*◌, ◌≤◌, All, List, ◌++◌, length, drop}
use Rattle.rb_trees.specs.declared.services.Object.{Object}
use Rattle.rb_trees.specs.mirror.Services.{Service, mirror_service}
use Rattle.rb_meaning.specs.Answers.{longest_request}
use Rattle.rb_meaning.specs.Replies.{header_length}
use Rattle.rb_meaning_frames.specs.Frames.{frame_bytes}
use Rattle.rb_meaning_frames.specs.Streams.{IsRequest, request_frames}
use Rattle.rb_meaning_frames.specs.Served.{RepliesTo}
use Rattle.rb_exec.specs.Hosted.{Hosted}
use Rattle.rb_session.specs.Answering.{AnswersOn}
use Rattle.rb_session.specs.Fronts.{IsFront}
use Rattle.rb_session.specs.declared.frames.Front.TheVariants.{Whole}
use Rattle.rb_session.specs.declared.requests.Taken.{Taken}

-- the greatest number of bytes of a request's frame
abbrev pub longest_frame : ℕ
longest_frame = header_length + longest_request

-- The bytes are the frames of the requests with these payloads, and a rest.
pub record Cuts (bytes rest : List ℕ) (payloads : List (List ℕ)) : Type 0 where
  pub requests : All IsRequest payloads
  pub is : bytes ≡ request_frames payloads ++ rest

-- The server that the first host is answers these payloads, in order, with these frames of replies, and has the table of the
-- second host then.
abbrev pub RepliesOn : Hosted → Hosted → List (List ℕ) → List ℕ → Type 0
RepliesOn before after payloads replies = RepliesTo (mirror_service before.service) before.table payloads replies after.table

-- The bytes are the frames of so many requests, and a rest. A service with the first table answers these requests in order, with
-- these frames of replies, and has the second table then.
pub record Takes (service : Service) (before after : List Object) (bytes rest : List ℕ) (count : ℕ) (replies : List ℕ) : Type 0 where
  pub payloads : List (List ℕ)
  pub cuts : Cuts bytes rest payloads
  pub count_is : count ≡ length payloads
  pub answers : RepliesTo service before payloads replies after

-- The buffer has gained the frame of the reply to the payload.
pub record GainsReply (before after : Hosted) (payload old new : List ℕ) : Type 0 where
  pub kind : ℕ
  pub reply : List ℕ
  pub answers : AnswersOn before payload kind reply after
  pub is : new ≡ old ++ frame_bytes kind reply

-- The requests with these payloads were taken, as many as may be and are whole, and what follows them begins so.
pub record CutsAll (bytes : List ℕ) (most : ℕ) (payloads : List (List ℕ)) (taken : Taken) : Type 0 where
  pub cuts : Cuts bytes (drop taken.bytes bytes) payloads
  pub count : taken.requests ≡ length payloads
  pub within : taken.bytes ≤ length bytes
  pub few : taken.requests ≤ most
  pub bounded : taken.bytes ≤ taken.requests * longest_frame
  pub front : IsFront (drop taken.bytes bytes) taken.front
  pub spent : (size : ℕ) → taken.front ≡ Whole size → taken.requests ≡ most

-- Such requests were answered, and the buffer has gained the frames of their replies.
pub record TakesAll (before after : Hosted) (bytes : List ℕ) (most : ℕ) (old new : List ℕ) (taken : Taken) : Type 0 where
  pub payloads : List (List ℕ)
  pub cuts : CutsAll bytes most payloads taken
  pub replies : List ℕ
  pub answers : RepliesOn before after payloads replies
  pub gains : new ≡ old ++ replies

-- Such requests were gathered: the list has gained their payloads.
pub record GathersAll (bytes : List ℕ) (most : ℕ) (old new : List (List ℕ)) (taken : Taken) : Type 0 where
  pub payloads : List (List ℕ)
  pub cuts : CutsAll bytes most payloads taken
  pub gains : new ≡ old ++ payloads
