-- What a session receives: request frames, one after the other, and a rest.
use Rattle.std.specs.Prelude.{◌≡◌, ◌⊎◌, ℕ, ◌+◌, ◌^◌, ◌<◌, ◌≤◌, All, List, [], ◌∷◌, ◌++◌, length}
use Rattle.rb_meaning.specs.Answers.{longest_request}
use Rattle.rb_meaning.specs.Replies.{header_length, announced}
use Rattle.rb_meaning_frames.specs.Frames.{request_kind, frame_bytes, IsRightBefore, BreaksAt, is_request}

-- the payload of a request has at most so many bytes
abbrev pub IsRequest : List ℕ → Type 0
IsRequest payload = length payload ≤ longest_request

-- the frames of requests, one after the other
abbrev pub request_frames : List (List ℕ) → List ℕ
request_frames [] = []
request_frames (payload ∷ payloads) = frame_bytes request_kind payload ++ request_frames payloads

-- These bytes break nothing, and they are less than a whole request frame. A length is judged where its eight bytes are there.
pub record IsCutRequest (bytes : List ℕ) : Type 0 where
  pub begun : 0 < length bytes
  pub right : IsRightBefore is_request (length bytes) bytes
  pub fits : header_length ≤ length bytes → announced bytes ≤ longest_request
  pub short : (length bytes < header_length) ⊎ (length bytes < header_length + announced bytes)

-- The length is there and exceeds what a request may have: it breaks the form at its first byte.
pub record IsTooLong (offset : ℕ) (bytes : List ℕ) : Type 0 where
  pub at : offset ≡ 3
  pub there : header_length ≤ length bytes
  pub right : IsRightBefore is_request 3 bytes
  pub longer : longest_request < announced bytes

-- These bytes break the form of a request frame at this offset.
abbrev pub BreaksRequest : ℕ → List ℕ → Type 0
BreaksRequest offset bytes = BreaksAt is_request offset bytes ⊎ IsTooLong offset bytes

-- how many requests of a session are answered at most
abbrev pub most_requests : ℕ
most_requests = 2 ^ 32

-- what may follow the last whole frame
pub data Rest : Type 0 where
  Empty : Rest
  Cut : Rest
  Broken : ℕ → Rest

abbrev pub IsRest : List ℕ → Rest → Type 0
IsRest bytes Empty = bytes ≡ []
IsRest bytes Cut = IsCutRequest bytes
IsRest bytes (Broken offset) = BreaksRequest offset bytes

-- A stream is whole request frames with these payloads, and a rest, of which this is to be said.
pub record Divides (stream : List ℕ) (payloads : List (List ℕ)) (rest : List ℕ) (kind : Rest) : Type 0 where
  pub requests : All IsRequest payloads
  pub is : stream ≡ request_frames payloads ++ rest
  pub rest_is : IsRest rest kind

-- The bytes break nothing, and no whole request frame stands at their front.
abbrev pub Waits : List ℕ → Type 0
Waits bytes = IsRest bytes Empty ⊎ IsRest bytes Cut

-- A whole request frame stands at the front of the bytes.
pub record BeginsWhole (bytes : List ℕ) : Type 0 where
  pub payload : List ℕ
  pub more : List ℕ
  pub request : IsRequest payload
  pub is : bytes ≡ frame_bytes request_kind payload ++ more
