-- What a whole stream of requests is read as: its requests, what stands behind them, and how it goes on. These are functions
-- of the stream, and compute.
use Rattle.std.specs.Prelude.{◌≡◌, ◌⊎◌, ℕ, zero, suc, ◌+◌, ◌≤◌, All, if◌then◌else◌, nat_le, List, [], ◌∷◌, ◌++◌, length, take, drop, Option, None, Some}
use Rattle.rb_meaning.specs.Answers.{longest_request}
use Rattle.rb_meaning.specs.Replies.{header_length, announced}
use Rattle.rb_meaning_frames.specs.Frames.{is_request, may_stand}
use Rattle.rb_meaning_frames.specs.Streams.{IsRequest, request_frames, BreaksRequest, Waits, BeginsWhole, most_requests}

-- what stands at the front of some bytes
pub data Standing : Type 0 where
  -- a whole request frame, whose payload has so many bytes
  Whole : ℕ → Standing
  -- nothing, or less than a frame, and nothing that breaks its form
  Waiting : Standing
  -- bytes that break the form, at this offset
  Breaking : ℕ → Standing

-- the offset of the first byte that may not stand where it does, of bytes that begin at an offset of their frame
abbrev pub first_wrong : ℕ → List ℕ → Option ℕ
first_wrong at [] = None
first_wrong at (byte ∷ bytes) = if may_stand is_request at byte then first_wrong (suc at) bytes else Some at

-- the payload is there, or a part of it
abbrev pub by_payload : List ℕ → Standing
by_payload bytes = if nat_le (header_length + announced bytes) (length bytes) then Whole (announced bytes) else Waiting

-- the length is there, or a part of it; a length that is too great breaks the form at its first byte
abbrev pub by_length : List ℕ → Standing
by_length bytes =
    if nat_le header_length (length bytes) then (if nat_le (announced bytes) longest_request then by_payload bytes else Breaking 3) else Waiting

unfoldable pub standing : List ℕ → Standing
standing bytes = elim (first_wrong 0 bytes) [ None ↦ by_length bytes | Some at ↦ Breaking at ]

-- a stream: the payloads of its requests, and what follows them
pub record Division : Type 0 where
  pub payloads : List (List ℕ)
  pub rest : List ℕ

abbrev pub undivided : List ℕ → Division
undivided bytes = record { payloads = []; rest = bytes }

abbrev pub with_first : List ℕ → Division → Division
with_first payload d = record { payloads = payload ∷ d.payloads; rest = d.rest }

-- The whole request frames at the front of a stream, at most so many, and what follows them.
unfoldable pub divided : ℕ → List ℕ → Division
divided zero bytes = undivided bytes
divided (suc most) bytes = elim (standing bytes) [
  | Whole size ↦ with_first (take size (drop header_length bytes)) (divided most (drop (header_length + size) bytes))
  | Waiting ↦ undivided bytes
  | Breaking at ↦ undivided bytes
]

-- the requests of a stream: its whole frames, the first 2^32 of them where there are more
abbrev pub requests_of : List ℕ → List (List ℕ)
requests_of stream = (divided most_requests stream).payloads

-- what follows them
abbrev pub rest_of : List ℕ → List ℕ
rest_of stream = (divided most_requests stream).rest

-- Nothing more is taken of what follows so many requests.
abbrev pub IsLast : ℕ → List ℕ → Type 0
IsLast count rest = (count ≡ most_requests) ⊎ (Waits rest ⊎ ((at : ℕ) × BreaksRequest at rest))

-- A stream is read as it is divided.
abbrev pub StreamsAreRead : Type 0
StreamsAreRead = (stream : List ℕ) (payloads : List (List ℕ)) (rest : List ℕ) → All IsRequest payloads → stream ≡ request_frames payloads ++ rest
    → length payloads ≤ most_requests → IsLast (length payloads) rest → divided most_requests stream ≡ record { payloads = payloads; rest = rest }

-- What follows the requests is read as it stands.
pub record FrontsAreRead : Type 0 where
  pub waits : (bytes : List ℕ) → Waits bytes → standing bytes ≡ Waiting
  pub breaks : (bytes : List ℕ) (at : ℕ) → BreaksRequest at bytes → standing bytes ≡ Breaking at
  pub begins : (bytes : List ℕ) → (w : BeginsWhole bytes) → standing bytes ≡ Whole (length w.payload)

-- A stream that goes on keeps its requests.
abbrev pub RequestsStay : Type 0
RequestsStay = (stream more : List ℕ) → requests_of (stream ++ more) ≡ requests_of stream ++ drop (length (requests_of stream)) (requests_of (stream ++ more))
