-- Laws of frames and streams.
use Rattle.std.specs.Prelude.{◌≡◌, ℕ, ◌+◌, ◌≤◌, Bool, List, ◌++◌, length, take, drop, get_or}
use Rattle.rb_meaning_bytes.specs.formats.Fields.{IsBytes}
use Rattle.rb_meaning.specs.Replies.{header_length, announced}
use Rattle.rb_meaning_frames.specs.Frames.{header_bytes, frame_bytes, IsRightBefore}
use Rattle.rb_meaning_frames.specs.Streams.{Rest, Broken, Divides}

-- A header whose first three bytes are right is the header of its kind and of the length that it announces.
abbrev pub HeadersAreSpelled : Type 0
HeadersAreSpelled = (is_kind : ℕ → Bool) (bytes : List ℕ) → IsBytes bytes → header_length ≤ length bytes → IsRightBefore is_kind 3 bytes
    → take header_length bytes ≡ header_bytes (get_or bytes 2 0) (announced bytes)

-- Bytes that begin with such a header, and are no fewer than it announces, begin with its frame.
abbrev pub FramesAreWhole : Type 0
FramesAreWhole = (is_kind : ℕ → Bool) (bytes : List ℕ) → IsBytes bytes → header_length + announced bytes ≤ length bytes → IsRightBefore is_kind 3 bytes
    → bytes ≡ frame_bytes (get_or bytes 2 0) (take (announced bytes) (drop header_length bytes)) ++ drop (header_length + announced bytes) bytes

-- There is a division of the stream, and no other.
pub record IsDividedOnce (stream : List ℕ) : Type 0 where
  pub payloads : List (List ℕ)
  pub rest : List ℕ
  pub kind : Rest
  pub divides : Divides stream payloads rest kind
  pub once : (ps : List (List ℕ)) (r : List ℕ) (k : Rest) → Divides stream ps r k → (ps ≡ payloads) × (r ≡ rest) × (k ≡ kind)

-- Each list of bytes is divided in one way.
abbrev pub EachIsDividedOnce : Type 0
EachIsDividedOnce = (stream : List ℕ) → IsBytes stream → IsDividedOnce stream

-- What comes after a piece of a stream is divided together with the rest of the piece.
abbrev pub IsCutAnywhere : Type 0
IsCutAnywhere = (piece next : List ℕ) (ps qs : List (List ℕ)) (rest last : List ℕ) (kind end : Rest)
    → Divides piece ps rest kind → Divides (rest ++ next) qs last end → Divides (piece ++ next) (ps ++ qs) last end

-- Whatever comes after bytes that break the form, they break it there.
abbrev pub StaysBroken : Type 0
StaysBroken = (piece next : List ℕ) (ps : List (List ℕ)) (rest : List ℕ) (offset : ℕ)
    → Divides piece ps rest (Broken offset) → Divides (piece ++ next) ps (rest ++ next) (Broken offset)
