-- What stands at the front of the bytes that a session has.
use Rattle.std.specs.Prelude.{◌≡◌, ℕ, ◌+◌, ◌≤◌, Bool, true, ◌&&◌, nat_le, List, ◌++◌, length, take, drop, Option, MatchOption}
use Rattle.rb_meaning.specs.Answers.{longest_request}
use Rattle.rb_meaning.specs.Replies.{header_length}
use Rattle.rb_meaning_frames.specs.Frames.{header_bytes, frame_bytes, request_kind, is_kind, IsRightBefore, BreaksAt}
use Rattle.rb_meaning_frames.specs.Streams.{BreaksRequest, Waits}
use Rattle.rb_session.specs.declared.frames.Front.{Front}
use Rattle.rb_session.specs.declared.frames.Front.TheVariants.{Whole, Partial, Broken}

-- a test of kinds
abbrev pub is_between : ℕ → ℕ → ℕ → Bool
is_between least most kind = nat_le least kind && nat_le kind most

-- The first byte that breaks the form of a frame, whose kind passes this test, is at this offset; or none does.
abbrev pub IsFirstWrong : (ℕ → Bool) → List ℕ → Option ℕ → Type 0
IsFirstWrong kind bytes wrong = MatchOption wrong (IsRightBefore kind (length bytes) bytes) (λ at. BreaksAt kind at bytes)

-- The header is that of this kind and this length.
pub record IsHeader (header : List ℕ) (kind size : ℕ) : Type 0 where
  pub is : header ≡ header_bytes kind size
  pub kind_is : is_kind kind ≡ true

-- A whole request frame stands there, whose payload has so many bytes.
pub record IsWhole (bytes : List ℕ) (size : ℕ) : Type 0 where
  pub request : size ≤ longest_request
  pub there : header_length + size ≤ length bytes
  pub is : bytes ≡ frame_bytes request_kind (take size (drop header_length bytes)) ++ drop (header_length + size) bytes

abbrev pub IsFront : List ℕ → Front → Type 0
IsFront bytes (Whole size) = IsWhole bytes size
IsFront bytes Partial = Waits bytes
IsFront bytes (Broken offset) = (offset ≤ 3) × BreaksRequest offset bytes
