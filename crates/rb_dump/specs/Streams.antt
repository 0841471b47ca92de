-- What is told of frames that stand one behind the other.
use Rattle.std.specs.Prelude.{◌≡◌, ◌⊎◌, ◌+◌, ◌<◌, ◌≤◌, ℕ, true, cond, nat_eq, List, [], ◌++◌, length, take, drop}
use Rattle.rb_meaning.specs.Replies.{header_length, announced}
use Rattle.rb_meaning_frames.specs.Frames.{frame_bytes, is_kind, IsRightBefore, BreaksAt}
use Rattle.rb_meaning_frames.specs.Streams.{IsTooLong}
use Rattle.rb_dump.specs.declared.fields.Message.{Message}
use Rattle.rb_dump.specs.declared.fields.Message.TheVariants.{Script, Forest, Refusal}
use Rattle.rb_dump.specs.declared.frames.Front.{Front}
use Rattle.rb_dump.specs.declared.frames.Front.TheVariants as fronts
use Rattle.rb_dump.specs.declared.verdicts.Verdict.{Verdict}
use Rattle.rb_dump.specs.declared.verdicts.Verdict.TheVariants.{Whole, BadFrame, CutFrame}
use Rattle.rb_dump.specs.Verdicts.{Judges, first}

-- what the payload of a frame of this kind is to be
abbrev pub message_of : ℕ → Message
message_of kind = cond (nat_eq kind 1) Script (cond (nat_eq kind 2) Forest Refusal)

-- These bytes break the form of a frame at this offset. A request of too many bytes breaks it where its length begins.
abbrev pub Breaks : ℕ → List ℕ → Type 0
Breaks offset bytes = BreaksAt is_kind offset bytes ⊎ IsTooLong offset bytes

-- These bytes break nothing, and they are less than a whole frame.
pub record IsCutFrame (bytes : List ℕ) : Type 0 where
  pub begun : 0 < length bytes
  pub right : IsRightBefore is_kind (length bytes) bytes
  pub short : (length bytes < header_length) ⊎ (length bytes < header_length + announced bytes)

-- At this offset these bytes are left: frames, one behind the other. This is told of them: of their payloads and their form
-- what isn't taken first.
pub data Tells : (at : ℕ) → List ℕ → Verdict → Type 0 where
  no_more : (at : ℕ) → Tells at [] Whole
  cut : (at : ℕ) (bytes : List ℕ) → IsCutFrame bytes → Tells at bytes (CutFrame at)
  broken : (at offset : ℕ) (bytes : List ℕ) → Breaks offset bytes → Tells at bytes (BadFrame (at + offset))
  one_more : (at kind : ℕ) (payload rest : List ℕ) (found later : Verdict) → is_kind kind ≡ true
      → Judges (message_of kind) (at + header_length) payload found → Tells (at + header_length + length payload) rest later
      → Tells at (frame_bytes kind payload ++ rest) (first found later)

-- A whole frame stands at the front of the bytes: its kind, and how many bytes its payload has.
pub record IsWhole (bytes : List ℕ) (kind size : ℕ) : Type 0 where
  pub kind_is : is_kind kind ≡ true
  pub there : header_length + size ≤ length bytes
  pub is : bytes ≡ frame_bytes kind (take size (drop header_length bytes)) ++ drop (header_length + size) bytes

-- what stands at the front of the bytes
abbrev pub IsFront : List ℕ → Front → Type 0
IsFront bytes (fronts.Whole kind size) = IsWhole bytes kind size
IsFront bytes fronts.Cut = IsCutFrame bytes
IsFront bytes (fronts.Broken offset) = Breaks offset bytes
