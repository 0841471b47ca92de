-- What may be wrong with the frame of a reply: two bytes that are always the same, the kind, eight bytes of length, and
-- then the payload.
use Rattle.std.specs.Prelude.{◌≡◌, ◌==◌, ◌⊎◌, ℕ, zero, suc, ◌+◌, ◌<◌, Bool, true, false, ◌||◌, List, length, take, drop, get_or}
use Rattle.std.specs.Int.{w64, from_be_bytes}
use Rattle.rb_meaning.specs.Answers.{forest_kind, refusal_kind}

-- Whether a byte may stand at an offset of a reply's frame. Each of the first three is judged by itself; any length and
-- any payload may follow.
abbrev pub may_stand : ℕ → ℕ → Bool
may_stand zero byte = byte == 0x52
may_stand (suc zero) byte = byte == 0x42
may_stand (suc (suc zero)) byte = (byte == forest_kind) || (byte == refusal_kind)
may_stand _ byte = true

-- Before an offset no byte is wrong.
abbrev pub IsRightBefore : ℕ → List ℕ → Type 0
IsRightBefore offset bytes = (i : ℕ) → i < offset → may_stand i (get_or bytes i 0) ≡ true

-- The first byte of a reply that may not stand where it does has this offset.
pub record BreaksAt (offset : ℕ) (bytes : List ℕ) : Type 0 where
  pub within : offset < length bytes
  pub wrong : may_stand offset (get_or bytes offset 0) ≡ false
  pub before : IsRightBefore offset bytes

-- the length of a header
abbrev pub header_length : ℕ
header_length = 11

-- the length of the payload that a header announces, which is its last eight bytes
abbrev pub announced : List ℕ → ℕ
announced bytes = from_be_bytes w64 (take 8 (drop 3 bytes))

-- These bytes of a reply break nothing, and they are less than a whole frame.
pub record IsCut (bytes : List ℕ) : Type 0 where
  pub right : IsRightBefore (length bytes) bytes
  pub short : (length bytes < header_length) ⊎ (length bytes < header_length + announced bytes)
