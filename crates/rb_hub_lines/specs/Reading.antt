-- What reading the lines of events answers.
use Rattle.std.specs.Prelude.{◌≡◌, ◌<◌, ◌^◌, ◌++◌, ℕ, List, [], ◌∷◌, length, map, codes, Option, None, Some, Result, Ok, Err}
use Rattle.std.specs.Fmt.{decimal}
use Rattle.hex.specs.Hex.{encode_lower}
use Rattle.std.specs.Borrow.{Bor}
use Rattle.rb_meaning.specs.Shown.{line}
use Rattle.rb_meaning_bytes.specs.formats.Fields.{IsBytes}
use Rattle.rb_meaning_frames.specs.Histories as histories
use Rattle.rb_hub.specs.declared.events.Event.{Event}
use Rattle.rb_hub_lines.specs.declared.reading.EventsStop.{EventsStop}
use Rattle.rb_hub_lines.specs.declared.reading.EventsStop.TheVariants as stops
use Rattle.rb_hub.specs.Serial.{as_event}
use Rattle.rb_hub_lines.specs.Lines.{BeginsNoEvent, BreaksAtLine, HoldsEvents, IsWritable, event_words}

-- Where the word is a number below 2^32 in decimal, this number was read.
abbrev pub FindsNumber : List ℕ → Option ℕ → Type 0
FindsNumber word answer = (number : ℕ) → number < 2 ^ 32 → word ≡ decimal number → answer ≡ Some number

-- these bytes, unless there are none
abbrev pub unless_empty : List ℕ → Option (List ℕ)
unless_empty [] = None
unless_empty (byte ∷ bytes) = Some (byte ∷ bytes)

-- A piece of a session that was found is one of bytes, and has one at least.
abbrev pub IsPieceIfFound : Option (List ℕ) → Type 0
IsPieceIfFound None = Unit {0}
IsPieceIfFound (Some bytes) = IsBytes bytes × (0 < length bytes)

-- Where the digits are those of one byte or more, these bytes were found; and what was found are such.
pub record FindsBytes (digits : List ℕ) (answer : Option (List ℕ)) : Type 0 where
  pub finds : (bytes : List ℕ) → IsBytes bytes → 0 < length bytes → digits ≡ encode_lower bytes → answer ≡ Some bytes
  pub are : IsPieceIfFound answer

-- as the history has it, an event that was found, if one was
abbrev pub found : Option Event → Option histories.Event
found None = None
found (Some event) = Some (as_event event)

-- An event that was found may be written.
abbrev pub IsWritableIfFound : Option histories.Event → Type 0
IsWritableIfFound None = Unit {0}
IsWritableIfFound (Some event) = IsWritable event

-- Where the words are those of a piece, behind its first word, this piece was found; and what was found may be written.
pub record FindsPiece (words : List ℕ) (answer : Option histories.Event) : Type 0 where
  pub finds : (number : ℕ) (piece : List ℕ) → IsWritable (histories.Piece number piece)
      → words ≡ decimal number ++ (codes " " ++ encode_lower piece) → answer ≡ Some (histories.Piece number piece)
  pub writable : IsWritableIfFound answer

-- Where the words are those of an event that may be written, this event was found; and what was found may be written.
pub record FindsEvent (words : List ℕ) (answer : Option histories.Event) : Type 0 where
  pub finds : (event : histories.Event) → IsWritable event → words ≡ event_words event → answer ≡ Some event
  pub writable : IsWritableIfFound answer

-- The words are those of this event; or of none that may be written.
abbrev pub ReadsWords : List ℕ → Option histories.Event → Type 0
ReadsWords words None = (event : histories.Event) → IsWritable event → words ≡ event_words event → ⊥
ReadsWords words (Some event) = IsWritable event × (words ≡ event_words event)

-- The event's line stands at the front of the text, and this behind it; or no event's does.
abbrev pub ReadsFirst : List ℕ → Option (Event × Bor (List ℕ)) → Type 0
ReadsFirst text None = BeginsNoEvent text
ReadsFirst text (Some parts) = IsWritable (as_event parts.0) × (text ≡ line (event_words (as_event parts.0)) ++ parts.1.now)

-- The text was read as the lines of these events; or this line is the first that isn't an event's; or memory was wanting.
abbrev pub ReadsEvents : {R : Type 0} → (R → List Event) → List ℕ → Result R EventsStop → Type 0
ReadsEvents view text (Ok events) = HoldsEvents text (map as_event (view events))
ReadsEvents view text (Err (stops.Refused number)) = BreaksAtLine text number
ReadsEvents view text (Err stops.Memory) = Unit {0}
