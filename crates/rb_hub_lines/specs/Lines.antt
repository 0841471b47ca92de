-- The lines of events: how an event is written, and what a text of such lines holds.
use Rattle.std.specs.Prelude.{◌≡◌, ◌<◌, ◌^◌, ℕ, suc, List, [], ◌∷◌, ◌++◌, length, codes}
use Rattle.std.specs.Fmt.{decimal}
use Rattle.hex.specs.Hex.{encode_lower}
use Rattle.rb_meaning.specs.Shown.{line}
use Rattle.rb_meaning_bytes.specs.formats.Fields.{IsBytes}
use Rattle.rb_meaning_frames.specs.Histories.{Event, Open, Piece, Close}

-- how an event is written: the session's number in decimal, and each byte of a piece as two digits, with lower-case letters
abbrev pub event_words : Event → List ℕ
event_words Open = codes "open"
event_words (Piece number piece) = codes "piece " ++ (decimal number ++ (codes " " ++ encode_lower piece))
event_words (Close number) = codes "close " ++ decimal number

-- An event may be written: a session's number is below 2^32, and a piece has at least one byte.
abbrev pub IsWritable : Event → Type 0
IsWritable Open = Unit {0}
IsWritable (Piece number piece) = (number < 2 ^ 32) × IsBytes piece × (0 < length piece)
IsWritable (Close number) = number < 2 ^ 32

abbrev pub AreWritable : List Event → Type 0
AreWritable [] = Unit {0}
AreWritable (event ∷ events) = IsWritable event × AreWritable events

-- the lines of events, one behind the other, each ended by a line feed
abbrev pub events_text : List Event → List ℕ
events_text [] = []
events_text (event ∷ events) = line (event_words event) ++ events_text events

-- The text is the lines of these events.
pub record HoldsEvents (text : List ℕ) (events : List Event) : Type 0 where
  pub is : text ≡ events_text events
  pub writable : AreWritable events

-- No event's line stands at the front of the text.
abbrev pub BeginsNoEvent : List ℕ → Type 0
BeginsNoEvent text = (event : Event) (rest : List ℕ) → IsWritable event → text ≡ line (event_words event) ++ rest → ⊥

-- Of the text's lines, counted from 1, the one with this number is the first that is no event's. A last line without its line feed is
-- none, either.
pub record BreaksAtLine (text : List ℕ) (number : ℕ) : Type 0 where
  pub front : List Event
  pub rest : List ℕ
  pub is : text ≡ events_text front ++ rest
  pub writable : AreWritable front
  pub number_is : number ≡ suc (length front)
  pub some : 0 < length rest
  pub none : BeginsNoEvent rest

-- A text of events' lines has no line that breaks their form.
abbrev pub HaveOneReading : Type 0
HaveOneReading = (text : List ℕ) (events : List Event) (number : ℕ) → HoldsEvents text events → BreaksAtLine text number → ⊥
