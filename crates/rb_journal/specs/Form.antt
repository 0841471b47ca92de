-- The form of a journal, and what a file of bytes stands for.
use Rattle.std.specs.Prelude.{◌≡◌, ◌≢◌, ◌≤◌, ℕ, List, [], ◌∷◌, ◌++◌, length, Ok}
use Rattle.std.specs.Int.{w32, to_be_bytes}
use Rattle.std.specs.List.{AllByRecursion}
use Rattle.rb_meaning_bytes.specs.formats.Messages.{Sent}
use Rattle.rb_meaning_bytes.specs.formats.ScriptPayloads.{Means}

-- the first bytes of each journal
abbrev pub head : List ℕ
head = 0x52 ∷ 0x42 ∷ 0x4a ∷ 1 ∷ []

-- The payload spells a valid script with the values of its inputs.
abbrev pub IsAccepted : List ℕ → Type 0
IsAccepted payload = (x : Sent) × Means payload (Ok x)

-- what a record may hold
pub record IsPayload (payload : List ℕ) : Type 0 where
  pub fits : length payload ≤ 16777216
  pub accepted : IsAccepted payload

abbrev pub ArePayloads : List (List ℕ) → Type 0
ArePayloads payloads = AllByRecursion IsPayload payloads

-- a length of four bytes, the highest first, and that many bytes
abbrev pub record_of : List ℕ → List ℕ
record_of payload = to_be_bytes w32 (length payload) ++ payload

-- what an append writes behind its gate: the record, and a closed gate
abbrev pub text_of : List ℕ → List ℕ
text_of payload = record_of payload ++ 0 ∷ []

-- records, each behind an open gate
abbrev pub opened : List (List ℕ) → List ℕ
opened [] = []
opened (payload ∷ payloads) = 1 ∷ (record_of payload ++ opened payloads)

-- what stands before the gate that ends these records
abbrev pub before_gate : List (List ℕ) → List ℕ
before_gate payloads = head ++ opened payloads

-- The bytes stand for these payloads: behind their records the first gate stands that isn't open, and then anything.
pub record StandsFor (bytes : List ℕ) (payloads : List (List ℕ)) : Type 0 where
  pub fit : ArePayloads payloads
  pub gate : ℕ
  pub behind : List ℕ
  pub is_closed : gate ≢ 1
  pub is : bytes ≡ before_gate payloads ++ gate ∷ behind

-- The bytes don't begin as a journal: the head, and a first gate.
abbrev pub IsNoJournal : List ℕ → Type 0
IsNoJournal bytes = (gate : ℕ) (behind : List ℕ) → bytes ≡ head ++ gate ∷ behind → ⊥

-- Behind the open gate of the record of that number, from 0, no record stands with its next gate: it is cut short, too long,
-- or refused, or lacks that gate.
pub record HasBadRecord (bytes : List ℕ) (number : ℕ) : Type 0 where
  pub before : List (List ℕ)
  pub fit : ArePayloads before
  pub count : length before ≡ number
  pub behind : List ℕ
  pub is : bytes ≡ before_gate before ++ 1 ∷ behind
  pub bad : (payload : List ℕ) (gate : ℕ) (rest : List ℕ) → IsPayload payload → behind ≡ record_of payload ++ gate ∷ rest → ⊥
