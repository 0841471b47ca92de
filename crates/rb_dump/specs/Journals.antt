-- What is told of journals: a head, and records between gates. A gate is open where it is 1, and a record is a length of four
-- bytes and the payload of a request.
use Rattle.std.specs.Prelude.{◌≡◌, ◌≢◌, ◌⊎◌, ◌+◌, ◌<◌, ◌≤◌, ℕ, List, [], ◌∷◌, ◌++◌, length, drop}
use Rattle.rb_meaning_bytes.specs.formats.Fields.{announced, content}
use Rattle.rb_dump.specs.declared.fields.Message.TheVariants.{Script}
use Rattle.rb_dump.specs.declared.journals.Gate.{Gate}
use Rattle.rb_dump.specs.declared.journals.Gate.TheVariants as gates
use Rattle.rb_dump.specs.declared.verdicts.Verdict.{Verdict}
use Rattle.rb_dump.specs.declared.verdicts.Verdict.TheVariants.{Whole, NoJournal, BadRecord}
use Rattle.rb_dump.specs.Verdicts.{Judges, first, longest}

-- the first bytes of each journal
abbrev pub head : List ℕ
head = 0x52 ∷ 0x42 ∷ 0x4a ∷ 1 ∷ []

-- A record stands at the front of the bytes.
pub record IsRecord (bytes : List ℕ) : Type 0 where
  pub fits : announced bytes ≤ longest
  pub there : 4 + announced bytes ≤ length bytes

-- No record does: it is cut short, or too long.
abbrev pub IsNoRecord : List ℕ → Type 0
IsNoRecord bytes = (length bytes < 4) ⊎ (longest < announced bytes) ⊎ (length bytes < 4 + announced bytes)

-- At this offset these bytes are left behind the head: gates, and records behind open ones. This is told of them: of their
-- payloads and their form what isn't taken first. What stands behind a closed gate is nothing.
pub data TellsRecords : (at : ℕ) → List ℕ → Verdict → Type 0 where
  no_gate : (at : ℕ) → TellsRecords at [] (BadRecord at)
  no_record : (at : ℕ) (behind : List ℕ) → IsNoRecord behind → TellsRecords at (1 ∷ behind) (BadRecord at)
  closed : (at gate : ℕ) (behind : List ℕ) → gate ≢ 1 → TellsRecords at (gate ∷ behind) Whole
  one_more : (at : ℕ) (behind : List ℕ) (found later : Verdict) → IsRecord behind → Judges Script (at + 5) (content behind) found
      → TellsRecords (at + 5 + announced behind) (drop (4 + announced behind) behind) later
      → TellsRecords at (1 ∷ behind) (first found later)

-- the same of all bytes
pub data TellsJournal : List ℕ → Verdict → Type 0 where
  is_journal : (gate : ℕ) (behind : List ℕ) (found : Verdict) → TellsRecords 4 (gate ∷ behind) found
      → TellsJournal (head ++ gate ∷ behind) found
  is_none : (bytes : List ℕ) → ((gate : ℕ) (behind : List ℕ) → bytes ≡ head ++ gate ∷ behind → ⊥) → TellsJournal bytes NoJournal

-- what stands at the front of the bytes behind a head or a record
abbrev pub IsGate : List ℕ → Gate → Type 0
IsGate [] (gates.Open size) = ⊥
IsGate [] gates.Closed = ⊥
IsGate [] gates.Bad = Unit {0}
IsGate (gate ∷ behind) (gates.Open size) = (gate ≡ 1) × IsRecord behind × (size ≡ announced behind)
IsGate (gate ∷ behind) gates.Closed = gate ≢ 1
IsGate (gate ∷ behind) gates.Bad = (gate ≡ 1) × IsNoRecord behind
