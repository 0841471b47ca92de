-- What is told of payloads.
use Rattle.std.specs.Prelude.{◌≡◌, ◌<◌, ◌≤◌, ℕ, List, length, Ok, Err}
use Rattle.rb_trees.specs.declared.versions.Version.{Version}
use Rattle.rb_trees.specs.mirror.Forests.{Node}
use Rattle.rb_meaning_bytes.specs.formats.Forests.{forest_message}
use Rattle.rb_meaning_bytes.specs.formats.Messages.{Sent}
use Rattle.rb_meaning_bytes.specs.formats.Payloads.{IsRefusal}
use Rattle.rb_meaning_bytes.specs.formats.ScriptPayloads as script
use Rattle.rb_wire_forest.specs.Payloads as forest
use Rattle.rb_dump.specs.declared.fields.Message.{Message}
use Rattle.rb_dump.specs.declared.fields.Message.TheVariants.{Script, Forest, Refusal}
use Rattle.rb_dump.specs.declared.verdicts.Verdict.{Verdict}
use Rattle.rb_dump.specs.declared.verdicts.Verdict.TheVariants.{Whole, Refused, NoRefusal, TooLong, BadFrame, CutFrame, NoJournal, BadRecord}

-- the most bytes that a script may have
abbrev pub longest : ℕ
longest = 16777216

-- The payload spells a valid script with the values of its inputs, and isn't too long for one.
pub record IsScript (payload : List ℕ) : Type 0 where
  pub fits : length payload ≤ longest
  pub sent : Sent
  pub means : script.Means payload (Ok sent)

-- It is no script, with this refusal.
abbrev pub IsNoScript : List ℕ → (number at : ℕ) → Type 0
IsNoScript payload number at = (version : Version) × script.Means payload (Err (record { version = version; number = number; at = at }))

-- The payload spells a forest.
abbrev pub IsForest : List ℕ → Type 0
IsForest payload = (root : Node) × forest.Means forest_message payload (Ok root)

-- It is no forest, with this first violation.
abbrev pub IsNoForest : List ℕ → (number at : ℕ) → Type 0
IsNoForest payload number at = forest.Means forest_message payload (Err (number, at))

-- The payload spells a refusal.
abbrev pub IsARefusal : List ℕ → Type 0
IsARefusal payload = (number : ℕ) × (at : ℕ) × IsRefusal payload number at

-- The payload spells such a message.
abbrev pub IsTaken : Message → List ℕ → Type 0
IsTaken Script payload = IsScript payload
IsTaken Forest payload = IsForest payload
IsTaken Refusal payload = IsARefusal payload

-- A payload is shown as this message: as a script if it spells one, else as a forest if it spells one, else as a refusal.
-- One that spells none of them may be shown as any.
pub record IsShownAs (payload : List ℕ) (message : Message) : Type 0 where
  pub script : IsTaken Script payload → message ≡ Script
  pub forest : ¬ IsTaken Script payload → IsTaken Forest payload → message ≡ Forest
  pub refusal : ¬ IsTaken Script payload → ¬ IsTaken Forest payload → IsTaken Refusal payload → message ≡ Refusal

-- A payload begins at an offset and is to be such a message: this is told of it.
abbrev pub Judges : Message → (start : ℕ) → List ℕ → Verdict → Type 0
Judges Script start payload Whole = IsScript payload
Judges Script start payload (Refused from number at) = (from ≡ start) × IsNoScript payload number at
Judges Script start payload (NoRefusal from) = ⊥
Judges Script start payload (TooLong from) = (from ≡ start) × (longest < length payload)
Judges Script start payload (BadFrame at) = ⊥
Judges Script start payload (CutFrame at) = ⊥
Judges Script start payload NoJournal = ⊥
Judges Script start payload (BadRecord at) = ⊥
Judges Forest start payload Whole = IsForest payload
Judges Forest start payload (Refused from number at) = (from ≡ start) × IsNoForest payload number at
Judges Forest start payload (NoRefusal from) = ⊥
Judges Forest start payload (TooLong from) = ⊥
Judges Forest start payload (BadFrame at) = ⊥
Judges Forest start payload (CutFrame at) = ⊥
Judges Forest start payload NoJournal = ⊥
Judges Forest start payload (BadRecord at) = ⊥
Judges Refusal start payload Whole = IsARefusal payload
Judges Refusal start payload (Refused from number at) = ⊥
Judges Refusal start payload (NoRefusal from) = (from ≡ start) × ¬ IsARefusal payload
Judges Refusal start payload (TooLong from) = ⊥
Judges Refusal start payload (BadFrame at) = ⊥
Judges Refusal start payload (CutFrame at) = ⊥
Judges Refusal start payload NoJournal = ⊥
Judges Refusal start payload (BadRecord at) = ⊥

-- The first of two that says of something that it isn't taken.
abbrev pub first : Verdict → Verdict → Verdict
first Whole later = later
first (Refused from number at) later = Refused from number at
first (NoRefusal from) later = NoRefusal from
first (TooLong from) later = TooLong from
first (BadFrame at) later = BadFrame at
first (CutFrame at) later = CutFrame at
first NoJournal later = NoJournal
first (BadRecord at) later = BadRecord at
