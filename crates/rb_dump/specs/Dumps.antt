-- What is told of bytes.
use Rattle.std.specs.Prelude.{◌≡◌, ℕ, List, ◌∷◌}
use Rattle.rb_dump.specs.declared.dumps.Form.{Form}
use Rattle.rb_dump.specs.declared.dumps.Form.TheVariants.{Payload, Frames, Journal}
use Rattle.rb_dump.specs.declared.verdicts.Verdict.{Verdict}
use Rattle.rb_dump.specs.Journals.{TellsJournal}
use Rattle.rb_dump.specs.Streams.{Tells}
use Rattle.rb_dump.specs.Verdicts.{Judges, IsShownAs}

abbrev pub BeginsAsFrame : List ℕ → Type 0
BeginsAsFrame bytes = (more : List ℕ) × (bytes ≡ 0x52 ∷ 0x42 ∷ more)

abbrev pub BeginsAsJournal : List ℕ → Type 0
BeginsAsJournal bytes = (more : List ℕ) × (bytes ≡ 0x52 ∷ 0x42 ∷ 0x4a ∷ more)

-- The bytes are read as this: a journal and frames by their first bytes, and all else as a payload.
abbrev pub IsFormOf : List ℕ → Form → Type 0
IsFormOf bytes (Payload message) = ¬ BeginsAsFrame bytes × IsShownAs bytes message
IsFormOf bytes Frames = BeginsAsFrame bytes × ¬ BeginsAsJournal bytes
IsFormOf bytes Journal = BeginsAsJournal bytes

-- Read as this, the bytes have this told of them.
abbrev pub TellsAs : Form → List ℕ → Verdict → Type 0
TellsAs (Payload message) bytes verdict = Judges message 0 bytes verdict
TellsAs Frames bytes verdict = Tells 0 bytes verdict
TellsAs Journal bytes verdict = TellsJournal bytes verdict
