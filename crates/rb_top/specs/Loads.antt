-- What reading a text from the files answers, and how it leaves them.
use Rattle.std.specs.Prelude.{◌≡◌, ℕ, List, Option, Result, Ok, Err, IsTrue}
use Rattle.rb_trees.specs.mirror.Declarations.{Program}
use Rattle.rb_meaning_bytes.specs.grammar.Sources.{ReadSource}
use Rattle.rb_meaning_types.specs.Programs.{is_typed}
use Rattle.rb_base.specs.Devices.{Device, failed}
use Rattle.rb_base.specs.Directories.{Directory, Finds, FailsNext, read_once}
use Rattle.rb_top.specs.Texts.{WithinLength, TooLong, IsProgram}
use Rattle.rb_top.specs.declared.loading.TextStop.{TextStop}
use Rattle.rb_top.specs.declared.loading.TextStop.TheVariants as stops

-- The file of the name holds too long a text, as far as the files tell.
abbrev pub FindsTooLong : Option Directory → List ℕ → Type 0
FindsTooLong told name = (text : List ℕ) × Finds told name text × TooLong text

-- No text was read from the file of the name for this cause.
abbrev pub Unread : TextStop → List ℕ → Device Directory → Device Directory → Type 0
Unread stops.FileFault name before after = FailsNext before.told name × (after ≡ failed (read_once before))
Unread stops.TooLong name before after = FindsTooLong before.told name × (after ≡ read_once before)
Unread stops.Memory name before after = after ≡ read_once before

-- The file of the name holds this text, which is within the limit, as far as the files tell.
abbrev pub HoldsText : Option Directory → List ℕ → List ℕ → Type 0
HoldsText told name text = Finds told name text × WithinLength text

-- The text of the file of the name was read, or none for some cause.
abbrev pub LoadsText : {R : Type 0} → (R → List ℕ) → List ℕ → Result R TextStop → Device Directory → Device Directory → Type 0
LoadsText view name (Ok text) before after = HoldsText before.told name (view text) × (after ≡ read_once before)
LoadsText view name (Err stop) before after = Unread stop name before after

-- The file of the name holds this text, as far as the files tell, and it is read as this program, which is typed.
pub record HoldsTyped (told : Option Directory) (name text : List ℕ) (program : Program) : Type 0 where
  pub finds : Finds told name text
  pub read : ReadSource text (Ok program)
  pub typed : IsTrue (is_typed program)

-- The same, and the program is admitted.
pub record HoldsProgram (told : Option Directory) (name text : List ℕ) (program : Program) : Type 0 where
  pub finds : Finds told name text
  pub is : IsProgram text program
