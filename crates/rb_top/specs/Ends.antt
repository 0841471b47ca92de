-- How a call that prints a text ends.
use Rattle.std.specs.Prelude.{◌≡◌, ℕ, zero, suc, List, ◌++◌, codes}
use Rattle.rb_meaning.specs.Shown.{line}
use Rattle.rb_base.specs.Devices.{Device, failed}
use Rattle.rb_base.specs.Directories.{Directory, read_once}
use Rattle.rb_base.specs.Sinks.{with_bytes, WrotePrefix}
use Rattle.rb_top.specs.Scene.{Scene}
use Rattle.rb_top.specs.declared.status.Status.{Status}
use Rattle.rb_top.specs.declared.status.Status.TheVariants.{WriteFault, Memory}

-- the line of a file that can't be read, and of one that has too many bytes
abbrev pub fault_line : List ℕ → List ℕ
fault_line name = line (codes "file fault " ++ name)

abbrev pub too_long_line : List ℕ → List ℕ
too_long_line name = line (codes "file too long " ++ name)

-- The call was to print this text and to answer this status. It did, and no write failed; or a front of the text was
-- printed, and then a write failed, which is one fault more, or no memory was left.
pub data Ends (status : Status) (text : List ℕ) (result : Status) (before after : Device (List ℕ)) : Type 0 where
  whole : result ≡ status → after ≡ with_bytes before text → Ends status text result before after
  cut : result ≡ WriteFault → WrotePrefix (failed before) after text → Ends status text result before after
  starved : result ≡ Memory → WrotePrefix before after text → Ends status text result before after

-- the files after so many reads, of which none failed
abbrev pub read_times : ℕ → Device Directory → Device Directory
read_times zero files = files
read_times (suc count) files = read_once (read_times count files)

-- a status, a text, and how the files are left
abbrev pub Said : Type 1
Said = Status → List ℕ → Device Directory → Type 0

-- What is told was answered and printed, and the files are left so. Or memory was wanting before it was known; then nothing was
-- printed, and no read failed.
pub data Tells (Is : Said) (result : Status) (before after : Scene) : Type 0 where
  said : (status : Status) (text : List ℕ) → Is status text after.files → Ends status text result before.out after.out → Tells Is result before after
  starved_first : (count : ℕ) → result ≡ Memory → after ≡ record before { files = read_times count before.files } → Tells Is result before after
