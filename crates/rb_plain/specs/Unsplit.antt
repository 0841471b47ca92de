-- What an unsplit run leaves.
use Rattle.std.specs.Prelude.{◌≡◌, ℕ, List, map, Result, Ok, Err}
use Rattle.rb_trees.specs.declared.declarations.Class as class
use Rattle.rb_trees.specs.declared.declarations.Program as program
use Rattle.rb_trees.specs.declared.services.Change.{Change}
use Rattle.rb_trees.specs.declared.services.Object.{Object}
use Rattle.rb_trees.specs.mirror.Declarations.{mirror_program}
use Rattle.rb_trees.specs.mirror.Services.{mirror_service}
use Rattle.rb_meaning.specs.Changes.{all_changed}
use Rattle.rb_meaning.specs.Meaning.{Meaning, meaning_with}
use Rattle.rb_meaning.specs.Shown.{exchanges}
use Rattle.rb_base.specs.Devices.{Device, failed}
use Rattle.rb_base.specs.Sinks.{with_bytes, WrotePrefix}
use Rattle.rb_plain.specs.Staged.{Staged, program_of, service_of}
use Rattle.rb_trees.specs.declared.outcomes.Run.{Run}
use Rattle.rb_plain.specs.declared.run.Terms.{Terms}
use Rattle.rb_plain.specs.declared.run.PlainStop.{PlainStop}
use Rattle.rb_plain.specs.declared.run.PlainStop.TheVariants as stops

-- the unsplit meaning of the program of a stage on its service, with this table and on these terms
abbrev pub staged_meaning : Staged → List Object → Terms → Meaning
staged_meaning st table t = meaning_with (program_of st) (service_of st) table (map all_changed t.others.now) t.fuel

-- the unsplit meaning of a program on a service of these classes, with this root and table, where others make the changes of a
-- list before each batch
abbrev pub meant : program.Program → List class.Class → ℕ → List Object → List (List Change) → ℕ → Meaning
meant p classes root table others fuel =
    meaning_with (mirror_program p) (mirror_service (record { classes = classes; root = root })) table (map all_changed others) fuel

-- The run ended so, with so many batches begun, and left this table.
pub record Leaves (m : Meaning) (run : Run) (table : List Object) : Type 0 where
  pub ending_so : run.ending ≡ m.ending
  pub exchanges_so : run.exchanges ≡ exchanges m.events
  pub table_so : table ≡ m.table

-- The whole text was written; or a front of it, and a write failed. Of want of memory nothing is said.
abbrev pub WritesUnlessStarved : {A : Type 0} → List ℕ → Result A PlainStop → Device (List ℕ) → Device (List ℕ) → Type 0
WritesUnlessStarved text (Ok a) before after = after ≡ with_bytes before text
WritesUnlessStarved text (Err stops.WriteFault) before after = WrotePrefix (failed before) after text
WritesUnlessStarved text (Err stops.Memory) before after = Unit {0}
