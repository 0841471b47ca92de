-- Printed programs, read again.
use Rattle.std.specs.Prelude.{◌≡◌, ◌≤◌, Ok, length}
use Rattle.rb_trees.specs.mirror.Declarations.{Program}
use Rattle.rb_trees.specs.printing.Programs.{printed_program}
use Rattle.rb_trees.specs.printing.Unplaced.{unplaced}
use Rattle.rb_meaning_bytes.specs.tokens.Texts.{longest_text}
use Rattle.rb_meaning_bytes.specs.grammar.Sources.{ReadSource}

-- What is printed of the program isn't too long to be read.
abbrev pub PrintsShort : Program → Type 0
PrintsShort program = length (printed_program program) ≤ longest_text

-- What is printed of the program is read, and as the same program but for positions.
abbrev pub ReadsBack : Program → Type 0
ReadsBack program = (other : Program) × ReadSource (printed_program program) (Ok other) × (unplaced other ≡ unplaced program)
