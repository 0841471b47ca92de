-- A service with its table as a text, and the laws that the text is read back.
use Rattle.std.specs.Prelude.{◌≡◌, ℕ, ◌≤◌, List, ◌++◌, map, length, Ok, codes}
use Rattle.std.specs.Fmt.{decimal}
use Rattle.rb_trees.specs.declared.services.Object.{Object}
use Rattle.rb_trees.specs.mirror.Declarations.{Class}
use Rattle.rb_trees.specs.mirror.Services.{Service, ServiceText}
use Rattle.rb_trees.specs.printing.Pieces.{spelled}
use Rattle.rb_trees.specs.printing.Programs.{classes_pieces}
use Rattle.rb_trees.specs.printing.Unplaced.{unplaced_class}
use Rattle.rb_meaning_bytes.specs.tokens.Texts.{longest_text}
use Rattle.rb_meaning_bytes.specs.grammar.Sources.{ReadService}
use Rattle.rb_meaning.specs.Links.{IsTyped}
use Rattle.rb_meaning.specs.Shown.{line, shown_table}
use Rattle.rb_meaning.specs.ServiceSources.{ReadsAsService}

-- the line that names the root
abbrev pub root_line : ℕ → List ℕ
root_line root = line (codes "root " ++ decimal root ++ codes ";")

-- a service with its table: its classes as programs print them, the lines of its objects, and that of its root
abbrev pub printed_service : Service → List Object → List ℕ
printed_service service table = spelled (classes_pieces service.classes) ++ shown_table 0 table ++ root_line service.root

-- The text isn't too long to be read.
abbrev pub PrintsShort : Service → List Object → Type 0
PrintsShort service table = length (printed_service service table) ≤ longest_text

-- The classes are those of a text that was read. So they break no limit of nesting, and no literal in them is negative but
-- the least Int behind a minus.
abbrev pub WereRead : List Class → Type 0
WereRead classes = (source : List ℕ) × (text : ServiceText) × ReadService source (Ok text) × (text.classes ≡ classes)

-- a service without its positions
abbrev pub unplaced_service : Service → Service
unplaced_service service = record { classes = map unplaced_class service.classes; root = service.root }

-- The text is read as the same service but for positions, with just this table.
abbrev pub TableReadsBack : Service → List Object → Type 0
TableReadsBack service table =
    (other : Service) × ReadsAsService (printed_service service table) (Ok (other, table))
    × (unplaced_service other ≡ unplaced_service service)

-- What is printed of a typed service whose classes were read, with its table, is read back, where it isn't too long.
abbrev pub PrintedTablesReadBack : Type 0
PrintedTablesReadBack =
    (service : Service) → (table : List Object) → WereRead service.classes → IsTyped service table → PrintsShort service table
    → TableReadsBack service table

-- The classes of a service that a source is read as were read.
abbrev pub ReadServicesHaveReadClasses : Type 0
ReadServicesHaveReadClasses =
    (source : List ℕ) → (service : Service) → (table : List Object) → ReadsAsService source (Ok (service, table)) → WereRead service.classes
