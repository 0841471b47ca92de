-- A program or a service in the product's layout: what its text has to do with the source, and why there is none.
use Rattle.std.specs.Prelude.{◌≡◌, ℕ, ◌<◌, List, length, Ok, codes}
use Rattle.memchr.specs.Find.{OccursAt}
use Rattle.rb_trees.specs.Outcome.{Refused}
use Rattle.rb_trees.specs.Reading.{read_refusal}
use Rattle.rb_trees.specs.declared.reading.ReadError.TheVariants as unread
use Rattle.rb_trees.specs.declared.stores.StoreError.TheVariants as unserved
use Rattle.rb_trees.specs.declared.services.Object.{Object}
use Rattle.rb_trees.specs.mirror.Declarations.{Program}
use Rattle.rb_trees.specs.mirror.Services.{Service}
use Rattle.rb_trees.specs.printing.Programs.{printed_program}
use Rattle.rb_trees.specs.printing.Unplaced.{unplaced}
use Rattle.rb_meaning_bytes.specs.tokens.Texts.{longest_text}
use Rattle.rb_meaning_bytes.specs.grammar.Sources.{ReadSource}
use Rattle.rb_meaning_types.specs.Stores.{store_refusal}
use Rattle.rb_meaning.specs.ServiceSources.{ReadsAsService}
use Rattle.rb_law_tables.specs.Printed.{printed_service, unplaced_service}
use Rattle.rb_format.specs.Woven.{IsWoven}
use Rattle.rb_format.specs.declared.stops.FormatStop.{FormatStop}
use Rattle.rb_format.specs.declared.stops.FormatStop.TheVariants as stops

-- Somewhere in the text stand two slashes in a row. Without them there is no comment.
abbrev pub HasSlashes : List ℕ → Type 0
HasSlashes text = (at : ℕ) × OccursAt text (codes "//") at

-- The text lays out the source: both are read, and as the same program but for positions. Where the source has no two
-- slashes in a row, the text is just what is printed of its program; else it is that with comments among its lines.
pub record LaysOutProgram (source text : List ℕ) : Type 0 where
  pub program : Program
  pub again : Program
  pub read : ReadSource source (Ok program)
  pub reread : ReadSource text (Ok again)
  pub same : unplaced again ≡ unplaced program
  pub plain : ¬ HasSlashes source → text ≡ printed_program program
  pub woven : HasSlashes source → IsWoven (printed_program program) text

-- The text lays out the source: both are read, as the same service but for positions, and with the same table. Where the
-- source has no two slashes in a row, the text is just what is printed of its service with its table; else it is that with
-- comments among its lines.
pub record LaysOutService (source text : List ℕ) : Type 0 where
  pub service : Service
  pub again : Service
  pub table : List Object
  pub read : ReadsAsService source (Ok (service, table))
  pub reread : ReadsAsService text (Ok (again, table))
  pub same : unplaced_service again ≡ unplaced_service service
  pub plain : ¬ HasSlashes source → text ≡ printed_service service table
  pub woven : HasSlashes source → IsWoven (printed_service service table) text

-- The source is read as a program of which so much is printed that it couldn't be read again.
abbrev pub PrintsLongProgram : List ℕ → Type 0
PrintsLongProgram source = (program : Program) × ReadSource source (Ok program) × (longest_text < length (printed_program program))

-- The same of a service with its table.
abbrev pub PrintsLongService : List ℕ → Type 0
PrintsLongService source =
    (service : Service) × (table : List Object) × ReadsAsService source (Ok (service, table))
    × (longest_text < length (printed_service service table))

-- Why the source isn't laid out as a program. An error of reading tells the refusal that the source has; want of memory
-- tells nothing.
abbrev pub StopsProgram : List ℕ → FormatStop → Type 0
StopsProgram source (stops.Unread unread.Memory) = ⊥
StopsProgram source (stops.Unread error) = Refused (ReadSource source) (read_refusal error)
StopsProgram source (stops.Unserved error) = ⊥
StopsProgram source stops.Unkept = HasSlashes source
StopsProgram source stops.TooLong = PrintsLongProgram source
StopsProgram source stops.Memory = Unit {0}

-- Why the source isn't laid out as a service.
abbrev pub StopsService : List ℕ → FormatStop → Type 0
StopsService source (stops.Unread error) = ⊥
StopsService source (stops.Unserved unserved.Memory) = ⊥
StopsService source (stops.Unserved error) = Refused (ReadsAsService source) (store_refusal error)
StopsService source stops.Unkept = HasSlashes source
StopsService source stops.TooLong = PrintsLongService source
StopsService source stops.Memory = Unit {0}
