-- What a source is printed as.
use Rattle.std.specs.Prelude.{◌≡◌, ℕ, ◌<◌, ◌≤◌, List, length, Ok}
use Rattle.rb_trees.specs.declared.services.Object.{Object}
use Rattle.rb_trees.specs.mirror.Declarations.{Program}
use Rattle.rb_trees.specs.mirror.Services.{Service}
use Rattle.rb_trees.specs.printing.Programs.{printed_program}
use Rattle.rb_meaning_bytes.specs.tokens.Texts.{longest_text}
use Rattle.rb_meaning_bytes.specs.grammar.Sources.{ReadSource}
use Rattle.rb_meaning.specs.Links.{IsTyped}
use Rattle.rb_meaning.specs.ServiceSources.{ReadsAsService}
use Rattle.rb_law_tables.specs.Printed.{printed_service}
use Rattle.rb_format.specs.declared.stops.FormatStop.{FormatStop}
use Rattle.rb_format.specs.declared.stops.FormatStop.TheVariants as stops

-- The source is read as a program, of which this is printed; and that isn't too long to be read again.
pub record PrintsProgram (source text : List ℕ) : Type 0 where
  pub program : Program
  pub read : ReadSource source (Ok program)
  pub printed : text ≡ printed_program program
  pub short : length text ≤ longest_text

-- The same of a service with its table, which fits it.
pub record PrintsService (source text : List ℕ) : Type 0 where
  pub service : Service
  pub table : List Object
  pub read : ReadsAsService source (Ok (service, table))
  pub typed : IsTyped service table
  pub printed : text ≡ printed_service service table
  pub short : length text ≤ longest_text

-- Why a text isn't given that was to be this one: it's too long, or memory ran out.
abbrev pub IsTooMuch : List ℕ → FormatStop → Type 0
IsTooMuch text stops.TooLong = longest_text < length text
IsTooMuch text stops.Memory = Unit {0}
IsTooMuch text _ = ⊥
