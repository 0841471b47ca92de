-- The refusals that the errors of reading tell.
use Rattle.std.specs.Prelude.{Option, Some, None}
use Rattle.rb_trees.specs.declared.reading.LexError.{LexError}
use Rattle.rb_trees.specs.declared.reading.LexError.TheVariants as lex
use Rattle.rb_trees.specs.declared.reading.ReadError.{ReadError}
use Rattle.rb_trees.specs.declared.reading.ReadError.TheVariants as read

-- the refusal of a text that has no tokens
abbrev pub lex_refusal : LexError → Option LexError
lex_refusal lex.Memory = None
lex_refusal error = Some error

-- the refusal of a text that isn't read
abbrev pub read_refusal : ReadError → Option ReadError
read_refusal read.Memory = None
read_refusal error = Some error
