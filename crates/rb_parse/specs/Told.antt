-- What a source is refused for that has a fault in place of tokens.
use Rattle.rb_trees.specs.declared.reading.ReadError.{ReadError}
use Rattle.rb_trees.specs.declared.reading.ReadError.TheVariants as errors
use Rattle.rb_trees.specs.declared.reading.LexError.{LexError}
use Rattle.rb_trees.specs.declared.reading.LexError.TheVariants as faults

-- The refusal of a source that has this fault in place of tokens. Want of memory is handed on as such.
abbrev pub refusal_of : LexError → ReadError
refusal_of faults.Memory = errors.Memory
refusal_of (faults.BadByte at) = errors.Lex (faults.BadByte at)
refusal_of (faults.OpenText at) = errors.Lex (faults.OpenText at)
refusal_of (faults.NumberTooLarge at) = errors.Lex (faults.NumberTooLarge at)
refusal_of (faults.NotUtf8 at) = errors.Lex (faults.NotUtf8 at)
refusal_of (faults.TooLong at) = errors.Lex (faults.TooLong at)
