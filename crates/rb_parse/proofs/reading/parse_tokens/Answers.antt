use Rattle.rb_meaning_bytes.specs.grammar.Symbols.{TheProgram}
use Rattle.rb_parse.proofs.Laws.{told_ok, told_unexpected, told_nested, unexpected_within, nested_within}
use Rattle.rb_parse.proofs.reading.parse_tokens.Goals as goal

pub place-requires-clause-within : goal.place-requires-clause-within
place-requires-clause-within c = unexpected_within TheProgram c.args.source.now c.args.tokens.now c.in-Err-Unexpected.left (rw c.in-Err-Unexpected.field-0-is at c.in-Err-Unexpected.ensures)

pub place-requires-in-Err-TooNested-clause-within : goal.place-requires-in-Err-TooNested-clause-within
place-requires-in-Err-TooNested-clause-within c = nested_within TheProgram c.args.source.now c.args.tokens.now c.in-Err-TooNested.left (rw c.in-Err-TooNested.field-0-is at c.in-Err-TooNested.ensures)

pub returns-in-Ok : goal.returns-in-Ok
returns-in-Ok c = record { read = rw c.into_inner.ensures (told_ok TheProgram c.args.source.now c.args.tokens.now _ c.in-Ok.ensures) }

pub returns-in-Err-Unexpected : goal.returns-in-Err-Unexpected
returns-in-Err-Unexpected c = record { read = rw c.place.ensures (told_unexpected TheProgram c.args.source.now c.args.tokens.now c.in-Err-Unexpected.left (rw c.in-Err-Unexpected.field-0-is at c.in-Err-Unexpected.ensures)) }

pub returns-in-Err-TooNested : goal.returns-in-Err-TooNested
returns-in-Err-TooNested c = record { read = rw c.place-in-Err-TooNested.ensures (told_nested TheProgram c.args.source.now c.args.tokens.now c.in-Err-TooNested.left (rw c.in-Err-TooNested.field-0-is at c.in-Err-TooNested.ensures)) }
