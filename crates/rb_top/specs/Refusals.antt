-- How the refusal of a program's text, and a violation of its types, is shown: its stage, its number, its name, and
-- its place.
use Rattle.std.specs.Prelude.{ℕ, List, [], ◌++◌, length, min, codes}
use Rattle.rb_trees.specs.declared.reading.LexError.{LexError}
use Rattle.rb_trees.specs.declared.reading.LexError.TheVariants as faults
use Rattle.rb_trees.specs.declared.reading.ReadError.{ReadError}
use Rattle.rb_trees.specs.declared.reading.ReadError.TheVariants as errors
use Rattle.rb_trees.specs.declared.typing.TypeError.{TypeError}
use Rattle.rb_trees.specs.declared.typing.TypeError.TheVariants as violations
use Rattle.rb_meaning.specs.Shown.{line_and_column}

-- the line and column of an offset; an offset behind the text counts as its end
abbrev pub place_in : List ℕ → ℕ → List ℕ
place_in text at = line_and_column text (min at (length text))

-- the faults of the tokens, by their numbers from 1
abbrev pub lex_heading : LexError → List ℕ
lex_heading (faults.BadByte at) = codes "lex 1 BadByte"
lex_heading (faults.OpenText at) = codes "lex 2 OpenText"
lex_heading (faults.NumberTooLarge at) = codes "lex 3 NumberTooLarge"
lex_heading (faults.NotUtf8 at) = codes "lex 4 NotUtf8"
lex_heading (faults.TooLong at) = codes "lex 5 TooLong"
lex_heading faults.Memory = []

-- the refusals of the grammar have the numbers behind those; want of memory is no refusal
abbrev pub heading : ReadError → List ℕ
heading (errors.Lex fault) = lex_heading fault
heading (errors.Unexpected at) = codes "parse 6 Unexpected"
heading (errors.TooNested at) = codes "parse 7 TooNested"
heading errors.Memory = []

abbrev pub lex_offset : LexError → ℕ
lex_offset (faults.BadByte at) = at
lex_offset (faults.OpenText at) = at
lex_offset (faults.NumberTooLarge at) = at
lex_offset (faults.NotUtf8 at) = at
lex_offset (faults.TooLong at) = at
lex_offset faults.Memory = 0

-- where a text is refused
abbrev pub offset : ReadError → ℕ
offset (errors.Lex fault) = lex_offset fault
offset (errors.Unexpected at) = at
offset (errors.TooNested at) = at
offset errors.Memory = 0

-- the violations of the types, by their numbers from 1; a type that wasn't wanted isn't shown
abbrev pub violation_heading : TypeError → List ℕ
violation_heading (violations.UnknownName at) = codes "types 1 UnknownName"
violation_heading (violations.NameTaken at) = codes "types 2 NameTaken"
violation_heading (violations.WrongType at found) = codes "types 3 WrongType"
violation_heading (violations.WrongCount at) = codes "types 4 WrongCount"
violation_heading (violations.NotAssignable at) = codes "types 5 NotAssignable"
violation_heading (violations.MissingReturn at) = codes "types 6 MissingReturn"
violation_heading (violations.TypeNotHere at) = codes "types 7 TypeNotHere"
violation_heading (violations.NotAllowedHere at) = codes "types 8 NotAllowedHere"
violation_heading violations.Memory = []

-- where a program has a violation
abbrev pub violation_offset : TypeError → ℕ
violation_offset (violations.UnknownName at) = at
violation_offset (violations.NameTaken at) = at
violation_offset (violations.WrongType at found) = at
violation_offset (violations.WrongCount at) = at
violation_offset (violations.NotAssignable at) = at
violation_offset (violations.MissingReturn at) = at
violation_offset (violations.TypeNotHere at) = at
violation_offset (violations.NotAllowedHere at) = at
violation_offset violations.Memory = 0

-- what is refused, and where in the text, without a line feed
abbrev pub shown_at : List ℕ → List ℕ → ℕ → List ℕ
shown_at text heading at = heading ++ codes " at " ++ place_in text at

-- the refusal of a text, without its line feed
abbrev pub shown_refusal : List ℕ → ReadError → List ℕ
shown_refusal text error = shown_at text (heading error) (offset error)

-- the violation of a program in its text, without its line feed
abbrev pub shown_violation : List ℕ → TypeError → List ℕ
shown_violation text error = shown_at text (violation_heading error) (violation_offset error)
