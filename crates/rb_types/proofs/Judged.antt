-- What the check of a program gives, in the words of the judgement.
use Rattle.std.proofs.Common.{◌≡◌, List, Option, Some, None, Result, Ok, Err, IfOk, ap, ◌∙◌}
use Rattle.rb_trees.specs.declared.typing.TypeError.{TypeError}
use Rattle.rb_trees.specs.mirror.Declarations.{Program}
use Rattle.rb_trees.specs.Outcome.{◌>>=◌, Gives, Refuses}
use Rattle.rb_meaning_types.specs.Violations.{Violation, violation_of}
use Rattle.rb_meaning_types.specs.Programs.{check_program}
use Rattle.rb_meaning_types.specs.Notes.{program_notes}
use Rattle.rb_types.specs.declared.kinds.Placed as placed
use Rattle.rb_types.specs.Steps.{program}
use Rattle.rb_types.specs.Views.{notes_of}
use Rattle.rb_types.proofs.BodySteps.{program_judged, program_noted}

refused : (p : Program) (v : Option Violation) → Refuses v (program p) → Refuses v (check_program p)
refused p None h = tt
refused p (Some v) h = program_judged p ∙ ap (λ r. r >>= λ ns. Ok tt) h

-- the first violation is that of the program
pub gives : (p : Program) (result : Result (List placed.Placed) TypeError) → Gives notes_of violation_of result (program p) → Gives (λ (all : List placed.Placed). tt {0}) violation_of result (check_program p)
gives p (Ok all) h = program_judged p ∙ ap (λ r. r >>= λ ns. Ok tt) h
gives p (Err e) h = refused p (violation_of e) h

-- the notes are those of the program
pub noted : (p : Program) (result : Result (List placed.Placed) TypeError) → Gives notes_of violation_of result (program p) → IfOk result (λ all. notes_of all ≡ program_notes p)
noted p (Ok all) h = program_noted p (notes_of all) h
noted p (Err e) h = tt
