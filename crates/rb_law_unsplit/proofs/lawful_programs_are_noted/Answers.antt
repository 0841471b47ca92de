-- All notes of a program.
use Rattle.rb_law_unsplit.proofs.Notes.{lawful_are_noted}
use Rattle.rb_law_unsplit.proofs.lawful_programs_are_noted.Goals as goal

pub returns : goal.returns
returns c = lawful_are_noted
