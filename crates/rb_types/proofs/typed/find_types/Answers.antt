use Rattle.std.proofs.Common.{None, ap, ◌∙◌}
use Rattle.rb_meaning_types.specs.Notes.{note_at}
use Rattle.rb_types.proofs.typed.find_types.Goals as goal

pub returns-clause-types : goal.returns-clause-types
returns-clause-types c = λ at. c.in_ok-index_notes.ensures at ∙ ap (λ ns. note_at ns at None) c.in_ok-all.ensures.notes
