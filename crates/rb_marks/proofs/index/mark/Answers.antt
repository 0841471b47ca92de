use Rattle.std.proofs.Common.{None, ap, ◌∙◌}
use Rattle.rb_marks.specs.Notes.{first_at}
use Rattle.rb_marks.proofs.Maps.{notes_same}
use Rattle.rb_marks.proofs.Outer.{marks_given, places_given}
use Rattle.rb_marks.proofs.index.mark.Goals as goal

pub returns-clause-marks : goal.returns-clause-marks
returns-clause-marks c = notes_same c.in_ok-marks.marks.entries _ (λ q. c.in_ok-marks.ensures q
    ∙ ap (λ ns. first_at ns q None) (c.in_ok-notes.ensures.marks ∙ marks_given _ _ _ c.in_ok-facts.ensures c.program.ensures.same))

pub returns-clause-places : goal.returns-clause-places
returns-clause-places c = notes_same c.in_ok-places.places.entries _ (λ q. c.in_ok-places.ensures q
    ∙ ap (λ ns. first_at ns q None) (c.in_ok-notes.ensures.places ∙ places_given _ _ _ c.in_ok-facts.ensures c.program.ensures.same))
