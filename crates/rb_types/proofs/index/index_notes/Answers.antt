use Rattle.std.proofs.Common.{nat_eq, sym, ap, ◌∙◌}
use Rattle.std.specs.HashMap.{get}
use Rattle.rb_meaning_types.specs.Notes.{note_at}
use Rattle.rb_types.specs.Given.{kind_given}
use Rattle.rb_types.specs.Views.{notes_of}
use Rattle.rb_types.proofs.LastNotes.{note_last}
use Rattle.rb_types.proofs.index.index_notes.Goals as goal

pub loop-last-preserved : goal.loop-last-preserved
loop-last-preserved c = λ at.
    ap (λ o. note_at (notes_of c.pop.new.self.items) at o) (c.in_ok-insert.ensures at)
    ∙ sym (note_last c.pop.new.self.items c.in-Some.last at (kind_given (get nat_eq c.loop-last.index at)))
    ∙ ap (λ xs. note_at (notes_of xs) at (kind_given (get nat_eq c.loop-last.index at))) (sym c.in-Some.ensures.items)
    ∙ c.loop-last.invariant at
