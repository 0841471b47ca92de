use Rattle.std.proofs.Common.{◌≡◌, ℕ, nat_eq, None, vec_len}
use Rattle.std.specs.HashMap.{get}
use Rattle.rb_meaning_types.specs.Notes.{note_at}
use Rattle.rb_types.specs.Given.{kind_given}
use Rattle.rb_types.specs.Views.{notes_of}
use Rattle.rb_types.proofs.index.index_notes.Given as goal

abbrev pub invariant-loop-last : goal.invariant-loop-last
invariant-loop-last l = (at : ℕ) → note_at (notes_of l.rest.items) at (kind_given (get nat_eq l.index at)) ≡ note_at (notes_of l.fn.notes) at None

abbrev pub decreases-loop-last : goal.decreases-loop-last
decreases-loop-last l = vec_len l.rest
