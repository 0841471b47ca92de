-- The text of pieces that stand one after another.
use Rattle.std.proofs.Common.{◌≡◌, List, [], ◌∷◌, ◌++◌, refl, ap, sym, ◌∙◌, append_assoc, append-nil}
use Rattle.std.proofs.lemmas.Grind.{common_steps}
use Rattle.rb_trees.specs.printing.Pieces.{Piece, spelling, spelled}

pub spelled_append : (ps qs : List Piece) → spelled (ps ++ qs) ≡ spelled ps ++ spelled qs
spelled_append [] qs = refl
spelled_append (p ∷ ps) qs = ap (λ l. spelling p ++ l) (spelled_append ps qs) ∙ sym (append_assoc (spelling p) (spelled ps) (spelled qs))

pub ruleset pieces = (spelled_append, append_assoc, append-nil)

pub ruleset texts = (pieces, common_steps)
