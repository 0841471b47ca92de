-- The notes with one more at the end.
use Rattle.std.proofs.Common.{◌≡◌, ℕ, List, [], ◌∷◌, ◌++◌, cond, nat_eq, Option, Some, Ok, refl, ap}
use Rattle.rb_types.specs.declared.kinds.Placed as placed
use Rattle.rb_meaning_types.specs.Kinds.{Kind, kind_of_form}
use Rattle.rb_meaning_types.specs.Violations.{Checked}
use Rattle.rb_meaning_types.specs.Notes.{note_at}
use Rattle.rb_types.specs.Views.{notes_of}

pub note_last : (ns : List placed.Placed) (p : placed.Placed) (at : ℕ) (other : Option (Checked Kind))
    → note_at (notes_of (ns ++ p ∷ [])) at other ≡ note_at (notes_of ns) at (cond (nat_eq p.at at) (Some (Ok (kind_of_form p.kind))) other)
note_last [] p at other = refl
note_last (n ∷ ns) p at other = ap (λ rest. cond (nat_eq n.at at) (Some (Ok (kind_of_form n.kind))) rest) (note_last ns p at other)
