-- One change more at the end of those that were applied.
use Rattle.std.proofs.Common.{◌≡◌, ℕ, ◌+◌, ◌<◌, zero, suc, List, [], ◌∷◌, length, take, get_or, ap, arith, add-one}
use Rattle.rb_trees.specs.declared.services.Change.{Change}
use Rattle.rb_trees.specs.declared.services.Object.{Object}
use Rattle.rb_meaning.specs.Changes.{changed, all_changed}

next : (cs : List Change) (i : ℕ) (c : Change) (table : List Object) → i < length cs → c ≡ get_or cs i c → all_changed (take (suc i) cs) table ≡ changed c (all_changed (take i cs) table)
next [] i c table h e = absurd (omega (arith, h))
next (x ∷ cs) zero c table h e = let same : x ≡ c = cc in ap (λ d. changed d table) same
next (x ∷ cs) (suc i) c table h e = next cs i c (changed x table) (omega (arith, h)) e

pub one_more : (cs : List Change) (i : ℕ) (c : Change) (table : List Object) → i < length cs → c ≡ get_or cs i c → all_changed (take (i + 1) cs) table ≡ changed c (all_changed (take i cs) table)
one_more cs i c table h e = rw add-one (next cs i c table h e)
