-- A weight of parts, which falls at each step into them.
use Rattle.std.proofs.Common.{ℕ, zero, suc, ◌+◌, ◌<◌, ◌≤◌, max, arith, List, [], ◌∷◌, length, get_or}
use Rattle.rb_trees.specs.declared.remainders.Part as tree
use Rattle.rb_trees.specs.mirror.Remainders as part
use Rattle.rb_trees.specs.mirror.Remainders.{Part, Parts, mirror_part, mirror_parts}

abbrev mutual
  pub part_weight : Part → ℕ
  part_weight (part.Plain stmt takes) = 0
  part_weight (part.Pass step) = 0
  part_weight (part.Bind step name k) = 0
  part_weight (part.Both step at name e) = 0
  part_weight (part.Branch step a b) = 4 + max (parts_weight a) (parts_weight b)
  part_weight (part.Turns step name k a) = 8 + parts_weight a
  part_weight (part.Over step at name list input a) = 8 + parts_weight a

  pub parts_weight : Parts → ℕ
  parts_weight part.NoParts = 0
  parts_weight (part.MoreParts p ps) = max (part_weight p) (parts_weight ps)

-- the same of trees
abbrev pub part_of : tree.Part → ℕ
part_of p = part_weight (mirror_part p)

abbrev pub parts_of : List tree.Part → ℕ
parts_of ps = parts_weight (mirror_parts ps)

-- each item weighs no more than the list
pub part_in : (ps : List tree.Part) (i : ℕ) (p : tree.Part) → i < length ps → part_of (get_or ps i p) ≤ parts_of ps
part_in [] i p l = absurd (omega arith)
part_in (x ∷ ps) zero p l = omega arith
part_in (x ∷ ps) (suc i) p l = let h = part_in ps i p (omega arith) in omega arith
