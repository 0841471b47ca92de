-- The equations that steps and parts stand on.
use Rattle.std.proofs.Common.{◌≡◌, ℕ, List, [], ◌∷◌, ◌++◌, refl, ap, append_assoc}
use Rattle.rb_trees.specs.declared.remainders.Part as part_tree
use Rattle.rb_trees.specs.declared.scripts.Step as step_tree
use Rattle.rb_trees.specs.mirror.Scripts.{NoSteps, MoreSteps, mirror_step, mirror_steps}
use Rattle.rb_trees.specs.mirror.Remainders.{NoParts, MoreParts, mirror_part, mirror_parts}
use Rattle.rb_trees.proofs.mirror.Parts.{parts}
use Rattle.rb_trees.proofs.mirror.Positions.{expr_at_tree}
use Rattle.rb_trees.proofs.mirror.Steps.{steps}
use Rattle.rb_split.specs.Drafts.{joined, joined_parts}
use Rattle.std.proofs.lemmas.Grind.{common_steps}

pub steps_pushed : (ss : List step_tree.Step) (s : step_tree.Step) → mirror_steps (ss ++ s ∷ []) ≡ joined (mirror_steps ss) (MoreSteps (mirror_step s) NoSteps)
steps_pushed [] s = refl
steps_pushed (x ∷ ss) s = ap (MoreSteps (mirror_step x)) (steps_pushed ss s)

pub parts_pushed : (qs : List part_tree.Part) (q : part_tree.Part) → mirror_parts (qs ++ q ∷ []) ≡ joined_parts (mirror_parts qs) (MoreParts (mirror_part q) NoParts)
parts_pushed [] q = refl
parts_pushed (x ∷ qs) q = ap (MoreParts (mirror_part x)) (parts_pushed qs q)

pub ruleset step_rules = (steps, parts, expr_at_tree, steps_pushed, parts_pushed, append_assoc, common_steps)
