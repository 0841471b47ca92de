-- What the trees of a division are in the mirror, and what stands behind the first block of an `if` and of a branch.
use Rattle.std.proofs.Common.{◌≡◌, ℕ, List, [], ◌∷◌, ◌++◌, ◌≢◌, refl}
use Rattle.std.specs.Prelude.{codes}
use Rattle.rb_trees.specs.declared.scripts.Step as step
use Rattle.rb_trees.specs.declared.remainders.Part as part
use Rattle.rb_trees.specs.mirror.Scripts.{mirror_steps}
use Rattle.rb_trees.specs.mirror.Remainders.{mirror_parts}
use Rattle.rb_trees.proofs.mirror.SExprs.{sexprs as mirrored_sexprs}
use Rattle.rb_trees.proofs.mirror.Steps.{steps as mirrored_steps}
use Rattle.rb_trees.proofs.mirror.Parts.{parts as mirrored_parts}
use Rattle.rb_meaning.specs.Shown.{line}
use Rattle.rb_shown.specs.Views.{else_lines, ending_lines, closing_line}
use Rattle.rb_shown.proofs.Pieces.{pieces}

pub else_none : (indent : List ℕ) (block : List step.Step) (lines : List ℕ) → block ≡ [] → else_lines indent (mirror_steps block) lines ≡ []
else_none indent [] lines h = refl
else_none indent (s ∷ ss) lines h = cc

pub else_some : (indent : List ℕ) (block : List step.Step) (lines : List ℕ) → block ≢ [] → else_lines indent (mirror_steps block) lines ≡ line (indent ++ codes "else") ++ lines
else_some indent [] lines h = absurd (h refl)
else_some indent (s ∷ ss) lines h = refl

pub ending_none : (indent : List ℕ) (block : List part.Part) (lines : List ℕ) → block ≡ [] → ending_lines indent (mirror_parts block) lines ≡ closing_line indent
ending_none indent [] lines h = refl
ending_none indent (p ∷ ps) lines h = cc

pub ending_some : (indent : List ℕ) (block : List part.Part) (lines : List ℕ) → block ≢ [] → ending_lines indent (mirror_parts block) lines ≡ line (indent ++ codes "} else {") ++ lines ++ closing_line indent
ending_some indent [] lines h = absurd (h refl)
ending_some indent (p ∷ ps) lines h = refl

pub ruleset sexprs = (mirrored_sexprs, pieces)

pub ruleset steps = (mirrored_steps, else_none, else_some, pieces)

pub ruleset parts = (mirrored_parts, ending_none, ending_some, pieces)
