-- What a buffer holds while the parts of a script are put behind it.
use Rattle.std.proofs.Common.{◌≡◌, suc, List, [], ◌∷◌, length, refl, ap, append_assoc}
use Rattle.std.proofs.lemmas.Grind.{common_steps}
use Rattle.rb_trees.specs.declared.scripts.SExpr as rust
use Rattle.rb_trees.specs.declared.scripts.Step as rust_step
use Rattle.rb_trees.specs.mirror.Scripts.{mirror_sexprs, mirror_steps}
use Rattle.rb_trees.proofs.mirror.SExprs.{sexprs}
use Rattle.rb_trees.proofs.mirror.Steps.{steps as mirrored_steps}
use Rattle.rb_meaning_bytes.specs.formats.ScriptBytes.{count_exprs, count_steps}
use Rattle.rb_wire_fields.proofs.Kept.{keeps_same, keeps_after}

pub counted_exprs : (es : List rust.SExpr) → count_exprs (mirror_sexprs es) ≡ length es
counted_exprs [] = refl
counted_exprs (e ∷ es) = ap suc (counted_exprs es)

pub counted_steps : (ss : List rust_step.Step) → count_steps (mirror_steps ss) ≡ length ss
counted_steps [] = refl
counted_steps (s ∷ ss) = ap suc (counted_steps ss)

pub ruleset exprs = (keeps_same, keeps_after, sexprs, counted_exprs, append_assoc, common_steps)

pub ruleset steps = (keeps_same, keeps_after, mirrored_steps, counted_steps, append_assoc, common_steps)
