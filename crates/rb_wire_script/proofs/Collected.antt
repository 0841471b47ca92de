-- What is known of texts that are collected.
use Rattle.std.proofs.Common.{◌≡◌, ℕ, List, [], ◌∷◌, ◌++◌, refl, append-nil}
use Rattle.std.proofs.lemmas.Grind.{common_steps}
use Rattle.rb_trees.specs.declared.values.Value.TheViews.{the_lemmas}
use Rattle.rb_trees.proofs.mirror.SExprs.{sexprs}
use Rattle.rb_trees.proofs.mirror.Steps.{steps as mirrored_steps}
use Rattle.rb_meaning_bytes.specs.formats.Pools.{with_text, with_texts}

-- some texts, and then others
pub with_both : (known xs ys : List (List ℕ)) → with_texts known (xs ++ ys) ≡ with_texts (with_texts known xs) ys
with_both known [] ys = refl
with_both known (x ∷ xs) ys = with_both (with_text known x) xs ys

pub ruleset texts = (with_both, common_steps)

pub ruleset values = (with_both, the_lemmas, append-nil, common_steps)

pub ruleset exprs = (with_both, sexprs, common_steps)

pub ruleset steps = (with_both, mirrored_steps, common_steps)
