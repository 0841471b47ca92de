-- The equations that the checks stand on, in one ruleset.
use Rattle.std.proofs.Common.{◌≡◌, List, [], ◌∷◌, length, suc, refl, ap}
use Rattle.std.proofs.lemmas.Bool.Decides.{nat_tests}
use Rattle.std.proofs.lemmas.Grind.{common_steps}
use Rattle.rb_trees.specs.declared.services.Literal as tree
use Rattle.rb_trees.specs.mirror.Services.{mirror_literals}
use Rattle.rb_trees.proofs.mirror.Types.{types}
use Rattle.rb_trees.proofs.mirror.Literals.{literals}
use Rattle.rb_meaning_types.specs.Lawful.{literal_count}
use Rattle.rb_meaning_types.proofs.TypeForms.{kinds}

-- the mirror of a list has as many items
pub count_is : (ls : List tree.Literal) → literal_count (mirror_literals ls) ≡ length ls
count_is [] = refl
count_is (l ∷ ls) = ap suc (count_is ls)

pub ruleset rules = (types, kinds, literals, count_is, common_steps)

-- with the meaning of tests of numbers
pub ruleset small_rules = (rules, nat_tests)
