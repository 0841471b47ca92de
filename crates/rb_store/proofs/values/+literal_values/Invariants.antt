use Rattle.std.proofs.Common.{◌≡◌, ◌++◌, ◌^◌, true, drop}
use Rattle.rb_trees.specs.mirror.Services.{mirror_literals}
use Rattle.rb_meaning_types.specs.Stores.{values_of}
use Rattle.rb_store.specs.Referred.{are_below}
use Rattle.rb_store.proofs.values.+literal_values.Given as goal

-- with the literals that are left it is as with all literals
abbrev pub invariant-values_of-loop-literal : goal.invariant-values_of-loop-literal
invariant-values_of-loop-literal l =
    let left = mirror_literals (drop l.literal-index l.literals) in
    (are_below (2 ^ 32) left ≡ true) × (l.values ++ values_of left ≡ values_of (mirror_literals l.literals))
