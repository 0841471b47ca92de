use Rattle.std.proofs.Common.{◌≡◌, drop}
use Rattle.rb_trees.specs.mirror.Services.{mirror_literals}
use Rattle.rb_meaning_types.specs.Stores.{all_refer_well}
use Rattle.rb_store.specs.Views.{objects_of}
use Rattle.rb_store.proofs.references.+literal_references.Given as goal

-- with the literals that are left it is as with all literals
abbrev pub invariant-all_refer_well-loop-literal : goal.invariant-all_refer_well-loop-literal
invariant-all_refer_well-loop-literal l =
    all_refer_well (objects_of l.text) (mirror_literals (drop l.literal-index l.literals)) ≡ all_refer_well (objects_of l.text) (mirror_literals l.literals)
