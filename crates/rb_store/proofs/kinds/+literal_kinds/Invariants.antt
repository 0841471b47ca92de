use Rattle.std.proofs.Common.{◌≡◌, drop}
use Rattle.rb_trees.specs.mirror.Services.{mirror_literals}
use Rattle.rb_meaning_types.specs.Kinds.{kind_of_form}
use Rattle.rb_meaning_types.specs.Stores.{all_literals, is_of_kind}
use Rattle.rb_store.specs.Views.{objects_of}
use Rattle.rb_store.proofs.kinds.+literal_kinds.Given as goal

-- with the literals that are left it is as with all literals
abbrev pub invariant-all_of_kind-loop-literal : goal.invariant-all_of_kind-loop-literal
invariant-all_of_kind-loop-literal l =
    all_literals (is_of_kind (objects_of l.text) (kind_of_form l.kind)) (mirror_literals (drop l.literal-index l.literals)) ≡ all_literals (is_of_kind (objects_of l.text) (kind_of_form l.kind)) (mirror_literals l.literals)
