use Rattle.std.proofs.Common.{◌≡◌, ◌++◌, map, drop}
use Rattle.rb_trees.specs.mirror.Declarations.{mirror_interface}
use Rattle.rb_meaning_types.specs.Declarations.{check_interfaces}
use Rattle.rb_types.specs.Views.{declarations_of}
use Rattle.rb_types.proofs.declarations.check_interfaces.Given as goal

abbrev pub invariant-loop-item : goal.invariant-loop-item
invariant-loop-item l =
    (check_interfaces (declarations_of l.d) l.names (map mirror_interface (drop l.item-index l.items))
    ≡ check_interfaces (declarations_of l.d) l.fn.names (map mirror_interface l.items))
    × (l.names ++ map (λ i. i.name) (map mirror_interface (drop l.item-index l.items)) ≡ l.fn.names ++ map (λ i. i.name) (map mirror_interface l.items))
