use Rattle.std.proofs.Common.{◌≡◌, drop}
use Rattle.rb_trees.specs.Validity.{has}
use Rattle.rb_wire_script.proofs.checking.is_list.Given as goal

abbrev pub invariant-loop-list : goal.invariant-loop-list
invariant-loop-list l = has l.number (drop l.list-index l.script.lists) ≡ has l.number l.script.lists
