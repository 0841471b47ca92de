use Rattle.std.proofs.Common.{◌≡◌, ◌+◌, [], drop}
use Rattle.rb_meaning.specs.ConstantLists.{counted}
use Rattle.rb_plain.specs.Lists.{named}
use Rattle.rb_plain.proofs.lists.items_taken.Given as goal

abbrev pub invariant-names : goal.invariant-names
invariant-names l = l.counted.items + counted l.counted.names (named (drop l.name-index l.names)) l.frame ≡ counted [] (named l.names) l.frame
