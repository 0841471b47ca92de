use Rattle.std.proofs.Common.{length}
use Rattle.rb_parse.proofs.types.+types.Given as goal

abbrev pub decreases-type_tree : goal.decreases-type_tree
decreases-type_tree l = length l.tokens.now

abbrev pub decreases-item_type : goal.decreases-item_type
decreases-item_type l = length l.tokens.now
