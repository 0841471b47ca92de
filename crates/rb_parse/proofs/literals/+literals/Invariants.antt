use Rattle.std.proofs.Common.{◌≡◌, ◌+◌, ◌*◌, ◌≤◌, length}
use Rattle.rb_trees.specs.mirror.Services.{mirror_literal}
use Rattle.rb_parse.specs.Services.{more_literals_on, literals_on}
use Rattle.rb_parse.proofs.literals.+literals.Given as goal

abbrev pub decreases-literal : goal.decreases-literal
decreases-literal l = 4 * length l.tokens.now + 0

abbrev pub decreases-items : goal.decreases-items
decreases-items l = 4 * length l.tokens.now + 2

abbrev pub decreases-literals : goal.decreases-literals
decreases-literals l = 4 * length l.tokens.now + 1

abbrev pub decreases-more_literals : goal.decreases-more_literals
decreases-more_literals l = 4 * length l.tokens.now + 0

abbrev pub invariant-more_literals-loop-more : goal.invariant-more_literals-loop-more
invariant-more_literals-loop-more l = record { value : more_literals_on l.source (mirror_literal l.fn.first) l.tokens ≡ literals_on l.source l.list l.rest; shorter : length l.rest ≤ length l.tokens }

abbrev pub decreases-more_literals-loop-more : goal.decreases-more_literals-loop-more
decreases-more_literals-loop-more l = length l.rest
