use Rattle.std.proofs.Common.{◌≡◌, ◌+◌, ◌*◌, ◌≤◌, length}
use Rattle.rb_trees.specs.mirror.Code.{mirror_expr}
use Rattle.rb_parse.specs.Parts.{depth, more_on, arguments_on}
use Rattle.rb_parse.proofs.expressions.+expressions.Given as goal

abbrev pub decreases-chain : goal.decreases-chain
decreases-chain l = 32 * length l.tokens.now + (1 + depth l.level)

abbrev pub decreases-operand : goal.decreases-operand
decreases-operand l = 32 * length l.tokens.now + (depth l.level)

abbrev pub decreases-chain_rest : goal.decreases-chain_rest
decreases-chain_rest l = 32 * length l.tokens.now + (0)

abbrev pub decreases-joined : goal.decreases-joined
decreases-joined l = 32 * length l.tokens.now + (16)

abbrev pub decreases-prefix : goal.decreases-prefix
decreases-prefix l = 32 * length l.tokens.now + (3)

abbrev pub decreases-prefixed : goal.decreases-prefixed
decreases-prefixed l = 32 * length l.tokens.now + (4)

abbrev pub decreases-members : goal.decreases-members
decreases-members l = 32 * length l.tokens.now + (0)

abbrev pub decreases-called : goal.decreases-called
decreases-called l = 32 * length l.tokens.now + (1)

abbrev pub decreases-index : goal.decreases-index
decreases-index l = 32 * length l.tokens.now + (16)

abbrev pub decreases-arguments : goal.decreases-arguments
decreases-arguments l = 32 * length l.tokens.now + (17)

abbrev pub decreases-more_arguments : goal.decreases-more_arguments
decreases-more_arguments l = 32 * length l.tokens.now + (0)

abbrev pub decreases-first : goal.decreases-first
decreases-first l = 32 * length l.tokens.now + (0)

abbrev pub decreases-measured : goal.decreases-measured
decreases-measured l = 32 * length l.tokens.now + (0)

abbrev pub decreases-new_object : goal.decreases-new_object
decreases-new_object l = 32 * length l.tokens.now + (0)

abbrev pub decreases-new_list : goal.decreases-new_list
decreases-new_list l = 32 * length l.tokens.now + (0)

abbrev pub decreases-inside : goal.decreases-inside
decreases-inside l = 32 * length l.tokens.now + (16)

abbrev pub invariant-more_arguments-loop-more : goal.invariant-more_arguments-loop-more
invariant-more_arguments-loop-more l = record { value : more_on l.source (mirror_expr l.fn.first) l.tokens ≡ arguments_on l.source l.list l.rest; shorter : length l.rest ≤ length l.tokens }

abbrev pub decreases-more_arguments-loop-more : goal.decreases-more_arguments-loop-more
decreases-more_arguments-loop-more l = length l.rest
