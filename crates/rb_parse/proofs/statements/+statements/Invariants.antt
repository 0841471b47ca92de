use Rattle.std.proofs.Common.{◌≡◌, ◌+◌, ◌*◌, ◌≤◌, length}
use Rattle.rb_meaning_bytes.specs.grammar.Symbols as s
use Rattle.rb_parse.specs.Reading.{read_of}
use Rattle.rb_parse.specs.Blocks.{statements_on}
use Rattle.rb_parse.proofs.statements.+statements.Given as goal

abbrev pub decreases-statement : goal.decreases-statement
decreases-statement l = 4 * length l.tokens.now + 1

abbrev pub decreases-if_statement : goal.decreases-if_statement
decreases-if_statement l = 4 * length l.tokens.now + 1

abbrev pub decreases-otherwise : goal.decreases-otherwise
decreases-otherwise l = 4 * length l.tokens.now + 0

abbrev pub decreases-while_statement : goal.decreases-while_statement
decreases-while_statement l = 4 * length l.tokens.now + 1

abbrev pub decreases-for_statement : goal.decreases-for_statement
decreases-for_statement l = 4 * length l.tokens.now + 1

abbrev pub decreases-try_statement : goal.decreases-try_statement
decreases-try_statement l = 4 * length l.tokens.now + 1

abbrev pub decreases-batch_statement : goal.decreases-batch_statement
decreases-batch_statement l = 4 * length l.tokens.now + 1

abbrev pub decreases-block : goal.decreases-block
decreases-block l = 4 * length l.tokens.now + 0

abbrev pub decreases-statements : goal.decreases-statements
decreases-statements l = 4 * length l.tokens.now + 2

abbrev pub invariant-statements-loop-alloc : goal.invariant-statements-loop-alloc
invariant-statements-loop-alloc l = record { value : read_of l.source s.Statements l.tokens ≡ statements_on l.source l.list l.rest; shorter : length l.rest ≤ length l.tokens }

abbrev pub decreases-statements-loop-alloc : goal.decreases-statements-loop-alloc
decreases-statements-loop-alloc l = length l.rest
