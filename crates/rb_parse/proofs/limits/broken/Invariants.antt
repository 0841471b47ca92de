use Rattle.std.proofs.Common.{◌≡◌, ◌≤◌, length}
use Rattle.rb_meaning_bytes.specs.grammar.Limits.{broken, nothing_open}
use Rattle.rb_parse.specs.Nested.{nesting_of}
use Rattle.rb_parse.proofs.limits.broken.Given as goal

abbrev pub invariant-loop-rest : goal.invariant-loop-rest
invariant-loop-rest l = record { value : broken nothing_open l.tokens ≡ broken (nesting_of l.nesting) l.rest; blocks : l.nesting.blocks ≤ 64; types : l.nesting.types ≤ 64; marks : l.nesting.marks ≤ 200; shorter : length l.rest ≤ length l.tokens }

abbrev pub decreases-loop-rest : goal.decreases-loop-rest
decreases-loop-rest l = length l.rest
