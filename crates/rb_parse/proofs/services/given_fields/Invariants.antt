use Rattle.std.proofs.Common.{◌≡◌, ◌≤◌, length}
use Rattle.rb_meaning_bytes.specs.grammar.Symbols as s
use Rattle.rb_parse.specs.Reading.{read_of}
use Rattle.rb_parse.proofs.ItemLists.{listed_on}
use Rattle.rb_parse.proofs.ServiceEquations.{given_fields}
use Rattle.rb_parse.proofs.services.given_fields.Given as goal

abbrev pub invariant-loop-alloc : goal.invariant-loop-alloc
invariant-loop-alloc l = record { value : read_of l.source s.GivenFields l.tokens ≡ listed_on given_fields l.source l.list l.rest; shorter : length l.rest ≤ length l.tokens }

abbrev pub decreases-loop-alloc : goal.decreases-loop-alloc
decreases-loop-alloc l = length l.rest
