use Rattle.std.proofs.Common.{◌≡◌, drop}
use Rattle.rb_trees.specs.Validity.{has}
use Rattle.rb_client.proofs.requests.is_among.Given as goal

abbrev pub invariant-numbers : goal.invariant-numbers
invariant-numbers l = has l.number l.numbers ≡ has l.number (drop l.each-index l.numbers)
