use Rattle.std.proofs.Common.{◌≡◌, drop}
use Rattle.rb_flow.proofs.First.{last_from}
use Rattle.rb_meaning_flow.specs.Refusals.{last_of}
use Rattle.rb_flow.proofs.earliest.last_of.Given as goal

abbrev pub invariant-loop-p : goal.invariant-loop-p
invariant-loop-p l = last_from (drop l.p-index l.chain) l.last ≡ last_of l.chain
