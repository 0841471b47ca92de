use Rattle.std.proofs.Common.{◌≡◌, drop}
use Rattle.rb_client.specs.Requests.{AreFor}
use Rattle.rb_client.proofs.requests.are_inputs.Given as goal

abbrev pub invariant-values : goal.invariant-values
invariant-values l = record { place : l.number ≡ l.value-index; rest : AreFor l.number l.lists (drop l.value-index l.values) → AreFor 0 l.lists l.values }
