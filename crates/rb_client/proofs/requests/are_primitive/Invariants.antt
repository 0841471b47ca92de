use Rattle.std.proofs.Common.{drop}
use Rattle.rb_meaning_bytes.specs.formats.FormedScripts.{ArePrimitive}
use Rattle.rb_client.proofs.requests.are_primitive.Given as goal

abbrev pub invariant-values : goal.invariant-values
invariant-values l = ArePrimitive (drop l.value-index l.values) → ArePrimitive l.values
