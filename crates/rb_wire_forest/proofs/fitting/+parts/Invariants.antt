use Rattle.std.proofs.Common.{◌≡◌, drop}
use Rattle.rb_trees.specs.mirror.Remainders.{mirror_parts}
use Rattle.rb_meaning_bytes.specs.Fits.{parts_read}
use Rattle.rb_wire_forest.specs.Walks.{seen, turns_walked}
use Rattle.rb_wire_forest.proofs.fitting.+parts.Given as goal

abbrev pub invariant-read_parts-loop-part : goal.invariant-read_parts-loop-part
invariant-read_parts-loop-part l = parts_read l.lengths (mirror_parts (drop l.part-index l.parts)) (seen l.walk) ≡ parts_read l.lengths (mirror_parts l.parts) (seen l.from)

abbrev pub invariant-read_turns-loop-turn : goal.invariant-read_turns-loop-turn
invariant-read_turns-loop-turn l = turns_walked l.lengths l.step l.kind l.body (drop l.turn-index l.turns) (seen l.walk) ≡ turns_walked l.lengths l.step l.kind l.body l.turns (seen l.from)
