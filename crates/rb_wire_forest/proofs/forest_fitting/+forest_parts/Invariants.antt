use Rattle.std.proofs.Common.{drop}
use Rattle.rb_trees.specs.mirror.Remainders.{mirror_parts}
use Rattle.rb_meaning_bytes.specs.Fits.{parts_read}
use Rattle.rb_wire_forest.specs.Opened.{opened}
use Rattle.rb_wire_forest.proofs.ForestWalked.{SoFar}
use Rattle.rb_wire_forest.proofs.ForestTurned.{TurnsSoFar}
use Rattle.rb_wire_forest.proofs.forest_fitting.+forest_parts.Given as goal

abbrev pub invariant-read_parts-loop-part : goal.invariant-read_parts-loop-part
invariant-read_parts-loop-part l = SoFar (parts_read l.lengths (mirror_parts (drop l.part-index l.parts))) (parts_read l.lengths (mirror_parts l.parts)) (opened l.fn.cursor) l.fn.from (opened l.cursor) l.progress

abbrev pub invariant-read_turns-loop : goal.invariant-read_turns-loop
invariant-read_turns-loop l = TurnsSoFar l.lengths l.step l.kind l.body l.turns l.counter (opened l.fn.cursor) l.fn.from (opened l.cursor) l.progress
