use Rattle.std.proofs.Common.{◌+◌, max, drop}
use Rattle.rb_engine.specs.Locals.{local}
use Rattle.rb_client.specs.Walks.{all_meant}
use Rattle.rb_client.proofs.Enclosed.{TurnsOn}
use Rattle.rb_client.proofs.Listed.{ItemsOn}
use Rattle.rb_client.proofs.Parted.{On}
use Rattle.rb_client.proofs.Weight.{part_of, parts_of}
use Rattle.rb_client.proofs.replay.+parts.Given as goal

abbrev pub decreases-perform_part : goal.decreases-perform_part
decreases-perform_part g l = part_of l.part.now

abbrev pub decreases-perform_all : goal.decreases-perform_all
decreases-perform_all g l = parts_of l.parts.now + 1

abbrev pub decreases-perform_block : goal.decreases-perform_block
decreases-perform_block g l = parts_of l.parts.now + 2

abbrev pub decreases-perform_branch : goal.decreases-perform_branch
decreases-perform_branch g l = max (parts_of l.choice.now.yes.now) (parts_of l.choice.now.no.now) + 3

abbrev pub decreases-perform_rows : goal.decreases-perform_rows
decreases-perform_rows g l = parts_of l.turns.now.body.now + 6

abbrev pub decreases-turn_rows : goal.decreases-turn_rows
decreases-turn_rows g l = parts_of l.turns.now.body.now + 5

abbrev pub decreases-perform_turns : goal.decreases-perform_turns
decreases-perform_turns g l = parts_of l.turns.now.body.now + 4

abbrev pub decreases-perform_turn : goal.decreases-perform_turn
decreases-perform_turn g l = parts_of l.turns.now.body.now + 3

abbrev pub decreases-perform_row : goal.decreases-perform_row
decreases-perform_row g l = parts_of l.turns.now.body.now + 2

abbrev pub decreases-perform_list : goal.decreases-perform_list
decreases-perform_list g l = parts_of l.turns.now.body.now + 6

abbrev pub decreases-turn_list : goal.decreases-turn_list
decreases-turn_list g l = parts_of l.turns.now.body.now + 5

abbrev pub decreases-perform_items : goal.decreases-perform_items
decreases-perform_items g l = parts_of l.turns.now.body.now + 4

abbrev pub decreases-perform_item : goal.decreases-perform_item
decreases-perform_item g l = parts_of l.turns.now.body.now + 3

abbrev pub decreases-perform_named : goal.decreases-perform_named
decreases-perform_named g l = parts_of l.turns.now.body.now + 2

abbrev pub invariant-perform_all-parts : goal.invariant-perform_all-parts
invariant-perform_all-parts g l =
    On g.W.Sink (all_meant l.fn.code l.parts) (all_meant l.fn.code (drop l.part-index l.parts)) (local l.fn.frame l.fn.state) l.fn.world (local l.frame l.state) l.world

abbrev pub invariant-perform_turns-nodes : goal.invariant-perform_turns-nodes
invariant-perform_turns-nodes g l = TurnsOn g.W.Sink l.fn.code l.fn.turns l.count l.counter (local l.fn.frame l.fn.state) l.fn.world (local l.frame l.state) l.world

abbrev pub invariant-perform_items-items : goal.invariant-perform_items-items
invariant-perform_items-items g l =
    ItemsOn g.W.Sink l.fn.code l.fn.turns l.items (drop l.item-index l.items) (local l.fn.frame l.fn.state) l.fn.world (local l.frame l.state) l.world
