use Rattle.std.proofs.Common.{rules, refl}
use Rattle.rb_engine.specs.Locals.{local}
use Rattle.rb_wire_forest.specs.Opened.{root_of}
use Rattle.rb_client.proofs.Performing.{performs_so, read_so, refused_so, stops_so, unanswered}
use Rattle.rb_client.proofs.client_world.perform_begun.Goals as goal

pub returns-in-Err-clause-performs : goal.returns-in-Err-clause-performs
returns-in-Err-clause-performs g c =
    stops_so g.L.Link g.W.Sink c.args.split.now c.args.world.now c.fetch.new.world (local c.args.frame.now c.args.state.now) c.in-Err.stop c.halt_of.result c.requires.measured.0 c.halt_of.ensures
    (unanswered g.L.Link c.args.split.now c.args.frame.now c.args.world.now c.fetch.new.world c.in-Err.stop c.in-Err.ensures)

pub returns-in-Err-read_reply-clause-performs : goal.returns-in-Err-read_reply-clause-performs
returns-in-Err-read_reply-clause-performs g c =
    stops_so g.L.Link g.W.Sink c.args.split.now c.args.world.now c.fetch.new.world (local c.args.frame.now c.args.state.now) c.in-Err-read_reply.stop c.halt_of-in-Err-read_reply.result c.requires.measured.0 c.halt_of-in-Err-read_reply.ensures
    (refused_so g.L.Link c.args.split.now c.args.frame.now c.args.world.now c.fetch.new.world c.args.lengths.now c.requires.measured c.in-Ok.reply c.in-Err-read_reply.stop c.in-Ok.ensures c.in-Err-read_reply.ensures)

pub returns-clause-performs : goal.returns-clause-performs
returns-clause-performs g c =
    let w1 = record c.fetch.new.world { exchanges = c.in-Some.next } in
    performs_so g.L.Link g.W.Sink c.args.split.now c.code-code.result.now c.args.world.now w1 _ c.perform_remainder.new.out (root_of c.in-Ok-read_reply.forest) (local c.args.frame.now c.args.state.now)
    (local c.perform_remainder.new.frame c.perform_remainder.new.state) c.requires.measured.0 c.code-code.ensures
    (read_so g.L.Link c.args.split.now c.args.frame.now c.args.world.now c.fetch.new.world w1 c.args.lengths.now c.requires.measured c.in-Ok.reply c.in-Ok-read_reply.forest c.args.world.now.exchanges c.in-Some.next c.in-Ok.ensures refl
    c.in-Ok-read_reply.ensures refl refl refl refl (search rules))
    (record { same_plan = refl; same_link = refl; same_output = refl; now = refl; exchanges_so = refl })
    c.perform_remainder.result c.step_of.result c.step_of.ensures c.perform_remainder.ensures
