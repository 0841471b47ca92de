use Rattle.std.proofs.Common.{sym, ap, ◌∙◌, take}
use Rattle.rb_engine.specs.Locals.{local}
use Rattle.rb_wire_forest.specs.Opened.{root_of}
use Rattle.rb_client.proofs.Replaying.{replay_so}
use Rattle.rb_client.proofs.replay.perform_remainder.Goals as goal

pub returns : goal.returns
returns g c =
    replay_so g.W.Sink c.args.code.now c.args.remainder.now c.as_slice.result.now (root_of c.args.forest.now) (local c.args.frame.now c.args.state.now) (local c.perform_all-ended.new.frame c.perform_all-ended.new.state)
    (local c.truncate.new.self c.perform_all-ended.new.state) c.over-world.result c.perform_all-ended.new.world c.args.out.now c.out-1.given.0 c.perform_all-ended.result c.as_slice.ensures c.over-world.ensures.left c.over-world.ensures.now
    c.perform_all-ended.ensures (ap (λ ns. local ns c.perform_all-ended.new.state) (c.truncate.ensures ∙ ap (λ n. take n c.perform_all-ended.new.frame) c.len-count.ensures))
    (λ e. c.out-1.given.1 (sym (e ∙ c.over-world.ensures.same)))
