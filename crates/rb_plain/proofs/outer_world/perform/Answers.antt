use Rattle.std.proofs.Common.{refl, arith, ap, ◌∙◌, take}
use Rattle.rb_engine.specs.Locals.{local}
use Rattle.rb_plain.proofs.BatchTold.{perform_so}
use Rattle.rb_plain.proofs.outer_world.perform.Goals as goal

pub returns-clause-performs : goal.returns-clause-performs
returns-clause-performs g c =
    perform_so g.W.Sink c.args.root.now c.args.batch.now c.in-Ok.start c.args.world.now c.enter.new.world
    (record c.enter.new.world { inner = c.exec_slice-ended.new.world })
    (record c.enter.new.world { inner = record { remote = c.settled.new.remote; out = c.exec_slice-ended.new.world.out } })
    (local c.args.frame.now c.args.state.now) (local c.enter.new.frame c.args.state.now) (local c.exec_slice-ended.new.frame c.exec_slice-ended.new.state) (local c.truncate.new.self c.exec_slice-ended.new.state)
    c.exec_slice-ended.result c.settled.result c.code-code.result.now c.in-Ok.ensures refl c.code-code.ensures refl refl refl refl
    (λ e. ap (λ r. record { remote = r; out = c.exec_slice-ended.new.world.out }) e) c.settled.ensures (c.exec_slice-ended.ensures.led c.args.state.now.fuel (omega arith))
    (ap (λ ns. local ns c.exec_slice-ended.new.state) (c.truncate.ensures ∙ ap (λ n. take n c.exec_slice-ended.new.frame) c.len-count.ensures))
