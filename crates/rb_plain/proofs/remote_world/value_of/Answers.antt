use Rattle.std.proofs.Common.{Ok, Err, ap, ◌∙◌, arith}
use Rattle.rb_engine.specs.Locals.{local}
use Rattle.rb_engine.specs.declared.misses.Miss.TheVariants as miss
use Rattle.rb_plain.proofs.Evaluated.{evaluated, miss_of}
use Rattle.rb_plain.proofs.Replies.{missed_by_fault}
use Rattle.rb_plain.proofs.remote_world.value_of.Goals as goal

pub returns-in-Ok-Ok : goal.returns-in-Ok-Ok
returns-in-Ok-Ok c =
    evaluated c.args.expr.now c.args.frame.now c.args.world.now c.eval.new.world (local c.args.frame.now (record { heap = c.make.result; fuel = 0; depth = 0 })) _ c.code-code.result.now c.eval.result
    (Ok c.in-Ok-Ok.value) c.code-code.ensures (ap (λ h. record { names = c.args.frame.now; heap = h; fuel = 0; depth = 0 }) c.make.ensures) (ap miss_of (c.in-Ok-Ok.is ∙ ap Ok c.in-Ok-Ok.field-0-is))
    (c.eval.ensures.led 0 (omega arith))

pub returns-in-Ok-Err : goal.returns-in-Ok-Err
returns-in-Ok-Err c =
    missed_by_fault _ _ _ c.missed.ensures
    (evaluated c.args.expr.now c.args.frame.now c.args.world.now c.eval.new.world (local c.args.frame.now (record { heap = c.make.result; fuel = 0; depth = 0 })) _ c.code-code.result.now c.eval.result
    (Err (miss.Fault c.in-Ok-Err.raised.at c.in-Ok-Err.raised.fault)) c.code-code.ensures (ap (λ h. record { names = c.args.frame.now; heap = h; fuel = 0; depth = 0 }) c.make.ensures)
    (ap miss_of (c.in-Ok-Err.is ∙ ap Ok c.in-Ok-Err.field-0-is)) (c.eval.ensures.led 0 (omega arith)))
