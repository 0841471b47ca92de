use Rattle.std.proofs.Common.{subst, Err}
use Rattle.rb_json.proofs.Replied.{Tells, read_so, not_refused}
use Rattle.rb_json.proofs.answers.read_forest.Goals as goal

pub returns-in-Ok : goal.returns-in-Ok
returns-in-Ok c = read_so c.args.reply.now c.in-Ok.root c.in-Ok.ensures.only

pub unreachable-requires : goal.unreachable-requires
unreachable-requires c =
    let stop = c.in-Err-Refused in
    not_refused c.args.reply.now stop.field-0-0 stop.field-0-1 c.requires (subst (λ e. Tells c.args.reply.now (Err e)) stop.field-0-is stop.ensures.only)
