use Rattle.rb_wire_forest.proofs.Endings.{no_end_tag, other_end, no_step, end_at}
use Rattle.rb_wire_forest.proofs.heads.end_step.Goals as goal

pub returns-in_default : goal.returns-in_default
returns-in_default c = no_end_tag c.args.version c.args.bytes.now _ c.in_default.ensures

pub returns-then-tag-ne1 : goal.returns-then-tag-ne1
returns-then-tag-ne1 c = other_end c.args.version c.args.bytes.now c.in-Ok.tag c.in-Ok.rest.now c.in-Ok.ensures c.if-tag-ne1.true

pub returns-in-Ok-natural : goal.returns-in-Ok-natural
returns-in-Ok-natural c = end_at c.args.version c.args.bytes.now c.in-Ok.tag c.in-Ok.rest.now c.in-Ok-natural.step _ c.in-Ok.ensures c.if-tag-ne1.false c.in-Ok-natural.ensures

pub returns-in-Err : goal.returns-in-Err
returns-in-Err c = no_step c.args.version c.args.bytes.now c.in-Ok.tag c.in-Ok.rest.now _ c.in-Ok.ensures c.if-tag-ne1.false c.in-Err.ensures
