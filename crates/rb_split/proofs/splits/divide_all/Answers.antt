use Rattle.std.proofs.Common.{rules, arith}
use Rattle.rb_trees.specs.mirror.Declarations.{mirror_program}
use Rattle.rb_split.proofs.Divided.{count_more, leads_on, leads_refused, numbered_more}
use Rattle.rb_split.proofs.splits.divide_all.Goals as goal

pub returns-in_err-divide-clause-divided : goal.returns-in_err-divide-clause-divided
returns-in_err-divide-clause-divided c = λ bs e.
    leads_refused c.from_residual.result (mirror_program c.args.x.now) c.args.batches.now c.batches.splits c.batches.batch-index c.batch-item.result c.divide.result _ (omega arith) c.batch-item.is
    c.batches.invariant.leads c.divide.ensures.divided c.in_err-divide.was (search rules) bs e

pub batches-preserved : goal.batches-preserved
batches-preserved c = record {
  leads = leads_on (mirror_program c.args.x.now) c.args.batches.now c.batches.splits c.push.new.self c.batches.batch-index c.batch-item.result c.divide.result c.in_ok-divide.field-0 (omega arith) c.batch-item.is
      c.batches.invariant.leads c.divide.ensures.divided c.in_ok-divide.was c.in_ok-push.ensures.ok;
  numbered = numbered_more c.batches.splits c.push.new.self c.in_ok-divide.field-0 c.batches.number c.batches.invariant.numbered c.in_ok-divide.ensures.number c.batches.invariant.number c.in_ok-push.ensures.ok;
  number = count_more c.batches.splits c.push.new.self c.in_ok-divide.field-0 c.batches.number c.in_ok-number.number c.batches.invariant.number c.in_ok-number.ensures c.in_ok-push.ensures.ok;
}
