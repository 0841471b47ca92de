use Rattle.std.proofs.Common.{◌<◌, ◌^◌, arith}
use Rattle.serde_json.specs.View.{view}
use Rattle.rb_json.specs.Counts.{count}
use Rattle.rb_json.proofs.Whole.{whole_good}
use Rattle.rb_json.proofs.reader.Reader.request.Goals as goal

pub returns-clause-formed : goal.returns-clause-formed
returns-clause-formed c =
    let next = c.in_ok-steps.ensures.next in
    let bound = c.if-prove.false in
    let few : count (view c.in-Some.steps.now) < 2 ^ 32 = omega (arith, next, bound) in
    whole_good _ _ _ _ _ c.in_ok-inputs.inputs _ c.in-Some.ensures c.in_ok-inputs.ensures.reads c.in_ok-steps.ensures.reads few c.requires
