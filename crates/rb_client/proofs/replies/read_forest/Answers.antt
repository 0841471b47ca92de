use Rattle.std.proofs.Common.{refl}
use Rattle.rb_wire_forest.specs.Opened.{root_of}
use Rattle.rb_client.specs.Demands.{demanded}
use Rattle.rb_client.proofs.Traded.{forest_so, misfit_so, no_node, violates}
use Rattle.rb_client.proofs.replies.read_forest.Goals as goal

pub returns-in-Ok-fits : goal.returns-in-Ok-fits
returns-in-Ok-fits c = forest_so (demanded c.args.remainder.now c.args.lengths.now) c.args.payload.now (root_of c.in-Ok.forest) c.in-Ok.ensures.told c.in-Ok.ensures.only c.in-Ok-fits.ensures

pub returns-in-Err-fits : goal.returns-in-Err-fits
returns-in-Err-fits c =
    misfit_so (demanded c.args.remainder.now c.args.lengths.now) c.args.payload.now (root_of c.in-Ok.forest) c.in-Err-fits.misfit c.in-Ok.ensures.told c.in-Ok.ensures.only c.in-Err-fits.ensures

pub returns-in-Err : goal.returns-in-Err
returns-in-Err c = (
  (refl, violates c.args.payload.now c.in-Err.refused.number c.in-Err.refused.at c.in-Err.ensures.told),
  no_node (demanded c.args.remainder.now c.args.lengths.now) c.args.payload.now (c.in-Err.refused.number, c.in-Err.refused.at) (λ meant m. c.in-Err.ensures.only meant m),
)
