use Rattle.std.proofs.Common.{ap, sym, ◌∙◌}
use Rattle.rb_trees.specs.declared.values.Value.TheVariants as value
use Rattle.rb_meaning_code.specs.Remote.{batch_fuel}
use Rattle.rb_plain.specs.BatchRuns.{whole_from}
use Rattle.rb_plain.proofs.BatchWhole.{fresh}
use Rattle.rb_plain.proofs.Stepped.{named}
use Rattle.rb_plain.proofs.batch_run.begin.Goals as goal

pub returns : goal.returns
returns c = record {
  bound_so = c.in_ok-start.ensures.names_so ∙ named c.args.frame.now c.in_ok-bind.ensures.bound c.as_slice.ensures (ap value.Remote c.root.ensures);
  whole_so = c.in_ok-start.ensures.whole_so ∙ ap (λ ns. whole_from c.args.world.now.stage c.args.batch.now ns c.args.world.now.server.table) (sym c.in_ok-start.ensures.names_so);
  server_so = fresh c.refuel.ensures ∙ ap (λ t. record { table = t; fuel = batch_fuel }) c.in_ok-start.ensures.table_so;
  stage_so = c.in_ok-start.ensures.stage_so;
}
