-- As many arguments are taken as there are parameters.
use Rattle.std.proofs.Common.{sym, ◌∙◌, map}
use Rattle.std.proofs.lemmas.List.{length-map}
use Rattle.rb_trees.specs.mirror.Declarations.{mirror_param}
use Rattle.rb_engine.proofs.Arguments.{taken_count}
use Rattle.rb_engine.proofs.remote.fitting.Goals as goal

pub returns-in-Some-clause-count : goal.returns-in-Some-clause-count
returns-in-Some-clause-count c =
    sym (length-map c.args.params.now mirror_param) ∙ taken_count c.args.heap.now (map mirror_param c.args.params.now) c.args.args.now c.in-Some.values (sym c.in_ok-values.ensures ∙ c.in-Some.is)
