use Rattle.std.proofs.Common.{◌≡◌, drop}
use Rattle.rb_trees.specs.mirror.Scripts.{mirror_sexprs}
use Rattle.rb_split.specs.Views.{all_in_script}
use Rattle.rb_split.proofs.Scripted.{sexprs_joined}
use Rattle.rb_split.proofs.exprs.+portables.Given as goal

abbrev pub invariant-script_exprs-exprs : goal.invariant-script_exprs-exprs
invariant-script_exprs-exprs l = sexprs_joined (mirror_sexprs l.made) (all_in_script l.terms (drop l.e-index l.es)) ≡ all_in_script l.terms l.es
