use Rattle.std.proofs.Common.{◌≡◌, drop}
use Rattle.rb_trees.specs.mirror.Code.{mirror_exprs}
use Rattle.rb_split.specs.Cutting.{all_cut_so, all_numbers_after}
use Rattle.rb_split.specs.Views.{facts}
use Rattle.rb_split.proofs.CutForms.{exprs_joined}
use Rattle.rb_split.proofs.cuts.+cuts.Given as goal

abbrev pub invariant-cut_all-exprs : goal.invariant-cut_all-exprs
invariant-cut_all-exprs l = record {
  cut : exprs_joined (mirror_exprs l.cuts) (all_cut_so (facts l.x) l.scope l.number (drop l.e-index l.es)) ≡ all_cut_so (facts l.x) l.scope l.fn.number l.es;
  number : all_numbers_after (facts l.x) l.scope l.number (mirror_exprs (drop l.e-index l.es)) ≡ all_numbers_after (facts l.x) l.scope l.fn.number (mirror_exprs l.es);
}
