use Rattle.std.proofs.Common.{◌≡◌, drop}
use Rattle.rb_trees.specs.mirror.Code.{mirror_exprs}
use Rattle.rb_meaning_split.specs.Inputs as meant
use Rattle.rb_split.specs.Uses.{noted}
use Rattle.rb_split.proofs.inputs.+constants.Given as goal

abbrev pub invariant-note_all_constants-exprs : goal.invariant-note_all_constants-exprs
invariant-note_all_constants-exprs l =
    noted l.uses (meant.all_constants l.scope (mirror_exprs (drop l.e-index l.es))) ≡ noted l.fn.uses (meant.all_constants l.scope (mirror_exprs l.es))
