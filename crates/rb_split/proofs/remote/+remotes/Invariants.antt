use Rattle.std.proofs.Common.{◌≡◌, ◌++◌, drop}
use Rattle.rb_trees.specs.mirror.Code.{mirror_exprs}
use Rattle.rb_meaning.specs.RemoteExprs as meant
use Rattle.rb_split.specs.Views.{facts, trees}
use Rattle.rb_split.proofs.remote.+remotes.Given as goal

abbrev pub invariant-find_in_all-exprs : goal.invariant-find_in_all-exprs
invariant-find_in_all-exprs l =
    trees l.found ++ meant.all_remote_in (facts l.x) l.scope (mirror_exprs (drop l.e-index l.es)) ≡ trees l.fn.found ++ meant.all_remote_in (facts l.x) l.scope (mirror_exprs l.es)
