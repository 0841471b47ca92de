use Rattle.std.proofs.Common.{◌≡◌, drop}
use Rattle.rb_trees.specs.mirror.Scripts.{mirror_sexprs}
use Rattle.rb_json.specs.Writes.{exprs_data}
use Rattle.rb_json.proofs.Arrays.{before}
use Rattle.rb_json.proofs.writing.exprs.+write_exprs.Given as goal

abbrev pub invariant-exprs-loop-item : goal.invariant-exprs-loop-item
invariant-exprs-loop-item l = before l.list.items (exprs_data (mirror_sexprs (drop l.item-index l.exprs))) ≡ exprs_data (mirror_sexprs l.exprs)
