use Rattle.std.proofs.Common.{sym, ap, ◌∙◌}
use Rattle.std.specs.Option.{option_map}
use Rattle.rb_trees.specs.mirror.Code.{mirror_stmts}
use Rattle.rb_trees.specs.mirror.Declarations.{mirror_program}
use Rattle.rb_split.specs.Divided.{divided_from}
use Rattle.rb_split.specs.Seen.{seen}
use Rattle.rb_split.proofs.Divided.{divided_so, gives_by}
use Rattle.rb_split.proofs.division.divide.Goals as goal

pub returns-clause-divided : goal.returns-clause-divided
returns-clause-divided c = λ b h.
    gives_by seen c.divide_from.result _ _
    (divided_so (mirror_program c.args.x.now) c.args.batch.now b (c.in-Some.root.0.now, c.in-Some.root.1) h (sym (sym c.newest.ensures ∙ ap (option_map (λ v. (v.0.now, v.1))) c.in-Some.is))
    ∙ ap (λ s. divided_from (mirror_program c.args.x.now) c.in-Some.root.1 c.in-Some.root.0.now s (mirror_stmts c.args.batch.now.block.now)) (sym c.in_ok-scope.ensures))
    c.divide_from.ensures.divided
