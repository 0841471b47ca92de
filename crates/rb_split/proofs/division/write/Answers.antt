use Rattle.std.proofs.Common.{ap, ◌∙◌}
use Rattle.rb_trees.specs.mirror.Code.{mirror_stmts}
use Rattle.rb_trees.specs.mirror.Declarations.{mirror_program}
use Rattle.rb_split.specs.Drafts.{block_drafted, drafted}
use Rattle.rb_split.specs.Views.{refs_of}
use Rattle.rb_split.proofs.Divided.{division_so}
use Rattle.rb_split.proofs.division.write.Goals as goal

pub returns-clause-divided : goal.returns-clause-divided
returns-clause-divided c =
    division_so (mirror_program c.args.x.now) c.args.place.now.at c.args.count c.args.place.now.root.now c.in_ok-lists.lists c.args.scope.now (mirror_stmts c.args.place.now.block.now) c.args.inputs c.as_slice-names.result.now
    (refs_of c.in_ok-refs.refs) (drafted c.in_ok-steps.field-0) c.in_ok-lists.ensures (c.in_ok-steps.ensures.drafted
    ∙ ap (λ d. block_drafted (mirror_program c.args.x.now) (refs_of c.in_ok-refs.refs) c.args.scope.now d (mirror_stmts c.args.place.now.block.now)) c.new-draft.ensures)
    c.in_ok-refs.ensures c.as_slice-names.ensures c.requires
