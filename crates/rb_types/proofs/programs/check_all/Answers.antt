use Rattle.rb_trees.specs.mirror.Declarations.{mirror_program}
use Rattle.rb_types.proofs.Judged as judged
use Rattle.rb_types.proofs.programs.check_all.Goals as goal

pub returns-clause-gives : goal.returns-clause-gives
returns-clause-gives c = judged.gives (mirror_program c.args.program.now) c.check_declared.result c.check_declared.ensures

pub returns-clause-notes : goal.returns-clause-notes
returns-clause-notes c = judged.noted (mirror_program c.args.program.now) c.check_declared.result c.check_declared.ensures
