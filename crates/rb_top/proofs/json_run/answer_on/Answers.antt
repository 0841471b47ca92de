use Rattle.std.proofs.Common.{ap, subst}
use Rattle.rb_trees.specs.mirror.Services.{mirror_service}
use Rattle.rb_top.specs.HubRuns.{served_there}
use Rattle.rb_top.specs.JsonRuns.{AnswersJson}
use Rattle.rb_top.specs.Scene.{output}
use Rattle.rb_top.proofs.Differ.{served_classes_differ}
use Rattle.rb_top.proofs.json_run.answer_on.Goals as goal

pub make-requires : goal.make-requires
make-requires g c = served_classes_differ (mirror_service c.args.service) c.args.table c.requires.typed

pub returns-in-Ok : goal.returns-in-Ok
returns-in-Ok g c =
    subst (λ served. AnswersJson c.args.request.now served c.answer_request.result (output g.W.Sink c.args.out.now) (output g.W.Sink c.answer_request.new.out))
    (ap served_there c.in-Ok.ensures) c.answer_request.ensures
