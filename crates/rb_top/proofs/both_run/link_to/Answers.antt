use Rattle.rb_trees.specs.mirror.Services.{mirror_service}
use Rattle.rb_top.proofs.Differ.{served_classes_differ}
use Rattle.rb_top.proofs.both_run.link_to.Goals as goal

pub make-requires : goal.make-requires
make-requires c = served_classes_differ (mirror_service c.args.service) c.args.table c.requires
