use Rattle.rb_trees.specs.mirror.Services.{mirror_service_text}
use Rattle.rb_store.specs.Views.{stored}
use Rattle.rb_store.proofs.Told.{told}
use Rattle.rb_store.proofs.sources.read_service.Goals as goal

pub returns-clause-read : goal.returns-clause-read
returns-clause-read c = told c.args.source.now stored (mirror_service_text c.in_ok-text.text) c.make_service.result c.in_ok-text.ensures.read c.make_service.ensures.gives
