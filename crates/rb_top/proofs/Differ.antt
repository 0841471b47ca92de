-- The classes of a service that is typed with its table differ by name.
use Rattle.std.proofs.Common.{List, ap}
use Rattle.std.specs.Result.{is_ok}
use Rattle.rb_trees.specs.declared.services.Object.{Object}
use Rattle.rb_trees.specs.mirror.Services.{Service}
use Rattle.rb_meaning.specs.Links.{IsTyped}
use Rattle.rb_code.specs.Differ.{ClassesDiffer}
use Rattle.rb_code.proofs.Differ.{service_classes_differ}

pub served_classes_differ : (s : Service) (table : List Object) → IsTyped s table → ClassesDiffer s.classes
served_classes_differ s table t = service_classes_differ s.classes (ap is_ok t.typed)
