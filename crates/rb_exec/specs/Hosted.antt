-- What a host is seen as.
use Rattle.std.specs.Prelude.{List}
use Rattle.rb_trees.specs.declared.services.Service.{Service}
use Rattle.rb_trees.specs.declared.services.Object.{Object}

-- a service and its table
pub record Hosted : Type 0 where
  pub service : Service
  pub table : List Object
