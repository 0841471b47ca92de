use Rattle.rb_code.proofs.Fresh.{methods_of_one}
use Rattle.rb_code.proofs.indexes.names_of_each.Goals as goal

pub method_names-requires : goal.method_names-requires
method_names-requires c = methods_of_one c.args.classes.now c.loop-class.class-index c.class-item.result c.as_slice.result.now c.requires c.loop-class-test.true c.class-item.is c.as_slice.ensures
