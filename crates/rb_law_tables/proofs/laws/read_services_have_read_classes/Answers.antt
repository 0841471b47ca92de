use Rattle.rb_law_tables.proofs.ReadBack.{read_classes}
use Rattle.rb_law_tables.proofs.laws.read_services_have_read_classes.Goals as goal

pub returns : goal.returns
returns c = read_classes
