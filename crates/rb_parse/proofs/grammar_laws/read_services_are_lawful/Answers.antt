use Rattle.rb_parse.proofs.lawful.Services.{lawful_service}
use Rattle.rb_parse.proofs.grammar_laws.read_services_are_lawful.Goals as goal

pub returns : goal.returns
returns c = λ source service read. lawful_service source read.0 service read.1 read.2.0 read.2.1
