use Rattle.rb_parse.proofs.lawful.Whole.{lawful}
use Rattle.rb_parse.proofs.grammar_laws.read_programs_are_lawful.Goals as goal

pub returns : goal.returns
returns c = λ source program read. lawful source read.0 program read.1 read.2.0 read.2.1
