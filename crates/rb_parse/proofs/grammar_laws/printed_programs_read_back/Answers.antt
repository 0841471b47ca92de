use Rattle.rb_parse.proofs.PrintedReads.{reads_back}
use Rattle.rb_parse.proofs.grammar_laws.printed_programs_read_back.Goals as goal

pub returns : goal.returns
returns c = reads_back
