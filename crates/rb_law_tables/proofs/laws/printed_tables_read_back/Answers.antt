use Rattle.rb_law_tables.proofs.ReadBack.{reads_back}
use Rattle.rb_law_tables.proofs.laws.printed_tables_read_back.Goals as goal

pub returns : goal.returns
returns c = reads_back
