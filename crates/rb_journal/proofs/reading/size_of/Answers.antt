use Rattle.std.proofs.Common.{rules}
use Rattle.std.proofs.lemmas.Nat.{be_bytes_4}
use Rattle.rb_journal.proofs.reading.size_of.Goals as goal

pub returns : goal.returns
returns c = be_bytes_4 c.args.front c.from_be_bytes.result (search rules) (search rules) c.from_be_bytes.ensures
