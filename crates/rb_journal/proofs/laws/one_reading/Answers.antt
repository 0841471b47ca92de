use Rattle.rb_journal.proofs.OneReading.{stands_once, stands_is_journal, stands_is_whole, stands_is_opened, bad_is_journal, bad_once}
use Rattle.rb_journal.proofs.laws.one_reading.Goals as goal

pub returns : goal.returns
returns c = record { payloads = stands_once; is_journal = stands_is_journal; is_whole = stands_is_whole; is_opened = stands_is_opened; has_head = bad_is_journal; number = bad_once }
