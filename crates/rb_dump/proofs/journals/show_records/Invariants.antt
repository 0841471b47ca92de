use Rattle.std.proofs.Common.{◌≡◌, ◌-◌, length}
use Rattle.rb_dump.specs.Journals.{TellsRecords}
use Rattle.rb_dump.specs.Leads.{Leads}
use Rattle.rb_dump.proofs.journals.show_records.Given as goal

abbrev pub invariant-records : goal.invariant-records
invariant-records l = record {
  bytes : l.walk.bytes ≡ l.initial.walk.bytes;
  found : Leads TellsRecords l.initial.walk l.walk l.verdict;
}

abbrev pub decreases-records : goal.decreases-records
decreases-records l = length l.walk.bytes - l.walk.at
