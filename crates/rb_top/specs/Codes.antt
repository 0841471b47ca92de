-- The exit status of each answer.
use Rattle.std.specs.Prelude.{ℕ}
use Rattle.rb_top.specs.declared.status.Status.{Status}
use Rattle.rb_top.specs.declared.status.Status.TheVariants.{Done, Faulted, Words, FileFault, SourceRefused, BatchRefused, ServiceRefused, LinkFault, BadReply, WriteFault, Memory, DialFault, ListenFault, FileTooLong, EventRefused, DiskFault, JournalRefused, JsonRefused}

abbrev pub code_of : Status → ℕ
code_of Done = 0
code_of (Faulted fault at) = 1
code_of Words = 2
code_of (FileFault name) = 3
code_of (SourceRefused error) = 4
code_of (BatchRefused refusal) = 5
code_of (ServiceRefused error) = 6
code_of (LinkFault done) = 7
code_of (BadReply done reason kind bytes) = 8
code_of WriteFault = 9
code_of Memory = 10
code_of DialFault = 11
code_of ListenFault = 12
code_of (FileTooLong name) = 13
code_of (EventRefused number) = 14
code_of (DiskFault name) = 15
code_of (JournalRefused number) = 16
code_of (JsonRefused refusal) = 17
