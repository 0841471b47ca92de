-- A command that was answered by what the words and the outside mean is carried out to its end.
use Rattle.std.proofs.Common.{Option}
use Rattle.rb_base.specs.declared.links.Link as links
use Rattle.rb_disk.specs.declared.disk.Disk as disks
use Rattle.rb_top.specs.Answers.{Says}
use Rattle.rb_top.specs.Completeness.{Completes}
use Rattle.rb_top.specs.Scene.{Outside}
use Rattle.rb_top.specs.Words.{Wanted}
use Rattle.rb_top.specs.declared.status.Status.{Status}
use Rattle.rb_hub_lines.specs.Lines.{HaveOneReading}
use Rattle.rb_top.proofs.AnsweredTold.{answers_told}
use Rattle.rb_top.proofs.PlayedTold.{plays_told}
use Rattle.rb_top.proofs.Complete.{calls_told, checks_told, pairs_told, runs_told, splits_told, trials_told}
use Rattle.rb_top.proofs.KeptTold.{JournalsRead, keeps_told}
use Rattle.rb_top.proofs.ServedTold.{serves_told}
use Rattle.rb_top.proofs.Usable.{OneService, OneSource}

pub completed : {L D : Type 0} (g : links.Ghosts L) (d : disks.Ghosts D) → OneSource → OneService → HaveOneReading → JournalsRead → (wanted : Option Wanted) (result : Status) (before after : Outside L) → Says g d wanted result before after → Completes g wanted result before after
completed g d source service lines journals wanted result before after said = record {
  checks = checks_told g d source wanted result before after said;
  splits = splits_told g d source wanted result before after said;
  runs = runs_told g d source service wanted result before after said;
  trials = trials_told g d source service wanted result before after said;
  calls = calls_told g d source wanted result before after said;
  pairs = pairs_told g d source service wanted result before after said;
  serves = serves_told g d service wanted result before after said;
  keeps = keeps_told g d service journals wanted result before after said;
  plays = plays_told g d service lines wanted result before after said;
  answers = answers_told g d service wanted result before after said;
}
