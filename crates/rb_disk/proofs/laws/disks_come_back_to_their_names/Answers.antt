use Rattle.rb_disk.proofs.Placed.{stands_again}
use Rattle.rb_disk.proofs.laws.disks_come_back_to_their_names.Goals as goal

pub returns : goal.returns
returns c = stands_again
