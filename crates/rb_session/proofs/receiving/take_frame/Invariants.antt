use Rattle.std.proofs.Common.{◌≡◌, ◌<◌, ◌-◌, ◌^◌, length}
use Rattle.rb_base.specs.Devices.{device}
use Rattle.rb_session.specs.Receiving.{lacking, HasTaken}
use Rattle.rb_session.proofs.receiving.take_frame.Given as goal

abbrev pub invariant-loop-most : goal.invariant-loop-most
invariant-loop-most g l = record {
  taken : HasTaken l.taken.items (device g.S.Source.told g.S.Source.faults l.initial.source) (device g.S.Source.told g.S.Source.faults l.source);
  most_is : l.most ≡ lacking l.taken.items;
  fits : length l.taken.items < 2 ^ 64;
}

abbrev pub decreases-loop-most : goal.decreases-loop-most
decreases-loop-most g l = 2 ^ 64 - length l.taken.items
