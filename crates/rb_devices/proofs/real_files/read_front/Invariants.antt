use Rattle.std.proofs.Common.{◌+◌, ◌≤◌, length}
use Rattle.std.specs.Io.{StartsWith}
use Rattle.rb_devices.proofs.real_files.read_front.Given as goal

abbrev pub invariant-loop : goal.invariant-loop
invariant-loop g l = record {
  kept : StartsWith l.into.items l.initial.into.items;
  bound : length l.into.items + l.room ≤ length l.initial.into.items + (l.limit + 1);
}
