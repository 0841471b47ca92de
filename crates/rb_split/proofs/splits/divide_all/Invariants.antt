use Rattle.std.proofs.Common.{◌≡◌, length, map}
use Rattle.std.specs.List.{range_with_len}
use Rattle.rb_trees.specs.mirror.Declarations.{mirror_program}
use Rattle.rb_split.proofs.Divided.{Leads}
use Rattle.rb_split.proofs.splits.divide_all.Given as goal

abbrev pub invariant-batches : goal.invariant-batches
invariant-batches l = record {
  leads : Leads (mirror_program l.x) l.batches l.splits l.batch-index;
  numbered : map (λ s. s.batch) l.splits ≡ range_with_len 0 (length l.splits);
  number : l.number ≡ length l.splits;
}
