use Rattle.std.proofs.Common.{◌≡◌, drop}
use Rattle.std.specs.List.{flat_map}
use Rattle.rb_flow.specs.Levels.{expanded, after, bucket, Serves}
use Rattle.rb_flow.proofs.levels.reach_all.Given as goal

abbrev pub invariant-loop-place : goal.invariant-loop-place
invariant-loop-place l = record {
  reached : expanded l.level (flat_map (after l.writers) (drop l.place-index l.frontier)) (record { levels = l.levels.items; next = l.next.items })
      ≡ expanded l.level (flat_map (after l.writers) l.frontier) (record { levels = l.fn.levels.items; next = l.fn.next.items });
  serves : Serves (bucket l.readers) l.writers l.levels.items;
}
