use Rattle.std.proofs.Common.{◌≡◌, ℕ, ◌++◌, drop}
use Rattle.rb_flow.specs.Levels.{bucket, copies}
use Rattle.rb_flow.proofs.readers.add_all.Given as goal

abbrev pub invariant-loop-node : goal.invariant-loop-node
invariant-loop-node l = (n : ℕ) → bucket l.readers n ++ copies l.place (drop l.node-index l.nodes) n ≡ bucket l.fn.readers n ++ copies l.place l.nodes n
