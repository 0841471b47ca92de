use Rattle.std.proofs.Common.{◌≡◌, ℕ, nat_eq, None, drop}
use Rattle.std.specs.HashMap.{get}
use Rattle.rb_flow.specs.Origins.{first_from}
use Rattle.rb_flow.proofs.origins.index_origins.Given as goal

abbrev pub invariant-loop-writer : goal.invariant-loop-writer
invariant-loop-writer l = record {
  count : l.place ≡ l.writer-index;
  origins : (n : ℕ) → first_from l.place (drop l.writer-index l.writers) l.levels n (get nat_eq l.origins n) ≡ first_from 0 l.writers l.levels n None;
}
