-- What follows a reply is read, and a part is stopped where its step is.
use Rattle.std.proofs.Common.{◌≡◌, refl, arith, ℕ, List, Some, None, Ok}
use Rattle.rb_trees.specs.declared.services.Object.{Object}
use Rattle.rb_trees.specs.mirror.Forests.{NoEntries}
use Rattle.rb_trees.specs.mirror.Remainders.{Part, Parts, MoreParts}
use Rattle.rb_meaning_bytes.specs.Fits.{part_read, parts_read}
use Rattle.rb_meaning_code.specs.Remote.{Server, Reply, Got, Stopped}
use Rattle.rb_meaning_code.specs.ScriptRun.{Ran, on_reply}
use Rattle.rb_law_division.proofs.Reading.{Reader, parts_rest, then_reads, standing, over, Walks, walks_stopped}
use Rattle.rb_law_division.proofs.Sends.{Serves}

-- where the lists of inputs have these lengths
module _ (lengths : List ℕ) where
  pub stops : (n : ℕ) (q : Part) (ps : Parts) → part_read lengths q (standing NoEntries (Some n)) ≡ Ok (over NoEntries None) → parts_read lengths (MoreParts q ps) (standing NoEntries (Some n)) ≡ Ok (over NoEntries None)
  stops n q ps h = then_reads (part_read lengths q (standing NoEntries (Some n))) (over NoEntries None) (λ w. parts_read lengths ps w) (Ok (over NoEntries None)) h (parts_rest lengths ps (over NoEntries None) refl)

  pub reply_walks : {A : Type 0} (Good : List Object → Type 0) (P : A → Type 0) (n : ℕ) (R : Reader) (r : Reply A) (go : A → Server → Ran) → Serves Good P r → R (standing NoEntries (Some n)) ≡ Ok (over NoEntries None)
      → ((a : A) (s : Server) → P a → Good s.table → Walks lengths Good n R (go a s)) → Walks lengths Good n R (on_reply n r go)
  reply_walks Good P n R (Got a s) go h stop more = more a s h.0 h.1
  reply_walks Good P n R (Stopped at fault s) go h stop more = walks_stopped lengths Good n n at fault s R (omega arith) stop
