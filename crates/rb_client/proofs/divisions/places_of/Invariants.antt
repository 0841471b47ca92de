use Rattle.std.proofs.Common.{◌≡◌, ◌≤◌, ℕ, drop, length}
use Rattle.std.specs.Prelude.{nat_eq}
use Rattle.std.specs.HashMap.{get}
use Rattle.rb_client.specs.Splits.{place_in}
use Rattle.rb_client.proofs.divisions.places_of.Given as goal

abbrev pub invariant-back : goal.invariant-back
invariant-back l = record {
  within : l.place ≤ length l.splits;
  places : (at : ℕ) → get nat_eq l.places at ≡ place_in (drop l.place l.splits) at l.place;
}

abbrev pub decreases-back : goal.decreases-back
decreases-back l = l.place
