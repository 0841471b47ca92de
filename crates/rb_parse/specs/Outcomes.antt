-- How many things there are of which something holds.
use Rattle.std.specs.Prelude.{◌≡◌}

-- There is at most one of which this holds.
abbrev pub AtMostOne : {X : Type 0} → (X → Type 0) → Type 0
AtMostOne {X} Has = (one other : X) → Has one → Has other → one ≡ other

-- There is one of which this holds.
abbrev pub AtLeastOne : {X : Type 0} → (X → Type 0) → Type 0
AtLeastOne {X} Has = (one : X) × Has one
