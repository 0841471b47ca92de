-- The places that are kept of variables.
use Rattle.std.specs.Prelude.{ℕ, List, get_or, cond, nat_lt, Option, None}
use Rattle.std.specs.Ordering.{nat_cmp}
use Rattle.std.specs.BTreeMap.{get}
use Rattle.rb_exec.specs.declared.places.Places.{Places}
use Rattle.rb_exec.specs.declared.places.TheConstants.{INDEXED}

-- the place that a list keeps of a number, and none beyond its end
abbrev pub listed : List (Option ℕ) → ℕ → Option ℕ
listed places number = get_or places number None

-- The place that is kept of a number: small numbers are indexes of the list, the others keys of the map.
abbrev pub place_at : Places → ℕ → Option ℕ
place_at places number = cond (nat_lt number INDEXED) (listed places.low.items number) (get nat_cmp places.high number)
