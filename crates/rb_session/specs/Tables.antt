-- The tables that requests find and leave at a server which answers them in order, where nobody else changes its table.
use Rattle.std.specs.Prelude.{◌≡◌, ◌&&◌, ℕ, zero, suc, List, [], ◌∷◌, Bool, true, false, nat_lt, Result, Ok, Err}
use Rattle.std.proofs.Common.{refl, arith, ltb-true}
use Rattle.rb_trees.specs.declared.services.Object.{Object}
use Rattle.rb_trees.specs.mirror.Services.{Service}
use Rattle.rb_meaning_bytes.specs.formats.Fields.{IsBytes}
use Rattle.rb_meaning_bytes.specs.formats.Messages.{Sent, Refused}
use Rattle.rb_meaning_bytes.proofs.formats.Payloads.{means_something}
use Rattle.rb_meaning.specs.Answers.{performed}
use Rattle.rb_meaning.specs.Links.{Pair}

-- The table that is left where a payload means this: a script is performed; where the payload is refused, the table stays.
abbrev pub left_where : Service → List Object → Result Sent Refused → List Object
left_where service table (Ok x) = (performed service table x).server.table
left_where service table (Err wrong) = table

-- whether all of these are bytes
abbrev pub are_bytes : List ℕ → Bool
are_bytes [] = true
are_bytes (c ∷ cs) = nat_lt c 256 && are_bytes cs

-- A test that both are so says it of each.
both : (x y : Bool) → x && y ≡ true → (x ≡ true) × (y ≡ true)
both true y e = (refl, e)
both false y e = absurd (cc e)

-- What passes the test are bytes.
pub bytes_are : (bytes : List ℕ) → are_bytes bytes ≡ true → IsBytes bytes
bytes_are [] e i = omega arith
bytes_are (c ∷ cs) e zero = ltb-true c 256 (both (nat_lt c 256) (are_bytes cs) e).0
bytes_are (c ∷ cs) e (suc i) = bytes_are cs (both (nat_lt c 256) (are_bytes cs) e).1 i

-- Each payload means one thing, so there is one table that it leaves. What isn't bytes is no payload; the table stays.
abbrev pub left_if : (b : Bool) (payload : List ℕ) → are_bytes payload ≡ b → Service → List Object → List Object
left_if true payload e service table = left_where service table (means_something payload (bytes_are payload e)).0
left_if false payload e service table = table

-- the table that the one answer to a payload leaves
unfoldable pub table_after : Service → List Object → List ℕ → List Object
table_after service table payload = left_if (are_bytes payload) payload refl service table

-- the tables that the requests of these pairs left, from the first table on
abbrev pub left_by : Service → List Object → List Pair → List (List Object)
left_by service first [] = []
left_by service first (p ∷ ps) = let left = table_after service first p.request in left ∷ left_by service left ps

-- the tables that they found: the first one, and those that all but the last left
abbrev pub found_by : Service → List Object → List Pair → List (List Object)
found_by service first [] = []
found_by service first (p ∷ ps) = first ∷ found_by service (table_after service first p.request) ps
