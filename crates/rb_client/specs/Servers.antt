-- The server behind a client's link: what it performed for the client, and which exchanges fail.
use Rattle.std.specs.Prelude.{◌≡◌, ◌<◌, ℕ, zero, suc, List, [], ◌++◌, Bool, true, false, Option, None, Some}
use Rattle.std.specs.List.{AllByRecursion}
use Rattle.rb_trees.specs.declared.services.Object.{Object}
use Rattle.rb_trees.specs.mirror.Forests.{Node}
use Rattle.rb_meaning_bytes.specs.formats.Messages.{Sent}
use Rattle.rb_meaning_types.specs.Fits.{TableFits}
use Rattle.rb_meaning.specs.Links.{Behind}
use Rattle.rb_meaning.specs.Others.{FoundThrough, last_table}
use Rattle.rb_base.specs.Counts.{risen}
use Rattle.rb_base.specs.Links.{fails_next}
use Rattle.rb_law_client.specs.Clients.{ScriptsGive}

-- Since a server stood so, requests found these tables at it and left those, and this one stands now.
pub record HasServed (before after : Behind) (found left : List (List Object)) (table : List Object) : Type 0 where
  pub service : after.service ≡ before.service
  pub found_so : after.found ≡ before.found ++ found
  pub left_so : after.left ≡ before.left ++ left
  pub table_so : after.table ≡ table

-- the same of the server that a link tells
abbrev pub IsServer : Option Behind → Behind → List (List Object) → List (List Object) → List Object → Type 0
IsServer (Some after) before found left table = HasServed before after found left table
IsServer None before found left table = ⊥

-- The server performed these scripts one after the other, each on a table that it found, and they gave these nodes. Each table fits;
-- where nobody else changes the table, each found the one that stood.
pub record Performed (quiet : Type 0) (before after : Behind) (sent : List Sent) (nodes : List Node) : Type 0 where
  pub found : List (List Object)
  pub left : List (List Object)
  pub given : ScriptsGive before.service found sent nodes left
  pub fitting : AllByRecursion (TableFits before.service.classes before.service.root) found
  pub alone : quiet → FoundThrough [] before.table found left
  pub served : HasServed before after found left (last_table before.table left)

-- the same of the server that a link tells
abbrev pub PerformedAll : Type 0 → Option Behind → Option Behind → List Sent → List Node → Type 0
PerformedAll quiet (Some before) (Some after) sent nodes = Performed quiet before after sent nodes
PerformedAll quiet _ _ sent nodes = ⊥

-- the server so many exchanges later, with whatever table
abbrev pub later : ℕ → Behind → Behind
later zero b = b
later (suc n) b = record (later n b) { made = risen (later n b).made }

-- whether the exchange after so many is one of those that fail
abbrev pub fails_after : ℕ → Behind → Bool
fails_after n b = fails_next (later n b)

-- None of so many exchanges is one that fails, where the link tells its server.
abbrev pub NoneFails : ℕ → Option Behind → Type 0
NoneFails n None = Unit {0}
NoneFails n (Some b) = (k : ℕ) → k < n → fails_after k b ≡ false

-- The exchange after so many is one that fails, where the link tells its server.
abbrev pub FailsAfter : ℕ → Option Behind → Type 0
FailsAfter n None = Unit {0}
FailsAfter n (Some b) = fails_after n b ≡ true
