-- How requests find tables, and what others do by the tables that were found: over an honest link, and over one that is quiet too.
use Rattle.std.proofs.Common.{◌≡◌, ◌⊎◌, inl, inr, sym, ap, ◌∙◌, subst, List, []}
use Rattle.std.specs.Prelude.{map, Option, None, Some}
use Rattle.rb_trees.specs.declared.services.Object.{Object}
use Rattle.rb_trees.specs.mirror.Forests.{Node}
use Rattle.rb_meaning_bytes.specs.formats.Messages.{Sent}
use Rattle.rb_meaning_types.specs.Fits.{TableFits}
use Rattle.rb_meaning.specs.Links.{Behind}
use Rattle.rb_meaning.specs.Others.{Others, FoundThrough, becomes}
use Rattle.rb_law_unsplit.specs.Kept.{AllKeepFitting}
use Rattle.rb_law_unsplit.proofs.Others.{becoming_keeps}
use Rattle.rb_law_client.specs.Clients.{sent_run}
use Rattle.rb_law_client.proofs.Others.{through_becoming}
use Rattle.rb_base.specs.Links.{Finds, FindsFitting, FindsStanding}
use Rattle.rb_client.specs.Demands.{Demand, meets}
use Rattle.rb_client.specs.Servers.{HasServed, IsServer}
use Rattle.rb_client.specs.Serving.{AsFound, GivesMisfit, MayPerform, table_left}
use Rattle.rb_client.proofs.Serving.{Served, served_still}

abbrev Tables : Type 0
Tables = List (List Object)

-- How requests find tables goes by the service and the table that stood alone.
abbrev pub Respects : Finds → Type 0
Respects Found = (a b : Behind) → a.service ≡ b.service → a.table ≡ b.table → (table : List Object) → Found a table → Found b table

-- a server behind a lost request: the table that it found, and the one of two that the server has
pub record LostThere (Found : Finds) (b : Behind) (found left : Tables) (stood : List Object) (x : Sent) (after : Option Behind) : Type 0 where
  pub table : List Object
  pub found_so : Found (record b { table = stood }) table
  pub stands : IsServer after b found left table ⊎ IsServer after b found left (table_left b table x)

pub lost_there : (Found : Finds) → Respects Found → (b : Behind) (found left : Tables) (stood : List Object) (x : Sent) (mid after : Option Behind) → IsServer mid b found left stood → MayPerform Found mid after x
    → LostThere Found b found left stood x after
lost_there Found respects b found left stood x (Some m) (Some a) is h =
    record { table = h.table; found_so = respects m (record b { table = stood }) is.service is.table_so h.table h.found; stands = by h.served }
  where
    by : HasServed m a [] [] h.table ⊎ HasServed m a [] [] (table_left m h.table x) → IsServer (Some a) b found left h.table ⊎ IsServer (Some a) b found left (table_left b h.table x)
    by (inl i) = inl (served_still b m a found left stood h.table is i)
    by (inr i) = inr (served_still b m a found left stood (table_left b h.table x) is (subst (λ s. HasServed m a [] [] (sent_run s h.table x).server.table) is.service i))
lost_there Found respects b found left stood x (Some m) None is h = absurd h
lost_there Found respects b found left stood x None after is h = absurd is

-- on some table that fits, a node that doesn't meet a demand is given by the server's own service
pub misfit_there : (b : Behind) (found left : Tables) (stood : List Object) (x : Sent) (demand : Demand) (told : Option Behind) → IsServer told b found left stood → GivesMisfit told x demand → GivesMisfit (Some b) x demand
misfit_there b found left stood x demand (Some m) is (table, fits_so, misfit) =
    (table, subst (λ s. TableFits s.classes s.root table) is.service fits_so, λ e. misfit (ap (λ s. meets demand (sent_run s table x).node) is.service ∙ e))
misfit_there b found left stood x demand None is misfit = absurd is

-- How requests find tables, and what others do, by the tables that were found since a server stood so.
pub record Ways (honest quiet : Type 0) (b : Behind) (Found : Finds) : Type 1 where
  pub others : Tables → List Others
  pub keep : (told : Option Behind) (sent : List Sent) (nodes : List Node) (t : Served quiet b told sent nodes) → AllKeepFitting b.service (others t.found)
  pub through : (told : Option Behind) (sent : List Sent) (nodes : List Node) (t : Served quiet b told sent nodes) → FoundThrough (others t.found) b.table t.found t.left
  pub respects : Respects Found
  pub fits_so : (table found : List Object) → TableFits b.service.classes b.service.root table → Found (record b { table = table }) found → TableFits b.service.classes b.service.root found
  pub holds : (Holds : Finds → Type 0) → AsFound honest quiet Holds → Holds Found

-- others may do anything that keeps tables fitting
abbrev pub fitting : (honest quiet : Type 0) (b : Behind) → honest → Ways honest quiet b FindsFitting
fitting honest quiet b h = record {
  others = map becomes;
  keep = λ told sent nodes t. becoming_keeps b.service t.found t.fitting;
  through = λ told sent nodes t. through_becoming b.service t.found sent nodes t.left b.table t.given;
  respects = λ m n service table found. subst (λ s. TableFits s.classes s.root found) service;
  fits_so = λ table found stood fitting. fitting;
  holds = λ Holds f. f.fitting h;
}

-- nobody else does anything
abbrev pub standing : (honest quiet : Type 0) (b : Behind) → honest → quiet → Ways honest quiet b FindsStanding
standing honest quiet b h q = record {
  others = λ found. [];
  keep = λ told sent nodes t. tt;
  through = λ told sent nodes t. t.alone q;
  respects = λ m n service table found is. is ∙ table;
  fits_so = λ table found stood is. subst (TableFits b.service.classes b.service.root) (sym is) stood;
  holds = λ Holds f. f.standing h q;
}
