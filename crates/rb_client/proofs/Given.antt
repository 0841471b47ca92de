-- Scripts that are sent one after the other, on the tables that they find: after scripts come more, and the last is told from those
-- before it.
use Rattle.std.proofs.Common.{◌≡◌, refl, sym, ap, ◌∙◌, ℕ, suc, List, [], ◌∷◌, ◌++◌, length, drop}
use Rattle.std.proofs.Math.Seq.{drop-nil}
use Rattle.std.specs.List.{AllByRecursion}
use Rattle.rb_trees.specs.declared.services.Object.{Object}
use Rattle.rb_trees.specs.mirror.Forests.{Node}
use Rattle.rb_trees.specs.mirror.Services.{Service}
use Rattle.rb_meaning_bytes.specs.formats.Messages.{Sent}
use Rattle.rb_meaning.specs.Others.{Others, FoundThrough, found_table, last_table}
use Rattle.rb_law_client.specs.Clients.{ScriptsGive, sent_run}

abbrev Tables : Type 0
Tables = List (List Object)

-- More after some.

pub gives_on : (service : Service) (f g : Tables) (sent more : List Sent) (ns ms : List Node) (l m : Tables) → ScriptsGive service f sent ns l → ScriptsGive service g more ms m → ScriptsGive service (f ++ g) (sent ++ more) (ns ++ ms) (l ++ m)
gives_on service [] g [] more [] ms [] m h next = next
gives_on service (f ∷ fs) g (q ∷ qs) more (n ∷ ns) ms (l ∷ ls) m h next = (h.0, h.1, gives_on service fs g qs more ns ms ls m h.2 next)
gives_on service _ g _ more _ ms _ m h next = absurd h

pub alone_on : (table : List Object) (f g l m : Tables) → FoundThrough [] table f l → FoundThrough [] (last_table table l) g m → FoundThrough [] table (f ++ g) (l ++ m)
alone_on table [] g [] m h next = next
alone_on table (f ∷ fs) g (l ∷ ls) m h next = (h.0, alone_on l fs g ls m h.1 next)
alone_on table [] g (l ∷ ls) m h next = absurd h
alone_on table (f ∷ fs) g [] m h next = absurd h

pub last_on : (table : List Object) (l m : Tables) → last_table table (l ++ m) ≡ last_table (last_table table l) m
last_on table [] m = refl
last_on table (l ∷ ls) m = last_on l ls m

pub all_on : {A : Type 0} (P : A → Type 0) (xs ys : List A) → AllByRecursion P xs → AllByRecursion P ys → AllByRecursion P (xs ++ ys)
all_on P [] ys h next = next
all_on P (x ∷ xs) ys h next = (h.0, all_on P xs ys h.1 next)

pub all_last : {A : Type 0} (P : A → Type 0) (xs : List A) (y : A) → AllByRecursion P (xs ++ y ∷ []) → P y
all_last P [] y h = h.0
all_last P (x ∷ xs) y h = all_last P xs y h.1

-- The last of some.

-- the last of the scripts, on the table that it found
pub record LastGives (service : Service) (found : Tables) (sent : List Sent) (nodes : List Node) (left : Tables) (x : Sent) (n : Node) : Type 0 where
  pub before : Tables
  pub table : List Object
  pub behind : Tables
  pub found_so : found ≡ before ++ table ∷ []
  pub left_so : left ≡ behind ++ (sent_run service table x).server.table ∷ []
  pub given : ScriptsGive service before sent nodes behind
  pub node_so : (sent_run service table x).node ≡ n

none_at_end : (service : Service) (fs : Tables) (qs : List Sent) (x : Sent) (ls : Tables) → ScriptsGive service fs (qs ++ x ∷ []) [] ls → ⊥
none_at_end service [] [] x ls h = h
none_at_end service [] (q ∷ qs) x ls h = h
none_at_end service (f ∷ fs) [] x ls h = h
none_at_end service (f ∷ fs) (q ∷ qs) x ls h = h

more_than_sent : (service : Service) (fs : Tables) (ms : List Node) (n : Node) (ls : Tables) → ScriptsGive service fs [] (ms ++ n ∷ []) ls → ⊥
more_than_sent service [] [] n ls h = h
more_than_sent service [] (m ∷ ms) n ls h = h
more_than_sent service (f ∷ fs) ms n ls h = h

pub last_gives : (service : Service) (found : Tables) (sent : List Sent) (nodes : List Node) (left : Tables) (x : Sent) (n : Node) → ScriptsGive service found (sent ++ x ∷ []) (nodes ++ n ∷ []) left → LastGives service found sent nodes left x n
last_gives service (f ∷ []) [] [] (l ∷ []) x n h = record {
  before = [];
  table = f;
  behind = [];
  found_so = refl;
  left_so = ap (λ t. t ∷ []) (sym h.1);
  given = tt;
  node_so = h.0;
}
last_gives service (f ∷ fs) (q ∷ qs) (m ∷ ms) (l ∷ ls) x n h =
    let r = last_gives service fs qs ms ls x n h.2 in
    record {
      before = f ∷ r.before;
      table = r.table;
      behind = l ∷ r.behind;
      found_so = ap (λ ts. f ∷ ts) r.found_so;
      left_so = ap (λ ts. l ∷ ts) r.left_so;
      given = (h.0, h.1, r.given);
      node_so = r.node_so;
    }
last_gives service [] [] nodes left x n h = absurd h
last_gives service [] (q ∷ qs) nodes left x n h = absurd h
last_gives service (f ∷ []) [] [] (l ∷ m ∷ ls) x n h = absurd h.2
last_gives service (f ∷ g ∷ fs) [] [] (l ∷ ls) x n h = absurd h.2
last_gives service (f ∷ fs) [] [] [] x n h = absurd h
last_gives service (f ∷ fs) [] (m ∷ ms) [] x n h = absurd h
last_gives service (f ∷ fs) [] (m ∷ ms) (l ∷ ls) x n h = absurd (more_than_sent service fs ms n ls h.2)
last_gives service (f ∷ fs) (q ∷ qs) [] [] x n h = absurd h
last_gives service (f ∷ fs) (q ∷ qs) [] (l ∷ ls) x n h = absurd (none_at_end service fs qs x ls h.2)
last_gives service (f ∷ fs) (q ∷ qs) (m ∷ ms) [] x n h = absurd h

drop_next : (n : ℕ) (others : List Others) → drop n (drop 1 others) ≡ drop (suc n) others
drop_next n [] = drop-nil n
drop_next n (next ∷ others) = refl

-- what stood before the last batch, and what the last found of it
pub record FoundLast (others : List Others) (table : List Object) (before : Tables) (found : List Object) (behind : Tables) : Type 0 where
  pub through : FoundThrough others table before behind
  pub found_so : found ≡ found_table (drop (length before) others) (last_table table behind)

pub found_last : (others : List Others) (table : List Object) (before : Tables) (found : List Object) (behind : Tables) (left : List Object) → FoundThrough others table (before ++ found ∷ []) (behind ++ left ∷ []) → FoundLast others table before found behind
found_last others table [] found [] left h = record { through = tt; found_so = h.0 }
found_last others table (f ∷ fs) found (l ∷ ls) left h =
    let r = found_last (drop 1 others) l fs found ls left h.1 in
    record { through = (h.0, r.through); found_so = r.found_so ∙ ap (λ os. found_table os (last_table l ls)) (drop_next (length fs) others) }
found_last others table [] found (l ∷ []) left h = absurd h.1
found_last others table [] found (l ∷ m ∷ ls) left h = absurd h.1
found_last others table (f ∷ []) found [] left h = absurd h.1
found_last others table (f ∷ g ∷ fs) found [] left h = absurd h.1
