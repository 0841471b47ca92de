-- Lists of scripts that found tables, gave nodes and left tables: taken apart, one longer, and found through what others did.
use Rattle.std.proofs.Common.{◌≡◌, refl, sym, ap, ◌∙◌, subst, ℕ, suc, List, [], ◌∷◌, ◌++◌, append_assoc, append-nil, drop, length, map}
use Rattle.std.proofs.Math.Seq.{drop-nil}
use Rattle.rb_trees.specs.declared.services.Object.{Object}
use Rattle.rb_trees.specs.mirror.Forests.{Node}
use Rattle.rb_trees.specs.mirror.Services.{Service}
use Rattle.rb_meaning_bytes.specs.formats.Messages.{Sent}
use Rattle.rb_meaning_code.specs.Dialogue.{Outcome}
use Rattle.rb_meaning.specs.Meaning.{Around, at_batch, behind_batch}
use Rattle.rb_meaning.specs.Others.{Others, becomes, found_table, FoundThrough, last_table}
use Rattle.rb_meaning.specs.State.{Outside}
use Rattle.rb_law_client.specs.Clients.{sent_run, ScriptsGive}

-- ---- scripts that gave nodes

-- Nothing was sent: nothing was found, given or left.
pub record GivesNone (found : List (List Object)) (nodes : List Node) (left : List (List Object)) : Type 0 where
  pub found_so : found ≡ []
  pub nodes_so : nodes ≡ []
  pub left_so : left ≡ []

-- One script was sent first: it found a table, gave a node and left a table, and the others after it did.
pub record GivesFirst (service : Service) (found : List (List Object)) (q : Sent) (qs : List Sent) (nodes : List Node) (left : List (List Object)) : Type 0 where
  pub table : List Object
  pub founds : List (List Object)
  pub node : Node
  pub later : List Node
  pub after : List Object
  pub lefts : List (List Object)
  pub found_so : found ≡ table ∷ founds
  pub nodes_so : nodes ≡ node ∷ later
  pub left_so : left ≡ after ∷ lefts
  pub gives : (sent_run service table q).node ≡ node
  pub leaves : (sent_run service table q).server.table ≡ after
  pub rest : ScriptsGive service founds qs later lefts

pub gives_none : (service : Service) (found : List (List Object)) (nodes : List Node) (left : List (List Object)) → ScriptsGive service found [] nodes left → GivesNone found nodes left
gives_none service [] [] [] h = record { found_so = refl; nodes_so = refl; left_so = refl }
gives_none service [] [] (l ∷ left) h = absurd h
gives_none service [] (n ∷ nodes) left h = absurd h
gives_none service (f ∷ found) nodes left h = absurd h

pub gives_first : (service : Service) (found : List (List Object)) (q : Sent) (qs : List Sent) (nodes : List Node) (left : List (List Object)) → ScriptsGive service found (q ∷ qs) nodes left
    → GivesFirst service found q qs nodes left
gives_first service [] q qs nodes left h = absurd h
gives_first service (f ∷ found) q qs [] left h = absurd h
gives_first service (f ∷ found) q qs (n ∷ nodes) [] h = absurd h
gives_first service (f ∷ found) q qs (n ∷ nodes) (l ∷ left) h = record {
  table = f;
  founds = found;
  node = n;
  later = nodes;
  after = l;
  lefts = left;
  found_so = refl;
  nodes_so = refl;
  left_so = refl;
  gives = h.0;
  leaves = h.1;
  rest = h.2;
}

-- one more at the end
pub gives_more : (service : Service) (found : List (List Object)) (sent : List Sent) (nodes : List Node) (left : List (List Object)) (table : List Object) (q : Sent)
    → ScriptsGive service found sent nodes left
    → ScriptsGive service (found ++ table ∷ []) (sent ++ q ∷ []) (nodes ++ (sent_run service table q).node ∷ []) (left ++ (sent_run service table q).server.table ∷ [])
gives_more service [] [] [] [] table q h = (refl, refl, tt)
gives_more service (f ∷ found) (s ∷ sent) (n ∷ nodes) (l ∷ left) table q h = (h.0, h.1, gives_more service found sent nodes left table q h.2)
gives_more service _ _ _ _ table q h = absurd h

-- ---- tables that were found through what others did

-- Where others make just these tables, and then do whatever, these are found.
pub through_made : (service : Service) (found : List (List Object)) (sent : List Sent) (nodes : List Node) (left : List (List Object)) (more : List Others) (table : List Object)
    → ScriptsGive service found sent nodes left → FoundThrough (map becomes found ++ more) table found left
through_made service [] [] [] [] more table h = tt
through_made service (f ∷ found) (s ∷ sent) (n ∷ nodes) (l ∷ left) more table h = (refl, through_made service found sent nodes left more l h.2)
through_made service _ _ _ _ more table h = absurd h

-- so where they do nothing more
pub through_becoming : (service : Service) (found : List (List Object)) (sent : List Sent) (nodes : List Node) (left : List (List Object)) (table : List Object)
    → ScriptsGive service found sent nodes left → FoundThrough (map becomes found) table found left
through_becoming service found sent nodes left table h =
    subst (λ z. FoundThrough z table found left) (append-nil (map becomes found)) (through_made service found sent nodes left [] table h)

-- what others still do behind batches that found the tables that they made
pub left_to_do : (found : List (List Object)) (more : List Others) → drop (length found) (map becomes found ++ more) ≡ more
left_to_do [] more = refl
left_to_do (f ∷ found) more = left_to_do found more

-- what is left to do behind one batch and then so many is what is left behind one more
drop_first : (n : ℕ) (others : List Others) → drop n (drop 1 others) ≡ drop (suc n) others
drop_first n [] = drop-nil n
drop_first n (next ∷ others) = refl

-- one more at the end
pub through_more : (others : List Others) (table : List Object) (found left : List (List Object)) (next after : List Object) → FoundThrough others table found left
    → next ≡ found_table (drop (length found) others) (last_table table left) → FoundThrough others table (found ++ next ∷ []) (left ++ after ∷ [])
through_more others table [] [] next after h e = (e, tt)
through_more others table (f ∷ found) (l ∷ left) next after h e =
    (h.0, through_more (drop 1 others) l found left next after h.1 (e ∙ ap (λ q. found_table q (last_table l left)) (sym (drop_first (length found) others))))
through_more others table [] (l ∷ left) next after h e = absurd h
through_more others table (f ∷ found) [] next after h e = absurd h

-- ---- what is around `main` behind batches

-- From what was around `main`, batches found and left these tables, and this is around it now.
pub record IsBehind (before : Around) (found left : List (List Object)) (now : Around) : Type 0 where
  pub found_so : now.found ≡ before.found ++ found
  pub left_so : now.left ≡ before.left ++ left
  pub table : now.outside.server.table ≡ last_table before.outside.server.table left
  pub others_so : now.others ≡ drop (length found) before.others

pub behind_none : (a : Around) → IsBehind a [] [] a
behind_none a = record { found_so = sym (append-nil a.found); left_so = sym (append-nil a.left); table = refl; others_so = refl }

-- one batch, and then others
pub behind_one : (a now : Around) (r : Outcome (Unit {0}) × Outside) (founds lefts : List (List Object)) → IsBehind (behind_batch a r).1 founds lefts now
    → IsBehind a ((at_batch a).server.table ∷ founds) (r.1.server.table ∷ lefts) now
behind_one a now r founds lefts h = record {
  found_so = h.found_so ∙ append_assoc a.found ((at_batch a).server.table ∷ []) founds;
  left_so = h.left_so ∙ append_assoc a.left (r.1.server.table ∷ []) lefts;
  table = h.table;
  others_so = h.others_so ∙ drop_first (length founds) a.others;
}
