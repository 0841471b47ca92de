-- What exchanges do to the server that a link tells, one after the other.
use Rattle.std.proofs.Common.{◌≡◌, ◌⊎◌, inl, inr, refl, sym, ap, ◌∙◌, subst, arith, ℕ, zero, suc, ◌<◌, List, [], ◌++◌, append_assoc, append-nil, true, false, ◌==◌}
use Rattle.std.specs.Prelude.{Option, None, Some}
use Rattle.std.specs.List.{AllByRecursion, list_any}
use Rattle.rb_trees.specs.declared.services.Object.{Object}
use Rattle.rb_trees.specs.mirror.Forests.{Node}
use Rattle.rb_trees.specs.mirror.Services.{Service}
use Rattle.rb_meaning_bytes.specs.formats.Messages.{Sent}
use Rattle.rb_meaning_types.specs.Fits.{TableFits}
use Rattle.rb_meaning.specs.Links.{Behind, TellsTyped}
use Rattle.rb_meaning.specs.Others.{FoundThrough, last_table}
use Rattle.rb_law_client.specs.Clients.{ScriptsGive}
use Rattle.rb_base.specs.Counts.{risen}
use Rattle.rb_base.specs.Links.{IsLater, fails_next}
use Rattle.rb_client.specs.Servers.{FailsAfter, HasServed, IsServer, NoneFails, Performed, PerformedAll, fails_after, later}
use Rattle.rb_client.specs.Serving.{Counts, CountsOne, IsLaterBy}
use Rattle.rb_client.proofs.Given.{all_on, alone_on, gives_on, last_on}

-- How many exchanges were made.

pub counts_none : (s : Option Behind) → Counts 0 s s
counts_none None = tt
counts_none (Some b) = record { made = refl; failing = refl; none = λ k l. absurd (omega (arith, l)) }

below_next : (k n : ℕ) → k < suc n → (k < n) ⊎ (k ≡ n)
below_next zero zero h = inr refl
below_next zero (suc n) h = inl (omega arith)
below_next (suc k) zero h = absurd (omega (arith, h))
below_next (suc k) (suc n) h = by (below_next k n (omega (arith, h)))
  where
    by : (k < n) ⊎ (k ≡ n) → (suc k < suc n) ⊎ (suc k ≡ suc n)
    by (inl l) = inl (omega (arith, l))
    by (inr e) = inr (ap suc e)

-- whether the next exchange fails, by how many were made
same_fails : (n : ℕ) (a b : Behind) → IsLaterBy n a b → fails_next b ≡ fails_after n a
same_fails n a b h = ap (λ m. list_any (λ x. x == risen m) b.failing) h.made ∙ ap (λ fs. list_any (λ x. x == risen (later n a).made) fs) h.failing

later_once : (n : ℕ) (a b c : Behind) → IsLaterBy n a b → fails_next b ≡ false → IsLater b c → IsLaterBy (suc n) a c
later_once n a b c h fails l = record {
  made = l.made ∙ ap risen h.made;
  failing = l.failing ∙ h.failing;
  none = λ k below. by k (below_next k n below);
}
  where
    by : (k : ℕ) → (k < n) ⊎ (k ≡ n) → fails_after k a ≡ false
    by k (inl below) = h.none k below
    by k (inr e) = ap (λ m. fails_after m a) e ∙ sym (same_fails n a b h) ∙ fails

pub counts_more : (n m : ℕ) (a b c : Option Behind) → suc n ≡ m → Counts n a b → CountsOne false b c → Counts m a c
counts_more n m a b c e h one = subst (λ k. Counts k a c) e (by a b c h one)
  where
    by : (a b c : Option Behind) → Counts n a b → CountsOne false b c → Counts (suc n) a c
    by (Some a) (Some b) (Some c) h one = later_once n a b c h one.0 one.1
    by (Some a) (Some b) None h one = absurd one
    by (Some a) None c h one = absurd h
    by None (Some b) c h one = absurd h
    by None None (Some c) h one = absurd one
    by None None None h one = tt

pub none_failed : (n : ℕ) (a b : Option Behind) → Counts n a b → NoneFails n a
none_failed n (Some a) (Some b) h = h.none
none_failed n (Some a) None h = absurd h
none_failed n None b h = tt

pub failed_after : (n : ℕ) (a b c : Option Behind) → Counts n a b → CountsOne true b c → FailsAfter n a
failed_after n (Some a) (Some b) (Some c) h one = sym (same_fails n a b h) ∙ one.0
failed_after n (Some a) (Some b) None h one = absurd one
failed_after n (Some a) None c h one = absurd h
failed_after n None b c h one = tt

-- What was performed.

-- what a server served, and then more
pub served_on : (a b c : Behind) (f g l m : List (List Object)) (t u : List Object) → HasServed a b f l t → HasServed b c g m u → HasServed a c (f ++ g) (l ++ m) u
served_on a b c f g l m t u h one = record {
  service = one.service ∙ h.service;
  found_so = one.found_so ∙ ap (λ fs. fs ++ g) h.found_so ∙ append_assoc a.found f g;
  left_so = one.left_so ∙ ap (λ ls. ls ++ m) h.left_so ∙ append_assoc a.left l m;
  table_so = one.table_so;
}

-- what the same server served, by equal words
pub served_as : (told : Option Behind) (b : Behind) (f g l m : List (List Object)) (t u : List Object) → f ≡ g → l ≡ m → t ≡ u → IsServer told b f l t → IsServer told b g m u
served_as told b f g l m t u found left table is =
    subst (λ x. IsServer told b x m u) found (subst (λ x. IsServer told b f x u) left (subst (IsServer told b f l) table is))

-- what it served, where nothing was noted since
pub served_still : (a b c : Behind) (f l : List (List Object)) (t u : List Object) → HasServed a b f l t → HasServed b c [] [] u → HasServed a c f l u
served_still a b c f l t u h one =
    subst (λ x. HasServed a c x l u) (append-nil f) (subst (λ x. HasServed a c (f ++ []) x u) (append-nil l) (served_on a b c f [] l [] t u h one))

pub served_none : (b : Behind) → HasServed b b [] [] b.table
served_none b = record { service = refl; found_so = sym (append-nil b.found); left_so = sym (append-nil b.left); table_so = refl }

pub performed_none : (quiet : Type 0) (s : Option Behind) → TellsTyped s → PerformedAll quiet s s [] []
performed_none quiet None h = absurd h
performed_none quiet (Some b) h = record { found = []; left = []; given = tt; fitting = tt; alone = λ q. tt; served = served_none b }

-- what was performed over a link that is quiet, of one that was quiet before
pub performed_before : (before now : Type 0) (a b : Option Behind) (sent : List Sent) (nodes : List Node) → (before → now) → PerformedAll now a b sent nodes → PerformedAll before a b sent nodes
performed_before before now (Some a) (Some b) sent nodes stays h =
    record { found = h.found; left = h.left; given = h.given; fitting = h.fitting; alone = λ quiet. h.alone (stays quiet); served = h.served }
performed_before before now (Some a) None sent nodes stays h = absurd h
performed_before before now None b sent nodes stays h = absurd h

on_same_service : (quiet : Type 0) (a b c : Behind) (sent more : List Sent) (nodes ms : List Node) → Performed quiet a b sent nodes → Performed quiet b c more ms → Performed quiet a c (sent ++ more) (nodes ++ ms)
on_same_service quiet a b c sent more nodes ms h one =
    let same = h.served.service in
    let fits = λ (s : Service). TableFits s.classes s.root in
    record {
      found = h.found ++ one.found;
      left = h.left ++ one.left;
      given = gives_on a.service h.found one.found sent more nodes ms h.left one.left h.given (subst (λ s. ScriptsGive s one.found more ms one.left) same one.given);
      fitting = all_on (fits a.service) h.found one.found h.fitting (subst (λ s. AllByRecursion (fits s) one.found) same one.fitting);
      alone = λ q. alone_on a.table h.found one.found h.left one.left (h.alone q) (subst (λ t. FoundThrough [] t one.found one.left) h.served.table_so (one.alone q));
      served = subst (HasServed a c (h.found ++ one.found) (h.left ++ one.left)) (ap (λ t. last_table t one.left) h.served.table_so ∙ sym (last_on a.table h.left one.left))
          (served_on a b c h.found one.found h.left one.left (last_table a.table h.left) (last_table b.table one.left) h.served one.served);
    }

pub performed_on : (quiet : Type 0) (a b c : Option Behind) (sent more : List Sent) (nodes ms : List Node) → PerformedAll quiet a b sent nodes → PerformedAll quiet b c more ms → PerformedAll quiet a c (sent ++ more) (nodes ++ ms)
performed_on quiet (Some a) (Some b) (Some c) sent more nodes ms h one = on_same_service quiet a b c sent more nodes ms h one
performed_on quiet (Some a) (Some b) None sent more nodes ms h one = absurd one
performed_on quiet (Some a) None c sent more nodes ms h one = absurd h
performed_on quiet None b c sent more nodes ms h one = absurd h

-- what a server performed since it stood so, where its link tells it then
pub record Served (quiet : Type 0) (b : Behind) (told : Option Behind) (sent : List Sent) (nodes : List Node) : Type 0 where
  pub found : List (List Object)
  pub left : List (List Object)
  pub given : ScriptsGive b.service found sent nodes left
  pub fitting : AllByRecursion (TableFits b.service.classes b.service.root) found
  pub alone : quiet → FoundThrough [] b.table found left
  pub is : IsServer told b found left (last_table b.table left)

pub served_of : (quiet : Type 0) (b : Behind) (told : Option Behind) (sent : List Sent) (nodes : List Node) → PerformedAll quiet (Some b) told sent nodes → Served quiet b told sent nodes
served_of quiet b (Some a) sent nodes h = record { found = h.found; left = h.left; given = h.given; fitting = h.fitting; alone = h.alone; is = h.served }
served_of quiet b None sent nodes h = absurd h
