-- What a Dial tells, and what its calls do to that.
use Rattle.std.specs.Prelude.{◌≡◌, ◌==◌, ◌<◌, ℕ, zero, suc, ◌+◌, ◌-◌, List, [], ◌∷◌, ◌++◌, true, false, Option, None, Some, option_map, Result, Ok, Err, cond}
use Rattle.std.specs.List.{list_any}
use Rattle.rb_base.specs.Counts.{risen}
use Rattle.rb_base.specs.declared.links.Link as links
use Rattle.rb_session.specs.MemoryLinks.{LinkInMemory, told_of, IsHonest}
use Rattle.rb_session.specs.Targets.{first_under, without_first}
use Rattle.rb_session.specs.declared.targets.Target.{Target}
use Rattle.rb_session.specs.declared.dials.DialStop.{DialStop}
use Rattle.rb_session.specs.declared.dials.DialStop.TheVariants.{Failed, Memory}

-- The links that wait to be dialled, each under its target; the number of dials so far, and the numbers of the dials that fail,
-- from 1; how many links are out; and the links that came back, in order, each as it was then.
pub record Dialling (L : Type 0) : Type 0 where
  pub waiting : List (Target × L)
  pub made : ℕ
  pub failing : List ℕ
  pub out : ℕ
  pub back : List L

-- the link that the next dial of a target takes: none where the dial is listed, or no link waits there
abbrev pub next_link : {L : Type 0} → Dialling L → Target → Option L
next_link d t = cond (list_any (λ n. n == risen d.made) d.failing) None (first_under t d.waiting)

-- a Dial as its trait's members see it: what it tells, where it tells anything; how many dials failed; and how many of the
-- links that came back were broken
pub record DialSeen (L : Type 0) : Type 0 where
  pub told : Option (Dialling L)
  pub faults : ℕ
  pub broken : ℕ

abbrev pub seen : {D L : Type 0} → (D → Option (Dialling L)) → (D → ℕ) → (D → ℕ) → D → DialSeen L
seen told faults broken d = record { told = told d; faults = faults d; broken = broken d }

-- A dial gives the link that waits there first, and fails where there is none to be had, as far as the Dial tells.
abbrev pub TakesNext : {L : Type 0} → Target → Result L DialStop → Option (Dialling L) → Type 0
TakesNext t answer None = Unit {0}
TakesNext t (Ok link) (Some d) = next_link d t ≡ Some link
TakesNext t (Err Failed) (Some d) = next_link d t ≡ None
TakesNext t (Err Memory) (Some d) = Unit {0}

-- what is told after a dial that was answered so
abbrev pub told_after_dial : {L : Type 0} → Target → Result L DialStop → Dialling L → Dialling L
told_after_dial t (Ok link) d = record d { waiting = without_first t d.waiting; made = risen d.made; out = d.out + 1 }
told_after_dial t (Err stop) d = record d { made = risen d.made }

-- the count of faults after a dial: it rises exactly where the answer is Failed
abbrev pub faults_after_dial : {L : Type 0} → Result L DialStop → ℕ → ℕ
faults_after_dial (Err Failed) n = risen n
faults_after_dial _ n = n

-- the Dial after a dial that was answered so
abbrev pub after_dial : {L : Type 0} → Target → Result L DialStop → DialSeen L → DialSeen L
after_dial t answer d = record d { told = option_map (told_after_dial t answer) d.told; faults = faults_after_dial answer d.faults }

-- A link that was just dialled: none of its exchanges failed, and it lends no table.
pub record IsDialled {L : Type 0} (g : links.Ghosts L) (link : L) : Type 0 where
  pub whole : g.faults link ≡ 0
  pub lends_none : g.lends link ≡ false

-- A link goes on as a link in memory does: it tells what that one tells, none of its exchanges failed, it lends its table, it is
-- quiet, and it is honest where that one is.
pub record GoesOn {L : Type 0} (g : links.Ghosts L) (inner : LinkInMemory) (link : L) : Type 0 where
  pub told : g.told link ≡ Some (told_of inner)
  pub whole : g.faults link ≡ 0
  pub lends_its : g.lends link ≡ true
  pub quiet : g.quiet link
  pub honest : IsHonest inner → g.honest link

-- one more link is out
abbrev pub one_more_out : {L : Type 0} → Dialling L → Dialling L
one_more_out d = record d { out = d.out + 1 }

-- the Dial after a link in memory was taken as one of its own; after want of memory it is as it was
abbrev pub after_around : {L E : Type 0} → Result L E → DialSeen L → DialSeen L
after_around (Ok link) d = record d { told = option_map one_more_out d.told }
after_around (Err e) d = d

-- One link is out at least, as far as the Dial tells.
abbrev pub HasOneOut : {L : Type 0} → Option (Dialling L) → Type 0
HasOneOut None = Unit {0}
HasOneOut (Some d) = 0 < d.out

-- what is told after a link came back
abbrev pub told_after_back : {L : Type 0} → L → Dialling L → Dialling L
told_after_back link d = record d { out = d.out - 1; back = d.back ++ link ∷ [] }

-- the count of broken links after a link came back of which so many exchanges failed: it rises exactly where that isn't 0
abbrev pub broken_after : ℕ → ℕ → ℕ
broken_after zero n = n
broken_after (suc k) n = risen n

-- the Dial after a link came back
abbrev pub after_back : {L : Type 0} → links.Ghosts L → L → DialSeen L → DialSeen L
after_back g link d = record d { told = option_map (told_after_back link) d.told; broken = broken_after (g.faults link) d.broken }
