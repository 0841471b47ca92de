-- Links in memory of which chosen exchanges fail.
use Rattle.std.specs.Prelude.{◌≡◌, ℕ, List, true, false, Some, Result, Ok, Err}
use Rattle.rb_meaning.specs.Links.{Behind, Told}
use Rattle.rb_base.specs.declared.links.Reply.{Reply}
use Rattle.rb_base.specs.declared.links.LinkStop.{LinkStop}
use Rattle.rb_base.specs.declared.links.LinkStop.TheVariants.{Failed, Frame, Cut, Memory}
use Rattle.rb_base.specs.Counts.{risen}
use Rattle.rb_base.specs.Links.{fails_next}
use Rattle.rb_exec.specs.Hosted.{Hosted}
use Rattle.rb_session.specs.MemoryLinks.{LinkInMemory, behind, new_link, Answered, Spends}

-- such a link: the link that it passes exchanges on to, the number of exchanges so far, the numbers of those that fail,
-- from 1, and how many failed
pub record FailingInMemory : Type 0 where
  pub link : LinkInMemory
  pub made : ℕ
  pub failing : List ℕ
  pub faults : ℕ

-- nothing exchanged yet
abbrev pub new_failing : Hosted → List ℕ → FailingInMemory
new_failing h failing = record { link = new_link h; made = 0; failing = failing; faults = 0 }

-- what stands behind the link
abbrev pub behind_failing : FailingInMemory → Behind
behind_failing l = record (behind l.link) { made = l.made; failing = l.failing }

abbrev pub told_of_failing : FailingInMemory → Told
told_of_failing l = record { pairs = l.link.pairs; server = Some (behind_failing l) }

-- the link after an exchange that was passed on, and left this of the link below
abbrev pub after_passed : FailingInMemory → LinkInMemory → FailingInMemory
after_passed l link = record l { link = link; made = risen l.made }

-- the link after an exchange that failed
abbrev pub after_fault : FailingInMemory → FailingInMemory
after_fault l = record l { made = risen l.made; faults = risen l.faults }

-- An exchange that isn't listed: it is passed on, and answered.
pub record Passes (request : List ℕ) (before : FailingInMemory) (reply : Reply) (after : FailingInMemory) : Type 0 where
  pub unlisted : fails_next (behind_failing before) ≡ false
  pub answered : Answered request before.link reply after.link
  pub is : after ≡ after_passed before after.link

-- An exchange that is listed: it counts a fault, and does nothing else. The link wasn't spent.
pub record Loses (before after : FailingInMemory) : Type 0 where
  pub listed : fails_next (behind_failing before) ≡ true
  pub fresh : before.link.spent ≡ false
  pub is : after ≡ after_fault before

-- An exchange that was wanting memory: it is spent from then on, and one that was spent before doesn't change.
pub record SpendsToo (before after : FailingInMemory) : Type 0 where
  pub spends : Spends before.link after.link
  pub failing : after.failing ≡ before.failing
  pub faults : after.faults ≡ before.faults
  pub unchanged : before.link.spent ≡ true → after ≡ before

-- No other answer is given.
abbrev pub ExchangesUnlessListed : List ℕ → FailingInMemory → Result Reply LinkStop → FailingInMemory → Type 0
ExchangesUnlessListed request before (Ok reply) after = Passes request before reply after
ExchangesUnlessListed request before (Err Memory) after = SpendsToo before after
ExchangesUnlessListed request before (Err Failed) after = Loses before after
ExchangesUnlessListed request before (Err (Frame at bytes)) after = ⊥
ExchangesUnlessListed request before (Err (Cut got bytes)) after = ⊥
