-- What isn't listed is passed on.
use Rattle.std.proofs.Common.{◌≡◌, refl, ap, sym, ◌∙◌, subst, List, ℕ}
use Rattle.std.specs.Prelude.{◌==◌, false, Result, Ok, Err}
use Rattle.std.specs.List.{list_any}
use Rattle.rb_base.specs.Counts.{risen}
use Rattle.rb_base.specs.declared.links.Reply.{Reply}
use Rattle.rb_base.specs.declared.links.LinkStop.{LinkStop}
use Rattle.rb_base.specs.declared.links.LinkStop.TheVariants.{Failed, Frame, Cut, Memory}
use Rattle.rb_base.specs.Links.{fails_next}
use Rattle.rb_session.specs.MemoryLinks.{LinkInMemory, Exchanges}
use Rattle.rb_session.specs.FailingLinks.{FailingInMemory, behind_failing, after_passed, ExchangesUnlessListed}

passed_so : (request : List ℕ) (before : FailingInMemory) (answer : Result Reply LinkStop) (link : LinkInMemory)
    → before.link.spent ≡ false → fails_next (behind_failing before) ≡ false → Exchanges request before.link answer link
    → ExchangesUnlessListed request before answer (after_passed before link)
passed_so request before (Ok reply) link fresh unlisted h = record { unlisted = unlisted; answered = h; is = refl }
passed_so request before (Err Failed) link fresh unlisted h = absurd h
passed_so request before (Err (Frame at bytes)) link fresh unlisted h = absurd h
passed_so request before (Err (Cut got bytes)) link fresh unlisted h = absurd h
passed_so request before (Err Memory) link fresh unlisted h = record {
  spends = h;
  failing = refl;
  faults = refl;
  unchanged = λ spent. absurd (cc (fresh, spent));
}

pub passed_on : (request : List ℕ) (before : FailingInMemory) (answer : Result Reply LinkStop) (link : LinkInMemory) (made : ℕ)
    → made ≡ risen before.made → before.link.spent ≡ false → list_any (λ n. n == made) before.failing ≡ false → Exchanges request before.link answer link
    → ExchangesUnlessListed request before answer (record before { link = link; made = made })
passed_on request before answer link made is fresh unlisted h =
    subst (λ n. ExchangesUnlessListed request before answer (record before { link = link; made = n })) (sym is)
    (passed_so request before answer link fresh (ap (λ n. list_any (λ m. m == n) before.failing) (sym is) ∙ unlisted) h)
