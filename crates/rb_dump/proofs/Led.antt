-- What is found piece by piece.
use Rattle.std.proofs.Common.{◌≡◌, drop, refl, subst}
use Rattle.rb_dump.specs.declared.verdicts.Verdict.{Verdict}
use Rattle.rb_dump.specs.declared.verdicts.Verdict.TheVariants.{Whole, Refused, NoRefusal, TooLong, BadFrame, CutFrame, NoJournal, BadRecord}
use Rattle.rb_dump.specs.Leads.{Telling, Leads}
use Rattle.rb_dump.specs.Pieces.{Shown}
use Rattle.rb_dump.specs.Verdicts.{first}

first_first : (u v w : Verdict) → first u (first v w) ≡ first (first u v) w
first_first Whole v w = refl
first_first (Refused from number at) v w = refl
first_first (NoRefusal from) v w = refl
first_first (TooLong from) v w = refl
first_first (BadFrame at) v w = refl
first_first (CutFrame at) v w = refl
first_first NoJournal v w = refl
first_first (BadRecord at) v w = refl

pub first_whole : (v : Verdict) → first v Whole ≡ v
first_whole Whole = refl
first_whole (Refused from number at) = refl
first_whole (NoRefusal from) = refl
first_whole (TooLong from) = refl
first_whole (BadFrame at) = refl
first_whole (CutFrame at) = refl
first_whole NoJournal = refl
first_whole (BadRecord at) = refl

-- ---- what was found so far

pub none_yet : (Tells : Telling) (s : Shown) → Leads Tells s s Whole
none_yet Tells s later told = told

pub leads_on : (Tells : Telling) (before between after : Shown) (u v : Verdict) → Leads Tells before between u → Leads Tells between after v → Leads Tells before after (first u v)
leads_on Tells before between after u v h k later told =
    subst (λ w. Tells before.at (drop before.at before.bytes) w) (first_first u v later) (h (first v later) (k later told))
