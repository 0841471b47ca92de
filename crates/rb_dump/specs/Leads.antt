-- What is found while bytes are shown.
use Rattle.std.specs.Prelude.{ℕ, List, drop}
use Rattle.rb_dump.specs.declared.verdicts.Verdict.{Verdict}
use Rattle.rb_dump.specs.Pieces.{Shown}
use Rattle.rb_dump.specs.Verdicts.{first}

-- what may be told of the bytes that are left at an offset
abbrev pub Telling : Type 1
Telling = (at : ℕ) → List ℕ → Verdict → Type 0

-- Some bytes were shown, of which this was found: whatever is told of the others, the first of the two is told of all.
abbrev pub Leads : Telling → Shown → Shown → Verdict → Type 0
Leads Tells before after found = (later : Verdict) → Tells after.at (drop after.at after.bytes) later
    → Tells before.at (drop before.at before.bytes) (first found later)
