-- What a search for some bytes finds.
use Rattle.std.specs.Prelude.{◌↔◌, IsTrue, Option, Some, None}
use Rattle.std.specs.Option.{is_some}
use Rattle.std.proofs.Common.{ℕ, List, refl, arith}
use Rattle.std.proofs.lemmas.Bool.{false≢true}
use Rattle.memchr.specs.Find.{FindsNeedle, OccursAt}

-- something is found exactly where the bytes stand somewhere
pub found : (text bytes : List ℕ) (result : Option ℕ) → FindsNeedle text bytes 0 result → IsTrue (is_some result) ↔ ((at : ℕ) × OccursAt text bytes at)
found text bytes None nowhere =
    (λ no. absurd (false≢true no), λ has. absurd (nowhere has.0 (omega arith) (omega (arith, has.1.fits)) has.1))
found text bytes (Some at) first = (λ yes. (at, first.1), λ has. refl)
