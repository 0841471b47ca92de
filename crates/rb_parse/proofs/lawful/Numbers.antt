-- What numbers of a text stand for has 64 bits.
use Rattle.std.proofs.Common.{◌≡◌, refl, ℕ, ◌<◌, ◌≤◌, ◌==◌, ltb, cond, Bool, true, false, pos, negsuc, neg_ℤ, List, arith, ltb-true, ltb-false}
use Rattle.std.specs.Int.{w64}
use Rattle.std.proofs.lemmas.Bool.{eqb-false}
use Rattle.std.proofs.lemmas.Int.{SFits-int_wrap}
use Rattle.rb_trees.specs.declared.tokens.Token.{Token}
use Rattle.rb_meaning_types.specs.Values.{IsInt}
use Rattle.rb_meaning_bytes.specs.grammar.Values.{count_of, number_of, minus_of}

int_by : (n : ℕ) (least : Bool) → (n == 9223372036854775808) ≡ least → n ≤ 9223372036854775808 → IsInt (cond least (negsuc 9223372036854775807) (pos n))
int_by n true e h = record { sfits = omega arith }
int_by n false e h = record { sfits = apart (ltb n 9223372036854775808) refl }
  where
    apart : (b : Bool) → ltb n 9223372036854775808 ≡ b → n < 9223372036854775808
    apart true k = ltb-true n 9223372036854775808 k
    apart false k = let i = ltb-false n 9223372036854775808 k in absurd (eqb-false n 9223372036854775808 e (omega (arith, i)))

pub number_is_int : (source : List ℕ) (t : Token) → IsInt (number_of source t)
number_is_int source t = int_by (count_of source t) (count_of source t == 9223372036854775808) refl (omega arith)

pub minus_is_int : (source : List ℕ) (t : Token) → IsInt (minus_of source t)
minus_is_int source t = SFits-int_wrap w64 (neg_ℤ (number_of source t))
