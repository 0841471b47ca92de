-- The Ints of literals, with their signs.
use Rattle.std.proofs.Common.{◌≡◌, ℕ, pos, negsuc, neg_ℤ, ◌==◌, ◌≤◌, suc, min, Bool, true, false, cond, refl, sym, ap, ◌∙◌, arith}
use Rattle.std.specs.Int.{int_wrap, w64}
use Rattle.std.proofs.lemmas.Int.{int_wrap_fits}
use Rattle.std.proofs.lemmas.Bool.Decides.{nat_tests}
use Rattle.rb_meaning_types.specs.Values.{IsInt}
use Rattle.rb_meaning_bytes.specs.tokens.Values.{int_of}

pub small : (n : ℕ) → IsInt (pos n) → n ≤ 9223372036854775807
small n h = omega (arith, h)

pub small_behind : (n : ℕ) → IsInt (negsuc n) → suc n ≤ 9223372036854775808
small_behind n h = omega (arith, h)

-- a number without a minus
pub of_number : (n : ℕ) → IsInt (pos n) → int_of (min n 9223372036854775808) ≡ pos n
of_number n h =
    let l = small n h in
    let m : min n 9223372036854775808 ≡ n = omega arith in
    let d : (n == 9223372036854775808) ≡ false = grind (arith, nat_tests) in
    rw (m, d) refl

least : int_wrap w64 (neg_ℤ (negsuc 9223372036854775807)) ≡ negsuc 9223372036854775807
unfolding int_wrap
least = refl

by_least : (n : ℕ) (b : Bool) → (suc n == 9223372036854775808) ≡ b → IsInt (negsuc n) → int_wrap w64 (neg_ℤ (cond b (negsuc 9223372036854775807) (pos (suc n)))) ≡ negsuc n
by_least n true e h = let same : n ≡ 9223372036854775807 = grind (arith, nat_tests) in least ∙ ap negsuc (sym same)
by_least n false e h = int_wrap_fits w64 (negsuc n) h

-- a number behind a minus
pub of_minus : (n : ℕ) → IsInt (negsuc n) → int_wrap w64 (neg_ℤ (int_of (min (suc n) 9223372036854775808))) ≡ negsuc n
of_minus n h =
    let l = small_behind n h in
    let m : min (suc n) 9223372036854775808 ≡ suc n = omega arith in
    ap (λ k. int_wrap w64 (neg_ℤ (int_of k))) m ∙ by_least n (suc n == 9223372036854775808) refl h
