-- What a sink tells while pieces are written one after the other.
use Rattle.std.proofs.Common.{◌≡◌, ℕ, ◌+◌, List, [], ◌++◌, Option, None, Some, length, take, ap, sym, ◌∙◌, refl, arith, append_assoc, append-nil, length-append}
use Rattle.std.proofs.Math.Seq.{take-append-add}
use Rattle.std.proofs.lemmas.List.{take-append-le}
use Rattle.rb_base.specs.Devices.{Device, failed}
use Rattle.rb_base.specs.Sinks.{told_more, with_bytes, WrotePrefix}

told_twice : (old : Option (List ℕ)) (a b : List ℕ) → told_more (told_more old a) b ≡ told_more old (a ++ b)
told_twice None a b = refl
told_twice (Some written) a b = ap Some (append_assoc written a b)

told_none : (old : Option (List ℕ)) → told_more old [] ≡ old
told_none None = refl
told_none (Some written) = ap Some (append-nil written)

pub bytes_twice : (old : Device (List ℕ)) (a b : List ℕ) → with_bytes (with_bytes old a) b ≡ with_bytes old (a ++ b)
bytes_twice old a b = ap (λ t. record old { told = t }) (told_twice old.told a b)

pub bytes_none : (old : Device (List ℕ)) → with_bytes old [] ≡ old
bytes_none old = ap (λ t. record old { told = t }) (told_none old.told)

-- two pieces were written whole
pub both_whole : (old mid new : Device (List ℕ)) (a b : List ℕ) → mid ≡ with_bytes old a → new ≡ with_bytes mid b → new ≡ with_bytes old (a ++ b)
both_whole old mid new a b e f = f ∙ ap (λ m. with_bytes m b) e ∙ bytes_twice old a b

-- a front of a piece is a front of a longer one
pub prefix_front : (old new : Device (List ℕ)) (a b : List ℕ) → WrotePrefix old new a → WrotePrefix old new (a ++ b)
prefix_front old new a b w = record {
  count = w.count;
  within = let h = w.within in omega (arith, length-append a b);
  is = w.is ∙ ap (with_bytes old) (sym (take-append-le w.count a b w.within));
}

-- a front of what follows a whole piece
pub prefix_after : (old mid new : Device (List ℕ)) (a b : List ℕ) → mid ≡ with_bytes old a → WrotePrefix mid new b → WrotePrefix old new (a ++ b)
prefix_after old mid new a b e w = record {
  count = length a + w.count;
  within = let h = w.within in omega (arith, length-append a b);
  is = w.is ∙ ap (λ m. with_bytes m (take w.count b)) e ∙ bytes_twice old a (take w.count b) ∙ ap (with_bytes old) (sym (take-append-add a b w.count));
}

-- a write failed in a piece behind a whole one
pub fails_next : (old mid new : Device (List ℕ)) (a b : List ℕ) → mid ≡ with_bytes old a → WrotePrefix (failed mid) new b → WrotePrefix (failed old) new (a ++ b)
fails_next old mid new a b e w = prefix_after (failed old) (failed mid) new a b (ap failed e) w
