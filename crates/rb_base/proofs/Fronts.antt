-- A front of a piece is written, and the rest is to come.
use Rattle.std.proofs.Common.{◌≡◌, ℕ, ◌-◌, List, ◌++◌, length, take, drop, refl, ap, sym, ◌∙◌, append_assoc, take-append-drop, take_at, take_all, length-drop, arith, length-append}
use Rattle.rb_base.specs.Devices.{Device, failed}
use Rattle.rb_base.specs.Sinks.{with_bytes, WrotePrefix}
use Rattle.rb_base.proofs.Pieces.{bytes_twice}

-- What is told has grown by the front of the piece that stands before the rest.
pub record HasFront (old new : Device (List ℕ)) (piece rest : List ℕ) : Type 0 where
  pub front : List ℕ
  pub whole : piece ≡ front ++ rest
  pub is : new ≡ with_bytes old front

-- one more call that took some of the rest
pub HasFront-more : (old new newer : Device (List ℕ)) (piece rest : List ℕ) (count : ℕ) →
    HasFront old new piece rest → newer ≡ with_bytes new (take count rest) → HasFront old newer piece (take (length rest - count) (drop count rest))
HasFront-more old new newer piece rest count h is = record {
  front = h.front ++ take count rest;
  whole = h.whole ∙ ap (λ xs. h.front ++ xs) (sym (take-append-drop count rest)) ∙ sym (append_assoc h.front (take count rest) (drop count rest))
      ∙ ap (λ xs. (h.front ++ take count rest) ++ xs) (sym (take_all (length rest - count) (drop count rest) (omega (arith, length-drop count rest))));
  is = is ∙ ap (λ d. with_bytes d (take count rest)) h.is ∙ bytes_twice old h.front (take count rest);
}

-- one more call that failed
pub HasFront-stop : (old new newer : Device (List ℕ)) (piece rest : List ℕ) →
    HasFront old new piece rest → newer ≡ failed new → WrotePrefix (failed old) newer piece
HasFront-stop old new newer piece rest h same = record {
  count = length h.front;
  within = omega (arith, ap length h.whole, length-append h.front rest);
  is = same ∙ ap failed h.is ∙ ap (with_bytes (failed old)) (sym (ap (take (length h.front)) h.whole ∙ take_at h.front rest (length h.front) refl));
}
