-- What one read leaves in the buffer.
use Rattle.std.proofs.Common.{◌≡◌, ◌≤◌, ◌+◌, ◌-◌, ap, sym, ◌∙◌, ℕ, List, ◌++◌, length, take, drop, append_assoc, arith, length-append, length-drop}
use Rattle.std.specs.Prelude.{min, replicate}
use Rattle.std.proofs.lemmas.List.{take-append-le, take_at, take-take, length-take, length-replicate}
use Rattle.std.proofs.Math.Seq.{take-append-add}
use Rattle.rb_base.specs.Devices.{Device}
use Rattle.rb_base.specs.Sources.{before_giving}
use Rattle.rb_session.specs.Receiving.{GainsPiece}

-- the bytes that were read stand behind the old ones
front : (old into rest : List ℕ) (count : ℕ) → count ≤ length into → take (length old + count) (old ++ (into ++ rest)) ≡ old ++ take count into
front old into rest count within = take-append-add old (into ++ rest) count ∙ ap (λ xs. old ++ xs) (take-append-le count into rest within)

-- what the buffer keeps: the old bytes and a front of what was read into the room behind them
kept : (old full into rest tail zeros : List ℕ) (len count : ℕ) → len ≡ length old → full ≡ old ++ zeros → count ≤ length into → len + count ≤ length full
    → take (len + count) (take (length full) ((take len full ++ (into ++ rest)) ++ tail)) ≡ old ++ take count into
kept old full into rest tail zeros len count is made within fits =
    take-take (len + count) (length full) ((take len full ++ (into ++ rest)) ++ tail) fits
    ∙ ap (λ xs. take (len + count) ((xs ++ (into ++ rest)) ++ tail)) (ap (take len) made ∙ take_at old zeros len (sym is))
    ∙ ap (take (len + count)) (append_assoc old (into ++ rest) tail ∙ ap (λ xs. old ++ xs) (append_assoc into rest tail))
    ∙ ap (λ n. take (n + count) (old ++ (into ++ (rest ++ tail)))) is
    ∙ front old into (rest ++ tail) count within

pub gains : (most count len more : ℕ) (old new full lent into rest tail : List ℕ) (before after : Device (List ℕ)) → len ≡ length old → more ≤ most
    → full ≡ old ++ replicate more 0 → lent ≡ full → length into ≡ length (take (length lent - len) (drop len lent)) → count ≤ length into
    → new ≡ take (len + count) (take (length full) ((take len lent ++ (into ++ rest)) ++ tail))
    → before ≡ before_giving (take count into) after → GainsPiece most count old new before after
gains most count len more old new full lent into rest tail before after is few made same asked within kept_so given =
    let size : length full ≡ length old + more = ap length made ∙ length-append old (replicate more 0) ∙ ap (λ n. length old + n) (length-replicate more 0) in
    let alike : length lent ≡ length full = ap length same in
    let part : length into ≡ min (length lent - len) (length lent - len) =
    asked ∙ length-take (length lent - len) (drop len lent) ∙ ap (min (length lent - len)) (length-drop len lent) in
    record {
      bytes = take count into;
      is = kept_so ∙ ap (λ xs. take (len + count) (take (length full) ((take len xs ++ (into ++ rest)) ++ tail))) same
          ∙ kept old full into rest tail (replicate more 0) len count is made within (omega arith);
      given = given;
      counted = length-take count into ∙ omega arith;
      within = omega arith;
    }
