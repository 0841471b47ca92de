-- What reading a payload as a whole gives is what the payload means, and nothing else is.
use Rattle.std.proofs.Common.{◌≡◌, ◌-◌, ℕ, List, length, Result, Ok, Err, ap, sym, ◌∙◌, arith}
use Rattle.rb_meaning_bytes.specs.formats.Fields.{IsBytes}
use Rattle.rb_meaning_bytes.specs.formats.Formats.{Format}
use Rattle.rb_meaning_bytes.specs.formats.Reading.{read_all}
use Rattle.rb_meaning_bytes.proofs.formats.Exact.{all_spells, all_refused, left_within, read_once, read_not_refused, refused_not_read, refused_once}
use Rattle.rb_wire_forest.specs.Payloads.{Means, Violation, spelled, violated}

pub read_means : {A : Type 0} (F : Format A) (payload : List ℕ) (a : A) → IsBytes payload → read_all F payload ≡ Ok a → Means F payload (Ok a)
read_means F payload a b h = spelled a (all_spells F payload a b h)

pub only_read : {A : Type 0} (F : Format A) (payload : List ℕ) (a : A) (meant : Result A Violation) → IsBytes payload → read_all F payload ≡ Ok a → Means F payload meant → meant ≡ Ok a
only_read F payload a _ b h (spelled x s) = ap Ok (sym (read_once F payload a x h s))
only_read F payload a _ b h (violated v w) = absurd (read_not_refused F payload a v.0 v.1 b h w)

pub refused_means : {A : Type 0} (F : Format A) (payload : List ℕ) (number left : ℕ) → IsBytes payload → read_all F payload ≡ Err (number, left) → Means F payload (Err (number, length payload - left))
refused_means F payload number left b h =
    let within = left_within F payload number left b h in
    violated (number, length payload - left) (all_refused F payload number left (length payload - left) b h (omega arith))

abbrev at_place : ℕ → ℕ → Violation
at_place number at = (number, at)

pub only_refused : {A : Type 0} (F : Format A) (payload : List ℕ) (number left : ℕ) (meant : Result A Violation) → IsBytes payload → read_all F payload ≡ Err (number, left) → Means F payload meant → meant ≡ Err (number, length payload - left)
only_refused F payload number left _ b h (spelled x s) = absurd (refused_not_read F payload (number, left) x h s)
only_refused F payload number left _ b h (violated v w) =
    let e = refused_once F payload number left v.0 v.1 b h w in
    let same : at_place v.0 v.1 ≡ at_place number (length payload - left) = ap (λ n. at_place n v.1) (sym e.0) ∙ ap (λ m. at_place number m) (sym e.1) in
    ap Err same
