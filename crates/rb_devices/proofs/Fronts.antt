-- A buffer that has grown begins with what it held before.
use Rattle.std.proofs.Common.{◌≡◌, ℕ, ◌+◌, ◌≤◌, List, ◌++◌, None, length, take, drop, refl, ap, sym, ◌∙◌, append_assoc, take-append-drop, take_at, take_all, length-append, arith}
use Rattle.std.specs.Io.{StartsWith}
use Rattle.rb_base.specs.Directories.{ReadsFile}

-- What is longer is its front and the rest.
front_and_rest : (old new : List ℕ) → StartsWith new old → new ≡ old ++ drop (length old) new
front_and_rest old new starts = sym (take-append-drop (length old) new) ∙ ap (λ xs. xs ++ drop (length old) new) starts

pub starts_further : (old new newer : List ℕ) → StartsWith new old → StartsWith newer new → StartsWith newer old
starts_further old new newer starts further =
    let whole = front_and_rest new newer further
    ∙ ap (λ xs. xs ++ drop (length new) newer) (front_and_rest old new starts)
    ∙ append_assoc old (drop (length old) new) (drop (length new) newer) in
    ap (take (length old)) whole ∙ take_at old (drop (length old) new ++ drop (length new) newer) (length old) refl

-- A file of the system that was read up to the limit: its bytes are those that were appended.
pub reads_file : (name : List ℕ) (limit : ℕ) (old new : List ℕ) → StartsWith new old → length new ≤ length old + (limit + 1) → ReadsFile None name limit old new
reads_file name limit old new starts bound =
    let rest = drop (length old) new in
    let whole = front_and_rest old new starts in
    (rest, tt, whole ∙ ap (λ xs. old ++ xs) (sym (take_all (limit + 1) rest (omega (arith, ap length whole, length-append old rest, bound)))))
