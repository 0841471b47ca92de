-- What a write makes of the bytes.
use Rattle.std.proofs.Common.{◌≡◌, ℕ, ◌+◌, ◌-◌, ◌≤◌, min, List, [], ◌∷◌, ◌++◌, length, take, drop, refl, sym, ◌∙◌, ap, arith, append_assoc, length-append, length-drop, length-take}
use Rattle.std.specs.Prelude.{replicate}
use Rattle.std.proofs.lemmas.List.{take_at, drop_at, drop-drop, take_min, length-replicate}
use Rattle.rb_disk.specs.Images.{put, Torn, Call, wrote, tore, synced, looked, read_after, IsImage}

torn_none : (at n : ℕ) (old : List ℕ) → Torn at n old old
torn_none at n old = record { no_shorter = omega arith; no_longer = omega arith; before = take_min at old; behind = refl }

-- a write as it reads is one of the ways in which a crash may tear it
pub put_torn : (at n : ℕ) (bytes old : List ℕ) → length bytes ≤ n → Torn at n old (put at bytes old)
put_torn at n [] old le = torn_none at n old
put_torn at n (b ∷ bytes) old le =
    let size : ℕ = length (b ∷ bytes) in
    let gap : List ℕ = replicate (at - length old) 0 in
    let front = take at old ++ gap in
    let back = drop (at + size) old in
    let new = front ++ (b ∷ bytes) ++ back in
    let front_size : length front ≡ at = omega (arith, length-append (take at old) gap, length-take at old, length-replicate {A = ℕ} (at - length old) 0) in
    let written_size : length (front ++ (b ∷ bytes)) ≡ at + size = omega (arith, length-append front (b ∷ bytes), front_size) in
    let new_size : length new ≡ at + size + (length old - (at + size)) = omega (arith, length-append (front ++ (b ∷ bytes)) back, written_size, length-drop (at + size) old) in
    let split : new ≡ take at old ++ (gap ++ (b ∷ bytes) ++ back) =
    ap (λ (l : List ℕ). l ++ back) (append_assoc (take at old) gap (b ∷ bytes)) ∙ append_assoc (take at old) (gap ++ (b ∷ bytes)) back in
    let sum : at + size + (n - size) ≡ at + n = omega arith in
    record {
      no_shorter = omega (arith, new_size);
      no_longer = omega (arith, new_size);
      before = ap (λ (l : List ℕ). take (min at (length old)) l) split ∙ take_at (take at old) (gap ++ (b ∷ bytes) ++ back) (min at (length old)) (length-take at old);
      behind =
          sym (ap (λ (k : ℕ). drop k new) sum)
          ∙ sym (drop-drop (n - size) (at + size) new)
          ∙ ap (λ (l : List ℕ). drop (n - size) l) (drop_at (front ++ (b ∷ bytes)) back (at + size) written_size)
          ∙ drop-drop (n - size) (at + size) old
          ∙ ap (λ (k : ℕ). drop k old) sum;
    }

-- a disk as it reads is one of its images
pub read_is_image : (first : List ℕ) (calls : List Call) → IsImage first calls (read_after first calls)
read_is_image first [] = refl
read_is_image first (wrote at bytes ∷ calls) = (read_after first calls, read_is_image first calls, put_torn at (length bytes) bytes (read_after first calls) (omega arith))
read_is_image first (tore at n shown ∷ calls) = (read_after first calls, read_is_image first calls, put_torn at n (take n shown) (read_after first calls) (omega (arith, length-take n shown)))
read_is_image first (synced ∷ calls) = refl
read_is_image first (looked ∷ calls) = read_is_image first calls
