-- Reading behind a pool a step at a time, as code does: so many in a loop.
use Rattle.std.proofs.Common.{◌≡◌, ℕ, suc, ◌+◌, ◌-◌, ◌<◌, ◌≤◌, List, [], ◌∷◌, ◌++◌, Ok, Err, refl, ap, sym, ◌∙◌, arith, append_assoc, append-nil}
use Rattle.rb_meaning_bytes.specs.formats.Formats as plain
use Rattle.rb_meaning_bytes.specs.formats.Formats.{Done}
use Rattle.rb_meaning_bytes.specs.formats.Reading.{Fault, Read, on, read}
use Rattle.rb_meaning_bytes.specs.formats.Staged.{Used, Staged, times}
use Rattle.rb_meaning_bytes.proofs.formats.Exact.{bound}
use Rattle.rb_meaning_bytes.proofs.formats.Steps.{more_left}
use Rattle.rb_wire_fields.proofs.Equations.{map_more}

abbrev pub used_so : {A : Type 0} → A → ℕ → Used A
used_so a used = (a, used)

-- what was read before, and what is still read
abbrev pub with_front : {A : Type 0} → List A → Read (Used (List A)) → Read (Used (List A))
with_front front r = on r (λ xs rest. Ok (used_so (front ++ xs.0) xs.1, rest))

pub one_more : {A : Type 0} (n : ℕ) (F : Staged A) (used : ℕ) (bytes : List ℕ)
    → read (times (suc n) F used) bytes ≡ on (read (F used) bytes) (λ x rest. on (read (times n F x.1) rest) (λ xs rest. Ok (used_so (x.0 ∷ xs.0) xs.1, rest)))
unfolding times read
one_more n F used bytes = bound (F used) (λ x. plain.◌>>=◌ (times n F x.1) (λ xs. Done (used_so (x.0 ∷ xs.0) xs.1))) bytes ∙ go (read (F used) bytes)
  where
    go : (r : Read (Used _)) → on r (λ x rest. read (plain.◌>>=◌ (times n F x.1) (λ xs. Done (used_so (x.0 ∷ xs.0) xs.1))) rest)
        ≡ on r (λ x rest. on (read (times n F x.1) rest) (λ xs rest. Ok (used_so (x.0 ∷ xs.0) xs.1, rest)))
    go (Ok y) = bound (times n F y.0.1) (λ xs. Done (used_so (y.0.0 ∷ xs.0) xs.1)) y.1
    go (Err e) = refl

regroup : {A : Type 0} (front : List A) (x : A) (r : Read (Used (List A))) → with_front front (on r (λ xs rest. Ok (used_so (x ∷ xs.0) xs.1, rest))) ≡ with_front (front ++ x ∷ []) r
regroup front x (Ok y) = ap (λ xs. Ok (used_so xs y.0.1, y.1)) (sym (append_assoc front (x ∷ []) y.0.0))
regroup front x (Err e) = refl

pub goes_on : {A : Type 0} (F : Staged A) (front : List A) (count i used : ℕ) (bytes : List ℕ) (x : A) (then : ℕ) (after : List ℕ) (total : Read (Used (List A)))
    → i < count → read (F used) bytes ≡ Ok (used_so x then, after)
    → with_front front (read (times (count - i) F used) bytes) ≡ total → with_front (front ++ x ∷ []) (read (times (count - (i + 1)) F then) after) ≡ total
goes_on F front count i used bytes x then after total lt h so_far =
    let k = more_left count i lt in
    let one : read (times (count - i) F used) bytes ≡ on (read (times (count - (i + 1)) F then) after) (λ xs rest. Ok (used_so (x ∷ xs.0) xs.1, rest)) =
    ap (λ m. read (times m F used) bytes) k ∙ one_more (count - (i + 1)) F used bytes
    ∙ ap (λ r. on r (λ y rest. on (read (times (count - (i + 1)) F y.1) rest) (λ xs rest. Ok (used_so (y.0 ∷ xs.0) xs.1, rest)))) h in
    sym (ap (with_front front) one ∙ regroup front x (read (times (count - (i + 1)) F then) after)) ∙ so_far

pub ends : {A : Type 0} (F : Staged A) (front : List A) (count i used : ℕ) (bytes : List ℕ) (e : Fault) (total : Read (Used (List A))) → i < count → read (F used) bytes ≡ Err e
    → with_front front (read (times (count - i) F used) bytes) ≡ total → total ≡ Err e
ends F front count i used bytes e total lt h so_far =
    let k = more_left count i lt in
    let one : read (times (count - i) F used) bytes ≡ Err e = ap (λ m. read (times m F used) bytes) k ∙ one_more (count - (i + 1)) F used bytes
    ∙ ap (λ r. on r (λ y rest. on (read (times (count - (i + 1)) F y.1) rest) (λ xs rest. Ok (used_so (y.0 ∷ xs.0) xs.1, rest)))) h in
    sym so_far ∙ ap (with_front front) one

pub is_done : {A : Type 0} (F : Staged A) (front : List A) (count i used : ℕ) (bytes : List ℕ) (total : Read (Used (List A)))
    → count ≤ i → with_front front (read (times (count - i) F used) bytes) ≡ total → total ≡ Ok (used_so front used, bytes)
unfolding times read
is_done F front count i used bytes total le so_far =
    let k : count - i ≡ 0 = omega arith in
    sym so_far ∙ ap (λ m. with_front front (read (times m F used) bytes)) k ∙ ap (λ xs. Ok (used_so xs used, bytes)) (append-nil front)

pub ruleset lists = (goes_on, ends, is_done, map_more)
