-- Numbers in groups, a group at a time.
use Rattle.std.proofs.Common.{◌≡◌, ◌+◌, ◌-◌, ◌*◌, ◌<◌, ◌≤◌, ℕ, zero, suc, ◌^◌, Bool, ◌&&◌, ◌||◌, List, [], ◌∷◌, length, take, drop, slice_index_or, Ok, Err, refl, sym, ap, subst, ◌∙◌, arith, cond, nat_lt, nat_eq, inl, inr, true, false}
use Rattle.std.proofs.Math.Seq.{take-length}
use Rattle.std.proofs.Math.Nat.{add-mul, mul_assoc, mul-le-mul_left}
use Rattle.std.proofs.lemmas.Nat.{mul-add-lt}
use Rattle.std.proofs.lemmas.Bool.{le-ltb, lt-ltb, ltb-true}
use Rattle.std.proofs.lemmas.Bool.Decides.{eqb_tells}
use Rattle.std.proofs.lemmas.Grind.{common_steps}
use Rattle.rb_wire_fields.specs.Endings.{may_end}
use Rattle.rb_meaning_bytes.specs.formats.Shorts.{Groups, read_groups, joined, limit}

abbrev read_as : ℕ → List ℕ → Groups
read_as n rest = Ok (n, rest)

-- a number with more groups to come
pub read_more : (last more b : ℕ) (rest : List ℕ) → 0 < more → read_groups last more (b ∷ rest) ≡ cond (nat_lt b 128) (Ok (b, rest)) (joined b (read_groups last (more - 1) rest))
read_more last zero b rest h = absurd (omega arith)
read_more last (suc k) b rest h = ap (λ m. cond (nat_lt b 128) (Ok (b, rest)) (joined b (read_groups last m rest))) (omega arith)

pub read_last : (last more b : ℕ) (rest : List ℕ) → more ≡ 0 → read_groups last more (b ∷ rest) ≡ cond (nat_lt b last) (Ok (b, rest)) (Err false)
read_last last zero b rest h = refl
read_last last (suc k) b rest h = absurd (omega arith)

pub read_none : (last more : ℕ) → read_groups last more [] ≡ Err true
read_none last zero = refl
read_none last (suc k) = refl

pub limit_more : (last more : ℕ) → 0 < more → limit last more ≡ 128 * limit last (more - 1)
limit_more last zero h = absurd (omega arith)
limit_more last (suc k) h = ap (λ m. 128 * limit last m) (omega arith)

pub limit_last : (last more : ℕ) → more ≡ 0 → limit last more ≡ last
limit_last last zero h = refl
limit_last last (suc k) h = absurd (omega arith)

limit_some : (last more : ℕ) → 0 < last → 0 < limit last more
limit_some last zero h = h
limit_some last (suc k) h = let m = limit_some last k h in omega arith

-- a number in one group
pub within_one : (last more b : ℕ) → 0 < last → 0 < more → b < 128 → b < limit last more
within_one last zero b h k l = absurd (omega arith)
within_one last (suc k) b h m l = let n = limit_some last k h in omega arith

-- Groups one by one: what is left of a number of which so much is known, where the next group counts so much.
abbrev pub lifted : ℕ → ℕ → Groups → Groups
lifted sum unit (Ok x) = cond (nat_eq unit 1) (read_as (x.0 * unit + sum) x.1) (cond (nat_eq x.0 0) (Err false) (read_as (x.0 * unit + sum) x.1))
lifted sum unit (Err e) = Err e

pub record SoFar (last more : ℕ) (bytes : List ℕ) (sum unit left : ℕ) (rest : List ℕ) : Type 0 where
  pub so : read_groups last more bytes ≡ lifted sum unit (read_groups last left rest)
  pub room : unit * limit last left ≡ limit last more
  pub small : sum < unit

lifted_none : (r : Groups) → r ≡ lifted 0 1 r
lifted_none (Ok x) = ap (λ n. read_as n x.1) (omega arith)
lifted_none (Err e) = refl

pub begins : (last more : ℕ) (bytes : List ℕ) → SoFar last more bytes 0 1 more bytes
begins last more bytes = record { so = lifted_none (read_groups last more bytes); room = omega arith; small = omega arith }

-- with one more group
unit_more : (unit : ℕ) → 0 < unit → nat_eq (unit * 128) 1 ≡ false
unit_more unit h =
    elim (eqb_tells (unit * 128) 1) [
      | inl z ↦ absurd (let d = z.1 in omega arith)
      | inr z ↦ z.0
    ]

spread : (unit a n sum : ℕ) → (a + 128 * n) * unit + sum ≡ n * (unit * 128) + (a * unit + sum)
spread unit a n sum =
    let d = add-mul a (128 * n) unit in
    let e : 128 * n * unit ≡ 128 * (n * unit) = mul_assoc 128 n unit in
    let f : n * unit * 128 ≡ n * (unit * 128) = mul_assoc n unit 128 in
    omega (arith, d, e, f)

-- a number that isn't 0
some_lifted : (sum unit n : ℕ) (rest : List ℕ) → nat_eq n 0 ≡ false → lifted sum unit (read_as n rest) ≡ read_as (n * unit + sum) rest
some_lifted sum unit n rest h =
    ap (λ v. cond (nat_eq unit 1) (read_as (n * unit + sum) rest) (cond v (Err false) (read_as (n * unit + sum) rest))) h
    ∙ either (nat_eq unit 1)
  where
    either : (v : Bool) → cond v (read_as (n * unit + sum) rest) (read_as (n * unit + sum) rest) ≡ read_as (n * unit + sum) rest
    either true = refl
    either false = refl

none_lifted : (sum unit n : ℕ) (rest : List ℕ) → nat_eq unit 1 ≡ false → nat_eq n 0 ≡ true → lifted sum unit (read_as n rest) ≡ Err false
none_lifted sum unit n rest h k =
    ap (λ v. cond v (read_as (n * unit + sum) rest) (cond (nat_eq n 0) (Err false) (read_as (n * unit + sum) rest))) h
    ∙ ap (λ v. cond v (Err false) (read_as (n * unit + sum) rest)) k

not_0 : (n : ℕ) → 0 < n → nat_eq n 0 ≡ false
not_0 n h =
    elim (eqb_tells n 0) [
      | inl z ↦ absurd (let d = z.1 in omega arith)
      | inr z ↦ z.0
    ]

lifted_more : (sum unit b : ℕ) (r : Groups) → 0 < unit → lifted sum unit (joined b r) ≡ lifted ((b - 128) * unit + sum) (unit * 128) r
lifted_more sum unit b (Err e) h = refl
lifted_more sum unit b (Ok x) h =
    elim (eqb_tells x.0 0) [
      | inl z ↦ ap (λ v. lifted sum unit (cond v (Err false) (read_as (b - 128 + 128 * x.0) x.1))) z.0
          ∙ sym (none_lifted ((b - 128) * unit + sum) (unit * 128) x.0 x.1 (unit_more unit h) z.0)
      | inr z ↦ ap (λ v. lifted sum unit (cond v (Err false) (read_as (b - 128 + 128 * x.0) x.1))) z.0
          ∙ some_lifted sum unit (b - 128 + 128 * x.0) x.1 (not_0 (b - 128 + 128 * x.0) (let d = z.1 in omega arith))
          ∙ ap (λ n. read_as n x.1) (spread unit (b - 128) x.0 sum)
          ∙ sym (some_lifted ((b - 128) * unit + sum) (unit * 128) x.0 x.1 z.0)
    ]

pub goes_on : {last more sum unit left : ℕ} {bytes rest : List ℕ} (b : ℕ) (tail : List ℕ) → SoFar last more bytes sum unit left rest → rest ≡ b ∷ tail → 0 < left → 128 ≤ b → b < 256
    → SoFar last more bytes ((b - 128) * unit + sum) (unit * 128) (left - 1) tail
goes_on {last = last} {more = more} {sum = sum} {unit = unit} {left = left} b tail s is h k l = record {
  so = s.so ∙ ap (λ xs. lifted sum unit (read_groups last left xs)) is
      ∙ ap (lifted sum unit) (read_more last left b tail h ∙ ap (λ v. cond v (read_as b tail) (joined b (read_groups last (left - 1) tail))) (le-ltb b 128 k))
      ∙ lifted_more sum unit b (read_groups last (left - 1) tail) (let m = s.small in omega arith);
  room = mul_assoc unit 128 (limit last (left - 1)) ∙ ap (λ n. unit * n) (sym (limit_more last left h)) ∙ s.room;
  small = mul-add-lt (b - 128) unit sum 128 (omega arith) s.small;
}

limit_two : (last more : ℕ) → 1 < last → 1 < limit last more
limit_two last zero h = h
limit_two last (suc k) h = let m = limit_two last k h in omega arith

-- what the next group counts has room
pub unit_fits : {last more sum unit left : ℕ} {bytes rest : List ℕ} → SoFar last more bytes sum unit left rest → 1 < last → limit last more ≤ 2 ^ 64 → 0 < left → unit * 128 < 2 ^ 64
unit_fits {last = last} {unit = unit} {left = left} s h k l =
    let e : unit * 128 * limit last (left - 1) ≡ limit last _ = mul_assoc unit 128 (limit last (left - 1)) ∙ ap (λ n. unit * n) (sym (limit_more last left l)) ∙ s.room in
    let d : unit * 128 * 2 ≤ unit * 128 * limit last (left - 1) = mul-le-mul_left (unit * 128) (limit_two last (left - 1) h) in
    omega (arith, e, d, k)

-- where it ends
pub cut_so : {last more sum unit left : ℕ} {bytes rest : List ℕ} → SoFar last more bytes sum unit left rest → rest ≡ [] → read_groups last more bytes ≡ Err true
cut_so {last = last} {sum = sum} {unit = unit} {left = left} s is = s.so ∙ ap (λ xs. lifted sum unit (read_groups last left xs)) is ∙ ap (lifted sum unit) (read_none last left)

pub wrong_so : {last more sum unit left : ℕ} {bytes rest : List ℕ} (b : ℕ) (tail : List ℕ) → SoFar last more bytes sum unit left rest → rest ≡ b ∷ tail → left ≡ 0 → last ≤ b → read_groups last more bytes ≡ Err false
wrong_so {last = last} {sum = sum} {unit = unit} {left = left} b tail s is h k =
    s.so ∙ ap (λ xs. lifted sum unit (read_groups last left xs)) is
    ∙ ap (lifted sum unit) (read_last last left b tail h ∙ ap (λ v. cond v (read_as b tail) (Err false)) (le-ltb b last k))

end_read : (last left b : ℕ) (tail : List ℕ) → b < 128 → read_groups last left (b ∷ tail) ≡ cond (nat_lt 0 left || nat_lt b last) (read_as b tail) (Err false)
end_read last zero b tail h = refl
end_read last (suc k) b tail h =
    ap (λ v. cond v (read_as b tail) (joined b (read_groups last k tail))) (lt-ltb b 128 h)
    ∙ sym (ap (λ v. cond (v || nat_lt b last) (read_as b tail) (Err false)) (lt-ltb 0 (suc k) (omega arith)))

above_0 : (b : ℕ) → nat_lt 0 b ≡ cond (nat_eq b 0) false true
above_0 b =
    elim (eqb_tells b 0) [
      | inl z ↦ ap (λ n. nat_lt 0 n) z.1 ∙ sym (ap (λ v. cond v false true) z.0)
      | inr z ↦ lt-ltb 0 b (let d = z.1 in omega arith) ∙ sym (ap (λ v. cond v false true) z.0)
    ]

end_lifted : (v e z : Bool) (n : ℕ) (tail : List ℕ) → cond v (cond e (read_as n tail) (cond z (Err false) (read_as n tail))) (Err false) ≡ cond (v && (e || cond z false true)) (read_as n tail) (Err false)
end_lifted false e z n tail = refl
end_lifted true true z n tail = refl
end_lifted true false true n tail = refl
end_lifted true false false n tail = refl

lifted_if : (v : Bool) (sum unit b : ℕ) (tail : List ℕ) → lifted sum unit (cond v (read_as b tail) (Err false)) ≡ cond v (lifted sum unit (read_as b tail)) (Err false)
lifted_if true sum unit b tail = refl
lifted_if false sum unit b tail = refl

pub end_so : {last more sum unit left : ℕ} {bytes rest : List ℕ} (b : ℕ) (tail : List ℕ) → SoFar last more bytes sum unit left rest → rest ≡ b ∷ tail → b < 128
    → read_groups last more bytes ≡ cond (may_end last left unit b) (read_as (b * unit + sum) tail) (Err false)
end_so {last = last} {sum = sum} {unit = unit} {left = left} b tail s is h =
    s.so ∙ ap (λ xs. lifted sum unit (read_groups last left xs)) is
    ∙ ap (lifted sum unit) (end_read last left b tail h)
    ∙ lifted_if (nat_lt 0 left || nat_lt b last) sum unit b tail
    ∙ end_lifted (nat_lt 0 left || nat_lt b last) (nat_eq unit 1) (nat_eq b 0) (b * unit + sum) tail
    ∙ sym (ap (λ v. cond ((nat_lt 0 left || nat_lt b last) && (nat_eq unit 1 || v)) (read_as (b * unit + sum) tail) (Err false)) (above_0 b))

-- a number that ends is below the limit
first_of_two : (v w : Bool) → (v && w) ≡ true → v ≡ true
first_of_two true w h = refl
first_of_two false w h = absurd (cc h)

end_within : (last left b : ℕ) → 1 < last → b < 128 → (nat_lt 0 left || nat_lt b last) ≡ true → b < limit last left
end_within last zero b h k e = ltb-true b last e
end_within last (suc j) b h k e = within_one last (suc j) b (omega arith) (omega arith) k

pub end_below : {last more sum unit left : ℕ} {bytes rest : List ℕ} (b : ℕ) → SoFar last more bytes sum unit left rest → 1 < last → b < 128 → may_end last left unit b ≡ true → b * unit + sum < limit last more
end_below {last = last} {sum = sum} {unit = unit} {left = left} b s h k e =
    subst (λ n. b * unit + sum < n) s.room (mul-add-lt b unit sum (limit last left) (end_within last left b h k (first_of_two (nat_lt 0 left || nat_lt b last) _ e)) s.small)

-- what the branch makes of it
pub ended : {v w : Bool} (g h : Groups) → v ≡ w → cond v g h ≡ cond w g h
ended g h e = ap (λ v. cond v g h) e

-- bytes that are there, and none
pub parted : (rest : List ℕ) → 1 ≤ length rest → rest ≡ slice_index_or rest 0 0 ∷ take (length rest - 1) (drop 1 rest)
parted [] h = absurd (omega arith)
parted (b ∷ t) h = ap (λ ts. b ∷ ts) (sym (ap (λ n. take n t) (omega arith) ∙ take-length t))

pub no_bytes : (rest : List ℕ) → length rest < 1 → rest ≡ []
no_bytes [] h = refl
no_bytes (b ∷ t) h = absurd (omega arith)

pub ruleset reading = (read_more, read_last, read_none, limit_more, limit_last, common_steps)
