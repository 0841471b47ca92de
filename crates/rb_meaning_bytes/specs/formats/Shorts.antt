-- Numbers in groups of seven bits, the lowest first, with the high bit set in all groups but the last. The last group is 0
-- only where it stands alone.
use Rattle.std.specs.Prelude.{◌≡◌, ◌+◌, ◌-◌, ◌*◌, ◌/◌, ◌%◌, ◌<◌, ◌⊎◌, ℕ, zero, suc, ℤ, pos, negsuc, List, [], ◌∷◌, ◌++◌, Bool, true, false, cond, nat_eq, nat_lt, Result, Ok, Err}

-- a number in at most so many groups and one
abbrev pub groups : ℕ → ℕ → List ℕ
groups zero n = n ∷ []
groups (suc k) n = cond (nat_lt n 128) (n ∷ []) ((128 + n % 128) ∷ groups k (n / 128))

-- the numbers below this have so many groups and one, the last group below `last`
abbrev pub limit : ℕ → ℕ → ℕ
limit last zero = last
limit last (suc k) = 128 * limit last k

-- five groups, the last below 16: numbers below 2 ^ 32
unfoldable pub short : ℕ → List ℕ
short n = groups 4 n

-- a signed number as one without a sign: 0, -1, 1, -2, 2 and on as 0, 1, 2, 3, 4
abbrev pub folded : ℤ → ℕ
folded (pos n) = 2 * n
folded (negsuc n) = 2 * n + 1

abbrev pub unfolded : ℕ → ℤ
unfolded n = cond (nat_eq (n % 2) 0) (pos (n / 2)) (negsuc (n / 2))

-- ten groups, the last below 2: signed numbers of 64 bits
unfoldable pub zig : ℤ → List ℕ
zig z = groups 9 (folded z)

-- one of the lists begins with the other
abbrev pub Together : List ℕ → List ℕ → Type 0
Together xs ys = ((more : List ℕ) × (xs ++ more ≡ ys)) ⊎ ((more : List ℕ) × (ys ++ more ≡ xs))

-- What may be wrong: no number begins with these bytes, and these bytes begin with no number.
abbrev pub NoShort : ℕ → ℕ → List ℕ → Type 0
NoShort last k bytes = (n : ℕ) → n < limit last k → ¬ Together bytes (groups k n)

-- how many bytes a number takes, as far as they tell
abbrev pub needed : List ℕ → ℕ
needed [] = 1
needed (b ∷ rest) = cond (nat_lt b 128) 1 (suc (needed rest))

-- the number at the front of the bytes, as far as they tell
abbrev pub grouped : List ℕ → ℕ
grouped [] = 0
grouped (b ∷ rest) = cond (nat_lt b 128) b (b - 128 + 128 * grouped rest)

-- ---- reading: the number and the bytes behind it; Err true where bytes lack, Err false where something is wrong

abbrev pub Groups : Type 0
Groups = Result (ℕ × List ℕ) Bool

abbrev pub joined : ℕ → Groups → Groups
joined b (Ok x) = cond (nat_eq x.0 0) (Err false) (Ok (b - 128 + 128 * x.0, x.1))
joined b (Err e) = Err e

abbrev pub read_groups : ℕ → ℕ → List ℕ → Groups
read_groups last zero [] = Err true
read_groups last zero (b ∷ rest) = cond (nat_lt b last) (Ok (b, rest)) (Err false)
read_groups last (suc k) [] = Err true
read_groups last (suc k) (b ∷ rest) = cond (nat_lt b 128) (Ok (b, rest)) (joined b (read_groups last k rest))
