-- Reading a number in groups gives the one that the bytes spell; else bytes lack, or no number is like them.
use Rattle.std.proofs.Common.{◌≡◌, ◌≢◌, ◌⊎◌, ℕ, ℤ, pos, negsuc, zero, suc, ◌+◌, ◌-◌, ◌*◌, ◌/◌, ◌%◌, ◌<◌, ◌≤◌, Bool, true, false, cond, ltb, nat_eq, List, [], ◌∷◌, ◌++◌, length, Ok, Err, refl, ap, sym, ◌∙◌, subst, arith, inl, inr, append_assoc, append-nil}
use Rattle.std.specs.Int.{w64}
use Rattle.std.specs.Int.RustNames.{FitsSigned}
use Rattle.std.proofs.lemmas.Bool.{cases_lt, ltb-true, ltb-false, le-ltb, lt-ltb, eq-eqb}
use Rattle.std.proofs.lemmas.Bool.Decides.{eqb_tells}
use Rattle.rb_meaning_bytes.specs.formats.Shorts.{groups, limit, folded, unfolded, NoShort, needed, grouped, Groups, joined, read_groups}
use Rattle.rb_meaning_bytes.specs.formats.Fields.{IsBytes}

some_limit : (last k : ℕ) → 0 < last → 0 < limit last k
some_limit last zero h = h
some_limit last (suc k) h = let i = some_limit last k h in omega arith

-- a number of one group; of more
one_group : (k n : ℕ) → n < 128 → groups (suc k) n ≡ n ∷ []
one_group k n h = ap (λ v. cond v (n ∷ []) ((128 + n % 128) ∷ groups k (n / 128))) (lt-ltb n 128 h)

more_groups : (k n : ℕ) → 128 ≤ n → groups (suc k) n ≡ (128 + n % 128) ∷ groups k (n / 128)
more_groups k n h = ap (λ v. cond v (n ∷ []) ((128 + n % 128) ∷ groups k (n / 128))) (le-ltb n 128 h)

abbrev read_as : ℕ → List ℕ → Groups
read_as n rest = Ok (n, rest)

abbrev bad : Groups
bad = Err false

abbrev pub the_pair : ℕ → List ℕ → ℕ × List ℕ
the_pair n rest = (n, rest)

pub record ShortTook (last k : ℕ) (bytes : List ℕ) (x : ℕ × List ℕ) : Type 0 where
  pub is : bytes ≡ groups k x.0 ++ x.1
  pub fits : x.0 < limit last k

-- what is read is spelled so
pub short_took : (last k : ℕ) (bytes : List ℕ) (x : ℕ × List ℕ) → 0 < last → last ≤ 128 → IsBytes bytes → read_groups last k bytes ≡ Ok x → ShortTook last k bytes x
short_took last zero [] x l m b e = absurd cc
short_took last zero (c ∷ rest) x l m b e = go (ltb c last) refl e
  where
    go : (v : Bool) → ltb c last ≡ v → cond v (Ok (c, rest)) (Err false) ≡ Ok x → ShortTook last zero (c ∷ rest) x
    go true i h = let j : the_pair c rest ≡ x = cc in subst (λ y. ShortTook last zero (c ∷ rest) y) j (record { is = refl; fits = ltb-true c last i })
    go false i h = absurd cc
short_took last (suc k) [] x l m b e = absurd cc
short_took last (suc k) (c ∷ rest) x l m b e = go (ltb c 128) refl e (λ y h. short_took last k rest y l m (λ i. b (suc i)) h)
  where
    within : (y : ℕ × List ℕ) → 128 ≤ c → 0 < y.0 → ShortTook last k rest y → ShortTook last (suc k) (c ∷ rest) (c - 128 + 128 * y.0, y.1)
    within y h p t =
        let f = b 0 in
        let g = t.fits in
        let low : 128 + (c - 128 + 128 * y.0) % 128 ≡ c = omega arith in
        let high : (c - 128 + 128 * y.0) / 128 ≡ y.0 = omega arith in
        let parts : groups (suc k) (c - 128 + 128 * y.0) ≡ c ∷ groups k y.0 =
        more_groups k (c - 128 + 128 * y.0) (omega arith) ∙ ap (λ w. w ∷ groups k ((c - 128 + 128 * y.0) / 128)) low ∙ ap (λ w. c ∷ groups k w) high in
        record { is = ap (λ w. c ∷ w) t.is ∙ ap (λ w. w ++ y.1) (sym parts); fits = omega arith }

    inner : (r : Groups) → 128 ≤ c → read_groups last k rest ≡ r → joined c r ≡ Ok x → ((y : ℕ × List ℕ) → read_groups last k rest ≡ Ok y → ShortTook last k rest y) → ShortTook last (suc k) (c ∷ rest) x
    inner (Ok y) h i j f =
        elim (eqb_tells y.0 0) [
          | inl z ↦ absurd (let w = ap (λ v. cond v bad (read_as (c - 128 + 128 * y.0) y.1)) z.0 in cc)
          | inr z ↦ let w = ap (λ v. cond v bad (read_as (c - 128 + 128 * y.0) y.1)) z.0 in
              let is : the_pair (c - 128 + 128 * y.0) y.1 ≡ x = cc in
              let d = z.1 in
              subst (λ q. ShortTook last (suc k) (c ∷ rest) q) is (within y h (omega arith) (f y i))
        ]
    inner (Err e) h i j f = absurd cc

    go : (v : Bool) → ltb c 128 ≡ v → cond v (Ok (c, rest)) (joined c (read_groups last k rest)) ≡ Ok x → ((y : ℕ × List ℕ) → read_groups last k rest ≡ Ok y → ShortTook last k rest y) → ShortTook last (suc k) (c ∷ rest) x
    go true i h f =
        let j : the_pair c rest ≡ x = cc in
        let s = some_limit last k l in
        let c-is = ltb-true c 128 i in
        subst (λ y. ShortTook last (suc k) (c ∷ rest) y) j (record { is = ap (λ w. w ++ rest) (sym (one_group k c c-is)); fits = omega arith })
    go false i h f = inner (read_groups last k rest) (ltb-false c 128 i) refl h f

-- what is spelled so is read
pub short_again : (last k n : ℕ) (rest : List ℕ) → n < limit last k → read_groups last k (groups k n ++ rest) ≡ Ok (n, rest)
short_again last zero n rest h = let t = lt-ltb n last h in rw t refl
short_again last (suc k) n rest h =
    elim (cases_lt n 128) [
      | inl l ↦ ap (λ w. read_groups last (suc k) (w ++ rest)) (one_group k n l) ∙ ap (λ v. cond v (read_as n rest) (joined n (read_groups last k rest))) (lt-ltb n 128 l)
      | inr g ↦
          let i = short_again last k (n / 128) rest (omega arith) in
          let big : ltb (128 + n % 128) 128 ≡ false = le-ltb _ _ (omega arith) in
          let whole : 128 + n % 128 - 128 + 128 * (n / 128) ≡ n = omega arith in
          let some : ((nat_eq (n / 128) 0 ≡ true) × (n / 128 ≡ 0)) ⊎ _ = eqb_tells (n / 128) 0 in
          ap (λ w. read_groups last (suc k) (w ++ rest)) (more_groups k n g)
          ∙ ap (λ v. cond v (read_as (128 + n % 128) (groups k (n / 128) ++ rest)) (joined (128 + n % 128) (read_groups last k (groups k (n / 128) ++ rest)))) big
          ∙ ap (joined (128 + n % 128)) i
          ∙ elim some [
            | inl z ↦ absurd (let q = z.1 in omega arith)
            | inr z ↦ ap (λ v. cond v bad (read_as (128 + n % 128 - 128 + 128 * (n / 128)) rest)) z.0 ∙ ap (λ w. read_as w rest) whole
          ]
    ]

-- ---- what isn't read

-- bytes that a short begins with
pub record ShortCut (last k : ℕ) (bytes : List ℕ) : Type 0 where
  pub number : ℕ
  pub some : 0 < number
  pub fits : number < limit last k
  pub more : List ℕ
  pub is : bytes ++ more ≡ groups k number
  pub short : length bytes < needed bytes

abbrev lacking : Groups
lacking = Err true

one_fits : (last k : ℕ) → 1 < last → 1 < limit last k
one_fits last zero h = h
one_fits last (suc k) h = let i = some_limit last k (omega arith) in omega arith

pub short_cut : (last k : ℕ) (bytes : List ℕ) → 1 < last → IsBytes bytes → read_groups last k bytes ≡ Err true → ShortCut last k bytes
short_cut last zero [] h b e = record { number = 1; some = omega arith; fits = h; more = 1 ∷ []; is = refl; short = omega arith }
short_cut last zero (c ∷ rest) h b e = go (ltb c last) e
  where
    go : (v : Bool) → cond v (read_as c rest) bad ≡ Err true → ShortCut last zero (c ∷ rest)
    go true i = absurd cc
    go false i = absurd cc
short_cut last (suc k) [] h b e = record { number = 1; some = omega arith; fits = one_fits last (suc k) h; more = 1 ∷ []; is = sym (one_group k 1 (omega arith)); short = omega arith }
short_cut last (suc k) (c ∷ rest) h b e = go (ltb c 128) refl e (λ i. short_cut last k rest h (λ j. b (suc j)) i)
  where
    within : 128 ≤ c → ShortCut last k rest → ShortCut last (suc k) (c ∷ rest)
    within g t =
        let f = b 0 in
        let p = t.some in
        let q = t.fits in
        let r = t.short in
        let low : 128 + (c - 128 + 128 * t.number) % 128 ≡ c = omega arith in
        let high : (c - 128 + 128 * t.number) / 128 ≡ t.number = omega arith in
        let parts : groups (suc k) (c - 128 + 128 * t.number) ≡ c ∷ groups k t.number =
        more_groups k (c - 128 + 128 * t.number) (omega arith) ∙ ap (λ w. w ∷ groups k ((c - 128 + 128 * t.number) / 128)) low ∙ ap (λ w. c ∷ groups k w) high in
        let need : needed (c ∷ rest) ≡ suc (needed rest) = ap (λ v. cond v 1 (suc (needed rest))) (le-ltb c 128 g) in
        record {
          number = c - 128 + 128 * t.number;
          some = omega arith;
          fits = omega arith;
          more = t.more;
          is = ap (λ w. c ∷ w) t.is ∙ sym parts;
          short = omega arith;
        }

    inner : (r : Groups) → 128 ≤ c → read_groups last k rest ≡ r → joined c r ≡ Err true → (read_groups last k rest ≡ Err true → ShortCut last k rest) → ShortCut last (suc k) (c ∷ rest)
    inner (Ok y) g i j f = zero_or (nat_eq y.0 0) j
      where
        zero_or : (v : Bool) → cond v bad (read_as (c - 128 + 128 * y.0) y.1) ≡ Err true → ShortCut last (suc k) (c ∷ rest)
        zero_or true q = absurd cc
        zero_or false q = absurd cc
    inner (Err true) g i j f = within g (f i)
    inner (Err false) g i j f = absurd cc

    go : (v : Bool) → ltb c 128 ≡ v → cond v (read_as c rest) (joined c (read_groups last k rest)) ≡ Err true → (read_groups last k rest ≡ Err true → ShortCut last k rest) → ShortCut last (suc k) (c ∷ rest)
    go true i j f = absurd cc
    go false i j f = inner (read_groups last k rest) (ltb-false c 128 i) refl j f

-- Where something is wrong, no short is like the bytes.
front_fine : (last k : ℕ) (bytes more : List ℕ) (n : ℕ) → 0 < last → last ≤ 128 → IsBytes bytes → n < limit last k → bytes ++ more ≡ groups k n → read_groups last k bytes ≡ Err false → ⊥
front_fine last zero [] more n l m b h s e = absurd cc
front_fine last zero (c ∷ rest) more n l m b h s e =
    let i : c ≡ n = cc in
    let t : ltb c last ≡ true = lt-ltb c last (omega arith) in
    let w = ap (λ v. cond v (read_as c rest) bad) t in
    absurd cc
front_fine last (suc k) [] more n l m b h s e = absurd cc
front_fine last (suc k) (c ∷ rest) more n l m b h s e =
    elim (cases_lt n 128) [
      | inl g ↦
          let q = s ∙ one_group k n g in
          let i : c ≡ n = cc in
          let t : ltb c 128 ≡ true = lt-ltb c 128 (omega arith) in
          let w = ap (λ v. cond v (read_as c rest) (joined c (read_groups last k rest))) t in
          absurd cc
      | inr g ↦
          let q = s ∙ more_groups k n g in
          let i : c ≡ 128 + n % 128 = cc in
          let j : rest ++ more ≡ groups k (n / 128) = cc in
          let t : ltb c 128 ≡ false = le-ltb c 128 (omega arith) in
          let w = ap (λ v. cond v (read_as c rest) (joined c (read_groups last k rest))) t in
          inner (read_groups last k rest) refl j g (sym w ∙ e) (λ f. front_fine last k rest more (n / 128) l m (λ x. b (suc x)) (omega arith) j f)
    ]
  where
    inner : (r : Groups) → read_groups last k rest ≡ r → rest ++ more ≡ groups k (n / 128) → 128 ≤ n → joined c r ≡ Err false → (read_groups last k rest ≡ Err false → ⊥) → ⊥
    inner (Ok y) i j g f a =
        let t = short_took last k rest y l m (λ x. b (suc x)) i in
        let there : groups k y.0 ++ (y.1 ++ more) ≡ groups k (n / 128) ++ [] = sym (append_assoc (groups k y.0) y.1 more) ∙ ap (λ w. w ++ more) (sym t.is) ∙ j ∙ sym (append-nil (groups k (n / 128))) in
        let u = sym (short_again last k y.0 (y.1 ++ more) t.fits) ∙ ap (read_groups last k) there ∙ short_again last k (n / 128) [] (omega arith) in
        let v : the_pair y.0 (y.1 ++ more) ≡ the_pair (n / 128) [] = cc in
        let z : y.0 ≡ n / 128 = ap (λ p. p.0) v in
        elim (eqb_tells y.0 0) [
          | inl x ↦ let x0 = x.1 in absurd (omega arith)
          | inr x ↦ let w = ap (λ v. cond v bad (read_as (c - 128 + 128 * y.0) y.1)) x.0 in absurd cc
        ]
    inner (Err true) i j g f a = absurd cc
    inner (Err false) i j g f a = a i

pub short_bad : (last k : ℕ) (bytes : List ℕ) → 0 < last → last ≤ 128 → IsBytes bytes → read_groups last k bytes ≡ Err false → NoShort last k bytes
short_bad last k bytes l m b e n h (inl t) = front_fine last k bytes t.0 n l m b h t.1 e
short_bad last k bytes l m b e n h (inr t) = let r = short_again last k n t.0 h in let s = ap (read_groups last k) t.1 in absurd cc

-- and the other way round
pub bad_short : (last k : ℕ) (bytes : List ℕ) → 1 < last → last ≤ 128 → IsBytes bytes → NoShort last k bytes → read_groups last k bytes ≡ Err false
bad_short last k bytes l m b none = go (read_groups last k bytes) refl
  where
    go : (r : Groups) → read_groups last k bytes ≡ r → r ≡ Err false
    go (Ok x) i = let t = short_took last k bytes x (omega arith) m b i in absurd (none x.0 t.fits (inr (x.1, sym t.is)))
    go (Err true) i = let t = short_cut last k bytes l b i in absurd (none t.number t.fits (inl (t.more, t.is)))
    go (Err false) i = refl

-- how many bytes are read, and which number, is what the bytes tell
pub record Told (bytes : List ℕ) (x : ℕ × List ℕ) : Type 0 where
  pub long : length bytes ≡ needed bytes + length x.1
  pub value : grouped bytes ≡ x.0

told_last : (c : ℕ) (rest : List ℕ) → c < 128 → Told (c ∷ rest) (c, rest)
told_last c rest h =
    let t : ltb c 128 ≡ true = lt-ltb c 128 h in
    let w = ap (λ v. cond v 1 (suc (needed rest))) t in
    record { long = omega arith; value = ap (λ v. cond v c (c - 128 + 128 * grouped rest)) t }

told_more : (c : ℕ) (rest : List ℕ) (y : ℕ × List ℕ) → ltb c 128 ≡ false → Told rest y → Told (c ∷ rest) (c - 128 + 128 * y.0, y.1)
told_more c rest y t h =
    let w = ap (λ v. cond v 1 (suc (needed rest))) t in
    let l = h.long in
    record { long = omega arith; value = ap (λ v. cond v c (c - 128 + 128 * grouped rest)) t ∙ ap (λ n. c - 128 + 128 * n) h.value }

pub told : (last k : ℕ) (bytes : List ℕ) (x : ℕ × List ℕ) → last ≤ 128 → read_groups last k bytes ≡ Ok x → Told bytes x
told last zero [] x m e = absurd cc
told last zero (c ∷ rest) x m e = go (ltb c last) refl e
  where
    go : (v : Bool) → ltb c last ≡ v → cond v (read_as c rest) bad ≡ Ok x → Told (c ∷ rest) x
    go true i j =
        let h = ltb-true c last i in
        let q : the_pair c rest ≡ x = cc in
        subst (λ z. Told (c ∷ rest) z) q (told_last c rest (omega arith))
    go false i j = absurd cc
told last (suc k) [] x m e = absurd cc
told last (suc k) (c ∷ rest) x m e = go (ltb c 128) refl e (λ y i. told last k rest y m i)
  where
    kept : (y : ℕ × List ℕ) (v : Bool) → ltb c 128 ≡ false → cond v bad (read_as (c - 128 + 128 * y.0) y.1) ≡ Ok x → Told rest y → Told (c ∷ rest) x
    kept y true t j h = absurd cc
    kept y false t j h = let q : the_pair (c - 128 + 128 * y.0) y.1 ≡ x = cc in subst (λ z. Told (c ∷ rest) z) q (told_more c rest y t h)

    inner : (r : Groups) → ltb c 128 ≡ false → read_groups last k rest ≡ r → joined c r ≡ Ok x → ((y : ℕ × List ℕ) → read_groups last k rest ≡ Ok y → Told rest y) → Told (c ∷ rest) x
    inner (Ok y) t i j f = kept y (nat_eq y.0 0) t j (f y i)
    inner (Err e) t i j f = absurd cc

    go : (v : Bool) → ltb c 128 ≡ v → cond v (read_as c rest) (joined c (read_groups last k rest)) ≡ Ok x → ((y : ℕ × List ℕ) → read_groups last k rest ≡ Ok y → Told rest y) → Told (c ∷ rest) x
    go true t j f = let q : the_pair c rest ≡ x = cc in subst (λ z. Told (c ∷ rest) z) q (told_last c rest (ltb-true c 128 t))
    go false t j f = inner (read_groups last k rest) t refl j f

pub lacks_short : (last k : ℕ) (bytes : List ℕ) → 1 < last → last ≤ 128 → IsBytes bytes → length bytes < needed bytes → ¬ NoShort last k bytes → read_groups last k bytes ≡ Err true
lacks_short last k bytes l m b short some = go (read_groups last k bytes) refl
  where
    go : (r : Groups) → read_groups last k bytes ≡ r → r ≡ Err true
    go (Ok x) i = let h = (told last k bytes x m i).long in absurd (omega arith)
    go (Err true) i = refl
    go (Err false) i = absurd (some (short_bad last k bytes (omega arith) m b i))

-- ---- signed numbers

pub folded_back : (z : ℤ) → unfolded (folded z) ≡ z
folded_back (pos n) =
    let e : (2 * n) % 2 ≡ 0 = omega arith in
    let h : (2 * n) / 2 ≡ n = omega arith in
    ap (λ v. cond v (pos ((2 * n) / 2)) (negsuc ((2 * n) / 2))) (eq-eqb _ _ e) ∙ ap pos h
folded_back (negsuc n) =
    let e : (2 * n + 1) % 2 ≡ 1 = omega arith in
    let h : (2 * n + 1) / 2 ≡ n = omega arith in
    ap (λ m. cond (nat_eq m 0) (pos ((2 * n + 1) / 2)) (negsuc ((2 * n + 1) / 2))) e ∙ ap negsuc h

pub unfolded_back : (n : ℕ) → folded (unfolded n) ≡ n
unfolded_back n = go (eqb_tells (n % 2) 0)
  where
    go : ((nat_eq (n % 2) 0 ≡ true) × (n % 2 ≡ 0)) ⊎ ((nat_eq (n % 2) 0 ≡ false) × (n % 2 ≢ 0)) → folded (unfolded n) ≡ n
    go (inl e) = let p = e.1 in ap (λ v. folded (cond v (pos (n / 2)) (negsuc (n / 2)))) e.0 ∙ omega arith
    go (inr e) = let p = e.1 in ap (λ v. folded (cond v (pos (n / 2)) (negsuc (n / 2)))) e.0 ∙ omega arith

pub folded_fits : (z : ℤ) → FitsSigned w64 z → folded z < limit 2 9
folded_fits (pos n) h = let f = h.sfits in omega arith
folded_fits (negsuc n) h = let f = h.sfits in omega arith

pub unfolded_fits : (n : ℕ) → n < limit 2 9 → FitsSigned w64 (unfolded n)
unfolded_fits n h = go (nat_eq (n % 2) 0)
  where
    go : (v : Bool) → FitsSigned w64 (cond v (pos (n / 2)) (negsuc (n / 2)))
    go true = record { sfits = omega arith }
    go false = record { sfits = omega arith }
