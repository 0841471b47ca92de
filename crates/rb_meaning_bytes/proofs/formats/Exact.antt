-- Reading a format gives its value where the bytes spell one, and else the first violation. Nothing here knows a message.
use Rattle.std.proofs.Common.{◌≡◌, ℕ, ◌+◌, ◌-◌, ◌≤◌, List, [], ◌∷◌, ◌++◌, length, Result, Ok, Err, refl, ap, sym, ◌∙◌, subst, arith, append_assoc, append-nil, length-append, ◌⊎◌, inl, inr}
use Rattle.rb_meaning_bytes.specs.formats.Fields.{Field, Of, spelled, Violates, wrong, cut, trailing}
use Rattle.rb_meaning_bytes.specs.formats.Formats.{Format, Done, Then, ◌>>=◌, Spells, done, more, Reaches, here, behind, FirstViolation, within, behind_all}
use Rattle.rb_meaning_bytes.specs.formats.Reading.{Fault, Read, on, look, read, on_all, read_all}
use Rattle.rb_meaning_bytes.proofs.formats.FieldLaws as fields
use Rattle.rb_meaning_bytes.specs.formats.Fields.{IsBytes}
use Rattle.rb_meaning_bytes.proofs.formats.FieldParts.{rest_bytes}

-- reading one format after another
pub bound : {A B : Type 0} (F : Format A) (k : A → Format B) (bytes : List ℕ) → read (F >>= k) bytes ≡ on (read F bytes) (λ a rest. read (k a) rest)
unfolding read
bound (Done a) k bytes = refl
bound (Then f next) k bytes = go (look f bytes) (λ x rest. bound (next x) k rest)
  where
    go : (r : Read (Of f)) → ((x : Of f) (rest : List ℕ) → read (next x >>= k) rest ≡ on (read (next x) rest) (λ a rest. read (k a) rest)) → on r (λ x rest. read (next x >>= k) rest) ≡ on (on r (λ x rest. read (next x) rest)) (λ a rest. read (k a) rest)
    go (Ok x) h = h x.0 x.1
    go (Err e) h = refl

-- what reading takes from the front
pub record Takes {A : Type 0} (F : Format A) (bytes : List ℕ) (x : A × List ℕ) : Type 0 where
  pub front : List ℕ
  pub is : bytes ≡ front ++ x.1
  pub spells : Spells F front x.0
  pub rest_fits : IsBytes x.1

pub takes : {A : Type 0} (F : Format A) (bytes : List ℕ) (x : A × List ℕ) → IsBytes bytes → read F bytes ≡ Ok x → Takes F bytes x
unfolding read
takes (Done a) bytes x b e =
    let i : (a, bytes) ≡ x = cc in
    subst (λ y. Takes (Done a) bytes y) i (record { front = []; is = refl; spells = done a; rest_fits = b })
takes (Then f next) bytes x b e = go (look f bytes) refl e (λ v rest. takes (next v) rest x)
  where
    go : (r : Read (Of f)) → look f bytes ≡ r → on r (λ v rest. read (next v) rest) ≡ Ok x → ((v : Of f) (rest : List ℕ) → IsBytes rest → read (next v) rest ≡ Ok x → Takes (next v) rest x) → Takes (Then f next) bytes x
    go (Ok v) i h k =
        let t = fields.took f bytes v b i in
        let s = k v.0 v.1 t.rest_fits h in
        record {
          front = spelled f v.0 ++ s.front;
          is = t.is ∙ ap (λ l. spelled f v.0 ++ l) s.is ∙ sym (append_assoc (spelled f v.0) s.front x.1);
          spells = more v.0 t.fits s.spells;
          rest_fits = s.rest_fits;
        }
    go (Err y) i h k = absurd cc

-- what is spelled is read, whatever follows
pub reads : {A : Type 0} (F : Format A) (front : List ℕ) (a : A) (rest : List ℕ) → Spells F front a → read F (front ++ rest) ≡ Ok (a, rest)
unfolding read
reads _ _ _ rest (done a) = refl
reads _ _ _ rest (more {f = f} {next = next} {bytes = bytes} {a = a} x h s) =
    ap (read (Then f next)) (append_assoc (spelled f x) bytes rest)
    ∙ ap (λ r. on r (λ v rest. read (next v) rest)) (fields.again f x (bytes ++ rest) h)
    ∙ reads (next x) bytes a rest s

-- where reading stops
pub record Stops {A : Type 0} (F : Format A) (bytes : List ℕ) (e : Fault) : Type 0 where
  pub front : List ℕ
  pub rest : List ℕ
  pub field : Field
  pub is : bytes ≡ front ++ rest
  pub reaches : Reaches F front field
  pub violates : Violates field rest e.0 e.1

pub stops : {A : Type 0} (F : Format A) (bytes : List ℕ) (e : Fault) → IsBytes bytes → read F bytes ≡ Err e → Stops F bytes e
unfolding read
stops (Done a) bytes e b h = absurd cc
stops (Then f next) bytes e b h = go (look f bytes) refl h (λ v rest. stops (next v) rest e)
  where
    go : (r : Read (Of f)) → look f bytes ≡ r → on r (λ v rest. read (next v) rest) ≡ Err e → ((v : Of f) (rest : List ℕ) → IsBytes rest → read (next v) rest ≡ Err e → Stops (next v) rest e) → Stops (Then f next) bytes e
    go (Ok v) i h k =
        let t = fields.took f bytes v b i in
        let s = k v.0 v.1 t.rest_fits h in
        record {
          front = spelled f v.0 ++ s.front;
          rest = s.rest;
          field = s.field;
          is = t.is ∙ ap (λ l. spelled f v.0 ++ l) s.is ∙ sym (append_assoc (spelled f v.0) s.front s.rest);
          reaches = behind v.0 t.fits s.reaches;
          violates = s.violates;
        }
    go (Err y) i h k =
        let j : y ≡ e = cc in
        record { front = []; rest = bytes; field = f; is = refl; reaches = here f next; violates = subst (λ z. Violates f bytes z.0 z.1) j (fields.wrongly f bytes y b i) }

-- reading stops at the field that is violated
pub stopped : {A : Type 0} (F : Format A) (front rest : List ℕ) (f : Field) (number left : ℕ) → IsBytes rest → Reaches F front f → Violates f rest number left → read F (front ++ rest) ≡ Err (number, left)
unfolding read
stopped _ _ rest _ number left bb (here f next) v = ap (λ r. on r (λ x rest. read (next x) rest)) (fields.refused f rest number left bb v)
stopped _ _ rest g number left bb (behind {f = f} {next = next} {bytes = bytes} x h r) v =
    ap (read (Then f next)) (append_assoc (spelled f x) bytes rest)
    ∙ ap (λ r. on r (λ v rest. read (next v) rest)) (fields.again f x (bytes ++ rest) h)
    ∙ stopped (next x) bytes rest g number left bb r v

-- ---- payloads

abbrev fault : ℕ → ℕ → Fault
fault number left = (number, left)

abbrev and_rest : {A : Type 0} → A → List ℕ → A × List ℕ
and_rest a rest = (a, rest)

-- a payload that is read whole is spelled so
pub all_spells : {A : Type 0} (F : Format A) (payload : List ℕ) (a : A) → IsBytes payload → read_all F payload ≡ Ok a → Spells F payload a
unfolding read_all
all_spells F payload a b h = go (read F payload) refl h
  where
    go : (r : Read _) → read F payload ≡ r → on_all r ≡ Ok a → Spells F payload a
    go (Ok (x, [])) i k =
        let t = takes F payload (x, []) b i in
        let j : x ≡ a = cc in
        let same : payload ≡ t.front = t.is ∙ append-nil t.front in
        subst (λ l. Spells F l a) (sym same) (subst (λ y. Spells F t.front y) j t.spells)
    go (Ok (x, c ∷ rest)) i k = absurd cc
    go (Err e) i k = absurd cc

-- a payload that is spelled so is read whole
pub all_reads : {A : Type 0} (F : Format A) (payload : List ℕ) (a : A) → Spells F payload a → read_all F payload ≡ Ok a
unfolding read_all
all_reads F payload a s = ap on_all (ap (read F) (sym (append-nil payload)) ∙ reads F payload a [] s)

-- a payload that is refused has its first violation there
pub all_refused : {A : Type 0} (F : Format A) (payload : List ℕ) (number left at : ℕ) → IsBytes payload → read_all F payload ≡ Err (number, left) → at + left ≡ length payload → FirstViolation F payload number at
unfolding read_all
all_refused F payload number left at b h p = go (read F payload) refl h
  where
    go : (r : Read _) → read F payload ≡ r → on_all r ≡ Err (number, left) → FirstViolation F payload number at
    go (Ok (x, [])) i k = absurd cc
    go (Ok (x, c ∷ rest)) i k =
        let t = takes F payload (x, c ∷ rest) b i in
        let e : fault trailing (length (c ∷ rest)) ≡ fault number left = cc in
        let n : number ≡ trailing = sym (ap (λ z. z.0) e) in
        let l : length (c ∷ rest) ≡ left = ap (λ z. z.1) e in
        let whole : length payload ≡ length t.front + length (c ∷ rest) = ap (λ z. length z) t.is ∙ length-append t.front (c ∷ rest) in
        behind_all t.front (c ∷ rest) x t.is t.spells (omega arith) n (omega arith)
    go (Err e) i k =
        let s = stops F payload e b i in
        let j : e ≡ fault number left = cc in
        within s.front s.rest s.field left s.is s.reaches (subst (λ z. Violates s.field s.rest z.0 z.1) j s.violates) p

-- a payload with a first violation is refused there
pub all_violated : {A : Type 0} (F : Format A) (payload : List ℕ) (number at : ℕ) → IsBytes payload → FirstViolation F payload number at → (left : ℕ) × (read_all F payload ≡ Err (number, left)) × (at + left ≡ length payload)
unfolding read_all
all_violated F payload number at b (within front rest f left i r v p) = (left, ap on_all (ap (read F) i ∙ stopped F front rest f number left (rest_bytes payload front rest i b) r v), p)
all_violated F payload number at b (behind_all front [] a i s l n p) = absurd (omega (arith, simp (append-nil) at (ap (λ z. length z) i)))
all_violated F payload number at b (behind_all front (c ∷ rest) a i s l n p) =
    let whole : length payload ≡ length front + length (c ∷ rest) = ap (λ z. length z) i ∙ length-append front (c ∷ rest) in
    (length (c ∷ rest), ap on_all (ap (read F) i ∙ reads F front a (c ∷ rest) s) ∙ ap (λ k. Err (k, length (c ∷ rest))) (sym n), omega arith)

-- ---- laws

-- no spelling is a proper prefix of another, and no two values have one
pub record Same {A : Type 0} (xs ys : List ℕ) (a b : A) : Type 0 where
  pub bytes : xs ≡ ys
  pub value : a ≡ b

same_front : (x y c : List ℕ) → x ++ c ≡ y ++ c → x ≡ y
same_front [] [] c h = refl
same_front [] (b ∷ y) c h = absurd (omega (arith, simp length-append at (ap length h)))
same_front (a ∷ x) [] c h = absurd (omega (arith, simp length-append at (ap length h)))
same_front (a ∷ x) (b ∷ y) c h = let e = same_front x y c (cc) in cc

pub prefix_free : {A : Type 0} (F : Format A) (xs ys us vs : List ℕ) (a b : A) → Spells F xs a → Spells F ys b → xs ++ us ≡ ys ++ vs → Same xs ys a b
prefix_free F xs ys us vs a b s t h =
    let e = sym (reads F xs a us s) ∙ ap (read F) h ∙ reads F ys b vs t in
    let p : and_rest a us ≡ and_rest b vs = cc in
    let r : us ≡ vs = ap (λ z. z.1) p in
    record { bytes = same_front xs ys us (h ∙ ap (λ l. ys ++ l) (sym r)); value = ap (λ z. z.0) p }

violated_within : (f : Field) (rest : List ℕ) (number left : ℕ) → Violates f rest number left → left ≤ length rest
violated_within f rest _ _ (wrong w) = omega arith
violated_within f rest _ _ (cut h w) = omega arith

pub left_within : {A : Type 0} (F : Format A) (payload : List ℕ) (number left : ℕ) → IsBytes payload → read_all F payload ≡ Err (number, left) → left ≤ length payload
unfolding read_all
left_within F payload number left b h = go (read F payload) refl h
  where
    go : (r : Read _) → read F payload ≡ r → on_all r ≡ Err (number, left) → left ≤ length payload
    go (Ok (x, [])) i k = absurd cc
    go (Ok (x, c ∷ rest)) i k =
        let t = takes F payload (x, c ∷ rest) b i in
        let e : fault trailing (length (c ∷ rest)) ≡ fault number left = cc in
        let l : length (c ∷ rest) ≡ left = ap (λ z. z.1) e in
        let whole : length payload ≡ length t.front + length (c ∷ rest) = ap (λ z. length z) t.is ∙ length-append t.front (c ∷ rest) in
        omega arith
    go (Err e) i k =
        let s = stops F payload e b i in
        let j : e ≡ fault number left = cc in
        let v = violated_within s.field s.rest e.0 e.1 s.violates in
        let whole : length payload ≡ length s.front + length s.rest = ap (λ z. length z) s.is ∙ length-append s.front s.rest in
        let l : e.1 ≡ left = ap (λ z. z.1) j in
        omega arith

-- ---- a payload has one outcome

pub read_once : {A : Type 0} (F : Format A) (payload : List ℕ) (a x : A) → read_all F payload ≡ Ok a → Spells F payload x → a ≡ x
read_once F payload a x h s = let k = all_reads F payload x s in cc

pub read_not_refused : {A : Type 0} (F : Format A) (payload : List ℕ) (a : A) (number at : ℕ) → IsBytes payload → read_all F payload ≡ Ok a → FirstViolation F payload number at → ⊥
read_not_refused F payload a number at b h v = let k = (all_violated F payload number at b v).1 in absurd cc

pub refused_not_read : {A : Type 0} (F : Format A) (payload : List ℕ) (e : Fault) (x : A) → read_all F payload ≡ Err e → Spells F payload x → ⊥
refused_not_read F payload e x h s = let k = all_reads F payload x s in absurd cc

pub refused_once : {A : Type 0} (F : Format A) (payload : List ℕ) (number left n at : ℕ) → IsBytes payload → read_all F payload ≡ Err (number, left) → FirstViolation F payload n at → (number ≡ n) × (length payload - left ≡ at)
refused_once F payload number left n at b h v =
    let w = all_violated F payload n at b v in
    let k = w.1 in
    let p = w.2 in
    let e : fault number left ≡ fault n w.0 = cc in
    let l : left ≡ w.0 = ap (λ z. z.1) e in
    (ap (λ z. z.0) e, omega arith)

-- a list of bytes is a spelling, or has a first violation
pub one_or_the_other : {A : Type 0} (F : Format A) (payload : List ℕ) → IsBytes payload → ((x : A) × Spells F payload x) ⊎ ((number : ℕ) × (at : ℕ) × FirstViolation F payload number at)
one_or_the_other F payload b = go (read_all F payload) refl
  where
    go : (r : Result _ Fault) → read_all F payload ≡ r → ((x : _) × Spells F payload x) ⊎ ((number : ℕ) × (at : ℕ) × FirstViolation F payload number at)
    go (Ok x) i = inl (x, all_spells F payload x b i)
    go (Err e) i =
        let l = left_within F payload e.0 e.1 b i in
        inr (e.0, length payload - e.1, all_refused F payload e.0 e.1 (length payload - e.1) b i (omega arith))
