-- How a text literal ends, by the function of the code and by the definition.
use Rattle.std.proofs.Common.{◌≡◌, ℕ, ◌+◌, Bool, true, false, eqb, List, [], ◌∷◌, ◌++◌, length, refl, sym, ap, subst, ◌∙◌, arith}
use Rattle.std.proofs.lemmas.Bool.Decides.{nat_tests}
use Rattle.rb_meaning_bytes.specs.tokens.Bytes.{makes_escape, is_escaped, is_plain}
use Rattle.rb_meaning_bytes.specs.tokens.Values.{unescaped}
use Rattle.rb_meaning_bytes.specs.tokens.Forms.{Body, empty, plain, escape}
use Rattle.rb_meaning_bytes.specs.tokens.Faults.{GoesOn, LineEnds}
use Rattle.rb_meaning_bytes.specs.tokens.Faults as go
use Rattle.rb_lex.specs.declared.literals.End.{End}
use Rattle.rb_lex.specs.declared.literals.End.TheVariants.{Closes, Breaks, Never}
use Rattle.rb_lex.specs.Ends.{later, broken, text_end}
use Rattle.rb_lex.proofs.Endings.{end_quote, end_line, end_plain, end_bad, end_escape, end_nothing}

-- a plain byte is no quote, no line feed and no backslash

abbrev pub IsApart : ℕ → Type 0
IsApart b = (eqb b 34 ≡ false) × (eqb b 10 ≡ false) × (eqb b 92 ≡ false)

pub plain_apart : (b : ℕ) → is_plain b ≡ true → IsApart b
unfolding is_plain
plain_apart b h = (grind (arith, nat_tests), grind (arith, nat_tests), grind (arith, nat_tests))

pub apart_plain : (b : ℕ) → eqb b 34 ≡ false → eqb b 10 ≡ false → eqb b 92 ≡ false → is_plain b ≡ true
unfolding is_plain
apart_plain b h g k = rw (h, g, k)

-- what the function says of a text

pub record Closed (text : List ℕ) (n size : ℕ) : Type 0 where
  pub body : List ℕ
  pub rest : List ℕ
  pub is : text ≡ body ++ 34 ∷ rest
  pub count : length body ≡ n
  pub good : Body body
  pub value : length (unescaped false text) ≡ size

pub record Broken (text : List ℕ) (n : ℕ) : Type 0 where
  pub body : List ℕ
  pub more : List ℕ
  pub rest : List ℕ
  pub is : text ≡ body ++ 92 ∷ more
  pub count : length body ≡ n
  pub good : Body body
  pub bad : makes_escape more ≡ false
  pub goes : GoesOn more (34 ∷ rest)

pub record Opened (text : List ℕ) : Type 0 where
  pub rest : List ℕ
  pub goes : GoesOn text rest
  pub ends : LineEnds rest

abbrev pub Ended : List ℕ → End → Type 0
Ended text (Closes n size) = Closed text n size
Ended text (Breaks n) = Broken text n
Ended text Never = Opened text

-- the value, byte by byte

value_plain : (b : ℕ) (bs : List ℕ) → IsApart b → length (unescaped false (b ∷ bs)) ≡ 1 + length (unescaped false bs)
value_plain b bs a = let h = a.0 in let g = a.2 in rw (h, g) (omega arith)

-- the steps

plain_step : (b : ℕ) (bs : List ℕ) (e : End) → IsApart b → is_plain b ≡ true → Ended bs e → Ended (b ∷ bs) (later 1 1 e)
plain_step b bs (Closes n size) a p c =
    record { body = b ∷ c.body; rest = c.rest; is = ap (λ l. b ∷ l) c.is; count = (let h = c.count in omega arith); good = plain b p c.good; value = value_plain b bs a ∙ ap (λ k. 1 + k) c.value }
plain_step b bs (Breaks n) a p c =
    record { body = b ∷ c.body; more = c.more; rest = c.rest; is = ap (λ l. b ∷ l) c.is; count = (let h = c.count in omega arith); good = plain b p c.good; bad = c.bad; goes = c.goes }
plain_step b bs Never a p c = record { rest = c.rest; goes = go.plain b p c.goes; ends = c.ends }

escape_step : (b : ℕ) (bs : List ℕ) (e : End) → is_escaped b ≡ true → Ended bs e → Ended (92 ∷ b ∷ bs) (later 1 1 (later 1 0 e))
escape_step b bs (Closes n size) p c =
    record { body = 92 ∷ b ∷ c.body; rest = c.rest; is = ap (λ l. 92 ∷ b ∷ l) c.is; count = (let h = c.count in omega arith); good = escape b p c.good; value = (let h = c.value in omega arith) }
escape_step b bs (Breaks n) p c =
    record { body = 92 ∷ b ∷ c.body; more = c.more; rest = c.rest; is = ap (λ l. 92 ∷ b ∷ l) c.is; count = (let h = c.count in omega arith); good = escape b p c.good; bad = c.bad; goes = c.goes }
escape_step b bs Never p c = record { rest = c.rest; goes = go.escape b p c.goes; ends = c.ends }

pub body_goes : {body : List ℕ} (rest : List ℕ) → Body body → GoesOn (body ++ rest) rest
body_goes rest empty = go.here
body_goes rest (plain b p d) = go.plain b p (body_goes rest d)
body_goes rest (escape b p d) = go.escape b p (body_goes rest d)

pub goes_and : {text more : List ℕ} (rest : List ℕ) → GoesOn text more → GoesOn more rest → GoesOn text rest
goes_and rest go.here g = g
goes_and rest (go.plain b p f) g = go.plain b p (goes_and rest f g)
goes_and rest (go.escape b p f) g = go.escape b p (goes_and rest f g)
goes_and rest (go.bad p f) g = go.bad p (goes_and rest f g)

bad_step : (bs : List ℕ) (e : End) → makes_escape bs ≡ false → Ended bs e → Ended (92 ∷ bs) (broken (later 1 1 e))
bad_step bs (Closes n size) p c =
    record { body = []; more = bs; rest = c.rest; is = refl; count = refl; good = empty; bad = p; goes = subst (λ l. GoesOn l (34 ∷ c.rest)) (sym c.is) (body_goes (34 ∷ c.rest) c.good) }
bad_step bs (Breaks n) p c =
    record {
      body = [];
      more = bs;
      rest = c.rest;
      is = refl;
      count = refl;
      good = empty;
      bad = p;
      goes = subst (λ l. GoesOn l (34 ∷ c.rest)) (sym c.is) (goes_and (34 ∷ c.rest) (body_goes (92 ∷ c.more) c.good) (go.bad c.bad c.goes));
    }
bad_step bs Never p c = record { rest = c.rest; goes = go.bad p c.goes; ends = c.ends }

-- what is known behind the next byte, where that is escaped
abbrev Behind : List ℕ → Type 0
Behind [] = Unit {0}
Behind (b ∷ bs) = Ended bs (text_end false bs)

escaped_step : (bs : List ℕ) → makes_escape bs ≡ true → Behind bs → Ended (92 ∷ bs) (text_end false (92 ∷ bs))
escaped_step [] p c = cc
escaped_step (b ∷ bs) p c = subst (Ended (92 ∷ b ∷ bs)) (sym (end_escape b bs p)) (escape_step b bs (text_end false bs) p c)

backslash_step : (bs : List ℕ) (p : Bool) → makes_escape bs ≡ p → Ended bs (text_end false bs) → Behind bs → Ended (92 ∷ bs) (text_end false (92 ∷ bs))
backslash_step bs true p c d = escaped_step bs p d
backslash_step bs false p c d = subst (Ended (92 ∷ bs)) (sym (end_bad bs p)) (bad_step bs (text_end false bs) p c)

eqb_is : (a b : ℕ) → eqb a b ≡ true → a ≡ b
eqb_is a b h = grind (arith, nat_tests)

step_by : (b : ℕ) (bs : List ℕ) (q l k : Bool) → eqb b 34 ≡ q → eqb b 10 ≡ l → eqb b 92 ≡ k → Ended bs (text_end false bs) → Behind bs → Ended (b ∷ bs) (text_end false (b ∷ bs))
step_by b bs true l k h1 h2 h3 c d =
    subst (Ended (b ∷ bs)) (sym (end_quote b bs h1))
    (record { body = []; rest = bs; is = ap (λ a. a ∷ bs) (eqb_is b 34 h1); count = refl; good = empty; value = rw h1 })
step_by b bs false true k h1 h2 h3 c d =
    subst (Ended (b ∷ bs)) (sym (end_line b bs h1 h2)) (record { rest = b ∷ bs; goes = go.here; ends = eqb_is b 10 h2 })
step_by b bs false false true h1 h2 h3 c d =
    subst (λ a. Ended (a ∷ bs) (text_end false (a ∷ bs))) (sym (eqb_is b 92 h3)) (backslash_step bs (makes_escape bs) refl c d)
step_by b bs false false false h1 h2 h3 c d =
    subst (Ended (b ∷ bs)) (sym (end_plain b bs h1 h2 h3)) (plain_step b bs (text_end false bs) (h1, h2, h3) (apart_plain b h1 h2 h3) c)

abbrev EndedAt : Bool → List ℕ → Type 0
EndedAt true text = Behind text
EndedAt false text = Ended text (text_end false text)

ended_at : (escaped : Bool) (text : List ℕ) → EndedAt escaped text
ended_at true [] = tt
ended_at true (b ∷ bs) = ended_at false bs
ended_at false [] = subst (Ended []) (sym end_nothing) (record { rest = []; goes = go.here; ends = tt })
ended_at false (b ∷ bs) = step_by b bs (eqb b 34) (eqb b 10) (eqb b 92) refl refl refl (ended_at false bs) (ended_at true bs)

pub ended : (text : List ℕ) → Ended text (text_end false text)
ended text = ended_at false text

-- the other way round

pub line_never : (rest : List ℕ) → LineEnds rest → text_end false rest ≡ Never
line_never [] l = end_nothing
line_never (b ∷ bs) l = end_line b bs (ap (λ a. eqb a 34) l) (ap (λ a. eqb a 10) l)

pub open_never : {text rest : List ℕ} → GoesOn text rest → LineEnds rest → text_end false text ≡ Never
open_never (go.here {text}) l = line_never text l
open_never (go.plain {text = text} b p g) l = let a = plain_apart b p in end_plain b text a.0 a.1 a.2 ∙ ap (later 1 1) (open_never g l)
open_never (go.escape {text = text} b p g) l = end_escape b text p ∙ ap (λ e. later 1 1 (later 1 0 e)) (open_never g l)
open_never (go.bad {text = text} p g) l = end_bad text p ∙ ap (λ e. broken (later 1 1 e)) (open_never g l)

-- a quote closes it, also where an escape is bad
abbrev IsShut : End → Type 0
IsShut (Closes n size) = Unit {0}
IsShut (Breaks n) = Unit {0}
IsShut Never = ⊥

shut_later : (n size : ℕ) (e : End) → IsShut e → IsShut (later n size e)
shut_later n size (Closes m more) s = tt
shut_later n size (Breaks m) s = tt
shut_later n size Never s = s

shut_broken : (e : End) → IsShut e → broken e ≡ Breaks 0
shut_broken (Closes m more) s = refl
shut_broken (Breaks m) s = refl
shut_broken Never s = absurd s

shut_by : (e : End) → e ≡ Breaks 0 → IsShut e
shut_by e h = subst IsShut (sym h) tt

goes_shut : {text : List ℕ} {rest : List ℕ} → GoesOn text rest → (more : List ℕ) → rest ≡ 34 ∷ more → IsShut (text_end false text)
goes_shut (go.here {text}) more h = subst (λ l. IsShut (text_end false l)) (sym h) (subst IsShut (sym (end_quote 34 more refl)) tt)
goes_shut (go.plain {text = text} b p g) more h = let a = plain_apart b p in subst IsShut (sym (end_plain b text a.0 a.1 a.2)) (shut_later 1 1 _ (goes_shut g more h))
goes_shut (go.escape {text = text} b p g) more h = subst IsShut (sym (end_escape b text p)) (shut_later 1 1 _ (shut_later 1 0 _ (goes_shut g more h)))
goes_shut (go.bad {text = text} p g) more h = subst IsShut (sym (end_bad text p)) (shut_by _ (shut_broken _ (shut_later 1 1 _ (goes_shut g more h))))

-- behind a body of so many bytes
abbrev pub behind_body : ℕ → End → End → Type 0
behind_body n (Closes m size) e = (more : ℕ) × (e ≡ Closes (n + m) more)
behind_body n (Breaks m) e = e ≡ Breaks (n + m)
behind_body n Never e = e ≡ Never

later_behind : (n k j : ℕ) (e f : End) → behind_body n e f → behind_body (k + n) e (later k j f)
later_behind n k j (Closes m size) f h = (j + h.0, ap (later k j) h.1 ∙ (let p : k + (n + m) ≡ k + n + m = omega arith in cc))
later_behind n k j (Breaks m) f h = ap (later k j) h ∙ ap Breaks (omega arith)
later_behind n k j Never f h = ap (later k j) h

to_behind : (n : ℕ) (e : End) (f g : End) → f ≡ g → behind_body n e g → behind_body n e f
to_behind n e f g h b = subst (behind_body n e) (sym h) b

no_body : (e : End) → behind_body 0 e e
no_body (Closes m size) = (size, let p : m ≡ 0 + m = omega arith in cc)
no_body (Breaks m) = ap Breaks (omega arith)
no_body Never = refl

counted : (n k : ℕ) (e f : End) → k ≡ n → behind_body k e f → behind_body n e f
counted n k e f h b = subst (λ i. behind_body i e f) h b

body_end : {body : List ℕ} (rest : List ℕ) → Body body → behind_body (length body) (text_end false rest) (text_end false (body ++ rest))
body_end rest empty = no_body (text_end false rest)
body_end rest (plain {body} b p d) =
    let a = plain_apart b p in
    counted _ (1 + length body) _ _ (omega arith)
    (to_behind _ (text_end false rest) _ _ (end_plain b (body ++ rest) a.0 a.1 a.2) (later_behind (length body) 1 1 (text_end false rest) _ (body_end rest d)))
body_end rest (escape {body} b p d) =
    counted _ (1 + (1 + length body)) _ _ (omega arith)
    (to_behind _ (text_end false rest) _ _ (end_escape b (body ++ rest) p)
    (later_behind (1 + length body) 1 1 (text_end false rest) _ (later_behind (length body) 1 0 (text_end false rest) _ (body_end rest d))))

-- a body and a quote: that is where the literal closes
pub body_closes : (body rest : List ℕ) → Body body → (size : ℕ) × (text_end false (body ++ 34 ∷ rest) ≡ Closes (length body) size)
body_closes body rest d =
    let b = subst (λ e. behind_body (length body) e (text_end false (body ++ 34 ∷ rest))) (end_quote 34 rest refl) (body_end (34 ∷ rest) d) in
    (b.0, b.1 ∙ (let p : length body + 0 ≡ length body = omega arith in cc))

-- a body and a bad escape, where a quote closes the literal: that is the first
pub body_breaks : (body more rest : List ℕ) → Body body → makes_escape more ≡ false → GoesOn more (34 ∷ rest) → text_end false (body ++ 92 ∷ more) ≡ Breaks (length body)
body_breaks body more rest d p g =
    let h : text_end false (92 ∷ more) ≡ Breaks 0 = end_bad more p ∙ shut_broken _ (shut_later 1 1 _ (goes_shut g rest refl)) in
    subst (λ e. behind_body (length body) e (text_end false (body ++ 92 ∷ more))) h (body_end (92 ∷ more) d) ∙ ap Breaks (omega arith)
