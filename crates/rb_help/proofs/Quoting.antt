-- Texts that quote lines quote them still where text is put before or behind.
use Rattle.std.proofs.Common.{◌≡◌, ℕ, List, [], ◌∷◌, ◌++◌, Bool, true, false, cond, refl, sym, subst, append_assoc, append-nil, ◌+◌, ◌<◌, ◌≤◌, length, drop, get_or}
use Rattle.std.specs.Prelude.{Option, None, Some}
use Rattle.std.proofs.lemmas.List.{drop_more, drop_all}
use Rattle.rb_help.specs.Headings.{NamedText}
use Rattle.rb_help.specs.Quotes.{IsQuote, Within, QuotesAll, Quotes, shares, quoted_places}

-- text before
pub quotes-prepend : (source : NamedText) (ats x text : List ℕ) → QuotesAll source ats text → QuotesAll source ats (x ++ text)
quotes-prepend source [] x text q = tt
quotes-prepend source (at ∷ ats) x text q =
    (q.0, record { front = x ++ q.1.front; quote = q.1.quote; quotes = q.1.quotes; whole = rw q.1.whole (simp append_assoc) }, q.2)

-- text behind
pub quotes-append : (source : NamedText) (ats text more : List ℕ) → QuotesAll source ats text → QuotesAll source ats (text ++ more)
quotes-append source [] text more q = tt
quotes-append source (at ∷ ats) text more q =
    (q.0 ++ more, record { front = q.1.front; quote = q.1.quote; quotes = q.1.quotes; whole = rw q.1.whole (simp append_assoc) }, quotes-append source ats q.0 more q.2)

-- a quote, and text behind it
pub within-front : (source : NamedText) (at : ℕ) (quote more text : List ℕ) → IsQuote source at quote → text ≡ quote ++ more → Within source at text
within-front source at quote more text q e = (more, record { front = []; quote = quote; quotes = q; whole = e })

-- a block before the others: it quotes the line of its place, unless the place shares a quote
pub quotes-step :
    (source : NamedText) (at : ℕ) (ats : List ℕ) (b : Bool) (block more : List ℕ) → (b ≡ false → Within source at block) →
    QuotesAll source ats more → QuotesAll source (cond b [] (at ∷ []) ++ ats) (block ++ more)
quotes-step source at ats true block more h q = quotes-prepend source ats block more q
quotes-step source at ats false block more h q = let w : Within source at block = h refl in
    (w.0 ++ more, record { front = w.1.front; quote = w.1.quote; quotes = w.1.quotes; whole = rw w.1.whole (simp append_assoc) }, quotes-prepend source ats w.0 more q)

-- text behind all quotes
pub quotes-whole : (source : NamedText) (ats places text said all : List ℕ) → ats ≡ places → all ≡ text ++ said → Quotes source ats text → Quotes source places all
quotes-whole source ats places text said all e k q =
    rw (← e, k) (quotes-append source (quoted_places source.text None ats) text said q)

-- A text that quotes the places so far: with any text that quotes those that are left, it quotes all.
abbrev pub QuotesSoFar : NamedText → List ℕ → Option ℕ → ℕ → List ℕ → Type 0
QuotesSoFar source ats earlier number text =
    (more : List ℕ) → QuotesAll source (quoted_places source.text earlier (drop number ats)) more →
    QuotesAll source (quoted_places source.text None ats) (text ++ more)

-- one block more
pub quotes-go-on :
    (source : NamedText) (ats : List ℕ) (earlier : Option ℕ) (number : ℕ) (text block all : List ℕ) → number < length ats →
    QuotesSoFar source ats earlier number text →
    (shares source.text earlier (get_or ats number 0) ≡ false → Within source (get_or ats number 0) block) → all ≡ text ++ block →
    QuotesSoFar source ats (Some (get_or ats number 0)) (number + 1) all
quotes-go-on source ats earlier number text block all h before within e more q =
    let at = get_or ats number 0 in
    let step = quotes-step source at (quoted_places source.text (Some at) (drop (number + 1) ats)) (shares source.text earlier at) block more within q in
    rw (e, append_assoc) (before (block ++ more) (rw (drop_more ats number 0 h) step))

-- no place is left
pub quotes-end :
    (source : NamedText) (ats : List ℕ) (earlier : Option ℕ) (number : ℕ) (text : List ℕ) → length ats ≤ number →
    QuotesSoFar source ats earlier number text → Quotes source ats text
quotes-end source ats earlier number text h before =
    subst (λ (t : List ℕ). QuotesAll source (quoted_places source.text None ats) t) (append-nil text) (before [] (rw (drop_all number ats h) tt))
