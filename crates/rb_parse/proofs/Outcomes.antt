-- A list of tokens has one outcome, a tree or a refusal, and so has a source.
use Rattle.std.proofs.Common.{◌≡◌, ℕ, List, [], ◌∷◌, ◌++◌, Result, Ok, Err, ap, sym, ◌∙◌, refl, subst, append_assoc, append-nil}
use Rattle.rb_trees.specs.declared.tokens.Token.{Token}
use Rattle.rb_trees.specs.declared.reading.LexError.{LexError}
use Rattle.rb_trees.specs.declared.reading.ReadError.{ReadError}
use Rattle.rb_trees.specs.declared.reading.ReadError.TheVariants as errors
use Rattle.rb_meaning_bytes.specs.grammar.Symbols.{Nonterminal, TreeOf}
use Rattle.rb_meaning_bytes.specs.tokens.Texts.{IsTokens, IsRefusal, Lexed}
use Rattle.rb_meaning_bytes.specs.tokens.Texts as texts
use Rattle.rb_meaning_bytes.specs.grammar.Derives.{DerivesAs, IsTextPrefix, Stuck}
use Rattle.rb_meaning_bytes.specs.grammar.Limits.{nothing_open, Within}
use Rattle.rb_meaning_bytes.specs.grammar.Refusals.{ReadAs, UnexpectedAt, TooNestedAt, place_of}
use Rattle.rb_meaning_bytes.specs.grammar.Sources.{ReadSourceAs, OfTokens}
use Rattle.rb_lex.proofs.Places.{one_lexed}
use Rattle.rb_lex.proofs.Total.{some_outcome}
use Rattle.rb_parse.specs.Outcomes.{AtMostOne, AtLeastOne}
use Rattle.rb_parse.proofs.Parted as parts
use Rattle.rb_parse.proofs.Parted.{Parted, parted}
use Rattle.rb_parse.proofs.Prefixes.{one_tree, shorter_prefix, whole_prefix}
use Rattle.rb_parse.proofs.Laws.{within_prefix, some_read}

within_one : (front : List Token) (t : Token) (more : List Token) → Within (front ++ t ∷ more) → Within (front ++ t ∷ [])
within_one front t more w = within_prefix nothing_open (front ++ t ∷ []) more (subst Within (sym (append_assoc front (t ∷ []) more)) w)

not_nested : (tokens front : List Token) (t : Token) (rest : List Token) → tokens ≡ front ++ t ∷ rest → ¬ Within (front ++ t ∷ []) → ¬ Within tokens
not_nested tokens front t rest e breaks w = breaks (within_one front t rest (subst Within e w))

one_nested : {f r g s : List Token} → Parted f r g s → (t u : Token) (more others : List Token) → r ≡ t ∷ more → s ≡ u ∷ others → Within f → ¬ Within (f ++ t ∷ []) → Within g → ¬ Within (g ++ u ∷ []) → t.start ≡ u.start
one_nested parts.same t u more others d e wf bf wg bg =
    let both = sym d ∙ e in
    let one : t ≡ u = cc in
    ap (λ x. x.start) one
one_nested (parts.before {a} first rest) t u more others d e wf bf wg bg =
    let one : first ≡ t = cc in
    absurd (bf (subst (λ x. Within (a ++ x ∷ [])) one (within_one a first rest wg)))
one_nested (parts.behind {c} first rest) t u more others d e wf bf wg bg =
    let one : first ≡ u = cc in
    absurd (bg (subst (λ x. Within (c ++ x ∷ [])) one (within_one c first rest wf)))

module _ (start : Nonterminal) (source : List ℕ) where
  -- behind tokens that are stuck no text goes on
  no_further : (front : List Token) (t : Token) (more rest : List Token) → Stuck start source front (t ∷ rest) → ¬ IsTextPrefix start source (front ++ t ∷ more)
  no_further front t more rest stuck b = stuck (shorter_prefix source (front ++ t ∷ []) more (subst (IsTextPrefix start source) (sym (append_assoc front (t ∷ []) more)) b))

  not_unexpected : (tokens front rest : List Token) (p : TreeOf start) → tokens ≡ front ++ rest → Stuck start source front rest → ¬ DerivesAs start source tokens p
  not_unexpected tokens front [] p e stuck d = stuck p (subst (λ l. DerivesAs start source l p) (e ∙ append-nil front) d)
  not_unexpected tokens front (t ∷ rest) p e stuck d = no_further front t rest rest stuck (whole_prefix source (subst (λ l. DerivesAs start source l p) e d))

  one_unexpected : {f r g s : List Token} → Parted f r g s → IsTextPrefix start source f → Stuck start source f r → IsTextPrefix start source g → Stuck start source g s → place_of source r ≡ place_of source s
  one_unexpected parts.same bf sf bg sg = refl
  one_unexpected (parts.before {a} {d} t more) bf sf bg sg = absurd (no_further a t more (more ++ d) sf bg)
  one_unexpected (parts.behind {c} {b} t more) bf sf bg sg = absurd (no_further c t more (more ++ b) sg bf)

  not_both : {f r g s : List Token} → Parted f r g s → (u : Token) (others : List Token) → s ≡ u ∷ others → Within f → Stuck start source f r → ¬ Within (g ++ u ∷ []) → ¬ IsTextPrefix start source (g ++ u ∷ [])
  not_both (parts.same {a} {b}) u others e w stuck breaks goes =
      let at : Stuck start source a (u ∷ others) = subst (Stuck start source a) e stuck in
      at goes
  not_both (parts.before {a} {d} t more) u others e w stuck breaks goes = no_further a t (more ++ u ∷ []) (more ++ d) stuck (subst (IsTextPrefix start source) (append_assoc a (t ∷ more) (u ∷ [])) goes)
  not_both (parts.behind {c} {b} t more) u others e w stuck breaks goes =
      let one : t ≡ u = cc in
      breaks (subst (λ x. Within (c ++ x ∷ [])) one (within_one c t more w))

module _ (start : Nonterminal) (source : List ℕ) (tokens : List Token) where
  one_refusal : {one other : ℕ} → UnexpectedAt start source tokens one → TooNestedAt start source tokens other → ⊥
  one_refusal u n = not_both start source (parted u.front u.rest n.front (n.token ∷ n.rest) (sym u.is ∙ n.is)) n.token n.rest refl u.within u.stuck n.breaks n.goes

  pub one_read : AtMostOne (ReadAs start source tokens)
  one_read (Ok p) (Ok q) i j = ap (λ x. Ok x) (one_tree start source tokens p q i.0 j.0)
  one_read (Ok p) (Err (errors.Unexpected at)) i j = absurd (not_unexpected start source tokens j.front j.rest p j.is j.stuck i.0)
  one_read (Ok p) (Err (errors.TooNested at)) i j = absurd (not_nested tokens j.front j.token j.rest j.is j.breaks i.1)
  one_read (Ok p) (Err (errors.Lex fault)) i j = absurd j
  one_read (Ok p) (Err errors.Memory) i j = absurd j
  one_read (Err (errors.Unexpected at)) (Ok q) i j = absurd (not_unexpected start source tokens i.front i.rest q i.is i.stuck j.0)
  one_read (Err (errors.Unexpected at)) (Err (errors.Unexpected other)) i j =
      ap (λ n. Err (errors.Unexpected n)) (i.place ∙ one_unexpected start source (parted i.front i.rest j.front j.rest (sym i.is ∙ j.is)) i.goes i.stuck j.goes j.stuck ∙ sym j.place)
  one_read (Err (errors.Unexpected at)) (Err (errors.TooNested other)) i j = absurd (one_refusal i j)
  one_read (Err (errors.Unexpected at)) (Err (errors.Lex fault)) i j = absurd j
  one_read (Err (errors.Unexpected at)) (Err errors.Memory) i j = absurd j
  one_read (Err (errors.TooNested at)) (Ok q) i j = absurd (not_nested tokens i.front i.token i.rest i.is i.breaks j.1)
  one_read (Err (errors.TooNested at)) (Err (errors.Unexpected other)) i j = absurd (one_refusal j i)
  one_read (Err (errors.TooNested at)) (Err (errors.TooNested other)) i j =
      ap (λ n. Err (errors.TooNested n)) (i.place ∙ one_nested (parted i.front (i.token ∷ i.rest) j.front (j.token ∷ j.rest) (sym i.is ∙ j.is)) i.token j.token i.rest j.rest refl refl i.within i.breaks j.within j.breaks ∙ sym j.place)
  one_read (Err (errors.TooNested at)) (Err (errors.Lex fault)) i j = absurd j
  one_read (Err (errors.TooNested at)) (Err errors.Memory) i j = absurd j
  one_read (Err (errors.Lex fault)) other i j = absurd i
  one_read (Err errors.Memory) other i j = absurd i

module _ (start : Nonterminal) (source : List ℕ) where
  -- where an outcome comes from
  data Came : Result (TreeOf start) ReadError → Type 0 where
    lexed : (fault : LexError) → IsRefusal source fault → Came (Err (errors.Lex fault))
    parsed : (outcome : Result (TreeOf start) ReadError) → OfTokens start source outcome → Came outcome

  came : (outcome : Result (TreeOf start) ReadError) → ReadSourceAs start source outcome → Came outcome
  came (Ok p) i = parsed (Ok p) i
  came (Err (errors.Lex fault)) i = lexed fault i
  came (Err (errors.Unexpected at)) i = parsed (Err (errors.Unexpected at)) i
  came (Err (errors.TooNested at)) i = parsed (Err (errors.TooNested at)) i
  came (Err errors.Memory) i = absurd i

  not_lexed : (fault : LexError) (tokens : List Token) → IsRefusal source fault → IsTokens source tokens → ⊥
  not_lexed fault tokens r i = let e = one_lexed source (Err fault) (Ok tokens) r i in cc

  one_came : {one other : Result (TreeOf start) ReadError} → Came one → Came other → one ≡ other
  one_came (lexed fault r) (lexed other s) = let e = one_lexed source (Err fault) (Err other) r s in cc
  one_came (lexed fault r) (parsed other i) = absurd (not_lexed fault i.0 r i.1)
  one_came (parsed one i) (lexed fault r) = absurd (not_lexed fault i.0 r i.1)
  one_came (parsed one i) (parsed other j) =
      let e = one_lexed source (Ok i.0) (Ok j.0) i.1 j.1 in
      let same : i.0 ≡ j.0 = cc in
      one_read start source j.0 one other (subst (λ l. ReadAs start source l one) same i.2) j.2

  pub one_source : AtMostOne (ReadSourceAs start source)
  one_source one other i j = one_came (came one i) (came other j)

  -- what the tokens of a source are read as, it is read as
  pub of_tokens : (tokens : List Token) (outcome : Result (TreeOf start) ReadError) → IsTokens source tokens → ReadAs start source tokens outcome → ReadSourceAs start source outcome
  of_tokens tokens (Ok p) i r = (tokens, i, r)
  of_tokens tokens (Err (errors.Lex fault)) i r = absurd r
  of_tokens tokens (Err (errors.Unexpected at)) i r = (tokens, i, r)
  of_tokens tokens (Err (errors.TooNested at)) i r = (tokens, i, r)
  of_tokens tokens (Err errors.Memory) i r = absurd r

  outcome_of : (lexed : texts.Outcome) → Lexed source lexed → AtLeastOne (ReadSourceAs start source)
  outcome_of (Ok tokens) i = let r = some_read start source tokens in (r.0, of_tokens tokens r.0 i r.1)
  outcome_of (Err fault) r = (Err (errors.Lex fault), r)

  pub some_source : AtLeastOne (ReadSourceAs start source)
  some_source = let o = some_outcome source in outcome_of o.0 o.1
