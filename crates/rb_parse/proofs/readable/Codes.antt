-- What spells code has no word `object`: so where a service's objects begin, its classes are over.
use Rattle.std.proofs.Common.{◌≡◌, ℕ, Bool, true, false, not, List, [], ◌∷◌, ◌++◌, refl, Option, None, Some, ◌&&◌}
use Rattle.std.proofs.lemmas.Bool.{not-true, and_parts}
use Rattle.rb_trees.specs.declared.tokens.Token.{Token}
use Rattle.rb_trees.specs.Kinds as k
use Rattle.rb_trees.specs.Kinds.{is_kind}
use Rattle.rb_meaning_bytes.specs.tokens.Lists as lists
use Rattle.rb_meaning_bytes.specs.tokens.Lists.{TokensBetween, AllWithinLimits, is_minus}
use Rattle.rb_meaning_bytes.specs.grammar.Symbols as s
use Rattle.rb_meaning_bytes.specs.grammar.Symbols.{Symbol, Terminal, The, Nonterminal, TreeOf, Trees, Makes}
use Rattle.rb_meaning_bytes.specs.grammar.Productions.{Production}
use Rattle.rb_meaning_bytes.specs.grammar.Derives as g
use Rattle.rb_meaning_bytes.specs.grammar.Derives.{Spells}
use Rattle.rb_parse.specs.Table.{Choice, cases, otherwise}
use Rattle.rb_parse.proofs.Checks.{implies, implied}
use Rattle.rb_parse.proofs.Listed.{In, here, there, last, listed}
use Rattle.rb_parse.proofs.readable.Tokens.{NoObject}

-- whether a part is one of programs and of the classes of services
abbrev pub is_code : Nonterminal → Bool
is_code s.TheService = false
is_code s.Objects = false
is_code s.AnObject = false
is_code s.GivenFields = false
is_code s.ALiteral = false
is_code s.Literals = false
is_code s.MoreLiterals = false
is_code _ = true

abbrev pub symbol_is_code : Symbol → Bool
symbol_is_code (Terminal kind) = not (is_kind kind k.keyword_object)
symbol_is_code (The p) = is_code p

abbrev pub all_code : List Symbol → Bool
all_code [] = true
all_code (x ∷ l) = symbol_is_code x && all_code l

abbrev choices_code : {source : List ℕ} {p : Nonterminal} → List (Choice source p) → Option (Choice source p) → Bool
choices_code [] None = true
choices_code [] (Some c) = all_code c.parts
choices_code (c ∷ cs) d = all_code c.parts && choices_code cs d

coded : (source : List ℕ) (p : Nonterminal) → implies (is_code p) (choices_code (cases source p) (otherwise source p)) ≡ true
unfolding cases otherwise
coded source (s.Chain s.OrLevel) = refl
coded source (s.Chain s.AndLevel) = refl
coded source (s.Chain s.SameLevel) = refl
coded source (s.Chain s.OrderLevel) = refl
coded source (s.Chain s.SumLevel) = refl
coded source (s.Chain s.ProductLevel) = refl
coded source (s.MoreChain s.OrLevel) = refl
coded source (s.MoreChain s.AndLevel) = refl
coded source (s.MoreChain s.SameLevel) = refl
coded source (s.MoreChain s.OrderLevel) = refl
coded source (s.MoreChain s.SumLevel) = refl
coded source (s.MoreChain s.ProductLevel) = refl
coded source _ = refl

code_in : {source : List ℕ} {p : Nonterminal} {c : Choice source p} {cs : List (Choice source p)} {d : Option (Choice source p)} → In c cs d → choices_code cs d ≡ true → all_code c.parts ≡ true
code_in {c = c} (here {cs} {d}) h = (and_parts (all_code c.parts) (choices_code cs d) h).0
code_in (there {b} {cs} {d} i) h = code_in i (and_parts (all_code b.parts) (choices_code cs d) h).1
code_in last h = h

-- a production of code has parts of code alone
of_code : {source : List ℕ} {p : Nonterminal} {m : List Symbol} {f : Makes m (TreeOf p)} → Production source p m f → is_code p ≡ true → all_code m ≡ true
of_code {source} {p} rule h = code_in (listed rule) (implied (is_code p) (choices_code (cases source p) (otherwise source p)) (coded source p) h)

no_object_append : (ts us : List Token) → NoObject ts → NoObject us → NoObject (ts ++ us)
no_object_append [] us h i = i
no_object_append (t ∷ ts) us h i = (h.0, no_object_append ts us h.1 i)

pub no_object : (source : List ℕ) {l : List Symbol} {ts : List Token} {xs : Trees l} → Spells source l ts xs → all_code l ≡ true → NoObject ts
no_object source g.nothing h = tt
no_object source (g.token {l} t d) h =
    let e = and_parts (not (is_kind t.kind k.keyword_object)) (all_code l) h in
    (not-true (is_kind t.kind k.keyword_object) e.0, no_object source d e.1)
no_object source (g.production {p} {m} {l} {ts = ts} {us = us} rule d e) h =
    let i = and_parts (is_code p) (all_code l) h in
    no_object_append ts us (no_object source d (of_code rule i.0)) (no_object source e i.1)

-- the first tokens of a source
pub tokens_front : (text : List ℕ) (from to : ℕ) (ts us : List Token) → TokensBetween text from (ts ++ us) to → (end : ℕ) × TokensBetween text from ts end
tokens_front text from to [] us b = (from, lists.none)
tokens_front text from to (t ∷ ts) us b = let a = tokens_front text t.end to ts us b.2 in (a.0, (b.0, b.1, a.1))

pub limits_front : (text : List ℕ) (minus : Bool) (ts us : List Token) → AllWithinLimits minus text (ts ++ us) → AllWithinLimits minus text ts
limits_front text minus [] us h = tt
limits_front text minus (t ∷ ts) us h = (h.0, limits_front text (is_minus t.kind) ts us h.1)
