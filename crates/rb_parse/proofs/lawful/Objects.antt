-- An object takes at least eleven bytes, so no text has more objects than a heap.
use Rattle.std.proofs.Common.{◌≡◌, ℕ, ◌+◌, ◌-◌, ◌*◌, ◌≤◌, Bool, true, false, cond, List, [], ◌∷◌, ◌++◌, length, take, drop, refl, ap, sym, subst, Some, arith, length-take}
use Rattle.std.proofs.lemmas.List.Quantifiers.{position-Some}
use Rattle.std.proofs.lemmas.Slice.Eq.{bytes_eq-Decides}
use Rattle.std.specs.Prelude.{codes}
use Rattle.std.specs.Str.{bytes_eq}
use Rattle.rb_trees.specs.Limits.{most_objects}
use Rattle.rb_trees.specs.Spelling.{keywords, number_in}
use Rattle.rb_trees.specs.declared.tokens.Token.{Token}
use Rattle.rb_trees.specs.declared.tokens.TokenKind.{TokenKind}
use Rattle.rb_trees.specs.Kinds as k
use Rattle.rb_trees.specs.Kinds.{is_kind}
use Rattle.rb_trees.specs.mirror.Services.{ServiceText}
use Rattle.rb_meaning_bytes.specs.tokens.Forms.{Form}
use Rattle.rb_meaning_bytes.specs.tokens.Lists.{TokensBetween, Stands}
use Rattle.rb_meaning_bytes.specs.tokens.Texts.{IsTokens}
use Rattle.rb_meaning_bytes.specs.grammar.Symbols as s
use Rattle.rb_meaning_bytes.specs.grammar.Symbols.{Symbol, Terminal, The, Nonterminal, TreeOf, Trees, Makes, made}
use Rattle.rb_meaning_bytes.specs.grammar.Productions as r
use Rattle.rb_meaning_bytes.specs.grammar.Productions.{Production}
use Rattle.rb_meaning_bytes.specs.grammar.Derives as g
use Rattle.rb_meaning_bytes.specs.grammar.Derives.{Spells, DerivesService}
use Rattle.rb_parse.proofs.KindLists.{kind_same}
use Rattle.rb_parse.proofs.lawful.Apart.{gap_rises}

-- how many bytes a token of the kind has at least
abbrev weight : TokenKind → ℕ
weight kind = cond (is_kind kind k.keyword_object) 6 1

-- how many bytes a part with this tree has at least, as far as objects go
abbrev bytes : (p : Nonterminal) → TreeOf p → ℕ
bytes s.TheService x = 11 * length x.objects
bytes s.Objects x = 11 * length x
bytes s.AnObject x = 11
bytes _ x = 0

abbrev total : (l : List Symbol) → Trees l → ℕ
total [] xs = 0
total (Terminal kind ∷ l) xs = weight kind + total l xs.1
total (The p ∷ l) xs = bytes p xs.0 + total l xs.1

abbrev weights : List Token → ℕ
weights [] = 0
weights (t ∷ ts) = weight t.kind + weights ts

weights_append : (ts us : List Token) → weights (ts ++ us) ≡ weights ts + weights us
weights_append [] us = omega arith
weights_append (t ∷ ts) us = let h = weights_append ts us in omega (arith, h)

at_service : {source : List ℕ} {m : List Symbol} {f : Makes m (TreeOf s.TheService)} → Production source s.TheService m f → (xs : Trees m) → bytes s.TheService (made m (TreeOf s.TheService) f xs) ≤ total m xs
at_service r.service xs = omega arith

at_objects : {source : List ℕ} {m : List Symbol} {f : Makes m (TreeOf s.Objects)} → Production source s.Objects m f → (xs : Trees m) → bytes s.Objects (made m (TreeOf s.Objects) f xs) ≤ total m xs
at_objects r.no_objects xs = omega arith
at_objects r.more_objects xs = omega arith

at_object : {source : List ℕ} {m : List Symbol} {f : Makes m (TreeOf s.AnObject)} → Production source s.AnObject m f → (xs : Trees m) → bytes s.AnObject (made m (TreeOf s.AnObject) f xs) ≤ total m xs
at_object r.object xs = omega arith

heavy : {source : List ℕ} (p : Nonterminal) {m : List Symbol} {f : Makes m (TreeOf p)} → Production source p m f → (xs : Trees m) → bytes p (made m (TreeOf p) f xs) ≤ total m xs
heavy s.TheService rule xs = at_service rule xs
heavy s.Objects rule xs = at_objects rule xs
heavy s.AnObject rule xs = at_object rule xs
heavy _ rule xs = omega arith

weighed : (source : List ℕ) {l : List Symbol} {ts : List Token} {xs : Trees l} → Spells source l ts xs → total l xs ≤ weights ts
weighed source g.nothing = omega arith
weighed source (g.token t d) = let h = weighed source d in omega (arith, h)
weighed source (g.production {p} {ts = ts} {us = us} {ys = ys} rule d e) = omega (arith, heavy p rule ys, weighed source d, weighed source e, weights_append ts us)

-- the keyword has six bytes
object_word : (word : List ℕ) → number_in keywords word ≡ Some 30 → length word ≡ 6
unfolding keywords number_in
object_word word h =
    let i = position-Some (λ other. bytes_eq other word) keywords 30 [] h in
    sym (ap length ((bytes_eq-Decides (codes "object") word).0 i.1))

object_size : (source : List ℕ) (t : Token) → Stands source t → t.kind ≡ k.keyword_object → 6 ≤ t.end - t.start
object_size source t h e =
    let f : Form k.keyword_object (take (t.end - t.start) (drop t.start source)) = subst (λ kind. Form kind (take (t.end - t.start) (drop t.start source))) e h.begins.formed in
    let n = object_word (take (t.end - t.start) (drop t.start source)) f in
    omega (arith, n, length-take (t.end - t.start) (drop t.start source))

token_size : (source : List ℕ) (t : Token) → Stands source t → t.start + weight t.kind ≤ t.end
token_size source t h = by (is_kind t.kind k.keyword_object) refl
  where
    by : (b : Bool) → is_kind t.kind k.keyword_object ≡ b → t.start + cond b 6 1 ≤ t.end
    by true e = omega (arith, object_size source t h (kind_same t.kind k.keyword_object e), h.rises)
    by false e = omega (arith, h.rises)

tokens_weigh : (source : List ℕ) (from to : ℕ) (tokens : List Token) → TokensBetween source from tokens to → from + weights tokens ≤ to
tokens_weigh source from to [] b = omega (arith, gap_rises b)
tokens_weigh source from to (t ∷ ts) b = omega (arith, gap_rises b.0, token_size source t b.1, tokens_weigh source t.end to ts b.2)

-- No text of a service has more objects than a heap.
pub few_objects : (source : List ℕ) (tokens : List Token) (service : ServiceText) → IsTokens source tokens → DerivesService source tokens service → length service.objects ≤ most_objects
few_objects source tokens service t d =
    let a : 11 * length service.objects + 0 ≤ weights tokens = weighed source d in
    let b : 0 + weights tokens ≤ length source = tokens_weigh source 0 (length source) tokens t.stand in
    omega (arith, a, b, t.short)
