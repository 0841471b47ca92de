-- What is spelled is taken, whatever follows that can follow it.
use Rattle.std.proofs.Common.{◌≡◌, ℕ, Bool, true, false, cond, not, List, [], ◌∷◌, ◌++◌, refl, ap, sym, subst, Some, append_assoc, ◌&&◌}
use Rattle.std.proofs.lemmas.Bool.{not-true, and_parts, and_from, not_from_false, false_from_ne_true}
use Rattle.rb_trees.specs.declared.tokens.Token.{Token}
use Rattle.rb_trees.specs.declared.tokens.TokenKind.{TokenKind}
use Rattle.rb_trees.specs.Kinds.{is_kind, is_one_of}
use Rattle.rb_meaning_bytes.specs.grammar.Symbols.{Symbol, Terminal, The, Nonterminal, TreeOf, Trees, made}
use Rattle.rb_meaning_bytes.specs.grammar.Derives as g
use Rattle.rb_meaning_bytes.specs.grammar.Derives.{Spells}
use Rattle.rb_parse.specs.Table.{Choice, choice, begins, may_be_empty, all_begin, cases, otherwise, predict}
use Rattle.rb_parse.proofs.KindLists.{kind_is, within, apart, one_within, one_apart, one_here, one_there}
use Rattle.rb_parse.proofs.Checks.{bars, symbol_bars, implies, implied, implies_true, all_empty, fitting, ending}
use Rattle.rb_parse.proofs.Listed.{In, listed}
use Rattle.rb_parse.proofs.Predicts.{sound, Clear, told, untold}
use Rattle.rb_parse.proofs.Takes.{Takes, done, token, part}

module _ (source : List ℕ) where
  -- symbols with an empty spelling may be empty
  empty_of : {l : List Symbol} {ws : List Token} {xs : Trees l} → Spells source l ws xs → ws ≡ [] → all_empty l ≡ true
  empty_of g.nothing h = refl
  empty_of (g.token t d) h = cc
  empty_of (g.production {p} {m} {l} {ts = []} r d e) h =
      and_from (may_be_empty p) (all_empty l) (implied (all_empty m) (may_be_empty p) (sound (choice r) (listed r)).empties (empty_of d refl)) (empty_of e h)
  empty_of (g.production {ts = a ∷ ts} r d e) h = cc

  -- a spelling begins with a kind that the symbols begin with
  first_of : {l : List Symbol} {ws : List Token} {xs : Trees l} → Spells source l ws xs → (t : Token) (ts : List Token) → ws ≡ t ∷ ts → is_one_of t.kind (all_begin l) ≡ true
  first_of g.nothing t ts h = cc
  first_of (g.token {l} s d) t ts h =
      let same : s ≡ t = cc in
      ap (λ b. cond b true (is_one_of t.kind [])) (subst (λ x. is_kind t.kind x.kind ≡ true) (sym same) (kind_is t.kind))
  first_of (g.production {p} {m} {l} {ts = []} r d e) t ts h =
      let w : may_be_empty p ≡ true = implied (all_empty m) (may_be_empty p) (sound (choice r) (listed r)).empties (empty_of d refl) in
      one_there t.kind (begins p) (cond (may_be_empty p) (all_begin l) []) (subst (λ b. is_one_of t.kind (cond b (all_begin l) []) ≡ true) (sym w) (first_of e t ts h))
  first_of (g.production {p} {m} {l} {ts = a ∷ front} r d e) t ts h =
      let same : a ≡ t = cc in
      let i : is_one_of a.kind (all_begin m) ≡ true = first_of d a front refl in
      one_here t.kind (begins p) (cond (may_be_empty p) (all_begin l) []) (subst (λ x. is_one_of x.kind (begins p) ≡ true) same (one_within a.kind (all_begin m) (begins p) (sound (choice r) (listed r)).firsts i))

  -- whether a token of the kind may follow the symbols
  abbrev pub after : List Symbol → TokenKind → Bool
  after [] k = true
  after (x ∷ l) k = implies (all_empty l) (not (is_one_of k (symbol_bars x))) && after l k

  abbrev pub Follows : List Symbol → List Token → Type 0
  Follows l [] = Unit {0}
  Follows l (t ∷ ts) = after l t.kind ≡ true

  after_ending : (ks : List TokenKind) (l : List Symbol) (k : TokenKind) → ending ks l ≡ true → is_one_of k ks ≡ false → after l k ≡ true
  after_ending ks [] k h n = refl
  after_ending ks (x ∷ l) k h n =
      and_from (implies (all_empty l) (not (is_one_of k (symbol_bars x)))) (after l k)
      (implies_true (all_empty l) (not (is_one_of k (symbol_bars x))) (λ e. not_from_false (is_one_of k (symbol_bars x)) (false_from_ne_true (is_one_of k (symbol_bars x)) (λ y. cc (one_within k (symbol_bars x) ks (implied (all_empty l) (within (symbol_bars x) ks) (and_parts (implies (all_empty l) (within (symbol_bars x) ks)) (ending ks l) h).0 e) y)))))
      (after_ending ks l k (and_parts (implies (all_empty l) (within (symbol_bars x) ks)) (ending ks l) h).1 n)

  -- the parts of a production may be followed by what doesn't bar the part
  follows_parts : (p : Nonterminal) (m : List Symbol) → ending (bars p) m ≡ true → (ws : List Token) → Clear p ws → Follows m ws
  follows_parts p m h [] c = tt
  follows_parts p m h (t ∷ ts) c = after_ending (bars p) m t.kind h c

  follows_rest : (x : Symbol) (l : List Symbol) (ws : List Token) → Follows (x ∷ l) ws → Follows l ws
  follows_rest x l [] h = tt
  follows_rest x l (t ∷ ts) h = (and_parts (implies (all_empty l) (not (is_one_of t.kind (symbol_bars x)))) (after l t.kind) h).1

  -- nothing that comes behind a part bars it
  clear : (p : Nonterminal) (l : List Symbol) (us rest : List Token) (xs : Trees l) → Spells source l us xs → fitting (The p ∷ l) ≡ true → Follows (The p ∷ l) rest → Clear p (us ++ rest)
  clear p l [] [] xs d h f = tt
  clear p l [] (t ∷ ts) xs d h f = not-true (is_one_of t.kind (bars p)) (implied (all_empty l) (not (is_one_of t.kind (bars p))) (and_parts (implies (all_empty l) (not (is_one_of t.kind (bars p)))) (after l t.kind) f).0 (empty_of d refl))
  clear p l (t ∷ us) rest xs d h f = one_apart t.kind (all_begin l) (bars p) (and_parts (apart (all_begin l) (bars p)) (fitting l) h).0 (first_of d t us refl)

  predicted : {p : Nonterminal} (c : Choice source p) → In c (cases source p) (otherwise source p) → (ts ws : List Token) (ys : Trees c.parts) → Spells source c.parts ts ys → Clear p ws → predict source p (ts ++ ws) ≡ Some c
  predicted c i [] ws ys d n = untold c i ws (empty_of d refl) n
  predicted c i (t ∷ ts) ws ys d n = told c i t (ts ++ ws) (first_of d t ts refl)

  pub complete : {l : List Symbol} {ts : List Token} {xs : Trees l} → Spells source l ts xs → fitting l ≡ true → (rest : List Token) → Follows l rest → Takes source l (ts ++ rest) xs rest
  complete g.nothing h rest f = done
  complete (g.token {l} t d) h rest f = token t (kind_is t.kind) (complete d (and_parts (apart (all_begin l) []) (fitting l) h).1 rest (follows_rest (Terminal t.kind) l rest f))
  complete (g.production {p} {m} {l} {f = make} {ts} {us} {ys} {xs} r d e) h rest f =
      let i = listed r in
      let s = sound (choice r) i in
      let n = clear p l us rest xs e h f in
      let one : Takes source m (ts ++ (us ++ rest)) ys (us ++ rest) = complete d s.fits (us ++ rest) (follows_parts p m s.ends (us ++ rest) n) in
      let two : Takes source l (us ++ rest) xs rest = complete e (and_parts (apart (all_begin l) (bars p)) (fitting l) h).1 rest (follows_rest (The p) l rest f) in
      subst (λ w. Takes source (The p ∷ l) w (made m (TreeOf p) make ys, xs) rest) (sym (append_assoc ts us rest)) (part (choice r) (predicted (choice r) i ts (us ++ rest) ys d n) one two)
