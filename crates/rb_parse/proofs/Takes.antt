-- How reading goes, as derivations: symbols take tokens up to a rest, or stop with so many tokens left.
use Rattle.std.proofs.Common.{◌≡◌, ℕ, ◌<◌, ◌≤◌, Bool, true, false, List, [], ◌∷◌, ◌++◌, length, refl, ap, sym, ◌∙◌, subst, Option, Some, None, arith, append_assoc, length-append, ◌&&◌}
use Rattle.std.proofs.lemmas.List.{append_cancel_right}
use Rattle.rb_trees.specs.declared.tokens.Token.{Token}
use Rattle.rb_trees.specs.declared.tokens.TokenKind.{TokenKind}
use Rattle.rb_trees.specs.Kinds.{is_kind}
use Rattle.rb_meaning_bytes.specs.grammar.Symbols.{Symbol, Terminal, The, Nonterminal, TreeOf, Trees, made}
use Rattle.rb_meaning_bytes.specs.grammar.Derives as g
use Rattle.rb_meaning_bytes.specs.grammar.Derives.{Spells, IsPrefix}
use Rattle.rb_parse.specs.Table.{Choice, may_be_empty, predict}
use Rattle.rb_parse.proofs.KindLists.{kind_same}
use Rattle.rb_parse.proofs.Checks.{all_empty, implies}
use Rattle.rb_parse.proofs.Predicts.{sound, predict_in}

-- The symbols take tokens of a list, with these trees, and this rest is left.
pub data Takes (source : List ℕ) : (l : List Symbol) → List Token → Trees l → List Token → Type 0 where
  done : {ts : List Token} → Takes source [] ts tt ts
  token : {kind : TokenKind} {l : List Symbol} {ts us : List Token} {xs : Trees l} (t : Token) → is_kind t.kind kind ≡ true
      → Takes source l ts xs us → Takes source (Terminal kind ∷ l) (t ∷ ts) (t, xs) us
  part : {p : Nonterminal} {l : List Symbol} {ts ms us : List Token} {xs : Trees l} (c : Choice source p) {ys : Trees c.parts}
      → predict source p ts ≡ Some c → Takes source c.parts ts ys ms → Takes source l ms xs us
      → Takes source (The p ∷ l) ts (made c.parts (TreeOf p) c.makes ys, xs) us

-- The symbols stop where so many tokens are left.
pub data Stops (source : List ℕ) : List Symbol → List Token → ℕ → Type 0 where
  ended : {kind : TokenKind} {l : List Symbol} → Stops source (Terminal kind ∷ l) [] 0
  wrong : {kind : TokenKind} {l : List Symbol} (t : Token) (ts : List Token) → is_kind t.kind kind ≡ false
      → Stops source (Terminal kind ∷ l) (t ∷ ts) (length (t ∷ ts))
  behind_token : {kind : TokenKind} {l : List Symbol} {ts : List Token} {m : ℕ} (t : Token) → is_kind t.kind kind ≡ true
      → Stops source l ts m → Stops source (Terminal kind ∷ l) (t ∷ ts) m
  none : {p : Nonterminal} {l : List Symbol} (ts : List Token) → predict source p ts ≡ None → Stops source (The p ∷ l) ts (length ts)
  within : {p : Nonterminal} {l : List Symbol} {ts : List Token} {m : ℕ} (c : Choice source p) → predict source p ts ≡ Some c
      → Stops source c.parts ts m → Stops source (The p ∷ l) ts m
  behind_part : {p : Nonterminal} {l : List Symbol} {ts ms : List Token} {m : ℕ} (c : Choice source p) {ys : Trees c.parts}
      → predict source p ts ≡ Some c → Takes source c.parts ts ys ms → Stops source l ms m → Stops source (The p ∷ l) ts m

shorter_part : (m ce le : Bool) (x y z : ℕ) → implies ce m ≡ true → (m && le) ≡ false → y ≤ x → (ce ≡ false → y < x) → z ≤ y → (le ≡ false → z < y) → z < x
shorter_part true ce le x y z i n a f b g = let k = g n in omega arith
shorter_part false true le x y z i n a f b g = cc
shorter_part false false le x y z i n a f b g = let k = f refl in omega arith

pub same_end : (x y c d : List Token) → x ++ c ≡ y ++ d → length c ≡ length d → c ≡ d
same_end [] [] c d h n = h
same_end [] (b ∷ y) c d h n = absurd (omega (arith, simp length-append at (ap length h)))
same_end (a ∷ x) [] c d h n = absurd (omega (arith, simp length-append at (ap length h)))
same_end (a ∷ x) (b ∷ y) c d h n = same_end x y c d (cc) n

pub record Shorter (l : List Symbol) (ts us : List Token) : Type 0 where
  pub no_longer : length us ≤ length ts
  pub some : all_empty l ≡ false → length us < length ts

module _ (source : List ℕ) where
  pub shorter : {l : List Symbol} {ts us : List Token} {xs : Trees l} → Takes source l ts xs us → Shorter l ts us
  shorter done = record { no_longer = omega arith; some = λ h. cc }
  shorter (token {ts = ts} {us = us} t h d) = let s = shorter d in let n = s.no_longer in record { no_longer = omega arith; some = λ e. omega arith }
  shorter (part {p} {l} {ts} {ms} {us} c h d e) =
      let a = shorter d in
      let b = shorter e in
      let s = sound c (predict_in c ts h) in
      record { no_longer = omega (arith, a.no_longer, b.no_longer); some = λ n. shorter_part (may_be_empty p) (all_empty c.parts) (all_empty l) (length ts) (length ms) (length us) s.empties n a.no_longer a.some b.no_longer b.some }

  -- what is taken spells the symbols
  pub record Took (l : List Symbol) (ts : List Token) (xs : Trees l) (us : List Token) : Type 0 where
    pub front : List Token
    pub is : ts ≡ front ++ us
    pub spells : Spells source l front xs

  pub took : {l : List Symbol} {ts us : List Token} {xs : Trees l} → Takes source l ts xs us → Took l ts xs us
  took done = record { front = []; is = refl; spells = g.nothing }
  took (token {kind} {l} {ts} {us} {xs} t h d) =
      let a = took d in
      record { front = t ∷ a.front; is = ap (λ x. t ∷ x) a.is; spells = subst (λ k. Spells source (Terminal k ∷ l) (t ∷ a.front) (t, xs)) (kind_same t.kind kind h) (g.token t a.spells) }
  took (part {p} {l} {ts} {ms} {us} c h d e) =
      let a = took d in
      let b = took e in
      record { front = a.front ++ b.front; is = a.is ∙ ap (λ x. a.front ++ x) b.is ∙ sym (append_assoc a.front b.front us); spells = g.production c.rule a.spells b.spells }

  -- where symbols stop, the tokens so far are a prefix of them
  pub record Halts (l : List Symbol) (ts : List Token) (m : ℕ) : Type 0 where
    pub front : List Token
    pub rest : List Token
    pub is : ts ≡ front ++ rest
    pub left : length rest ≡ m
    pub begins : IsPrefix source l front

  pub halts : {l : List Symbol} {ts : List Token} {m : ℕ} → Stops source l ts m → Halts l ts m
  halts ended = record { front = []; rest = []; is = refl; left = refl; begins = g.none }
  halts (wrong t ts h) = record { front = []; rest = t ∷ ts; is = refl; left = refl; begins = g.none }
  halts (behind_token {kind} {l} t h d) =
      let a = halts d in
      record { front = t ∷ a.front; rest = a.rest; is = ap (λ x. t ∷ x) a.is; left = a.left; begins = subst (λ k. IsPrefix source (Terminal k ∷ l) (t ∷ a.front)) (kind_same t.kind kind h) (g.after_token t a.begins) }
  halts (none ts h) = record { front = []; rest = ts; is = refl; left = refl; begins = g.none }
  halts (within c h d) = let a = halts d in record { front = a.front; rest = a.rest; is = a.is; left = a.left; begins = g.within c.rule a.begins }
  halts (behind_part c h d e) =
      let a = took d in
      let b = halts e in
      record { front = a.front ++ b.front; rest = b.rest; is = a.is ∙ ap (λ x. a.front ++ x) b.is ∙ sym (append_assoc a.front b.front b.rest); left = b.left; begins = g.past c.rule a.spells b.begins }

module _ (source : List ℕ) (t : Token) (us ws : List Token) where
  predict_same : {p : Nonterminal} (o : Option (Choice source p)) (ts a : List Token) → ts ≡ a ++ t ∷ us → predict source p ts ≡ o → predict source p (a ++ t ∷ ws) ≡ o
  predict_same {p} o ts [] e h = subst (λ l. predict source p l ≡ o) e h
  predict_same {p} o ts (x ∷ a) e h = subst (λ l. predict source p l ≡ o) e h

  -- what is taken before a token is taken whatever follows it
  pub takes_local : {l : List Symbol} {ts rest : List Token} {xs : Trees l} → Takes source l ts xs rest → (a b : List Token) → ts ≡ a ++ t ∷ us → rest ≡ b ++ t ∷ us → Takes source l (a ++ t ∷ ws) xs (b ++ t ∷ ws)
  takes_local (done {ts}) a b h k = subst (λ x. Takes source [] (a ++ t ∷ ws) tt (x ++ t ∷ ws)) (append_cancel_right a b (t ∷ us) (sym h ∙ k)) done
  takes_local (token {ts = ts} {us = rest} s h d) [] b e k = absurd (go (shorter source d).no_longer)
    where
      go : length rest ≤ length ts → ⊥
      go n = omega (arith, ap length e, simp length-append at (ap length k))
  takes_local (token {kind} {l} {ts} {us = rest} {xs} s h d) (x ∷ a) b e k =
      let i = takes_local d a b (cc) k in
      let same : s ≡ x = cc in
      subst (λ y. Takes source (Terminal kind ∷ l) (y ∷ (a ++ t ∷ ws)) (s, xs) (b ++ t ∷ ws)) same (token s h i)
  takes_local (part {ts = ts} {ms = ms} c h d e) a b i k =
      let f = took source e in
      let mid : ms ≡ (f.front ++ b) ++ t ∷ us = f.is ∙ ap (λ x. f.front ++ x) k ∙ sym (append_assoc f.front b (t ∷ us)) in
      part c (predict_same (Some c) ts a i h) (takes_local d a (f.front ++ b) i mid) (takes_local e (f.front ++ b) b mid k)

  -- where reading stops at a token, it stops there whatever follows
  pub stops_local : {l : List Symbol} {ts : List Token} {m : ℕ} → Stops source l ts m → (a : List Token) → ts ≡ a ++ t ∷ us → m ≡ length (t ∷ us) → Stops source l (a ++ t ∷ ws) (length (t ∷ ws))
  stops_local ended a h k = absurd (omega (arith, k))
  stops_local (wrong {kind} {l} s ts h) [] e k =
      let same : s ≡ t = cc in
      wrong t ws (subst (λ y. is_kind y.kind kind ≡ false) same h)
  stops_local (wrong s ts h) (x ∷ a) e k = absurd (omega (arith, k, simp length-append at (ap length e)))
  stops_local (behind_token {ts = ts} {m = m} s h d) [] e k =
      let v = halts source d in
      absurd (omega (arith, k, ap length e, v.left, simp length-append at (ap length v.is)))
  stops_local (behind_token {kind} {l} {ts} {m} s h d) (x ∷ a) e k =
      let i = stops_local d a (cc) k in
      let same : s ≡ x = cc in
      subst (λ y. Stops source (Terminal kind ∷ l) (y ∷ (a ++ t ∷ ws)) (length (t ∷ ws))) same (behind_token s h i)
  stops_local (none ts h) [] e k = none (t ∷ ws) (predict_same None ts [] e h)
  stops_local (none ts h) (x ∷ a) e k = absurd (omega (arith, k, simp length-append at (ap length e)))
  stops_local (within {ts = ts} c h d) a e k = within c (predict_same (Some c) ts a e h) (stops_local d a e k)
  stops_local (behind_part {ts = ts} {ms} {m} c h d f) a e k =
      let v = took source d in
      let w = halts source f in
      let both : (v.front ++ w.front) ++ w.rest ≡ a ++ t ∷ us = append_assoc v.front w.front w.rest ∙ ap (λ x. v.front ++ x) (sym w.is) ∙ sym v.is ∙ e in
      let same : w.rest ≡ t ∷ us = same_end (v.front ++ w.front) a w.rest (t ∷ us) both (w.left ∙ k) in
      let mid : ms ≡ w.front ++ t ∷ us = w.is ∙ ap (λ x. w.front ++ x) same in
      behind_part c (predict_same (Some c) ts a e h) (takes_local d a w.front e mid) (stops_local f w.front mid k)
