-- Reading within the limits gives the tree that the tokens derive, or the first refusal.
use Rattle.std.proofs.Common.{◌≡◌, ℕ, zero, suc, ◌+◌, ◌-◌, ◌<◌, ◌≤◌, Bool, true, false, cond, nat_lt, List, [], ◌∷◌, ◌++◌, length, take, drop, refl, ap, sym, ◌∙◌, subst, Option, Some, None, Result, Ok, Err, arith, append_assoc, append-nil, length-append}
use Rattle.std.proofs.Math.Seq.{take-append_seam, drop-append_seam}
use Rattle.rb_trees.specs.declared.tokens.Token.{Token}
use Rattle.rb_trees.specs.Kinds as k
use Rattle.rb_trees.specs.Kinds.{is_kind}
use Rattle.rb_meaning_bytes.specs.grammar.Symbols.{Nonterminal, TreeOf}
use Rattle.rb_meaning_bytes.specs.grammar.Derives.{DerivesAs, IsTextPrefix, Stuck, Breaks}
use Rattle.rb_meaning_bytes.specs.grammar.Limits.{Nesting, after, too_deep, most_lists, lists_after, broken_lists, broken, nothing_open, Within}
use Rattle.rb_trees.specs.declared.reading.ReadError.TheVariants as errors
use Rattle.rb_meaning_bytes.specs.grammar.Refusals.{ReadAs, UnexpectedAt, TooNestedAt, place_of}
use Rattle.rb_parse.specs.declared.stop.Refusal.{Refusal}
use Rattle.rb_parse.specs.declared.stop.Refusal.TheVariants as refusals
use Rattle.rb_parse.specs.Reading.{whole_of}
use Rattle.rb_parse.specs.Nested.{unlimited, behind, cut_at, by_limit, limited_of}
use Rattle.rb_parse.specs.Outcomes.{AtLeastOne}
use Rattle.rb_parse.proofs.Prefixes.{whole_sound, whole_breaks, whole_prefix}

lists_prefix : (n : ℕ) (a b : List Token) → broken_lists n (a ++ b) ≡ None → broken_lists n a ≡ None
lists_prefix n [] b h = refl
lists_prefix n (t ∷ a) b h = go (nat_lt most_lists (lists_after n t.kind)) h (lists_prefix (lists_after n t.kind) a b)
  where
    go : (e : Bool) → cond e (Some (length (t ∷ (a ++ b)))) (broken_lists (lists_after n t.kind) (a ++ b)) ≡ None → (broken_lists (lists_after n t.kind) (a ++ b) ≡ None → broken_lists (lists_after n t.kind) a ≡ None) → cond e (Some (length (t ∷ a))) (broken_lists (lists_after n t.kind) a) ≡ None
    go true h f = cc
    go false h f = f h

pub within_prefix : (n : Nesting) (a b : List Token) → broken n (a ++ b) ≡ None → broken n a ≡ None
within_prefix n [] b h = refl
within_prefix n (t ∷ a) b h = go (is_kind t.kind k.keyword_object) (too_deep (after n t.kind)) h (lists_prefix 0 a b) (within_prefix (after n t.kind) a b)
  where
    go : (o e : Bool) → cond o (broken_lists 0 (a ++ b)) (cond e (Some (length (t ∷ (a ++ b)))) (broken (after n t.kind) (a ++ b))) ≡ None
        → (broken_lists 0 (a ++ b) ≡ None → broken_lists 0 a ≡ None) → (broken (after n t.kind) (a ++ b) ≡ None → broken (after n t.kind) a ≡ None)
        → cond o (broken_lists 0 a) (cond e (Some (length (t ∷ a))) (broken (after n t.kind) a)) ≡ None
    go true e h f g = f h
    go false true h f g = cc
    go false false h f g = g h

-- where a count is first over its limit
record BrokenAt (count : List Token → Option ℕ) (ts : List Token) (left : ℕ) : Type 0 where
  front : List Token
  token : Token
  rest : List Token
  is : ts ≡ front ++ token ∷ rest
  left_is : length (token ∷ rest) ≡ left
  within : count front ≡ None
  breaks : ¬ (count (front ++ token ∷ []) ≡ None)

-- a count that goes on behind a token as another one
behind_token : (count more : List Token → Option ℕ) (t : Token) (ts : List Token) (left : ℕ) → ((us : List Token) → count (t ∷ us) ≡ more us) → BrokenAt more ts left → BrokenAt count (t ∷ ts) left
behind_token count more t ts left same x = record {
  front = t ∷ x.front;
  token = x.token;
  rest = x.rest;
  is = ap (λ l. t ∷ l) x.is;
  left_is = x.left_is;
  within = same x.front ∙ x.within;
  breaks = λ k. x.breaks (sym (same (x.front ++ x.token ∷ [])) ∙ k);
}

-- a count that is over its limit with the first token
over_first : (count : List Token → Option ℕ) (t : Token) (ts : List Token) (left : ℕ) → length (t ∷ ts) ≡ left → count [] ≡ None → count (t ∷ []) ≡ Some 1 → BrokenAt count (t ∷ ts) left
over_first count t ts left n none one = record { front = []; token = t; rest = ts; is = refl; left_is = n; within = none; breaks = λ k. cc }

lists_broken_at : (n : ℕ) (ts : List Token) (left : ℕ) → broken_lists n ts ≡ Some left → BrokenAt (broken_lists n) ts left
lists_broken_at n [] left h = cc
lists_broken_at n (t ∷ ts) left h = go (nat_lt most_lists (lists_after n t.kind)) refl h (lists_broken_at (lists_after n t.kind) ts left)
  where
    go : (e : Bool) → nat_lt most_lists (lists_after n t.kind) ≡ e → cond e (Some (length (t ∷ ts))) (broken_lists (lists_after n t.kind) ts) ≡ Some left → (broken_lists (lists_after n t.kind) ts ≡ Some left → BrokenAt (broken_lists (lists_after n t.kind)) ts left) → BrokenAt (broken_lists n) (t ∷ ts) left
    go true e h f = over_first (broken_lists n) t ts left (cc) refl (ap (λ b. cond b (Some 1) None) e)
    go false e h f = behind_token (broken_lists n) (broken_lists (lists_after n t.kind)) t ts left (λ us. ap (λ b. cond b (Some (length (t ∷ us))) (broken_lists (lists_after n t.kind) us)) e) (f h)

broken_at : (n : Nesting) (ts : List Token) (left : ℕ) → broken n ts ≡ Some left → BrokenAt (broken n) ts left
broken_at n [] left h = cc
broken_at n (t ∷ ts) left h = go (is_kind t.kind k.keyword_object) (too_deep (after n t.kind)) refl refl h (lists_broken_at 0 ts left) (broken_at (after n t.kind) ts left)
  where
    step : (o e : Bool) → is_kind t.kind k.keyword_object ≡ o → too_deep (after n t.kind) ≡ e → (us : List Token) → broken n (t ∷ us) ≡ cond o (broken_lists 0 us) (cond e (Some (length (t ∷ us))) (broken (after n t.kind) us))
    step o e i j us = ap (λ b. cond b (broken_lists 0 us) (cond (too_deep (after n t.kind)) (Some (length (t ∷ us))) (broken (after n t.kind) us))) i ∙ ap (λ b. cond o (broken_lists 0 us) (cond b (Some (length (t ∷ us))) (broken (after n t.kind) us))) j

    go : (o e : Bool) → is_kind t.kind k.keyword_object ≡ o → too_deep (after n t.kind) ≡ e → cond o (broken_lists 0 ts) (cond e (Some (length (t ∷ ts))) (broken (after n t.kind) ts)) ≡ Some left
        → (broken_lists 0 ts ≡ Some left → BrokenAt (broken_lists 0) ts left) → (broken (after n t.kind) ts ≡ Some left → BrokenAt (broken (after n t.kind)) ts left) → BrokenAt (broken n) (t ∷ ts) left
    go true e i j h f g = behind_token (broken n) (broken_lists 0) t ts left (step true e i j) (f h)
    go false true i j h f g = over_first (broken n) t ts left (cc) refl (step false true i j [])
    go false false i j h f g = behind_token (broken n) (broken (after n t.kind)) t ts left (step false false i j) (g h)

-- a list before a shorter end of another is a front of it
before_end : (a : List Token) (t : Token) (b : List Token) (r : Token) (rs : List Token) → a ++ t ∷ [] ≡ b ++ r ∷ rs → (c : List Token) × (a ≡ b ++ c)
before_end a t [] r rs h = (a, refl)
before_end [] t (x ∷ b) r rs h = absurd (omega (arith, simp length-append at (ap length h)))
before_end (y ∷ a) t (x ∷ b) r rs h = let i = before_end a t b r rs (cc) in (i.0, cc (i.1))

pub behind_some : (left more : ℕ) → 0 < more → behind left more ≡ refusals.Unexpected (left + (more - 1))
behind_some left zero h = absurd (omega arith)
behind_some left (suc m) h = let e : m ≡ suc m - 1 = omega arith in ap (λ k. refusals.Unexpected (left + k)) e

module _ (start : Nonterminal) (source : List ℕ) (ts : List Token) where
  -- where the next token begins with so many tokens left
  abbrev place : ℕ → ℕ
  place left = place_of source (drop (length ts - left) ts)

  -- What the code answers, the tokens have; where they are refused, so many of them are left at the place.
  abbrev pub Reads : Result (TreeOf start) Refusal → Type 0
  Reads (Ok x) = DerivesAs start source ts x × Within ts
  Reads (Err (refusals.Unexpected left)) = (left ≤ length ts) × UnexpectedAt start source ts (place left)
  Reads (Err (refusals.TooNested left)) = (left ≤ length ts) × TooNestedAt start source ts (place left)
  Reads (Err refusals.Memory) = ⊥

  few : (front rest : List Token) (left : ℕ) → ts ≡ front ++ rest → length rest ≡ left → left ≤ length ts
  few front rest left e n = omega (arith, n, simp length-append at (ap length e))

  -- where so many tokens are left
  place_is : (front rest : List Token) (left : ℕ) → ts ≡ front ++ rest → length rest ≡ left → place left ≡ place_of source rest
  place_is front rest left e n =
      let k : length ts - left ≡ length front = omega (arith, n, simp length-append at (ap length e)) in
      ap (place_of source) (ap (λ i. drop i ts) k ∙ ap (drop (length front)) e ∙ drop-append_seam front rest)

  unexpected : (front rest : List Token) (left : ℕ) → ts ≡ front ++ rest → length rest ≡ left → Within front → IsTextPrefix start source front → Stuck start source front rest → Reads (Err (refusals.Unexpected left))
  unexpected front rest left e n w g k = (few front rest left e n, record { front = front; rest = rest; is = e; within = w; goes = g; stuck = k; place = place_is front rest left e n })

  reads_unlimited : Within ts → (r : Result (TreeOf start) ℕ) → whole_of start source ts ≡ r → Reads (unlimited r)
  reads_unlimited w (Ok x) h = (whole_sound start source ts x h, w)
  reads_unlimited w (Err left) h =
      let b = whole_breaks start source ts left h in
      unexpected b.front b.rest left b.is b.left_is (within_prefix nothing_open b.front b.rest (subst Within b.is w)) b.goes b.stuck

  front_is : (left : ℕ) (x : BrokenAt (broken nothing_open) ts left) → take (length ts - left + 1) ts ≡ x.front ++ x.token ∷ []
  front_is left x =
      let whole : ts ≡ (x.front ++ x.token ∷ []) ++ x.rest = x.is ∙ sym (append_assoc x.front (x.token ∷ []) x.rest) in
      let n : length ts - left + 1 ≡ length (x.front ++ x.token ∷ []) = omega (arith, x.left_is, simp length-append at (ap length x.is), length-append x.front (x.token ∷ [])) in
      ap (λ k. take k ts) n ∙ ap (take (length (x.front ++ x.token ∷ []))) whole ∙ take-append_seam (x.front ++ x.token ∷ []) x.rest

  nested : (left : ℕ) (x : BrokenAt (broken nothing_open) ts left) → IsTextPrefix start source (x.front ++ x.token ∷ []) → Reads (Err (refusals.TooNested left))
  nested left x g =
      (few x.front (x.token ∷ x.rest) left x.is x.left_is, record { front = x.front; token = x.token; rest = x.rest; is = x.is; within = x.within; breaks = x.breaks; goes = g; place = place_is x.front (x.token ∷ x.rest) left x.is x.left_is })

  reads_cut : (left : ℕ) (x : BrokenAt (broken nothing_open) ts left) (r : Result (TreeOf start) ℕ) → whole_of start source (x.front ++ x.token ∷ []) ≡ r → Reads (cut_at left r)
  reads_cut left x (Ok p) h = nested left x (whole_prefix source (whole_sound start source (x.front ++ x.token ∷ []) p h))
  reads_cut left x (Err zero) h = ended (whole_breaks start source (x.front ++ x.token ∷ []) 0 h)
    where
      at_end : (front rest : List Token) → x.front ++ x.token ∷ [] ≡ front ++ rest → length rest ≡ 0 → IsTextPrefix start source front → Reads (Err (refusals.TooNested left))
      at_end front [] e n g = nested left x (subst (IsTextPrefix start source) (sym (e ∙ append-nil front)) g)
      at_end front (t ∷ rest) e n g = absurd (omega (arith, n))

      ended : Breaks start source (x.front ++ x.token ∷ []) 0 → Reads (Err (refusals.TooNested left))
      ended b = at_end b.front b.rest b.is b.left_is b.goes
  reads_cut left x (Err (suc m)) h = stops (whole_breaks start source (x.front ++ x.token ∷ []) (suc m) h)
    where
      at_token : (front rest : List Token) → x.front ++ x.token ∷ [] ≡ front ++ rest → length rest ≡ suc m → IsTextPrefix start source front → Stuck start source front rest → Reads (Err (refusals.Unexpected (left + m)))
      at_token front [] e n g k = absurd (omega (arith, n))
      at_token front (t ∷ rest) e n g k =
          let i = before_end x.front x.token front t rest e in
          unexpected front (t ∷ (rest ++ x.rest)) (left + m) (x.is ∙ sym (append_assoc x.front (x.token ∷ []) x.rest) ∙ ap (λ l. l ++ x.rest) e ∙ append_assoc front (t ∷ rest) x.rest)
          (omega (arith, n, x.left_is, length-append rest x.rest)) (within_prefix nothing_open front i.0 (subst Within i.1 x.within)) g k

      stops : Breaks start source (x.front ++ x.token ∷ []) (suc m) → Reads (Err (refusals.Unexpected (left + m)))
      stops b = at_token b.front b.rest b.is b.left_is b.goes b.stuck

  pub limited_reads : Reads (limited_of start source ts)
  unfolding limited_of
  limited_reads = go (broken nothing_open ts) refl
    where
      go : (o : Option ℕ) → broken nothing_open ts ≡ o → Reads (by_limit start source ts o)
      go None e = reads_unlimited e (whole_of start source ts) refl
      go (Some left) e =
          let x = broken_at nothing_open ts left e in
          subst (λ l. Reads (cut_at left (whole_of start source l))) (sym (front_is left x)) (reads_cut left x (whole_of start source (x.front ++ x.token ∷ [])) refl)

  -- reading stops within the tokens
  pub stops_within : (left : ℕ) → whole_of start source ts ≡ Err left → left ≤ length ts
  stops_within left h =
      let b = whole_breaks start source ts left h in
      omega (arith, b.left_is, simp length-append at (ap length b.is))

  pub told_ok : (x : TreeOf start) → limited_of start source ts ≡ Ok x → ReadAs start source ts (Ok x)
  told_ok x h = subst Reads h limited_reads

  pub told_unexpected : (left : ℕ) → limited_of start source ts ≡ Err (refusals.Unexpected left) → ReadAs start source ts (Err (errors.Unexpected (place_of source (drop (length ts - left) ts))))
  told_unexpected left h = let u : Reads (Err (refusals.Unexpected left)) = subst Reads h limited_reads in u.1

  pub told_nested : (left : ℕ) → limited_of start source ts ≡ Err (refusals.TooNested left) → ReadAs start source ts (Err (errors.TooNested (place_of source (drop (length ts - left) ts))))
  told_nested left h = let u : Reads (Err (refusals.TooNested left)) = subst Reads h limited_reads in u.1

  pub unexpected_within : (left : ℕ) → limited_of start source ts ≡ Err (refusals.Unexpected left) → left ≤ length ts
  unexpected_within left h = let u : Reads (Err (refusals.Unexpected left)) = subst Reads h limited_reads in u.0

  pub nested_within : (left : ℕ) → limited_of start source ts ≡ Err (refusals.TooNested left) → left ≤ length ts
  nested_within left h = let u : Reads (Err (refusals.TooNested left)) = subst Reads h limited_reads in u.0

  -- the tokens have an outcome
  pub some_read : AtLeastOne (ReadAs start source ts)
  some_read = go (limited_of start source ts) refl
    where
      go : (r : Result (TreeOf start) Refusal) → limited_of start source ts ≡ r → AtLeastOne (ReadAs start source ts)
      go (Ok x) h = (Ok x, told_ok x h)
      go (Err (refusals.Unexpected left)) h = (Err (errors.Unexpected (place left)), told_unexpected left h)
      go (Err (refusals.TooNested left)) h = (Err (errors.TooNested (place left)), told_nested left h)
      go (Err refusals.Memory) h = absurd (subst Reads h limited_reads)
