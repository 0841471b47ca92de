-- The reading function is what its derivations say, and it reads by the table.
use Rattle.std.proofs.Common.{◌≡◌, ℕ, zero, suc, ◌+◌, ◌*◌, ◌<◌, ◌≤◌, Bool, true, false, cond, List, [], ◌∷◌, length, refl, ap, sym, ◌∙◌, Option, Some, None, Ok, Err, arith, ltb, ltb-true, lt-ltb}
use Rattle.std.proofs.lemmas.Bool.{and_left, and_parts, and_from}
use Rattle.rb_trees.specs.declared.tokens.Token.{Token}
use Rattle.rb_trees.specs.declared.tokens.TokenKind.{TokenKind}
use Rattle.rb_trees.specs.Kinds.{is_kind}
use Rattle.rb_meaning_bytes.specs.grammar.Symbols.{Symbol, Terminal, The, Nonterminal, TreeOf, Trees, Makes, made}
use Rattle.rb_parse.specs.Table.{Choice, may_be_empty, predict}
use Rattle.rb_parse.specs.Reading.{Read, Reader, ◌>>=◌, take_kind, read_into, by_choice, rank, read, read_of}
use Rattle.rb_parse.proofs.Checks.{implies, implied, implies_true, ranked}
use Rattle.rb_parse.proofs.Predicts.{sound, predict_in, check_of}
use Rattle.rb_parse.proofs.Takes as d
use Rattle.rb_parse.proofs.Takes.{Takes, Stops, shorter}

take_yes : (kind : TokenKind) (t : Token) (ts : List Token) → is_kind t.kind kind ≡ true → take_kind kind (t ∷ ts) ≡ Ok (t, ts)
take_yes kind t ts h = ap {B = Read Token} (λ b. cond b (Ok (t, ts)) (Err (length (t ∷ ts)))) h

take_no : (kind : TokenKind) (t : Token) (ts : List Token) → is_kind t.kind kind ≡ false → take_kind kind (t ∷ ts) ≡ Err (length (t ∷ ts))
take_no kind t ts h = ap {B = Read Token} (λ b. cond b (Ok (t, ts)) (Err (length (t ∷ ts)))) h

module _ (source : List ℕ) where
  all_ranked : (l : List Symbol) → ranked 16 l ≡ true
  all_ranked [] = refl
  all_ranked (Terminal kind ∷ l) = refl
  all_ranked (The p ∷ l) = and_from (ltb (rank p) 16) (implies (may_be_empty p) (ranked 16 l)) (lt-ltb (rank p) 16 (check_of source p).small) (implies_true (may_be_empty p) (ranked 16 l) (λ e. all_ranked l))

  -- the symbols behind a part are within the bound
  record Room (bound : ℕ) (l : List Symbol) (ts : List Token) : Type 0 where
    r : ℕ
    fits : 16 * length ts + r ≤ bound
    ranks : ranked r l ≡ true

  room_behind : (bound r : ℕ) (p : Nonterminal) (l : List Symbol) (c : Choice source p) (ts us : List Token) (ys : Trees c.parts) → predict source p ts ≡ Some c → Takes source c.parts ts ys us → 16 * length ts + r ≤ bound → ranked r (The p ∷ l) ≡ true → Room bound l us
  room_behind bound r p l c ts us ys h k fits ranks = go (may_be_empty p) refl
    where
      go : (e : Bool) → may_be_empty p ≡ e → Room bound l us
      go true e =
          let s = (shorter source (d.part c h k d.done)).no_longer in
          record { r = r; fits = omega arith; ranks = implied (may_be_empty p) (ranked r l) (and_parts (ltb (rank p) r) (implies (may_be_empty p) (ranked r l)) ranks).1 e }
      go false e =
          let s = (shorter source (d.part c h k d.done)).some (and_left (may_be_empty p) true e) in
          record { r = 16; fits = omega arith; ranks = all_ranked l }

  below : (bound r : ℕ) (p : Nonterminal) (l : List Symbol) (ts : List Token) → 16 * length ts + r ≤ bound → ranked r (The p ∷ l) ≡ true → 16 * length ts + rank p < bound
  below bound r p l ts fits ranks =
      let k : rank p < r = ltb-true (rank p) r (and_parts (ltb (rank p) r) (implies (may_be_empty p) (ranked r l)) ranks).0 in
      omega arith

  -- How a part comes out.
  pub data Came (p : Nonterminal) (ts : List Token) : Type 0 where
    taken : (c : Choice source p) (ys : Trees c.parts) (us : List Token) → predict source p ts ≡ Some c → Takes source c.parts ts ys us → Came p ts
    untold : predict source p ts ≡ None → Came p ts
    stopped : (c : Choice source p) (m : ℕ) → predict source p ts ≡ Some c → Stops source c.parts ts m → Came p ts

  -- How symbols come out.
  pub data Outcome (l : List Symbol) (ts : List Token) : Type 0 where
    takes : (xs : Trees l) (us : List Token) → Takes source l ts xs us → Outcome l ts
    stops : (m : ℕ) → Stops source l ts m → Outcome l ts

  outcomes : (bound : ℕ) → ((p : Nonterminal) (ts : List Token) → 16 * length ts + rank p < bound → Came p ts) → (l : List Symbol) (r : ℕ) (ts : List Token) → 16 * length ts + r ≤ bound → ranked r l ≡ true → Outcome l ts
  outcomes bound f [] r ts fits ranks = takes tt ts d.done
  outcomes bound f (Terminal kind ∷ l) r [] fits ranks = stops 0 d.ended
  outcomes bound f (Terminal kind ∷ l) r (t ∷ ts) fits ranks = go (is_kind t.kind kind) refl (outcomes bound f l 16 ts (omega arith) (all_ranked l))
    where
      go : (e : Bool) → is_kind t.kind kind ≡ e → Outcome l ts → Outcome (Terminal kind ∷ l) (t ∷ ts)
      go false e o = stops (length (t ∷ ts)) (d.wrong t ts e)
      go true e (takes xs us k) = takes (t, xs) us (d.token t e k)
      go true e (stops m k) = stops m (d.behind_token t e k)
  outcomes bound f (The p ∷ l) r ts fits ranks = go (f p ts (below bound r p l ts fits ranks)) (λ rank us h k. outcomes bound f l rank us h k)
    where
      after : (c : Choice source p) (ys : Trees c.parts) (us : List Token) → predict source p ts ≡ Some c → Takes source c.parts ts ys us → Outcome l us → Outcome (The p ∷ l) ts
      after c ys us h k (takes xs vs i) = takes (made c.parts (TreeOf p) c.makes ys, xs) vs (d.part c h k i)
      after c ys us h k (stops m i) = stops m (d.behind_part c h k i)

      go : Came p ts → ((rank : ℕ) (us : List Token) → 16 * length us + rank ≤ bound → ranked rank l ≡ true → Outcome l us) → Outcome (The p ∷ l) ts
      go (taken c ys us h k) g = let w = room_behind bound r p l c ts us ys h k fits ranks in after c ys us h k (g w.r us w.fits w.ranks)
      go (untold h) g = stops (length ts) (d.none ts h)
      go (stopped c m h k) g = stops m (d.within c h k)

  pub came : (bound : ℕ) (p : Nonterminal) (ts : List Token) → 16 * length ts + rank p < bound → Came p ts
  came zero p ts h = absurd (omega arith)
  came (suc n) p ts h = go (predict source p ts) refl (λ c. outcomes n (came n) c.parts (rank p) ts (omega arith))
    where
      out : (c : Choice source p) → predict source p ts ≡ Some c → Outcome c.parts ts → Came p ts
      out c e (takes ys us k) = taken c ys us e k
      out c e (stops m k) = stopped c m e k

      go : (o : Option (Choice source p)) → predict source p ts ≡ o → ((c : Choice source p) → ranked (rank p) c.parts ≡ true → Outcome c.parts ts) → Came p ts
      go None e f = untold e
      go (Some c) e f = out c e (f c (sound c (predict_in c ts e)).ranks)

  -- A reader reads parts as they come out, within a bound.
  pub record Good (read : Reader) (bound : ℕ) : Type 0 where
    pub takes : {p : Nonterminal} (c : Choice source p) (ts : List Token) (ys : Trees c.parts) (us : List Token) → 16 * length ts + rank p < bound → predict source p ts ≡ Some c → Takes source c.parts ts ys us → read p ts ≡ Ok (made c.parts (TreeOf p) c.makes ys, us)
    pub none : (p : Nonterminal) (ts : List Token) → 16 * length ts + rank p < bound → predict source p ts ≡ None → read p ts ≡ Err (length ts)
    pub stops : {p : Nonterminal} (c : Choice source p) (ts : List Token) (m : ℕ) → 16 * length ts + rank p < bound → predict source p ts ≡ Some c → Stops source c.parts ts m → read p ts ≡ Err m

  module _ (R : Reader) (bound : ℕ) (good : Good R bound) where
    pub takes_into : {l : List Symbol} {ts us : List Token} {xs : Trees l} → Takes source l ts xs us → (r : ℕ) → 16 * length ts + r ≤ bound → ranked r l ≡ true → (T : Type 0) (f : Makes l T) → read_into R l T f ts ≡ Ok (made l T f xs, us)
    takes_into d.done r fits ranks T f = refl
    takes_into (d.token {kind} {l} {ts} t h k) r fits ranks T f =
        ap (λ b. b >>= λ a. read_into R l T (f a.0) a.1) (take_yes kind t ts h)
        ∙ takes_into k 16 (omega arith) (all_ranked l) T (f t)
    takes_into (d.part {p} {l} {ts} {ms} c {ys} h k i) r fits ranks T f =
        let w = room_behind bound r p l c ts ms ys h k fits ranks in
        ap (λ b. b >>= λ a. read_into R l T (f a.0) a.1) (good.takes c ts ys ms (below bound r p l ts fits ranks) h k)
        ∙ takes_into i w.r w.fits w.ranks T (f (made c.parts (TreeOf p) c.makes ys))

    pub stops_into : {l : List Symbol} {ts : List Token} {m : ℕ} → Stops source l ts m → (r : ℕ) → 16 * length ts + r ≤ bound → ranked r l ≡ true → (T : Type 0) (f : Makes l T) → read_into R l T f ts ≡ Err m
    stops_into d.ended r fits ranks T f = refl
    stops_into (d.wrong {kind} {l} t ts h) r fits ranks T f = ap (λ b. b >>= λ a. read_into R l T (f a.0) a.1) (take_no kind t ts h)
    stops_into (d.behind_token {kind} {l} {ts} t h k) r fits ranks T f =
        ap (λ b. b >>= λ a. read_into R l T (f a.0) a.1) (take_yes kind t ts h)
        ∙ stops_into k 16 (omega arith) (all_ranked l) T (f t)
    stops_into (d.none {p} {l} ts h) r fits ranks T f = ap (λ b. b >>= λ a. read_into R l T (f a.0) a.1) (good.none p ts (below bound r p l ts fits ranks) h)
    stops_into (d.within {p} {l} {ts} {m} c h k) r fits ranks T f = ap (λ b. b >>= λ a. read_into R l T (f a.0) a.1) (good.stops c ts m (below bound r p l ts fits ranks) h k)
    stops_into (d.behind_part {p} {l} {ts} {ms} c {ys} h k i) r fits ranks T f =
        let w = room_behind bound r p l c ts ms ys h k fits ranks in
        ap (λ b. b >>= λ a. read_into R l T (f a.0) a.1) (good.takes c ts ys ms (below bound r p l ts fits ranks) h k)
        ∙ stops_into i w.r w.fits w.ranks T (f (made c.parts (TreeOf p) c.makes ys))

  good_read : (n : ℕ) → Good (read source n) n
  unfolding read
  good_read zero = record { takes = λ c ts ys us b h k. absurd (omega arith); none = λ p ts b h. absurd (omega arith); stops = λ c ts m b h k. absurd (omega arith) }
  good_read (suc n) = record {
    takes = λ {p} c ts ys us b h k. ap (λ o. by_choice (read source n) o ts) h ∙ takes_into (read source n) n (good_read n) k (rank p) (omega arith) (sound c (predict_in c ts h)).ranks (TreeOf p) c.makes;
    none = λ p ts b h. ap (λ o. by_choice (read source n) o ts) h;
    stops = λ {p} c ts m b h k. ap (λ o. by_choice (read source n) o ts) h ∙ stops_into (read source n) n (good_read n) k (rank p) (omega arith) (sound c (predict_in c ts h)).ranks (TreeOf p) c.makes;
  }

  pub good_of : (bound : ℕ) → Good (read_of source) bound
  unfolding read_of
  good_of bound = record {
    takes = λ {p} c ts ys us b h k. (good_read (suc (16 * length ts + rank p))).takes c ts ys us (omega arith) h k;
    none = λ p ts b h. (good_read (suc (16 * length ts + rank p))).none p ts (omega arith) h;
    stops = λ {p} c ts m b h k. (good_read (suc (16 * length ts + rank p))).stops c ts m (omega arith) h k;
  }

  -- what symbols take is read
  pub read_takes : {l : List Symbol} {ts us : List Token} {xs : Trees l} → Takes source l ts xs us → (T : Type 0) (f : Makes l T) → read_into (read_of source) l T f ts ≡ Ok (made l T f xs, us)
  read_takes {l} {ts} k T f = takes_into (read_of source) (16 * length ts + 16) (good_of (16 * length ts + 16)) k 16 (omega arith) (all_ranked l) T f

  pub read_stops : {l : List Symbol} {ts : List Token} {m : ℕ} → Stops source l ts m → (T : Type 0) (f : Makes l T) → read_into (read_of source) l T f ts ≡ Err m
  read_stops {l} {ts} k T f = stops_into (read_of source) (16 * length ts + 16) (good_of (16 * length ts + 16)) k 16 (omega arith) (all_ranked l) T f

  -- a part is read by the production that the table tells
  pub reads : (p : Nonterminal) (ts : List Token) → read_of source p ts ≡ by_choice (read_of source) (predict source p ts) ts
  reads p ts = go (came (suc (16 * length ts + rank p)) p ts (omega arith))
    where
      go : Came p ts → read_of source p ts ≡ by_choice (read_of source) (predict source p ts) ts
      go (taken c ys us h k) = (good_of (suc (16 * length ts + rank p))).takes c ts ys us (omega arith) h k ∙ sym (ap (λ o. by_choice (read_of source) o ts) h ∙ read_takes k (TreeOf p) c.makes)
      go (untold h) = (good_of (suc (16 * length ts + rank p))).none p ts (omega arith) h ∙ sym (ap (λ o. by_choice (read_of source) o ts) h)
      go (stopped c m h k) = (good_of (suc (16 * length ts + rank p))).stops c ts m (omega arith) h k ∙ sym (ap (λ o. by_choice (read_of source) o ts) h ∙ read_stops k (TreeOf p) c.makes)
