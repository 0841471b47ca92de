-- Every prefix goes on to a text, and a text is read: so reading stops at the first token that no text has there.
use Rattle.std.proofs.Common.{◌≡◌, ℕ, suc, ◌+◌, ◌*◌, List, [], ◌∷◌, ◌++◌, length, refl, ap, sym, ◌∙◌, subst, Result, Ok, Err, arith, append_assoc, append-nil, subst₂}
use Rattle.rb_trees.specs.declared.tokens.Token.{Token}
use Rattle.rb_trees.specs.declared.tokens.TokenKind.{TokenKind}
use Rattle.rb_trees.specs.declared.tokens.TokenKind.TheVariants as kind
use Rattle.rb_trees.specs.Kinds as k
use Rattle.rb_meaning_bytes.specs.grammar.Symbols as s
use Rattle.rb_meaning_bytes.specs.grammar.Symbols.{Symbol, Terminal, The, Nonterminal, Chain, MoreChain, Expression, TreeOf, Trees, Makes, made}
use Rattle.rb_meaning_bytes.specs.grammar.Productions as r
use Rattle.rb_meaning_bytes.specs.grammar.Productions.{Production}
use Rattle.rb_meaning_bytes.specs.grammar.Derives as g
use Rattle.rb_meaning_bytes.specs.grammar.Derives.{Spells, IsPrefix, DerivesAs, Stuck, Breaks}
use Rattle.rb_parse.specs.Reading.{Read, ◌>>=◌, alone, read_of, rank, whole_of}
use Rattle.rb_parse.proofs.Takes.{Takes, Stops, done, part, none, within, took, halts, takes_local, stops_local}
use Rattle.rb_parse.proofs.Complete.{complete}
use Rattle.rb_parse.proofs.Parted as parts
use Rattle.rb_parse.proofs.Parted.{Parted, parted}
use Rattle.rb_parse.proofs.Function.{Came, taken, untold, stopped, came, read_takes, read_stops}

abbrev value : {A : Type 0} → A → Result A ℕ → A
value d (Ok x) = x
value d (Err e) = d

read_again : {A : Type 0} (r : Read A) → (r >>= λ a. Ok (a.0, a.1)) ≡ r
read_again (Ok x) = refl
read_again (Err e) = refl

module _ (source : List ℕ) where
  pub record Spelled (l : List Symbol) : Type 0 where
    pub tokens : List Token
    pub trees : Trees l
    pub spells : Spells source l tokens trees

  nil : Spelled []
  nil = record { tokens = []; trees = tt; spells = g.nothing }

  a : {l : List Symbol} (kind : TokenKind) → Spelled l → Spelled (Terminal kind ∷ l)
  a kind x = let t : Token = record { kind = kind; start = 0; end = 0 } in record { tokens = t ∷ x.tokens; trees = (t, x.trees); spells = g.token t x.spells }

  by : {p : Nonterminal} {m l : List Symbol} {f : Makes m (TreeOf p)} → Production source p m f → Spelled m → Spelled l → Spelled (The p ∷ l)
  by {p} {m} {f = f} r x y = record { tokens = x.tokens ++ y.tokens; trees = (made m (TreeOf p) f x.trees, y.trees); spells = g.production r x.spells y.spells }

  prefix : {l : List Symbol} → Spelled l → Spelled (The s.Prefix ∷ l)
  prefix x = by r.postfix (by r.first (by r.this (a k.keyword_this nil) (by r.no_members nil nil)) nil) x

  expr : {l : List Symbol} → Spelled l → Spelled (The Expression ∷ l)
  expr x = by r.alternatives (by r.conditions (by r.comparison (by r.ordering (by r.sum (by r.product (prefix (by (r.last_operand s.ProductLevel) nil nil)) (by (r.last_operand s.SumLevel) nil nil)) (by (r.last_operand s.OrderLevel) nil nil)) (by (r.last_operand s.SameLevel) nil nil)) (by (r.last_operand s.AndLevel) nil nil)) (by (r.last_operand s.OrLevel) nil nil)) x

  a_block : {l : List Symbol} → Spelled l → Spelled (The s.Block ∷ l)
  a_block x = by r.block (a k.sign_open_brace (by r.no_statements nil (a k.sign_close_brace nil))) x

  a_body : {l : List Symbol} → Spelled l → Spelled (The s.ABody ∷ l)
  a_body x = by r.body (a k.sign_open_brace (by r.no_statements nil (by r.no_return nil (a k.sign_close_brace nil)))) x

  a_signature : {l : List Symbol} → Spelled l → Spelled (The s.ASignature ∷ l)
  a_signature x = by r.signature (a k.keyword_fun (a kind.Name (a k.sign_open (by r.no_params nil (a k.sign_close (by r.no_result_type nil nil)))))) x

  -- every part has a spelling
  some_part : (p : Nonterminal) {l : List Symbol} → Spelled l → Spelled (The p ∷ l)
  some_part s.TheProgram x = by r.program (by r.no_interfaces nil (by r.no_classes nil (a k.keyword_main (by r.no_result_type nil (a_body nil))))) x
  some_part s.Interfaces x = by r.no_interfaces nil x
  some_part s.AnInterface x = by r.interface (a k.keyword_interface (a kind.Name (a k.sign_open_brace (by r.no_signatures nil (a k.sign_close_brace nil))))) x
  some_part s.Signatures x = by r.no_signatures nil x
  some_part s.ASignature x = a_signature x
  some_part s.Params x = by r.no_params nil x
  some_part s.MoreParams x = by r.last_param nil x
  some_part s.AParam x = by r.param (a kind.Name (a k.sign_colon (by r.int_type (a k.keyword_Int nil) nil))) x
  some_part s.ResultType x = by r.no_result_type nil x
  some_part s.Classes x = by r.no_classes nil x
  some_part s.AClass x = by r.class (a k.keyword_class (a kind.Name (a k.sign_open_brace (by r.no_fields nil (by r.no_methods nil (a k.sign_close_brace nil)))))) x
  some_part s.Fields x = by r.no_fields nil x
  some_part s.Methods x = by r.no_methods nil x
  some_part s.AMethod x = by r.local_method (a_signature (a_body nil)) x
  some_part s.AType x = by r.int_type (a k.keyword_Int nil) x
  some_part s.ABody x = a_body x
  some_part s.Returns x = by r.no_return nil x
  some_part s.Block x = a_block x
  some_part s.Statements x = by r.no_statements nil x
  some_part s.Statement x = by r.throw (a k.keyword_throw (expr (a k.sign_semicolon nil))) x
  some_part s.StatementEnd x = by r.alone (a k.sign_semicolon nil) x
  some_part s.Otherwise x = by r.no_else nil x
  some_part (Chain s.OrLevel) x = expr x
  some_part (Chain s.AndLevel) x = by r.conditions (by r.comparison (by r.ordering (by r.sum (by r.product (prefix (by (r.last_operand s.ProductLevel) nil nil)) (by (r.last_operand s.SumLevel) nil nil)) (by (r.last_operand s.OrderLevel) nil nil)) (by (r.last_operand s.SameLevel) nil nil)) (by (r.last_operand s.AndLevel) nil nil)) x
  some_part (Chain s.SameLevel) x = by r.comparison (by r.ordering (by r.sum (by r.product (prefix (by (r.last_operand s.ProductLevel) nil nil)) (by (r.last_operand s.SumLevel) nil nil)) (by (r.last_operand s.OrderLevel) nil nil)) (by (r.last_operand s.SameLevel) nil nil)) x
  some_part (Chain s.OrderLevel) x = by r.ordering (by r.sum (by r.product (prefix (by (r.last_operand s.ProductLevel) nil nil)) (by (r.last_operand s.SumLevel) nil nil)) (by (r.last_operand s.OrderLevel) nil nil)) x
  some_part (Chain s.SumLevel) x = by r.sum (by r.product (prefix (by (r.last_operand s.ProductLevel) nil nil)) (by (r.last_operand s.SumLevel) nil nil)) x
  some_part (Chain s.ProductLevel) x = by r.product (prefix (by (r.last_operand s.ProductLevel) nil nil)) x
  some_part (MoreChain level) x = by (r.last_operand level) nil x
  some_part s.Prefix x = prefix x
  some_part s.Postfix x = by r.first (by r.this (a k.keyword_this nil) (by r.no_members nil nil)) x
  some_part s.Members x = by r.no_members nil x
  some_part s.CallPart x = by r.no_call nil x
  some_part s.First x = by r.this (a k.keyword_this nil) x
  some_part s.Arguments x = by r.no_arguments nil x
  some_part s.MoreArguments x = by r.last_argument nil x
  some_part s.TheService x = by r.service (by r.no_classes nil (by r.no_objects nil (a k.keyword_root (a kind.Number (a k.sign_semicolon nil))))) x
  some_part s.Objects x = by r.no_objects nil x
  some_part s.AnObject x = by r.object (a k.keyword_object (a kind.Number (a k.sign_colon (a kind.Name (a k.sign_open_brace (by r.no_given_fields nil (a k.sign_close_brace nil))))))) x
  some_part s.GivenFields x = by r.no_given_fields nil x
  some_part s.ALiteral x = by r.literal_true (a k.keyword_true nil) x
  some_part s.Literals x = by r.no_literals nil x
  some_part s.MoreLiterals x = by r.last_literal nil x

  some : (l : List Symbol) → Spelled l
  some [] = nil
  some (Terminal kind ∷ l) = a kind (some l)
  some (The p ∷ l) = some_part p (some l)

  pub record GoesOn (l : List Symbol) (ts : List Token) : Type 0 where
    pub rest : List Token
    pub trees : Trees l
    pub spells : Spells source l (ts ++ rest) trees

  pub goes_on : {l : List Symbol} {ts : List Token} → IsPrefix source l ts → GoesOn l ts
  goes_on (g.none {l}) = let x = some l in record { rest = x.tokens; trees = x.trees; spells = x.spells }
  goes_on (g.after_token t f) = let x = goes_on f in record { rest = x.rest; trees = (t, x.trees); spells = g.token t x.spells }
  goes_on (g.within {p} {m} {l} {f} {ts} rule w) =
      let x = goes_on w in
      let y = some l in
      record { rest = x.rest ++ y.tokens; trees = (made m (TreeOf p) f x.trees, y.trees); spells = subst (λ z. Spells source (The p ∷ l) z (made m (TreeOf p) f x.trees, y.trees)) (append_assoc ts x.rest y.tokens) (g.production rule x.spells y.spells) }
  goes_on (g.past {p} {m} {l} {f} {ts} {us} {ys} rule e w) =
      let x = goes_on w in
      record { rest = x.rest; trees = (made m (TreeOf p) f ys, x.trees); spells = subst (λ z. Spells source (The p ∷ l) z (made m (TreeOf p) f ys, x.trees)) (sym (append_assoc ts us x.rest)) (g.production rule e x.spells) }

  -- what a spelling begins with is a prefix
  pub prefix_of : {l : List Symbol} {whole : List Token} {xs : Trees l} → Spells source l whole xs → (a b : List Token) → whole ≡ a ++ b → IsPrefix source l a
  prefix_of g.nothing [] b e = g.none
  prefix_of g.nothing (y ∷ a) b e = absurd (cc)
  prefix_of (g.token t s) [] b e = g.none
  prefix_of (g.token {l} t s) (y ∷ a) b e =
      let same : t ≡ y = cc in
      subst (λ z. IsPrefix source (Terminal t.kind ∷ l) (z ∷ a)) same (g.after_token t (prefix_of s a b (cc)))
  prefix_of (g.production {p} {m} {l} {f} {ts} {us} {ys} {xs} rule s k) a b e = go (parted ts us a b e) s (prefix_of s) (prefix_of k)
    where
      go : {ts us a b : List Token} → Parted ts us a b → Spells source m ts ys → ((c d : List Token) → ts ≡ c ++ d → IsPrefix source m c) → ((c d : List Token) → us ≡ c ++ d → IsPrefix source l c) → IsPrefix source (The p ∷ l) a
      go (parts.same {a}) s one two = g.within rule (one a [] (sym (append-nil a)))
      go (parts.before {d} t more) s one two = g.past rule s (two (t ∷ more) d refl)
      go (parts.behind {c} t more) s one two = g.within rule (one c (t ∷ more) refl)

  -- a whole spelling is a prefix
  pub whole_prefix : {l : List Symbol} {ts : List Token} {xs : Trees l} → Spells source l ts xs → IsPrefix source l ts
  whole_prefix {ts = ts} e = prefix_of e ts [] (sym (append-nil ts))

  -- what a prefix begins with is one
  pub shorter_prefix : {l : List Symbol} (a b : List Token) → IsPrefix source l (a ++ b) → IsPrefix source l a
  shorter_prefix a b f = let x = goes_on f in prefix_of x.spells a (b ++ x.rest) (append_assoc a b x.rest)

module _ (start : Nonterminal) (source : List ℕ) where
  -- a text is taken whole
  text_taken : (ts : List Token) (x : TreeOf start) → DerivesAs start source ts x → Takes source (The start ∷ []) ts (x, tt) []
  text_taken ts x h = subst (λ z. Takes source (The start ∷ []) z (x, tt) []) (append-nil ts) (complete source h refl [] tt)

  not_both : {ts us : List Token} {xs : Trees (The start ∷ [])} {m : ℕ} → Takes source (The start ∷ []) ts xs us → Stops source (The start ∷ []) ts m → ⊥
  not_both h k = let x = read_takes source h (TreeOf start) (λ p. p) in let y = read_stops source k (TreeOf start) (λ p. p) in cc

  one_rest : {ts us vs : List Token} {xs ys : Trees (The start ∷ [])} → Takes source (The start ∷ []) ts xs us → Takes source (The start ∷ []) ts ys vs → (xs.0 ≡ ys.0) × (us ≡ vs)
  one_rest {ts} {us} {vs} {xs} {ys} h k =
      let e : ◌≡◌ {A = Read (TreeOf start)} (Ok (xs.0, us)) (Ok (ys.0, vs)) = sym (read_takes source h (TreeOf start) (λ p. p)) ∙ read_takes source k (TreeOf start) (λ p. p) in
      (ap (λ r. (value {A = TreeOf start × List Token} (xs.0, us) r).0) e, ap (λ r. (value {A = TreeOf start × List Token} (xs.0, us) r).1) e)

  -- A list of tokens derives at most one text.
  pub one_tree : (ts : List Token) (x y : TreeOf start) → DerivesAs start source ts x → DerivesAs start source ts y → x ≡ y
  one_tree ts x y h k = (one_rest (text_taken ts x h) (text_taken ts y k)).0

  -- how a text comes out
  whole : (ts : List Token) → Came source start ts
  whole ts = came source (suc (16 * length ts + rank start)) start ts (omega arith)

  read_whole : {ts us : List Token} {x : TreeOf start} → Takes source (The start ∷ []) ts (x, tt) us → whole_of start source ts ≡ alone x us
  unfolding whole_of
  read_whole {ts} {us} {x} h =
      let e : read_of source start ts ≡ Ok (x, us) = sym (read_again (read_of source start ts)) ∙ read_takes source h (TreeOf start) (λ p. p) in
      ap (λ r. r >>= λ a. alone a.0 a.1) e

  -- What is derived is read.
  pub whole_complete : (ts : List Token) (x : TreeOf start) → DerivesAs start source ts x → whole_of start source ts ≡ Ok x
  whole_complete ts x h = read_whole (text_taken ts x h)

  read_stopped : {ts : List Token} {m : ℕ} → Stops source (The start ∷ []) ts m → whole_of start source ts ≡ Err m
  unfolding whole_of
  read_stopped {ts} {m} h =
      let e : read_of source start ts ≡ Err m = sym (read_again (read_of source start ts)) ∙ read_stops source h (TreeOf start) (λ p. p) in
      ap (λ r. r >>= λ a. alone a.0 a.1) e

  -- What is read is derived.
  pub whole_sound : (ts : List Token) (x : TreeOf start) → whole_of start source ts ≡ Ok x → DerivesAs start source ts x
  whole_sound ts x h = go (whole ts)
    where
      behind : (y : TreeOf start) (us : List Token) → Takes source (The start ∷ []) ts (y, tt) us → DerivesAs start source ts x
      behind y [] k =
          let w = took source k in
          let e : ◌≡◌ {A = Result (TreeOf start) ℕ} (Ok y) (Ok x) = sym (read_whole k) ∙ h in
          let same : y ≡ x = cc in
          subst₂ (λ z v. DerivesAs start source z v) (sym (w.is ∙ append-nil w.front)) same w.spells
      behind y (t ∷ us) k = let e : ◌≡◌ {A = Result (TreeOf start) ℕ} (Err (length (t ∷ us))) (Ok x) = sym (read_whole k) ∙ h in cc

      stops : (m : ℕ) → Stops source (The start ∷ []) ts m → DerivesAs start source ts x
      stops m k = let e : ◌≡◌ {A = Result (TreeOf start) ℕ} (Err m) (Ok x) = sym (read_stopped k) ∙ h in cc

      go : Came source start ts → DerivesAs start source ts x
      go (taken c ys us e k) = behind (made c.parts (TreeOf start) c.makes ys) us (part c e k done)
      go (untold e) = stops (length ts) (none ts e)
      go (stopped c m e k) = stops m (within c e k)

  -- Where reading stops, there stands the first token that no text has there.
  pub whole_breaks : (ts : List Token) (left : ℕ) → whole_of start source ts ≡ Err left → Breaks start source ts left
  whole_breaks ts left h = go (whole ts)
    where
      behind : (y : TreeOf start) (us : List Token) → Takes source (The start ∷ []) ts (y, tt) us → Breaks start source ts left
      behind y [] k = let e : ◌≡◌ {A = Result (TreeOf start) ℕ} (Ok y) (Err left) = sym (read_whole k) ∙ h in cc
      behind y (t ∷ us) k =
          let w = took source k in
          let e : ◌≡◌ {A = Result (TreeOf start) ℕ} (Err (length (t ∷ us))) (Err left) = sym (read_whole k) ∙ h in
          record {
            front = w.front;
            rest = t ∷ us;
            is = w.is;
            left_is = cc;
            goes = whole_prefix source w.spells;
            stuck = λ f.
                let x = goes_on source f in
                let all : Takes source (The start ∷ []) (w.front ++ t ∷ x.rest) x.trees [] = subst (λ z. Takes source (The start ∷ []) z x.trees []) (append_assoc w.front (t ∷ []) x.rest) (text_taken ((w.front ++ t ∷ []) ++ x.rest) x.trees.0 x.spells) in
                let some = takes_local source t us x.rest k w.front [] w.is refl in
                let rests : [] ≡ t ∷ x.rest = (one_rest all some).1 in
                cc;
          }

      stuck_at : (m : ℕ) (front rest : List Token) → Stops source (The start ∷ []) ts m → ts ≡ front ++ rest → length rest ≡ m → Stuck start source front rest
      stuck_at m front [] k e n = λ x f. not_both (text_taken front x f) (subst (λ z. Stops source (The start ∷ []) z m) (e ∙ append-nil front) k)
      stuck_at m front (t ∷ us) k e n = λ f.
          let x = goes_on source f in
          let all : Takes source (The start ∷ []) (front ++ t ∷ x.rest) x.trees [] = subst (λ z. Takes source (The start ∷ []) z x.trees []) (append_assoc front (t ∷ []) x.rest) (text_taken ((front ++ t ∷ []) ++ x.rest) x.trees.0 x.spells) in
          not_both all (stops_local source t us x.rest k front e (sym n))

      stops : (m : ℕ) → Stops source (The start ∷ []) ts m → Breaks start source ts left
      stops m k =
          let v = halts source k in
          let e : ◌≡◌ {A = Result (TreeOf start) ℕ} (Err m) (Err left) = sym (read_stopped k) ∙ h in
          record { front = v.front; rest = v.rest; is = v.is; left_is = v.left ∙ (cc); goes = v.begins; stuck = stuck_at m v.front v.rest k v.is v.left }

      go : Came source start ts → Breaks start source ts left
      go (taken c ys us e k) = behind (made c.parts (TreeOf start) c.makes ys) us (part c e k done)
      go (untold e) = stops (length ts) (none ts e)
      go (stopped c m e k) = stops m (within c e k)
