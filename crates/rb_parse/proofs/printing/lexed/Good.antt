-- Pieces of which each token has its form and is parted from what follows it: the text of such pieces has their tokens.
use Rattle.std.proofs.Common.{◌≡◌, ℕ, zero, suc, ◌+◌, ◌-◌, ◌<◌, ◌≤◌, Bool, true, List, [], ◌∷◌, ◌++◌, length, take, drop, refl, sym, ap, subst, ◌∙◌, arith, length-drop, length-append, IsUtf8}
use Rattle.std.proofs.lemmas.Bool.{and_parts}
use Rattle.std.proofs.lemmas.List.{drop-drop}
use Rattle.std.specs.List.{list_all}
use Rattle.std.proofs.lemmas.Str.{IsUtf8-append, IsUtf8-nil}
use Rattle.rb_trees.specs.declared.tokens.Token.{Token as Lexeme}
use Rattle.rb_trees.specs.declared.tokens.TokenKind.{TokenKind}
use Rattle.rb_trees.specs.printing.Pieces.{Piece, Token, Space, spelled}
use Rattle.rb_meaning_bytes.specs.tokens.Bytes.{is_separator}
use Rattle.rb_meaning_bytes.specs.tokens.Forms.{Form}
use Rattle.rb_meaning_bytes.specs.tokens.Begins.{Begins, Skips, separator}
use Rattle.rb_meaning_bytes.specs.tokens.Faults.{WithinLimits}
use Rattle.rb_meaning_bytes.specs.tokens.Lists.{Gap, none, Stands, TokensBetween, AllWithinLimits, is_minus}
use Rattle.rb_meaning_bytes.specs.tokens.Lists as lists
use Rattle.rb_lex.proofs.Slices.{not_empty}
use Rattle.rb_parse.proofs.printing.Spots.{tokens_at}
use Rattle.rb_parse.proofs.printing.lexed.Slices.{Parts, no_longer, no_comment}

-- The token has its form, and the text behind it may follow. The flag says that the token before it is a minus.
pub record IsGood (minus : Bool) (kind : TokenKind) (bytes : List ℕ) (text : List ℕ) : Type 0 where
  pub formed : Form kind bytes
  pub limits : WithinLimits minus kind bytes
  pub utf8 : IsUtf8 bytes
  pub parts : Parts kind text

-- Each token of the pieces is good, and each space is of separators. The flag says that the token before them is a minus.
abbrev pub Good : Bool → List Piece → Type 0
Good minus [] = Unit {0}
Good minus (Token kind bytes ∷ ps) = IsGood minus kind bytes (spelled ps) × Good (is_minus kind) ps
Good minus (Space bytes ∷ ps) = (list_all is_separator bytes ≡ true) × IsUtf8 bytes × Good minus ps

pub good_utf8 : (minus : Bool) (ps : List Piece) → Good minus ps → IsUtf8 (spelled ps)
good_utf8 minus [] g = IsUtf8-nil
good_utf8 minus (Token kind bytes ∷ ps) g = IsUtf8-append bytes (spelled ps) g.0.utf8 (good_utf8 (is_minus kind) ps g.1)
good_utf8 minus (Space bytes ∷ ps) g = IsUtf8-append bytes (spelled ps) g.1 (good_utf8 minus ps g.2)

-- what a text begins with

take_front : (w text : List ℕ) → take (length w) (w ++ text) ≡ w
take_front [] text = refl
take_front (b ∷ w) text = ap (λ v. b ∷ v) (take_front w text)

drop_front : (w text : List ℕ) → drop (length w) (w ++ text) ≡ text
drop_front [] text = refl
drop_front (b ∷ w) text = drop_front w text

abbrev Behind : List ℕ → List ℕ → ℕ → Type 0
Behind w text more = (b : ℕ) × (u : List ℕ) × (v : List ℕ) × (text ≡ b ∷ v) × (take more (w ++ text) ≡ w ++ b ∷ u)

behind : (w text : List ℕ) (more : ℕ) → length w < more → more ≤ length (w ++ text) → Behind w text more
behind [] [] more l m = absurd (omega arith)
behind [] (b ∷ v) zero l m = absurd (omega arith)
behind [] (b ∷ v) (suc n) l m = (b, take n v, v, refl, refl)
behind (a ∷ w) text zero l m = absurd (omega arith)
behind (a ∷ w) text (suc n) l m = let r = behind w text n (omega arith) (omega arith) in (r.0, r.1, r.2, r.3, ap (λ x. a ∷ x) r.4)

some_byte : (kind : TokenKind) (w : List ℕ) → Form kind w → 0 < length w
some_byte kind [] f = absurd (not_empty kind f)
some_byte kind (b ∷ w) f = omega arith

module _ (minus : Bool) (kind : TokenKind) (w text : List ℕ) (g : IsGood minus kind w text) where
  longest : (more : ℕ) → length w < more → more ≤ length (w ++ text) → (other : TokenKind) → ¬ Form other (take more (w ++ text))
  longest more l m other f =
      let r = behind w text more l m in
      no_longer kind w r.0 r.1 r.2 other g.formed (subst (Parts kind) r.3 g.parts) (subst (Form other) r.4 f)

  begins : Begins (w ++ text) kind (length w)
  begins = record {
    within = omega (arith, length-append w text);
    formed = subst (Form kind) (sym (take_front w text)) g.formed;
    longest = longest;
    no_comment = no_comment kind w text g.formed g.parts;
  }

gap_before : (whole : List ℕ) (from to : ℕ) (list : List Lexeme) (n : ℕ) → Skips (drop from whole) n → TokensBetween whole (from + n) list to → TokensBetween whole from list to
gap_before whole from to [] n s g = lists.skip n s g
gap_before whole from to (t ∷ ts) n s g = (lists.skip n s g.0, g.1, g.2)

module _ (whole : List ℕ) where
  -- the text is what stands in the whole from the offset on
  pub record At (at : ℕ) (text : List ℕ) : Type 0 where
    pub within : at ≤ length whole
    pub is : text ≡ drop at whole

  later : (at : ℕ) (w text : List ℕ) → At at (w ++ text) → At (at + length w) text
  later at w text h =
      let k = ap length h.is in
      let l = length-append w text in
      record { within = omega (arith, length-drop at whole, h.within); is = sym (drop_front w text) ∙ ap (drop (length w)) h.is ∙ drop-drop (length w) at whole }

  abbrev Listed : Bool → ℕ → List Piece → Type 0
  Listed minus at ps = TokensBetween whole at (tokens_at at ps) (length whole) × AllWithinLimits minus whole (tokens_at at ps)

  module _ (minus : Bool) (kind : TokenKind) (w text : List ℕ) (g : IsGood minus kind w text) (at : ℕ) (h : At at (w ++ text)) where
    counted : length w ≡ at + length w - at
    counted = omega arith

    stands : Stands whole (record { kind = kind; start = at; end = at + length w })
    stands =
        let n = some_byte kind w g.formed in
        record { rises = omega arith; begins = subst (Begins (drop at whole) kind) counted (subst (λ t. Begins t kind (length w)) h.is (begins minus kind w text g)) }

    limits : WithinLimits minus kind (take (at + length w - at) (drop at whole))
    limits = subst (λ n. WithinLimits minus kind (take n (drop at whole))) counted (subst (λ t. WithinLimits minus kind (take (length w) t)) h.is (subst (WithinLimits minus kind) (sym (take_front w text)) g.limits))

  spaces : (bytes text : List ℕ) (minus : Bool) (at : ℕ) (list : List Lexeme) → list_all is_separator bytes ≡ true → At at (bytes ++ text)
      → TokensBetween whole (at + length bytes) list (length whole) → TokensBetween whole at list (length whole)
  spaces [] text minus at list s h b = let e : at + 0 ≡ at = omega arith in subst (λ k. TokensBetween whole k list (length whole)) e b
  spaces (c ∷ bytes) text minus at list s h b =
      let e : at + suc (length bytes) ≡ at + 1 + length bytes = omega arith in
      gap_before whole at (length whole) list 1 (subst (λ t. Skips t 1) h.is (separator c (bytes ++ text) (and_parts (is_separator c) _ s).0))
      (spaces bytes text minus (at + 1) list (and_parts (is_separator c) _ s).1 (later at (c ∷ []) (bytes ++ text) h)
      (subst (λ k. TokensBetween whole k list (length whole)) e b))

  pub listed : (minus : Bool) (at : ℕ) (ps : List Piece) → Good minus ps → At at (spelled ps) → Listed minus at ps
  listed minus at [] g h =
      let k = ap length h.is in
      let w = h.within in
      let e : at ≡ length whole = omega (arith, length-drop at whole) in
      (subst (Gap whole at) e none, tt)
  listed minus at (Token kind bytes ∷ ps) g h =
      let r = listed (is_minus kind) (at + length bytes) ps g.1 (later at bytes (spelled ps) h) in
      ((none, stands minus kind bytes (spelled ps) g.0 at h, r.0), (limits minus kind bytes (spelled ps) g.0 at h, r.1))
  listed minus at (Space bytes ∷ ps) g h =
      let r = listed minus (at + length bytes) ps g.2 (later at bytes (spelled ps) h) in
      (spaces bytes (spelled ps) minus at (tokens_at (at + length bytes) ps) g.0 h r.0, r.1)
