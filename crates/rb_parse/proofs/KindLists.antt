-- Kinds of tokens, and lists of them.
use Rattle.std.proofs.Common.{◌≡◌, Bool, true, false, cond, List, [], ◌∷◌, ◌++◌, refl, ap, sym, subst, ◌⊎◌, inl, inr, eqb-true, eq-eqb, ◌&&◌, not}
use Rattle.std.proofs.lemmas.Bool.{not-true, and_parts, false_from_ne_true}
use Rattle.rb_trees.specs.declared.tokens.TokenKind.{TokenKind}
use Rattle.rb_trees.specs.declared.tokens.TokenKind.TheVariants.{Name, Number, TextLit, Keyword, Sign}
use Rattle.rb_trees.specs.Kinds.{is_kind, is_one_of}

pub kind_same : (a b : TokenKind) → is_kind a b ≡ true → a ≡ b
kind_same Name Name h = refl
kind_same Number Number h = refl
kind_same TextLit TextLit h = refl
kind_same (Keyword m) (Keyword n) h = ap Keyword (eqb-true m n h)
kind_same (Sign m) (Sign n) h = ap Sign (eqb-true m n h)
kind_same _ _ h = cc

pub kind_is : (a : TokenKind) → is_kind a a ≡ true
kind_is Name = refl
kind_is Number = refl
kind_is TextLit = refl
kind_is (Keyword n) = eq-eqb n n refl
kind_is (Sign n) = eq-eqb n n refl

-- one of two tests holds
pub either_one : (a b : Bool) → cond a true b ≡ true → (a ≡ true) ⊎ (b ≡ true)
either_one true b h = inl refl
either_one false b h = inr h

-- each of the kinds is one of the others
abbrev pub within : List TokenKind → List TokenKind → Bool
within [] ys = true
within (x ∷ xs) ys = is_one_of x ys && within xs ys

-- none of the kinds is one of the others
abbrev pub apart : List TokenKind → List TokenKind → Bool
apart [] ys = true
apart (x ∷ xs) ys = not (is_one_of x ys) && apart xs ys

pub one_within : (k : TokenKind) (xs ys : List TokenKind) → within xs ys ≡ true → is_one_of k xs ≡ true → is_one_of k ys ≡ true
one_within k [] ys h m = cc
one_within k (x ∷ xs) ys h m = go (either_one (is_kind k x) (is_one_of k xs) m) (λ e. one_within k xs ys (and_parts (is_one_of x ys) (within xs ys) h).1 e)
  where
    go : (is_kind k x ≡ true) ⊎ (is_one_of k xs ≡ true) → (is_one_of k xs ≡ true → is_one_of k ys ≡ true) → is_one_of k ys ≡ true
    go (inl e) f = subst (λ z. is_one_of z ys ≡ true) (sym (kind_same k x e)) (and_parts (is_one_of x ys) (within xs ys) h).0
    go (inr e) f = f e

pub one_apart : (k : TokenKind) (xs ys : List TokenKind) → apart xs ys ≡ true → is_one_of k xs ≡ true → is_one_of k ys ≡ false
one_apart k [] ys h m = cc
one_apart k (x ∷ xs) ys h m = go (either_one (is_kind k x) (is_one_of k xs) m) (λ e. one_apart k xs ys (and_parts (not (is_one_of x ys)) (apart xs ys) h).1 e)
  where
    go : (is_kind k x ≡ true) ⊎ (is_one_of k xs ≡ true) → (is_one_of k xs ≡ true → is_one_of k ys ≡ false) → is_one_of k ys ≡ false
    go (inl e) f = subst (λ z. is_one_of z ys ≡ false) (sym (kind_same k x e)) (not-true (is_one_of x ys) (and_parts (not (is_one_of x ys)) (apart xs ys) h).0)
    go (inr e) f = f e

pub either_two : (a b : Bool) → b ≡ true → cond a true b ≡ true
either_two true b h = refl
either_two false b h = h

pub one_here : (k : TokenKind) (xs ys : List TokenKind) → is_one_of k xs ≡ true → is_one_of k (xs ++ ys) ≡ true
one_here k [] ys h = cc
one_here k (x ∷ xs) ys h = go (either_one (is_kind k x) (is_one_of k xs) h) (λ e. one_here k xs ys e)
  where
    go : (is_kind k x ≡ true) ⊎ (is_one_of k xs ≡ true) → (is_one_of k xs ≡ true → is_one_of k (xs ++ ys) ≡ true) → is_one_of k ((x ∷ xs) ++ ys) ≡ true
    go (inl e) f = ap (λ b. cond b true (is_one_of k (xs ++ ys))) e
    go (inr e) f = either_two (is_kind k x) _ (f e)

pub one_there : (k : TokenKind) (xs ys : List TokenKind) → is_one_of k ys ≡ true → is_one_of k (xs ++ ys) ≡ true
one_there k [] ys h = h
one_there k (x ∷ xs) ys h = either_two (is_kind k x) _ (one_there k xs ys h)

-- a kind that is none of some kinds is none of fewer, and not one of them
pub none_within : (kind : TokenKind) (xs ys : List TokenKind) → within xs ys ≡ true → is_one_of kind ys ≡ false → is_one_of kind xs ≡ false
none_within kind xs ys w h = false_from_ne_true (is_one_of kind xs) (λ e. cc (one_within kind xs ys w e))

pub not_kind : (kind other : TokenKind) (ys : List TokenKind) → is_one_of other ys ≡ true → is_one_of kind ys ≡ false → is_kind kind other ≡ false
not_kind kind other ys w h = false_from_ne_true (is_kind kind other) (λ e. cc (subst (λ z. is_one_of z ys ≡ true) (sym (kind_same kind other e)) w))
