-- Two ways to part a list of tokens.
use Rattle.std.proofs.Common.{◌≡◌, List, [], ◌∷◌, ◌++◌, sym, subst}
use Rattle.rb_trees.specs.declared.tokens.Token.{Token}

-- Both are at the same place, or the first before the second, or behind it.
pub data Parted : List Token → List Token → List Token → List Token → Type 0 where
  same : {a b : List Token} → Parted a b a b
  before : {a d : List Token} (t : Token) (more : List Token) → Parted a (t ∷ (more ++ d)) (a ++ t ∷ more) d
  behind : {c b : List Token} (t : Token) (more : List Token) → Parted (c ++ t ∷ more) b c (t ∷ (more ++ b))

pub parted : (a b c d : List Token) → a ++ b ≡ c ++ d → Parted a b c d
parted [] b [] d e = subst (Parted [] b []) e same
parted [] b (y ∷ c) d e = subst (λ x. Parted [] x (y ∷ c) d) (sym e) (before y c)
parted (x ∷ a) b [] d e = subst (Parted (x ∷ a) b []) e (behind x a)
parted (x ∷ a) b (y ∷ c) d e = go (cc) (parted a b c d (cc))
  where
    go : {b c d : List Token} → x ≡ y → Parted a b c d → Parted (x ∷ a) b (y ∷ c) d
    go {b} {c} {d} h k = subst (λ z. Parted (x ∷ a) b (z ∷ c) d) h (more k)
      where
        more : {a b c d : List Token} → Parted a b c d → Parted (x ∷ a) b (x ∷ c) d
        more same = same
        more (before t ts) = before t ts
        more (behind t ts) = behind t ts
