-- Several lists in a row, grouped to the left or to the right.
use Rattle.std.proofs.Common.{◌≡◌, List, ◌++◌, ◌∙◌, append_assoc}

module _ {A : Type 0} where
  pub four : (a b c d : List A) → a ++ b ++ c ++ d ≡ a ++ (b ++ (c ++ d))
  four a b c d = append_assoc (a ++ b) c d ∙ append_assoc a b (c ++ d)

  pub five : (a b c d e : List A) → a ++ b ++ c ++ d ++ e ≡ a ++ (b ++ (c ++ (d ++ e)))
  five a b c d e = append_assoc (a ++ b ++ c) d e ∙ four a b c (d ++ e)

  pub six : (a b c d e f : List A) → a ++ b ++ c ++ d ++ e ++ f ≡ a ++ (b ++ (c ++ (d ++ (e ++ f))))
  six a b c d e f = append_assoc (a ++ b ++ c ++ d) e f ∙ five a b c d (e ++ f)
