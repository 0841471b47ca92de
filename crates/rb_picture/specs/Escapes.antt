-- A text as it stands in a picture.
use Rattle.std.specs.Prelude.{ℕ, ◌==◌, cond, nat_lt, List, [], ◌∷◌, ◌++◌, codes}

-- a byte of a text: what would count as a picture's own is spelled, and a control character is shown as one sign
abbrev pub escaped : ℕ → List ℕ
escaped b =
    cond (b == 38) (codes "&amp;") (cond (b == 60) (codes "&lt;") (cond (b == 62) (codes "&gt;") (cond (b == 9) (codes " ") (cond (nat_lt b 32) (codes "?") (cond (b == 127) (codes "?") (b ∷ []))))))

abbrev pub all_escaped : List ℕ → List ℕ
all_escaped [] = []
all_escaped (b ∷ bs) = escaped b ++ all_escaped bs
