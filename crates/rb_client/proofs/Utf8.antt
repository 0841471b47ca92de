-- Texts and their bytes.
use Rattle.std.proofs.Common.{◌≡◌, ◌+◌, ℕ, Bool, true, false, List, refl, drop, drop-drop}
use Rattle.std.specs.Str.{is_utf8, IsUtf8}
use Rattle.std.proofs.lemmas.Str.{IsUtf8-from_is_utf8, is_utf8-from_IsUtf8}

pub utf8 : (bytes : List ℕ) → IsUtf8 bytes → is_utf8 bytes ≡ true
utf8 bytes h = is_utf8-from_IsUtf8 bytes h

pub not_utf8 : (bytes : List ℕ) → ¬ IsUtf8 bytes → is_utf8 bytes ≡ false
not_utf8 bytes h = go (is_utf8 bytes) refl
  where
    go : (v : Bool) → is_utf8 bytes ≡ v → v ≡ false
    go true e = absurd (h (IsUtf8-from_is_utf8 bytes e))
    go false e = refl

pub behind : (n : ℕ) (bytes : List ℕ) → drop n (drop 4 bytes) ≡ drop (4 + n) bytes
behind n bytes = drop-drop n 4 bytes
