-- A printed text with comments among its lines.
use Rattle.std.specs.Prelude.{◌≡◌, ◌≢◌, ℕ, ◌<◌, List, [], ◌++◌, length, drop, slice_index, codes, ◌⊎◌}
use Rattle.std.specs.Str.{IsAsciiWhitespaceBelow}
use Rattle.rb_meaning.specs.Shown.{line}

-- No line feed is among the bytes.
abbrev pub IsOneLine : List ℕ → Type 0
IsOneLine bytes = (i : ℕ) → i < length bytes → slice_index bytes i ≢ 10

-- The line is a comment, with blanks before it at most.
abbrev pub IsCommentLine : List ℕ → Type 0
IsCommentLine bytes = (n : ℕ) × (rest : List ℕ) × IsAsciiWhitespaceBelow bytes n × (drop n bytes ≡ codes "//" ++ rest)

-- The line is the wanted one, or that one with a comment behind it, two spaces apart.
abbrev pub EndsAs : List ℕ → List ℕ → Type 0
EndsAs wanted bytes = (bytes ≡ wanted) ⊎ ((rest : List ℕ) × (bytes ≡ wanted ++ codes "  //" ++ rest))

-- The text is a printed one, line by line, but that comments may stand on lines between, and one behind each line.
pub data IsWoven : List ℕ → List ℕ → Type 0 where
  ends : IsWoven [] []
  comment_line : {printed text : List ℕ} (bytes : List ℕ) → IsOneLine bytes → IsCommentLine bytes → IsWoven printed text → IsWoven printed (line bytes ++ text)
  printed_line : {printed text : List ℕ} (wanted bytes : List ℕ) → IsOneLine wanted → IsOneLine bytes → EndsAs wanted bytes → IsWoven printed text → IsWoven (line wanted ++ printed) (line bytes ++ text)

-- The text begins with this line, behind which the rest stands.
abbrev pub BeginsWithLine : List ℕ → List ℕ → List ℕ → Type 0
BeginsWithLine text bytes rest = (text ≡ line bytes ++ rest) × IsOneLine bytes
