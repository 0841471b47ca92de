-- Texts in colours, for a terminal.
use Rattle.std.specs.Prelude.{◌≡◌, ℕ, List, ◌∷◌, ◌++◌, codes}
use Rattle.std.specs.List.{flat_map}
use Rattle.rb_help.specs.declared.colours.Paint.{Paint}
use Rattle.rb_help.specs.declared.colours.Paint.TheVariants as paints

-- what makes a terminal show what follows in a paint; each begins with the byte 27
abbrev pub sign_of : Paint → List ℕ
sign_of paints.Plain = 27 ∷ codes "[0m"
sign_of paints.Bold = 27 ∷ codes "[1m"
sign_of paints.Blue = 27 ∷ codes "[1;34m"
sign_of paints.Red = 27 ∷ codes "[1;31m"

-- a part of a text in a paint, after which the terminal goes on plain; a plain part is itself
abbrev pub painted : Paint → List ℕ → List ℕ
painted paints.Plain text = text
painted paints.Bold text = sign_of paints.Bold ++ text ++ sign_of paints.Plain
painted paints.Blue text = sign_of paints.Blue ++ text ++ sign_of paints.Plain
painted paints.Red text = sign_of paints.Red ++ text ++ sign_of paints.Plain

-- A part of a text with its paint.
pub record Part : Type 0 where
  pub paint : Paint
  pub text : List ℕ

-- The text in parts, and what is shown is these parts in their paints: nothing else is added, and nothing is left out.
pub record IsPainted (text shown : List ℕ) : Type 0 where
  pub parts : List Part
  pub whole : text ≡ flat_map (λ part. part.text) parts
  pub paints : shown ≡ flat_map (λ part. painted part.paint part.text) parts
