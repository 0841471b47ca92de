-- The positions of a program that is read.
use Rattle.std.proofs.Common.{ℕ, ◌≤◌, ◌^◌, List, ◌++◌, length, arith}
use Rattle.rb_trees.specs.declared.tokens.Token.{Token}
use Rattle.rb_trees.specs.mirror.Declarations.{Program}
use Rattle.rb_meaning_bytes.specs.tokens.Texts.{IsTokens}
use Rattle.rb_meaning_bytes.specs.grammar.Derives.{Derives}
use Rattle.rb_meaning_types.specs.Lawful.{classes_positions, body_positions}
use Rattle.rb_parse.proofs.lawful.Positions.{times, hits}
use Rattle.rb_law_reading.specs.Places.{ReadProgramsHavePlaces}
use Rattle.rb_law_reading.proofs.Starts.{absent_behind, all_below}

module _ (source : List ℕ) (tokens : List Token) (p : Program) (t : IsTokens source tokens) (d : Derives source tokens p) where
  none_behind : (n : ℕ) → 2 ^ 32 ≤ n → times n (classes_positions p.classes ++ body_positions p.body) ≤ 0
  none_behind n l =
      let h = hits source n d in
      let past : length source ≤ n = omega (arith, t.short) in
      omega (arith, h.hits, h.fits, absent_behind source n 0 (length source) tokens t.stand past)

pub places : ReadProgramsHavePlaces
places source p read =
    all_below (2 ^ 32) (classes_positions p.classes ++ body_positions p.body) (none_behind source read.0 p read.1 read.2.0)
