-- What is looked at of the line of a place.
use Rattle.std.specs.Prelude.{◌≡◌, ◌+◌, ◌<◌, ℕ, List, [], ◌++◌, length}
use Rattle.rb_help.specs.Lines.{before_place, line_at}
use Rattle.rb_help.specs.Quotes.{IsCut, IsCutAt, is_cut, longest_whole}
use Rattle.rb_help.specs.declared.quotes.Cut.{Cut}

-- A piece of the line of a place, in which the place stands at an offset. To each side it goes as far as the line, or at least
-- as far as is looked.
pub record IsNear (text : List ℕ) (at reach : ℕ) (piece : List ℕ) (offset : ℕ) : Type 0 where
  pub front : List ℕ
  pub rest : List ℕ
  pub whole : line_at text at ≡ front ++ piece ++ rest
  pub place : length (before_place text at) ≡ length front + offset
  pub begins : offset < reach → front ≡ []
  pub ends : length piece < offset + reach → rest ≡ []

-- The part that is quoted of a piece around one of its places. Of a long piece something is cut off on each side where it goes
-- further than so many bytes.
pub record IsPart (piece : List ℕ) (at far : ℕ) (cut : Cut) : Type 0 where
  pub before : List ℕ
  pub after : List ℕ
  pub cuts : IsCut piece at before cut.part.now after
  pub starts : cut.is_cut_before ≡ is_cut before
  pub goes_on : cut.is_cut_behind ≡ is_cut after
  pub far_before : longest_whole < length piece → far < at → 0 < length before
  pub far_behind : longest_whole < length piece → at + far < length piece → 0 < length after

-- The part that is quoted of the line of a place.
pub record IsPartOfLine (text : List ℕ) (at : ℕ) (cut : Cut) : Type 0 where
  pub before : List ℕ
  pub after : List ℕ
  pub cuts : IsCutAt text at before cut.part.now after
  pub starts : cut.is_cut_before ≡ is_cut before
  pub goes_on : cut.is_cut_behind ≡ is_cut after
