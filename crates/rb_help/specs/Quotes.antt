-- The lines of a text that are quoted.
use Rattle.std.specs.Prelude.{◌≡◌, ◌==◌, ℕ, ◌+◌, ◌≤◌, List, [], ◌∷◌, ◌++◌, Bool, false, ◌&&◌, cond, length, nat_le, nat_lt, Option, None, Some, codes}
use Rattle.std.specs.Fmt.{decimal}
use Rattle.std.specs.List.{repeat}
use Rattle.rb_meaning.specs.Place.{line_of}
use Rattle.rb_help.specs.Lines.{before_place, line_at}
use Rattle.rb_pieces.specs.Characters.{shown_text}
use Rattle.rb_help.specs.Headings.{NamedText, heading}

-- a line of at most so many bytes is quoted whole
abbrev pub longest_whole : ℕ
longest_whole = 120

-- A line is cut around one of its places: before and after are cut off, and nothing is of a line that is quoted whole.
pub record IsCut (line : List ℕ) (at : ℕ) (before part after : List ℕ) : Type 0 where
  pub whole : line ≡ before ++ part ++ after
  pub from : length before ≤ at
  pub to : at ≤ length before + length part
  pub short : length line ≤ longest_whole → part ≡ line

-- whether something is cut off
abbrev pub is_cut : List ℕ → Bool
is_cut off = nat_lt 0 (length off)

-- dots where something is cut off
abbrev pub cut_mark : Bool → List ℕ
cut_mark cut = cond cut (codes "...") []

-- the number of a line, a bar and the part of the line that is shown, with dots where something is cut off before or after it
abbrev pub quoted : ℕ → Bool → List ℕ → Bool → List ℕ
quoted number cut_before part cut_after =
    decimal number ++ codes " | " ++ cut_mark cut_before ++ shown_text part ++ cut_mark cut_after ++ codes "\n"

-- the same of the line of a place, of which before and after are cut off
abbrev pub shown_of : List ℕ → ℕ → List ℕ → List ℕ → List ℕ → List ℕ
shown_of text at before part after = quoted (line_of text at) (is_cut before) part (is_cut after)

-- The line of a place of a text is cut around the place.
abbrev pub IsCutAt : List ℕ → ℕ → List ℕ → List ℕ → List ℕ → Type 0
IsCutAt text at before part after = IsCut (line_at text at) (length (before_place text at)) before part after

-- The quote of the line of a place: the heading, and below it, behind blanks, the line, which is cut around the place.
pub record IsQuote (source : NamedText) (at : ℕ) (quote : List ℕ) : Type 0 where
  pub before : List ℕ
  pub part : List ℕ
  pub after : List ℕ
  pub blanks : ℕ
  pub cut : IsCutAt source.text at before part after
  pub shows : quote ≡ heading source at ++ repeat blanks (codes " ") ++ shown_of source.text at before part after

-- a place shares the quote of the place before it where both stand on one line, and that is quoted whole
abbrev pub shares : List ℕ → Option ℕ → ℕ → Bool
shares source None at = false
shares source (Some earlier) at =
    (line_of source earlier == line_of source at) && nat_le (length (line_at source at)) longest_whole

-- the places for which a line is quoted: those that don't share the quote of the place before them
abbrev pub quoted_places : List ℕ → Option ℕ → List ℕ → List ℕ
quoted_places source earlier [] = []
quoted_places source earlier (at ∷ ats) = cond (shares source earlier at) [] (at ∷ []) ++ quoted_places source (Some at) ats

-- The text holds a quote of the line of a place, and rest behind it.
pub record Holds (source : NamedText) (at : ℕ) (text rest : List ℕ) : Type 0 where
  pub front : List ℕ
  pub quote : List ℕ
  pub quotes : IsQuote source at quote
  pub whole : text ≡ front ++ quote ++ rest

-- The text holds a quote of the line of a place.
abbrev pub Within : NamedText → ℕ → List ℕ → Type 0
Within source at text = (rest : List ℕ) × Holds source at text rest

-- The text quotes the lines of places of the source, in their order.
abbrev pub QuotesAll : NamedText → List ℕ → List ℕ → Type 0
QuotesAll source [] text = Unit {0}
QuotesAll source (at ∷ ats) text = (rest : List ℕ) × Holds source at text rest × QuotesAll source ats rest

-- The text quotes the lines of the source at these positions, in their order; positions that follow each other on one line
-- that is quoted whole share it.
abbrev pub Quotes : NamedText → List ℕ → List ℕ → Type 0
Quotes source ats text = QuotesAll source (quoted_places source.text None ats) text
