-- The limits of nesting as the code counts them, and reading within them.
use Rattle.std.specs.Prelude.{ℕ, zero, suc, ◌+◌, ◌-◌, List, length, take, Option, Some, None, Result, Ok, Err}
use Rattle.rb_trees.specs.declared.tokens.Token.{Token}
use Rattle.rb_meaning_bytes.specs.grammar.Symbols.{Nonterminal, TreeOf}
use Rattle.rb_meaning_bytes.specs.grammar.Limits.{Nesting, broken, nothing_open}
use Rattle.rb_parse.specs.declared.limits.Nesting as code
use Rattle.rb_parse.specs.declared.stop.Refusal.{Refusal}
use Rattle.rb_parse.specs.declared.stop.Refusal.TheVariants as refusals
use Rattle.rb_parse.specs.Reading.{whole_of}

-- what the code's count says
abbrev pub nesting_of : code.Nesting → Nesting
nesting_of n = record { blocks = n.blocks; types = n.types; marks = n.marks; last = n.last; before = n.before }

-- reading where no limit is broken
abbrev pub unlimited : {A : Type 0} → Result A ℕ → Result A Refusal
unlimited (Ok x) = Ok x
unlimited (Err left) = Err (refusals.Unexpected left)

-- Where reading up to a token stops, with so many of those tokens left: behind that token so many less one are left.
abbrev pub behind : ℕ → ℕ → Refusal
behind left zero = refusals.TooNested left
behind left (suc m) = refusals.Unexpected (left + m)

-- reading up to the token that breaks a limit, behind which so many tokens less one are left
abbrev pub cut_at : {A : Type 0} → ℕ → Result A ℕ → Result A Refusal
cut_at left (Ok x) = Err (refusals.TooNested left)
cut_at left (Err more) = Err (behind left more)

-- what is read of the tokens up to the one that breaks a limit, where so many are left from it on
abbrev pub cut_of : (start : Nonterminal) → List ℕ → List Token → ℕ → Result (TreeOf start) Refusal
cut_of start source ts left = cut_at left (whole_of start source (take (length ts - left + 1) ts))

abbrev pub by_limit : (start : Nonterminal) → List ℕ → List Token → Option ℕ → Result (TreeOf start) Refusal
by_limit start source ts None = unlimited (whole_of start source ts)
by_limit start source ts (Some left) = cut_of start source ts left

-- reading within the limits
unfoldable pub limited_of : (start : Nonterminal) → List ℕ → List Token → Result (TreeOf start) Refusal
limited_of start source ts = by_limit start source ts (broken nothing_open ts)

-- the refusal that an answer tells
abbrev pub refusal_told : Refusal → Option Refusal
refusal_told refusals.Memory = None
refusal_told (refusals.Unexpected left) = Some (refusals.Unexpected left)
refusal_told (refusals.TooNested left) = Some (refusals.TooNested left)
