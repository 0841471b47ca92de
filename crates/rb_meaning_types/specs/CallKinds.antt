-- What each remote call of a program has to give, by the call's type: a kind, which stands by its number.
use Rattle.std.specs.Prelude.{ℕ, ◌+◌, Option, Some, None, Ok, Err}
use Rattle.rb_trees.specs.mirror.Declarations.{Program}
use Rattle.rb_meaning_types.specs.Kinds as kind
use Rattle.rb_meaning_types.specs.Kinds.{Kind}
use Rattle.rb_meaning_types.specs.Notes.{type_at}
use Rattle.rb_meaning_types.specs.Violations.{Checked}

-- the number of a single value's kind; what isn't primitive is an object of the service
abbrev pub item_number : Kind → ℕ
item_number kind.Int = 1
item_number kind.Bool = 2
item_number kind.Text = 3
item_number _ = 4

-- the number of a type's kind: results are nothing, single values, or rows of such
abbrev pub kind_number : Kind → ℕ
kind_number kind.Unit = 0
kind_number (kind.RowsOf row) = item_number row + 4
kind_number single = item_number single

-- the same of what typing finds, which is a type for each call of a typed program
abbrev pub kind_noted : Option (Checked Kind) → ℕ
kind_noted (Some (Ok k)) = kind_number k
kind_noted (Some (Err violation)) = 0
kind_noted None = 0

-- the kind of what the call at a position has to give
abbrev pub call_kind : Program → ℕ → ℕ
call_kind p at = kind_noted (type_at p at)
