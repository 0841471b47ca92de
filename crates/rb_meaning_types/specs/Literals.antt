-- The type of a literal.
use Rattle.rb_trees.specs.declared.values.Value.{Value}
use Rattle.rb_trees.specs.declared.values.Value.TheOpen.{Value-F}
use Rattle.rb_trees.specs.declared.values.Value.TheViews.{out-Value}
use Rattle.rb_meaning_types.specs.Kinds as kind
use Rattle.rb_meaning_types.specs.Kinds.{Kind}

-- the type of a value by its outermost form; no other literals than Int, Bool and Text stand in a program
abbrev pub literal_form : Value-F Value → Kind
literal_form (Value-F.Int number) = kind.Int
literal_form (Value-F.Bool truth) = kind.Bool
literal_form (Value-F.Text text) = kind.Text
literal_form _ = kind.Unit

-- a literal has the type of its value
unfoldable pub literal_kind : Value → Kind
literal_kind value = literal_form (out-Value value)
