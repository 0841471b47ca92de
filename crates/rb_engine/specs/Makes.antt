-- Which operators make a text or a list, and so take memory.
use Rattle.std.specs.Prelude.{Bool, true, false}
use Rattle.rb_trees.specs.declared.code.UnOp.{UnOp}
use Rattle.rb_trees.specs.declared.code.UnOp.TheVariants as unary
use Rattle.rb_trees.specs.declared.code.BinOp.{BinOp}
use Rattle.rb_trees.specs.declared.code.BinOp.TheVariants as binary
use Rattle.rb_trees.specs.declared.values.Value.{Value}
use Rattle.rb_trees.specs.declared.values.Value.TheOpen.{Value-F}

-- a number or a truth value
abbrev pub is_plain : Value-F Value → Bool
is_plain (Value-F.Int n) = true
is_plain (Value-F.Bool b) = true
is_plain _ = false

-- `str` of a number or a truth value makes a text; no other operator on one operand makes anything.
abbrev pub one_makes : UnOp → Value-F Value → Bool
one_makes unary.Str a = is_plain a
one_makes _ a = false

-- two texts or two lists
abbrev pub are_joined : Value-F Value → Value-F Value → Bool
are_joined (Value-F.Text a) (Value-F.Text b) = true
are_joined (Value-F.List a) (Value-F.List b) = true
are_joined _ _ = false

-- `+` of two texts or two lists makes one; no other operator on two operands makes anything.
abbrev pub two_make : BinOp → Value-F Value → Value-F Value → Bool
two_make binary.Add a b = are_joined a b
two_make _ a b = false
