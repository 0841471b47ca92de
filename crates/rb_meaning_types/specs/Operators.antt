-- The types of operators. The left operand is judged first.
use Rattle.std.specs.Prelude.{Bool as Truth, ◌||◌, Ok, Err}
use Rattle.rb_trees.specs.declared.code.UnOp.{UnOp}
use Rattle.rb_trees.specs.declared.code.BinOp.{BinOp}
use Rattle.rb_trees.specs.declared.code.UnOp.TheVariants as un
use Rattle.rb_trees.specs.declared.code.BinOp.TheVariants as bin
use Rattle.rb_meaning_types.specs.Kinds.{Kind, Int, Bool, Text, ListOf, is_int, is_bool, is_text, is_list, is_primitive}
use Rattle.rb_meaning_types.specs.Violations.{Checked, Placed, wanted, wrong_type}
use Rattle.rb_trees.specs.Outcome.{◌>>=◌, ◌>>◌, must}

-- `!` takes a Bool, `-` an Int, `len` a Text or a List, `str` an Int or a Bool
abbrev pub takes_operand : UnOp → Kind → Truth
takes_operand un.Not kind = is_bool kind
takes_operand un.Neg kind = is_int kind
takes_operand un.Len kind = is_text kind || is_list kind
takes_operand un.Str kind = is_int kind || is_bool kind

abbrev pub unary_result : UnOp → Kind
unary_result un.Not = Bool
unary_result un.Neg = Int
unary_result un.Len = Int
unary_result un.Str = Text

-- `+` takes an Int, a Text or a List on its left, `==` and `!=` a primitive type, `&&` and `||` a Bool,
-- every other operator an Int
abbrev pub takes_left : BinOp → Kind → Truth
takes_left bin.Add kind = is_int kind || is_text kind || is_list kind
takes_left bin.Sub kind = is_int kind
takes_left bin.Mul kind = is_int kind
takes_left bin.Div kind = is_int kind
takes_left bin.Rem kind = is_int kind
takes_left bin.Eq kind = is_primitive kind
takes_left bin.Ne kind = is_primitive kind
takes_left bin.Lt kind = is_int kind
takes_left bin.Le kind = is_int kind
takes_left bin.Gt kind = is_int kind
takes_left bin.Ge kind = is_int kind
takes_left bin.And kind = is_bool kind
takes_left bin.Or kind = is_bool kind

-- what an operator gives, by the type of its operands
abbrev pub binary_result : BinOp → Kind → Kind
binary_result bin.Add kind = kind
binary_result bin.Sub kind = Int
binary_result bin.Mul kind = Int
binary_result bin.Div kind = Int
binary_result bin.Rem kind = Int
binary_result bin.Eq kind = Bool
binary_result bin.Ne kind = Bool
binary_result bin.Lt kind = Bool
binary_result bin.Le kind = Bool
binary_result bin.Gt kind = Bool
binary_result bin.Ge kind = Bool
binary_result bin.And kind = Bool
binary_result bin.Or kind = Bool

abbrev pub unary_kind : UnOp → Placed → Checked Kind
unary_kind op p = must (takes_operand op p.kind) (wrong_type p) >> Ok (unary_result op)

-- the right operand has the type of the left one
abbrev pub binary_kind : BinOp → Placed → Placed → Checked Kind
binary_kind op p q = must (takes_left op p.kind) (wrong_type p) >> wanted p.kind q >> Ok (binary_result op p.kind)

-- the item that an index names: of a List, by an Int
abbrev pub item_of : Placed → Kind → Checked Kind
item_of p (ListOf item) = Ok item
item_of p _ = Err (wrong_type p)

abbrev pub index_kind : Placed → Placed → Checked Kind
index_kind p q = item_of p p.kind >>= λ item. wanted Int q >> Ok item
