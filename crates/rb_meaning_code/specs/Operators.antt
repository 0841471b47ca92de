-- What operators give: a value or a fault. Numbers have 64 bits and wrap; other operands than a row's fault Kind.
use Rattle.std.specs.Prelude.{ℕ, ℤ, pos, ◌+ℤ◌, ◌-ℤ◌, ◌*ℤ◌, neg_ℤ, int_lt, int_le, int_rem, List, ◌++◌, length, Bool, true, false, not, ◌&&◌, ◌||◌, cond, nat_lt, Option, None, Some, Result, Ok, Err, codes}
use Rattle.std.specs.Int.{int_wrap, int_wrapping_div, w64}
use Rattle.std.specs.Ordering.{int_eq}
use Rattle.std.specs.Str.{bytes_eq}
use Rattle.std.specs.Fmt.{signed_decimal}
use Rattle.rb_trees.specs.Limits.{longest_text, longest_list}
use Rattle.rb_trees.specs.declared.code.UnOp.{UnOp}
use Rattle.rb_trees.specs.declared.code.UnOp.TheVariants as unary
use Rattle.rb_trees.specs.declared.code.BinOp.{BinOp}
use Rattle.rb_trees.specs.declared.code.BinOp.TheVariants as binary
use Rattle.rb_trees.specs.declared.values.Value.{Value}
use Rattle.rb_trees.specs.declared.values.Value.TheOpen.{Value-F}
use Rattle.rb_trees.specs.declared.values.Value.TheVariants as value
use Rattle.rb_trees.specs.declared.values.Fault.{Fault}
use Rattle.rb_meaning_code.specs.Faults.{division_by_zero, text_too_long, list_too_long, kind}

abbrev pub bool_text : Bool → List ℕ
bool_text true = codes "true"
bool_text false = codes "false"

-- the text that `print` and `str` show of a primitive value
abbrev pub shown_value : Value-F Value → Option (List ℕ)
shown_value (Value-F.Int n) = Some (signed_decimal n)
shown_value (Value-F.Bool b) = Some (bool_text b)
shown_value (Value-F.Text text) = Some text
shown_value _ = None

-- one operand

-- `!`: the other truth value
abbrev pub negation : Value-F Value → Result Value Fault
negation (Value-F.Bool b) = Ok (value.Bool (not b))
negation _ = Err kind

-- `-`: the number with the other sign
abbrev pub opposite : Value-F Value → Result Value Fault
opposite (Value-F.Int n) = Ok (value.Int (int_wrap w64 (neg_ℤ n)))
opposite _ = Err kind

-- `len`: a text's number of bytes, a list's number of items
abbrev pub count : Value-F Value → Result Value Fault
count (Value-F.Text text) = Ok (value.Int (pos (length text)))
count (Value-F.List items) = Ok (value.Int (pos (length items)))
count _ = Err kind

-- `str`: the text of a number or truth value
abbrev pub as_text : Value-F Value → Result Value Fault
as_text (Value-F.Int n) = Ok (value.Text (signed_decimal n))
as_text (Value-F.Bool b) = Ok (value.Text (bool_text b))
as_text _ = Err kind

abbrev pub on_one : UnOp → Value-F Value → Result Value Fault
on_one unary.Not a = negation a
on_one unary.Neg a = opposite a
on_one unary.Len a = count a
on_one unary.Str a = as_text a

-- two operands

-- a number that wraps
abbrev pub number : ℤ → Result Value Fault
number n = Ok (value.Int (int_wrap w64 n))

abbrev pub truth : Bool → Result Value Fault
truth b = Ok (value.Bool b)

-- texts and lists one after the other, within their limits
abbrev pub joined_text : List ℕ → List ℕ → Result Value Fault
joined_text a b = cond (nat_lt longest_text (length (a ++ b))) (Err text_too_long) (Ok (value.Text (a ++ b)))

abbrev pub joined_list : List Value → List Value → Result Value Fault
joined_list a b = cond (nat_lt longest_list (length (a ++ b))) (Err list_too_long) (Ok (value.List (a ++ b)))

-- `+`: the sum of numbers, or texts or lists joined
abbrev pub plus : Value-F Value → Value-F Value → Result Value Fault
plus (Value-F.Int a) (Value-F.Int b) = number (a +ℤ b)
plus (Value-F.Text a) (Value-F.Text b) = joined_text a b
plus (Value-F.List a) (Value-F.List b) = joined_list a b
plus _ _ = Err kind

-- an operator on two numbers
abbrev pub on_numbers : (ℤ → ℤ → Result Value Fault) → Value-F Value → Value-F Value → Result Value Fault
on_numbers f (Value-F.Int a) (Value-F.Int b) = f a b
on_numbers f _ _ = Err kind

-- a division needs a divisor that isn't 0
abbrev pub divided : (ℤ → ℤ → ℤ) → ℤ → ℤ → Result Value Fault
divided f a b = cond (int_eq b (pos 0)) (Err division_by_zero) (Ok (value.Int (f a b)))

-- `/`: the quotient toward zero; of the least number and -1, the least number
abbrev pub quotient : ℤ → ℤ → Result Value Fault
quotient a b = divided (int_wrapping_div w64) a b

-- `%`: what the quotient leaves, with the dividend's sign
abbrev pub remainder : ℤ → ℤ → Result Value Fault
remainder a b = divided int_rem a b

-- whether two primitive values of one type are the same; texts by their bytes
abbrev pub equal : Value-F Value → Value-F Value → Result Bool Fault
equal (Value-F.Int a) (Value-F.Int b) = Ok (int_eq a b)
equal (Value-F.Bool a) (Value-F.Bool b) = Ok (cond a b (not b))
equal (Value-F.Text a) (Value-F.Text b) = Ok (bytes_eq a b)
equal _ _ = Err kind

abbrev pub truth_by : (Bool → Bool) → Result Bool Fault → Result Value Fault
truth_by f (Ok b) = truth (f b)
truth_by f (Err fault) = Err fault

-- `&&` and `||` where the left operand doesn't decide
abbrev pub on_truths : (Bool → Bool → Bool) → Value-F Value → Value-F Value → Result Value Fault
on_truths f (Value-F.Bool a) (Value-F.Bool b) = truth (f a b)
on_truths f _ _ = Err kind

abbrev pub on_two : BinOp → Value-F Value → Value-F Value → Result Value Fault
on_two binary.Add a b = plus a b
on_two binary.Sub a b = on_numbers (λ m n. number (m -ℤ n)) a b
on_two binary.Mul a b = on_numbers (λ m n. number (m *ℤ n)) a b
on_two binary.Div a b = on_numbers quotient a b
on_two binary.Rem a b = on_numbers remainder a b
on_two binary.Eq a b = truth_by (λ same. same) (equal a b)
on_two binary.Ne a b = truth_by not (equal a b)
on_two binary.Lt a b = on_numbers (λ m n. truth (int_lt m n)) a b
on_two binary.Le a b = on_numbers (λ m n. truth (int_le m n)) a b
on_two binary.Gt a b = on_numbers (λ m n. truth (int_lt n m)) a b
on_two binary.Ge a b = on_numbers (λ m n. truth (int_le n m)) a b
on_two binary.And a b = on_truths (λ x y. x && y) a b
on_two binary.Or a b = on_truths (λ x y. x || y) a b

-- What the left operand says alone: of `&&` and `||` it has to be a truth value, and decides where it is false or true.
abbrev pub conjunct : Value-F Value → Result (Option Value) Fault
conjunct (Value-F.Bool true) = Ok None
conjunct (Value-F.Bool false) = Ok (Some (value.Bool false))
conjunct _ = Err kind

abbrev pub disjunct : Value-F Value → Result (Option Value) Fault
disjunct (Value-F.Bool true) = Ok (Some (value.Bool true))
disjunct (Value-F.Bool false) = Ok None
disjunct _ = Err kind

-- the value where the left operand decides, and None where the right one counts too
abbrev pub by_left : BinOp → Value-F Value → Result (Option Value) Fault
by_left binary.And a = conjunct a
by_left binary.Or a = disjunct a
by_left _ a = Ok None
