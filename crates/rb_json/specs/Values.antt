-- The form of values, numbers and names in JSON.
--
-- Each function reads the value that has this number. What has the form gives what it stands for; else the number of the first
-- value that breaks the form comes.
use Rattle.std.specs.Prelude.{ℕ, ℤ, pos, negsuc, ◌+◌, ◌^◌, List, [], ◌∷◌, length, Bool, cond, ◌&&◌, nat_lt, nat_le, ◌==◌, option_and_then, Option, None, Some, Result, Ok, Err}
use Rattle.std.specs.Str.{is_utf8}
use Rattle.rb_trees.specs.Outcome.{◌>>=◌, known}
use Rattle.rb_trees.specs.Limits.{longest_text}
use Rattle.rb_trees.specs.declared.values.Value.{Value}
use Rattle.rb_trees.specs.declared.values.Value.TheVariants as a_value
use Rattle.rb_trees.specs.declared.code.UnOp.{UnOp}
use Rattle.rb_trees.specs.declared.code.UnOp.TheVariants as unary
use Rattle.rb_trees.specs.declared.code.BinOp.{BinOp}
use Rattle.rb_trees.specs.declared.code.BinOp.TheVariants as binary
use Rattle.rb_meaning_bytes.specs.formats.Fields.{is_name}
use Rattle.rb_meaning_bytes.specs.formats.Items.{items_of, most_items}
use Rattle.serde_json.specs.Data.{Data, null, boolean, number, string, array, object, Items, no_items, item}
use Rattle.serde_json.specs.Find.{as_i64, as_u64, as_number}
use Rattle.rb_json.specs.Counts.{count, items_number}

-- what reading a value gives, or the number of the first value that breaks the form
abbrev pub Read : Type 0 → Type 0
Read A = Result A ℕ

-- one reading and then another
abbrev pub pair : {A B : Type 0} → Read A → Read B → Read (A × B)
pair r s = r >>= λ x. s >>= λ y. Ok (x, y)

-- ---- numbers

abbrev pub below : ℕ → Option ℕ → Option ℕ
below bound None = None
below bound (Some k) = cond (nat_lt k bound) (Some k) None

-- a whole number below a bound
abbrev pub number_at : ℕ → ℕ → Data → Read ℕ
number_at bound p d = known p (below bound (option_and_then as_u64 (as_number d)))

abbrev pub unary_of : ℕ → Option UnOp
unary_of code =
    cond (code == 1) (Some unary.Not)
    (cond (code == 2) (Some unary.Neg)
    (cond (code == 3) (Some unary.Len)
    (cond (code == 4) (Some unary.Str) None)))

-- an operator on one operand, by its code from 1
abbrev pub unary_at : ℕ → Data → Read UnOp
unary_at p d = number_at 5 p d >>= λ code. known p (unary_of code)

abbrev pub binary_of : ℕ → Option BinOp
binary_of code =
    cond (code == 1) (Some binary.Add)
    (cond (code == 2) (Some binary.Sub)
    (cond (code == 3) (Some binary.Mul)
    (cond (code == 4) (Some binary.Div)
    (cond (code == 5) (Some binary.Rem)
    (cond (code == 6) (Some binary.Eq)
    (cond (code == 7) (Some binary.Ne)
    (cond (code == 8) (Some binary.Lt)
    (cond (code == 9) (Some binary.Le)
    (cond (code == 10) (Some binary.Gt)
    (cond (code == 11) (Some binary.Ge)
    (cond (code == 12) (Some binary.And)
    (cond (code == 13) (Some binary.Or) None))))))))))))

-- an operator between two operands, by its code from 1
abbrev pub binary_at : ℕ → Data → Read BinOp
binary_at p d = number_at 14 p d >>= λ code. known p (binary_of code)

-- the number of a kind of calls, from 0 to 8
abbrev pub kind_at : ℕ → Data → Read ℕ
kind_at p d = number_at 9 p d

-- ---- truth values and names

abbrev pub truth_at : ℕ → Data → Read Bool
truth_at p (boolean b) = Ok b
truth_at p _ = Err p

-- A name: a letter or `_`, then letters, digits and `_`. Its length is a number of 32 bits.
abbrev pub name_at : ℕ → Data → Read (List ℕ)
name_at p (string s) = cond (is_name s && nat_lt (length s) (2 ^ 32)) (Ok s) (Err p)
name_at p _ = Err p

-- ---- values

-- whether a number is one of 64 bits
abbrev pub is_signed : ℤ → Bool
is_signed (pos n) = nat_lt n (2 ^ 63)
is_signed (negsuc n) = nat_lt n (2 ^ 63)

-- a whole number of 64 bits, a truth value, or a text of at most 4,096 bytes of UTF-8
abbrev pub value_at : ℕ → Data → Read Value
value_at p (number n) = known p (as_i64 n) >>= λ z. cond (is_signed z) (Ok (a_value.Int z)) (Err p)
value_at p (boolean b) = Ok (a_value.Bool b)
value_at p (string s) = cond (nat_le (length s) longest_text && is_utf8 s) (Ok (a_value.Text s)) (Err p)
value_at p _ = Err p

-- values one after another, the first of which has this number
abbrev pub values_in : ℕ → Items → Read (List Value)
values_in p no_items = Ok []
values_in p (item d ds) = value_at p d >>= λ v. values_in (p + count d) ds >>= λ vs. Ok (v ∷ vs)

-- The value of an input: a value, or a list of values. The lists before it have so many items, and all together have at most
-- 1,000.
abbrev pub input_at : ℕ → ℕ → Data → Read Value
input_at p used (array ds) =
    cond (nat_le (used + items_number ds) most_items) (values_in (p + 1) ds >>= λ vs. Ok (a_value.List vs)) (Err p)
input_at p used d = value_at p d

-- the values of inputs
abbrev pub inputs_in : ℕ → ℕ → Items → Read (List Value)
inputs_in p used no_items = Ok []
inputs_in p used (item d ds) =
    input_at p used d >>= λ v. inputs_in (p + count d) (used + items_of v) ds >>= λ vs. Ok (v ∷ vs)

-- at most 255 of them
abbrev pub inputs_at : ℕ → Data → Read (List Value)
inputs_at p (array ds) = cond (nat_le (items_number ds) 255) (inputs_in (p + 1) 0 ds) (Err p)
inputs_at p _ = Err p
