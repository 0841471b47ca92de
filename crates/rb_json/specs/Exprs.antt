-- The form of expressions in JSON: arrays that begin with a word, which says how many parts stand after it.
--
-- The word has the number after the array's, and each part has the number after the parts before it. An array with another word
-- or another number of parts breaks the form itself.
--
-- A form reads the parts behind its word, the first of which has this number.
use Rattle.std.specs.Prelude.{ℕ, ◌+◌, ◌^◌, List, ◌&&◌, ◌==◌, cond, codes, Result, Ok, Err}
use Rattle.std.specs.Str.{bytes_eq}
use Rattle.rb_trees.specs.Outcome.{◌>>=◌}
use Rattle.rb_trees.specs.mirror.Scripts.{SExpr, SExprs, Lit, Input, Var, Root, Unary, Binary, Call, NoSExprs, MoreSExprs}
use Rattle.serde_json.specs.Data.{Data, null, boolean, number, string, array, object, Items, no_items, item}
use Rattle.rb_json.specs.Counts.{count, items_number}
use Rattle.rb_json.specs.Values.{Read, pair, number_at, unary_at, binary_at, kind_at, name_at, value_at}

-- `["lit", value]`
abbrev pub literal : ℕ → Items → Read SExpr
literal q (item v no_items) = value_at q v >>= λ value. Ok (Lit value)
literal q _ = Err q

-- `["in", number]`
abbrev pub input : ℕ → Items → Read SExpr
input q (item k no_items) = number_at (2 ^ 8) q k >>= λ number. Ok (Input number)
input q _ = Err q

-- `["var", number]`
abbrev pub variable : ℕ → Items → Read SExpr
variable q (item n no_items) = number_at (2 ^ 32) q n >>= λ number. Ok (Var number)
variable q _ = Err q

-- the position of a call, its kind, and the name of its method
abbrev pub method_at : ℕ → Data → Data → Data → Read (ℕ × ℕ × List ℕ)
method_at q at k name =
    number_at (2 ^ 32) q at >>= λ position. kind_at (q + count at) k >>= λ kind.
    name_at (q + count at + count k) name >>= λ method. Ok (position, kind, method)

abbrev mutual
  pub expr_at : ℕ → Data → Read SExpr
  expr_at p (array (item (string word) ds)) =
      cond (bytes_eq word (codes "lit") && items_number ds == 1) (literal (p + 2) ds)
      (cond (bytes_eq word (codes "in") && items_number ds == 1) (input (p + 2) ds)
      (cond (bytes_eq word (codes "var") && items_number ds == 1) (variable (p + 2) ds)
      (cond (bytes_eq word (codes "root") && items_number ds == 0) (Ok Root)
      (cond (bytes_eq word (codes "un") && items_number ds == 3) (unary_expr (p + 2) ds)
      (cond (bytes_eq word (codes "bin") && items_number ds == 4) (binary_expr (p + 2) ds)
      (cond (bytes_eq word (codes "call") && items_number ds == 5) (call_expr (p + 2) ds) (Err p)))))))
  expr_at p _ = Err p

  -- `["un", operator, at, expression]`
  pub unary_expr : ℕ → Items → Read SExpr
  unary_expr q (item op (item at (item e no_items))) =
      unary_at q op >>= λ operator. number_at (2 ^ 32) (q + count op) at >>= λ position.
      expr_at (q + count op + count at) e >>= λ operand. Ok (Unary operator position operand)
  unary_expr q _ = Err q

  -- `["bin", operator, at, expression, expression]`
  pub binary_expr : ℕ → Items → Read SExpr
  binary_expr q (item op (item at (item a (item b no_items)))) =
      binary_at q op >>= λ operator. number_at (2 ^ 32) (q + count op) at >>= λ position.
      pair (expr_at (q + count op + count at) a) (expr_at (q + count op + count at + count a) b) >>= λ both.
      Ok (Binary operator position both.0 both.1)
  binary_expr q _ = Err q

  -- `["call", at, kind, "name", expression, [arguments]]`
  pub call_expr : ℕ → Items → Read SExpr
  call_expr q (item at (item k (item name (item e (item args no_items))))) =
      method_at q at k name >>= λ m. expr_at (q + (count at + count k + count name)) e >>= λ target.
      exprs_at (q + (count at + count k + count name) + count e) args >>= λ arguments. Ok (Call m.0 m.1 m.2 target arguments)
  call_expr q _ = Err q

  pub exprs_at : ℕ → Data → Read SExprs
  exprs_at p (array ds) = exprs_in (p + 1) ds
  exprs_at p _ = Err p

  -- expressions one after another
  pub exprs_in : ℕ → Items → Read SExprs
  exprs_in p no_items = Ok NoSExprs
  exprs_in p (item d ds) = expr_at p d >>= λ e. exprs_in (p + count d) ds >>= λ es. Ok (MoreSExprs e es)
