-- The code of a script has as many bytes in version 1 as its size says.
use Rattle.std.proofs.Common.{◌≡◌, ℕ, ◌+◌, List, [], ◌∷◌, ◌++◌, Bool, true, false, length, length-append, refl, arith}
use Rattle.rb_trees.specs.declared.values.Value.{Value, out-Value}
use Rattle.rb_trees.specs.declared.values.Value.TheOpen.{Value-F}
use Rattle.rb_trees.specs.declared.versions.Version.TheVariants.{One}
use Rattle.rb_trees.specs.mirror.Scripts as tree
use Rattle.rb_trees.specs.mirror.Scripts.{SExpr, SExprs, Step, Steps}
use Rattle.rb_trees.specs.CodeSize.{value_form_size, expr_size, exprs_size, step_size, steps_size, block_size}
use Rattle.rb_meaning_bytes.specs.formats.Fields.{number, wide_number, text, truth}
use Rattle.rb_meaning_bytes.specs.formats.ScriptBytes.{literal_form, expr_bytes, exprs_bytes, count_exprs, step_bytes, steps_bytes, count_steps, block_bytes}
use Rattle.rb_meaning_bytes.specs.formats.FormedScripts.{HasNoOver, HaveNoOver}

-- the bytes in version 1, which has no pool
abbrev expr_of : SExpr → List ℕ
expr_of e = expr_bytes One [] e

abbrev exprs_of : SExprs → List ℕ
exprs_of es = exprs_bytes One [] es

abbrev step_of : Step → List ℕ
step_of s = step_bytes One [] s

abbrev steps_of : Steps → List ℕ
steps_of ss = steps_bytes One [] ss

number_size : (n : ℕ) → length (number n) ≡ 4
unfolding number
number_size n = refl

truth_size : (b : Bool) → length (truth b) ≡ 1
truth_size false = refl
truth_size true = refl

-- two lists and their lengths
joined : (xs ys : List ℕ) (m n : ℕ) → length xs ≡ m → length ys ≡ n → length (xs ++ ys) ≡ m + n
joined xs ys m n h k = omega (arith, length-append xs ys)

form_sized : (x : Value-F Value) → length (literal_form One [] x) ≡ value_form_size x
unfolding wide_number
form_sized (Value-F.Int z) = refl
form_sized (Value-F.Bool b) = omega (arith, truth_size b)
form_sized (Value-F.Text bytes) = omega (arith, length-append (number (length bytes)) bytes, number_size (length bytes))
form_sized Value-F.Unit = refl
form_sized (Value-F.List vs) = refl
form_sized (Value-F.Ref n) = refl
form_sized (Value-F.Remote n) = refl
form_sized (Value-F.Rows vs) = refl

mutual
  expr_sized : (e : SExpr) → length (expr_of e) ≡ expr_size e
  expr_sized (tree.Lit v) = omega (arith, form_sized (out-Value v))
  expr_sized (tree.Input n) = refl
  expr_sized (tree.Var n) = omega (arith, number_size n)
  expr_sized tree.Root = refl
  expr_sized (tree.Unary op at a) = omega (arith, joined (number at) (expr_of a) 4 (expr_size a) (number_size at) (expr_sized a))
  expr_sized (tree.Binary op at a b) =
      omega (
        arith,
        joined (number at ++ expr_of a) (expr_of b) (4 + expr_size a) (expr_size b)
            (joined (number at) (expr_of a) 4 (expr_size a) (number_size at) (expr_sized a)) (expr_sized b),
      )
  expr_sized (tree.Call at kind method target args) =
      let m : length (kind ∷ text method) ≡ 5 + length method = omega (arith, length-append (number (length method)) method, number_size (length method)) in
      let one = joined (number at) (kind ∷ text method) 4 (5 + length method) (number_size at) m in
      let two = joined (number at ++ kind ∷ text method) (expr_of target) _ (expr_size target) one (expr_sized target) in
      let three = joined (number at ++ kind ∷ text method ++ expr_of target) (number (count_exprs args)) _ 4 two (number_size (count_exprs args)) in
      let four = joined (number at ++ kind ∷ text method ++ expr_of target ++ number (count_exprs args)) (exprs_of args) _ (exprs_size args) three (exprs_sized args) in
      omega arith

  exprs_sized : (es : SExprs) → length (exprs_of es) ≡ exprs_size es
  exprs_sized tree.NoSExprs = refl
  exprs_sized (tree.MoreSExprs e es) = joined (expr_of e) (exprs_of es) (expr_size e) (exprs_size es) (expr_sized e) (exprs_sized es)

-- what a step begins with
head_sized : (id at : ℕ) → length (number id ++ number at) ≡ 8
head_sized id at = joined (number id) (number at) 4 4 (number_size id) (number_size at)

binding_sized : (id at var : ℕ) (keep : Bool) → length (number id ++ number at ++ number var ++ truth keep) ≡ 13
binding_sized id at var keep = joined (number id ++ number at ++ number var) (truth keep) 12 1
    (joined (number id ++ number at) (number var) 8 4 (head_sized id at) (number_size var)) (truth_size keep)

mutual
  step_sized : (s : Step) → HasNoOver s → length (step_of s) ≡ step_size s
  step_sized (tree.Do id at e) h = omega (arith, joined (number id ++ number at) (expr_of e) 8 (expr_size e) (head_sized id at) (expr_sized e))
  step_sized (tree.Keep id at e) h = omega (arith, joined (number id ++ number at) (expr_of e) 8 (expr_size e) (head_sized id at) (expr_sized e))
  step_sized (tree.Let id at var keep e) h =
      omega (arith, joined (number id ++ number at ++ number var ++ truth keep) (expr_of e) 13 (expr_size e) (binding_sized id at var keep) (expr_sized e))
  step_sized (tree.If id at e a b) h =
      let one = joined (number id ++ number at) (expr_of e) 8 (expr_size e) (head_sized id at) (expr_sized e) in
      let two = joined (number id ++ number at ++ expr_of e) (number (count_steps a)) _ 4 one (number_size (count_steps a)) in
      let three = joined (number id ++ number at ++ expr_of e ++ number (count_steps a)) (steps_of a) _ (steps_size a) two (steps_sized a h.0) in
      let four = joined (number id ++ number at ++ expr_of e ++ number (count_steps a) ++ steps_of a) (number (count_steps b)) _ 4 three (number_size (count_steps b)) in
      let five = joined (number id ++ number at ++ expr_of e ++ number (count_steps a) ++ steps_of a ++ number (count_steps b)) (steps_of b) _ (steps_size b) four (steps_sized b h.1) in
      omega arith
  step_sized (tree.Each id at var keep e a) h =
      let one = joined (number id ++ number at ++ number var ++ truth keep) (expr_of e) 13 (expr_size e) (binding_sized id at var keep) (expr_sized e) in
      let two = joined (number id ++ number at ++ number var ++ truth keep ++ expr_of e) (number (count_steps a)) _ 4 one (number_size (count_steps a)) in
      let three = joined (number id ++ number at ++ number var ++ truth keep ++ expr_of e ++ number (count_steps a)) (steps_of a) _ (steps_size a) two (steps_sized a h) in
      omega arith
  step_sized (tree.Over id at var input a) h = absurd h

  steps_sized : (ss : Steps) → HaveNoOver ss → length (steps_of ss) ≡ steps_size ss
  steps_sized tree.NoSteps h = refl
  steps_sized (tree.MoreSteps s ss) h = joined (step_of s) (steps_of ss) (step_size s) (steps_size ss) (step_sized s h.0) (steps_sized ss h.1)

pub block_sized : (ss : Steps) → HaveNoOver ss → length (block_bytes One [] ss) ≡ block_size ss
block_sized ss h = joined (number (count_steps ss)) (steps_of ss) 4 (steps_size ss) (number_size (count_steps ss)) (steps_sized ss h)
