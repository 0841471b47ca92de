-- How many bytes a request of version 2 has: at most twice the size of its code, and what the values of its inputs take.
use Rattle.std.proofs.Common.{ℕ, zero, suc, ℤ, ◌+◌, ◌*◌, ◌/◌, ◌%◌, ◌≤◌, ◌<◌, ◌≡◌, List, [], ◌∷◌, ◌++◌, length, Bool, true, false, cond, arith, nat_lt, length-append}
use Rattle.rb_trees.specs.CodeSize.{value_form_size, expr_size, exprs_size, step_size, steps_size, block_size, capped, code_size_of}
use Rattle.rb_trees.specs.declared.values.Value.{Value, out-Value}
use Rattle.rb_trees.specs.declared.values.Value.TheOpen.{Value-F}
use Rattle.rb_trees.specs.declared.versions.Version.TheVariants.{Two}
use Rattle.rb_trees.specs.mirror.Scripts as tree
use Rattle.rb_trees.specs.mirror.Scripts.{SExpr, SExprs, Step, Steps, Script}
use Rattle.rb_meaning_bytes.specs.formats.Fields.{brief, truth}
use Rattle.rb_meaning_bytes.specs.formats.Shorts.{groups, short, folded, zig}
use Rattle.rb_meaning_bytes.specs.formats.Pools.{is_among, place_in, with_text, with_texts}
use Rattle.rb_meaning_bytes.specs.formats.Items.{form_items, count_items}
use Rattle.rb_meaning_bytes.specs.formats.FormedScripts.{primitive_form, ArePrimitive, AreInputs}
use Rattle.rb_meaning_bytes.specs.formats.ScriptBytes.{literal_form, literal_bytes, literals_bytes, expr_bytes, exprs_bytes, step_bytes, steps_bytes, block_bytes, input_form, input_bytes, inputs_bytes, count_exprs, count_steps, form_texts, literal_texts, literals_texts, expr_texts, exprs_texts, step_texts, steps_texts, input_form_texts, inputs_texts, texts_bytes, script_bytes}
use Rattle.rb_meaning_bytes.proofs.formats.Inputs.{fine_form, AreFine, inputs_fine}
use Rattle.rb_meaning.specs.Answers.{longest_request}
use Rattle.rb_meaning_split.specs.Division.{longest_code}

-- ---- numbers in groups

groups_few : (k n : ℕ) → length (groups k n) ≤ suc k
groups_few zero n = omega arith
groups_few (suc k) n = by (nat_lt n 128) (groups_few k (n / 128))
  where
    by : (t : Bool) → length (groups k (n / 128)) ≤ suc k → length (cond t (n ∷ []) ((128 + n % 128) ∷ groups k (n / 128))) ≤ suc (suc k)
    by true h = omega arith
    by false h = omega (arith, h)

short_few : (n : ℕ) → length (short n) ≤ 5
unfolding short
short_few n = groups_few 4 n

zig_few : (z : ℤ) → length (zig z) ≤ 10
unfolding zig
zig_few z = groups_few 9 (folded z)

-- ---- texts

-- what texts take in a pool where all of them differ
abbrev room : List (List ℕ) → ℕ
room [] = 0
room (t ∷ ts) = 5 + length t + room ts

room_both : (ts us : List (List ℕ)) → room (ts ++ us) ≡ room ts + room us
room_both [] us = omega arith
room_both (t ∷ ts) us = omega (arith, room_both ts us)

text_last : (ts : List (List ℕ)) (t : List ℕ) → length (texts_bytes (ts ++ t ∷ [])) ≤ length (texts_bytes ts) + (5 + length t)
text_last [] t = omega (arith, length-append (brief t) [], length-append (short (length t)) t, short_few (length t))
text_last (u ∷ us) t = omega (arith, length-append (brief u) (texts_bytes us), length-append (brief u) (texts_bytes (us ++ t ∷ [])), text_last us t)

text_more : (ts : List (List ℕ)) (t : List ℕ) → length (texts_bytes (with_text ts t)) ≤ length (texts_bytes ts) + (5 + length t)
text_more ts t = by (is_among t ts)
  where
    by : (b : Bool) → length (texts_bytes (cond b ts (ts ++ t ∷ []))) ≤ length (texts_bytes ts) + (5 + length t)
    by true = omega arith
    by false = text_last ts t

texts_more : (ts us : List (List ℕ)) → length (texts_bytes (with_texts ts us)) ≤ length (texts_bytes ts) + room us
texts_more ts [] = omega arith
texts_more ts (u ∷ us) = omega (arith, text_more ts u, texts_more (with_text ts u) us)

-- ---- by the texts of a pool

module _ (ts : List (List ℕ)) where
  -- a primitive value, with its text in the pool
  primitive_short : (w : Value-F Value) → primitive_form w → length (literal_form Two ts w) + room (form_texts w) ≤ 4107
  primitive_short (Value-F.Int z) h = omega (arith, zig_few z)
  primitive_short (Value-F.Bool true) h = omega arith
  primitive_short (Value-F.Bool false) h = omega arith
  primitive_short (Value-F.Text text) h = omega (arith, h.0, short_few (place_in ts text))
  primitive_short Value-F.Unit h = absurd h
  primitive_short (Value-F.Ref object) h = absurd h
  primitive_short (Value-F.Remote object) h = absurd h
  primitive_short (Value-F.List items) h = absurd h
  primitive_short (Value-F.Rows rows) h = absurd h

  items_short : (vs : List Value) → ArePrimitive vs → length (literals_bytes Two ts vs) + room (literals_texts vs) ≤ 4107 * length vs
  items_short [] h = omega arith
  items_short (v ∷ vs) h = omega (
    arith,
    length-append (literal_bytes Two ts v) (literals_bytes Two ts vs),
    room_both (literal_texts v) (literals_texts vs),
    primitive_short (out-Value v) h.0,
    items_short vs h.1,
  )

  input_short : (w : Value-F Value) → fine_form w → length (input_form Two ts w) + room (input_form_texts w) ≤ 4107 + 4107 * form_items w
  input_short (Value-F.Int z) h = primitive_short (Value-F.Int z) h
  input_short (Value-F.Bool b) h = primitive_short (Value-F.Bool b) h
  input_short (Value-F.Text text) h = primitive_short (Value-F.Text text) h
  input_short (Value-F.List items) h = omega (arith, length-append (short (length items)) (literals_bytes Two ts items), short_few (length items), items_short items h)
  input_short Value-F.Unit h = absurd h
  input_short (Value-F.Ref object) h = absurd h
  input_short (Value-F.Remote object) h = absurd h
  input_short (Value-F.Rows rows) h = absurd h

  inputs_short : (vs : List Value) → AreFine vs → length (inputs_bytes Two ts vs) + room (inputs_texts vs) ≤ 4107 * length vs + 4107 * count_items vs
  inputs_short [] h = omega arith
  inputs_short (v ∷ vs) h = omega (
    arith,
    length-append (input_bytes Two ts v) (inputs_bytes Two ts vs),
    room_both (input_form_texts (out-Value v)) (inputs_texts vs),
    input_short (out-Value v) h.0,
    inputs_short vs h.1,
  )

  -- ---- code, with its texts in the pool

  literal_short : (w : Value-F Value) → length (literal_form Two ts w) + room (form_texts w) ≤ 2 * value_form_size w + 1
  literal_short (Value-F.Int z) = omega (arith, zig_few z)
  literal_short (Value-F.Bool true) = omega arith
  literal_short (Value-F.Bool false) = omega arith
  literal_short (Value-F.Text text) = omega (arith, short_few (place_in ts text))
  literal_short Value-F.Unit = omega arith
  literal_short (Value-F.Ref object) = omega arith
  literal_short (Value-F.Remote object) = omega arith
  literal_short (Value-F.List items) = omega arith
  literal_short (Value-F.Rows rows) = omega arith

  mutual
    expr_short : (e : SExpr) → length (expr_bytes Two ts e) + room (expr_texts e) ≤ 2 * expr_size e
    expr_short (tree.Lit v) = omega (arith, literal_short (out-Value v))
    expr_short (tree.Input n) = omega arith
    expr_short (tree.Var n) = omega (arith, short_few n)
    expr_short tree.Root = omega arith
    expr_short (tree.Unary op at a) = omega (arith, length-append (short at) (expr_bytes Two ts a), short_few at, expr_short a)
    expr_short (tree.Binary op at a b) = omega (
      arith,
      length-append (short at ++ expr_bytes Two ts a) (expr_bytes Two ts b),
      length-append (short at) (expr_bytes Two ts a),
      room_both (expr_texts a) (expr_texts b),
      short_few at,
      expr_short a,
      expr_short b,
    )
    expr_short (tree.Call at kind method target args) =
        let named = kind ∷ short (place_in ts method) in
        let count = short (count_exprs args) in
        let object = expr_bytes Two ts target in
        omega (
          arith,
          length-append (short at ++ named ++ object ++ count) (exprs_bytes Two ts args),
          length-append (short at ++ named ++ object) count,
          length-append (short at ++ named) object,
          length-append (short at) named,
          room_both (expr_texts target) (exprs_texts args),
          short_few at,
          short_few (place_in ts method),
          short_few (count_exprs args),
          expr_short target,
          exprs_short args,
        )

    exprs_short : (es : SExprs) → length (exprs_bytes Two ts es) + room (exprs_texts es) ≤ 2 * exprs_size es
    exprs_short tree.NoSExprs = omega arith
    exprs_short (tree.MoreSExprs e es) = omega (
      arith,
      length-append (expr_bytes Two ts e) (exprs_bytes Two ts es),
      room_both (expr_texts e) (exprs_texts es),
      expr_short e,
      exprs_short es,
    )

  -- what each step begins with, behind its tag
  head_short : (id at : ℕ) → length (short id ++ short at) ≤ 10
  head_short id at = omega (arith, length-append (short id) (short at), short_few id, short_few at)

  -- something, and a number behind it
  number_short : (front : List ℕ) (n : ℕ) → length (front ++ short n) ≤ length front + 5
  number_short front n = omega (arith, length-append front (short n), short_few n)

  truth_short : (front : List ℕ) (b : Bool) → length (front ++ truth b) ≤ length front + 1
  truth_short front true = omega (arith, length-append front (1 ∷ []))
  truth_short front false = omega (arith, length-append front (0 ∷ []))

  -- what a step that binds a variable begins with, behind its tag
  binding_short : (id at var : ℕ) (keep : Bool) → length (short id ++ short at ++ short var ++ truth keep) ≤ 16
  binding_short id at var keep = omega (arith, truth_short (short id ++ short at ++ short var) keep, number_short (short id ++ short at) var, head_short id at)

  mutual
    step_short : (s : Step) → length (step_bytes Two ts s) + room (step_texts s) ≤ 2 * step_size s
    step_short (tree.Do id at e) = omega (arith, length-append (short id ++ short at) (expr_bytes Two ts e), head_short id at, expr_short e)
    step_short (tree.Keep id at e) = omega (arith, length-append (short id ++ short at) (expr_bytes Two ts e), head_short id at, expr_short e)
    step_short (tree.Let id at var keep e) =
        omega (arith, length-append (short id ++ short at ++ short var ++ truth keep) (expr_bytes Two ts e), binding_short id at var keep, expr_short e)
    step_short (tree.If id at e a b) =
        let front = short id ++ short at ++ expr_bytes Two ts e in
        let first = front ++ short (count_steps a) ++ steps_bytes Two ts a in
        omega (
          arith,
          length-append (short id ++ short at) (expr_bytes Two ts e),
          number_short front (count_steps a),
          length-append (front ++ short (count_steps a)) (steps_bytes Two ts a),
          number_short first (count_steps b),
          length-append (first ++ short (count_steps b)) (steps_bytes Two ts b),
          room_both (expr_texts e ++ steps_texts a) (steps_texts b),
          room_both (expr_texts e) (steps_texts a),
          head_short id at,
          expr_short e,
          steps_short a,
          steps_short b,
        )
    step_short (tree.Each id at var keep e a) =
        let front = short id ++ short at ++ short var ++ truth keep ++ expr_bytes Two ts e in
        omega (
          arith,
          length-append (short id ++ short at ++ short var ++ truth keep) (expr_bytes Two ts e),
          number_short front (count_steps a),
          length-append (front ++ short (count_steps a)) (steps_bytes Two ts a),
          room_both (expr_texts e) (steps_texts a),
          binding_short id at var keep,
          expr_short e,
          steps_short a,
        )
    step_short (tree.Over id at var input a) =
        let count = input ∷ short (count_steps a) in
        let front = short id ++ short at ++ short var in
        omega (
          arith,
          number_short (short id ++ short at) var,
          length-append front count,
          length-append (front ++ count) (steps_bytes Two ts a),
          short_few (count_steps a),
          head_short id at,
          steps_short a,
        )

    steps_short : (ss : Steps) → length (steps_bytes Two ts ss) + room (steps_texts ss) ≤ 2 * steps_size ss
    steps_short tree.NoSteps = omega arith
    steps_short (tree.MoreSteps s ss) = omega (
      arith,
      length-append (step_bytes Two ts s) (steps_bytes Two ts ss),
      room_both (step_texts s) (steps_texts ss),
      step_short s,
      steps_short ss,
    )

  block_short : (ss : Steps) → length (block_bytes Two ts ss) + room (steps_texts ss) ≤ 2 * block_size ss
  block_short ss = omega (arith, length-append (short (count_steps ss)) (steps_bytes Two ts ss), short_few (count_steps ss), steps_short ss)

-- ---- requests

-- a size within the greatest that counts is itself
pub capped_low : (n : ℕ) → capped n ≤ longest_code → n ≤ longest_code
capped_low n h = omega arith

pub request_short : (s : Script) → s.inputs < 256 → code_size_of s ≤ longest_code → (vs : List Value) → AreInputs s vs → length (script_bytes Two s vs) ≤ longest_request
request_short s i c vs h =
    let uses = inputs_texts vs ++ steps_texts s.body in
    let texts = with_texts [] uses in
    let inputs = inputs_bytes Two texts vs in
    let code = block_bytes Two texts s.body in
    let pool = short (length texts) ++ texts_bytes texts in
    omega (
      arith,
      length-append (pool ++ s.inputs ∷ inputs) code,
      length-append pool (s.inputs ∷ inputs),
      length-append (short (length texts)) (texts_bytes texts),
      short_few (length texts),
      texts_more [] uses,
      room_both (inputs_texts vs) (steps_texts s.body),
      inputs_short texts vs (inputs_fine s vs h),
      block_short texts s.body,
      capped_low (block_size s.body) c,
      h.count,
      h.items,
      i,
    )
