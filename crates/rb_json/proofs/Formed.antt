-- What is read is formed, and within the limits of nesting, where the reading is at most 127 deep.
use Rattle.std.proofs.Common.{◌≡◌, ◌+◌, ◌<◌, ◌≤◌, ◌^◌, ℕ, ℤ, pos, negsuc, zero, suc, List, length, refl, ap, sym, ◌∙◌, subst, arith, Bool, true, false, cond, ◌&&◌, ◌==◌, nat_lt, nat_le, codes, Option, None, Some, Ok, Err, FitsSigned, option_and_then}
use Rattle.std.proofs.lemmas.Bool.Decides.{nat_tests}
use Rattle.std.specs.Int.{w64}
use Rattle.std.specs.Str.{is_utf8, bytes_eq}
use Rattle.rb_trees.specs.Limits.{longest_text}
use Rattle.rb_trees.specs.Outcome.{◌>>=◌, known}
use Rattle.rb_trees.specs.declared.values.Value.{Value, out-Value}
use Rattle.rb_trees.specs.declared.values.Value.TheOpen.{Value-F}
use Rattle.rb_trees.specs.declared.values.Value.TheVariants as a_value
use Rattle.rb_trees.specs.declared.values.Value.TheViews.{out-roll-Value}
use Rattle.rb_trees.specs.mirror.Scripts as script
use Rattle.rb_trees.specs.mirror.Scripts.{SExpr, SExprs, Step, Steps, Script}
use Rattle.rb_meaning_bytes.specs.formats.Fields.{Name, Fits, is_name}
use Rattle.rb_meaning_bytes.specs.formats.FormedScripts.{primitive_form, IsPrimitive, ArePrimitive, FormedExpr, FormedExprs, FormedStep, FormedSteps, Within, AllWithin, WholeWithin, StepWithin, StepsWithin, IsWithinLimits}
use Rattle.rb_meaning_bytes.specs.formats.Items.{form_items, items_of, count_items as items_together, most_items}
use Rattle.rb_meaning_bytes.specs.formats.ScriptBytes.{count_exprs, count_steps}
use Rattle.serde_json.specs.Data.{Data, null, boolean, number, string, array, object, Items, no_items, item, depth, items_depth}
use Rattle.serde_json.specs.Find.{as_i64, as_u64, as_number}
use Rattle.rb_json.specs.Counts.{count, count_items, items_number}
use Rattle.rb_json.specs.Values.{Read, pair, below, is_signed, number_at, value_at, values_in, input_at, inputs_in, inputs_at, unary_at, binary_at, kind_at, truth_at, name_at}
use Rattle.rb_json.specs.Exprs.{literal, input, variable, method_at, expr_at, unary_expr, binary_expr, call_expr, exprs_at, exprs_in}
use Rattle.rb_json.specs.Steps.{head_at, bound_at, walk_at, do_step, keep_step, let_step, step_at, if_step, each_step, over_step, steps_at, steps_in}
use Rattle.rb_json.specs.Requests.{sent_of}
use Rattle.rb_json.specs.Formed.{IsSendable}
use Rattle.rb_json.proofs.Inputs.{fine_form, AreFine, fine_inputs, list_numbers_rise}

-- Of what is read, where something is, this holds.
abbrev pub Good : {A : Type 0} → (A → Type 0) → Read A → Type 0
Good P (Ok x) = P x
Good P (Err p) = Unit {0}

goes : {A B : Type 0} (P : A → Type 0) (Q : B → Type 0) (r : Read A) (f : A → Read B) → Good P r → ((x : A) → P x → Good Q (f x)) → Good Q (r >>= f)
goes P Q (Ok x) f h k = k x h
goes P Q (Err p) f h k = tt

whatever : {A : Type 0} (r : Read A) → Good (λ x. Unit {0}) r
whatever (Ok x) = tt
whatever (Err p) = tt

one_of : {A : Type 0} (P : A → Type 0) (b : Bool) (x y : Read A) → Good P x → Good P y → Good P (cond b x y)
one_of P true x y h k = h
one_of P false x y h k = k

where_so : {A : Type 0} (P : A → Type 0) (b : Bool) (x : Read A) (p : ℕ) → (b ≡ true → Good P x) → Good P (cond b x (Err p))
where_so P true x p h = h refl
where_so P false x p h = tt

-- what holds of a reading holds of what it gives
pub of_read : {A : Type 0} (P : A → Type 0) (r : Read A) (x : A) → Good P r → r ≡ Ok x → P x
of_read P r x h is = subst (Good P) is h

left_true : (a b : Bool) → (a && b) ≡ true → a ≡ true
left_true true b h = refl
left_true false b h = h

right_true : (a b : Bool) → (a && b) ≡ true → b ≡ true
right_true true b h = h
right_true false b h = absurd cc

less : (n bound : ℕ) → nat_lt n bound ≡ true → n < bound
less n bound h = grind (arith, nat_tests, h)

most : (n bound : ℕ) → nat_le n bound ≡ true → n ≤ bound
most n bound h = grind (arith, nat_tests, h)

-- ---- numbers and names

number_good : (bound p : ℕ) (d : Data) → Good (λ n. n < bound) (number_at bound p d)
number_good bound p d = go (option_and_then as_u64 (as_number d))
  where
    step : (k : ℕ) (b : Bool) → nat_lt k bound ≡ b → Good (λ n. n < bound) (known p (cond b (Some k) None))
    step k true h = less k bound h
    step k false h = tt

    go : (o : Option ℕ) → Good (λ n. n < bound) (known p (below bound o))
    go None = tt
    go (Some k) = step k (nat_lt k bound) refl

name_good : (p : ℕ) (d : Data) → Good (Fits Name) (name_at p d)
name_good p (string s) =
    where_so (Fits Name) (is_name s && nat_lt (length s) (2 ^ 32)) (Ok s) p (λ h. (less (length s) (2 ^ 32) (right_true (is_name s) (nat_lt (length s) (2 ^ 32)) h), left_true (is_name s) (nat_lt (length s) (2 ^ 32)) h))
name_good p _ = tt

-- ---- values

out_int : (z : ℤ) → out-Value (a_value.Int z) ≡ Value-F.Int z
out_int z = ap out-Value (sym (a_value.rolls-Int z)) ∙ out-roll-Value (Value-F.Int z)

out_bool : (b : Bool) → out-Value (a_value.Bool b) ≡ Value-F.Bool b
out_bool b = ap out-Value (sym (a_value.rolls-Bool b)) ∙ out-roll-Value (Value-F.Bool b)

out_text : (bytes : List ℕ) → out-Value (a_value.Text bytes) ≡ Value-F.Text bytes
out_text bytes = ap out-Value (sym (a_value.rolls-Text bytes)) ∙ out-roll-Value (Value-F.Text bytes)

out_list : (items : List Value) → out-Value (a_value.List items) ≡ Value-F.List items
out_list items = ap out-Value (sym (a_value.rolls-List items)) ∙ out-roll-Value (Value-F.List items)

signed_fits : (z : ℤ) → is_signed z ≡ true → FitsSigned w64 z
signed_fits (pos n) h = record { sfits = less n (2 ^ 63) h }
signed_fits (negsuc n) h = let few = less n (2 ^ 63) h in record { sfits = omega arith }

value_good : (p : ℕ) (d : Data) → Good IsPrimitive (value_at p d)
value_good p (number n) =
    goes (λ z. Unit {0}) IsPrimitive (known p (as_i64 n)) _ (whatever (known p (as_i64 n)))
    (λ z u. where_so IsPrimitive (is_signed z) (Ok (a_value.Int z)) p (λ h. subst primitive_form (sym (out_int z)) (signed_fits z h)))
value_good p (boolean b) = subst primitive_form (sym (out_bool b)) tt
value_good p (string s) =
    where_so IsPrimitive (nat_le (length s) longest_text && is_utf8 s) (Ok (a_value.Text s)) p
    (λ h. subst primitive_form (sym (out_text s)) (most (length s) longest_text (left_true (nat_le (length s) longest_text) (is_utf8 s) h), right_true (nat_le (length s) longest_text) (is_utf8 s) h))
value_good p null = tt
value_good p (array ds) = tt
value_good p (object ms) = tt

values_good : (p : ℕ) (ds : Items) → Good (λ vs. ArePrimitive vs × (length vs ≡ items_number ds)) (values_in p ds)
values_good p no_items = (tt, refl)
values_good p (item d ds) =
    goes IsPrimitive _ (value_at p d) _ (value_good p d)
    (λ v h. goes (λ vs. ArePrimitive vs × (length vs ≡ items_number ds)) _ (values_in (p + count d) ds) _ (values_good (p + count d) ds) (λ vs k. ((h, k.0), ap suc k.1)))

-- a value of an input, behind lists with so many items
abbrev InputGood : ℕ → Value → Type 0
InputGood used v = fine_form (out-Value v) × (used + items_of v ≤ most_items)

primitive_good : (used : ℕ) (x : Value-F Value) → used ≤ most_items → primitive_form x → fine_form x × (used + form_items x ≤ most_items)
primitive_good used (Value-F.Int z) few h = (h, omega (arith, few))
primitive_good used (Value-F.Bool b) few h = (h, omega (arith, few))
primitive_good used (Value-F.Text s) few h = (h, omega (arith, few))
primitive_good used _ few h = absurd h

as_input : (used : ℕ) (r : Read Value) → used ≤ most_items → Good IsPrimitive r → Good (InputGood used) r
as_input used (Ok v) few h = primitive_good used (out-Value v) few h
as_input used (Err p) few h = tt

list_good : (used : ℕ) (vs : List Value) → ArePrimitive vs → used + length vs ≤ most_items → InputGood used (a_value.List vs)
list_good used vs h few = subst (λ x. fine_form x × (used + form_items x ≤ most_items)) (sym (out_list vs)) (h, few)

input_good : (p used : ℕ) (d : Data) → used ≤ most_items → Good (InputGood used) (input_at p used d)
input_good p used (array ds) few =
    where_so (InputGood used) (nat_le (used + items_number ds) most_items) _ p
    (λ h.
    let within = most (used + items_number ds) most_items h in
    goes (λ vs. ArePrimitive vs × (length vs ≡ items_number ds)) (InputGood used) (values_in (p + 1) ds) _ (values_good (p + 1) ds) (λ vs k. list_good used vs k.0 (let same = k.1 in omega (arith, within, same))))
input_good p used null few = as_input used (value_at p null) few (value_good p null)
input_good p used (boolean b) few = as_input used (value_at p (boolean b)) few (value_good p (boolean b))
input_good p used (number n) few = as_input used (value_at p (number n)) few (value_good p (number n))
input_good p used (string s) few = as_input used (value_at p (string s)) few (value_good p (string s))
input_good p used (object ms) few = as_input used (value_at p (object ms)) few (value_good p (object ms))

-- the values of inputs, which are so many, behind lists with so many items
pub record AllGood (used number : ℕ) (vs : List Value) : Type 0 where
  pub fine : AreFine vs
  pub items : used + items_together vs ≤ most_items
  pub many : length vs ≡ number

inputs_good : (p used : ℕ) (ds : Items) → used ≤ most_items → Good (AllGood used (items_number ds)) (inputs_in p used ds)
inputs_good p used no_items few = record { fine = tt; items = omega (arith, few); many = refl }
inputs_good p used (item d ds) few =
    goes (InputGood used) _ (input_at p used d) _ (input_good p used d few)
    (λ v h.
    let within = h.1 in
    goes (AllGood (used + items_of v) (items_number ds)) _ (inputs_in (p + count d) (used + items_of v) ds) _ (inputs_good (p + count d) (used + items_of v) ds within)
    (λ vs k. let items = k.items in record { fine = (h.0, k.fine); items = omega (arith, items); many = ap suc k.many }))

-- the values of all inputs
abbrev pub WholeGood : List Value → Type 0
WholeGood vs = AreFine vs × (items_together vs ≤ most_items) × (length vs ≤ 255)

pub all_inputs_good : (p : ℕ) (d : Data) → Good WholeGood (inputs_at p d)
all_inputs_good p (array ds) =
    where_so WholeGood (nat_le (items_number ds) 255) (inputs_in (p + 1) 0 ds) p
    (λ h. few (inputs_in (p + 1) 0 ds) (most (items_number ds) 255 h) (inputs_good (p + 1) 0 ds (omega arith)))
  where
    few : (r : Read (List Value)) → items_number ds ≤ 255 → Good (AllGood 0 (items_number ds)) r → Good WholeGood r
    few (Ok vs) n h = let items = h.items in let many = h.many in (h.fine, omega (arith, items), omega (arith, many, n))
    few (Err p) n h = tt
all_inputs_good p _ = tt

-- ---- expressions

abbrev pub ExprGood : ℕ → SExpr → Type 0
ExprGood n e = FormedExpr e × Within n e

-- as many as values at most, so that their number is one of 32 bits
abbrev pub ExprsGood : ℕ → ℕ → SExprs → Type 0
ExprsGood n many es = (count_exprs es ≤ many) × FormedExprs es × AllWithin n es

counts : (d : Data) → 0 < count d
counts null = omega arith
counts (boolean b) = omega arith
counts (number n) = omega arith
counts (string s) = omega arith
counts (array ds) = omega arith
counts (object ms) = omega arith

method_good : (q : ℕ) (at k name : Data) → Good (λ m. (m.0 < 2 ^ 32) × (m.1 < 9) × Fits Name m.2) (method_at q at k name)
method_good q at k name =
    goes (λ n. n < 2 ^ 32) _ (number_at (2 ^ 32) q at) _ (number_good (2 ^ 32) q at)
    (λ a h. goes (λ n. n < 9) _ (kind_at (q + count at) k) _ (number_good 9 (q + count at) k)
    (λ b i. goes (Fits Name) _ (name_at (q + count at + count k) name) _ (name_good (q + count at + count k) name) (λ c j. (h, i, j))))

literal_good : (n q : ℕ) (ds : Items) → Good (ExprGood (suc n)) (literal q ds)
literal_good n q (item v no_items) = goes IsPrimitive _ (value_at q v) _ (value_good q v) (λ x h. (h, tt))
literal_good n q _ = tt

input_expr_good : (n q : ℕ) (ds : Items) → Good (ExprGood (suc n)) (input q ds)
input_expr_good n q (item k no_items) = goes (λ k. k < 2 ^ 8) _ (number_at (2 ^ 8) q k) _ (number_good (2 ^ 8) q k) (λ x h. (h, tt))
input_expr_good n q _ = tt

variable_good : (n q : ℕ) (ds : Items) → Good (ExprGood (suc n)) (variable q ds)
variable_good n q (item k no_items) = goes (λ k. k < 2 ^ 32) _ (number_at (2 ^ 32) q k) _ (number_good (2 ^ 32) q k) (λ x h. (h, tt))
variable_good n q _ = tt

mutual
  pub expr_good : (n p : ℕ) (d : Data) → count d < 2 ^ 32 → depth d ≤ n → Good (ExprGood n) (expr_at p d)
  expr_good zero p (array ds) few deep = absurd (omega (arith, deep))
  expr_good (suc n) p (array (item (string word) ds)) few deep =
      let q : ℕ = p + 2 in
      let P : SExpr → Type 0 = ExprGood (suc n) in
      let least : count_items ds < 2 ^ 32 = omega (arith, few) in
      let within : items_depth ds ≤ n = omega (arith, deep) in
      let r6 : Read SExpr = cond (bytes_eq word (codes "call") && items_number ds == 5) (call_expr q ds) (Err p) in
      let r5 : Read SExpr = cond (bytes_eq word (codes "bin") && items_number ds == 4) (binary_expr q ds) r6 in
      let r4 : Read SExpr = cond (bytes_eq word (codes "un") && items_number ds == 3) (unary_expr q ds) r5 in
      let r3 : Read SExpr = cond (bytes_eq word (codes "root") && items_number ds == 0) (Ok script.Root) r4 in
      let r2 : Read SExpr = cond (bytes_eq word (codes "var") && items_number ds == 1) (variable q ds) r3 in
      let r1 : Read SExpr = cond (bytes_eq word (codes "in") && items_number ds == 1) (input q ds) r2 in
      one_of P (bytes_eq word (codes "lit") && items_number ds == 1) (literal q ds) r1 (literal_good n q ds)
      (one_of P (bytes_eq word (codes "in") && items_number ds == 1) (input q ds) r2 (input_expr_good n q ds)
      (one_of P (bytes_eq word (codes "var") && items_number ds == 1) (variable q ds) r3 (variable_good n q ds)
      (one_of P (bytes_eq word (codes "root") && items_number ds == 0) (Ok script.Root) r4 (tt, tt)
      (one_of P (bytes_eq word (codes "un") && items_number ds == 3) (unary_expr q ds) r5 (unary_good n q ds least within)
      (one_of P (bytes_eq word (codes "bin") && items_number ds == 4) (binary_expr q ds) r6 (binary_good n q ds least within)
      (one_of P (bytes_eq word (codes "call") && items_number ds == 5) (call_expr q ds) (Err p) (call_good n q ds least within) tt))))))
  expr_good (suc n) p (array no_items) few deep = tt
  expr_good (suc n) p (array (item null es)) few deep = tt
  expr_good (suc n) p (array (item (boolean b) es)) few deep = tt
  expr_good (suc n) p (array (item (number m) es)) few deep = tt
  expr_good (suc n) p (array (item (array bs) es)) few deep = tt
  expr_good (suc n) p (array (item (object ms) es)) few deep = tt
  expr_good n p null few deep = tt
  expr_good n p (boolean b) few deep = tt
  expr_good n p (number m) few deep = tt
  expr_good n p (string s) few deep = tt
  expr_good n p (object ms) few deep = tt

  unary_good : (n q : ℕ) (ds : Items) → count_items ds < 2 ^ 32 → items_depth ds ≤ n → Good (ExprGood (suc n)) (unary_expr q ds)
  unary_good n q (item op (item at (item e no_items))) few deep =
      goes (λ o. Unit {0}) _ (unary_at q op) _ (whatever (unary_at q op))
      (λ o u. goes (λ a. a < 2 ^ 32) _ (number_at (2 ^ 32) (q + count op) at) _ (number_good (2 ^ 32) (q + count op) at)
      (λ a h. goes (ExprGood n) _ (expr_at (q + count op + count at) e) _ (expr_good n (q + count op + count at) e (omega (arith, few)) (omega (arith, deep)))
      (λ x k. ((h, k.0), k.1))))
  unary_good n q _ few deep = tt

  binary_good : (n q : ℕ) (ds : Items) → count_items ds < 2 ^ 32 → items_depth ds ≤ n → Good (ExprGood (suc n)) (binary_expr q ds)
  binary_good n q (item op (item at (item a (item b no_items)))) few deep =
      let l : ℕ = q + count op + count at in
      goes (λ o. Unit {0}) _ (binary_at q op) _ (whatever (binary_at q op))
      (λ o u. goes (λ a. a < 2 ^ 32) _ (number_at (2 ^ 32) (q + count op) at) _ (number_good (2 ^ 32) (q + count op) at)
      (λ at h. goes (λ both. ExprGood n both.0 × ExprGood n both.1) _ (pair (expr_at l a) (expr_at (l + count a) b)) _
      (goes (ExprGood n) _ (expr_at l a) _ (expr_good n l a (omega (arith, few)) (omega (arith, deep)))
      (λ x i. goes (ExprGood n) _ (expr_at (l + count a) b) _ (expr_good n (l + count a) b (omega (arith, few)) (omega (arith, deep))) (λ y j. (i, j))))
      (λ both k. ((h, k.0.0, k.1.0), (k.0.1, k.1.1)))))
  binary_good n q _ few deep = tt

  call_good : (n q : ℕ) (ds : Items) → count_items ds < 2 ^ 32 → items_depth ds ≤ n → Good (ExprGood (suc n)) (call_expr q ds)
  call_good n q (item at (item k (item name (item e (item args no_items))))) few deep =
      let l : ℕ = q + (count at + count k + count name) in
      goes (λ m. (m.0 < 2 ^ 32) × (m.1 < 9) × Fits Name m.2) _ (method_at q at k name) _ (method_good q at k name)
      (λ m h. goes (ExprGood n) _ (expr_at l e) _ (expr_good n l e (omega (arith, few)) (omega (arith, deep)))
      (λ x i. goes (ExprsGood n (count args)) _ (exprs_at (l + count e) args) _ (exprs_good n (l + count e) args (omega (arith, few)) (omega (arith, deep)))
      (λ es j. let kind = h.1 in let many = j.0 in ((h.0, omega (arith, kind), h.2, i.0, omega (arith, many, few), j.1), (i.1, j.2)))))
  call_good n q _ few deep = tt

  exprs_good : (n p : ℕ) (d : Data) → count d < 2 ^ 32 → depth d ≤ n → Good (ExprsGood n (count d)) (exprs_at p d)
  exprs_good n p (array ds) few deep = more (exprs_in (p + 1) ds) (all_good n (p + 1) ds (omega (arith, few)) (omega (arith, deep)))
    where
      more : (r : Read SExprs) → Good (ExprsGood n (count_items ds)) r → Good (ExprsGood n (suc (count_items ds))) r
      more (Ok es) h = let many = h.0 in (omega (arith, many), h.1, h.2)
      more (Err p) h = tt
  exprs_good n p null few deep = tt
  exprs_good n p (boolean b) few deep = tt
  exprs_good n p (number m) few deep = tt
  exprs_good n p (string s) few deep = tt
  exprs_good n p (object ms) few deep = tt

  all_good : (n p : ℕ) (ds : Items) → count_items ds < 2 ^ 32 → items_depth ds ≤ n → Good (ExprsGood n (count_items ds)) (exprs_in p ds)
  all_good n p no_items few deep = (omega arith, tt, tt)
  all_good n p (item d ds) few deep =
      goes (ExprGood n) _ (expr_at p d) _ (expr_good n p d (omega (arith, few)) (omega (arith, deep)))
      (λ e h. goes (ExprsGood n (count_items ds)) _ (exprs_in (p + count d) ds) _ (all_good n (p + count d) ds (omega (arith, few)) (omega (arith, deep)))
      (λ es k. let many = k.0 in let one = counts d in (omega (arith, many, one), (h.0, k.1), (h.1, k.2))))

-- ---- steps

-- An expression of a step has at most 256 within each other.
abbrev pub Whole : SExpr → Type 0
Whole e = FormedExpr e × WholeWithin e

told : (r : Read SExpr) → Good (ExprGood 256) r → Good Whole r
unfolding WholeWithin
told (Ok e) h = h
told (Err p) h = tt

whole_good : (p : ℕ) (d : Data) → count d < 2 ^ 32 → depth d ≤ 256 → Good Whole (expr_at p d)
whole_good p d few deep = told (expr_at p d) (expr_good 256 p d few deep)

abbrev pub StepGood : ℕ → Step → Type 0
StepGood n s = FormedStep s × StepWithin n s

abbrev pub StepsGood : ℕ → ℕ → Steps → Type 0
StepsGood n many ss = (count_steps ss ≤ many) × FormedSteps ss × StepsWithin n ss

-- a block in a step with so many within each other
abbrev pub BlockGood : ℕ → ℕ → Steps → Type 0
BlockGood zero many ss = ⊥
BlockGood (suc n) many ss = StepsGood n many ss

abbrev HeadGood : ℕ × ℕ → Type 0
HeadGood h = (h.0 < 2 ^ 32) × (h.1 < 2 ^ 32)

abbrev BoundGood : ℕ × Bool × SExpr → Type 0
BoundGood b = (b.0 < 2 ^ 32) × Whole b.2

abbrev WalkGood : ℕ × ℕ → Type 0
WalkGood w = (w.0 < 2 ^ 32) × (w.1 < 256)

head_good : (q : ℕ) (id at : Data) → Good HeadGood (head_at q id at)
head_good q id at =
    goes (λ n. n < 2 ^ 32) _ (number_at (2 ^ 32) q id) _ (number_good (2 ^ 32) q id)
    (λ a h. goes (λ n. n < 2 ^ 32) _ (number_at (2 ^ 32) (q + count id) at) _ (number_good (2 ^ 32) (q + count id) at) (λ b i. (h, i)))

bound_good : (q : ℕ) (var keep e : Data) → count e < 2 ^ 32 → depth e ≤ 256 → Good BoundGood (bound_at q var keep e)
bound_good q var keep e few deep =
    goes (λ n. n < 2 ^ 32) _ (number_at (2 ^ 32) q var) _ (number_good (2 ^ 32) q var)
    (λ a h. goes (λ t. Unit {0}) _ (truth_at (q + count var) keep) _ (whatever (truth_at (q + count var) keep))
    (λ t u. goes Whole _ (expr_at (q + count var + count keep) e) _ (whole_good (q + count var + count keep) e few deep) (λ x i. (h, i))))

walk_good : (q : ℕ) (var k : Data) → Good WalkGood (walk_at q var k)
walk_good q var k =
    goes (λ n. n < 2 ^ 32) _ (number_at (2 ^ 32) q var) _ (number_good (2 ^ 32) q var)
    (λ a h. goes (λ n. n < 2 ^ 8) _ (number_at (2 ^ 8) (q + count var) k) _ (number_good (2 ^ 8) (q + count var) k) (λ b i. (h, i)))

if_fine : (n id at : ℕ) (e : SExpr) (a b : Steps) (many more : ℕ) → many < 2 ^ 32 → more < 2 ^ 32 → (id < 2 ^ 32) × (at < 2 ^ 32) → Whole e → BlockGood n many a → BlockGood n more b → StepGood n (script.If id at e a b)
if_fine zero id at e a b many more few less h i j k = absurd j
if_fine (suc n) id at e a b many more few less h i j k =
    let one = j.0 in let two = k.0 in ((h.0, h.1, i.0, omega (arith, one, few), j.1, omega (arith, two, less), k.1), (i.1, j.2, k.2))

each_fine : (n id at var : ℕ) (keep : Bool) (e : SExpr) (a : Steps) (many : ℕ) → many < 2 ^ 32 → (id < 2 ^ 32) × (at < 2 ^ 32) → var < 2 ^ 32 → Whole e → BlockGood n many a → StepGood n (script.Each id at var keep e a)
each_fine zero id at var keep e a many few h v i j = absurd j
each_fine (suc n) id at var keep e a many few h v i j = let one = j.0 in ((h.0, h.1, v, i.0, omega (arith, one, few), j.1), (i.1, j.2))

over_fine : (n id at var input : ℕ) (a : Steps) (many : ℕ) → many < 2 ^ 32 → (id < 2 ^ 32) × (at < 2 ^ 32) → var < 2 ^ 32 → input < 256 → BlockGood n many a → StepGood n (script.Over id at var input a)
over_fine zero id at var input a many few h v i j = absurd j
over_fine (suc n) id at var input a many few h v i j = let one = j.0 in ((h.0, h.1, v, i, omega (arith, one, few), j.1), j.2)

-- A step whose array is so deep has so many blocks within each other, since each block takes two levels.
mutual
  step_good : (n p : ℕ) (d : Data) → n ≤ 127 → count d < 2 ^ 32 → depth d ≤ suc (n + n) → Good (StepGood n) (step_at p d)
  step_good n p (array (item (string word) ds)) small few deep =
      let q : ℕ = p + 2 in
      let P : Step → Type 0 = StepGood n in
      let least : count_items ds < 2 ^ 32 = omega (arith, few) in
      let within : items_depth ds ≤ n + n = omega (arith, deep) in
      let r5 : Read Step = cond (bytes_eq word (codes "over") && items_number ds == 5) (over_step q ds) (Err p) in
      let r4 : Read Step = cond (bytes_eq word (codes "each") && items_number ds == 6) (each_step q ds) r5 in
      let r3 : Read Step = cond (bytes_eq word (codes "if") && items_number ds == 5) (if_step q ds) r4 in
      let r2 : Read Step = cond (bytes_eq word (codes "let") && items_number ds == 5) (let_step q ds) r3 in
      let r1 : Read Step = cond (bytes_eq word (codes "keep") && items_number ds == 3) (keep_step q ds) r2 in
      one_of P (bytes_eq word (codes "do") && items_number ds == 3) (do_step q ds) r1 (do_good n q ds small least within)
      (one_of P (bytes_eq word (codes "keep") && items_number ds == 3) (keep_step q ds) r2 (keep_good n q ds small least within)
      (one_of P (bytes_eq word (codes "let") && items_number ds == 5) (let_step q ds) r3 (let_good n q ds small least within)
      (one_of P (bytes_eq word (codes "if") && items_number ds == 5) (if_step q ds) r4 (if_good n q ds small least within)
      (one_of P (bytes_eq word (codes "each") && items_number ds == 6) (each_step q ds) r5 (each_good n q ds small least within)
      (one_of P (bytes_eq word (codes "over") && items_number ds == 5) (over_step q ds) (Err p) (over_good n q ds small least within) tt)))))
  step_good n p (array no_items) small few deep = tt
  step_good n p (array (item null es)) small few deep = tt
  step_good n p (array (item (boolean b) es)) small few deep = tt
  step_good n p (array (item (number m) es)) small few deep = tt
  step_good n p (array (item (array bs) es)) small few deep = tt
  step_good n p (array (item (object ms) es)) small few deep = tt
  step_good n p null small few deep = tt
  step_good n p (boolean b) small few deep = tt
  step_good n p (number m) small few deep = tt
  step_good n p (string s) small few deep = tt
  step_good n p (object ms) small few deep = tt

  do_good : (n q : ℕ) (ds : Items) → n ≤ 127 → count_items ds < 2 ^ 32 → items_depth ds ≤ n + n → Good (StepGood n) (do_step q ds)
  do_good n q (item id (item at (item e no_items))) small few deep =
      goes HeadGood _ (head_at q id at) _ (head_good q id at)
      (λ h i. goes Whole _ (expr_at (q + (count id + count at)) e) _ (whole_good (q + (count id + count at)) e (omega (arith, few)) (omega (arith, deep, small))) (λ x j. ((i.0, i.1, j.0), j.1)))
  do_good n q _ small few deep = tt

  keep_good : (n q : ℕ) (ds : Items) → n ≤ 127 → count_items ds < 2 ^ 32 → items_depth ds ≤ n + n → Good (StepGood n) (keep_step q ds)
  keep_good n q (item id (item at (item e no_items))) small few deep =
      goes HeadGood _ (head_at q id at) _ (head_good q id at)
      (λ h i. goes Whole _ (expr_at (q + (count id + count at)) e) _ (whole_good (q + (count id + count at)) e (omega (arith, few)) (omega (arith, deep, small))) (λ x j. ((i.0, i.1, j.0), j.1)))
  keep_good n q _ small few deep = tt

  let_good : (n q : ℕ) (ds : Items) → n ≤ 127 → count_items ds < 2 ^ 32 → items_depth ds ≤ n + n → Good (StepGood n) (let_step q ds)
  let_good n q (item id (item at (item var (item keep (item e no_items))))) small few deep =
      goes HeadGood _ (head_at q id at) _ (head_good q id at)
      (λ h i. goes BoundGood _ (bound_at (q + (count id + count at)) var keep e) _ (bound_good (q + (count id + count at)) var keep e (omega (arith, few)) (omega (arith, deep, small)))
      (λ b j. ((i.0, i.1, j.0, j.1.0), j.1.1)))
  let_good n q _ small few deep = tt

  if_good : (n q : ℕ) (ds : Items) → n ≤ 127 → count_items ds < 2 ^ 32 → items_depth ds ≤ n + n → Good (StepGood n) (if_step q ds)
  if_good n q (item id (item at (item e (item a (item b no_items))))) small few deep =
      let l : ℕ = q + (count id + count at) + count e in
      goes HeadGood _ (head_at q id at) _ (head_good q id at)
      (λ h i. goes Whole _ (expr_at (q + (count id + count at)) e) _ (whole_good (q + (count id + count at)) e (omega (arith, few)) (omega (arith, deep, small)))
      (λ x j. goes (λ both. BlockGood n (count a) both.0 × BlockGood n (count b) both.1) _ (pair (steps_at l a) (steps_at (l + count a) b)) _
      (goes (BlockGood n (count a)) _ (steps_at l a) _ (block_good n l a small (omega (arith, few)) (omega (arith, deep)))
      (λ y k. goes (BlockGood n (count b)) _ (steps_at (l + count a) b) _ (block_good n (l + count a) b small (omega (arith, few)) (omega (arith, deep))) (λ z m. (k, m))))
      (λ both k. if_fine n h.0 h.1 x both.0 both.1 (count a) (count b) (omega (arith, few)) (omega (arith, few)) i j k.0 k.1)))
  if_good n q _ small few deep = tt

  each_good : (n q : ℕ) (ds : Items) → n ≤ 127 → count_items ds < 2 ^ 32 → items_depth ds ≤ n + n → Good (StepGood n) (each_step q ds)
  each_good n q (item id (item at (item var (item keep (item e (item a no_items)))))) small few deep =
      let l : ℕ = q + (count id + count at) + (count var + count keep + count e) in
      goes HeadGood _ (head_at q id at) _ (head_good q id at)
      (λ h i. goes BoundGood _ (bound_at (q + (count id + count at)) var keep e) _ (bound_good (q + (count id + count at)) var keep e (omega (arith, few)) (omega (arith, deep, small)))
      (λ b j. goes (BlockGood n (count a)) _ (steps_at l a) _ (block_good n l a small (omega (arith, few)) (omega (arith, deep)))
      (λ y k. each_fine n h.0 h.1 b.0 b.1 b.2 y (count a) (omega (arith, few)) i j.0 j.1 k)))
  each_good n q _ small few deep = tt

  over_good : (n q : ℕ) (ds : Items) → n ≤ 127 → count_items ds < 2 ^ 32 → items_depth ds ≤ n + n → Good (StepGood n) (over_step q ds)
  over_good n q (item id (item at (item var (item k (item a no_items))))) small few deep =
      let l : ℕ = q + (count id + count at) + (count var + count k) in
      goes HeadGood _ (head_at q id at) _ (head_good q id at)
      (λ h i. goes WalkGood _ (walk_at (q + (count id + count at)) var k) _ (walk_good (q + (count id + count at)) var k)
      (λ w j. goes (BlockGood n (count a)) _ (steps_at l a) _ (block_good n l a small (omega (arith, few)) (omega (arith, deep)))
      (λ y k. over_fine n h.0 h.1 w.0 w.1 y (count a) (omega (arith, few)) i j.0 j.1 k)))
  over_good n q _ small few deep = tt

  block_good : (n p : ℕ) (d : Data) → n ≤ 127 → count d < 2 ^ 32 → depth d ≤ n + n → Good (BlockGood n (count d)) (steps_at p d)
  block_good zero p (array ds) small few deep = absurd (omega (arith, deep))
  block_good (suc n) p (array ds) small few deep = more (steps_in (p + 1) ds) (steps_good n (p + 1) ds (omega (arith, small)) (omega (arith, few)) (omega (arith, deep)))
    where
      more : (r : Read Steps) → Good (StepsGood n (count_items ds)) r → Good (StepsGood n (suc (count_items ds))) r
      more (Ok ss) h = let many = h.0 in (omega (arith, many), h.1, h.2)
      more (Err p) h = tt
  block_good n p null small few deep = tt
  block_good n p (boolean b) small few deep = tt
  block_good n p (number m) small few deep = tt
  block_good n p (string s) small few deep = tt
  block_good n p (object ms) small few deep = tt

  pub steps_good : (n p : ℕ) (ds : Items) → n ≤ 127 → count_items ds < 2 ^ 32 → items_depth ds ≤ suc (n + n) → Good (StepsGood n (count_items ds)) (steps_in p ds)
  steps_good n p no_items small few deep = (omega arith, tt, tt)
  steps_good n p (item d ds) small few deep =
      goes (StepGood n) _ (step_at p d) _ (step_good n p d small (omega (arith, few)) (omega (arith, deep)))
      (λ s h. goes (StepsGood n (count_items ds)) _ (steps_in (p + count d) ds) _ (steps_good n (p + count d) ds small (omega (arith, few)) (omega (arith, deep)))
      (λ ss k. let many = k.0 in let one = counts d in (omega (arith, many, one), (h.0, k.1), (h.1, k.2))))

-- ---- requests

in_limits : (s : Script) → StepsWithin 63 s.body → IsWithinLimits s
unfolding IsWithinLimits
in_limits s h = h

-- A request of so many values, at most 127 deep, is that of a formed script that is within the limits.
pub request_good : (p q : ℕ) (a b : Data) (values : List Value) (steps : Steps) → inputs_at p a ≡ Ok values → steps_at q b ≡ Ok steps → count b < 2 ^ 32 → depth b ≤ 127
    → IsSendable (sent_of values steps)
request_good p q a b values steps one two few deep =
    let inputs = of_read WholeGood (inputs_at p a) values (all_inputs_good p a) one in
    let body = of_read (BlockGood 64 (count b)) (steps_at q b) steps (block_good 64 q b (omega arith) few (omega (arith, deep))) two in
    let many = body.0 in
    let count = inputs.2 in record {
      form = record {
        version = refl;
        script = record {
          inputs = omega (arith, count);
          lists = list_numbers_rise (length values) values refl;
          count = omega (arith, many, few);
          body = body.1;
        };
        values = fine_inputs (sent_of values steps).script values refl refl inputs.0 inputs.1;
      };
      within = in_limits (sent_of values steps).script body.2;
    }
