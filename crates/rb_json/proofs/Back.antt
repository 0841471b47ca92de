-- What is written for a request reads as the request.
use Rattle.std.proofs.Common.{◌≡◌, ◌+◌, ◌<◌, ◌≤◌, ◌^◌, ℕ, ℤ, pos, negsuc, zero, suc, List, [], ◌∷◌, length, refl, ap, sym, ◌∙◌, subst, arith, Bool, true, false, cond, ◌&&◌, nat_lt, nat_le, Option, None, Some, Result, Ok, Err, FitsSigned}
use Rattle.std.specs.Int.{w64}
use Rattle.std.specs.Str.{is_utf8}
use Rattle.rb_trees.specs.Limits.{longest_text}
use Rattle.rb_trees.specs.Outcome.{◌>>=◌, known}
use Rattle.rb_trees.specs.declared.values.Value.{Value, out-Value}
use Rattle.rb_trees.specs.declared.values.Value.TheOpen.{Value-F}
use Rattle.rb_trees.specs.declared.values.Value.TheVariants as a_value
use Rattle.rb_trees.specs.declared.values.Value.TheViews.{roll-Value, roll-out-Value}
use Rattle.rb_trees.specs.declared.code.UnOp.{UnOp}
use Rattle.rb_trees.specs.declared.code.UnOp.TheVariants as unary
use Rattle.rb_trees.specs.declared.code.BinOp.{BinOp}
use Rattle.rb_trees.specs.declared.code.BinOp.TheVariants as binary
use Rattle.rb_trees.specs.declared.versions.Version.TheVariants.{Two}
use Rattle.rb_trees.specs.mirror.Scripts as script
use Rattle.rb_trees.specs.mirror.Scripts.{SExpr, SExprs, Step, Steps, Script}
use Rattle.rb_meaning_bytes.specs.formats.Fields.{Name, Fits, is_name}
use Rattle.rb_meaning_bytes.specs.formats.FormedScripts as formed
use Rattle.rb_meaning_bytes.specs.formats.FormedScripts.{IsPrimitive, ArePrimitive, FormedExpr, FormedExprs, FormedStep, FormedSteps}
use Rattle.rb_meaning_bytes.specs.formats.Items.{form_items, items_of, count_items, most_items, list_numbers}
use Rattle.rb_meaning_bytes.specs.formats.Messages.{Sent}
use Rattle.rb_meaning_bytes.specs.formats.ScriptBytes.{unary_code, binary_code}
use Rattle.serde_json.specs.Data.{Data, boolean, number, string, array, item, no_items, Items}
use Rattle.serde_json.specs.Find.{as_i64, of_integer}
use Rattle.rb_json.specs.Counts.{count, items_number}
use Rattle.rb_json.specs.Values.{Read, is_signed, number_at, value_at, values_in, input_at, inputs_in, inputs_at, unary_at, binary_at, name_at}
use Rattle.rb_json.specs.Exprs.{expr_at, exprs_at, exprs_in}
use Rattle.rb_json.specs.Steps.{head_at, bound_at, walk_at, step_at, steps_at, steps_in}
use Rattle.rb_json.specs.Requests.{sent_of, request_of}
use Rattle.rb_json.specs.Writes.{numeral, primitive_form, primitive_data, primitives_data, input_form, input_data, inputs_data, expr_data, exprs_data, step_data, steps_data, parts_data, request_data}
use Rattle.rb_json.specs.Formed.{HasForm}
use Rattle.rb_json.proofs.Inputs.{fine_form, AreFine, inputs_fine, inputs_lists}

-- what goes on after a value goes on
then : {A B : Type 0} (r : Read A) (f : A → Read B) (x : A) (y : Read B) → r ≡ Ok x → f x ≡ y → (r >>= f) ≡ y
then r f x y h k = ap (λ r. r >>= f) h ∙ k

when_so : {A : Type 0} (b : Bool) (x : A) (p : ℕ) → b ≡ true → cond b (Ok x) (Err p) ≡ Ok x
when_so b x p h = ap (λ b. cond b (Ok x) (Err p)) h

-- ---- numbers and names

below_true : (n bound : ℕ) → n < bound → nat_lt n bound ≡ true
below_true n bound h = grind (arith, h)

most_true : (n bound : ℕ) → n ≤ bound → nat_le n bound ≡ true
most_true n bound h = grind (arith, h)

both_true : (a b : Bool) → a ≡ true → b ≡ true → (a && b) ≡ true
both_true a b h k = ap (λ a. a && b) h ∙ k

pub numeral_back : (bound p n : ℕ) → n < bound → number_at bound p (numeral n) ≡ Ok n
numeral_back bound p n h = ap (λ b. known p (cond b (Some n) None)) (below_true n bound h)

unary_back : (p : ℕ) (op : UnOp) → unary_at p (numeral (unary_code op)) ≡ Ok op
unary_back p unary.Not = refl
unary_back p unary.Neg = refl
unary_back p unary.Len = refl
unary_back p unary.Str = refl

binary_back : (p : ℕ) (op : BinOp) → binary_at p (numeral (binary_code op)) ≡ Ok op
binary_back p binary.Add = refl
binary_back p binary.Sub = refl
binary_back p binary.Mul = refl
binary_back p binary.Div = refl
binary_back p binary.Rem = refl
binary_back p binary.Eq = refl
binary_back p binary.Ne = refl
binary_back p binary.Lt = refl
binary_back p binary.Le = refl
binary_back p binary.Gt = refl
binary_back p binary.Ge = refl
binary_back p binary.And = refl
binary_back p binary.Or = refl

name_back : (p : ℕ) (name : List ℕ) → Fits Name name → name_at p (string name) ≡ Ok name
name_back p name h = when_so (is_name name && nat_lt (length name) (2 ^ 32)) name p (both_true (is_name name) (nat_lt (length name) (2 ^ 32)) h.1 (below_true (length name) (2 ^ 32) h.0))

-- ---- values

whole_back : (z : ℤ) → FitsSigned w64 z → as_i64 (of_integer z) ≡ Some z
whole_back (pos n) h = ap (λ b. cond b (Some (pos n)) None) (below_true n (2 ^ 63) (omega (arith, h)))
whole_back (negsuc n) h = refl

pub signed_so : (z : ℤ) → FitsSigned w64 z → is_signed z ≡ true
signed_so (pos n) h = below_true n (2 ^ 63) (omega (arith, h))
signed_so (negsuc n) h = below_true n (2 ^ 63) (omega (arith, h))

form_back : (p : ℕ) (x : Value-F Value) → formed.primitive_form x → value_at p (primitive_form x) ≡ Ok (roll-Value x)
form_back p (Value-F.Int z) h = then _ _ z _ (ap (known p) (whole_back z h)) (when_so (is_signed z) (a_value.Int z) p (signed_so z h) ∙ ap Ok (sym (a_value.rolls-Int z)))
form_back p (Value-F.Bool b) h = ap Ok (sym (a_value.rolls-Bool b))
form_back p (Value-F.Text s) h =
    when_so (nat_le (length s) longest_text && is_utf8 s) (a_value.Text s) p (both_true (nat_le (length s) longest_text) (is_utf8 s) (most_true (length s) longest_text h.0) h.1)
    ∙ ap Ok (sym (a_value.rolls-Text s))
form_back p Value-F.Unit h = absurd h
form_back p (Value-F.List vs) h = absurd h
form_back p (Value-F.Ref n) h = absurd h
form_back p (Value-F.Remote n) h = absurd h
form_back p (Value-F.Rows vs) h = absurd h

value_back : (p : ℕ) (v : Value) → IsPrimitive v → value_at p (primitive_data v) ≡ Ok v
value_back p v h = form_back p (out-Value v) h ∙ ap Ok (roll-out-Value v)

values_back : (p : ℕ) (vs : List Value) → ArePrimitive vs → values_in p (primitives_data vs) ≡ Ok vs
values_back p [] h = refl
values_back p (v ∷ vs) h = then _ _ v _ (value_back p v h.0) (then _ _ vs _ (values_back (p + count (primitive_data v)) vs h.1) refl)

counted : (vs : List Value) → items_number (primitives_data vs) ≡ length vs
counted [] = refl
counted (v ∷ vs) = ap suc (counted vs)

input_form_back : (p used : ℕ) (x : Value-F Value) → fine_form x → used + form_items x ≤ most_items → input_at p used (input_form x) ≡ Ok (roll-Value x)
input_form_back p used (Value-F.Int z) h few = form_back p (Value-F.Int z) h
input_form_back p used (Value-F.Bool b) h few = form_back p (Value-F.Bool b) h
input_form_back p used (Value-F.Text s) h few = form_back p (Value-F.Text s) h
input_form_back p used (Value-F.List vs) h few =
    ap (λ n. cond (nat_le (used + n) most_items) (values_in (p + 1) (primitives_data vs) >>= λ vs. Ok (a_value.List vs)) (Err p)) (counted vs)
    ∙ ap (λ b. cond b (values_in (p + 1) (primitives_data vs) >>= λ vs. Ok (a_value.List vs)) (Err p)) (most_true (used + length vs) most_items few)
    ∙ then _ _ vs _ (values_back (p + 1) vs h) (ap Ok (sym (a_value.rolls-List vs)))
input_form_back p used Value-F.Unit h few = absurd h
input_form_back p used (Value-F.Ref n) h few = absurd h
input_form_back p used (Value-F.Remote n) h few = absurd h
input_form_back p used (Value-F.Rows vs) h few = absurd h

input_back : (p used : ℕ) (v : Value) → fine_form (out-Value v) → used + items_of v ≤ most_items → input_at p used (input_data v) ≡ Ok v
input_back p used v h few = input_form_back p used (out-Value v) h few ∙ ap Ok (roll-out-Value v)

inputs_back : (p used : ℕ) (vs : List Value) → AreFine vs → used + count_items vs ≤ most_items → inputs_in p used (inputs_data vs) ≡ Ok vs
inputs_back p used [] h few = refl
inputs_back p used (v ∷ vs) h few =
    then _ _ v _ (input_back p used v h.0 (omega (arith, few)))
    (then _ _ vs _ (inputs_back (p + count (input_data v)) (used + items_of v) vs h.1 (omega (arith, few))) refl)

inputs_counted : (vs : List Value) → items_number (inputs_data vs) ≡ length vs
inputs_counted [] = refl
inputs_counted (v ∷ vs) = ap suc (inputs_counted vs)

-- ---- expressions

mutual
  pub expr_back : (p : ℕ) (e : SExpr) → FormedExpr e → expr_at p (expr_data e) ≡ Ok e
  expr_back p (script.Lit v) h = then _ _ v _ (value_back (p + 2) v h) refl
  expr_back p (script.Input k) h = then _ _ k _ (numeral_back (2 ^ 8) (p + 2) k h) refl
  expr_back p (script.Var n) h = then _ _ n _ (numeral_back (2 ^ 32) (p + 2) n h) refl
  expr_back p script.Root h = refl
  expr_back p (script.Unary op at e) h =
      then _ _ op _ (unary_back (p + 2) op) (then _ _ at _ (numeral_back (2 ^ 32) (p + 2 + 1) at h.0) (then _ _ e _ (expr_back (p + 2 + 1 + 1) e h.1) refl))
  expr_back p (script.Binary op at a b) h =
      then _ _ op _ (binary_back (p + 2) op) (then _ _ at _ (numeral_back (2 ^ 32) (p + 2 + 1) at h.0) (then _ _ (a, b) _
      (then _ _ a _ (expr_back (p + 2 + 1 + 1) a h.1) (then _ _ b _ (expr_back (p + 2 + 1 + 1 + count (expr_data a)) b h.2) refl)) refl))
  expr_back p (script.Call at kind method target args) h =
      then _ _ (at, kind, method) _
      (then _ _ at _ (numeral_back (2 ^ 32) (p + 2) at h.0) (then _ _ kind _ (numeral_back 9 (p + 2 + 1) kind (omega (arith, h.1))) (then _ _ method _ (name_back (p + 2 + 1 + 1) method h.2) refl)))
      (then _ _ target _ (expr_back (p + 2 + 3) target h.3) (then _ _ args _ (exprs_back (p + 2 + 3 + count (expr_data target) + 1) args h.5) refl))

  pub exprs_back : (p : ℕ) (es : SExprs) → FormedExprs es → exprs_in p (exprs_data es) ≡ Ok es
  exprs_back p script.NoSExprs h = refl
  exprs_back p (script.MoreSExprs e es) h = then _ _ e _ (expr_back p e h.0) (then _ _ es _ (exprs_back (p + count (expr_data e)) es h.1) refl)

-- ---- steps

head_back : (q id at : ℕ) → id < 2 ^ 32 → at < 2 ^ 32 → head_at q (numeral id) (numeral at) ≡ Ok (id, at)
head_back q id at h k = then _ _ id _ (numeral_back (2 ^ 32) q id h) (then _ _ at _ (numeral_back (2 ^ 32) (q + 1) at k) refl)

bound_back : (q var : ℕ) (keep : Bool) (e : SExpr) → var < 2 ^ 32 → FormedExpr e → bound_at q (numeral var) (boolean keep) (expr_data e) ≡ Ok (var, keep, e)
bound_back q var keep e h k = then _ _ var _ (numeral_back (2 ^ 32) q var h) (then _ _ e _ (expr_back (q + 1 + 1) e k) refl)

walk_back : (q var k : ℕ) → var < 2 ^ 32 → k < 256 → walk_at q (numeral var) (numeral k) ≡ Ok (var, k)
walk_back q var k h i = then _ _ var _ (numeral_back (2 ^ 32) q var h) (then _ _ k _ (numeral_back (2 ^ 8) (q + 1) k i) refl)

mutual
  step_back : (p : ℕ) (s : Step) → FormedStep s → step_at p (step_data s) ≡ Ok s
  step_back p (script.Do id at e) h = then _ _ (id, at) _ (head_back (p + 2) id at h.0 h.1) (then _ _ e _ (expr_back (p + 2 + 2) e h.2) refl)
  step_back p (script.Keep id at e) h = then _ _ (id, at) _ (head_back (p + 2) id at h.0 h.1) (then _ _ e _ (expr_back (p + 2 + 2) e h.2) refl)
  step_back p (script.Let id at var keep e) h =
      then _ _ (id, at) _ (head_back (p + 2) id at h.0 h.1) (then _ _ (var, keep, e) _ (bound_back (p + 2 + 2) var keep e h.2 h.3) refl)
  step_back p (script.If id at e a b) h =
      let q : ℕ = p + 2 + 2 + count (expr_data e) in
      then _ _ (id, at) _ (head_back (p + 2) id at h.0 h.1) (then _ _ e _ (expr_back (p + 2 + 2) e h.2) (then _ _ (a, b) _
      (then _ _ a _ (steps_back (q + 1) a h.4) (then _ _ b _ (steps_back (q + count (array (steps_data a)) + 1) b h.6) refl)) refl))
  step_back p (script.Each id at var keep e a) h =
      then _ _ (id, at) _ (head_back (p + 2) id at h.0 h.1) (then _ _ (var, keep, e) _ (bound_back (p + 2 + 2) var keep e h.2 h.3)
      (then _ _ a _ (steps_back (p + 2 + 2 + (1 + 1 + count (expr_data e)) + 1) a h.5) refl))
  step_back p (script.Over id at var input a) h =
      then _ _ (id, at) _ (head_back (p + 2) id at h.0 h.1) (then _ _ (var, input) _ (walk_back (p + 2 + 2) var input h.2 h.3)
      (then _ _ a _ (steps_back (p + 2 + 2 + 2 + 1) a h.5) refl))

  pub steps_back : (p : ℕ) (ss : Steps) → FormedSteps ss → steps_in p (steps_data ss) ≡ Ok ss
  steps_back p script.NoSteps h = refl
  steps_back p (script.MoreSteps s ss) h = then _ _ s _ (step_back p s h.0) (then _ _ ss _ (steps_back (p + count (step_data s)) ss h.1) refl)

-- ---- requests

parts_back : (vs : List Value) (ss : Steps) → length vs ≤ 255 → AreFine vs → count_items vs ≤ most_items → FormedSteps ss → request_of (parts_data vs ss) ≡ Ok (sent_of vs ss)
unfolding request_of
parts_back vs ss few fine items body =
    let i : ℕ = 0 + 1 + count (array (inputs_data vs)) in
    then _ _ vs _
    (ap (λ b. cond b (inputs_in (0 + 1 + 1) 0 (inputs_data vs)) (Err (0 + 1))) (ap (λ n. nat_le n 255) (inputs_counted vs) ∙ most_true (length vs) 255 few) ∙ inputs_back (0 + 1 + 1) 0 vs fine (omega (arith, items)))
    (then _ _ ss _ (steps_back (i + 1) ss body) refl)

-- Its own script is the script of its parts.
same_parts : (x : Sent) → HasForm x → sent_of x.values x.script.body ≡ x
same_parts x h =
    let lists = inputs_lists x.script x.values h.script.lists h.values in
    ap (λ v. record { version = v; script = record { inputs = length x.values; lists = list_numbers 0 x.values; body = x.script.body }; values = x.values }) (sym h.version)
    ∙ ap (λ n. record { version = x.version; script = record { inputs = n; lists = list_numbers 0 x.values; body = x.script.body }; values = x.values }) h.values.count
    ∙ ap (λ l. record { version = x.version; script = record { inputs = x.script.inputs; lists = l; body = x.script.body }; values = x.values }) (sym lists)

pub request_back : (x : Sent) → HasForm x → request_of (request_data x) ≡ Ok x
request_back x h =
    let count = h.values.count in
    let few = h.script.inputs in
    parts_back x.values x.script.body (omega arith) (inputs_fine x.script x.values h.values) h.values.items h.script.body ∙ ap Ok (same_parts x h)
