-- The texts that a formed script and the values of its inputs use are ones that a pool may have.
use Rattle.std.proofs.Common.{◌≡◌, ℕ, zero, suc, ◌<◌, true, List, [], ◌∷◌, ◌++◌, arith, IsAscii}
use Rattle.std.proofs.lemmas.Bool.{and_parts}
use Rattle.std.proofs.lemmas.Bool.Decides.{nat_tests}
use Rattle.std.proofs.lemmas.Str.{IsUtf8-from_ascii, is_utf8-from_IsUtf8}
use Rattle.rb_trees.specs.declared.values.Value.{Value, out-Value}
use Rattle.rb_trees.specs.declared.values.Value.TheOpen.{Value-F}
use Rattle.rb_trees.specs.Spelling.{is_letter, is_digit, is_word_byte}
use Rattle.rb_trees.specs.mirror.Scripts as tree
use Rattle.rb_trees.specs.mirror.Scripts.{SExpr, SExprs, Step, Steps}
use Rattle.rb_meaning_bytes.specs.formats.Fields.{Name, Fits, is_name, are_word_bytes}
use Rattle.rb_meaning_bytes.specs.formats.ScriptBytes.{form_texts, literals_texts, expr_texts, exprs_texts, step_texts, steps_texts, input_form_texts, inputs_texts}
use Rattle.rb_meaning_bytes.specs.formats.FormedScripts.{primitive_form, ArePrimitive, FormedExpr, FormedExprs, FormedStep, FormedSteps}
use Rattle.rb_meaning_bytes.proofs.formats.Inputs.{fine_form, AreFine}
use Rattle.rb_meaning_bytes.proofs.formats.PoolLaws.{EachText, IsPoolText, each_both}

word_byte_ascii : (b : ℕ) → is_word_byte b ≡ true → b < 128
unfolding is_word_byte is_letter is_digit
word_byte_ascii b h = grind (arith, nat_tests)

letter_ascii : (b : ℕ) → is_letter b ≡ true → b < 128
unfolding is_letter
letter_ascii b h = grind (arith, nat_tests)

words_ascii : (bytes : List ℕ) → are_word_bytes bytes ≡ true → IsAscii bytes
words_ascii [] h i = omega arith
words_ascii (b ∷ bytes) h zero = word_byte_ascii b (and_parts (is_word_byte b) (are_word_bytes bytes) h).0
words_ascii (b ∷ bytes) h (suc i) = words_ascii bytes (and_parts (is_word_byte b) (are_word_bytes bytes) h).1 i

name_ascii : (bytes : List ℕ) → is_name bytes ≡ true → IsAscii bytes
name_ascii [] h i = omega arith
name_ascii (b ∷ bytes) h zero = letter_ascii b (and_parts (is_letter b) (are_word_bytes bytes) h).0
name_ascii (b ∷ bytes) h (suc i) = words_ascii bytes (and_parts (is_letter b) (are_word_bytes bytes) h).1 i

-- a name is UTF-8
name_text : (bytes : List ℕ) → Fits Name bytes → IsPoolText bytes
name_text bytes h = (h.0, is_utf8-from_IsUtf8 bytes (IsUtf8-from_ascii bytes (name_ascii bytes h.1)))

form_words : (x : Value-F Value) → primitive_form x → EachText IsPoolText (form_texts x)
form_words (Value-F.Int z) h = tt
form_words (Value-F.Bool b) h = tt
form_words (Value-F.Text bytes) h = ((omega (arith, h.0), h.1), tt)
form_words Value-F.Unit h = tt
form_words (Value-F.List vs) h = tt
form_words (Value-F.Ref n) h = tt
form_words (Value-F.Remote n) h = tt
form_words (Value-F.Rows vs) h = tt

literals_words : (vs : List Value) → ArePrimitive vs → EachText IsPoolText (literals_texts vs)
literals_words [] h = tt
literals_words (v ∷ vs) h = each_both IsPoolText (form_texts (out-Value v)) (literals_texts vs) (form_words (out-Value v) h.0) (literals_words vs h.1)

input_words : (x : Value-F Value) → fine_form x → EachText IsPoolText (input_form_texts x)
input_words (Value-F.Int z) h = tt
input_words (Value-F.Bool b) h = tt
input_words (Value-F.Text bytes) h = ((omega (arith, h.0), h.1), tt)
input_words Value-F.Unit h = tt
input_words (Value-F.List vs) h = literals_words vs h
input_words (Value-F.Ref n) h = tt
input_words (Value-F.Remote n) h = tt
input_words (Value-F.Rows vs) h = tt

pub inputs_words : (vs : List Value) → AreFine vs → EachText IsPoolText (inputs_texts vs)
inputs_words [] h = tt
inputs_words (v ∷ vs) h = each_both IsPoolText (input_form_texts (out-Value v)) (inputs_texts vs) (input_words (out-Value v) h.0) (inputs_words vs h.1)

mutual
  expr_words : (e : SExpr) → FormedExpr e → EachText IsPoolText (expr_texts e)
  expr_words (tree.Lit v) h = form_words (out-Value v) h
  expr_words (tree.Input i) h = tt
  expr_words (tree.Var i) h = tt
  expr_words tree.Root h = tt
  expr_words (tree.Unary op at a) h = expr_words a h.1
  expr_words (tree.Binary op at a b) h = each_both IsPoolText (expr_texts a) (expr_texts b) (expr_words a h.1) (expr_words b h.2)
  expr_words (tree.Call at kind method target args) h =
      (name_text method h.2, each_both IsPoolText (expr_texts target) (exprs_texts args) (expr_words target h.3) (exprs_words args h.5))

  exprs_words : (es : SExprs) → FormedExprs es → EachText IsPoolText (exprs_texts es)
  exprs_words tree.NoSExprs h = tt
  exprs_words (tree.MoreSExprs e es) h = each_both IsPoolText (expr_texts e) (exprs_texts es) (expr_words e h.0) (exprs_words es h.1)

mutual
  step_words : (s : Step) → FormedStep s → EachText IsPoolText (step_texts s)
  step_words (tree.Do id at e) h = expr_words e h.2
  step_words (tree.Keep id at e) h = expr_words e h.2
  step_words (tree.Let id at var keep e) h = expr_words e h.3
  step_words (tree.If id at e a b) h =
      each_both IsPoolText (expr_texts e ++ steps_texts a) (steps_texts b) (each_both IsPoolText (expr_texts e) (steps_texts a) (expr_words e h.2) (steps_words a h.4)) (steps_words b h.6)
  step_words (tree.Each id at var keep e a) h = each_both IsPoolText (expr_texts e) (steps_texts a) (expr_words e h.3) (steps_words a h.5)
  step_words (tree.Over id at var input a) h = steps_words a h.5

  pub steps_words : (ss : Steps) → FormedSteps ss → EachText IsPoolText (steps_texts ss)
  steps_words tree.NoSteps h = tt
  steps_words (tree.MoreSteps s ss) h = each_both IsPoolText (step_texts s) (steps_texts ss) (step_words s h.0) (steps_words ss h.1)
