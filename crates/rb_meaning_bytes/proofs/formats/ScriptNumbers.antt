-- The number with which a script's payload is refused is one that refusals of its version have.
use Rattle.std.proofs.Common.{◌≡◌, ℕ, zero, suc, ◌-◌, ◌^◌, Bool, true, false, cond, ◌&&◌, nat_eq, nat_lt, nat_le, List, [], ◌∷◌, ◌++◌, length, Some, None, Err, refl, subst}
use Rattle.std.specs.Str.{is_utf8}
use Rattle.rb_trees.specs.Limits.{longest_text}
use Rattle.rb_trees.specs.declared.code.UnOp.{UnOp}
use Rattle.rb_trees.specs.declared.code.BinOp.{BinOp}
use Rattle.rb_trees.specs.declared.versions.Version.{Version}
use Rattle.rb_trees.specs.declared.versions.Version.TheVariants.{One, Two}
use Rattle.rb_trees.specs.mirror.Scripts.{Steps}
use Rattle.rb_meaning_bytes.specs.formats.Fields.{Test, Tag, Byte, Truth, Text, Name, Short, Brief, Check, truncated, bad_tag, bad_text, trailing, bad_pool, too_many_items, is_name}
use Rattle.rb_meaning_bytes.specs.formats.Formats as plain
use Rattle.rb_meaning_bytes.specs.formats.Formats.{Format, Done, the}
use Rattle.rb_meaning_bytes.specs.formats.Staged.{Staged, ◌>>=◌, give, same, deeper, at_stage, choose, times}
use Rattle.rb_meaning_bytes.specs.formats.Items.{items_of}
use Rattle.rb_meaning_bytes.specs.formats.Pools.{is_among, text_at, any_number, new_text_test, value_test, name_test, place_test, items_test, unused}
use Rattle.rb_meaning_bytes.specs.formats.Values.{natural, int_value, bool_value}
use Rattle.rb_meaning_bytes.specs.formats.Scripts.{unary_op, unary_ops, binary_op, binary_ops, kind, pooled, name, text, value, value_forms, expr, expr_forms, whole_expr, list_steps, step, step_forms, block, list_forms, input_value, input_values, values_and_code}
use Rattle.rb_meaning_bytes.specs.formats.ScriptMessages.{more_texts, pool, all_used, script, script_message}
use Rattle.rb_meaning_bytes.specs.formats.Refusals.{is_refusal_number}
use Rattle.rb_meaning_bytes.specs.formats.Messages.{Refused}
use Rattle.rb_meaning_bytes.specs.formats.ScriptPayloads.{Means, violated, not_valid, version_of}
use Rattle.rb_meaning_bytes.proofs.formats.NumberLaws.{Usual, TestNumbers, HasNumbers, EachNumbers, numbers_done, numbers_more, numbers_the, numbers_deeper, numbers_bind, numbers_choose, violation_number_by}
use Rattle.rb_meaning_bytes.proofs.formats.ValueNumbers.{unless_number, natural_numbers, int_numbers, bool_numbers}
use Rattle.rb_meaning_bytes.proofs.formats.OnlyScripts.{script_only}
use Rattle.rb_meaning_bytes.proofs.formats.RuleNumbers.{rule_number}
use Rattle.rb_meaning_bytes.proofs.formats.PoolLaws.{Words}

-- ---- formats behind a pool, by their steps

module _ (P : ℕ → Type 0) (usual : Usual P) where
  -- Whatever was used, the violations have such numbers.
  abbrev StagedNumbers : {A : Type 0} → Staged A → Type 0
  StagedNumbers F = (used : ℕ) → HasNumbers P (F used)

  given : {A : Type 0} (a : A) → StagedNumbers (give a)
  given a used = numbers_done P usual (a, used)

  then : {A B : Type 0} (F : Staged A) (k : A → Staged B) → StagedNumbers F → ((a : A) → StagedNumbers (k a)) → StagedNumbers (F >>= k)
  then F k one two used = numbers_bind P usual (F used) (λ x. k x.0 x.1) (one used) (λ x. two x.0 x.1)

  kept : {A : Type 0} (F : Format A) → HasNumbers P F → StagedNumbers (same F)
  kept F one used = numbers_bind P usual F (λ a. Done (a, used)) one (λ a. numbers_done P usual (a, used))

  kept_then : {A B : Type 0} (F : Format A) (k : A → Staged B) → HasNumbers P F → ((a : A) → StagedNumbers (k a)) → StagedNumbers (same F >>= k)
  kept_then F k one two = then (same F) k (kept F one) two

  abbrev EachStaged : {A : Type 0} → List (ℕ × Staged A) → Type 0
  EachStaged [] = Unit {0}
  EachStaged (form ∷ forms) = StagedNumbers form.1 × EachStaged forms

  each_at : {A : Type 0} (forms : List (ℕ × Staged A)) (used : ℕ) → EachStaged forms → EachNumbers (λ tag. P) (at_stage used forms)
  each_at [] used e = tt
  each_at (form ∷ forms) used e = (e.0 used, each_at forms used e.1)

  each_more : {A : Type 0} (xs ys : List (ℕ × Staged A)) → EachStaged xs → EachStaged ys → EachStaged (xs ++ ys)
  each_more [] ys d e = e
  each_more (x ∷ xs) ys d e = (d.0, each_more xs ys d.1 e)

  chosen : {A : Type 0} (forms : List (ℕ × Staged A)) → EachStaged forms → StagedNumbers (choose forms)
  chosen forms e used = numbers_choose P usual (at_stage used forms) (each_at forms used e)

  so_many : {A : Type 0} (F : Staged A) → StagedNumbers F → (n : ℕ) → StagedNumbers (times n F)
  unfolding times
  so_many F one zero = given []
  so_many F one (suc n) = then F _ one (λ x. then (times n F) _ (so_many F one n) (λ xs. given (x ∷ xs)))

  unary_numbers : HasNumbers P unary_op
  unfolding unary_op
  unary_numbers = let d : (op : UnOp) → HasNumbers P (Done op) = λ op. numbers_done P usual op in numbers_choose P usual unary_ops (d _, (d _, (d _, (d _, tt))))

  binary_numbers : HasNumbers P binary_op
  unfolding binary_op
  binary_numbers =
      let d : (op : BinOp) → HasNumbers P (Done op) = λ op. numbers_done P usual op in
      numbers_choose P usual binary_ops (d _, (d _, (d _, (d _, (d _, (d _, (d _, (d _, (d _, (d _, (d _, (d _, (d _, tt)))))))))))))

  kind_numbers : HasNumbers P kind
  unfolding kind
  kind_numbers = numbers_the P usual (Tag (λ k. nat_le k 8)) tt

-- ---- the numbers of a version

abbrev Has : Version → ℕ → Type 0
Has version number = is_refusal_number version number ≡ true

has : (version : Version) (number : ℕ) → Has One number → Has Two number → Has version number
has One number h k = h
has Two number h k = k

usual : (version : Version) → Usual (Has version)
usual version = record { tag = has version 2 refl refl; text = has version 3 refl refl; canonical = has version 4 refl refl; deep = has version 5 refl refl }

-- what a place in a pool is refused with
place_numbers : (texts : Words) (used : ℕ) (test : Test (List ℕ)) → TestNumbers (Has Two) test → TestNumbers (Has Two) (place_test texts used test)
place_numbers texts used test h place number e = go (nat_lt place (length texts) && nat_le place used) e
  where
    go : (v : Bool) → cond v (test (text_at texts place)) (Some bad_pool) ≡ Some number → Has Two number
    go true i = h (text_at texts place) number i
    go false i = let e : bad_pool ≡ number = cc in subst (Has Two) e refl

pooled_numbers : (texts : Words) (test : Test (List ℕ)) → TestNumbers (Has Two) test → StagedNumbers (Has Two) (usual Two) (pooled texts test)
pooled_numbers texts test h used = numbers_more (Has Two) (usual Two) (Short (place_test texts used test)) _ (place_numbers texts used test h) (λ place f. numbers_done (Has Two) (usual Two) _)

name_numbers : (version : Version) (texts : Words) → StagedNumbers (Has version) (usual version) (name version texts)
unfolding name
name_numbers One texts = kept (Has One) (usual One) (the Name) (numbers_the (Has One) (usual One) Name tt)
name_numbers Two texts = pooled_numbers texts name_test (λ t number h. unless_number (Has Two) (is_name t) bad_text number refl h)

text_numbers : (version : Version) (texts : Words) → StagedNumbers (Has version) (usual version) (text version texts)
unfolding text
text_numbers One texts = kept (Has One) (usual One) (the Text) (numbers_the (Has One) (usual One) Text tt)
text_numbers Two texts = pooled_numbers texts value_test (λ t number h. unless_number (Has Two) (nat_le (length t) longest_text) bad_text number refl h)

new_text_numbers : (earlier : Words) → TestNumbers (Has Two) (new_text_test earlier)
new_text_numbers earlier t number h = go (is_utf8 t) (is_among t earlier) h
  where
    go : (v w : Bool) → cond v (cond w (Some bad_pool) None) (Some bad_text) ≡ Some number → Has Two number
    go true true i = let e : bad_pool ≡ number = cc in subst (Has Two) e refl
    go true false i = absurd cc
    go false w i = let e : bad_text ≡ number = cc in subst (Has Two) e refl

more_numbers : (n : ℕ) (earlier : Words) → HasNumbers (Has Two) (more_texts n earlier)
unfolding more_texts
more_numbers zero earlier = numbers_done (Has Two) (usual Two) earlier
more_numbers (suc n) earlier = numbers_more (Has Two) (usual Two) (Brief (2 ^ 32) (new_text_test earlier)) _ (new_text_numbers earlier) (λ t h. more_numbers n (earlier ++ t ∷ []))

pool_numbers : (version : Version) → HasNumbers (Has version) (pool version)
unfolding pool
pool_numbers One = numbers_done (Has One) (usual One) []
pool_numbers Two = numbers_more (Has Two) (usual Two) (Short any_number) _ (λ n number h. absurd cc) (λ count h. more_numbers count [])

all_used_numbers : (version : Version) (texts : Words) (used : ℕ) → HasNumbers (Has version) (all_used version texts used)
unfolding all_used
all_used_numbers One texts used = numbers_done (Has One) (usual One) tt
all_used_numbers Two texts used = numbers_the (Has Two) (usual Two) (Check (unused texts used)) (λ number h. unless_number (Has Two) (nat_eq used (length texts)) bad_pool number refl h)

-- ---- the format of a version

module _ (version : Version) (texts : Words) where
  abbrev Good : {A : Type 0} → Staged A → Type 0
  Good F = StagedNumbers (Has version) (usual version) F

  abbrev P : ℕ → Type 0
  P number = Has version number

  abbrev base : Usual P
  base = usual version

  number_is : HasNumbers P (natural version)
  number_is = natural_numbers P base version

  primitive_each : EachStaged P base (value_forms version texts)
  primitive_each = (
    kept P base (int_value version) (int_numbers P base version),
    (kept P base bool_value (bool_numbers P base), (then P base (text version texts) _ (text_numbers version texts) (λ t. given P base _), tt)),
  )

  value_numbers : Good (value version texts)
  unfolding value
  value_numbers = chosen P base (value_forms version texts) primitive_each

  too_far : {A : Type 0} → Good (deeper {A = A})
  too_far used = numbers_deeper P base

  byte_numbers : HasNumbers P (the Byte)
  byte_numbers = numbers_the P base Byte tt

  truth_numbers : HasNumbers P (the Truth)
  truth_numbers = numbers_the P base Truth tt

  expr_numbers : (n : ℕ) → Good (expr version texts n)
  unfolding expr
  expr_numbers zero = too_far
  expr_numbers (suc n) =
      let one = expr_numbers n in
      chosen P base (expr_forms version texts (expr version texts n)) (
        then P base (value version texts) _ value_numbers (λ v. given P base _),
        (
          kept_then P base (the Byte) _ byte_numbers (λ i. given P base _),
          (
            kept_then P base (natural version) _ number_is (λ i. given P base _),
            (
              given P base _,
              (
                kept_then P base unary_op _ (unary_numbers P base) (λ op. kept_then P base (natural version) _ number_is (λ at. then P base (expr version texts n) _ one (λ a. given P base _))),
                (
                  kept_then P base binary_op _ (binary_numbers P base) (λ op. kept_then P base (natural version) _ number_is (λ at.
                      then P base (expr version texts n) _ one (λ a. then P base (expr version texts n) _ one (λ b. given P base _)))),
                  (
                    kept_then P base (natural version) _ number_is (λ at. kept_then P base kind _ (kind_numbers P base) (λ k.
                        then P base (name version texts) _ (name_numbers version texts) (λ method. then P base (expr version texts n) _ one (λ target.
                        kept_then P base (natural version) _ number_is (λ count. then P base (times count (expr version texts n)) _ (so_many P base (expr version texts n) one count) (λ args. given P base _)))))),
                    tt,
                  ),
                ),
              ),
            ),
          ),
        ),
      )

  whole_numbers : Good (whole_expr version texts)
  unfolding whole_expr
  whole_numbers = expr_numbers 256

  over_each : (w : Version) (F : Staged Steps) → Good F → EachStaged P base (list_steps version texts w F)
  over_each One F one = tt
  over_each Two F one = (
    kept_then P base (natural version) _ number_is (λ id. kept_then P base (natural version) _ number_is (λ at. kept_then P base (natural version) _ number_is (λ var.
        kept_then P base (the Byte) _ byte_numbers (λ i. then P base F _ one (λ a. given P base _))))),
    tt,
  )

  step_numbers : (F : Staged Steps) → Good F → Good (step version texts F)
  unfolding step
  step_numbers F one =
      chosen P base (step_forms version texts F) (
        kept_then P base (natural version) _ number_is (λ id. kept_then P base (natural version) _ number_is (λ at. then P base (whole_expr version texts) _ whole_numbers (λ e. given P base _))),
        (
          kept_then P base (natural version) _ number_is (λ id. kept_then P base (natural version) _ number_is (λ at. then P base (whole_expr version texts) _ whole_numbers (λ e. given P base _))),
          (
            kept_then P base (natural version) _ number_is (λ id. kept_then P base (natural version) _ number_is (λ at. kept_then P base (natural version) _ number_is (λ var.
                kept_then P base (the Truth) _ truth_numbers (λ keep. then P base (whole_expr version texts) _ whole_numbers (λ e. given P base _))))),
            (
              kept_then P base (natural version) _ number_is (λ id. kept_then P base (natural version) _ number_is (λ at. then P base (whole_expr version texts) _ whole_numbers (λ e.
                  then P base F _ one (λ a. then P base F _ one (λ b. given P base _))))),
              (
                kept_then P base (natural version) _ number_is (λ id. kept_then P base (natural version) _ number_is (λ at. kept_then P base (natural version) _ number_is (λ var.
                    kept_then P base (the Truth) _ truth_numbers (λ keep. then P base (whole_expr version texts) _ whole_numbers (λ e. then P base F _ one (λ a. given P base _)))))),
                over_each version F one,
              ),
            ),
          ),
        ),
      )

  block_numbers : (n : ℕ) → Good (block version texts n)
  unfolding block
  block_numbers zero = too_far
  block_numbers (suc n) = kept_then P base (natural version) _ number_is (λ count.
      then P base (times count (step version texts (block version texts n))) _ (so_many P base (step version texts (block version texts n)) (step_numbers (block version texts n) (block_numbers n)) count) (λ ss. given P base _))

-- a list has such numbers, where the version has lists
list_each : (version : Version) (texts : Words) (room : ℕ) → EachStaged (Has version) (usual version) (list_forms version texts version room)
list_each One texts room = tt
list_each Two texts room = (
  kept_then (Has Two) (usual Two) (the (Short (items_test room))) _
      (numbers_the (Has Two) (usual Two) (Short (items_test room)) (λ n number h. unless_number (Has Two) (nat_le n room) too_many_items number refl h)) (λ count.
      then (Has Two) (usual Two) (times count (value Two texts)) _ (so_many (Has Two) (usual Two) (value Two texts) (value_numbers Two texts) count) (λ items. given (Has Two) (usual Two) _)),
  tt,
)

input_numbers : (version : Version) (texts : Words) (room : ℕ) → StagedNumbers (Has version) (usual version) (input_value version texts room)
unfolding input_value
input_numbers version texts room = chosen (Has version) (usual version) (value_forms version texts ++ list_forms version texts version room)
    (each_more (Has version) (usual version) (value_forms version texts) (list_forms version texts version room) (primitive_each version texts) (list_each version texts room))

inputs_numbers : (version : Version) (texts : Words) (n room : ℕ) → StagedNumbers (Has version) (usual version) (input_values version texts room n)
unfolding input_values
inputs_numbers version texts zero room = given (Has version) (usual version) []
inputs_numbers version texts (suc n) room =
    then (Has version) (usual version) (input_value version texts room) _ (input_numbers version texts room) (λ v.
    then (Has version) (usual version) (input_values version texts (room - items_of v) n) _ (inputs_numbers version texts n (room - items_of v)) (λ vs. given (Has version) (usual version) (v ∷ vs)))

script_numbers : (version : Version) → HasNumbers (Has version) (script version)
script_numbers version =
    let P : ℕ → Type 0 = λ number. Has version number in
    let base = usual version in
    numbers_bind P base (pool version) _ (pool_numbers version) (λ texts.
    numbers_more P base Byte _ tt (λ count h.
    numbers_bind P base (values_and_code version texts count 0) _
    (then P base (input_values version texts 1000 count) _ (inputs_numbers version texts count 1000) (λ vs. then P base (block version texts 64) _ (block_numbers version texts 64) (λ body. given P base _)) 0) (λ x.
    numbers_bind P base (all_used version texts x.1) _ (all_used_numbers version texts x.1) (λ a. numbers_done P base _))))

-- ---- payloads

-- the version that a first byte names
abbrev by_byte : ℕ → ℕ → Type 0
by_byte tag number = Has (cond (nat_eq tag 2) Two One) number

script_number : (payload : List ℕ) (number at : ℕ) → plain.FirstViolation script_message payload number at → Has (version_of payload) number
unfolding script_message
script_number payload number at v =
    violation_number_by by_byte (λ tag. has (cond (nat_eq tag 2) Two One) bad_tag refl refl) (λ tag. has (cond (nat_eq tag 2) Two One) truncated refl refl) (λ tag. has (cond (nat_eq tag 2) Two One) trailing refl refl)
    ((0x01, script One) ∷ (0x02, script Two) ∷ []) payload number at v (script_numbers One, (script_numbers Two, tt))

pub refused_number : (payload : List ℕ) (wrong : Refused) → Means payload (Err wrong) → is_refusal_number wrong.version wrong.number ≡ true
refused_number payload _ (violated number at v) = script_number payload number at v
refused_number payload _ (not_valid x r s e) = let f = (script_only.made payload x s).fits in rule_number x.version x.script r f.suits f.within e
