-- What reading the parts of a script is, a step at a time.
use Rattle.std.proofs.Common.{◌≡◌, ◌+◌, ◌-◌, ◌<◌, ℕ, zero, suc, List, [], ◌∷◌, ◌++◌, map, refl, ap, sym, ◌∙◌, arith, Ok, Err, cond, nat_le, nat_eq, length, Bool, true, false}
use Rattle.rb_trees.specs.declared.scripts.SExpr as rust
use Rattle.rb_trees.specs.declared.scripts.Step as rust_step
use Rattle.rb_trees.specs.declared.versions.Version.{Version}
use Rattle.rb_trees.specs.declared.versions.Version.TheVariants.{One, Two}
use Rattle.rb_trees.specs.mirror.Scripts.{SExpr, MoreSExprs, sexprs_from, mirror_sexpr, mirror_sexprs, Step, Steps, MoreSteps, steps_from, mirror_step, mirror_steps}
use Rattle.rb_trees.proofs.mirror.Steps.{steps as mirrored_steps}
use Rattle.rb_trees.proofs.mirror.SExprs.{sexprs}
use Rattle.rb_meaning_bytes.specs.formats.Fields.{Byte, bad_tag}
use Rattle.rb_meaning_bytes.specs.formats.Formats as plain
use Rattle.rb_meaning_bytes.specs.formats.Formats.{Format, Done, is_tag}
use Rattle.rb_meaning_bytes.specs.formats.Reading.{Read, read, look, on, deep}
use Rattle.rb_meaning_bytes.specs.formats.Scripts.{unary_op, unary_ops, binary_op, binary_ops, kind, value, value_forms, list_forms, input_value, expr, expr_forms, step, step_forms, block, do_step, keep_step, let_step, if_step, each_step}
use Rattle.rb_meaning_bytes.specs.formats.Staged.{Used, Staged, at_stage, times}
use Rattle.rb_meaning_bytes.specs.formats.Values.{natural}
use Rattle.rb_meaning_bytes.proofs.formats.Exact.{bound}
use Rattle.rb_meaning_bytes.proofs.formats.Steps.{chosen, tested, too_far, by_tag}
use Rattle.rb_wire_script.proofs.Pooled.{short_read}
use Rattle.rb_wire_script.proofs.Stages.{used_so}

pub unary_read : (bytes : List ℕ) → read unary_op bytes ≡ on (look Byte bytes) (λ b rest. by_tag unary_ops b rest)
unfolding unary_op
unary_read bytes = chosen unary_ops bytes

pub binary_read : (bytes : List ℕ) → read binary_op bytes ≡ on (look Byte bytes) (λ b rest. by_tag binary_ops b rest)
unfolding binary_op
binary_read bytes = chosen binary_ops bytes

pub kind_read : (bytes : List ℕ) → read kind bytes ≡ on (look Byte bytes) (λ b rest. cond (nat_le b 8) (Ok (b, rest)) (Err (bad_tag, length rest + 1)))
unfolding kind
kind_read bytes = tested (λ k. nat_le k 8) bytes

-- what uses no text, and then more
pub same_then : {A B : Type 0} (F : Format A) (used : ℕ) (k : Used A → Format B) (bytes : List ℕ)
    → read (plain.◌>>=◌ (plain.◌>>=◌ F (λ a. Done (used_so a used))) k) bytes ≡ on (read F bytes) (λ a rest. read (k (used_so a used)) rest)
unfolding read
same_then F used k bytes =
    bound (plain.◌>>=◌ F (λ a. Done (used_so a used))) k bytes
    ∙ ap (λ r. on r (λ x rest. read (k x) rest)) (bound F (λ a. Done (used_so a used)) bytes)
    ∙ go (read F bytes)
  where
    go : (r : Read _) → on (on r (λ a rest. Ok (used_so a used, rest))) (λ x rest. read (k x) rest) ≡ on r (λ a rest. read (k (used_so a used)) rest)
    go (Ok x) = refl
    go (Err e) = refl

module _ (version : Version) (texts : List (List ℕ)) where
  pub value_read : (used : ℕ) (bytes : List ℕ) → read (value version texts used) bytes
      ≡ on (look Byte bytes) (λ b rest. by_tag (at_stage used (value_forms version texts)) b rest)
  unfolding value
  value_read used bytes = chosen (at_stage used (value_forms version texts)) bytes

  pub input_read : (room used : ℕ) (bytes : List ℕ) → read (input_value version texts room used) bytes
      ≡ on (look Byte bytes) (λ b rest. by_tag (at_stage used (value_forms version texts ++ list_forms version texts version room)) b rest)
  unfolding input_value
  input_read room used bytes = chosen (at_stage used (value_forms version texts ++ list_forms version texts version room)) bytes

  pub expr_read : (n used : ℕ) (bytes : List ℕ) → 0 < n → read (expr version texts n used) bytes
      ≡ on (look Byte bytes) (λ b rest. by_tag (at_stage used (expr_forms version texts (expr version texts (n - 1)))) b rest)
  unfolding expr
  expr_read zero used bytes h = absurd (omega arith)
  expr_read (suc n) used bytes h =
      let e : suc n - 1 ≡ n = omega arith in
      chosen (at_stage used (expr_forms version texts (expr version texts n))) bytes
      ∙ ap (λ m. on (look Byte bytes) (λ b rest. by_tag (at_stage used (expr_forms version texts (expr version texts m))) b rest)) (sym e)

  pub expr_deep : (n used : ℕ) (bytes : List ℕ) → n ≡ 0 → read (expr version texts n used) bytes ≡ Err (deep bytes)
  unfolding expr
  expr_deep zero used bytes h = too_far (Used SExpr) bytes
  expr_deep (suc n) used bytes h = absurd (omega arith)

  pub step_read : (block : Staged Steps) (used : ℕ) (bytes : List ℕ) → read (step version texts block used) bytes
      ≡ on (look Byte bytes) (λ b rest. by_tag (at_stage used (step_forms version texts block)) b rest)
  unfolding step
  step_read block used bytes = chosen (at_stage used (step_forms version texts block)) bytes

  pub block_read : (n used : ℕ) (bytes : List ℕ) → 0 < n → read (block version texts n used) bytes
      ≡ on (read (natural version) bytes) (λ count rest. on (read (times count (step version texts (block version texts (n - 1))) used) rest) (λ steps rest. Ok (used_so (steps_from steps.0) steps.1, rest)))
  unfolding block read
  block_read zero used bytes h = absurd (omega arith)
  block_read (suc n) used bytes h =
      let e : suc n - 1 ≡ n = omega arith in
      same_then (natural version) used (λ x. plain.◌>>=◌ (times x.0 (step version texts (block version texts n)) x.1) (λ ss. Done (used_so (steps_from ss.0) ss.1))) bytes
      ∙ go (read (natural version) bytes)
      ∙ ap (λ m. on (read (natural version) bytes) (λ count rest. on (read (times count (step version texts (block version texts m)) used) rest) (λ steps rest. Ok (used_so (steps_from steps.0) steps.1, rest)))) (sym e)
    where
      go : (r : Read ℕ) → on r (λ count rest. read (plain.◌>>=◌ (times count (step version texts (block version texts n)) used) (λ ss. Done (used_so (steps_from ss.0) ss.1))) rest)
          ≡ on r (λ count rest. on (read (times count (step version texts (block version texts n)) used) rest) (λ steps rest. Ok (used_so (steps_from steps.0) steps.1, rest)))
      go (Ok x) = bound (times x.0 (step version texts (block version texts n)) used) (λ ss. Done (used_so (steps_from ss.0) ss.1)) x.1
      go (Err e) = refl

  pub block_deep : (n used : ℕ) (bytes : List ℕ) → n ≡ 0 → read (block version texts n used) bytes ≡ Err (deep bytes)
  unfolding block
  block_deep zero used bytes h = too_far (Used Steps) bytes
  block_deep (suc n) used bytes h = absurd (omega arith)

pub listed_exprs : (es : List rust.SExpr) → sexprs_from (map mirror_sexpr es) ≡ mirror_sexprs es
listed_exprs [] = refl
listed_exprs (e ∷ es) = ap (MoreSExprs (mirror_sexpr e)) (listed_exprs es)

pub listed_steps : (ss : List rust_step.Step) → steps_from (map mirror_step ss) ≡ mirror_steps ss
listed_steps [] = refl
listed_steps (s ∷ ss) = ap (MoreSteps (mirror_step s)) (listed_steps ss)

-- ---- tags that stand for nothing in either version

-- the test of three tags and of what is behind them
abbrev three : (a b c rest : Bool) → Bool
three a b c rest = cond a true (cond b true (cond c true rest))

three_more : (a b c more : Bool) → three a b c false ≡ false → more ≡ false → three a b c more ≡ false
three_more true b c more h k = absurd cc
three_more false true c more h k = absurd cc
three_more false false true more h k = absurd cc
three_more false false false more h k = k

-- the test of five tags and of what is behind them
abbrev five : (a b c d e rest : Bool) → Bool
five a b c d e rest = cond a true (cond b true (three c d e rest))

five_more : (a b c d e more : Bool) → five a b c d e false ≡ false → more ≡ false → five a b c d e more ≡ false
five_more true b c d e more h k = absurd cc
five_more false true c d e more h k = absurd cc
five_more false false c d e more h k = three_more c d e more h k

-- the steps of both versions
abbrev pub both_steps : (version : Version) (texts : List (List ℕ)) → Staged Steps → List (ℕ × Staged Step)
both_steps version texts block = (0x10, do_step version texts) ∷ (0x11, keep_step version texts) ∷ (0x12, let_step version texts) ∷ (0x13, if_step version texts block)
    ∷ (0x14, each_step version texts block) ∷ []

pub no_step : (version : Version) (texts : List (List ℕ)) (block : Staged Steps) (used b : ℕ) → is_tag (at_stage used (both_steps version texts block)) b ≡ false → nat_eq b 0x15 ≡ false
    → is_tag (at_stage used (step_forms version texts block)) b ≡ false
no_step One texts block used b h k = h
no_step Two texts block used b h k = five_more (nat_eq b 0x10) (nat_eq b 0x11) (nat_eq b 0x12) (nat_eq b 0x13) (nat_eq b 0x14) (cond (nat_eq b 0x15) true false) h (ap (λ x. cond x true false) k)

pub ruleset operators = (unary_read, binary_read)

pub ruleset steps = (step_read, bound, mirrored_steps)

pub ruleset blocks = (block_read, block_deep, listed_steps)

pub ruleset values = (value_read, input_read)

pub ruleset exprs = (expr_read, expr_deep, bound, sexprs)

pub ruleset parts = (short_read, listed_exprs, bound, sexprs)
