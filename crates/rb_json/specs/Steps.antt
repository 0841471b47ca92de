-- The form of steps in JSON: arrays that begin with a word, as those of expressions.
use Rattle.std.specs.Prelude.{ℕ, ◌+◌, ◌^◌, Bool, List, ◌&&◌, ◌==◌, cond, codes, Result, Ok, Err}
use Rattle.std.specs.Str.{bytes_eq}
use Rattle.rb_trees.specs.Outcome.{◌>>=◌}
use Rattle.rb_trees.specs.mirror.Scripts.{SExpr, Step, Do, Keep, Let, If, Each, Over, Steps, NoSteps, MoreSteps}
use Rattle.serde_json.specs.Data.{Data, null, boolean, number, string, array, object, Items, no_items, item}
use Rattle.rb_json.specs.Counts.{count, items_number}
use Rattle.rb_json.specs.Values.{Read, pair, number_at, truth_at}
use Rattle.rb_json.specs.Exprs.{expr_at}

-- the number of a step, and its position
abbrev pub head_at : ℕ → Data → Data → Read (ℕ × ℕ)
head_at q id at =
    number_at (2 ^ 32) q id >>= λ number. number_at (2 ^ 32) (q + count id) at >>= λ position. Ok (number, position)

-- a variable, whether what it stands for is kept, and the expression that gives it
abbrev pub bound_at : ℕ → Data → Data → Data → Read (ℕ × Bool × SExpr)
bound_at q var keep e =
    number_at (2 ^ 32) q var >>= λ variable. truth_at (q + count var) keep >>= λ kept.
    expr_at (q + count var + count keep) e >>= λ expr. Ok (variable, kept, expr)

-- a variable, and the list input that it goes through
abbrev pub walk_at : ℕ → Data → Data → Read (ℕ × ℕ)
walk_at q var k =
    number_at (2 ^ 32) q var >>= λ variable. number_at (2 ^ 8) (q + count var) k >>= λ input. Ok (variable, input)

-- `["do", id, at, expression]`
abbrev pub do_step : ℕ → Items → Read Step
do_step q (item id (item at (item e no_items))) =
    head_at q id at >>= λ h. expr_at (q + (count id + count at)) e >>= λ expr. Ok (Do h.0 h.1 expr)
do_step q _ = Err q

-- `["keep", id, at, expression]`
abbrev pub keep_step : ℕ → Items → Read Step
keep_step q (item id (item at (item e no_items))) =
    head_at q id at >>= λ h. expr_at (q + (count id + count at)) e >>= λ expr. Ok (Keep h.0 h.1 expr)
keep_step q _ = Err q

-- `["let", id, at, variable, keep, expression]`
abbrev pub let_step : ℕ → Items → Read Step
let_step q (item id (item at (item var (item keep (item e no_items))))) =
    head_at q id at >>= λ h. bound_at (q + (count id + count at)) var keep e >>= λ b. Ok (Let h.0 h.1 b.0 b.1 b.2)
let_step q _ = Err q

abbrev mutual
  pub step_at : ℕ → Data → Read Step
  step_at p (array (item (string word) ds)) =
      cond (bytes_eq word (codes "do") && items_number ds == 3) (do_step (p + 2) ds)
      (cond (bytes_eq word (codes "keep") && items_number ds == 3) (keep_step (p + 2) ds)
      (cond (bytes_eq word (codes "let") && items_number ds == 5) (let_step (p + 2) ds)
      (cond (bytes_eq word (codes "if") && items_number ds == 5) (if_step (p + 2) ds)
      (cond (bytes_eq word (codes "each") && items_number ds == 6) (each_step (p + 2) ds)
      (cond (bytes_eq word (codes "over") && items_number ds == 5) (over_step (p + 2) ds) (Err p))))))
  step_at p _ = Err p

  -- `["if", id, at, expression, [steps], [steps]]`
  pub if_step : ℕ → Items → Read Step
  if_step q (item id (item at (item e (item a (item b no_items))))) =
      head_at q id at >>= λ h. expr_at (q + (count id + count at)) e >>= λ condition.
      pair (steps_at (q + (count id + count at) + count e) a) (steps_at (q + (count id + count at) + count e + count a) b) >>= λ both.
      Ok (If h.0 h.1 condition both.0 both.1)
  if_step q _ = Err q

  -- `["each", id, at, variable, keep, expression, [steps]]`
  pub each_step : ℕ → Items → Read Step
  each_step q (item id (item at (item var (item keep (item e (item a no_items)))))) =
      head_at q id at >>= λ h. bound_at (q + (count id + count at)) var keep e >>= λ b.
      steps_at (q + (count id + count at) + (count var + count keep + count e)) a >>= λ block. Ok (Each h.0 h.1 b.0 b.1 b.2 block)
  each_step q _ = Err q

  -- `["over", id, at, variable, input, [steps]]`
  pub over_step : ℕ → Items → Read Step
  over_step q (item id (item at (item var (item k (item a no_items))))) =
      head_at q id at >>= λ h. walk_at (q + (count id + count at)) var k >>= λ w.
      steps_at (q + (count id + count at) + (count var + count k)) a >>= λ block. Ok (Over h.0 h.1 w.0 w.1 block)
  over_step q _ = Err q

  pub steps_at : ℕ → Data → Read Steps
  steps_at p (array ds) = steps_in (p + 1) ds
  steps_at p _ = Err p

  -- steps one after another
  pub steps_in : ℕ → Items → Read Steps
  steps_in p no_items = Ok NoSteps
  steps_in p (item d ds) = step_at p d >>= λ s. steps_in (p + count d) ds >>= λ ss. Ok (MoreSteps s ss)
