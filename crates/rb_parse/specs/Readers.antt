-- What the functions that read a part say of their answers.
use Rattle.std.specs.Prelude.{◌≡◌, ◌<◌, ◌≤◌, ℕ, List, length, Option, Some, None, Result, IfOk}
use Rattle.std.specs.Borrow.{Bor}
use Rattle.rb_trees.specs.Outcome.{Gives}
use Rattle.rb_trees.specs.declared.want.Memory.{Memory}
use Rattle.rb_trees.specs.declared.tokens.Token.{Token}
use Rattle.rb_trees.specs.declared.code.Expr as code
use Rattle.rb_trees.specs.mirror.Code.{Expr, mirror_expr}
use Rattle.rb_parse.specs.declared.stop.Stop.{Stop}
use Rattle.rb_parse.specs.declared.stop.Stop.TheVariants as stops
use Rattle.rb_parse.specs.Reading.{Read}

-- how many tokens are left where reading stops
abbrev pub left_of : Stop → Option ℕ
left_of (stops.Unexpected left) = Some left
left_of stops.Memory = None

-- what such a function answers: a tree and the tokens behind it, or why it stops
abbrev pub Answer : Type 0 → Type 0
Answer R = Result (R × Bor (List Token)) Stop

-- The answer is what reading gives, its tree seen in the mirror.
abbrev pub Reads : {R A : Type 0} → (R → A) → Answer R → Read A → Type 0
Reads mirror answer read = Gives (λ x. (mirror x.0, x.1.now)) left_of answer read

-- At least one token was read.
abbrev pub Shortens : {R : Type 0} → List Token → Answer R → Type 0
Shortens tokens answer = IfOk answer (λ x. length x.1.now < length tokens)

-- No token stands behind the tree that didn't stand there before.
abbrev pub NoLonger : {R : Type 0} → List Token → Answer R → Type 0
NoLonger tokens answer = IfOk answer (λ x. length x.1.now ≤ length tokens)

-- The answer is this expression.
abbrev pub Builds : Result code.Expr Memory → Expr → Type 0
Builds answer e = IfOk answer (λ x. mirror_expr x ≡ e)
