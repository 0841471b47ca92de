-- The refusals of a batch by admission, row by row, and their order.
use Rattle.std.specs.Prelude.{◌≡◌, ℕ, ◌<◌, ◌⊎◌, List, [], ◌∷◌, ◌++◌, Bool, true, false, not, cond, ◌&&◌, ◌||◌, IsTrue}
use Rattle.std.specs.List.{Contains, flat_map}
use Rattle.rb_trees.specs.declared.code.BinOp.{BinOp}
use Rattle.rb_trees.specs.declared.flows.BadPart.{BadPart}
use Rattle.rb_trees.specs.declared.refusals.Refusal.{Refusal}
use Rattle.rb_trees.specs.declared.refusals.Refusal.TheVariants.{Flow, NotConstant, UnderLocalCondition, Escapes, BatchInside, InTry as InTryRefused, RemoteVar, TooManyInputs, ScriptTooLarge}
use Rattle.rb_trees.specs.mirror.Code.{Expr, Exprs, Unary, Binary, Field, Call, Index, New, Items, NoExprs, MoreExprs, expr_at, Stmt, Val, Var, Run, While, For, Batch, stmt_at}
use Rattle.rb_meaning_flow.specs.Facts.{Facts, is_remote, over_rows}
use Rattle.rb_meaning_flow.specs.Scopes.{Scope}
use Rattle.rb_meaning_flow.specs.Portable.{portable, is_constant_list}
use Rattle.rb_meaning_flow.specs.Sites.{Around, Branch, WhileTurn, Turn, InTry, InBatch, is_script_place, StmtSite, Over, ExprSite, exprs_of}
use Rattle.rb_meaning_flow.specs.Chains.{IsChain, IsLeastChain}
use Rattle.rb_meaning_flow.specs.Flow.{is_call, writers, bad_parts}

-- whether an expression is an object of the service, or rows
abbrev pub has_remote_type : Facts → Expr → Bool
has_remote_type x e = x.object (expr_at e) || x.rows (expr_at e)

abbrev pub is_and_or : BinOp → Bool
is_and_or BinOp.And = true
is_and_or BinOp.Or = true
is_and_or _ = false

-- above the right operand of an `&&` or `||`, unless that whole is portable: the left operand
abbrev pub operand_condition : Facts → Scope → Bool → Expr → List ℕ
operand_condition x scope right (Binary at op a b) =
    cond (right && (is_and_or op && not (portable x scope (Binary at op a b)))) (expr_at a ∷ []) []
operand_condition x scope right _ = []

-- the condition of a `while`, above each expression in it
abbrev pub while_condition : Stmt → List ℕ
while_condition (While at c a) = expr_at c ∷ []
while_condition _ = []

-- a condition that isn't portable above a branch, a condition of a `while`, and above a loop's body a List that isn't the
-- name of a constant one
abbrev pub frame_condition : Facts → Around → List ℕ
frame_condition x (Branch at scope c a b) = cond (portable x scope c) [] (expr_at c ∷ [])
frame_condition x (WhileTurn at scope c) = expr_at c ∷ []
frame_condition x (Turn at scope list block) = cond (over_rows x list || is_constant_list scope list) [] (expr_at list ∷ [])
frame_condition x (InTry at scope tried name handler) = []
frame_condition x (InBatch at) = []

-- the local conditions above an expression, and above a statement, the innermost first
abbrev pub expr_conditions : Facts → ExprSite → List ℕ
expr_conditions x s = (flat_map (λ o. operand_condition x s.stands.scope o.right o.expr) s.above ++ while_condition s.stands.stmt)
    ++ flat_map (frame_condition x) s.stands.around

abbrev pub stmt_conditions : Facts → StmtSite → List ℕ
stmt_conditions x s = flat_map (frame_condition x) s.around

abbrev pub StandsFirst : ℕ → List ℕ → Type 0
StandsFirst n [] = ⊥
StandsFirst n (m ∷ ms) = m ≡ n

abbrev pub is_try : Around → Bool
is_try (InTry at scope tried name handler) = true
is_try _ = false

-- whether a `try` of the batch stands around
abbrev pub any_try : List Around → Bool
any_try [] = false
any_try (a ∷ around) = is_try a || any_try around

abbrev pub is_rows_loop : Facts → Stmt → Bool
is_rows_loop x (For at name e a) = over_rows x e
is_rows_loop x _ = false

abbrev pub is_batch : Stmt → Bool
is_batch (Batch at interface root a) = true
is_batch _ = false

-- a `var` of interface or rows type
abbrev pub is_remote_var : Facts → Stmt → Bool
is_remote_var x (Var at name e) = has_remote_type x e
is_remote_var x _ = false

-- a call of a `remote` method of a class
abbrev pub calls_remote_method : Facts → Expr → Bool
calls_remote_method x (Call at a method args) = not (is_remote x a) && x.remote_method (expr_at a) method
calls_remote_method x _ = false

-- whether a call stands in an expression, remote or not
abbrev mutual
  pub has_call : Expr → Bool
  has_call (Call at a method args) = true
  has_call (Unary at op a) = has_call a
  has_call (Binary at op a b) = has_call a || has_call b
  has_call (Field at a name) = has_call a
  has_call (Index at a b) = has_call a || has_call b
  has_call (New at class args) = any_has_call args
  has_call (Items at item items) = any_has_call items
  has_call _ = false

  pub any_has_call : Exprs → Bool
  any_has_call NoExprs = false
  any_has_call (MoreExprs e es) = has_call e || any_has_call es

-- where the whole of a statement's own expression may have an interface or rows type: where a `val` at a script
-- place or a `var` binds it, where it stands alone and holds a call, and as the rows of a loop
abbrev pub whole_may : Facts → List Around → Stmt → Bool
whole_may x around (Val at name e) = is_script_place x around
whole_may x around (Var at name e) = true
whole_may x around (Run at e) = has_call e
whole_may x around (For at name e a) = over_rows x e
whole_may x around _ = false

-- and where a part may: as the receiver or an argument of a remote call
abbrev pub may_be_remote : Facts → StmtSite → List Over → Bool
may_be_remote x s [] = whole_may x s.around s.stmt
may_be_remote x s (o ∷ above) = is_call x o.expr

-- a remote operation of the batch at a position, a call or a loop over rows, with the local conditions above it and
-- what it stands in
abbrev pub IsCallAt : Facts → List StmtSite → ℕ → List ℕ → List Around → Type 0
IsCallAt x ss at conditions around = (s : ExprSite) × Contains (exprs_of ss) s × IsTrue (is_call x s.expr) × (expr_at s.expr ≡ at)
    × (expr_conditions x s ≡ conditions) × (s.stands.around ≡ around)

abbrev pub IsLoopAt : Facts → List StmtSite → ℕ → List ℕ → List Around → Type 0
IsLoopAt x ss at conditions around = (s : StmtSite) × Contains ss s × IsTrue (is_rows_loop x s.stmt) × (stmt_at s.stmt ≡ at)
    × (stmt_conditions x s ≡ conditions) × (s.around ≡ around)

abbrev pub IsOperationAt : Facts → List StmtSite → ℕ → List ℕ → List Around → Type 0
IsOperationAt x ss at conditions around = IsCallAt x ss at conditions around ⊎ IsLoopAt x ss at conditions around

-- whether a statement, or an expression, of the batch for which this holds stands at a position
abbrev pub StmtAt : (Stmt → Bool) → List StmtSite → ℕ → Type 0
StmtAt is ss at = (s : StmtSite) × Contains ss s × (stmt_at s.stmt ≡ at) × IsTrue (is s.stmt)

abbrev pub ExprAt : (ExprSite → Bool) → List StmtSite → ℕ → Type 0
ExprAt is ss at = (s : ExprSite) × Contains (exprs_of ss) s × (expr_at s.expr ≡ at) × IsTrue (is s)

-- an expression of interface or rows type where none may stand
abbrev pub escapes : Facts → ExprSite → Bool
escapes x s = has_remote_type x s.expr && not (may_be_remote x s.stands s.above)

-- The table of refusals, row by row; the statements are all those of the batch. The last two are of the division.
abbrev pub IsRefusal : Facts → List StmtSite → Refusal → Type 0
IsRefusal x ss (Flow chain) = (u : BadPart) × Contains (bad_parts x ss) u × IsLeastChain (writers x ss) u chain
IsRefusal x ss (NotConstant at) = (u : BadPart) × Contains (bad_parts x ss) u × (u.at ≡ at)
    × ((chain : List ℕ) → IsChain (writers x ss) u chain → ⊥)
IsRefusal x ss (UnderLocalCondition condition operation) = (conditions : List ℕ) × (around : List Around)
    × IsOperationAt x ss operation conditions around × StandsFirst condition conditions
IsRefusal x ss (Escapes at) = ExprAt (escapes x) ss at
IsRefusal x ss (BatchInside at) = StmtAt is_batch ss at ⊎ ExprAt (λ s. calls_remote_method x s.expr) ss at
IsRefusal x ss (InTryRefused at) = (conditions : List ℕ) × (around : List Around)
    × IsOperationAt x ss at conditions around × IsTrue (any_try around)
IsRefusal x ss (RemoteVar at) = StmtAt (is_remote_var x) ss at
IsRefusal x ss (TooManyInputs batch count) = ⊥
IsRefusal x ss (ScriptTooLarge batch bytes) = ⊥

-- the number of a refusal's row
abbrev pub number : Refusal → ℕ
number (Flow chain) = 1
number (NotConstant at) = 2
number (UnderLocalCondition condition operation) = 3
number (Escapes at) = 4
number (BatchInside at) = 5
number (InTryRefused at) = 6
number (RemoteVar at) = 7
number (TooManyInputs batch count) = 8
number (ScriptTooLarge batch bytes) = 9

abbrev pub last_of : List ℕ → ℕ
last_of [] = 0
last_of (p ∷ []) = p
last_of (p ∷ q ∷ ps) = last_of (q ∷ ps)

-- where a refusal stands: a flow at the end of its chain, a remote operation at its own position
abbrev pub place : Refusal → ℕ
place (Flow chain) = last_of chain
place (NotConstant at) = at
place (UnderLocalCondition condition operation) = operation
place (Escapes at) = at
place (BatchInside at) = at
place (InTryRefused at) = at
place (RemoteVar at) = at
place (TooManyInputs batch count) = batch
place (ScriptTooLarge batch bytes) = batch

-- the order of refusals: by place, ties by number
abbrev pub IsBefore : Refusal → Refusal → Type 0
IsBefore r s = (place r < place s) ⊎ ((place r ≡ place s) × (number r < number s))
