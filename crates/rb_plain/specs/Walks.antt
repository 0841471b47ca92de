-- What is remote in the statements of a batch, as the code performs it.
use Rattle.std.specs.Prelude.{◌≡◌, List, [], length, take, cond, OnOk, Result, Ok, Err}
use Rattle.rb_trees.specs.declared.values.Value.{Value, out-Value}
use Rattle.rb_trees.specs.declared.code.Expr as expr
use Rattle.rb_trees.specs.declared.code.Stmt as stmt
use Rattle.rb_trees.specs.mirror.Code.{Stmt, Val, Var, mirror_expr, mirror_stmt, mirror_stmts}
use Rattle.rb_meaning_code.specs.State.{Names}
use Rattle.rb_meaning_code.specs.Remote.{Server, Stopped, and_then, replies, rows_in}
use Rattle.rb_meaning_code.specs.Statements.{truth_of}
use Rattle.rb_meaning_flow.specs.declared.forms.PlacedForm.{PlacedForm}
use Rattle.rb_meaning_flow.specs.declared.scopes.Role.{Role}
use Rattle.rb_meaning_flow.specs.Facts.{facts_of}
use Rattle.rb_meaning_flow.specs.Scopes.{Scope, with_variable}
use Rattle.rb_meaning_flow.specs.Sites.{scope_after}
use Rattle.rb_meaning.specs.ConstantLists.{items_named}
use Rattle.rb_meaning.specs.RemotePart as part
use Rattle.rb_meaning.specs.RemotePart.{Rest, ended, skims, turns, walk, walk_as, walk_block, with_name}
use Rattle.rb_engine.specs.declared.misses.Miss.{Miss}
use Rattle.rb_engine.specs.declared.misses.Miss.TheVariants as miss
use Rattle.rb_plain.specs.Remote.{SameStage, Unstarved, value_meant}
use Rattle.rb_plain.specs.Staged.{Staged, program_of, service_of}
use Rattle.rb_plain.specs.declared.remote_world.RemoteWorld.{RemoteWorld}
use Rattle.rb_plain.specs.declared.walk.Binding.{Binding}
use Rattle.rb_plain.specs.declared.walk.Branch.{Branch}
use Rattle.rb_plain.specs.declared.walk.Loop.{Loop}

-- what statements mean before whatever follows them
abbrev pub Meaning : Type 0
Meaning = Rest → part.Walked

-- Statements did what they mean, whatever follows them: that is gone on with, with these names and this server; or a fault
-- ended the walk. Nothing is said after want of memory.
abbrev pub Does : Meaning → Result (Unit {0}) Miss → Names → Server → Type 0
Does meaning (Ok u) names s = (go : Rest) → meaning go ≡ go names s
Does meaning (Err (miss.Fault at f)) names s = (go : Rest) → meaning go ≡ Stopped at f s
Does meaning (Err miss.Memory) names s = Unit {0}

-- The list was only added to.
abbrev pub Kept : {A : Type 0} → List A → List A → Type 0
Kept before after = take (length before) after ≡ before

-- what performing statements ensures: they did what they mean, names were only added, and the stage stays
pub record Walked (meaning : Meaning) (old : Names) (result : Result (Unit {0}) Miss) (before : RemoteWorld) (new : Names) (after : RemoteWorld) : Type 0 where
  pub does : Does meaning result new after.server
  pub names_so : OnOk result (Kept old new)
  pub stage_so : Unstarved result (SameStage before after)

-- a `val` that is carried
abbrev pub carried_meant : RemoteWorld → Binding → Names → Meaning
carried_meant w val names go = and_then (value_meant w.stage val.expr.now names w.server) (λ v s. go (with_name val.name.now v names) s)

-- a statement of which only the remote expressions are performed
abbrev pub skim_meant : RemoteWorld → Scope → Stmt → Names → Meaning
skim_meant w scope s names go = skims (program_of w.stage) (service_of w.stage) scope s names w.server go

-- a statement, as one of a form
abbrev pub form_meant : PlacedForm → RemoteWorld → Scope → Stmt → Names → Meaning
form_meant form w scope s names go = walk_as (program_of w.stage) (service_of w.stage) form scope s names w.server go

abbrev pub stmt_meant : RemoteWorld → Scope → stmt.Stmt → Names → Meaning
stmt_meant w scope s names go = walk (program_of w.stage) (service_of w.stage) scope (mirror_stmt s) names w.server go

abbrev pub stmts_meant : RemoteWorld → Scope → List stmt.Stmt → Names → Meaning
stmts_meant w scope ss names go = walk_block (program_of w.stage) (service_of w.stage) scope (mirror_stmts ss) names w.server go

-- a block to its end, with the server that it begins with
abbrev pub block_from : Staged → Scope → List stmt.Stmt → Names → Server → part.Walked
block_from st scope ss names s = walk_block (program_of st) (service_of st) scope (mirror_stmts ss) names s ended

abbrev pub block_meant : RemoteWorld → Scope → List stmt.Stmt → Names → part.Walked
block_meant w scope ss names = block_from w.stage scope ss names w.server

-- an `if` whose condition is carried
abbrev pub branch_meant : RemoteWorld → Scope → Branch → Names → Meaning
branch_meant w scope b names go =
    and_then (value_meant w.stage b.condition.now names w.server) (λ v s1.
    and_then (replies b.at (truth_of (out-Value v)) s1) (λ holds s2.
    and_then (cond holds (block_from w.stage scope b.yes.now names s2) (block_from w.stage scope b.no.now names s2)) (λ u s3. go names s3)))

-- the block of a turn, with its row bound
abbrev pub turn_from : Staged → Scope → Loop → Names → Value → Server → part.Walked
turn_from st scope l names row s = block_from st (with_variable scope l.name.now Role.Row l.at) l.block.now (with_name l.name.now row names) s

abbrev pub turn_meant : RemoteWorld → Scope → Loop → Names → Value → part.Walked
turn_meant w scope l names row = turn_from w.stage scope l names row w.server

abbrev pub turns_from : Staged → Scope → Loop → Names → List Value → Server → part.Walked
turns_from st scope l names rows s = turns l.at (turn_from st scope l names) rows s

abbrev pub turns_meant : RemoteWorld → Scope → Loop → Names → List Value → part.Walked
turns_meant w scope l names rows = turns_from w.stage scope l names rows w.server

-- a loop over rows
abbrev pub rows_meant : RemoteWorld → Scope → Loop → expr.Expr → Names → Meaning
rows_meant w scope l e names go =
    and_then (value_meant w.stage e names w.server) (λ v s1.
    and_then (replies l.at (rows_in (out-Value v)) s1) (λ rows s2.
    and_then (turns_from w.stage scope l names rows s2) (λ u s3. go names s3)))

-- a carried loop
abbrev pub items_meant : RemoteWorld → Scope → Loop → expr.Expr → Names → Meaning
items_meant w scope l e names go =
    and_then (replies l.at (items_named names (mirror_expr e)) w.server) (λ items s1.
    and_then (turns_from w.stage scope l names items s1) (λ u s2. go names s2))

-- the variables in scope after a statement
abbrev pub scope_behind : RemoteWorld → Scope → stmt.Stmt → Scope
scope_behind w scope s = scope_after (facts_of (program_of w.stage)) [] scope (mirror_stmt s)

-- the same with a `val` that is carried, and behind a statement that carries nothing
abbrev pub carried_scope : Scope → Binding → Scope
carried_scope scope val = with_variable scope val.name.now Role.Carried val.at

abbrev pub plain_scope : Scope → Stmt → Scope
plain_scope scope (Val at name e) = with_variable scope name Role.Plain at
plain_scope scope (Var at name e) = with_variable scope name Role.Plain at
plain_scope scope _ = scope
