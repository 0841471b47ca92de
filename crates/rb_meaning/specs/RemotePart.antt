-- The whole remote part of a batch: a walk over its source that performs what is remote, in order, and skips all else. A fault
-- ends the walk. Which expressions are portable, and which statements hold a remote operation, the definitions of marks say.
use Rattle.std.specs.Prelude.{ℕ, List, [], ◌∷◌, ◌++◌, cond}
use Rattle.rb_trees.specs.declared.values.Value.{Value, out-Value}
use Rattle.rb_trees.specs.mirror.Code.{Expr, Stmt, Stmts, Val, If, For, NoStmts, MoreStmts}
use Rattle.rb_trees.specs.mirror.Declarations.{Program}
use Rattle.rb_trees.specs.mirror.Services.{Service}
use Rattle.rb_meaning_code.specs.Faults.{kind, raised}
use Rattle.rb_meaning_code.specs.State.{Names, Local}
use Rattle.rb_meaning_code.specs.Dialogue.{Outcome, Gave, Faulted, Handler, handle}
use Rattle.rb_meaning_code.specs.Remote.{Server, Reply, Got, Stopped, and_then, replies, rows_in}
use Rattle.rb_meaning_code.specs.Expressions.{evaluates}
use Rattle.rb_meaning_code.specs.Statements.{truth_of}
use Rattle.rb_meaning_code.specs.Bodies.{bodies_of}
use Rattle.rb_meaning_flow.specs.declared.forms.PlacedForm.{PlacedForm}
use Rattle.rb_meaning_flow.specs.declared.scopes.Role.{Role}
use Rattle.rb_meaning_flow.specs.Facts.{facts_of}
use Rattle.rb_meaning_flow.specs.Scopes.{Scope, with_variable}
use Rattle.rb_meaning_flow.specs.Forms.{placed_form}
use Rattle.rb_meaning_flow.specs.Sites.{scope_after}
use Rattle.rb_meaning.specs.RemoteAnswers.{unit_of, remote_answer}
use Rattle.rb_meaning.specs.RemoteExprs.{remote_of}
use Rattle.rb_meaning.specs.ConstantLists.{items_named}

-- how the walk ends: by itself or by a fault, with the server after it
abbrev pub Walked : Type 0
Walked = Reply (Unit {0})

-- what follows, from the names and the server of then
abbrev pub Rest : Type 0
Rest = Names → Server → Walked

-- the end of a block
abbrev pub ended : Rest
ended names s = Got tt s

-- with one name more, at the end
abbrev pub with_name : List ℕ → Value → Names → Names
with_name name v names = names ++ (name, v) ∷ []

-- how an evaluation ends, as a reply
abbrev pub reply_of : Outcome Value × Server → Reply Value
reply_of (Gave v l, s) = Got v s
reply_of (Faulted r l, s) = Stopped r.at r.fault s

-- a local state with these names, and nothing else
abbrev pub with_names : Names → Local
with_names names = record { names = names; heap = []; fuel = 0; depth = 0 }

-- turns over rows or items, each of which begins with a unit at the loop
abbrev pub turns : ℕ → (Value → Server → Walked) → List Value → Server → Walked
turns at turn [] s = Got tt s
turns at turn (row ∷ rows) s = and_then (unit_of at s) (λ u s1. and_then (turn row s1) (λ v s2. turns at turn rows s2))

-- of a program, on a service
module _ (p : Program) (service : Service) where
  -- the surroundings of a portable expression; no batch stands in one
  abbrev pub in_remote_part : Handler Server
  in_remote_part = record { answer = remote_answer p service; batch = λ s at l. (Faulted (raised kind at) l, s) }

  -- the value of a portable expression, by the same evaluation as everywhere
  abbrev pub value_of : Expr → Names → Server → Reply Value
  value_of e names s = reply_of (handle in_remote_part (evaluates (bodies_of p.classes 0) e (with_names names)) s)

  -- portable expressions, performed in order
  abbrev pub performed : List Expr → Names → Server → Walked
  performed [] names s = Got tt s
  performed (e ∷ es) names s = and_then (value_of e names s) (λ v s1. performed es names s1)

  -- a statement of which the remote expressions are performed and all else is skipped, and what follows it
  abbrev pub skims : Scope → Stmt → Names → Server → Rest → Walked
  skims scope stmt names s go = and_then (performed (remote_of (facts_of p) scope stmt) names s) (λ u s1. go names s1)

  abbrev mutual
    -- A statement at a script place, by its form, and what follows it. A carried val is bound; a carried `if`, a loop over rows
    -- and a carried loop are performed with their blocks, whose names end with them.
    pub walk_as : PlacedForm → Scope → Stmt → Names → Server → Rest → Walked
    walk_as PlacedForm.CarriedVal scope (Val at name e) names s go = and_then (value_of e names s) (λ v s1. go (with_name name v names) s1)
    walk_as PlacedForm.CarriedIf scope (If at c a b) names s go =
        and_then (value_of c names s) (λ v s1.
        and_then (replies at (truth_of (out-Value v)) s1) (λ holds s2.
        and_then (cond holds (walk_block scope a names s2 ended) (walk_block scope b names s2 ended)) (λ u s3. go names s3)))
    walk_as PlacedForm.RowsLoop scope (For at name e a) names s go =
        and_then (value_of e names s) (λ v s1.
        and_then (replies at (rows_in (out-Value v)) s1) (λ rows s2.
        and_then (turns at (λ row s3. walk_block (with_variable scope name Role.Row at) a (with_name name row names) s3 ended) rows s2) (λ u s3. go names s3)))
    walk_as PlacedForm.CarriedLoop scope (For at name e a) names s go =
        and_then (replies at (items_named names e) s) (λ items s1.
        and_then (turns at (λ item s2. walk_block (with_variable scope name Role.Row at) a (with_name name item names) s2 ended) items s1) (λ u s2. go names s2))
    walk_as form scope stmt names s go = skims scope stmt names s go

    -- statements in order, and what follows them
    pub walk_block : Scope → Stmts → Names → Server → Rest → Walked
    walk_block scope NoStmts names s go = go names s
    walk_block scope (MoreStmts stmt stmts) names s go =
        walk_as (placed_form (facts_of p) scope stmt) scope stmt names s (λ names1 s1.
        walk_block (scope_after (facts_of p) [] scope stmt) stmts names1 s1 go)

  -- a statement at a script place, and what follows it
  abbrev pub walk : Scope → Stmt → Names → Server → Rest → Walked
  walk scope stmt names s go = walk_as (placed_form (facts_of p) scope stmt) scope stmt names s go

  -- the remote part of a batch's block, with the names and the server of its start
  abbrev pub remote_only : Scope → Stmts → Names → Server → Walked
  remote_only scope block names s = walk_block scope block names s ended
