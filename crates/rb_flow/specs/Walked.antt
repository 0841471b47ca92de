-- What the walk through a batch finds, as it goes.
use Rattle.std.specs.Prelude.{ℕ, List, [], ◌∷◌, ◌++◌, Bool, true, false, cond, ◌&&◌, ◌||◌, nat_lt, Option, Some, None}
use Rattle.rb_trees.specs.declared.flows.Writer.{Writer}
use Rattle.rb_trees.specs.declared.flows.BadPart.{BadPart}
use Rattle.rb_trees.specs.mirror.Code.{Expr, Exprs, Lit, Name, This, Unary, Binary, Field, Call, Index, New, Items, Taken, NoExprs, MoreExprs, expr_at, Stmt, Stmts, Val, Var, Assign, Run, Print, Throw, If, While, For, Try, Batch, NoStmts, MoreStmts}
use Rattle.rb_meaning_flow.specs.declared.scopes.Role.{Role}
use Rattle.rb_meaning_flow.specs.Facts.{Facts, is_remote, over_rows}
use Rattle.rb_meaning_flow.specs.Scopes.{Scope, with_variable}
use Rattle.rb_meaning_flow.specs.Portable.{portable, branches_hold, is_constant_list, has_far_turns}
use Rattle.rb_meaning_flow.specs.Flow.{objects, is_call, assigned_node}
use Rattle.rb_meaning_flow.specs.Refusals.{operand_condition, has_call}
use Rattle.rb_flow.specs.declared.standing.Reading.{Reading}
use Rattle.rb_flow.specs.declared.standing.Standing.{Standing}
use Rattle.rb_flow.specs.declared.standing.Inside.{Inside}
use Rattle.rb_flow.specs.declared.findings.Findings.{Findings}
use Rattle.rb_flow.specs.Earliest.{earliest}
use Rattle.rb_flow.specs.Readings.{nothing, joined, expr_read, whole_read, block_read}
use Rattle.rb_flow.specs.Found.{innermost, found_at_stmt, found_at_expr}

-- whether a position is less than that of a bad part, if there is one
abbrev pub less_than_part : ℕ → Option BadPart → Bool
less_than_part at None = true
less_than_part at (Some q) = nat_lt at q.at

-- of two bad parts the one at the lesser position
abbrev pub lesser_part : Option BadPart → BadPart → Option BadPart
lesser_part None p = Some p
lesser_part (Some q) p = cond (nat_lt p.at q.at) (Some p) (Some q)

-- an expression as a bad part
abbrev pub part_of : Facts → Scope → Expr → BadPart
part_of x scope e = record { at = expr_at e; reads = (expr_read x scope false nothing e).nodes; sources = (expr_read x scope false nothing e).sources }

-- the least bad part so far, once an expression is looked at from above
abbrev pub looked : Facts → Scope → Option BadPart → Expr → Option BadPart
looked x scope p (Lit at value) = p
looked x scope p (Name at name) = cond (portable x scope (Name at name)) p (lesser_part p (part_of x scope (Name at name)))
looked x scope p (This at) = lesser_part p (part_of x scope (This at))
looked x scope p (Unary at op a) = looked x scope p a
looked x scope p (Binary at op a b) = looked x scope (looked x scope p a) b
looked x scope p (Field at a name) = lesser_part p (part_of x scope (Field at a name))
looked x scope p (Call at a method args) = cond (is_remote x a) p (lesser_part p (part_of x scope (Call at a method args)))
looked x scope p (Index at a b) = lesser_part p (part_of x scope (Index at a b))
looked x scope p (New at class args) = lesser_part p (part_of x scope (New at class args))
looked x scope p (Items at item items) = lesser_part p (part_of x scope (Items at item items))
looked x scope p (Taken at step) = lesser_part p (part_of x scope (Taken at step))

abbrev pub all_looked : Facts → Scope → Option BadPart → Exprs → Option BadPart
all_looked x scope p NoExprs = p
all_looked x scope p (MoreExprs e es) = all_looked x scope (looked x scope p e) es

-- the same for the receiver and the arguments of a remote call
abbrev pub call_looked : Facts → Scope → Option BadPart → Expr → Option BadPart
call_looked x scope p (Call at a method args) = cond (is_remote x a) (all_looked x scope (looked x scope p a) args) p
call_looked x scope p _ = p

-- and for what a loop over rows goes over
abbrev pub loop_looked : Facts → Scope → Option BadPart → Stmt → Option BadPart
loop_looked x scope p (For at name e a) = cond (over_rows x e) (looked x scope p e) p
loop_looked x scope p _ = p

-- a writer of a node, at a position, that reads this
abbrev pub writer_of : ℕ → ℕ → Reading → Writer
writer_of at node r = record { at = at; writes = node; reads = r.nodes; sources = r.sources }

-- an expression that writes the objects
abbrev pub objects_writer : Facts → Scope → Reading → Expr → List Writer
objects_writer x scope around e = writer_of (expr_at e) objects (whole_read x scope around e) ∷ []

-- the writer that an expression is, if it is one
abbrev pub expr_writes : Facts → Scope → Reading → Expr → List Writer
expr_writes x scope around (Call at a method args) = cond (is_remote x a) [] (objects_writer x scope around (Call at a method args))
expr_writes x scope around (New at class args) = objects_writer x scope around (New at class args)
expr_writes x scope around _ = []

-- what was read, and what the left side of an assignment reads
abbrev pub left_read : Facts → Scope → Reading → Expr → Reading
left_read x scope r (Name at name) = r
left_read x scope r a = expr_read x scope false r a

-- what an assignment reads
abbrev pub assign_read : Facts → Scope → Expr → Expr → Reading
assign_read x scope a b = expr_read x scope false (left_read x scope nothing a) b

-- a writer of the node, if there is one
abbrev pub writers_of : ℕ → List ℕ → Reading → List Writer
writers_of at [] r = []
writers_of at (n ∷ ns) r = writer_of at n r ∷ []

-- the statement at a position, by what it writes: a variable, what is assigned, the fault's name
abbrev pub variable_writer : Facts → Scope → Reading → ℕ → Expr → List Writer
variable_writer x scope around at e = writer_of at at (whole_read x scope around e) ∷ []

abbrev pub assignment_writer : Facts → Scope → Reading → ℕ → Expr → Expr → List Writer
assignment_writer x scope around at a b = writers_of at (assigned_node scope a) (joined (assign_read x scope a b) around)

abbrev pub try_writer : Facts → Scope → Reading → ℕ → Stmts → List Writer
try_writer x scope around at a = writer_of at at (joined (block_read x scope nothing a) around) ∷ []

-- the writer that a statement is, if it is one
abbrev pub stmt_writes : Facts → Scope → Reading → Stmt → List Writer
stmt_writes x scope around (Val at name e) = variable_writer x scope around at e
stmt_writes x scope around (Var at name e) = variable_writer x scope around at e
stmt_writes x scope around (Assign at a b) = assignment_writer x scope around at a b
stmt_writes x scope around (For at name e a) = variable_writer x scope around at e
stmt_writes x scope around (Try at a name b) = try_writer x scope around at a
stmt_writes x scope around _ = []

-- what is found once an expression is seen, its parts aside
abbrev pub expr_seen : Facts → Scope → Reading → Inside → Findings → Expr → Findings
expr_seen x scope around inside f e = record {
  first = earliest (found_at_expr x inside e) f.first;
  writers = f.writers ++ expr_writes x scope around e;
  part = call_looked x scope f.part e;
}

-- what is found once a statement is seen, its expressions and blocks aside
abbrev pub stmt_seen : Facts → Standing → Scope → Findings → Stmt → Findings
stmt_seen x standing scope f s = record {
  first = earliest (found_at_stmt x standing s) f.first;
  writers = f.writers ++ stmt_writes x scope standing.around s;
  part = loop_looked x scope f.part s;
}

-- of two conditions the inner one, if there is one
abbrev pub or_outer : Option ℕ → Option ℕ → Option ℕ
or_outer None outer = outer
or_outer (Some p) outer = Some p

-- how what stands around bears on a part of an expression: a right operand, or another part
abbrev pub part_inside : Facts → Scope → Bool → Inside → Expr → Inside
part_inside x scope right inside e = record {
  condition = or_outer (innermost (operand_condition x scope right e)) inside.condition;
  tried = inside.tried;
  may = is_call x e;
}

-- what is found once an expression and its parts are seen
abbrev mutual
  pub expr_walked : Facts → Scope → Reading → Inside → Findings → Expr → Findings
  expr_walked x scope around inside f (Lit at value) = expr_seen x scope around inside f (Lit at value)
  expr_walked x scope around inside f (Name at name) = expr_seen x scope around inside f (Name at name)
  expr_walked x scope around inside f (This at) = expr_seen x scope around inside f (This at)
  expr_walked x scope around inside f (Unary at op a) =
      expr_walked x scope around (part_inside x scope false inside (Unary at op a)) (expr_seen x scope around inside f (Unary at op a)) a
  expr_walked x scope around inside f (Binary at op a b) =
      expr_walked x scope around (part_inside x scope true inside (Binary at op a b)) (expr_walked x scope around (part_inside x scope false inside (Binary at op a b)) (expr_seen x scope around inside f (Binary at op a b)) a) b
  expr_walked x scope around inside f (Field at a name) =
      expr_walked x scope around (part_inside x scope false inside (Field at a name)) (expr_seen x scope around inside f (Field at a name)) a
  expr_walked x scope around inside f (Call at a method args) =
      exprs_walked x scope around (part_inside x scope false inside (Call at a method args)) (expr_walked x scope around (part_inside x scope false inside (Call at a method args)) (expr_seen x scope around inside f (Call at a method args)) a) args
  expr_walked x scope around inside f (Index at a b) =
      expr_walked x scope around (part_inside x scope false inside (Index at a b)) (expr_walked x scope around (part_inside x scope false inside (Index at a b)) (expr_seen x scope around inside f (Index at a b)) a) b
  expr_walked x scope around inside f (New at class args) =
      exprs_walked x scope around (part_inside x scope false inside (New at class args)) (expr_seen x scope around inside f (New at class args)) args
  expr_walked x scope around inside f (Items at item items) =
      exprs_walked x scope around (part_inside x scope false inside (Items at item items)) (expr_seen x scope around inside f (Items at item items)) items
  expr_walked x scope around inside f (Taken at step) = expr_seen x scope around inside f (Taken at step)

  pub exprs_walked : Facts → Scope → Reading → Inside → Findings → Exprs → Findings
  exprs_walked x scope around inside f NoExprs = f
  exprs_walked x scope around inside f (MoreExprs e es) = exprs_walked x scope around inside (expr_walked x scope around inside f e) es

-- what is found once the parts of an expression are seen
abbrev pub parts_walked : Facts → Scope → Reading → Inside → Findings → Expr → Findings
parts_walked x scope around inside f (Lit at value) = f
parts_walked x scope around inside f (Name at name) = f
parts_walked x scope around inside f (This at) = f
parts_walked x scope around inside f (Unary at op a) =
    expr_walked x scope around (part_inside x scope false inside (Unary at op a)) f a
parts_walked x scope around inside f (Binary at op a b) =
    expr_walked x scope around (part_inside x scope true inside (Binary at op a b)) (expr_walked x scope around (part_inside x scope false inside (Binary at op a b)) f a) b
parts_walked x scope around inside f (Field at a name) =
    expr_walked x scope around (part_inside x scope false inside (Field at a name)) f a
parts_walked x scope around inside f (Call at a method args) =
    exprs_walked x scope around (part_inside x scope false inside (Call at a method args)) (expr_walked x scope around (part_inside x scope false inside (Call at a method args)) f a) args
parts_walked x scope around inside f (Index at a b) =
    expr_walked x scope around (part_inside x scope false inside (Index at a b)) (expr_walked x scope around (part_inside x scope false inside (Index at a b)) f a) b
parts_walked x scope around inside f (New at class args) =
    exprs_walked x scope around (part_inside x scope false inside (New at class args)) f args
parts_walked x scope around inside f (Items at item items) =
    exprs_walked x scope around (part_inside x scope false inside (Items at item items)) f items
parts_walked x scope around inside f (Taken at step) = f

-- how what stands around a statement bears on an expression of it, where a remote object may stand or not
abbrev pub whole_inside : Standing → Bool → Inside
whole_inside standing may = record { condition = standing.condition; tried = standing.tried; may = may }

-- and on the condition of a `while`, under which each part of it stands
abbrev pub while_inside : Standing → Expr → Inside
while_inside standing c = record { condition = Some (expr_at c); tried = standing.tried; may = false }

-- what stands around the blocks of an `if`, a `while` or a `for`: what is around it reads, and what its own expression reads
abbrev pub more_around : Facts → Scope → Standing → Expr → Reading
more_around x scope standing e = whole_read x scope standing.around e

-- the condition above a block: that of outside where this one is known to the script
abbrev pub condition_unless : Bool → Option ℕ → Expr → Option ℕ
condition_unless known outer e = cond known outer (Some (expr_at e))

abbrev pub branch_standing : Facts → Scope → Standing → Expr → Stmts → Stmts → Standing
branch_standing x scope standing c a b = record {
  script = standing.script && branches_hold x a b;
  condition = condition_unless (portable x scope c) standing.condition c;
  tried = standing.tried;
  around = more_around x scope standing c;
}

abbrev pub while_standing : Facts → Scope → Standing → Expr → Standing
while_standing x scope standing c = record { script = false; condition = Some (expr_at c); tried = standing.tried; around = more_around x scope standing c }

abbrev pub turn_standing : Facts → Scope → Standing → Expr → Stmts → Standing
turn_standing x scope standing e block = record {
  script = standing.script && has_far_turns x scope e block;
  condition = condition_unless (over_rows x e || is_constant_list scope e) standing.condition e;
  tried = standing.tried;
  around = more_around x scope standing e;
}

-- a `try` reads all that stands in its blocks
abbrev pub try_read : Facts → Scope → ℕ → Stmts → List ℕ → Stmts → Reading
try_read x scope at a name b = block_read x (with_variable scope name Role.Plain at) (block_read x scope nothing a) b

abbrev pub try_standing : Facts → Scope → Standing → ℕ → Stmts → List ℕ → Stmts → Standing
try_standing x scope standing at a name b = record {
  script = false;
  condition = standing.condition;
  tried = true;
  around = joined (try_read x scope at a name b) standing.around;
}

abbrev pub batch_standing : Standing → Standing
batch_standing standing = record { script = false; condition = standing.condition; tried = standing.tried; around = standing.around }

-- the role of a `val`
abbrev pub val_role_in : Facts → Standing → Scope → Expr → Role
val_role_in x standing scope e = cond (standing.script && portable x scope e) Role.Carried Role.Plain

-- what the variable of a loop is, which is over rows or isn't, and whose block is a script place or isn't
abbrev pub turn_role : (rows script : Bool) → Role
turn_role rows script = cond (rows || script) Role.Row Role.Plain

abbrev pub turn_role_in : Facts → Standing → Scope → Expr → Stmts → Role
turn_role_in x standing scope e block = turn_role (over_rows x e) (turn_standing x scope standing e block).script

-- the variables in scope after a statement
abbrev pub scope_then : Facts → Standing → Scope → Stmt → Scope
scope_then x standing scope (Val at name e) = with_variable scope name (val_role_in x standing scope e) at
scope_then x standing scope (Var at name e) = with_variable scope name Role.Plain at
scope_then x standing scope (Assign at a b) = scope
scope_then x standing scope (Run at e) = scope
scope_then x standing scope (Print at e) = scope
scope_then x standing scope (Throw at e) = scope
scope_then x standing scope (If at c a b) = scope
scope_then x standing scope (While at c a) = scope
scope_then x standing scope (For at name e a) = scope
scope_then x standing scope (Try at a name b) = scope
scope_then x standing scope (Batch at interface root a) = scope

-- what is found once the condition of an `if`, that of a `while`, and the list or rows of a `for` are seen
abbrev pub condition_walked : Facts → Standing → Scope → Findings → Expr → Findings
condition_walked x standing scope f c = expr_walked x scope (more_around x scope standing c) (whole_inside standing false) f c

abbrev pub turns_walked : Facts → Standing → Scope → Findings → Expr → Findings
turns_walked x standing scope f c = expr_walked x scope (more_around x scope standing c) (while_inside standing c) f c

abbrev pub list_walked : Facts → Standing → Scope → Findings → Expr → Findings
list_walked x standing scope f e = expr_walked x scope (more_around x scope standing e) (whole_inside standing (over_rows x e)) f e

-- what is found once an outermost expression is seen, where a remote object may stand or not, and both sides of an assignment
abbrev pub own_walked : Facts → Standing → Scope → Bool → Findings → Expr → Findings
own_walked x standing scope may f e = expr_walked x scope standing.around (whole_inside standing may) f e

abbrev pub sides_walked : Facts → Standing → Scope → Findings → Expr → Expr → Findings
sides_walked x standing scope f a b = own_walked x standing scope false (own_walked x standing scope false f a) b

-- what is found once a statement, its expressions and its blocks are seen
abbrev mutual
  pub stmt_walked : Facts → Standing → Scope → Findings → Stmt → Findings
  stmt_walked x standing scope f (Val at name e) = expr_walked x scope standing.around (whole_inside standing standing.script) (stmt_seen x standing scope f (Val at name e)) e
  stmt_walked x standing scope f (Var at name e) = expr_walked x scope standing.around (whole_inside standing true) (stmt_seen x standing scope f (Var at name e)) e
  stmt_walked x standing scope f (Assign at a b) =
      expr_walked x scope standing.around (whole_inside standing false) (expr_walked x scope standing.around (whole_inside standing false) (stmt_seen x standing scope f (Assign at a b)) a) b
  stmt_walked x standing scope f (Run at e) = expr_walked x scope standing.around (whole_inside standing (has_call e)) (stmt_seen x standing scope f (Run at e)) e
  stmt_walked x standing scope f (Print at e) = expr_walked x scope standing.around (whole_inside standing false) (stmt_seen x standing scope f (Print at e)) e
  stmt_walked x standing scope f (Throw at e) = expr_walked x scope standing.around (whole_inside standing false) (stmt_seen x standing scope f (Throw at e)) e
  stmt_walked x standing scope f (If at c a b) =
      block_walked x (branch_standing x scope standing c a b) scope (block_walked x (branch_standing x scope standing c a b) scope
      (condition_walked x standing scope (stmt_seen x standing scope f (If at c a b)) c) a) b
  stmt_walked x standing scope f (While at c a) =
      block_walked x (while_standing x scope standing c) scope (turns_walked x standing scope (stmt_seen x standing scope f (While at c a)) c) a
  stmt_walked x standing scope f (For at name e a) =
      block_walked x (turn_standing x scope standing e a) (with_variable scope name (turn_role_in x standing scope e a) at)
      (list_walked x standing scope (stmt_seen x standing scope f (For at name e a)) e) a
  stmt_walked x standing scope f (Try at a name b) =
      block_walked x (try_standing x scope standing at a name b) (with_variable scope name Role.Plain at) (block_walked x (try_standing x scope standing at a name b) scope (stmt_seen x standing scope f (Try at a name b)) a) b
  stmt_walked x standing scope f (Batch at interface root a) = block_walked x (batch_standing standing) (with_variable scope root Role.Plain at) (stmt_seen x standing scope f (Batch at interface root a)) a

  pub block_walked : Facts → Standing → Scope → Findings → Stmts → Findings
  block_walked x standing scope f NoStmts = f
  block_walked x standing scope f (MoreStmts s ss) = block_walked x standing (scope_then x standing scope s) (stmt_walked x standing scope f s) ss

-- what is found once the expressions and blocks of a statement are seen
abbrev pub within_walked : Facts → Standing → Scope → Findings → Stmt → Findings
within_walked x standing scope f (Val at name e) = expr_walked x scope standing.around (whole_inside standing standing.script) f e
within_walked x standing scope f (Var at name e) = expr_walked x scope standing.around (whole_inside standing true) f e
within_walked x standing scope f (Assign at a b) =
    expr_walked x scope standing.around (whole_inside standing false) (expr_walked x scope standing.around (whole_inside standing false) f a) b
within_walked x standing scope f (Run at e) = expr_walked x scope standing.around (whole_inside standing (has_call e)) f e
within_walked x standing scope f (Print at e) = expr_walked x scope standing.around (whole_inside standing false) f e
within_walked x standing scope f (Throw at e) = expr_walked x scope standing.around (whole_inside standing false) f e
within_walked x standing scope f (If at c a b) =
    block_walked x (branch_standing x scope standing c a b) scope (block_walked x (branch_standing x scope standing c a b) scope (condition_walked x standing scope f c) a) b
within_walked x standing scope f (While at c a) = block_walked x (while_standing x scope standing c) scope (turns_walked x standing scope f c) a
within_walked x standing scope f (For at name e a) =
    block_walked x (turn_standing x scope standing e a) (with_variable scope name (turn_role_in x standing scope e a) at) (list_walked x standing scope f e) a
within_walked x standing scope f (Try at a name b) =
    block_walked x (try_standing x scope standing at a name b) (with_variable scope name Role.Plain at) (block_walked x (try_standing x scope standing at a name b) scope f a) b
within_walked x standing scope f (Batch at interface root a) = block_walked x (batch_standing standing) (with_variable scope root Role.Plain at) f a
