-- The flow graph of a batch: its writers, its bad parts, and what each of them reads. A node is a
-- variable, by the position of its declaration, or all objects of the own side together.
use Rattle.std.specs.Prelude.{ℕ, List, [], ◌∷◌, ◌++◌, Bool, false, not, cond, ◌&&◌, ◌||◌}
use Rattle.std.specs.List.{flat_map}
use Rattle.rb_trees.specs.declared.flows.Writer.{Writer}
use Rattle.rb_trees.specs.declared.flows.BadPart.{BadPart}
use Rattle.rb_trees.specs.mirror.Code.{Expr, Exprs, Lit, Name, Unary, Binary, Field, Call, New, NoExprs, MoreExprs, expr_at, Stmt, Val, Var, Assign, Run, If, While, For, Try, NoStmts, MoreStmts}
use Rattle.rb_meaning_flow.specs.Facts.{Facts, is_remote, over_rows}
use Rattle.rb_meaning_flow.specs.Scopes.{Scope, node_of}
use Rattle.rb_meaning_flow.specs.Portable.{portable}
use Rattle.rb_meaning_flow.specs.Sites.{Around, Branch, WhileTurn, Turn, InTry, InBatch, StmtSite, Over, ExprSite, expr_sites, block_sites, exprs_of}

-- the node of all objects of the own side; no declaration stands at position 0
abbrev pub objects : ℕ
objects = 0

abbrev pub is_call : Facts → Expr → Bool
is_call x (Call at a method args) = is_remote x a
is_call x _ = false

-- whether one of the expressions above is a remote call
abbrev pub in_call : Facts → List Over → Bool
in_call x [] = false
in_call x (o ∷ above) = is_call x o.expr || in_call x above

-- the nodes that an expression itself reads: its variable, or the objects at a field or a local call
abbrev pub read_here : Facts → Scope → Expr → List ℕ
read_here x scope (Name at name) = node_of scope name
read_here x scope (Field at a name) = objects ∷ []
read_here x scope (Call at a method args) = cond (is_remote x a) [] (objects ∷ [])
read_here x scope _ = []

abbrev pub reads_of : Facts → ExprSite → List ℕ
reads_of x s = read_here x s.stands.scope s.expr

-- a source: a remote call that isn't part of a receiver or argument of another one
abbrev pub source_of : Facts → ExprSite → List ℕ
source_of x s = cond (is_call x s.expr && not (in_call x s.above)) (expr_at s.expr ∷ []) []

-- what stands around is read too: the expressions of each `if`, `while` and `for`, and all those of each `try`
abbrev pub frame_sites : Facts → Around → List ExprSite
frame_sites x (Branch at scope c a b) = expr_sites (record { around = []; scope = scope; stmt = If at c a b }) [] c
frame_sites x (WhileTurn at scope c) = expr_sites (record { around = []; scope = scope; stmt = While at c NoStmts }) [] c
frame_sites x (Turn at scope list block) = expr_sites (record { around = []; scope = scope; stmt = Run at list }) [] list
frame_sites x (InTry at scope tried name handler) = exprs_of (block_sites x [] scope (MoreStmts (Try at tried name handler) NoStmts))
frame_sites x (InBatch at) = []

-- a writer of a node, which reads expressions of its own and those around
abbrev pub writer : Facts → ℕ → ℕ → List Around → List ExprSite → Writer
writer x at node around mine = record {
  at = at;
  writes = node;
  reads = flat_map (reads_of x) (mine ++ flat_map (frame_sites x) around);
  sources = flat_map (source_of x) (mine ++ flat_map (frame_sites x) around);
}

-- what an assignment writes: the variable, or the objects
abbrev pub assigned_node : Scope → Expr → List ℕ
assigned_node scope (Name at name) = node_of scope name
assigned_node scope _ = objects ∷ []

-- what it reads: the left side only where it is a field
abbrev pub assignment_reads : StmtSite → Expr → Expr → List ExprSite
assignment_reads s (Name at name) b = expr_sites s [] b
assignment_reads s a b = expr_sites s [] a ++ expr_sites s [] b

abbrev pub writers_for : Facts → ℕ → List ℕ → List Around → List ExprSite → List Writer
writers_for x at [] around mine = []
writers_for x at (n ∷ ns) around mine = writer x at n around mine ∷ []

-- the writers among statements: `val`, `var`, assignment, `for`, and `try`, which writes the fault's name
abbrev pub stmt_writers : Facts → StmtSite → Stmt → List Writer
stmt_writers x s (Val at name e) = writer x at at s.around (expr_sites s [] e) ∷ []
stmt_writers x s (Var at name e) = writer x at at s.around (expr_sites s [] e) ∷ []
stmt_writers x s (Assign at a b) = writers_for x at (assigned_node s.scope a) s.around (assignment_reads s a b)
stmt_writers x s (For at name e a) = writer x at at s.around (expr_sites s [] e) ∷ []
stmt_writers x s (Try at a name b) = writer x at at s.around (exprs_of (block_sites x [] s.scope a)) ∷ []
stmt_writers x s _ = []

-- a local call or `new` in a condition stands in that statement, and so reads the whole of it
abbrev pub own_condition : StmtSite → Stmt → List ExprSite
own_condition s (If at c a b) = expr_sites s [] c
own_condition s (While at c a) = expr_sites s [] c
own_condition s (For at name e a) = expr_sites s [] e
own_condition s _ = []

-- the writers among expressions: a local call and `new` write the objects
abbrev pub expr_writers : Facts → ExprSite → Expr → List Writer
expr_writers x s (Call at a method args) = cond (is_remote x a) []
    (writer x at objects s.stands.around (expr_sites s.stands [] (Call at a method args) ++ own_condition s.stands s.stands.stmt) ∷ [])
expr_writers x s (New at class args) =
    writer x at objects s.stands.around (expr_sites s.stands [] (New at class args) ++ own_condition s.stands s.stands.stmt) ∷ []
expr_writers x s _ = []

-- the writers of a batch, whose statements these are
abbrev pub writers : Facts → List StmtSite → List Writer
writers x ss = flat_map (λ s. stmt_writers x s s.stmt) ss ++ flat_map (λ s. expr_writers x s s.expr) (exprs_of ss)

-- the bad parts of an expression, from its root down to what isn't an operator. A remote call is none, and
-- what it is sent itself is looked at where it stands.
abbrev pub bad_in : Facts → Scope → Expr → List Expr
bad_in x scope (Lit at value) = []
bad_in x scope (Name at name) = cond (portable x scope (Name at name)) [] (Name at name ∷ [])
bad_in x scope (Unary at op a) = bad_in x scope a
bad_in x scope (Binary at op a b) = bad_in x scope a ++ bad_in x scope b
bad_in x scope (Call at a method args) = cond (is_remote x a) [] (Call at a method args ∷ [])
bad_in x scope e = e ∷ []

abbrev pub all_bad_in : Facts → Scope → Exprs → List Expr
all_bad_in x scope NoExprs = []
all_bad_in x scope (MoreExprs e es) = bad_in x scope e ++ all_bad_in x scope es

-- what is looked at: receiver and arguments of a remote call, and what a loop over rows goes over
abbrev pub bad_of_call : Facts → Scope → Expr → List Expr
bad_of_call x scope (Call at a method args) = cond (is_remote x a) (bad_in x scope a ++ all_bad_in x scope args) []
bad_of_call x scope _ = []

abbrev pub bad_of_loop : Facts → Scope → Stmt → List Expr
bad_of_loop x scope (For at name e a) = cond (over_rows x e) (bad_in x scope e) []
bad_of_loop x scope _ = []

-- a bad part, with what it reads
abbrev pub bad_part : Facts → StmtSite → Expr → BadPart
bad_part x s e = record {
  at = expr_at e;
  reads = flat_map (reads_of x) (expr_sites s [] e);
  sources = flat_map (source_of x) (expr_sites s [] e);
}

-- the bad parts of a batch, whose statements these are
abbrev pub bad_parts : Facts → List StmtSite → List BadPart
bad_parts x ss = flat_map (λ s. flat_map (λ e. bad_part x s e ∷ []) (bad_of_loop x s.scope s.stmt)) ss
    ++ flat_map (λ s. flat_map (λ e. bad_part x s.stands e ∷ []) (bad_of_call x s.stands.scope s.expr)) (exprs_of ss)
