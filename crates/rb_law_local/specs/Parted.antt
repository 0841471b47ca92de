-- How remote expressions stand in local code of an admitted batch: each remote call is part of a portable expression, and no
-- object of the service nor rows is read elsewhere.
use Rattle.std.specs.Prelude.{◌≡◌, true, false, Ok}
use Rattle.rb_trees.specs.Outcome.{◌>>=◌}
use Rattle.rb_trees.specs.mirror.Code.{Expr, Exprs, Lit, Name, This, Unary, Binary, Field, Call, Index, New, Items, Taken, NoExprs, MoreExprs, Stmt, Stmts, Val, Var, Assign, Run, Print, Throw, If, While, For, Try, Batch, NoStmts, MoreStmts}
use Rattle.rb_meaning_types.specs.Kinds.{Kind, ListOf}
use Rattle.rb_meaning_types.specs.Declared.{Context}
use Rattle.rb_meaning_types.specs.Scopes as typed
use Rattle.rb_meaning_types.specs.Expressions.{type_of}
use Rattle.rb_meaning_types.specs.Statements.{placed, loop_scope, catch_scope, check_stmt}
use Rattle.rb_meaning_types.specs.Notes.{scope_or}
use Rattle.rb_meaning_flow.specs.Facts.{Facts, is_remote, over_rows}
use Rattle.rb_meaning_flow.specs.Scopes.{Scope}
use Rattle.rb_meaning_flow.specs.Portable.{holds_call, block_holds, branches_hold}
use Rattle.rb_meaning_flow.specs.Marks.{is_portable_call}
use Rattle.rb_meaning_flow.specs.Refusals.{is_and_or}
use Rattle.rb_law_local.specs.Shown.{is_far}

-- of the facts of a program, at a place of a batch with this scope of admission
module _ (f : Facts) (vs : Scope) (x : Context) where
  -- an expression of another type than that of an object of the service or of rows
  abbrev pub IsNear : typed.Scope → Expr → Type 0
  IsNear ws e = (k : Kind) → type_of x ws e ≡ Ok k → is_far x.declared k ≡ false

  -- unless the expression is taken as a whole
  abbrev pub Unless : Expr → Type 0 → Type 0
  Unless e P = is_portable_call f vs e ≡ false → P

  abbrev mutual
    -- Nothing is taken in the right operand of `&&` and `||`, and no other call is remote.
    pub Parted : typed.Scope → Expr → Type 0
    Parted ws (Lit at value) = Unit {0}
    Parted ws (Name at name) = IsNear ws (Name at name)
    Parted ws (This at) = Unit {0}
    Parted ws (Unary at op a) = Unless (Unary at op a) (Parted ws a)
    Parted ws (Binary at op a b) = Unless (Binary at op a b) (Parted ws a × Parted ws b × (is_and_or op ≡ true → holds_call f b ≡ false))
    Parted ws (Field at a name) = Parted ws a
    Parted ws (Call at a method args) = Unless (Call at a method args) ((is_remote f a ≡ false) × Parted ws a × AllParted ws args)
    Parted ws (Index at a b) = Parted ws a × Parted ws b
    Parted ws (New at class args) = AllParted ws args
    Parted ws (Items at item items) = AllParted ws items
    Parted ws (Taken at step) = Unit {0}

    pub AllParted : typed.Scope → Exprs → Type 0
    AllParted ws NoExprs = Unit {0}
    AllParted ws (MoreExprs e es) = Parted ws e × AllParted ws es

  -- a list whose items are near
  abbrev pub HasNearItems : typed.Scope → Expr → Type 0
  HasNearItems ws e = (item : Kind) → type_of x ws e ≡ Ok (ListOf item) → is_far x.declared item ≡ false

  abbrev mutual
    -- No name of the own side is of an object of the service nor of rows, and no remote operation stands in a block.
    pub PartedStmt : typed.Scope → Stmt → Type 0
    PartedStmt ws (Val at name e) = Parted ws e × IsNear ws e
    PartedStmt ws (Var at name e) = Parted ws e × IsNear ws e
    PartedStmt ws (Assign at a b) = Parted ws a × Parted ws b
    PartedStmt ws (Run at e) = Parted ws e
    PartedStmt ws (Print at e) = Parted ws e
    PartedStmt ws (Throw at e) = Parted ws e
    PartedStmt ws (If at c a b) = Parted ws c × (branches_hold f a b ≡ false) × PartedStmts ws a × PartedStmts ws b
    PartedStmt ws (While at c a) = Parted ws c × (holds_call f c ≡ false) × (block_holds f a ≡ false) × PartedStmts ws a
    PartedStmt ws (For at name e a) = Parted ws e × (over_rows f e ≡ false) × HasNearItems ws e × (block_holds f a ≡ false)
        × PartedStmts (scope_or ws (placed x ws e >>= λ p. loop_scope ws at name p)) a
    PartedStmt ws (Try at a name b) = (block_holds f a ≡ false) × (block_holds f b ≡ false) × PartedStmts ws a
        × PartedStmts (scope_or ws (catch_scope ws at name)) b
    PartedStmt ws (Batch at interface root a) = ⊥

    pub PartedStmts : typed.Scope → Stmts → Type 0
    PartedStmts ws NoStmts = Unit {0}
    PartedStmts ws (MoreStmts s ss) = PartedStmt ws s × PartedStmts (scope_or ws (check_stmt x ws s)) ss
