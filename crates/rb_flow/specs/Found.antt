-- The refusals of a batch that look at one statement or one expression alone, in the order of the walk.
use Rattle.std.specs.Prelude.{ℕ, List, [], ◌∷◌, ◌++◌, Bool, not, cond, ◌&&◌, Option, Some, None}
use Rattle.std.specs.List.{flat_map}
use Rattle.rb_trees.specs.declared.refusals.Refusal.{Refusal}
use Rattle.rb_trees.specs.declared.refusals.Refusal.TheVariants.{UnderLocalCondition, Escapes, BatchInside, InTry, RemoteVar}
use Rattle.rb_trees.specs.mirror.Code.{Expr, expr_at, Stmt, stmt_at}
use Rattle.rb_meaning_flow.specs.Facts.{Facts}
use Rattle.rb_meaning_flow.specs.Sites.{Around, is_script_place, StmtSite, Over, ExprSite, own, all_sites}
use Rattle.rb_meaning_flow.specs.Flow.{is_call, frame_sites}
use Rattle.rb_meaning_flow.specs.Refusals.{has_remote_type, operand_condition, while_condition, frame_condition, any_try, is_rows_loop, is_batch, is_remote_var, calls_remote_method, may_be_remote}
use Rattle.rb_flow.specs.declared.standing.Standing.{Standing}
use Rattle.rb_flow.specs.declared.standing.Inside.{Inside}
use Rattle.rb_flow.specs.Readings.{read_by}

-- the innermost of some conditions
abbrev pub innermost : List ℕ → Option ℕ
innermost [] = None
innermost (p ∷ ps) = Some p

-- how what stands around a statement bears on it
abbrev pub standing_in : Facts → List Around → Standing
standing_in x around = record {
  script = is_script_place x around;
  condition = innermost (flat_map (frame_condition x) around);
  tried = any_try around;
  around = read_by x (flat_map (frame_sites x) around);
}

-- the local conditions above an expression of a statement, the innermost first
abbrev pub conditions_above : Facts → StmtSite → List Over → List ℕ
conditions_above x s above = (flat_map (λ o. operand_condition x s.scope o.right o.expr) above ++ while_condition s.stmt)
    ++ flat_map (frame_condition x) s.around

-- how what stands around an expression of a statement bears on it
abbrev pub inside_at : Facts → StmtSite → List Over → Inside
inside_at x s above = record {
  condition = innermost (conditions_above x s above);
  tried = any_try s.around;
  may = may_be_remote x s above;
}

abbrev pub inside_of : Facts → ExprSite → Inside
inside_of x s = inside_at x s.stands s.above

-- a refusal, where something is so
abbrev pub where_so : Bool → Refusal → List Refusal
where_so is r = cond is (r ∷ []) []

-- the refusal of a remote operation that stands under a local condition
abbrev pub under_found : Option ℕ → ℕ → List Refusal
under_found None at = []
under_found (Some condition) at = UnderLocalCondition condition at ∷ []

-- the refusals of a remote operation at a position
abbrev pub operation_found : Bool → Option ℕ → Bool → ℕ → List Refusal
operation_found is condition tried at = cond is (under_found condition at ++ where_so tried (InTry at)) []

-- the refusals of a statement that stands so
abbrev pub found_at_stmt : Facts → Standing → Stmt → List Refusal
found_at_stmt x standing s =
    operation_found (is_rows_loop x s) standing.condition standing.tried (stmt_at s)
    ++ where_so (is_batch s) (BatchInside (stmt_at s))
    ++ where_so (is_remote_var x s) (RemoteVar (stmt_at s))

-- the refusals of an expression that stands so
abbrev pub found_at_expr : Facts → Inside → Expr → List Refusal
found_at_expr x inside e =
    operation_found (is_call x e) inside.condition inside.tried (expr_at e)
    ++ where_so (has_remote_type x e && not inside.may) (Escapes (expr_at e))
    ++ where_so (calls_remote_method x e) (BatchInside (expr_at e))

abbrev pub stmt_found : Facts → StmtSite → List Refusal
stmt_found x s = found_at_stmt x (standing_in x s.around) s.stmt

abbrev pub expr_found : Facts → ExprSite → List Refusal
expr_found x s = found_at_expr x (inside_of x s) s.expr

-- the refusals of a statement and of its own expressions
abbrev pub site_found : Facts → StmtSite → List Refusal
site_found x s = stmt_found x s ++ flat_map (expr_found x) (all_sites s (own s.stmt))

-- the refusals of some statements and of their expressions
abbrev pub all_found : Facts → List StmtSite → List Refusal
all_found x ss = flat_map (site_found x) ss
