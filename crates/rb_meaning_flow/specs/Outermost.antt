-- The outermost batches of a program, each with the scope in which it stands.
use Rattle.std.specs.Prelude.{ℕ, List, [], ◌∷◌, ◌++◌, map, Bool, true, false, cond}
use Rattle.std.specs.List.{flat_map}
use Rattle.rb_trees.specs.mirror.Code.{expr_at, Stmt, Stmts, Val, Var, Assign, Run, Print, Throw, If, While, For, Try, Batch, NoStmts, MoreStmts}
use Rattle.rb_trees.specs.mirror.Declarations.{Param, Method, Class, Program}
use Rattle.rb_meaning_types.specs.Kinds.{kind_of, is_primitive}
use Rattle.rb_meaning_flow.specs.declared.scopes.Role.{Role}
use Rattle.rb_meaning_flow.specs.declared.scopes.Variable.{Variable}
use Rattle.rb_meaning_flow.specs.Facts.{Facts, has_primitive_items}
use Rattle.rb_meaning_flow.specs.Scopes.{Scope, with_variable, opened}
use Rattle.rb_meaning_flow.specs.Sites.{StmtSite, block_sites}

-- an outermost batch
pub record Outermost : Type 0 where
  pub at : ℕ
  pub outer : Scope
  pub root : List ℕ
  pub block : Stmts

-- the statements of a batch
abbrev pub batch_sites : Facts → Outermost → List StmtSite
batch_sites x b = block_sites x [] (opened b.outer b.at b.root b.block) b.block

-- outside batches a variable counts as constant where it is primitive, or a List of primitives
abbrev pub outer_role : (primitive list : Bool) → Role
outer_role primitive list = cond primitive Role.Constant (cond list Role.ConstantList Role.Plain)

abbrev pub parameter : Param → Variable
parameter p = let kind = kind_of p.kind in record { name = p.name; role = outer_role (is_primitive kind) (has_primitive_items kind); node = p.at }

-- the scope in which a method's body begins
abbrev pub parameters : List Param → Scope
parameters params = map parameter params

-- the scope after a statement outside batches
abbrev pub outer_after : Facts → Scope → Stmt → Scope
outer_after x scope (Val at name e) = with_variable scope name (outer_role (x.primitive (expr_at e)) (x.items (expr_at e))) at
outer_after x scope (Var at name e) = with_variable scope name (outer_role (x.primitive (expr_at e)) (x.items (expr_at e))) at
outer_after x scope _ = scope

-- the outermost batches of a statement outside batches
abbrev mutual
  pub outermost : Facts → Scope → Stmt → List Outermost
  outermost x scope (Val at name e) = []
  outermost x scope (Var at name e) = []
  outermost x scope (Assign at a b) = []
  outermost x scope (Run at e) = []
  outermost x scope (Print at e) = []
  outermost x scope (Throw at e) = []
  outermost x scope (If at c a b) = outermost_in x scope a ++ outermost_in x scope b
  outermost x scope (While at c a) = outermost_in x scope a
  outermost x scope (For at name e a) = outermost_in x (with_variable scope name (outer_role (x.items (expr_at e)) (x.lists (expr_at e))) at) a
  outermost x scope (Try at a name b) = outermost_in x scope a ++ outermost_in x (with_variable scope name (outer_role true false) at) b
  outermost x scope (Batch at interface root a) = record { at = at; outer = scope; root = root; block = a } ∷ []

  pub outermost_in : Facts → Scope → Stmts → List Outermost
  outermost_in x scope NoStmts = []
  outermost_in x scope (MoreStmts s ss) = outermost x scope s ++ outermost_in x (outer_after x scope s) ss

abbrev pub method_batches : Facts → Method → List Outermost
method_batches x m = outermost_in x (parameters m.signature.params) m.body.statements

abbrev pub class_batches : Facts → Class → List Outermost
class_batches x c = flat_map (method_batches x) c.methods

-- those of the bodies of all methods, in source order, then those of `main`
abbrev pub program_batches : Facts → Program → List Outermost
program_batches x p = flat_map (class_batches x) p.classes ++ outermost_in x [] p.body.statements
