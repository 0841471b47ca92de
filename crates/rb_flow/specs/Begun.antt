-- The outermost batches of a program as they begin, in the order of the walk.
use Rattle.std.specs.Prelude.{ℕ, List, [], ◌∷◌, ◌++◌, true, false}
use Rattle.rb_trees.specs.mirror.Code.{expr_at, Stmt, Stmts, Val, Var, Assign, Run, Print, Throw, If, While, For, Try, Batch, NoStmts, MoreStmts, mirror_stmts}
use Rattle.rb_trees.specs.mirror.Declarations.{Method, Class, Program}
use Rattle.rb_meaning_flow.specs.Facts.{Facts}
use Rattle.rb_meaning_flow.specs.Scopes.{Scope, with_variable, opened}
use Rattle.rb_meaning_flow.specs.Sites.{StmtSite, block_sites}
use Rattle.rb_meaning_flow.specs.Outermost.{Outermost, outer_role, outer_after, parameters}
use Rattle.rb_flow.specs.declared.outermost.OpenBatch.{OpenBatch}

-- a batch as it begins: the variables in scope, and its block
pub record Begun : Type 0 where
  pub scope : Scope
  pub block : Stmts

abbrev pub begun_of : OpenBatch → Begun
begun_of b = record { scope = b.scope; block = mirror_stmts b.block.now }

abbrev pub begun : Outermost → Begun
begun b = record { scope = opened b.outer b.at b.root b.block; block = b.block }

abbrev pub begun_sites : Facts → Begun → List StmtSite
begun_sites x b = block_sites x [] b.scope b.block

-- the batches so far, and one that begins in this scope
abbrev pub with_batch : List Begun → Scope → ℕ → List ℕ → Stmts → List Begun
with_batch bs scope at root a = bs ++ record { scope = opened scope at root a; block = a } ∷ []

-- the batches so far, and those of a statement outside batches
abbrev mutual
  pub stmt_begun : Facts → Scope → List Begun → Stmt → List Begun
  stmt_begun x scope bs (Val at name e) = bs
  stmt_begun x scope bs (Var at name e) = bs
  stmt_begun x scope bs (Assign at a b) = bs
  stmt_begun x scope bs (Run at e) = bs
  stmt_begun x scope bs (Print at e) = bs
  stmt_begun x scope bs (Throw at e) = bs
  stmt_begun x scope bs (If at c a b) = block_begun x scope (block_begun x scope bs a) b
  stmt_begun x scope bs (While at c a) = block_begun x scope bs a
  stmt_begun x scope bs (For at name e a) = block_begun x (with_variable scope name (outer_role (x.items (expr_at e)) (x.lists (expr_at e))) at) bs a
  stmt_begun x scope bs (Try at a name b) = block_begun x (with_variable scope name (outer_role true false) at) (block_begun x scope bs a) b
  stmt_begun x scope bs (Batch at interface root a) = with_batch bs scope at root a

  pub block_begun : Facts → Scope → List Begun → Stmts → List Begun
  block_begun x scope bs NoStmts = bs
  block_begun x scope bs (MoreStmts s ss) = block_begun x (outer_after x scope s) (stmt_begun x scope bs s) ss

-- and those of methods, of classes, and of a program
abbrev pub methods_begun : Facts → List Begun → List Method → List Begun
methods_begun x bs [] = bs
methods_begun x bs (m ∷ ms) = methods_begun x (block_begun x (parameters m.signature.params) bs m.body.statements) ms

abbrev pub classes_begun : Facts → List Begun → List Class → List Begun
classes_begun x bs [] = bs
classes_begun x bs (c ∷ cs) = classes_begun x (methods_begun x bs c.methods) cs

abbrev pub program_begun : Facts → Program → List Begun
program_begun x p = block_begun x [] (classes_begun x [] p.classes) p.body.statements
