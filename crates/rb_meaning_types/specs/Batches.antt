-- The batches of a program in source order: they are numbered from 0.
use Rattle.std.specs.Prelude.{ℕ, ◌+◌, List, [], ◌∷◌}
use Rattle.rb_trees.specs.mirror.Code.{Stmt, Stmts, Val, Var, Assign, Run, Print, Throw, If, While, For, Try, Batch, NoStmts, MoreStmts}
use Rattle.rb_trees.specs.mirror.Declarations.{Method, Class, Program}

-- how many batches stand in a statement, it and those in its blocks
abbrev mutual
  pub batches_of : Stmt → ℕ
  batches_of (Val at name e) = 0
  batches_of (Var at name e) = 0
  batches_of (Assign at a b) = 0
  batches_of (Run at e) = 0
  batches_of (Print at e) = 0
  batches_of (Throw at e) = 0
  batches_of (If at c a b) = batches_in a + batches_in b
  batches_of (While at c a) = batches_in a
  batches_of (For at name e a) = batches_in a
  batches_of (Try at a name b) = batches_in a + batches_in b
  batches_of (Batch at interface root a) = 1 + batches_in a

  pub batches_in : Stmts → ℕ
  batches_in NoStmts = 0
  batches_in (MoreStmts s ss) = batches_of s + batches_in ss

abbrev pub method_batches : List Method → ℕ
method_batches [] = 0
method_batches (m ∷ ms) = batches_in m.body.statements + method_batches ms

abbrev pub class_batches : List Class → ℕ
class_batches [] = 0
class_batches (c ∷ cs) = method_batches c.methods + class_batches cs

-- how many batches a program has: those of its methods, then those of `main`
abbrev pub batch_count : Program → ℕ
batch_count p = class_batches p.classes + batches_in p.body.statements
