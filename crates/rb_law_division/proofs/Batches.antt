-- The batches of a lawful program.
use Rattle.std.proofs.Common.{◌+◌, ◌≤◌, List, [], ◌∷◌, true, false, arith}
use Rattle.std.specs.List.{AllByRecursion, Contains, flat_map}
use Rattle.rb_trees.specs.mirror.Code.{expr_at, Stmt, Stmts, Val, Var, Assign, Run, Print, Throw, If, While, For, Try, Batch, NoStmts, MoreStmts}
use Rattle.rb_trees.specs.mirror.Declarations.{Body, Method, Class, Program}
use Rattle.rb_meaning_types.specs.Lawful.{stmt_depth, stmts_depth, IsLawful, IsLawfulBody, IsShallowBody, IsLawfulClass, IsShallowClass, IsLawfulMethod, stmts_positions, return_positions, body_positions, methods_positions, classes_positions}
use Rattle.rb_meaning_flow.specs.Facts.{Facts, facts_of}
use Rattle.rb_meaning_flow.specs.Scopes.{Scope, with_variable}
use Rattle.rb_meaning_flow.specs.Outermost.{Outermost, outer_role, outer_after, outermost, outermost_in, parameters, method_batches, class_batches, program_batches}
use Rattle.rb_law_division.specs.Sendable.{HasPlaces}
use Rattle.rb_law_types.specs.Scripts.{IsPlace}
use Rattle.rb_law_unsplit.proofs.Standing.{block_lawful}
use Rattle.rb_law_division.proofs.Lists.{each, all_both, all_left, all_right, recursively}
use Rattle.rb_law_division.proofs.Carriable.{StmtCarriable, StmtsCarriable, Places, lawful_stmts}

-- a batch whose block can be carried, within at most 63 blocks
abbrev pub BatchCarriable : Outermost → Type 0
BatchCarriable b = StmtsCarriable b.block × (1 + stmts_depth b.block ≤ 64)

module _ (x : Facts) where
  mutual
    stmt_batches : (scope : Scope) (s : Stmt) → StmtCarriable s → stmt_depth s ≤ 63 → AllByRecursion BatchCarriable (outermost x scope s)
    stmt_batches scope (Val at name e) h d = tt
    stmt_batches scope (Var at name e) h d = tt
    stmt_batches scope (Assign at a b) h d = tt
    stmt_batches scope (Run at e) h d = tt
    stmt_batches scope (Print at e) h d = tt
    stmt_batches scope (Throw at e) h d = tt
    stmt_batches scope (If at c a b) h d =
        all_both BatchCarriable (outermost_in x scope a) (outermost_in x scope b) (stmts_batches scope a h.2 (omega arith)) (stmts_batches scope b h.3 (omega arith))
    stmt_batches scope (While at c a) h d = stmts_batches scope a h.2 (omega arith)
    stmt_batches scope (For at name e a) h d = stmts_batches (with_variable scope name (outer_role (x.items (expr_at e)) (x.lists (expr_at e))) at) a h.2 (omega arith)
    stmt_batches scope (Try at a name b) h d =
        all_both BatchCarriable (outermost_in x scope a) (outermost_in x (with_variable scope name (outer_role true false) at) b)
        (stmts_batches scope a h.1 (omega arith)) (stmts_batches (with_variable scope name (outer_role true false) at) b h.2 (omega arith))
    stmt_batches scope (Batch at interface root a) h d = ((h.1, omega arith), tt)

    stmts_batches : (scope : Scope) (ss : Stmts) → StmtsCarriable ss → stmts_depth ss ≤ 63 → AllByRecursion BatchCarriable (outermost_in x scope ss)
    stmts_batches scope NoStmts h d = tt
    stmts_batches scope (MoreStmts s ss) h d =
        all_both BatchCarriable (outermost x scope s) (outermost_in x (outer_after x scope s) ss) (stmt_batches scope s h.0 (omega arith)) (stmts_batches (outer_after x scope s) ss h.1 (omega arith))

  -- a body, lawful and shallow, with its positions
  body_batches : (scope : Scope) (b : Body) → IsLawfulBody b → IsShallowBody b → Places (body_positions b) → AllByRecursion BatchCarriable (outermost_in x scope b.statements)
  body_batches scope b l d p =
      stmts_batches scope b.statements (lawful_stmts b.statements (block_lawful b.statements l.0) d.0 (all_left IsPlace (stmts_positions b.statements) (return_positions b.result) p)) (omega (arith, d.2))

  methods_done : (ms : List Method) → AllByRecursion IsLawfulMethod ms → AllByRecursion (λ m. IsShallowBody m.body) ms → Places (methods_positions ms) → AllByRecursion BatchCarriable (flat_map (method_batches x) ms)
  methods_done [] l d p = tt
  methods_done (m ∷ ms) l d p =
      all_both BatchCarriable (method_batches x m) (flat_map (method_batches x) ms)
      (body_batches (parameters m.signature.params) m.body l.0.1 d.0 (all_left IsPlace (body_positions m.body) (methods_positions ms) p))
      (methods_done ms l.1 d.1 (all_right IsPlace (body_positions m.body) (methods_positions ms) p))

  classes_done : (cs : List Class) → AllByRecursion IsLawfulClass cs → AllByRecursion IsShallowClass cs → Places (classes_positions cs) → AllByRecursion BatchCarriable (flat_map (class_batches x) cs)
  classes_done [] l d p = tt
  classes_done (c ∷ cs) l d p =
      all_both BatchCarriable (class_batches x c) (flat_map (class_batches x) cs)
      (methods_done c.methods (recursively IsLawfulMethod c.methods l.0.3) (recursively (λ m. IsShallowBody m.body) c.methods d.0) (all_left IsPlace (methods_positions c.methods) (classes_positions cs) p))
      (classes_done cs l.1 d.1 (all_right IsPlace (methods_positions c.methods) (classes_positions cs) p))

pub batches_carriable : (p : Program) → IsLawful p → HasPlaces p → (b : Outermost) → Contains (program_batches (facts_of p) p) b → BatchCarriable b
batches_carriable p l places b is =
    each BatchCarriable (program_batches (facts_of p) p) b
    (all_both BatchCarriable (flat_map (class_batches (facts_of p)) p.classes) (outermost_in (facts_of p) [] p.body.statements)
    (classes_done (facts_of p) p.classes (recursively IsLawfulClass p.classes l.classes) (recursively IsShallowClass p.classes l.class_depths) (all_left IsPlace (classes_positions p.classes) (body_positions p.body) places))
    (body_batches (facts_of p) [] p.body l.body l.body_depth (all_right IsPlace (classes_positions p.classes) (body_positions p.body) places))) is
