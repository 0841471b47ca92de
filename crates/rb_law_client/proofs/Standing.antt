-- The premises of local code, in a lawful program without refusals: where it stands, and that calls are portable.
use Rattle.std.proofs.Common.{◌≡◌, refl, sym, ap, ◌∙◌, subst, ℕ, List, [], ◌∷◌, ◌++◌, Bool as Truth, true, false, cond, ◌&&◌, Option, Some, None}
use Rattle.std.specs.List.{All, AllByRecursion, Contains}
use Rattle.std.proofs.lemmas.List.Elements.{All-nil, All-cons}
use Rattle.rb_trees.specs.mirror.Code.{Expr, Exprs, Lit, Name, This, Unary, Binary, Field, Call, Index, New, Items, Taken, NoExprs, MoreExprs, Stmt, Stmts, Val, Var, Assign, Run, Print, Throw, If, While, For, Try, Batch, NoStmts, MoreStmts, stmt_at}
use Rattle.rb_trees.specs.mirror.Declarations.{Body, Method, Class, Program}
use Rattle.rb_meaning_types.specs.Lawful.{IsLawful, expr_positions, exprs_positions, return_positions}
use Rattle.rb_meaning_flow.specs.declared.scopes.Role.{Role}
use Rattle.rb_meaning_flow.specs.Facts.{Facts, facts_of}
use Rattle.rb_meaning_flow.specs.Flow.{is_call}
use Rattle.rb_meaning_flow.specs.Scopes.{Scope, with_variable, opened}
use Rattle.rb_meaning_flow.specs.Portable.{portable, all_portable}
use Rattle.rb_meaning_flow.specs.Sites.{Around, Branch, WhileTurn, Turn, InTry, InBatch, StmtSite, turn_role, scope_after, sites, block_sites}
use Rattle.rb_meaning_flow.specs.Outermost.{Outermost, batch_sites, program_batches}
use Rattle.rb_meaning.specs.Unsplit.{stands_remote}
use Rattle.rb_marks.specs.Laws.{EachHasItsMark, NoMarkElsewhere}
use Rattle.rb_flow.specs.Laws.{SendsPortable, sent_by_call, items_of}
use Rattle.rb_flow.proofs.Among.{mapped_to}
use Rattle.rb_flow.proofs.Members.{first_contained, more_contained}
use Rattle.rb_law_unsplit.specs.CarriedLoops.{stmt_outside, stmts_outside, body_outside, methods_outside, classes_outside, IsUncarriedAt, LawfulHaveCarriedLoops}
use Rattle.rb_law_local.specs.Local.{IsLocalAt, IsPlainAt}
use Rattle.rb_law_local.specs.Placed.{PlacedExpr, PlacedExprs, PlacedStmt, PlacedStmts, PlacedReturn, PlacedBody, PlacedMethod, PlacedClass, PlacedClasses}
use Rattle.rb_law_local.specs.Admitted.{CallsArePortable}
use Rattle.rb_law_local.specs.Marked.{HasMarks}
use Rattle.rb_law_division.proofs.Lists.{each, all_both, all_left, all_right}
use Rattle.rb_law_division.proofs.Parted.{stmt_ats, stmts_ats, free_at, free_in, free_body, free_methods, free_classes}
use Rattle.rb_law_division.proofs.Unmarked.{Unmarked, free_unmarked, block_unmarked}

module _ (p : Program) where
  abbrev Here : ℕ → Type 0
  Here at = IsPlainAt p at

  -- positions of local code
  abbrev Plain : List ℕ → Type 0
  Plain xs = AllByRecursion Here xs

  left : (xs ys : List ℕ) → Plain (xs ++ ys) → Plain xs
  left xs ys h = all_left Here xs ys h

  right : (xs ys : List ℕ) → Plain (xs ++ ys) → Plain ys
  right xs ys h = all_right Here xs ys h

  unmarked_left : (xs ys : List ℕ) → Unmarked p (xs ++ ys) → Unmarked p xs
  unmarked_left xs ys h = all_left (λ q. stands_remote p q ≡ false) xs ys h

  unmarked_right : (xs ys : List ℕ) → Unmarked p (xs ++ ys) → Unmarked p ys
  unmarked_right xs ys h = all_right (λ q. stands_remote p q ≡ false) xs ys h

  unmarked_both : (xs ys : List ℕ) → Unmarked p xs → Unmarked p ys → Unmarked p (xs ++ ys)
  unmarked_both xs ys h g = all_both (λ q. stands_remote p q ≡ false) xs ys h g

  -- ---- positions outside of batches

  mutual
    stmt_unmarked : (s : Stmt) → Unmarked p (free_at s) → Unmarked p (stmt_outside s)
    stmt_unmarked (Val at name e) u = u
    stmt_unmarked (Var at name e) u = u
    stmt_unmarked (Assign at a b) u = u
    stmt_unmarked (Run at e) u = u
    stmt_unmarked (Print at e) u = u
    stmt_unmarked (Throw at e) u = u
    stmt_unmarked (If at c a b) u =
        let front = unmarked_left (expr_positions c ++ free_in a) (free_in b) u.1 in
        let first = unmarked_both (expr_positions c) (stmts_outside a) (unmarked_left (expr_positions c) (free_in a) front) (stmts_unmarked a (unmarked_right (expr_positions c) (free_in a) front)) in
        (u.0, unmarked_both (expr_positions c ++ stmts_outside a) (stmts_outside b) first (stmts_unmarked b (unmarked_right (expr_positions c ++ free_in a) (free_in b) u.1)))
    stmt_unmarked (While at c a) u =
        (u.0, unmarked_both (expr_positions c) (stmts_outside a) (unmarked_left (expr_positions c) (free_in a) u.1) (stmts_unmarked a (unmarked_right (expr_positions c) (free_in a) u.1)))
    stmt_unmarked (For at name e a) u =
        (u.0, unmarked_both (expr_positions e) (stmts_outside a) (unmarked_left (expr_positions e) (free_in a) u.1) (stmts_unmarked a (unmarked_right (expr_positions e) (free_in a) u.1)))
    stmt_unmarked (Try at a name b) u =
        (u.0, unmarked_both (stmts_outside a) (stmts_outside b) (stmts_unmarked a (unmarked_left (free_in a) (free_in b) u.1)) (stmts_unmarked b (unmarked_right (free_in a) (free_in b) u.1)))
    stmt_unmarked (Batch at interface root a) u = (u.0, tt)

    stmts_unmarked : (ss : Stmts) → Unmarked p (free_in ss) → Unmarked p (stmts_outside ss)
    stmts_unmarked NoStmts u = tt
    stmts_unmarked (MoreStmts s ss) u =
        unmarked_both (stmt_outside s) (stmts_outside ss) (stmt_unmarked s (unmarked_left (free_at s) (free_in ss) u)) (stmts_unmarked ss (unmarked_right (free_at s) (free_in ss) u))

  body_unmarked : (b : Body) → Unmarked p (free_body b) → Unmarked p (body_outside b)
  body_unmarked b u =
      unmarked_both (stmts_outside b.statements) (return_positions b.result) (stmts_unmarked b.statements (unmarked_left (free_in b.statements) (return_positions b.result) u))
      (unmarked_right (free_in b.statements) (return_positions b.result) u)

  methods_unmarked : (ms : List Method) → Unmarked p (free_methods ms) → Unmarked p (methods_outside ms)
  methods_unmarked [] u = tt
  methods_unmarked (m ∷ ms) u =
      unmarked_both (body_outside m.body) (methods_outside ms) (body_unmarked m.body (unmarked_left (free_body m.body) (free_methods ms) u)) (methods_unmarked ms (unmarked_right (free_body m.body) (free_methods ms) u))

  classes_unmarked : (cs : List Class) → Unmarked p (free_classes cs) → Unmarked p (classes_outside cs)
  classes_unmarked [] u = tt
  classes_unmarked (k ∷ cs) u =
      unmarked_both (methods_outside k.methods) (classes_outside cs) (methods_unmarked k.methods (unmarked_left (free_methods k.methods) (free_classes cs) u))
      (classes_unmarked cs (unmarked_right (free_methods k.methods) (free_classes cs) u))

  -- where no mark stands and no carried loop
  plain_of : (xs : List ℕ) → Unmarked p xs → AllByRecursion (IsUncarriedAt p) xs → Plain xs
  plain_of [] u k = tt
  plain_of (x ∷ xs) u k = ((u.0, k.0), plain_of xs u.1 k.1)

  -- ---- the methods of a program

  abbrev none : Expr → Truth
  none e = false

  mutual
    expr_placed : (e : Expr) → Plain (expr_positions e) → PlacedExpr Here none e
    expr_placed (Lit at v) u = tt
    expr_placed (Name at name) u = u.0
    expr_placed (This at) u = u.0
    expr_placed (Unary at op a) u = λ t. (u.0, expr_placed a u.1)
    expr_placed (Binary at op a b) u = λ t. (u.0, expr_placed a (left (expr_positions a) (expr_positions b) u.1), expr_placed b (right (expr_positions a) (expr_positions b) u.1))
    expr_placed (Field at a name) u = (u.0, expr_placed a u.1)
    expr_placed (Call at a method args) u = λ t. (u.0, expr_placed a (left (expr_positions a) (exprs_positions args) u.1), exprs_placed args (right (expr_positions a) (exprs_positions args) u.1))
    expr_placed (Index at a b) u = (u.0, expr_placed a (left (expr_positions a) (expr_positions b) u.1), expr_placed b (right (expr_positions a) (expr_positions b) u.1))
    expr_placed (New at class args) u = (u.0, exprs_placed args u.1)
    expr_placed (Items at item items) u = (u.0, exprs_placed items u.1)
    expr_placed (Taken at step) u = tt

    exprs_placed : (es : Exprs) → Plain (exprs_positions es) → PlacedExprs Here none es
    exprs_placed NoExprs u = tt
    exprs_placed (MoreExprs e es) u = (expr_placed e (left (expr_positions e) (exprs_positions es) u), exprs_placed es (right (expr_positions e) (exprs_positions es) u))

  mutual
    stmt_placed : (s : Stmt) → Plain (stmt_outside s) → PlacedStmt Here none s
    stmt_placed (Val at name e) u = expr_placed e u.1
    stmt_placed (Var at name e) u = expr_placed e u.1
    stmt_placed (Assign at a b) u = (u.0, expr_placed a (left (expr_positions a) (expr_positions b) u.1), expr_placed b (right (expr_positions a) (expr_positions b) u.1))
    stmt_placed (Run at e) u = expr_placed e u.1
    stmt_placed (Print at e) u = (u.0, expr_placed e u.1)
    stmt_placed (Throw at e) u = (u.0, expr_placed e u.1)
    stmt_placed (If at c a b) u =
        let front = left (expr_positions c ++ stmts_outside a) (stmts_outside b) u.1 in
        (u.0, expr_placed c (left (expr_positions c) (stmts_outside a) front), stmts_placed a (right (expr_positions c) (stmts_outside a) front), stmts_placed b (right (expr_positions c ++ stmts_outside a) (stmts_outside b) u.1))
    stmt_placed (While at c a) u = (u.0, expr_placed c (left (expr_positions c) (stmts_outside a) u.1), stmts_placed a (right (expr_positions c) (stmts_outside a) u.1))
    stmt_placed (For at name e a) u = (u.0, expr_placed e (left (expr_positions e) (stmts_outside a) u.1), stmts_placed a (right (expr_positions e) (stmts_outside a) u.1))
    stmt_placed (Try at a name b) u = (stmts_placed a (left (stmts_outside a) (stmts_outside b) u.1), stmts_placed b (right (stmts_outside a) (stmts_outside b) u.1))
    stmt_placed (Batch at interface root a) u = tt

    stmts_placed : (ss : Stmts) → Plain (stmts_outside ss) → PlacedStmts Here none ss
    stmts_placed NoStmts u = tt
    stmts_placed (MoreStmts s ss) u = (stmt_placed s (left (stmt_outside s) (stmts_outside ss) u), stmts_placed ss (right (stmt_outside s) (stmts_outside ss) u))

  return_placed : (r : Option Expr) → Plain (return_positions r) → PlacedReturn Here none r
  return_placed None u = tt
  return_placed (Some e) u = expr_placed e u

  body_placed : (b : Body) → Plain (body_outside b) → PlacedBody Here none b
  body_placed b u = (stmts_placed b.statements (left (stmts_outside b.statements) (return_positions b.result) u), return_placed b.result (right (stmts_outside b.statements) (return_positions b.result) u))

  methods_placed : (ms : List Method) → Plain (methods_outside ms) → All (PlacedMethod Here none) ms
  methods_placed [] u = All-nil (PlacedMethod Here none)
  methods_placed (m ∷ ms) u = All-cons (PlacedMethod Here none) m ms (body_placed m.body (left (body_outside m.body) (methods_outside ms) u)) (methods_placed ms (right (body_outside m.body) (methods_outside ms) u))

  classes_placed : (cs : List Class) → Plain (classes_outside cs) → All (PlacedClass Here none) cs
  classes_placed [] u = All-nil (PlacedClass Here none)
  classes_placed (k ∷ cs) u = All-cons (PlacedClass Here none) k cs (methods_placed k.methods (left (methods_outside k.methods) (classes_outside cs) u)) (classes_placed cs (right (methods_outside k.methods) (classes_outside cs) u))

  pub placed_classes : NoMarkElsewhere → LawfulHaveCarriedLoops → IsLawful p → PlacedClasses Here p.classes
  placed_classes elsewhere loops lawful =
      classes_placed p.classes
      (plain_of (classes_outside p.classes) (classes_unmarked p.classes (unmarked_left (free_classes p.classes) (free_body p.body) (free_unmarked elsewhere p lawful))) (loops p lawful).classes)

  -- ---- the statements of a batch

  abbrev f : Facts
  f = facts_of p

  abbrev StmtHere : StmtSite → Type 0
  StmtHere t = IsLocalAt p (stmt_at t.stmt)

  mutual
    sites_here : (s : Stmt) (around : List Around) (vs : Scope) → Unmarked p (stmt_ats s) → AllByRecursion StmtHere (sites f around vs s)
    sites_here (Val at name e) around vs u = (u.0, tt)
    sites_here (Var at name e) around vs u = (u.0, tt)
    sites_here (Assign at a b) around vs u = (u.0, tt)
    sites_here (Run at e) around vs u = (u.0, tt)
    sites_here (Print at e) around vs u = (u.0, tt)
    sites_here (Throw at e) around vs u = (u.0, tt)
    sites_here (If at c a b) around vs u =
        let frame = Branch at vs c a b ∷ around in
        (u.0, all_both StmtHere (block_sites f frame vs a) (block_sites f frame vs b) (blocks_here a frame vs (unmarked_left (stmts_ats a) (stmts_ats b) u.1)) (blocks_here b frame vs (unmarked_right (stmts_ats a) (stmts_ats b) u.1)))
    sites_here (While at c a) around vs u = (u.0, blocks_here a (WhileTurn at vs c ∷ around) vs u.1)
    sites_here (For at name e a) around vs u = (u.0, blocks_here a (Turn at vs e a ∷ around) (with_variable vs name (turn_role f around vs e a) at) u.1)
    sites_here (Try at a name b) around vs u =
        let frame = InTry at vs a name b ∷ around in
        let caught = with_variable vs name Role.Plain at in
        (u.0, all_both StmtHere (block_sites f frame vs a) (block_sites f frame caught b) (blocks_here a frame vs (unmarked_left (stmts_ats a) (stmts_ats b) u.1)) (blocks_here b frame caught (unmarked_right (stmts_ats a) (stmts_ats b) u.1)))
    sites_here (Batch at interface root a) around vs u = (u.0, blocks_here a (InBatch at ∷ around) (with_variable vs root Role.Plain at) u.1)

    blocks_here : (ss : Stmts) (around : List Around) (vs : Scope) → Unmarked p (stmts_ats ss) → AllByRecursion StmtHere (block_sites f around vs ss)
    blocks_here NoStmts around vs u = tt
    blocks_here (MoreStmts s ss) around vs u =
        all_both StmtHere (sites f around vs s) (block_sites f around (scope_after f around vs s) ss) (sites_here s around vs (unmarked_left (stmt_ats s) (stmts_ats ss) u)) (blocks_here ss around (scope_after f around vs s) (unmarked_right (stmt_ats s) (stmts_ats ss) u))

  pub batch_marks : EachHasItsMark → NoMarkElsewhere → LawfulHaveCarriedLoops → IsLawful p → (b : Outermost) → Contains (program_batches f p) b → HasMarks p (batch_sites f b)
  batch_marks marks elsewhere loops lawful b among = record {
    exprs = λ s is. marks p lawful s (record { batch = batch_sites f b; is_batch = mapped_to (batch_sites f) (program_batches f p) b among; stands = is });
    stmts = λ s is. each StmtHere (batch_sites f b) s (blocks_here b.block [] (opened b.outer b.at b.root b.block) (block_unmarked p (free_unmarked elsewhere p lawful) b among)) is;
    loops = λ s is. (loops p lawful).loops (batch_sites f b) (mapped_to (batch_sites f) (program_batches f p) b among) s is;
    uncarried = λ s is. (loops p lawful).exprs (batch_sites f b) (mapped_to (batch_sites f) (program_batches f p) b among) s is;
  }

  -- ---- calls

  all_of : (vs : Scope) (es : Exprs) → ((e : Expr) → Contains (items_of es) e → portable f vs e ≡ true) → all_portable f vs es ≡ true
  all_of vs NoExprs h = refl
  all_of vs (MoreExprs e es) h = ap (λ t. t && all_portable f vs es) (h e (first_contained e (items_of es))) ∙ all_of vs es (λ q is. h q (more_contained e (items_of es) q is))

  pub calls_portable : (ss : List StmtSite) → SendsPortable f ss → CallsArePortable f ss
  calls_portable ss sends s is call = by s.expr refl call
    where
      by : (e : Expr) → s.expr ≡ e → is_call f e ≡ true → portable f s.stands.scope e ≡ true
      by (Call at a method args) same remote =
          let sent : (q : Expr) → Contains (a ∷ items_of args) q → portable f s.stands.scope q ≡ true =
          λ q among. sends.calls s is q (subst (λ z. Contains (sent_by_call f z) q) (sym same) (subst (λ t. Contains (cond t (a ∷ items_of args) []) q) (sym remote) among)) in
          ap (λ t. (t && portable f s.stands.scope a) && all_portable f s.stands.scope args) remote
          ∙ ap (λ t. t && all_portable f s.stands.scope args) (sent a (first_contained a (items_of args)))
          ∙ all_of s.stands.scope args (λ q among. sent q (more_contained a (items_of args) q among))
      by (Lit at v) same remote = absurd (cc (remote))
      by _ same remote = absurd (cc (remote))
