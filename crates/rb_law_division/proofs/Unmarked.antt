-- Positions that aren't marked Remote: those of all code but the Remote expressions of batches.
use Rattle.std.proofs.Common.{◌≡◌, sym, ap, ◌∙◌, ℕ, List, [], ◌∷◌, ◌++◌, map, true, false, nat_eq}
use Rattle.std.specs.List.{AllByRecursion, Contains, flat_map}
use Rattle.std.proofs.lemmas.Bool.{eq-eqb}
use Rattle.rb_trees.specs.mirror.Code.{Expr, Exprs, Lit, Name, This, Unary, Binary, Field, Call, Index, New, Items, Taken, NoExprs, MoreExprs, expr_at, Stmt, Stmts, Val, Var, Assign, Run, Print, Throw, If, While, For, Try, Batch, NoStmts, MoreStmts}
use Rattle.rb_trees.specs.mirror.Declarations.{Method, Class, Program}
use Rattle.rb_meaning_types.specs.Lawful.{IsLawful, expr_positions, exprs_positions}
use Rattle.rb_meaning_flow.specs.declared.scopes.Role.{Role}
use Rattle.rb_meaning_flow.specs.Facts.{Facts, facts_of}
use Rattle.rb_meaning_flow.specs.Scopes.{Scope, with_variable, opened}
use Rattle.rb_meaning_flow.specs.Sites.{Around, Branch, WhileTurn, Turn, InTry, InBatch, StmtSite, Over, ExprSite, under, right_under, expr_sites, exprs_sites, own, all_sites, turn_role, scope_after, stmt_site, sites, block_sites, exprs_of}
use Rattle.rb_meaning_flow.specs.Outermost.{Outermost, batch_sites, outer_role, outer_after, outermost, outermost_in, parameters, method_batches, class_batches, program_batches}
use Rattle.rb_meaning_flow.specs.Programs.{sites_of}
use Rattle.rb_meaning.specs.Unsplit.{is_remote_mark, stands_remote}
use Rattle.rb_marks.specs.Laws.{InBatches, NoMarkElsewhere}
use Rattle.rb_law_unsplit.proofs.Positions.{Apart, EachApart, apart_left, apart_right}
use Rattle.rb_law_division.proofs.Lists.{each, all_both, all_left, all_right}
use Rattle.rb_law_division.proofs.Parted.{stmts_ats, expr_ats, exprs_ats, free_at, free_in, batch_at, batch_in, free_body, free_methods, free_classes, batch_methods, batch_classes, free_ats, batch_ats, program_parted}

-- ---- no expression of a batch stands at a position that is none of theirs

abbrev OtherSites : ℕ → List ExprSite → Type 0
OtherSites q xs = AllByRecursion (λ s. nat_eq (expr_at s.expr) q ≡ false) xs

abbrev Other : ℕ → StmtSite → Type 0
Other q s = OtherSites q (all_sites s (own s.stmt))

other_two : (q : ℕ) (xs ys : List ExprSite) → OtherSites q xs → OtherSites q ys → OtherSites q (xs ++ ys)
other_two q xs ys h g = all_both (λ s. nat_eq (expr_at s.expr) q ≡ false) xs ys h g

mutual
  other_expr : (q : ℕ) (st : StmtSite) (above : List Over) (e : Expr) → Apart q (expr_positions e) → OtherSites q (expr_sites st above e)
  other_expr q st above (Lit at value) h = h
  other_expr q st above (Name at name) h = h
  other_expr q st above (This at) h = h
  other_expr q st above (Unary at op a) h = (h.0, other_expr q st (under (Unary at op a) above) a h.1)
  other_expr q st above (Binary at op a b) h = (
    h.0,
    other_two q (expr_sites st (under (Binary at op a b) above) a) (expr_sites st (right_under (Binary at op a b) above) b)
        (other_expr q st (under (Binary at op a b) above) a (apart_left q (expr_positions a) (expr_positions b) h.1)) (other_expr q st (right_under (Binary at op a b) above) b (apart_right q (expr_positions a) (expr_positions b) h.1)),
  )
  other_expr q st above (Field at a name) h = (h.0, other_expr q st (under (Field at a name) above) a h.1)
  other_expr q st above (Call at a method args) h =
      let o = under (Call at a method args) above in
      (h.0, other_two q (expr_sites st o a) (exprs_sites st o args) (other_expr q st o a (apart_left q (expr_positions a) (exprs_positions args) h.1)) (other_exprs q st o args (apart_right q (expr_positions a) (exprs_positions args) h.1)))
  other_expr q st above (Index at a b) h =
      let o = under (Index at a b) above in
      (h.0, other_two q (expr_sites st o a) (expr_sites st o b) (other_expr q st o a (apart_left q (expr_positions a) (expr_positions b) h.1)) (other_expr q st o b (apart_right q (expr_positions a) (expr_positions b) h.1)))
  other_expr q st above (New at class args) h = (h.0, other_exprs q st (under (New at class args) above) args h.1)
  other_expr q st above (Items at item items) h = (h.0, other_exprs q st (under (Items at item items) above) items h.1)
  other_expr q st above (Taken at step) h = h

  other_exprs : (q : ℕ) (st : StmtSite) (above : List Over) (es : Exprs) → Apart q (exprs_positions es) → OtherSites q (exprs_sites st above es)
  other_exprs q st above NoExprs h = tt
  other_exprs q st above (MoreExprs e es) h =
      other_two q (expr_sites st above e) (exprs_sites st above es) (other_expr q st above e (apart_left q (expr_positions e) (exprs_positions es) h)) (other_exprs q st above es (apart_right q (expr_positions e) (exprs_positions es) h))

module _ (f : Facts) (q : ℕ) where
  abbrev Others : List StmtSite → Type 0
  Others xs = AllByRecursion (Other q) xs

  one_other : (st : StmtSite) (e : Expr) → Apart q (expr_positions e) → OtherSites q (all_sites st (e ∷ []))
  one_other st e h = other_two q (expr_sites st [] e) [] (other_expr q st [] e h) tt

  mutual
    other_sites : (around : List Around) (vs : Scope) (s : Stmt) → Apart q (expr_ats s) → Others (sites f around vs s)
    other_sites around vs (Val at name e) h = (one_other (stmt_site around vs (Val at name e)) e h, tt)
    other_sites around vs (Var at name e) h = (one_other (stmt_site around vs (Var at name e)) e h, tt)
    other_sites around vs (Assign at a b) h =
        let st = stmt_site around vs (Assign at a b) in
        (other_two q (expr_sites st [] a) (all_sites st (b ∷ [])) (other_expr q st [] a (apart_left q (expr_positions a) (expr_positions b) h)) (one_other st b (apart_right q (expr_positions a) (expr_positions b) h)), tt)
    other_sites around vs (Run at e) h = (one_other (stmt_site around vs (Run at e)) e h, tt)
    other_sites around vs (Print at e) h = (one_other (stmt_site around vs (Print at e)) e h, tt)
    other_sites around vs (Throw at e) h = (one_other (stmt_site around vs (Throw at e)) e h, tt)
    other_sites around vs (If at c a b) h =
        let front = apart_left q (expr_positions c ++ exprs_ats a) (exprs_ats b) h in
        let frame = Branch at vs c a b ∷ around in (
          one_other (stmt_site around vs (If at c a b)) c (apart_left q (expr_positions c) (exprs_ats a) front),
          all_both (Other q) (block_sites f frame vs a) (block_sites f frame vs b)
              (other_block frame vs a (apart_right q (expr_positions c) (exprs_ats a) front)) (other_block frame vs b (apart_right q (expr_positions c ++ exprs_ats a) (exprs_ats b) h)),
        )
    other_sites around vs (While at c a) h =
        (one_other (stmt_site around vs (While at c a)) c (apart_left q (expr_positions c) (exprs_ats a) h), other_block (WhileTurn at vs c ∷ around) vs a (apart_right q (expr_positions c) (exprs_ats a) h))
    other_sites around vs (For at name e a) h = (
      one_other (stmt_site around vs (For at name e a)) e (apart_left q (expr_positions e) (exprs_ats a) h),
      other_block (Turn at vs e a ∷ around) (with_variable vs name (turn_role f around vs e a) at) a (apart_right q (expr_positions e) (exprs_ats a) h),
    )
    other_sites around vs (Try at a name b) h =
        let frame = InTry at vs a name b ∷ around in (
          tt,
          all_both (Other q) (block_sites f frame vs a) (block_sites f frame (with_variable vs name Role.Plain at) b)
              (other_block frame vs a (apart_left q (exprs_ats a) (exprs_ats b) h)) (other_block frame (with_variable vs name Role.Plain at) b (apart_right q (exprs_ats a) (exprs_ats b) h)),
        )
    other_sites around vs (Batch at interface root a) h = (tt, other_block (InBatch at ∷ around) (with_variable vs root Role.Plain at) a h)

    other_block : (around : List Around) (vs : Scope) (ss : Stmts) → Apart q (exprs_ats ss) → Others (block_sites f around vs ss)
    other_block around vs NoStmts h = tt
    other_block around vs (MoreStmts s ss) h =
        all_both (Other q) (sites f around vs s) (block_sites f around (scope_after f around vs s) ss) (other_sites around vs s (apart_left q (expr_ats s) (exprs_ats ss) h))
        (other_block around (scope_after f around vs s) ss (apart_right q (expr_ats s) (exprs_ats ss) h))

  all_other : (xs : List StmtSite) → Others xs → OtherSites q (exprs_of xs)
  all_other [] h = tt
  all_other (s ∷ ss) h = other_two q (all_sites s (own s.stmt)) (exprs_of ss) h.0 (all_other ss h.1)

  -- ---- batches

  abbrev ApartBatch : Outermost → Type 0
  ApartBatch b = Apart q (exprs_ats b.block)

  mutual
    apart_stmt : (vs : Scope) (s : Stmt) → Apart q (batch_at s) → AllByRecursion ApartBatch (outermost f vs s)
    apart_stmt vs (Val at name e) h = tt
    apart_stmt vs (Var at name e) h = tt
    apart_stmt vs (Assign at a b) h = tt
    apart_stmt vs (Run at e) h = tt
    apart_stmt vs (Print at e) h = tt
    apart_stmt vs (Throw at e) h = tt
    apart_stmt vs (If at c a b) h = all_both ApartBatch (outermost_in f vs a) (outermost_in f vs b) (apart_stmts vs a (apart_left q (batch_in a) (batch_in b) h)) (apart_stmts vs b (apart_right q (batch_in a) (batch_in b) h))
    apart_stmt vs (While at c a) h = apart_stmts vs a h
    apart_stmt vs (For at name e a) h = apart_stmts (with_variable vs name (outer_role (f.items (expr_at e)) (f.lists (expr_at e))) at) a h
    apart_stmt vs (Try at a name b) h =
        all_both ApartBatch (outermost_in f vs a) (outermost_in f (with_variable vs name (outer_role true false) at) b)
        (apart_stmts vs a (apart_left q (batch_in a) (batch_in b) h)) (apart_stmts (with_variable vs name (outer_role true false) at) b (apart_right q (batch_in a) (batch_in b) h))
    apart_stmt vs (Batch at interface root a) h = (h, tt)

    apart_stmts : (vs : Scope) (ss : Stmts) → Apart q (batch_in ss) → AllByRecursion ApartBatch (outermost_in f vs ss)
    apart_stmts vs NoStmts h = tt
    apart_stmts vs (MoreStmts s ss) h =
        all_both ApartBatch (outermost f vs s) (outermost_in f (outer_after f vs s) ss) (apart_stmt vs s (apart_left q (batch_at s) (batch_in ss) h)) (apart_stmts (outer_after f vs s) ss (apart_right q (batch_at s) (batch_in ss) h))

  apart_methods : (ms : List Method) → Apart q (batch_methods ms) → AllByRecursion ApartBatch (flat_map (method_batches f) ms)
  apart_methods [] h = tt
  apart_methods (m ∷ ms) h =
      all_both ApartBatch (method_batches f m) (flat_map (method_batches f) ms) (apart_stmts (parameters m.signature.params) m.body.statements (apart_left q (batch_in m.body.statements) (batch_methods ms) h))
      (apart_methods ms (apart_right q (batch_in m.body.statements) (batch_methods ms) h))

  apart_classes : (cs : List Class) → Apart q (batch_classes cs) → AllByRecursion ApartBatch (flat_map (class_batches f) cs)
  apart_classes [] h = tt
  apart_classes (c ∷ cs) h =
      all_both ApartBatch (class_batches f c) (flat_map (class_batches f) cs) (apart_methods c.methods (apart_left q (batch_methods c.methods) (batch_classes cs) h)) (apart_classes cs (apart_right q (batch_methods c.methods) (batch_classes cs) h))

  others_of : (bs : List Outermost) → AllByRecursion ApartBatch bs → AllByRecursion Others (map (batch_sites f) bs)
  others_of [] h = tt
  others_of (b ∷ bs) h = (other_block [] (opened b.outer b.at b.root b.block) b.block h.0, others_of bs h.1)

-- a position that is none of those of batches' expressions
pub unmarked : NoMarkElsewhere → (p : Program) (q : ℕ) → Apart q (batch_ats p) → stands_remote p q ≡ false
unmarked law p q h = ap is_remote_mark (law p q no_site)
  where
    f : Facts
    f = facts_of p

    batches : AllByRecursion (ApartBatch f q) (program_batches f p)
    batches = all_both (ApartBatch f q) (flat_map (class_batches f) p.classes) (outermost_in f [] p.body.statements)
        (apart_classes f q p.classes (apart_left q (batch_classes p.classes) (batch_in p.body.statements) h)) (apart_stmts f q [] p.body.statements (apart_right q (batch_classes p.classes) (batch_in p.body.statements) h))

    no_site : (s : ExprSite) → InBatches p s → expr_at s.expr ≡ q → ⊥
    no_site s among e =
        let others = each (Others f q) (sites_of p) among.batch (others_of f q (program_batches f p) batches) among.is_batch in
        let other = each (λ t. nat_eq (expr_at t.expr) q ≡ false) (exprs_of among.batch) s (all_other f q among.batch others) among.stands in
        cc (sym (eq-eqb (expr_at s.expr) q e) ∙ other)

abbrev pub Unmarked : Program → List ℕ → Type 0
Unmarked p ats = AllByRecursion (λ q. stands_remote p q ≡ false) ats

-- all code but the expressions of batches stands at such
pub free_unmarked : NoMarkElsewhere → (p : Program) → IsLawful p → Unmarked p (free_ats p)
free_unmarked law p lawful = by (free_ats p) (program_parted p lawful)
  where
    by : (qs : List ℕ) → EachApart qs (batch_ats p) → Unmarked p qs
    by [] h = tt
    by (q ∷ qs) h = (unmarked law p q h.0, by qs h.1)

-- ---- the statements of a batch

module _ (p : Program) where
  abbrev facts : Facts
  facts = facts_of p

  unmarked_left : (xs ys : List ℕ) → Unmarked p (xs ++ ys) → Unmarked p xs
  unmarked_left xs ys h = all_left (λ q. stands_remote p q ≡ false) xs ys h

  unmarked_right : (xs ys : List ℕ) → Unmarked p (xs ++ ys) → Unmarked p ys
  unmarked_right xs ys h = all_right (λ q. stands_remote p q ≡ false) xs ys h

  abbrev Block : Outermost → Type 0
  Block b = Unmarked p (stmts_ats b.block)

  mutual
    stmt_block : (vs : Scope) (s : Stmt) → Unmarked p (free_at s) → AllByRecursion Block (outermost facts vs s)
    stmt_block vs (Val at name e) h = tt
    stmt_block vs (Var at name e) h = tt
    stmt_block vs (Assign at a b) h = tt
    stmt_block vs (Run at e) h = tt
    stmt_block vs (Print at e) h = tt
    stmt_block vs (Throw at e) h = tt
    stmt_block vs (If at c a b) h =
        let front = unmarked_left (expr_positions c ++ free_in a) (free_in b) h.1 in
        all_both Block (outermost_in facts vs a) (outermost_in facts vs b) (stmts_block vs a (unmarked_right (expr_positions c) (free_in a) front)) (stmts_block vs b (unmarked_right (expr_positions c ++ free_in a) (free_in b) h.1))
    stmt_block vs (While at c a) h = stmts_block vs a (unmarked_right (expr_positions c) (free_in a) h.1)
    stmt_block vs (For at name e a) h = stmts_block (with_variable vs name (outer_role (facts.items (expr_at e)) (facts.lists (expr_at e))) at) a (unmarked_right (expr_positions e) (free_in a) h.1)
    stmt_block vs (Try at a name b) h =
        all_both Block (outermost_in facts vs a) (outermost_in facts (with_variable vs name (outer_role true false) at) b) (stmts_block vs a (unmarked_left (free_in a) (free_in b) h.1)) (stmts_block (with_variable vs name (outer_role true false) at) b (unmarked_right (free_in a) (free_in b) h.1))
    stmt_block vs (Batch at interface root a) h = (h.1, tt)

    stmts_block : (vs : Scope) (ss : Stmts) → Unmarked p (free_in ss) → AllByRecursion Block (outermost_in facts vs ss)
    stmts_block vs NoStmts h = tt
    stmts_block vs (MoreStmts s ss) h = all_both Block (outermost facts vs s) (outermost_in facts (outer_after facts vs s) ss) (stmt_block vs s (unmarked_left (free_at s) (free_in ss) h)) (stmts_block (outer_after facts vs s) ss (unmarked_right (free_at s) (free_in ss) h))

  methods_block : (ms : List Method) → Unmarked p (free_methods ms) → AllByRecursion Block (flat_map (method_batches facts) ms)
  methods_block [] h = tt
  methods_block (m ∷ ms) h =
      all_both Block (method_batches facts m) (flat_map (method_batches facts) ms)
      (stmts_block (parameters m.signature.params) m.body.statements (unmarked_left (free_in m.body.statements) _ (unmarked_left (free_body m.body) (free_methods ms) h))) (methods_block ms (unmarked_right (free_body m.body) (free_methods ms) h))

  classes_block : (cs : List Class) → Unmarked p (free_classes cs) → AllByRecursion Block (flat_map (class_batches facts) cs)
  classes_block [] h = tt
  classes_block (c ∷ cs) h = all_both Block (class_batches facts c) (flat_map (class_batches facts) cs) (methods_block c.methods (unmarked_left (free_methods c.methods) (free_classes cs) h)) (classes_block cs (unmarked_right (free_methods c.methods) (free_classes cs) h))

  -- the statements of a batch stand at such positions
  pub block_unmarked : Unmarked p (free_ats p) → (b : Outermost) → Contains (program_batches facts p) b → Unmarked p (stmts_ats b.block)
  block_unmarked h b is =
      each Block (program_batches facts p) b
      (all_both Block (flat_map (class_batches facts) p.classes) (outermost_in facts [] p.body.statements) (classes_block p.classes (unmarked_left (free_classes p.classes) (free_body p.body) h))
      (stmts_block [] p.body.statements (unmarked_left (free_in p.body.statements) _ (unmarked_right (free_classes p.classes) (free_body p.body) h)))) is
