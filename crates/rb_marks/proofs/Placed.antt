-- At each position of a program stands at most one site of its batches.
use Rattle.std.proofs.Common.{◌≡◌, ℕ, ◌+◌, ◌≤◌, List, [], ◌∷◌, ◌++◌, map, true, false, refl, sym, ap, ◌∙◌, arith}
use Rattle.std.proofs.lemmas.List.{map-append}
use Rattle.std.specs.List.{flat_map}
use Rattle.rb_trees.specs.mirror.Code.{Expr, Exprs, Lit, Name, This, Unary, Binary, Field, Call, Index, New, Items, Taken, NoExprs, MoreExprs, expr_at, Stmt, Stmts, Val, Var, Assign, Run, Print, Throw, If, While, For, Try, Batch, NoStmts, MoreStmts, stmt_at}
use Rattle.rb_trees.specs.mirror.Declarations.{Body, Method, Class, Program}
use Rattle.rb_meaning_types.specs.Lawful.{expr_positions, exprs_positions, stmt_positions, stmts_positions, return_positions, body_positions, methods_positions, classes_positions}
use Rattle.rb_meaning_flow.specs.declared.scopes.Role.{Role}
use Rattle.rb_meaning_flow.specs.Facts.{Facts}
use Rattle.rb_meaning_flow.specs.Scopes.{Scope, with_variable, opened}
use Rattle.rb_meaning_flow.specs.Sites.{Around, Branch, WhileTurn, Turn, InTry, InBatch, StmtSite, Over, ExprSite, expr_sites, exprs_sites, all_sites, own, sites, block_sites, exprs_of, scope_after, turn_role}
use Rattle.rb_meaning_flow.specs.Outermost.{Outermost, batch_sites, outer_role, outer_after, outermost, outermost_in, parameters, method_batches, class_batches, program_batches}
use Rattle.rb_marks.proofs.Counts.{here, count, count_append}

abbrev pub site_at : ExprSite → ℕ
site_at s = expr_at s.expr

abbrev pub stmt_site_at : StmtSite → ℕ
stmt_site_at s = stmt_at s.stmt

-- the sites of an expression stand at its positions
mutual
  expr_stands : (s : StmtSite) (above : List Over) (e : Expr) → map site_at (expr_sites s above e) ≡ expr_positions e
  expr_stands s above (Lit at value) = refl
  expr_stands s above (Name at name) = refl
  expr_stands s above (This at) = refl
  expr_stands s above (Unary at op a) = ap (λ ps. at ∷ ps) (expr_stands s (record { expr = Unary at op a; right = false } ∷ above) a)
  expr_stands s above (Binary at op a b) =
      let first : List Over = record { expr = Binary at op a b; right = false } ∷ above in
      let second : List Over = record { expr = Binary at op a b; right = true } ∷ above in
      ap (λ ps. at ∷ ps) (map-append site_at (expr_sites s first a) (expr_sites s second b)
      ∙ ap (λ ps. ps ++ map site_at (expr_sites s second b)) (expr_stands s first a) ∙ ap (λ ps. expr_positions a ++ ps) (expr_stands s second b))
  expr_stands s above (Field at a name) = ap (λ ps. at ∷ ps) (expr_stands s (record { expr = Field at a name; right = false } ∷ above) a)
  expr_stands s above (Call at a method args) =
      let first : List Over = record { expr = Call at a method args; right = false } ∷ above in
      let second : List Over = record { expr = Call at a method args; right = false } ∷ above in
      ap (λ ps. at ∷ ps) (map-append site_at (expr_sites s first a) (exprs_sites s second args)
      ∙ ap (λ ps. ps ++ map site_at (exprs_sites s second args)) (expr_stands s first a) ∙ ap (λ ps. expr_positions a ++ ps) (exprs_stand s second args))
  expr_stands s above (Index at a b) =
      let first : List Over = record { expr = Index at a b; right = false } ∷ above in
      let second : List Over = record { expr = Index at a b; right = false } ∷ above in
      ap (λ ps. at ∷ ps) (map-append site_at (expr_sites s first a) (expr_sites s second b)
      ∙ ap (λ ps. ps ++ map site_at (expr_sites s second b)) (expr_stands s first a) ∙ ap (λ ps. expr_positions a ++ ps) (expr_stands s second b))
  expr_stands s above (New at class args) = ap (λ ps. at ∷ ps) (exprs_stand s (record { expr = New at class args; right = false } ∷ above) args)
  expr_stands s above (Items at item items) = ap (λ ps. at ∷ ps) (exprs_stand s (record { expr = Items at item items; right = false } ∷ above) items)
  expr_stands s above (Taken at step) = refl

  exprs_stand : (s : StmtSite) (above : List Over) (es : Exprs) → map site_at (exprs_sites s above es) ≡ exprs_positions es
  exprs_stand s above NoExprs = refl
  exprs_stand s above (MoreExprs e es) = map-append site_at (expr_sites s above e) (exprs_sites s above es)
      ∙ ap (λ ps. ps ++ map site_at (exprs_sites s above es)) (expr_stands s above e) ∙ ap (λ ps. expr_positions e ++ ps) (exprs_stand s above es)

-- how often a statement or one of its own expressions stands at a position
abbrev pub own_count : ℕ → StmtSite → ℕ
own_count q s = here q (stmt_site_at s) + count q (map site_at (all_sites s (own s.stmt)))

abbrev pub total : ℕ → List StmtSite → ℕ
total q [] = 0
total q (s ∷ ss) = own_count q s + total q ss

total_append : (q : ℕ) (ss ts : List StmtSite) → total q (ss ++ ts) ≡ total q ss + total q ts
total_append q [] ts = omega arith
total_append q (s ∷ ss) ts = omega (arith, total_append q ss ts)

pub count_sites : (q : ℕ) (es fs : List ExprSite) → count q (map site_at (es ++ fs)) ≡ count q (map site_at es) + count q (map site_at fs)
count_sites q es fs = ap (count q) (map-append site_at es fs) ∙ count_append q (map site_at es) (map site_at fs)

-- an outermost expression stands at its positions
own_stands : (q : ℕ) (s : StmtSite) (e : Expr) (es : List Expr) → count q (map site_at (all_sites s (e ∷ es))) ≡ count q (expr_positions e) + count q (map site_at (all_sites s es))
own_stands q s e es = count_sites q (expr_sites s [] e) (all_sites s es) ∙ ap (λ ps. count q ps + count q (map site_at (all_sites s es))) (expr_stands s [] e)

-- how often the parts of a statement stand at a position
block_count : (q : ℕ) (c : Expr) (a : Stmts) → count q (expr_positions c ++ stmts_positions a) ≡ count q (expr_positions c) + count q (stmts_positions a)
block_count q c a = count_append q (expr_positions c) (stmts_positions a)

blocks_count : (q : ℕ) (a b : Stmts) → count q (stmts_positions a ++ stmts_positions b) ≡ count q (stmts_positions a) + count q (stmts_positions b)
blocks_count q a b = count_append q (stmts_positions a) (stmts_positions b)

branches_count : (q : ℕ) (c : Expr) (a b : Stmts)
    → count q ((expr_positions c ++ stmts_positions a) ++ stmts_positions b) ≡ count q (expr_positions c) + (count q (stmts_positions a) + count q (stmts_positions b))
branches_count q c a b = omega (arith, count_append q (expr_positions c ++ stmts_positions a) (stmts_positions b), block_count q c a)

plus_none : (n : ℕ) → n + 0 ≡ n
plus_none n = omega arith

-- a statement with one own expression, or none, and what stands in its blocks
one_own : (q : ℕ) (s : StmtSite) (e : Expr) (ss : List StmtSite) (ps : List ℕ) → own s.stmt ≡ e ∷ [] → total q ss ≡ count q ps
    → own_count q s + total q ss ≡ here q (stmt_site_at s) + (count q (expr_positions e) + count q ps)
one_own q s e ss ps is h =
    let mine : count q (map site_at (all_sites s (own s.stmt))) ≡ count q (expr_positions e) = ap (λ es. count q (map site_at (all_sites s es))) is ∙ own_stands q s e [] ∙ plus_none _ in
    omega (arith, mine, h)

both : {a b c d : ℕ} → a ≡ c → b ≡ d → a + b ≡ c + d
both {a} {b} {c} {d} e f = ap (λ n. n + b) e ∙ ap (λ n. c + n) f

only_blocks : (h : ℕ) {m n : ℕ} → m ≡ n → (h + 0) + m ≡ h + n
only_blocks h {m} {n} e = ap (λ k. k + m) (plus_none h) ∙ ap (λ k. h + k) e

mutual
  stmt_stands : (q : ℕ) (x : Facts) (around : List Around) (scope : Scope) (s : Stmt) → total q (sites x around scope s) ≡ count q (stmt_positions s)
  stmt_stands q x around scope (Val at name e) = omega (arith, own_stands q (record { around = around; scope = scope; stmt = Val at name e }) e [])
  stmt_stands q x around scope (Var at name e) = omega (arith, own_stands q (record { around = around; scope = scope; stmt = Var at name e }) e [])
  stmt_stands q x around scope (Run at e) = omega (arith, own_stands q (record { around = around; scope = scope; stmt = Run at e }) e [])
  stmt_stands q x around scope (Print at e) = omega (arith, own_stands q (record { around = around; scope = scope; stmt = Print at e }) e [])
  stmt_stands q x around scope (Throw at e) = omega (arith, own_stands q (record { around = around; scope = scope; stmt = Throw at e }) e [])
  stmt_stands q x around scope (Assign at a b) =
      let s : StmtSite = record { around = around; scope = scope; stmt = Assign at a b } in
      omega (arith, own_stands q s a (b ∷ []), own_stands q s b [], count_append q (expr_positions a) (expr_positions b))
  stmt_stands q x around scope (If at c a b) =
      let s : StmtSite = record { around = around; scope = scope; stmt = If at c a b } in
      let in_branch : List Around = Branch at scope c a b ∷ around in
      one_own q s c (block_sites x in_branch scope a ++ block_sites x in_branch scope b) (stmts_positions a ++ stmts_positions b) refl
      (total_append q (block_sites x in_branch scope a) (block_sites x in_branch scope b)
      ∙ both (block_stands q x in_branch scope a) (block_stands q x in_branch scope b) ∙ sym (blocks_count q a b))
      ∙ ap (λ n. here q at + n) (ap (λ n. count q (expr_positions c) + n) (blocks_count q a b) ∙ sym (branches_count q c a b))
  stmt_stands q x around scope (While at c a) =
      let s : StmtSite = record { around = around; scope = scope; stmt = While at c a } in
      let in_turn : List Around = WhileTurn at scope c ∷ around in
      one_own q s c (block_sites x in_turn scope a) (stmts_positions a) refl (block_stands q x in_turn scope a)
      ∙ ap (λ n. here q at + n) (sym (block_count q c a))
  stmt_stands q x around scope (For at name e a) =
      let s : StmtSite = record { around = around; scope = scope; stmt = For at name e a } in
      let in_turn : List Around = Turn at scope e a ∷ around in
      let inner : Scope = with_variable scope name (turn_role x around scope e a) at in
      one_own q s e (block_sites x in_turn inner a) (stmts_positions a) refl (block_stands q x in_turn inner a)
      ∙ ap (λ n. here q at + n) (sym (block_count q e a))
  stmt_stands q x around scope (Try at a name b) =
      let in_try : List Around = InTry at scope a name b ∷ around in
      let inner : Scope = with_variable scope name Role.Plain at in
      only_blocks (here q at) (total_append q (block_sites x in_try scope a) (block_sites x in_try inner b)
      ∙ both (block_stands q x in_try scope a) (block_stands q x in_try inner b) ∙ sym (blocks_count q a b))
  stmt_stands q x around scope (Batch at interface root a) =
      only_blocks (here q at) (block_stands q x (InBatch at ∷ around) (with_variable scope root Role.Plain at) a)

  block_stands : (q : ℕ) (x : Facts) (around : List Around) (scope : Scope) (ss : Stmts) → total q (block_sites x around scope ss) ≡ count q (stmts_positions ss)
  block_stands q x around scope NoStmts = refl
  block_stands q x around scope (MoreStmts s ss) =
      total_append q (sites x around scope s) (block_sites x around (scope_after x around scope s) ss)
      ∙ both (stmt_stands q x around scope s) (block_stands q x around (scope_after x around scope s) ss)
      ∙ sym (count_append q (stmt_positions s) (stmts_positions ss))

-- how often one of all batches stands at a position
abbrev pub totals : ℕ → Facts → List Outermost → ℕ
totals q x [] = 0
totals q x (b ∷ bs) = total q (batch_sites x b) + totals q x bs

totals_append : (q : ℕ) (x : Facts) (bs cs : List Outermost) → totals q x (bs ++ cs) ≡ totals q x bs + totals q x cs
totals_append q x [] cs = omega arith
totals_append q x (b ∷ bs) cs = omega (arith, totals_append q x bs cs)

-- a front or a part of what is counted
less : (h e m n k : ℕ) → m ≤ n → k ≡ h + (e + n) → m ≤ k
less h e m n k l is = omega arith

sum_less : {a b c d e : ℕ} → a ≡ b + c → b ≤ d → c ≤ e → a ≤ d + e
sum_less is l m = omega arith

none_plus : (n : ℕ) → n ≡ 0 + n
none_plus n = omega arith

mutual
  outer_stands : (q : ℕ) (x : Facts) (scope : Scope) (s : Stmt) → totals q x (outermost x scope s) ≤ count q (stmt_positions s)
  outer_stands q x scope (Val at name e) = omega arith
  outer_stands q x scope (Var at name e) = omega arith
  outer_stands q x scope (Assign at a b) = omega arith
  outer_stands q x scope (Run at e) = omega arith
  outer_stands q x scope (Print at e) = omega arith
  outer_stands q x scope (Throw at e) = omega arith
  outer_stands q x scope (If at c a b) =
      less (here q at) (count q (expr_positions c)) _ (count q (stmts_positions a) + count q (stmts_positions b)) _
      (sum_less (totals_append q x (outermost_in x scope a) (outermost_in x scope b)) (outer_block_stands q x scope a) (outer_block_stands q x scope b))
      (ap (λ n. here q at + n) (branches_count q c a b))
  outer_stands q x scope (While at c a) =
      less (here q at) (count q (expr_positions c)) _ (count q (stmts_positions a)) _ (outer_block_stands q x scope a) (ap (λ n. here q at + n) (block_count q c a))
  outer_stands q x scope (For at name e a) =
      less (here q at) (count q (expr_positions e)) _ (count q (stmts_positions a)) _
      (outer_block_stands q x (with_variable scope name (outer_role (x.items (expr_at e)) (x.lists (expr_at e))) at) a) (ap (λ n. here q at + n) (block_count q e a))
  outer_stands q x scope (Try at a name b) =
      let inner : Scope = with_variable scope name (outer_role true false) at in
      less (here q at) 0 _ (count q (stmts_positions a) + count q (stmts_positions b)) _
      (sum_less (totals_append q x (outermost_in x scope a) (outermost_in x inner b)) (outer_block_stands q x scope a) (outer_block_stands q x inner b))
      (ap (λ n. here q at + n) (blocks_count q a b ∙ none_plus _))
  outer_stands q x scope (Batch at interface root a) =
      less (here q at) 0 _ (count q (stmts_positions a)) _ (omega (arith, block_stands q x [] (opened scope at root a) a)) (ap (λ n. here q at + n) (none_plus _))

  outer_block_stands : (q : ℕ) (x : Facts) (scope : Scope) (ss : Stmts) → totals q x (outermost_in x scope ss) ≤ count q (stmts_positions ss)
  outer_block_stands q x scope NoStmts = omega arith
  outer_block_stands q x scope (MoreStmts s ss) =
      less 0 0 _ (count q (stmt_positions s) + count q (stmts_positions ss)) _
      (sum_less (totals_append q x (outermost x scope s) (outermost_in x (outer_after x scope s) ss)) (outer_stands q x scope s) (outer_block_stands q x (outer_after x scope s) ss))
      (count_append q (stmt_positions s) (stmts_positions ss) ∙ none_plus _ ∙ none_plus _)

return_after : (q : ℕ) (body : Body) → count q (stmts_positions body.statements) ≤ count q (body_positions body)
return_after q body = omega (arith, count_append q (stmts_positions body.statements) (return_positions body.result))

methods_stand : (q : ℕ) (x : Facts) (ms : List Method) → totals q x (flat_map (method_batches x) ms) ≤ count q (methods_positions ms)
methods_stand q x [] = omega arith
methods_stand q x (m ∷ ms) =
    omega (
      arith,
      totals_append q x (method_batches x m) (flat_map (method_batches x) ms),
      outer_block_stands q x (parameters m.signature.params) m.body.statements,
      return_after q m.body,
      methods_stand q x ms,
      count_append q (body_positions m.body) (methods_positions ms),
    )

classes_stand : (q : ℕ) (x : Facts) (cs : List Class) → totals q x (flat_map (class_batches x) cs) ≤ count q (classes_positions cs)
classes_stand q x [] = omega arith
classes_stand q x (c ∷ cs) =
    omega (
      arith,
      totals_append q x (class_batches x c) (flat_map (class_batches x) cs),
      methods_stand q x c.methods,
      classes_stand q x cs,
      count_append q (methods_positions c.methods) (classes_positions cs),
    )

pub program_stands : (q : ℕ) (x : Facts) (p : Program) → totals q x (program_batches x p) ≤ count q (classes_positions p.classes ++ body_positions p.body)
program_stands q x p =
    omega (
      arith,
      totals_append q x (flat_map (class_batches x) p.classes) (outermost_in x [] p.body.statements),
      classes_stand q x p.classes,
      outer_block_stands q x [] p.body.statements,
      return_after q p.body,
      count_append q (classes_positions p.classes) (body_positions p.body),
    )

-- the expressions alone, and the statements alone, stand no more often
exprs_less : (q : ℕ) (ss : List StmtSite) → count q (map site_at (exprs_of ss)) ≤ total q ss
exprs_less q [] = omega arith
exprs_less q (s ∷ ss) = omega (arith, count_sites q (all_sites s (own s.stmt)) (exprs_of ss), exprs_less q ss)

stmts_less : (q : ℕ) (ss : List StmtSite) → count q (map stmt_site_at ss) ≤ total q ss
stmts_less q [] = omega arith
stmts_less q (s ∷ ss) = omega (arith, stmts_less q ss)

all_exprs_less : (q : ℕ) (x : Facts) (bs : List Outermost) → count q (map site_at (flat_map exprs_of (map (batch_sites x) bs))) ≤ totals q x bs
all_exprs_less q x [] = omega arith
all_exprs_less q x (b ∷ bs) = omega (arith, count_sites q (exprs_of (batch_sites x b)) (flat_map exprs_of (map (batch_sites x) bs)), exprs_less q (batch_sites x b), all_exprs_less q x bs)

count_stmts : (q : ℕ) (ss ts : List StmtSite) → count q (map stmt_site_at (ss ++ ts)) ≡ count q (map stmt_site_at ss) + count q (map stmt_site_at ts)
count_stmts q ss ts = ap (count q) (map-append stmt_site_at ss ts) ∙ count_append q (map stmt_site_at ss) (map stmt_site_at ts)

all_stmts_less : (q : ℕ) (x : Facts) (bs : List Outermost) → count q (map stmt_site_at (flat_map (λ ss. ss) (map (batch_sites x) bs))) ≤ totals q x bs
all_stmts_less q x [] = omega arith
all_stmts_less q x (b ∷ bs) = omega (arith, count_stmts q (batch_sites x b) (flat_map (λ ss. ss) (map (batch_sites x) bs)), stmts_less q (batch_sites x b), all_stmts_less q x bs)

pub exprs_stand_once : (q : ℕ) (x : Facts) (p : Program) → count q (map site_at (flat_map exprs_of (map (batch_sites x) (program_batches x p)))) ≤ count q (classes_positions p.classes ++ body_positions p.body)
exprs_stand_once q x p = omega (arith, all_exprs_less q x (program_batches x p), program_stands q x p)

pub stmts_stand_once : (q : ℕ) (x : Facts) (p : Program)
    → count q (map stmt_site_at (flat_map (λ ss. ss) (map (batch_sites x) (program_batches x p)))) ≤ count q (classes_positions p.classes ++ body_positions p.body)
stmts_stand_once q x p = omega (arith, all_stmts_less q x (program_batches x p), program_stands q x p)
