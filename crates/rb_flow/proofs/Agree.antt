-- The walk finds what the sites of a batch have.
use Rattle.std.proofs.Common.{◌≡◌, ℕ, List, [], ◌∷◌, ◌++◌, Bool, true, false, cond, ◌&&◌, ◌||◌, Option, Some, refl, sym, ap, ◌∙◌, append_assoc}
use Rattle.std.proofs.lemmas.List.{append-nil}
use Rattle.std.specs.List.{flat_map}
use Rattle.rb_trees.specs.mirror.Code.{Expr, Exprs, Lit, Name, This, Unary, Binary, Field, Call, Index, New, Items, Taken, NoExprs, MoreExprs, expr_at, Stmt, Stmts, Val, Var, Assign, Run, Print, Throw, If, While, For, Try, Batch, NoStmts, MoreStmts}
use Rattle.rb_meaning_flow.specs.declared.scopes.Role.{Role}
use Rattle.rb_meaning_flow.specs.Facts.{Facts, over_rows}
use Rattle.rb_meaning_flow.specs.Scopes.{Scope, with_variable}
use Rattle.rb_meaning_flow.specs.Portable.{portable, branches_hold, is_constant_list, may_carry, has_far_turns}
use Rattle.rb_meaning_flow.specs.Sites.{Around, Branch, WhileTurn, Turn, InTry, InBatch, is_script_place, StmtSite, Over, ExprSite, expr_sites, exprs_sites, own, all_sites, sites, block_sites, scope_after, turn_role, exprs_of}
use Rattle.rb_meaning_flow.specs.Flow.{is_call, frame_sites}
use Rattle.rb_meaning_flow.specs.Refusals.{operand_condition, while_condition, frame_condition, any_try, has_call}
use Rattle.rb_flow.specs.declared.standing.Reading.{Reading}
use Rattle.rb_flow.specs.declared.standing.Standing.{Standing}
use Rattle.rb_flow.specs.declared.standing.Inside.{Inside}
use Rattle.rb_flow.specs.declared.findings.Findings.{Findings}
use Rattle.rb_flow.specs.Readings.{nothing, joined, read_by, whole_read}
use Rattle.rb_flow.specs.Found.{innermost, standing_in, conditions_above, inside_at}
use Rattle.rb_flow.specs.Walked as words
use Rattle.rb_flow.specs.Walked.{turn_role_in, expr_seen, or_outer, part_inside, expr_walked, exprs_walked, whole_inside, while_inside, condition_unless, branch_standing, while_standing, turn_standing, try_standing, scope_then, condition_walked, turns_walked, list_walked, stmt_walked, block_walked}
use Rattle.rb_flow.specs.Sited.{around_of, expr_site_seen, exprs_seen, stmt_site_seen, all_seen}
use Rattle.rb_flow.proofs.ReadSites.{read_both, same_scope, around_more, stmt_read_sites}

pub exprs_seen_both : (x : Facts) (as' bs : List ExprSite) (f : Findings) → exprs_seen x (as' ++ bs) f ≡ exprs_seen x bs (exprs_seen x as' f)
exprs_seen_both x [] bs f = refl
exprs_seen_both x (e ∷ as') bs f = exprs_seen_both x as' bs (expr_site_seen x e f)

pub all_seen_both : (x : Facts) (as' bs : List StmtSite) (f : Findings) → all_seen x (as' ++ bs) f ≡ all_seen x bs (all_seen x as' f)
all_seen_both x [] bs f = refl
all_seen_both x (s ∷ as') bs f = all_seen_both x as' bs (exprs_seen x (all_sites s (own s.stmt)) (stmt_site_seen x s f))

-- the innermost of conditions that stand one list above the other
innermost_both : (as' bs : List ℕ) → or_outer (innermost as') (innermost bs) ≡ innermost (as' ++ bs)
innermost_both [] bs = refl
innermost_both (a ∷ as') bs = refl

abbrev inside : Option ℕ → Bool → Bool → Inside
inside condition tried may = record { condition = condition; tried = tried; may = may }

-- how what stands around bears on a part is what the part's site tells
part_told : (x : Facts) (s : StmtSite) (above : List Over) (right : Bool) (i : Inside) (e : Expr) → i ≡ inside_at x s above
    → part_inside x s.scope right i e ≡ inside_at x s (record { expr = e; right = right } ∷ above)
part_told x s above right i e h =
    let here = operand_condition x s.scope right e in
    let rest = flat_map (λ o. operand_condition x s.scope o.right o.expr) above in
    let more = flat_map (frame_condition x) s.around in
    ap (λ j. part_inside x s.scope right j e) h
    ∙ ap (λ c. inside c (any_try s.around) (is_call x e)) (innermost_both here (conditions_above x s above)
    ∙ ap innermost (sym (ap (λ cs. cs ++ more) (append_assoc here rest (while_condition s.stmt)) ∙ append_assoc here (rest ++ while_condition s.stmt) more)))

mutual
  pub expr_agrees : (x : Facts) (s : StmtSite) (above : List Over) (i : Inside) (f : Findings) (e : Expr) → i ≡ inside_at x s above
      → expr_walked x s.scope (around_of x s) i f e ≡ exprs_seen x (expr_sites s above e) f
  expr_agrees x s above i f (Lit at value) h = ap (λ j. expr_seen x s.scope (around_of x s) j f (Lit at value)) h
  expr_agrees x s above i f (Name at name) h = ap (λ j. expr_seen x s.scope (around_of x s) j f (Name at name)) h
  expr_agrees x s above i f (This at) h = ap (λ j. expr_seen x s.scope (around_of x s) j f (This at)) h
  expr_agrees x s above i f (Unary at op a) h =
      let e : Expr = Unary at op a in
      let me = expr_seen x s.scope (around_of x s) i f e in
      let is = ap (λ j. expr_seen x s.scope (around_of x s) j f e) h in
      let left = part_told x s above false i e h in
      expr_agrees x s (record { expr = e; right = false } ∷ above) (part_inside x s.scope false i e) me a left ∙ ap (exprs_seen x (expr_sites s (record { expr = e; right = false } ∷ above) a)) is
  expr_agrees x s above i f (Binary at op a b) h =
      let e : Expr = Binary at op a b in
      let me = expr_seen x s.scope (around_of x s) i f e in
      let is = ap (λ j. expr_seen x s.scope (around_of x s) j f e) h in
      let left = part_told x s above false i e h in
      let right = part_told x s above true i e h in
      expr_agrees x s (record { expr = e; right = true } ∷ above) (part_inside x s.scope true i e) (expr_walked x s.scope (around_of x s) (part_inside x s.scope false i e) me a) b right
      ∙ ap (exprs_seen x (expr_sites s (record { expr = e; right = true } ∷ above) b)) (expr_agrees x s (record { expr = e; right = false } ∷ above) (part_inside x s.scope false i e) me a left ∙ ap (exprs_seen x (expr_sites s (record { expr = e; right = false } ∷ above) a)) is)
      ∙ sym (exprs_seen_both x (expr_sites s (record { expr = e; right = false } ∷ above) a) (expr_sites s (record { expr = e; right = true } ∷ above) b) (expr_site_seen x (record { stands = s; above = above; expr = e }) f))
  expr_agrees x s above i f (Field at a name) h =
      let e : Expr = Field at a name in
      let me = expr_seen x s.scope (around_of x s) i f e in
      let is = ap (λ j. expr_seen x s.scope (around_of x s) j f e) h in
      let left = part_told x s above false i e h in
      expr_agrees x s (record { expr = e; right = false } ∷ above) (part_inside x s.scope false i e) me a left ∙ ap (exprs_seen x (expr_sites s (record { expr = e; right = false } ∷ above) a)) is
  expr_agrees x s above i f (Call at a method args) h =
      let e : Expr = Call at a method args in
      let me = expr_seen x s.scope (around_of x s) i f e in
      let is = ap (λ j. expr_seen x s.scope (around_of x s) j f e) h in
      let left = part_told x s above false i e h in
      exprs_agree x s (record { expr = e; right = false } ∷ above) (part_inside x s.scope false i e) (expr_walked x s.scope (around_of x s) (part_inside x s.scope false i e) me a) args left
      ∙ ap (exprs_seen x (exprs_sites s (record { expr = e; right = false } ∷ above) args)) (expr_agrees x s (record { expr = e; right = false } ∷ above) (part_inside x s.scope false i e) me a left ∙ ap (exprs_seen x (expr_sites s (record { expr = e; right = false } ∷ above) a)) is)
      ∙ sym (exprs_seen_both x (expr_sites s (record { expr = e; right = false } ∷ above) a) (exprs_sites s (record { expr = e; right = false } ∷ above) args) (expr_site_seen x (record { stands = s; above = above; expr = e }) f))
  expr_agrees x s above i f (Index at a b) h =
      let e : Expr = Index at a b in
      let me = expr_seen x s.scope (around_of x s) i f e in
      let is = ap (λ j. expr_seen x s.scope (around_of x s) j f e) h in
      let left = part_told x s above false i e h in
      expr_agrees x s (record { expr = e; right = false } ∷ above) (part_inside x s.scope false i e) (expr_walked x s.scope (around_of x s) (part_inside x s.scope false i e) me a) b left
      ∙ ap (exprs_seen x (expr_sites s (record { expr = e; right = false } ∷ above) b)) (expr_agrees x s (record { expr = e; right = false } ∷ above) (part_inside x s.scope false i e) me a left ∙ ap (exprs_seen x (expr_sites s (record { expr = e; right = false } ∷ above) a)) is)
      ∙ sym (exprs_seen_both x (expr_sites s (record { expr = e; right = false } ∷ above) a) (expr_sites s (record { expr = e; right = false } ∷ above) b) (expr_site_seen x (record { stands = s; above = above; expr = e }) f))
  expr_agrees x s above i f (New at class args) h =
      let e : Expr = New at class args in
      let me = expr_seen x s.scope (around_of x s) i f e in
      let is = ap (λ j. expr_seen x s.scope (around_of x s) j f e) h in
      let left = part_told x s above false i e h in
      exprs_agree x s (record { expr = e; right = false } ∷ above) (part_inside x s.scope false i e) me args left ∙ ap (exprs_seen x (exprs_sites s (record { expr = e; right = false } ∷ above) args)) is
  expr_agrees x s above i f (Items at item items) h =
      let e : Expr = Items at item items in
      let me = expr_seen x s.scope (around_of x s) i f e in
      let is = ap (λ j. expr_seen x s.scope (around_of x s) j f e) h in
      let left = part_told x s above false i e h in
      exprs_agree x s (record { expr = e; right = false } ∷ above) (part_inside x s.scope false i e) me items left ∙ ap (exprs_seen x (exprs_sites s (record { expr = e; right = false } ∷ above) items)) is
  expr_agrees x s above i f (Taken at step) h = ap (λ j. expr_seen x s.scope (around_of x s) j f (Taken at step)) h

  exprs_agree : (x : Facts) (s : StmtSite) (above : List Over) (i : Inside) (f : Findings) (es : Exprs) → i ≡ inside_at x s above
      → exprs_walked x s.scope (around_of x s) i f es ≡ exprs_seen x (exprs_sites s above es) f
  exprs_agree x s above i f NoExprs h = refl
  exprs_agree x s above i f (MoreExprs e es) h =
      exprs_agree x s above i (expr_walked x s.scope (around_of x s) i f e) es h
      ∙ ap (exprs_seen x (exprs_sites s above es)) (expr_agrees x s above i f e h)
      ∙ sym (exprs_seen_both x (expr_sites s above e) (exprs_sites s above es) f)

-- an own expression of a statement, alone or before another
whole_agrees : (x : Facts) (s : StmtSite) (i : Inside) (f : Findings) (e : Expr) → i ≡ inside_at x s []
    → expr_walked x s.scope (around_of x s) i f e ≡ exprs_seen x (expr_sites s [] e ++ []) f
whole_agrees x s i f e h = expr_agrees x s [] i f e h ∙ ap (λ es. exprs_seen x es f) (sym (append-nil (expr_sites s [] e)))

abbrev standing : Bool → Option ℕ → Bool → Reading → Standing
standing script condition tried around = record { script = script; condition = condition; tried = tried; around = around }

-- a condition that isn't known is the innermost one
unless_same : (known : Bool) (c : Expr) (outer : List ℕ) → condition_unless known (innermost outer) c ≡ innermost (cond known [] (expr_at c ∷ []) ++ outer)
unless_same true c outer = refl
unless_same false c outer = refl

-- what an own condition reads stands around both it and its blocks
around_own : (x : Facts) (s : StmtSite) (e : Expr) → whole_read x s.scope (read_by x (flat_map (frame_sites x) s.around)) e ≡ read_by x (expr_sites s [] e ++ flat_map (frame_sites x) s.around)
around_own x s e = around_more x s (flat_map (frame_sites x) s.around) e

branch_told : (x : Facts) (around : List Around) (scope : Scope) (at : ℕ) (c : Expr) (a b : Stmts)
    → branch_standing x scope (standing_in x around) c a b ≡ standing_in x (Branch at scope c a b ∷ around)
branch_told x around scope at c a b =
    let script = is_script_place x around && branches_hold x a b in
    let outer = flat_map (frame_condition x) around in
    let frames = flat_map (frame_sites x) around in
    ap (λ k. standing script k (any_try around) (whole_read x scope (read_by x frames) c)) (unless_same (portable x scope c) c outer)
    ∙ ap (standing script (innermost (cond (portable x scope c) [] (expr_at c ∷ []) ++ outer)) (any_try around)) (around_more x (record { around = []; scope = scope; stmt = If at c a b }) frames c)

while_told : (x : Facts) (around : List Around) (scope : Scope) (at : ℕ) (c : Expr) → while_standing x scope (standing_in x around) c ≡ standing_in x (WhileTurn at scope c ∷ around)
while_told x around scope at c =
    ap (standing false (Some (expr_at c)) (any_try around)) (around_more x (record { around = []; scope = scope; stmt = While at c NoStmts }) (flat_map (frame_sites x) around) c)

turn_told : (x : Facts) (around : List Around) (scope : Scope) (at : ℕ) (e : Expr) (a : Stmts)
    → turn_standing x scope (standing_in x around) e a ≡ standing_in x (Turn at scope e a ∷ around)
turn_told x around scope at e a =
    let script = is_script_place x around && has_far_turns x scope e a in
    let known = over_rows x e || is_constant_list scope e in
    let outer = flat_map (frame_condition x) around in
    let frames = flat_map (frame_sites x) around in
    ap (λ k. standing script k (any_try around) (whole_read x scope (read_by x frames) e)) (unless_same known e outer)
    ∙ ap (standing script (innermost (cond known [] (expr_at e ∷ []) ++ outer)) (any_try around)) (around_more x (record { around = []; scope = scope; stmt = Run at e }) frames e)

-- the block of a loop over rows, or of one that may be carried, is a script place where the loop stands at one
turn_cases : (rows script may : Bool) → words.turn_role rows (script && (rows || may)) ≡ cond (rows || (script && may)) Role.Row Role.Plain
turn_cases true script may = refl
turn_cases false script may = refl

role_told : (x : Facts) (around : List Around) (scope : Scope) (e : Expr) (a : Stmts) → turn_role_in x (standing_in x around) scope e a ≡ turn_role x around scope e a
role_told x around scope e a = turn_cases (over_rows x e) (is_script_place x around) (may_carry x scope e a)

try_told : (x : Facts) (around : List Around) (scope : Scope) (at : ℕ) (a : Stmts) (name : List ℕ) (b : Stmts)
    → try_standing x scope (standing_in x around) at a name b ≡ standing_in x (InTry at scope a name b ∷ around)
try_told x around scope at a name b =
    let frames = flat_map (frame_sites x) around in
    let mine = sites x [] scope (Try at a name b) in
    ap (standing false (innermost (flat_map (frame_condition x) around)) true)
    (ap (λ q. joined q (read_by x frames)) (stmt_read_sites x [] scope scope nothing (Try at a name b) (same_scope scope))
    ∙ sym (read_both x (exprs_of mine) frames) ∙ ap (λ ss. read_by x (exprs_of ss ++ frames)) (sym (append-nil mine)))

then_told : (x : Facts) (around : List Around) (scope : Scope) (s : Stmt) → scope_then x (standing_in x around) scope s ≡ scope_after x around scope s
then_told x around scope (Val at name e) = refl
then_told x around scope (Var at name e) = refl
then_told x around scope (Assign at a b) = refl
then_told x around scope (Run at e) = refl
then_told x around scope (Print at e) = refl
then_told x around scope (Throw at e) = refl
then_told x around scope (If at c a b) = refl
then_told x around scope (While at c a) = refl
then_told x around scope (For at name e a) = refl
then_told x around scope (Try at a name b) = refl
then_told x around scope (Batch at interface root a) = refl

mutual
  pub stmt_agrees : (x : Facts) (around : List Around) (scope : Scope) (f : Findings) (s : Stmt) → stmt_walked x (standing_in x around) scope f s ≡ all_seen x (sites x around scope s) f
  stmt_agrees x around scope f (Val at name e) =
      let s : StmtSite = record { around = around; scope = scope; stmt = Val at name e } in
      whole_agrees x s (whole_inside (standing_in x around) (is_script_place x around)) (stmt_site_seen x s f) e refl
  stmt_agrees x around scope f (Var at name e) =
      let s : StmtSite = record { around = around; scope = scope; stmt = Var at name e } in
      whole_agrees x s (whole_inside (standing_in x around) true) (stmt_site_seen x s f) e refl
  stmt_agrees x around scope f (Run at e) =
      let s : StmtSite = record { around = around; scope = scope; stmt = Run at e } in
      whole_agrees x s (whole_inside (standing_in x around) (has_call e)) (stmt_site_seen x s f) e refl
  stmt_agrees x around scope f (Print at e) =
      let s : StmtSite = record { around = around; scope = scope; stmt = Print at e } in
      whole_agrees x s (whole_inside (standing_in x around) false) (stmt_site_seen x s f) e refl
  stmt_agrees x around scope f (Throw at e) =
      let s : StmtSite = record { around = around; scope = scope; stmt = Throw at e } in
      whole_agrees x s (whole_inside (standing_in x around) false) (stmt_site_seen x s f) e refl
  stmt_agrees x around scope f (Assign at a b) =
      let s : StmtSite = record { around = around; scope = scope; stmt = Assign at a b } in
      let i = whole_inside (standing_in x around) false in
      whole_agrees x s i (expr_walked x scope (around_of x s) i (stmt_site_seen x s f) a) b refl
      ∙ ap (exprs_seen x (expr_sites s [] b ++ [])) (expr_agrees x s [] i (stmt_site_seen x s f) a refl)
      ∙ sym (exprs_seen_both x (expr_sites s [] a) (expr_sites s [] b ++ []) (stmt_site_seen x s f))
  stmt_agrees x around scope f (If at c a b) =
      let s : StmtSite = record { around = around; scope = scope; stmt = If at c a b } in
      let inner = Branch at scope c a b ∷ around in
      let i = whole_inside (standing_in x around) false in
      let seen = condition_walked x (standing_in x around) scope (stmt_site_seen x s f) c in
      let is = ap (λ q. expr_walked x scope q i (stmt_site_seen x s f) c) (around_own x s c) ∙ whole_agrees x s i (stmt_site_seen x s f) c refl in
      ap (λ t. block_walked x t scope (block_walked x t scope seen a) b) (branch_told x around scope at c a b)
      ∙ block_agrees x inner scope (block_walked x (standing_in x inner) scope seen a) b
      ∙ ap (all_seen x (block_sites x inner scope b)) (block_agrees x inner scope seen a ∙ ap (all_seen x (block_sites x inner scope a)) is)
      ∙ sym (all_seen_both x (block_sites x inner scope a) (block_sites x inner scope b) (exprs_seen x (expr_sites s [] c ++ []) (stmt_site_seen x s f)))
  stmt_agrees x around scope f (While at c a) =
      let s : StmtSite = record { around = around; scope = scope; stmt = While at c a } in
      let inner = WhileTurn at scope c ∷ around in
      let i = while_inside (standing_in x around) c in
      let seen = turns_walked x (standing_in x around) scope (stmt_site_seen x s f) c in
      let is = ap (λ q. expr_walked x scope q i (stmt_site_seen x s f) c) (around_own x s c) ∙ whole_agrees x s i (stmt_site_seen x s f) c refl in
      ap (λ t. block_walked x t scope seen a) (while_told x around scope at c)
      ∙ block_agrees x inner scope seen a ∙ ap (all_seen x (block_sites x inner scope a)) is
  stmt_agrees x around scope f (For at name e a) =
      let s : StmtSite = record { around = around; scope = scope; stmt = For at name e a } in
      let inner = Turn at scope e a ∷ around in
      let opened = with_variable scope name (turn_role x around scope e a) at in
      let i = whole_inside (standing_in x around) (over_rows x e) in
      let seen = list_walked x (standing_in x around) scope (stmt_site_seen x s f) e in
      let is = ap (λ q. expr_walked x scope q i (stmt_site_seen x s f) e) (around_own x s e) ∙ whole_agrees x s i (stmt_site_seen x s f) e refl in
      ap (λ r. block_walked x (turn_standing x scope (standing_in x around) e a) (with_variable scope name r at) seen a) (role_told x around scope e a)
      ∙ ap (λ t. block_walked x t opened seen a) (turn_told x around scope at e a)
      ∙ block_agrees x inner opened seen a ∙ ap (all_seen x (block_sites x inner opened a)) is
  stmt_agrees x around scope f (Try at a name b) =
      let s : StmtSite = record { around = around; scope = scope; stmt = Try at a name b } in
      let inner = InTry at scope a name b ∷ around in
      let opened = with_variable scope name Role.Plain at in
      let seen = stmt_site_seen x s f in
      ap (λ t. block_walked x t opened (block_walked x t scope seen a) b) (try_told x around scope at a name b)
      ∙ block_agrees x inner opened (block_walked x (standing_in x inner) scope seen a) b
      ∙ ap (all_seen x (block_sites x inner opened b)) (block_agrees x inner scope seen a)
      ∙ sym (all_seen_both x (block_sites x inner scope a) (block_sites x inner opened b) seen)
  stmt_agrees x around scope f (Batch at interface root a) =
      let s : StmtSite = record { around = around; scope = scope; stmt = Batch at interface root a } in
      block_agrees x (InBatch at ∷ around) (with_variable scope root Role.Plain at) (stmt_site_seen x s f) a

  pub block_agrees : (x : Facts) (around : List Around) (scope : Scope) (f : Findings) (ss : Stmts) → block_walked x (standing_in x around) scope f ss ≡ all_seen x (block_sites x around scope ss) f
  block_agrees x around scope f NoStmts = refl
  block_agrees x around scope f (MoreStmts s ss) =
      ap (λ t. block_walked x (standing_in x around) t (stmt_walked x (standing_in x around) scope f s) ss) (then_told x around scope s)
      ∙ block_agrees x around (scope_after x around scope s) (stmt_walked x (standing_in x around) scope f s) ss
      ∙ ap (all_seen x (block_sites x around (scope_after x around scope s) ss)) (stmt_agrees x around scope f s)
      ∙ sym (all_seen_both x (sites x around scope s) (block_sites x around (scope_after x around scope s) ss) f)
