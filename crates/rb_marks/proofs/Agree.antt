-- The walk through a batch gives the marks of all its sites.
use Rattle.std.proofs.Common.{◌≡◌, ℕ, List, [], ◌∷◌, ◌++◌, map, Bool, true, false, cond, ◌&&◌, ◌||◌, refl, sym, ap, ◌∙◌, append_assoc}
use Rattle.std.proofs.lemmas.List.{append-nil, map-append}
use Rattle.std.specs.List.{list_any}
use Rattle.rb_trees.specs.declared.marks.Mark.{Mark}
use Rattle.rb_trees.specs.mirror.Code.{Expr, Exprs, Lit, Name, This, Unary, Binary, Field, Call, Index, New, Items, Taken, NoExprs, MoreExprs, expr_at, Stmt, Stmts, Val, Var, Assign, Run, Print, Throw, If, While, For, Try, Batch, NoStmts, MoreStmts}
use Rattle.rb_meaning_flow.specs.declared.scopes.Role.{Role}
use Rattle.rb_meaning_flow.specs.Facts.{Facts, over_rows}
use Rattle.rb_meaning_flow.specs.Scopes.{Scope, with_variable, role_with, variable_with, scope_with}
use Rattle.rb_meaning_flow.specs.Portable.{portable, branches_hold, may_carry, has_far_turns}
use Rattle.rb_meaning_flow.specs.Sites.{Around, Branch, WhileTurn, Turn, InTry, InBatch, is_script_place, StmtSite, Over, ExprSite, expr_sites, exprs_sites, all_sites, own, sites, block_sites, exprs_of, scope_after, turn_role}
use Rattle.rb_meaning_flow.specs.Marks.{is_portable_call, is_remote_whole, is_remote_at, mark_at, marks_of}
use Rattle.rb_marks.specs.Passes as passes
use Rattle.rb_marks.specs.Passes.{Marked, inner, note, marked, all_marked, turn_script, scope_then, stmt_marked, block_marked}
use Rattle.rb_marks.proofs.Joined.{with_one, with_two, joined, none}

abbrev mark_note : Facts → ExprSite → ℕ × Mark
mark_note x s = (expr_at s.expr, mark_at x s)

-- whether its statement and the expressions above an expression make it Remote
abbrev told : Facts → StmtSite → List Over → Bool
told x s above = is_remote_whole x s.around s.stmt || list_any (λ o. is_portable_call x s.scope o.expr) above

turn_over : (w l t : Bool) → ((w || l) || t) ≡ (w || (t || l))
turn_over true l t = refl
turn_over false true true = refl
turn_over false true false = refl
turn_over false false true = refl
turn_over false false false = refl

-- the flag of the walk tells it
inner_told : (x : Facts) (s : StmtSite) (above : List Over) (inside : Bool) (e : Expr) → inside ≡ told x s above
    → inner x s.scope inside e ≡ is_remote_at x (record { stands = s; above = above; expr = e })
inner_told x s above inside e h = ap (λ b. b || is_portable_call x s.scope e) h
    ∙ turn_over (is_remote_whole x s.around s.stmt) (list_any (λ o. is_portable_call x s.scope o.expr) above) (is_portable_call x s.scope e)

-- the note of an expression is that of its site
note_told : (x : Facts) (s : StmtSite) (above : List Over) (inside : Bool) (notes : Marked) (e : Expr) → inside ≡ told x s above
    → note s.scope (inner x s.scope inside e) notes e ≡ notes ++ mark_note x (record { stands = s; above = above; expr = e }) ∷ []
note_told x s above inside notes e h = ap (λ b. note s.scope b notes e) (inner_told x s above inside e h)

mutual
  marked_sites : (x : Facts) (s : StmtSite) (above : List Over) (inside : Bool) (notes : Marked) (e : Expr) → inside ≡ told x s above
      → marked x s.scope inside notes e ≡ notes ++ map (mark_note x) (expr_sites s above e)
  marked_sites x s above inside notes (Lit at value) h = note_told x s above inside notes (Lit at value) h
  marked_sites x s above inside notes (Name at name) h = note_told x s above inside notes (Name at name) h
  marked_sites x s above inside notes (This at) h = note_told x s above inside notes (This at) h
  marked_sites x s above inside notes (Unary at op a) h =
      let e : Expr = Unary at op a in
      let o : Over = record { expr = e; right = false } in
      let f = inner_told x s above inside e h in
      marked_sites x s (o ∷ above) (inner x s.scope inside e) (note s.scope (inner x s.scope inside e) notes e) a f
      ∙ ap (λ ns. ns ++ map (mark_note x) (expr_sites s (o ∷ above) a)) (note_told x s above inside notes e h)
      ∙ with_one (mark_note x) notes _ (expr_sites s (o ∷ above) a)
  marked_sites x s above inside notes (Binary at op a b) h =
      let e : Expr = Binary at op a b in
      let o : Over = record { expr = e; right = false } in
      let q : Over = record { expr = e; right = true } in
      let f = inner_told x s above inside e h in
      marked_sites x s (q ∷ above) (inner x s.scope inside e) (marked x s.scope (inner x s.scope inside e) (note s.scope (inner x s.scope inside e) notes e) a) b f
      ∙ ap (λ ns. ns ++ map (mark_note x) (expr_sites s (q ∷ above) b))
      (marked_sites x s (o ∷ above) (inner x s.scope inside e) (note s.scope (inner x s.scope inside e) notes e) a f
      ∙ ap (λ ns. ns ++ map (mark_note x) (expr_sites s (o ∷ above) a)) (note_told x s above inside notes e h))
      ∙ with_two (mark_note x) notes _ (expr_sites s (o ∷ above) a) (expr_sites s (q ∷ above) b)
  marked_sites x s above inside notes (Field at a name) h =
      let e : Expr = Field at a name in
      let o : Over = record { expr = e; right = false } in
      let f = inner_told x s above inside e h in
      marked_sites x s (o ∷ above) (inner x s.scope inside e) (note s.scope (inner x s.scope inside e) notes e) a f
      ∙ ap (λ ns. ns ++ map (mark_note x) (expr_sites s (o ∷ above) a)) (note_told x s above inside notes e h)
      ∙ with_one (mark_note x) notes _ (expr_sites s (o ∷ above) a)
  marked_sites x s above inside notes (Call at a method args) h =
      let e : Expr = Call at a method args in
      let o : Over = record { expr = e; right = false } in
      let q : Over = record { expr = e; right = false } in
      let f = inner_told x s above inside e h in
      all_marked_sites x s e false above (inner x s.scope inside e) (marked x s.scope (inner x s.scope inside e) (note s.scope (inner x s.scope inside e) notes e) a) args f
      ∙ ap (λ ns. ns ++ map (mark_note x) (exprs_sites s (q ∷ above) args))
      (marked_sites x s (o ∷ above) (inner x s.scope inside e) (note s.scope (inner x s.scope inside e) notes e) a f
      ∙ ap (λ ns. ns ++ map (mark_note x) (expr_sites s (o ∷ above) a)) (note_told x s above inside notes e h))
      ∙ with_two (mark_note x) notes _ (expr_sites s (o ∷ above) a) (exprs_sites s (q ∷ above) args)
  marked_sites x s above inside notes (Index at a b) h =
      let e : Expr = Index at a b in
      let o : Over = record { expr = e; right = false } in
      let q : Over = record { expr = e; right = false } in
      let f = inner_told x s above inside e h in
      marked_sites x s (q ∷ above) (inner x s.scope inside e) (marked x s.scope (inner x s.scope inside e) (note s.scope (inner x s.scope inside e) notes e) a) b f
      ∙ ap (λ ns. ns ++ map (mark_note x) (expr_sites s (q ∷ above) b))
      (marked_sites x s (o ∷ above) (inner x s.scope inside e) (note s.scope (inner x s.scope inside e) notes e) a f
      ∙ ap (λ ns. ns ++ map (mark_note x) (expr_sites s (o ∷ above) a)) (note_told x s above inside notes e h))
      ∙ with_two (mark_note x) notes _ (expr_sites s (o ∷ above) a) (expr_sites s (q ∷ above) b)
  marked_sites x s above inside notes (New at class args) h =
      let e : Expr = New at class args in
      let o : Over = record { expr = e; right = false } in
      let f = inner_told x s above inside e h in
      all_marked_sites x s e false above (inner x s.scope inside e) (note s.scope (inner x s.scope inside e) notes e) args f
      ∙ ap (λ ns. ns ++ map (mark_note x) (exprs_sites s (o ∷ above) args)) (note_told x s above inside notes e h)
      ∙ with_one (mark_note x) notes _ (exprs_sites s (o ∷ above) args)
  marked_sites x s above inside notes (Items at item items) h =
      let e : Expr = Items at item items in
      let o : Over = record { expr = e; right = false } in
      let f = inner_told x s above inside e h in
      all_marked_sites x s e false above (inner x s.scope inside e) (note s.scope (inner x s.scope inside e) notes e) items f
      ∙ ap (λ ns. ns ++ map (mark_note x) (exprs_sites s (o ∷ above) items)) (note_told x s above inside notes e h)
      ∙ with_one (mark_note x) notes _ (exprs_sites s (o ∷ above) items)
  marked_sites x s above inside notes (Taken at step) h = note_told x s above inside notes (Taken at step) h

  -- the same for the parts of an expression in a list
  all_marked_sites : (x : Facts) (s : StmtSite) (p : Expr) (right : Bool) (above : List Over) (inside : Bool) (notes : Marked) (es : Exprs)
      → inside ≡ told x s (record { expr = p; right = right } ∷ above)
      → all_marked x s.scope inside notes es ≡ notes ++ map (mark_note x) (exprs_sites s (record { expr = p; right = right } ∷ above) es)
  all_marked_sites x s p right above inside notes NoExprs h = none (mark_note x) notes
  all_marked_sites x s p right above inside notes (MoreExprs e es) h =
      let o : Over = record { expr = p; right = right } in
      all_marked_sites x s p right above inside (marked x s.scope inside notes e) es h
      ∙ ap (λ ns. ns ++ map (mark_note x) (exprs_sites s (o ∷ above) es)) (marked_sites x s (o ∷ above) inside notes e h)
      ∙ joined (mark_note x) notes (expr_sites s (o ∷ above) e) (exprs_sites s (o ∷ above) es)

or_false : (b : Bool) → b ≡ (b || false)
or_false true = refl
or_false false = refl

-- a variable of the batch is to it what it was bound as
inner_role : (assigned : List (List ℕ)) (name : List ℕ) (b : Bool) (role other : Role) → role_with assigned name role ≡ role → role_with assigned name other ≡ other
    → role_with assigned name (cond b role other) ≡ cond b role other
inner_role assigned name true role other e f = e
inner_role assigned name false role other e f = f

pub bound : (assigned : List (List ℕ)) (scope : Scope) (name : List ℕ) (role : Role) (node : ℕ) → role_with assigned name role ≡ role
    → scope_with assigned (with_variable scope name role node) ≡ with_variable (scope_with assigned scope) name role node
bound assigned scope name role node e = map-append (variable_with assigned) scope _ ∙ ap (λ r. with_variable (scope_with assigned scope) name r node) e

-- the block of a loop over rows, or of one that may be carried, is a script place where the loop stands at one
turn_cases : (rows script may : Bool) → passes.turn_role rows (script && (rows || may)) ≡ cond (rows || (script && may)) Role.Row Role.Plain
turn_cases true script may = refl
turn_cases false script may = refl

pub turn_bound : (x : Facts) (assigned : List (List ℕ)) (script : Bool) (around : List Around) (scope : Scope) (name : List ℕ) (list : Expr) (block : Stmts) (node : ℕ) → script ≡ is_script_place x around
    → scope_with assigned (with_variable scope name (passes.turn_role (over_rows x list) (turn_script x script (scope_with assigned scope) list block)) node)
    ≡ with_variable (scope_with assigned scope) name (turn_role x around (scope_with assigned scope) list block) node
turn_bound x assigned script around scope name list block node h =
    let seen : Scope = scope_with assigned scope in
    bound assigned scope name _ node (inner_role assigned name (over_rows x list || turn_script x script seen list block) Role.Row Role.Plain refl refl)
    ∙ ap (λ r. with_variable seen name r node) (turn_cases (over_rows x list) script (may_carry x seen list block)
    ∙ ap (λ t. cond (over_rows x list || (t && may_carry x seen list block)) Role.Row Role.Plain) h)

pub then_after : (x : Facts) (assigned : List (List ℕ)) (script : Bool) (around : List Around) (scope : Scope) (s : Stmt) → script ≡ is_script_place x around
    → scope_with assigned (scope_then x assigned script scope s) ≡ scope_after x around (scope_with assigned scope) s
then_after x assigned script around scope (Val at name e) h =
    bound assigned scope name _ at (inner_role assigned name (script && portable x (scope_with assigned scope) e) Role.Carried Role.Plain refl refl)
    ∙ ap (λ b. with_variable (scope_with assigned scope) name (cond (b && portable x (scope_with assigned scope) e) Role.Carried Role.Plain) at) h
then_after x assigned script around scope (Var at name e) h = bound assigned scope name Role.Plain at refl
then_after x assigned script around scope (Assign at a b) h = refl
then_after x assigned script around scope (Run at e) h = refl
then_after x assigned script around scope (Print at e) h = refl
then_after x assigned script around scope (Throw at e) h = refl
then_after x assigned script around scope (If at c a b) h = refl
then_after x assigned script around scope (While at c a) h = refl
then_after x assigned script around scope (For at name e a) h = refl
then_after x assigned script around scope (Try at a name b) h = refl
then_after x assigned script around scope (Batch at interface root a) h = refl

-- the expressions of statements behind others
pub exprs_append : (ss ts : List StmtSite) → exprs_of (ss ++ ts) ≡ exprs_of ss ++ exprs_of ts
exprs_append [] ts = refl
exprs_append (s ∷ ss) ts = ap (λ es. all_sites s (own s.stmt) ++ es) (exprs_append ss ts) ∙ sym (append_assoc (all_sites s (own s.stmt)) (exprs_of ss) (exprs_of ts))

-- a statement with one expression of its own, and what stands in its blocks
one_own : (es rest : List ExprSite) → es ++ rest ≡ (es ++ []) ++ rest
one_own es rest = ap (λ zs. zs ++ rest) (sym (append-nil es))

only_own : (es : List ExprSite) → es ≡ (es ++ []) ++ []
only_own es = sym (append-nil es) ∙ sym (append-nil (es ++ []))

both_own : (es fs : List ExprSite) → es ++ fs ≡ (es ++ (fs ++ [])) ++ []
both_own es fs = ap (λ zs. es ++ zs) (sym (append-nil fs)) ∙ sym (append-nil (es ++ (fs ++ [])))

own_blocks : (es : List ExprSite) (ss ts : List StmtSite) → (es ++ exprs_of ss) ++ exprs_of ts ≡ (es ++ []) ++ exprs_of (ss ++ ts)
own_blocks es ss ts = append_assoc es (exprs_of ss) (exprs_of ts) ∙ one_own es (exprs_of ss ++ exprs_of ts) ∙ ap (λ zs. (es ++ []) ++ zs) (sym (exprs_append ss ts))

-- a statement with one outermost expression, which isn't Remote by the statement
plain : (x : Facts) (s : StmtSite) (notes : Marked) (e : Expr) → false ≡ is_remote_whole x s.around s.stmt → marked x s.scope false notes e ≡ notes ++ map (mark_note x) (expr_sites s [] e)
plain x s notes e h = marked_sites x s [] false notes e (h ∙ or_false _)

abbrev noted : Facts → Marked → List ExprSite → Marked
noted x notes es = notes ++ map (mark_note x) es

mutual
  stmt_agrees : (x : Facts) (assigned : List (List ℕ)) (script : Bool) (around : List Around) (scope : Scope) (notes : Marked) (s : Stmt) → script ≡ is_script_place x around
      → stmt_marked x assigned script scope notes s ≡ noted x notes (exprs_of (sites x around (scope_with assigned scope) s))
  stmt_agrees x assigned script around scope notes (Val at name e) h =
      let s : StmtSite = record { around = around; scope = scope_with assigned scope; stmt = Val at name e } in
      plain x s notes e refl ∙ ap (noted x notes) (only_own (expr_sites s [] e))
  stmt_agrees x assigned script around scope notes (Var at name e) h =
      let s : StmtSite = record { around = around; scope = scope_with assigned scope; stmt = Var at name e } in
      plain x s notes e refl ∙ ap (noted x notes) (only_own (expr_sites s [] e))
  stmt_agrees x assigned script around scope notes (Run at e) h =
      let s : StmtSite = record { around = around; scope = scope_with assigned scope; stmt = Run at e } in
      plain x s notes e refl ∙ ap (noted x notes) (only_own (expr_sites s [] e))
  stmt_agrees x assigned script around scope notes (Print at e) h =
      let s : StmtSite = record { around = around; scope = scope_with assigned scope; stmt = Print at e } in
      plain x s notes e refl ∙ ap (noted x notes) (only_own (expr_sites s [] e))
  stmt_agrees x assigned script around scope notes (Throw at e) h =
      let s : StmtSite = record { around = around; scope = scope_with assigned scope; stmt = Throw at e } in
      plain x s notes e refl ∙ ap (noted x notes) (only_own (expr_sites s [] e))
  stmt_agrees x assigned script around scope notes (Assign at a b) h =
      let s : StmtSite = record { around = around; scope = scope_with assigned scope; stmt = Assign at a b } in
      plain x s (marked x s.scope false notes a) b refl ∙ ap (λ ns. noted x ns (expr_sites s [] b)) (plain x s notes a refl)
      ∙ joined (mark_note x) notes (expr_sites s [] a) (expr_sites s [] b)
      ∙ ap (noted x notes) (both_own (expr_sites s [] a) (expr_sites s [] b))
  stmt_agrees x assigned script around scope notes (If at c a b) h =
      let s : StmtSite = record { around = around; scope = scope_with assigned scope; stmt = If at c a b } in
      let in_branch : List Around = Branch at s.scope c a b ∷ around in
      let branch : Bool = script && branches_hold x a b in
      let is = ap (λ t. t && branches_hold x a b) h in
      let as' = block_sites x in_branch s.scope a in
      let bs = block_sites x in_branch s.scope b in
      block_agrees x assigned branch in_branch scope (block_marked x assigned branch scope (marked x s.scope branch notes c) a) b is
      ∙ ap (λ ns. noted x ns (exprs_of bs))
      (block_agrees x assigned branch in_branch scope (marked x s.scope branch notes c) a is
      ∙ ap (λ ns. noted x ns (exprs_of as')) (marked_sites x s [] branch notes c (is ∙ or_false _))
      ∙ joined (mark_note x) notes (expr_sites s [] c) (exprs_of as'))
      ∙ joined (mark_note x) notes (expr_sites s [] c ++ exprs_of as') (exprs_of bs)
      ∙ ap (noted x notes) (own_blocks (expr_sites s [] c) as' bs)
  stmt_agrees x assigned script around scope notes (While at c a) h =
      let s : StmtSite = record { around = around; scope = scope_with assigned scope; stmt = While at c a } in
      let as' = block_sites x (WhileTurn at s.scope c ∷ around) s.scope a in
      block_agrees x assigned false (WhileTurn at s.scope c ∷ around) scope (marked x s.scope false notes c) a refl
      ∙ ap (λ ns. noted x ns (exprs_of as')) (plain x s notes c refl)
      ∙ joined (mark_note x) notes (expr_sites s [] c) (exprs_of as')
      ∙ ap (noted x notes) (one_own (expr_sites s [] c) (exprs_of as'))
  stmt_agrees x assigned script around scope notes (For at name e a) h =
      let s : StmtSite = record { around = around; scope = scope_with assigned scope; stmt = For at name e a } in
      let in_turn : List Around = Turn at s.scope e a ∷ around in
      let turn : Bool = turn_script x script s.scope e a in
      let as' = block_sites x in_turn (with_variable s.scope name (turn_role x around s.scope e a) at) a in
      block_agrees x assigned turn in_turn (with_variable scope name (passes.turn_role (over_rows x e) turn) at) (marked x s.scope (over_rows x e) notes e) a (ap (λ t. t && has_far_turns x s.scope e a) h)
      ∙ ap (λ sc. noted x (marked x s.scope (over_rows x e) notes e) (exprs_of (block_sites x in_turn sc a))) (turn_bound x assigned script around scope name e a at h)
      ∙ ap (λ ns. noted x ns (exprs_of as')) (marked_sites x s [] (over_rows x e) notes e (or_false _))
      ∙ joined (mark_note x) notes (expr_sites s [] e) (exprs_of as')
      ∙ ap (noted x notes) (one_own (expr_sites s [] e) (exprs_of as'))
  stmt_agrees x assigned script around scope notes (Try at a name b) h =
      let seen : Scope = scope_with assigned scope in
      let in_try : List Around = InTry at seen a name b ∷ around in
      let as' = block_sites x in_try seen a in
      let bs = block_sites x in_try (with_variable seen name Role.Plain at) b in
      block_agrees x assigned false in_try (with_variable scope name Role.Plain at) (block_marked x assigned false scope notes a) b refl
      ∙ ap (λ sc. noted x (block_marked x assigned false scope notes a) (exprs_of (block_sites x in_try sc b))) (bound assigned scope name Role.Plain at refl)
      ∙ ap (λ ns. noted x ns (exprs_of bs)) (block_agrees x assigned false in_try scope notes a refl)
      ∙ joined (mark_note x) notes (exprs_of as') (exprs_of bs)
      ∙ ap (noted x notes) (sym (exprs_append as' bs))
  stmt_agrees x assigned script around scope notes (Batch at interface root a) h =
      block_agrees x assigned false (InBatch at ∷ around) (with_variable scope root Role.Plain at) notes a refl
      ∙ ap (λ sc. noted x notes (exprs_of (block_sites x (InBatch at ∷ around) sc a))) (bound assigned scope root Role.Plain at refl)

  pub block_agrees : (x : Facts) (assigned : List (List ℕ)) (script : Bool) (around : List Around) (scope : Scope) (notes : Marked) (ss : Stmts) → script ≡ is_script_place x around
      → block_marked x assigned script scope notes ss ≡ noted x notes (exprs_of (block_sites x around (scope_with assigned scope) ss))
  block_agrees x assigned script around scope notes NoStmts h = none (mark_note x) notes
  block_agrees x assigned script around scope notes (MoreStmts s ss) h =
      let seen : Scope = scope_with assigned scope in
      let rest = block_sites x around (scope_after x around seen s) ss in
      block_agrees x assigned script around (scope_then x assigned script scope s) (stmt_marked x assigned script scope notes s) ss h
      ∙ ap (λ sc. noted x (stmt_marked x assigned script scope notes s) (exprs_of (block_sites x around sc ss))) (then_after x assigned script around scope s h)
      ∙ ap (λ ns. noted x ns (exprs_of rest)) (stmt_agrees x assigned script around scope notes s h)
      ∙ joined (mark_note x) notes (exprs_of (sites x around seen s)) (exprs_of rest)
      ∙ ap (noted x notes) (sym (exprs_append (sites x around seen s) rest))

-- a batch that begins in a scope
pub batch_agrees : (x : Facts) (assigned : List (List ℕ)) (scope : Scope) (notes : Marked) (block : Stmts)
    → block_marked x assigned true scope notes block ≡ notes ++ marks_of x (block_sites x [] (scope_with assigned scope) block)
batch_agrees x assigned scope notes block = block_agrees x assigned true [] scope notes block refl
