-- What is gathered of what expressions and statements read is what their sites read.
use Rattle.std.proofs.Common.{◌≡◌, ℕ, List, [], ◌∷◌, ◌++◌, Bool, true, false, cond, ◌||◌, Option, Some, None, refl, sym, ap, ◌∙◌, append_assoc}
use Rattle.std.proofs.lemmas.List.{append-nil}
use Rattle.std.proofs.lemmas.Grind.{flat_map-append}
use Rattle.std.specs.List.{flat_map}
use Rattle.std.specs.Str.{bytes_eq}
use Rattle.rb_trees.specs.mirror.Code.{Expr, Exprs, Lit, Name, This, Unary, Binary, Field, Call, Index, New, Items, Taken, NoExprs, MoreExprs, Stmt, Stmts, Val, Var, Assign, Run, Print, Throw, If, While, For, Try, Batch, NoStmts, MoreStmts}
use Rattle.rb_meaning_flow.specs.declared.scopes.Role.{Role}
use Rattle.rb_meaning_flow.specs.declared.scopes.Variable.{Variable}
use Rattle.rb_meaning_flow.specs.Facts.{Facts}
use Rattle.rb_meaning_flow.specs.Scopes.{Scope, with_variable, node_in, node_of, variable_named}
use Rattle.rb_meaning_flow.specs.Sites.{Around, Branch, WhileTurn, Turn, InTry, InBatch, StmtSite, Over, ExprSite, expr_sites, exprs_sites, own, all_sites, sites, block_sites, scope_after, turn_role, exprs_of}
use Rattle.rb_meaning_flow.specs.Flow.{is_call, in_call, read_here, reads_of, source_of}
use Rattle.rb_flow.specs.declared.standing.Reading.{Reading}
use Rattle.rb_flow.specs.Readings.{nothing, joined, read_by, source_here, itself_read, in_call_of, expr_read, exprs_read, whole_read, scope_read, stmt_read, block_read}

abbrev reading : List ℕ → List ℕ → Reading
reading nodes sources = record { nodes = nodes; sources = sources }

pub reading_same : {as' bs cs ds : List ℕ} → as' ≡ bs → cs ≡ ds → reading as' cs ≡ reading bs ds
reading_same {as'} {bs} {cs} {ds} e f = ap (λ n. reading n cs) e ∙ ap (reading bs) f

pub joined_assoc : (a b c : Reading) → joined (joined a b) c ≡ joined a (joined b c)
joined_assoc a b c = reading_same (append_assoc a.nodes b.nodes c.nodes) (append_assoc a.sources b.sources c.sources)

pub joined_nothing : (x : Facts) (r : Reading) → joined r (read_by x []) ≡ r
joined_nothing x r = reading_same (append-nil r.nodes) (append-nil r.sources)

pub read_both : (x : Facts) (as' bs : List ExprSite) → read_by x (as' ++ bs) ≡ joined (read_by x as') (read_by x bs)
read_both x as' bs = reading_same (flat_map-append (reads_of x) as' bs) (flat_map-append (source_of x) as' bs)

-- scopes in which each name has the same node
pub SameNodes : Scope → Scope → Type 0
SameNodes a b = (name : List ℕ) → node_of a name ≡ node_of b name

or_node : List ℕ → List ℕ → List ℕ
or_node [] ys = ys
or_node (x ∷ xs) ys = x ∷ xs

node_step : (b : Bool) (v : Variable) (o p : Option Variable) (ys : List ℕ) → node_in o ≡ or_node (node_in p) ys → node_in (cond b (Some v) o) ≡ or_node (node_in (cond b (Some v) p)) ys
unfolding or_node
node_step true v o p ys h = refl
node_step false v o p ys h = h

node_new : (b : Bool) (v : Variable) → node_in (cond b (Some v) None) ≡ cond b (v.node ∷ []) []
node_new true v = refl
node_new false v = refl

node_more : (scope : Scope) (name : List ℕ) (role : Role) (node : ℕ) (n : List ℕ) → node_of (with_variable scope name role node) n ≡ or_node (node_of scope n) (cond (bytes_eq name n) (node ∷ []) [])
unfolding or_node
node_more [] name role node n = node_new (bytes_eq name n) (record { name = name; role = role; node = node })
node_more (v ∷ vs) name role node n = node_step (bytes_eq v.name n) v _ (variable_named vs n) _ (node_more vs name role node n)

pub same_more : (a b : Scope) (name : List ℕ) (r q : Role) (node : ℕ) → SameNodes a b → SameNodes (with_variable a name r node) (with_variable b name q node)
unfolding SameNodes
same_more a b name r q node h n = node_more a name r node n ∙ ap (λ o. or_node o (cond (bytes_eq name n) (node ∷ []) [])) (h n) ∙ sym (node_more b name q node n)

pub same_scope : (a : Scope) → SameNodes a a
unfolding SameNodes
same_scope a n = refl

here_same : (x : Facts) (a b : Scope) (e : Expr) → SameNodes a b → read_here x a e ≡ read_here x b e
unfolding SameNodes
here_same x a b (Lit at value) h = refl
here_same x a b (Name at name) h = h name
here_same x a b (This at) h = refl
here_same x a b (Unary at op o) h = refl
here_same x a b (Binary at op o p) h = refl
here_same x a b (Field at o name) h = refl
here_same x a b (Call at o method orgs) h = refl
here_same x a b (Index at o p) h = refl
here_same x a b (New at class orgs) h = refl
here_same x a b (Items at item items) h = refl
here_same x a b (Taken at step) h = refl

-- an expression itself reads what its site reads
itself_is : (x : Facts) (s : StmtSite) (above : List Over) (scope : Scope) (called : Bool) (r : Reading) (e : Expr) → SameNodes scope s.scope → called ≡ in_call x above
    → itself_read x scope called r e ≡ reading (r.nodes ++ read_here x s.scope e) (r.sources ++ source_here x (in_call x above) e)
itself_is x s above scope called r e n h = reading_same (ap (λ xs. r.nodes ++ xs) (here_same x scope s.scope e n)) (ap (λ b. r.sources ++ source_here x b e) h)

itself_more : (x : Facts) (s : StmtSite) (above : List Over) (scope : Scope) (called : Bool) (r : Reading) (e : Expr) (es : List ExprSite) → SameNodes scope s.scope → called ≡ in_call x above
    → joined (itself_read x scope called r e) (read_by x es) ≡ joined r (read_by x (record { stands = s; above = above; expr = e } ∷ es))
itself_more x s above scope called r e es n h =
    ap (λ q. joined q (read_by x es)) (itself_is x s above scope called r e n h)
    ∙ reading_same (append_assoc r.nodes (read_here x s.scope e) (flat_map (reads_of x) es)) (append_assoc r.sources (source_here x (in_call x above) e) (flat_map (source_of x) es))

itself_alone : (x : Facts) (s : StmtSite) (above : List Over) (scope : Scope) (called : Bool) (r : Reading) (e : Expr) → SameNodes scope s.scope → called ≡ in_call x above
    → itself_read x scope called r e ≡ joined r (read_by x (record { stands = s; above = above; expr = e } ∷ []))
itself_alone x s above scope called r e n h = sym (joined_nothing x (itself_read x scope called r e)) ∙ itself_more x s above scope called r e [] n h

-- and then the parts
two_more : (x : Facts) (s : StmtSite) (above : List Over) (scope : Scope) (called : Bool) (r : Reading) (e : Expr) (as' bs : List ExprSite) → SameNodes scope s.scope → called ≡ in_call x above
    → joined (joined (itself_read x scope called r e) (read_by x as')) (read_by x bs) ≡ joined r (read_by x (record { stands = s; above = above; expr = e } ∷ (as' ++ bs)))
two_more x s above scope called r e as' bs n h =
    joined_assoc (itself_read x scope called r e) (read_by x as') (read_by x bs) ∙ ap (joined (itself_read x scope called r e)) (sym (read_both x as' bs))
    ∙ itself_more x s above scope called r e (as' ++ bs) n h

mutual
  pub expr_read_sites : (x : Facts) (s : StmtSite) (above : List Over) (scope : Scope) (called : Bool) (r : Reading) (e : Expr) → SameNodes scope s.scope → called ≡ in_call x above
      → expr_read x scope called r e ≡ joined r (read_by x (expr_sites s above e))
  expr_read_sites x s above scope called r (Lit at value) n h = itself_alone x s above scope called r (Lit at value) n h
  expr_read_sites x s above scope called r (Name at name) n h = itself_alone x s above scope called r (Name at name) n h
  expr_read_sites x s above scope called r (This at) n h = itself_alone x s above scope called r (This at) n h
  expr_read_sites x s above scope called r (Unary at op a) n h =
      let e : Expr = Unary at op a in
      let deeper : in_call_of x called e ≡ in_call x (record { expr = e; right = false } ∷ above) = ap (λ b. is_call x e || b) h in
      let me = itself_read x scope called r e in
      expr_read_sites x s (record { expr = e; right = false } ∷ above) scope (in_call_of x called e) me a n deeper
      ∙ itself_more x s above scope called r e (expr_sites s (record { expr = e; right = false } ∷ above) a) n h
  expr_read_sites x s above scope called r (Binary at op a b) n h =
      let e : Expr = Binary at op a b in
      let deeper : in_call_of x called e ≡ in_call x (record { expr = e; right = false } ∷ above) = ap (λ b. is_call x e || b) h in
      let me = itself_read x scope called r e in
      expr_read_sites x s (record { expr = e; right = true } ∷ above) scope (in_call_of x called e) (expr_read x scope (in_call_of x called e) me a) b n deeper
      ∙ ap (λ q. joined q (read_by x (expr_sites s (record { expr = e; right = true } ∷ above) b))) (expr_read_sites x s (record { expr = e; right = false } ∷ above) scope (in_call_of x called e) me a n deeper)
      ∙ two_more x s above scope called r e (expr_sites s (record { expr = e; right = false } ∷ above) a) (expr_sites s (record { expr = e; right = true } ∷ above) b) n h
  expr_read_sites x s above scope called r (Field at a name) n h =
      let e : Expr = Field at a name in
      let deeper : in_call_of x called e ≡ in_call x (record { expr = e; right = false } ∷ above) = ap (λ b. is_call x e || b) h in
      let me = itself_read x scope called r e in
      expr_read_sites x s (record { expr = e; right = false } ∷ above) scope (in_call_of x called e) me a n deeper
      ∙ itself_more x s above scope called r e (expr_sites s (record { expr = e; right = false } ∷ above) a) n h
  expr_read_sites x s above scope called r (Call at a method args) n h =
      let e : Expr = Call at a method args in
      let deeper : in_call_of x called e ≡ in_call x (record { expr = e; right = false } ∷ above) = ap (λ b. is_call x e || b) h in
      let me = itself_read x scope called r e in
      exprs_read_sites x s (record { expr = e; right = false } ∷ above) scope (in_call_of x called e) (expr_read x scope (in_call_of x called e) me a) args n deeper
      ∙ ap (λ q. joined q (read_by x (exprs_sites s (record { expr = e; right = false } ∷ above) args))) (expr_read_sites x s (record { expr = e; right = false } ∷ above) scope (in_call_of x called e) me a n deeper)
      ∙ two_more x s above scope called r e (expr_sites s (record { expr = e; right = false } ∷ above) a) (exprs_sites s (record { expr = e; right = false } ∷ above) args) n h
  expr_read_sites x s above scope called r (Index at a b) n h =
      let e : Expr = Index at a b in
      let deeper : in_call_of x called e ≡ in_call x (record { expr = e; right = false } ∷ above) = ap (λ b. is_call x e || b) h in
      let me = itself_read x scope called r e in
      expr_read_sites x s (record { expr = e; right = false } ∷ above) scope (in_call_of x called e) (expr_read x scope (in_call_of x called e) me a) b n deeper
      ∙ ap (λ q. joined q (read_by x (expr_sites s (record { expr = e; right = false } ∷ above) b))) (expr_read_sites x s (record { expr = e; right = false } ∷ above) scope (in_call_of x called e) me a n deeper)
      ∙ two_more x s above scope called r e (expr_sites s (record { expr = e; right = false } ∷ above) a) (expr_sites s (record { expr = e; right = false } ∷ above) b) n h
  expr_read_sites x s above scope called r (New at class args) n h =
      let e : Expr = New at class args in
      let deeper : in_call_of x called e ≡ in_call x (record { expr = e; right = false } ∷ above) = ap (λ b. is_call x e || b) h in
      let me = itself_read x scope called r e in
      exprs_read_sites x s (record { expr = e; right = false } ∷ above) scope (in_call_of x called e) me args n deeper
      ∙ itself_more x s above scope called r e (exprs_sites s (record { expr = e; right = false } ∷ above) args) n h
  expr_read_sites x s above scope called r (Items at item items) n h =
      let e : Expr = Items at item items in
      let deeper : in_call_of x called e ≡ in_call x (record { expr = e; right = false } ∷ above) = ap (λ b. is_call x e || b) h in
      let me = itself_read x scope called r e in
      exprs_read_sites x s (record { expr = e; right = false } ∷ above) scope (in_call_of x called e) me items n deeper
      ∙ itself_more x s above scope called r e (exprs_sites s (record { expr = e; right = false } ∷ above) items) n h
  expr_read_sites x s above scope called r (Taken at step) n h = itself_alone x s above scope called r (Taken at step) n h

  exprs_read_sites : (x : Facts) (s : StmtSite) (above : List Over) (scope : Scope) (called : Bool) (r : Reading) (es : Exprs) → SameNodes scope s.scope → called ≡ in_call x above
      → exprs_read x scope called r es ≡ joined r (read_by x (exprs_sites s above es))
  exprs_read_sites x s above scope called r NoExprs n h = sym (joined_nothing x r)
  exprs_read_sites x s above scope called r (MoreExprs e es) n h =
      exprs_read_sites x s above scope called (expr_read x scope called r e) es n h
      ∙ ap (λ q. joined q (read_by x (exprs_sites s above es))) (expr_read_sites x s above scope called r e n h)
      ∙ joined_assoc r (read_by x (expr_sites s above e)) (read_by x (exprs_sites s above es)) ∙ ap (joined r) (sym (read_both x (expr_sites s above e) (exprs_sites s above es)))

-- what an expression reads, and what is read around it
pub around_more : (x : Facts) (s : StmtSite) (es : List ExprSite) (e : Expr) → whole_read x s.scope (read_by x es) e ≡ read_by x (expr_sites s [] e ++ es)
around_more x s es e =
    ap (λ q. joined q (read_by x es)) (expr_read_sites x s [] s.scope false nothing e (same_scope s.scope) refl) ∙ sym (read_both x (expr_sites s [] e) es)

-- the expressions of statements, one list after the other
pub exprs_both : (as' bs : List StmtSite) → exprs_of (as' ++ bs) ≡ exprs_of as' ++ exprs_of bs
exprs_both [] bs = refl
exprs_both (s ∷ as') bs = ap (λ es. all_sites s (own s.stmt) ++ es) (exprs_both as' bs) ∙ sym (append_assoc (all_sites s (own s.stmt)) (exprs_of as') (exprs_of bs))

-- what one expression reads, and then what others read
then_more : (x : Facts) (r : Reading) (es fs gs : List ExprSite) → gs ≡ es ++ fs → joined (joined r (read_by x es)) (read_by x fs) ≡ joined r (read_by x gs)
then_more x r es fs gs e = joined_assoc r (read_by x es) (read_by x fs) ∙ ap (joined r) (sym (read_both x es fs) ∙ ap (read_by x) (sym e))

own_one : (es fs : List ExprSite) → (es ++ []) ++ fs ≡ es ++ fs
own_one es fs = ap (λ gs. gs ++ fs) (append-nil es)

-- what an own expression of a statement reads
own_read : (x : Facts) (s : StmtSite) (scope : Scope) (r : Reading) (e : Expr) (ss : List StmtSite) → SameNodes scope s.scope
    → joined (expr_read x scope false r e) (read_by x (exprs_of ss)) ≡ joined r (read_by x ((expr_sites s [] e ++ []) ++ exprs_of ss))
own_read x s scope r e ss n =
    ap (λ q. joined q (read_by x (exprs_of ss))) (expr_read_sites x s [] scope false r e n refl)
    ∙ then_more x r (expr_sites s [] e) (exprs_of ss) ((expr_sites s [] e ++ []) ++ exprs_of ss) (own_one (expr_sites s [] e) (exprs_of ss))

own_alone : (x : Facts) (s : StmtSite) (scope : Scope) (r : Reading) (e : Expr) → SameNodes scope s.scope
    → expr_read x scope false r e ≡ joined r (read_by x ((expr_sites s [] e ++ []) ++ []))
own_alone x s scope r e n = sym (joined_nothing x (expr_read x scope false r e)) ∙ own_read x s scope r e [] n

-- the scope after a statement has the same nodes, whatever the roles are
after_same : (x : Facts) (around : List Around) (a b : Scope) (s : Stmt) → SameNodes a b → SameNodes (scope_read a s) (scope_after x around b s)
after_same x around a b (Val at name e) n = same_more a b name _ _ at n
after_same x around a b (Var at name e) n = same_more a b name _ _ at n
after_same x around a b (Assign at c d) n = n
after_same x around a b (Run at e) n = n
after_same x around a b (Print at e) n = n
after_same x around a b (Throw at e) n = n
after_same x around a b (If at c d e) n = n
after_same x around a b (While at c d) n = n
after_same x around a b (For at name e d) n = n
after_same x around a b (Try at c name d) n = n
after_same x around a b (Batch at interface root c) n = n

mutual
  pub stmt_read_sites : (x : Facts) (around : List Around) (scope outer : Scope) (r : Reading) (s : Stmt) → SameNodes scope outer
      → stmt_read x scope r s ≡ joined r (read_by x (exprs_of (sites x around outer s)))
  stmt_read_sites x around scope outer r (Val at name e) n = own_alone x (record { around = around; scope = outer; stmt = Val at name e }) scope r e n
  stmt_read_sites x around scope outer r (Var at name e) n = own_alone x (record { around = around; scope = outer; stmt = Var at name e }) scope r e n
  stmt_read_sites x around scope outer r (Run at e) n = own_alone x (record { around = around; scope = outer; stmt = Run at e }) scope r e n
  stmt_read_sites x around scope outer r (Print at e) n = own_alone x (record { around = around; scope = outer; stmt = Print at e }) scope r e n
  stmt_read_sites x around scope outer r (Throw at e) n = own_alone x (record { around = around; scope = outer; stmt = Throw at e }) scope r e n
  stmt_read_sites x around scope outer r (Assign at a b) n =
      let s : StmtSite = record { around = around; scope = outer; stmt = Assign at a b } in
      own_alone x s scope (expr_read x scope false r a) b n
      ∙ ap (λ q. joined q (read_by x ((expr_sites s [] b ++ []) ++ []))) (expr_read_sites x s [] scope false r a n refl)
      ∙ then_more x r (expr_sites s [] a) ((expr_sites s [] b ++ []) ++ []) ((expr_sites s [] a ++ (expr_sites s [] b ++ [])) ++ []) (append_assoc (expr_sites s [] a) (expr_sites s [] b ++ []) [])
  stmt_read_sites x around scope outer r (If at c a b) n =
      let s : StmtSite = record { around = around; scope = outer; stmt = If at c a b } in
      let as' = block_sites x (Branch at outer c a b ∷ around) outer a in
      let bs = block_sites x (Branch at outer c a b ∷ around) outer b in
      block_read_sites x (Branch at outer c a b ∷ around) scope outer (block_read x scope (expr_read x scope false r c) a) b n
      ∙ ap (λ q. joined q (read_by x (exprs_of bs))) (block_read_sites x (Branch at outer c a b ∷ around) scope outer (expr_read x scope false r c) a n)
      ∙ then_more x (expr_read x scope false r c) (exprs_of as') (exprs_of bs) (exprs_of (as' ++ bs)) (exprs_both as' bs)
      ∙ own_read x s scope r c (as' ++ bs) n
  stmt_read_sites x around scope outer r (While at c a) n =
      block_read_sites x (WhileTurn at outer c ∷ around) scope outer (expr_read x scope false r c) a n
      ∙ own_read x (record { around = around; scope = outer; stmt = While at c a }) scope r c (block_sites x (WhileTurn at outer c ∷ around) outer a) n
  stmt_read_sites x around scope outer r (For at name e a) n =
      block_read_sites x (Turn at outer e a ∷ around) (with_variable scope name Role.Plain at) (with_variable outer name (turn_role x around outer e a) at) (expr_read x scope false r e) a (same_more scope outer name Role.Plain (turn_role x around outer e a) at n)
      ∙ own_read x (record { around = around; scope = outer; stmt = For at name e a }) scope r e (block_sites x (Turn at outer e a ∷ around) (with_variable outer name (turn_role x around outer e a) at) a) n
  stmt_read_sites x around scope outer r (Try at a name b) n =
      let as' = block_sites x (InTry at outer a name b ∷ around) outer a in
      let bs = block_sites x (InTry at outer a name b ∷ around) (with_variable outer name Role.Plain at) b in
      block_read_sites x (InTry at outer a name b ∷ around) (with_variable scope name Role.Plain at) (with_variable outer name Role.Plain at) (block_read x scope r a) b (same_more scope outer name Role.Plain Role.Plain at n)
      ∙ ap (λ q. joined q (read_by x (exprs_of bs))) (block_read_sites x (InTry at outer a name b ∷ around) scope outer r a n)
      ∙ then_more x r (exprs_of as') (exprs_of bs) (exprs_of (as' ++ bs)) (exprs_both as' bs)
  stmt_read_sites x around scope outer r (Batch at interface root a) n =
      block_read_sites x (InBatch at ∷ around) (with_variable scope root Role.Plain at) (with_variable outer root Role.Plain at) r a (same_more scope outer root Role.Plain Role.Plain at n)

  pub block_read_sites : (x : Facts) (around : List Around) (scope outer : Scope) (r : Reading) (ss : Stmts) → SameNodes scope outer
      → block_read x scope r ss ≡ joined r (read_by x (exprs_of (block_sites x around outer ss)))
  block_read_sites x around scope outer r NoStmts n = sym (joined_nothing x r)
  block_read_sites x around scope outer r (MoreStmts s ss) n =
      let firsts = sites x around outer s in
      let rest = block_sites x around (scope_after x around outer s) ss in
      block_read_sites x around (scope_read scope s) (scope_after x around outer s) (stmt_read x scope r s) ss (after_same x around scope outer s n)
      ∙ ap (λ q. joined q (read_by x (exprs_of rest))) (stmt_read_sites x around scope outer r s n)
      ∙ then_more x r (exprs_of firsts) (exprs_of rest) (exprs_of (firsts ++ rest)) (exprs_both firsts rest)
