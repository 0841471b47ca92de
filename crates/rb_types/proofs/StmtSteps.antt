-- The steps of statements: each goes through its expressions, then does its own, then goes through its blocks.
use Rattle.std.proofs.Common.{◌≡◌, ℕ, List, take, length, true, false, Ok, Err, refl, ap, sym, ◌∙◌}
use Rattle.rb_trees.specs.mirror.Code.{Expr, Stmt, Stmts, Val, Var, Assign, Run, Print, Throw, If, While, For, Try, Batch, NoStmts, MoreStmts}
use Rattle.rb_trees.specs.Outcome.{◌>>=◌, ◌>>◌}
use Rattle.rb_meaning_types.specs.Kinds.{Bool, Text}
use Rattle.rb_meaning_types.specs.Violations.{Checked, Placed, wanted}
use Rattle.rb_meaning_types.specs.Scopes.{Scope}
use Rattle.rb_meaning_types.specs.Declared.{Context}
use Rattle.rb_meaning_types.specs.Statements as rules
use Rattle.rb_meaning_types.specs.Statements.{placed, closed, loop_scope, catch_scope, batch_scope, check_stmt, check_stmts}
use Rattle.rb_meaning_types.specs.Notes.{Note, noted, scope_or, stmt_noted, stmts_noted}
use Rattle.rb_types.specs.Steps.{State, with_notes, with_state, behind, expr, condition, variable, assign, run, print, throw, ended, inside, block, open_turns, open_loop, open_catch, open_batch, declare, stmt, stmts}
use Rattle.rb_types.proofs.Kept as kept
use Rattle.rb_types.proofs.Kept.{Keeps, through, keeps_stmts, keeps_loop, keeps_catch, keeps_batch}

abbrev state : Scope → List Note → State
state scope ns = record { scope = scope; notes = ns }

-- a rule on what was found
told : {A : Type 0} (s : State) (r : Checked A) (f : Scope → A → Checked Scope) → with_notes s.notes (r >>= f s.scope) ≡ (with_state s r >>= λ p. with_notes p.1.notes (f p.1.scope p.0))
told s (Ok a) f = refl
told s (Err v) f = refl

told_two : {A B : Type 0} (s t : State) (r : Checked A) (q : Checked B) (f : Scope → A → B → Checked Scope) (next : State → Checked (B × State)) → next s ≡ with_state t q
    → with_notes t.notes (r >>= λ a. q >>= λ b. f t.scope a b) ≡ (with_state s r >>= λ p. next p.1 >>= λ b. with_notes b.1.notes (f b.1.scope p.0 b.0))
told_two s t (Ok a) q f next is = told t q (λ scope b. f scope a b) ∙ ap (λ n. n >>= λ b. with_notes b.1.notes (f b.1.scope a b.0)) (sym is)
told_two s t (Err v) q f next is = refl

-- a rule that leaves the scope as it is
same_scope : (scope : Scope) (ns : List Note) (r : Checked (Unit {0})) → with_notes ns (r >> Ok scope) ≡ behind (state scope ns) r
same_scope scope ns (Ok u) = refl
same_scope scope ns (Err v) = refl

tested : (s : State) (r : Checked Placed) (f : Placed → Checked (Unit {0})) → behind s (r >>= f) ≡ (with_state s r >>= λ p. behind p.1 (f p.0))
tested s (Ok p) f = refl
tested s (Err v) f = refl

-- a condition, and what goes on behind it
condition_is : (x : Context) (e : Expr) (s : State) → condition x e s ≡ behind (record s { notes = noted x s.scope s.notes e }) (rules.condition x s.scope e)
unfolding expr condition
condition_is x e s = sym (tested (record s { notes = noted x s.scope s.notes e }) (placed x s.scope e) (λ p. wanted Bool p))

conditioned : (s : State) (ns : List Note) (c : Checked (Unit {0})) (r : Checked Scope) (next : State → Checked State) → next s ≡ with_notes ns r
    → with_notes ns (c >> r) ≡ (behind s c >>= next)
conditioned s ns (Ok u) r next is = sym is
conditioned s ns (Err v) r next is = refl

-- a block's end
cut : (scope inner : Scope) (ns : List Note) (r : Checked Scope) → take (length scope) inner ≡ scope → Keeps inner r → with_notes ns (closed scope r) ≡ (with_notes ns r >>= λ t. ended (length scope) t)
cut scope inner ns (Ok last) first rest = ap (λ s. Ok (state s ns)) (sym (through scope inner last first rest))
cut scope inner ns (Err v) first rest = refl

-- a block in a scope that was opened for it
opened : (x : Context) (scope : Scope) (ns : List Note) (r : Checked Scope) (ss : Stmts) → Keeps scope r
    → with_notes (stmts_noted x (scope_or scope r) ns ss) (r >>= λ inner. closed scope (check_stmts x inner ss)) ≡ (with_notes ns r >>= λ t. inside x (length scope) ss t)
unfolding stmts inside
opened x scope ns (Ok inner) ss first = cut scope inner (stmts_noted x inner ns ss) (check_stmts x inner ss) first (keeps_stmts x inner ss)
opened x scope ns (Err v) ss first = refl

block_is : (x : Context) (ss : Stmts) (s : State) → block x ss s ≡ with_notes (stmts_noted x s.scope s.notes ss) (closed s.scope (check_stmts x s.scope ss))
unfolding stmts inside block
block_is x ss s = sym (cut s.scope s.scope (stmts_noted x s.scope s.notes ss) (check_stmts x s.scope ss) (kept.keeps_whole s.scope) (keeps_stmts x s.scope ss))

-- a block behind another
second_block : (x : Context) (scope : Scope) (n m : List Note) (r last : Checked Scope) (next : State → Checked State) → next (state scope n) ≡ with_notes m last
    → with_notes m (closed scope r >>= λ s. last) ≡ (with_notes n (closed scope r) >>= next)
second_block x scope n m (Ok inner) last next is = sym is
second_block x scope n m (Err v) last next is = refl

-- the scope of a loop over what was placed
looped : (x : Context) (at : ℕ) (name : List ℕ) (ss : Stmts) (s : State) (r : Checked Placed)
    → with_notes (stmts_noted x (scope_or s.scope (r >>= λ p. loop_scope s.scope at name p)) s.notes ss)
    (r >>= λ p. loop_scope s.scope at name p >>= λ inner. closed s.scope (check_stmts x inner ss))
    ≡ ((with_state s r >>= λ p. open_loop at name p.0 p.1) >>= λ t. inside x (length s.scope) ss t)
unfolding open_loop
looped x at name ss s (Ok p) = opened x s.scope s.notes (loop_scope s.scope at name p) ss (keeps_loop s.scope at name p)
looped x at name ss s (Err v) = refl

pub stmt_Val : (x : Context) (at : ℕ) (name : List ℕ) (e : Expr) (s : State) → stmt x (Val at name e) s ≡ variable x at name true e s
unfolding expr stmt variable declare
stmt_Val x at name e s = told (record s { notes = noted x s.scope s.notes e }) (placed x s.scope e) (λ scope p. rules.declare scope at name true p)

pub stmt_Var : (x : Context) (at : ℕ) (name : List ℕ) (e : Expr) (s : State) → stmt x (Var at name e) s ≡ variable x at name false e s
unfolding expr stmt variable declare
stmt_Var x at name e s = told (record s { notes = noted x s.scope s.notes e }) (placed x s.scope e) (λ scope p. rules.declare scope at name false p)

pub stmt_Assign : (x : Context) (at : ℕ) (a b : Expr) (s : State) → stmt x (Assign at a b) s ≡ assign x at a b s
unfolding expr stmt assign
stmt_Assign x at a b s = told_two (record s { notes = noted x s.scope s.notes a }) (record s { notes = noted x s.scope (noted x s.scope s.notes a) b })
    (placed x s.scope a) (placed x s.scope b) (λ scope p q. rules.assign scope at a p q) (expr x b) refl

pub stmt_Run : (x : Context) (at : ℕ) (e : Expr) (s : State) → stmt x (Run at e) s ≡ run x e s
unfolding expr stmt run
stmt_Run x at e s = told (record s { notes = noted x s.scope s.notes e }) (placed x s.scope e) (λ scope p. Ok scope)

pub stmt_Print : (x : Context) (at : ℕ) (e : Expr) (s : State) → stmt x (Print at e) s ≡ print x at e s
unfolding expr stmt print
stmt_Print x at e s = told (record s { notes = noted x s.scope s.notes e }) (placed x s.scope e) (λ scope p. rules.print x.declared scope at p)

thrown : (s : State) (r : Checked Placed) (f : Placed → Checked (Unit {0})) → with_notes s.notes (r >>= λ p. f p >> Ok s.scope) ≡ (with_state s r >>= λ p. behind p.1 (f p.0))
thrown s (Ok p) f = same_scope s.scope s.notes (f p)
thrown s (Err v) f = refl

pub stmt_Throw : (x : Context) (at : ℕ) (e : Expr) (s : State) → stmt x (Throw at e) s ≡ throw x e s
unfolding expr stmt throw
stmt_Throw x at e s = thrown (record s { notes = noted x s.scope s.notes e }) (placed x s.scope e) (λ p. wanted Text p)

both : (x : Context) (s : State) (a b : Stmts) (c : Checked (Unit {0}))
    → with_notes (stmts_noted x s.scope (stmts_noted x s.scope s.notes a) b) (c >> closed s.scope (check_stmts x s.scope a) >>= λ t. closed s.scope (check_stmts x s.scope b))
    ≡ (behind s c >>= λ t. block x a t >>= λ u. block x b u)
unfolding stmts
both x s a b (Ok u) =
    second_block x s.scope (stmts_noted x s.scope s.notes a) (stmts_noted x s.scope (stmts_noted x s.scope s.notes a) b) (check_stmts x s.scope a) (closed s.scope (check_stmts x s.scope b))
    (block x b) (block_is x b (state s.scope (stmts_noted x s.scope s.notes a)))
    ∙ ap (λ r. r >>= λ u. block x b u) (sym (block_is x a s))
both x s a b (Err v) = refl

pub stmt_If : (x : Context) (at : ℕ) (c : Expr) (a b : Stmts) (s : State) → stmt x (If at c a b) s ≡ (condition x c s >>= λ t. block x a t >>= λ u. block x b u)
unfolding stmt
stmt_If x at c a b s = both x (record s { notes = noted x s.scope s.notes c }) a b (rules.condition x s.scope c)
    ∙ ap (λ r. r >>= λ t. block x a t >>= λ u. block x b u) (sym (condition_is x c s))

pub stmt_While : (x : Context) (at : ℕ) (c : Expr) (a : Stmts) (s : State) → stmt x (While at c a) s ≡ (condition x c s >>= λ t. block x a t)
unfolding stmt
stmt_While x at c a s =
    let t : State = record s { notes = noted x s.scope s.notes c } in
    conditioned t (stmts_noted x t.scope t.notes a) (rules.condition x s.scope c) (closed s.scope (check_stmts x s.scope a)) (block x a) (block_is x a t)
    ∙ ap (λ r. r >>= λ t. block x a t) (sym (condition_is x c s))

pub stmt_For : (x : Context) (at : ℕ) (name : List ℕ) (e : Expr) (a : Stmts) (s : State) → stmt x (For at name e a) s ≡ (open_turns x at name e s >>= λ t. inside x (length s.scope) a t)
unfolding expr stmt open_turns
stmt_For x at name e a s = looped x at name a (record s { notes = noted x s.scope s.notes e }) (placed x s.scope e)

pub stmt_Try : (x : Context) (at : ℕ) (a : Stmts) (name : List ℕ) (b : Stmts) (s : State) → stmt x (Try at a name b) s ≡ (block x a s >>= λ t. open_catch at name t >>= λ u. inside x (length t.scope) b u)
unfolding stmt open_catch
stmt_Try x at a name b s =
    let n : List Note = stmts_noted x s.scope s.notes a in
    second_block x s.scope n (stmts_noted x (scope_or s.scope (catch_scope s.scope at name)) n b) (check_stmts x s.scope a)
    (catch_scope s.scope at name >>= λ inner. closed s.scope (check_stmts x inner b)) (λ t. open_catch at name t >>= λ u. inside x (length t.scope) b u)
    (sym (opened x s.scope n (catch_scope s.scope at name) b (keeps_catch s.scope at name)))
    ∙ ap (λ r. r >>= λ t. open_catch at name t >>= λ u. inside x (length t.scope) b u) (sym (block_is x a s))

pub stmt_Batch : (x : Context) (at : ℕ) (interface root : List ℕ) (a : Stmts) (s : State) → stmt x (Batch at interface root a) s ≡ (open_batch x at interface root s >>= λ t. inside x (length s.scope) a t)
unfolding stmt open_batch
stmt_Batch x at interface root a s = opened x s.scope s.notes (batch_scope x s.scope at interface root) a (keeps_batch x s.scope at interface root)

pub stmts_none : (x : Context) (s : State) → stmts x NoStmts s ≡ Ok s
unfolding stmts
stmts_none x s = refl

in_order : (x : Context) (s : State) (n : List Note) (r : Checked Scope) (ss : Stmts)
    → with_notes (stmts_noted x (scope_or s.scope r) n ss) (r >>= λ after. check_stmts x after ss) ≡ (with_notes n r >>= λ t. stmts x ss t)
unfolding stmts
in_order x s n (Ok inner) ss = refl
in_order x s n (Err v) ss = refl

pub stmts_more : (x : Context) (tree : Stmt) (ss : Stmts) (s : State) → stmts x (MoreStmts tree ss) s ≡ (stmt x tree s >>= λ t. stmts x ss t)
unfolding stmt stmts
stmts_more x tree ss s = in_order x s (stmt_noted x s.scope s.notes tree) (check_stmt x s.scope tree) ss

pub ruleset stmt_steps = (stmt_Val, stmt_Var, stmt_Assign, stmt_Run, stmt_Print, stmt_Throw, stmt_If, stmt_While, stmt_For, stmt_Try, stmt_Batch, stmts_none, stmts_more)
