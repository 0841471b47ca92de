-- Worked rows: what the definitions give on batches whose marks, flows and refusals are known.
use Rattle.std.proofs.Common.{◌≡◌, ℕ, ◌+◌, List, [], ◌∷◌, map, Bool, true, false, cond, nat_eq, None, codes, refl}
use Rattle.std.specs.List.{flat_map}
use Rattle.rb_trees.specs.declared.values.Value.TheVariants as value
use Rattle.rb_trees.specs.declared.code.BinOp.{BinOp}
use Rattle.rb_trees.specs.declared.marks.Mark.{Mark}
use Rattle.rb_trees.specs.declared.marks.Place.{Place}
use Rattle.rb_trees.specs.mirror.Types as type
use Rattle.rb_trees.specs.mirror.Code.{Expr, Lit, Name, Binary, Call, NoExprs, MoreExprs, expr_at, Stmt, Stmts, Var, Assign, Run, Print, If, While, For, Try, Batch, NoStmts, MoreStmts}
use Rattle.rb_trees.specs.mirror.Declarations.{Method, Program}
use Rattle.rb_meaning_flow.specs.declared.scopes.Role.{Role}
use Rattle.rb_meaning_flow.specs.Facts.{Facts, facts_of}
use Rattle.rb_meaning_flow.specs.Scopes.{Scope}
use Rattle.rb_meaning_flow.specs.Sites.{StmtSite, ExprSite, block_sites, exprs_of}
use Rattle.rb_meaning_flow.specs.Marks.{marks_of, places_of}
use Rattle.rb_meaning_flow.specs.Flow.{is_call, writers, bad_parts}
use Rattle.rb_meaning_flow.specs.Programs.{sites_of}
use Rattle.rb_meaning_flow.specs.Refusals.{expr_conditions, escapes, calls_remote_method, is_batch}

abbrev among : List ℕ → ℕ → Bool
among [] at = false
among (p ∷ ps) at = cond (nat_eq p at) true (among ps at)

-- objects of the service stand at some positions, rows at others; each call is of a `remote` method
abbrev facts : List ℕ → List ℕ → Facts
facts os rs = record { primitive = λ at. false; items = λ at. false; lists = λ at. false; object = among os; rows = among rs; remote_method = λ at method. true }

abbrev r : List ℕ
r = codes "r"

abbrev s : List ℕ
s = codes "s"

abbrev o : List ℕ
o = codes "o"

abbrev m : List ℕ
m = codes "m"

-- a local object `o` and the root `r`
abbrev scope : Scope
scope = record { name = o; role = Role.Plain; node = 3 } ∷ record { name = r; role = Role.Root; node = 8 } ∷ []

abbrev one : ℕ → Expr
one at = Lit at value.Unit

-- `r.m(1)` at a position, with parts at the next ones; `r.m(1).m()` above it; and `o.m()`
abbrev file : ℕ → Expr
file at = Call at (Name (at + 1) r) m (MoreExprs (one (at + 2)) NoExprs)

abbrev size : ℕ → Expr
size at = Call at (file (at + 1)) m NoExprs

abbrev local : ℕ → Expr
local at = Call at (Name (at + 1) o) m NoExprs

-- `e.m(a);`, with the call at the next position
abbrev send : ℕ → Expr → Expr → Stmt
send at e a = Run at (Call (at + 1) e m (MoreExprs a NoExprs))

abbrev batch : Facts → List Stmt → List StmtSite
batch x ss = block_sites x [] scope (listed ss)
  where
    listed : List Stmt → Stmts
    listed [] = NoStmts
    listed (t ∷ ts) = MoreStmts t (listed ts)

-- what is told of a writer and of a bad part
abbrev Told : Type 0
Told = ℕ × ℕ × List ℕ × List ℕ

abbrev writers_told : Facts → List StmtSite → List Told
writers_told x ss = map (λ w. (w.at, w.writes, w.reads, w.sources)) (writers x ss)

abbrev bad_told : Facts → List StmtSite → List (ℕ × List ℕ × List ℕ)
bad_told x ss = map (λ u. (u.at, u.reads, u.sources)) (bad_parts x ss)

-- the remote calls, with the local conditions above each
abbrev conditions : Facts → List StmtSite → List (ℕ × List ℕ)
conditions x ss = flat_map (λ e. cond (is_call x e.expr) ((expr_at e.expr, expr_conditions x e) ∷ []) []) (exprs_of ss)

-- the expressions for which this holds
abbrev those : (ExprSite → Bool) → List StmtSite → List ℕ
those is ss = flat_map (λ e. cond (is e) (expr_at e.expr ∷ []) []) (exprs_of ss)

-- `var s = r.m(1).m(); s = s + 1; r.m(1).m(s);`: a flow through `s`
abbrev flow_facts : Facts
flow_facts = facts (21 ∷ 22 ∷ 41 ∷ 42 ∷ []) []

abbrev flow : List StmtSite
flow = batch flow_facts (Var 23 s (size 20) ∷ Assign 30 (Name 31 s) (Binary 32 BinOp.Add (Name 33 s) (one 34)) ∷ send 44 (file 41) (Name 46 s) ∷ [])

flow_writers : writers_told flow_facts flow ≡ (23, 23, (8 ∷ []), (20 ∷ [])) ∷ (30, 23, (23 ∷ []), []) ∷ []
flow_writers = refl

flow_bad : bad_told flow_facts flow ≡ (46, (23 ∷ []), []) ∷ []
flow_bad = refl

-- `o.m(r.m(1).m()); r.m(1).m(o.m());`: a flow through the objects
abbrev objects_facts : Facts
objects_facts = facts (61 ∷ 62 ∷ 71 ∷ 72 ∷ []) []

abbrev objects : List StmtSite
objects = batch objects_facts (send 50 (Name 52 o) (size 60) ∷ send 74 (file 71) (local 76) ∷ [])

objects_writers : writers_told objects_facts objects ≡ (51, 0, (0 ∷ 3 ∷ 8 ∷ []), (60 ∷ [])) ∷ (76, 0, (0 ∷ 3 ∷ []), []) ∷ []
objects_writers = refl

objects_bad : bad_told objects_facts objects ≡ (76, (0 ∷ 3 ∷ []), []) ∷ []
objects_bad = refl

-- `r.m(o.m(r.m(1).m()));`: the inner call is a source of the local one, though it stands in an argument
abbrev inside_facts : Facts
inside_facts = facts (122 ∷ 131 ∷ 132 ∷ []) []

abbrev inside : List StmtSite
inside = batch inside_facts (send 120 (Name 122 r) (Call 125 (Name 126 o) m (MoreExprs (size 130) NoExprs)) ∷ [])

inside_writers : writers_told inside_facts inside ≡ (125, 0, (0 ∷ 3 ∷ 8 ∷ []), (130 ∷ [])) ∷ []
inside_writers = refl

-- `try { print(r.m(1).m()); } catch (s) { o.m(); }`: what writes in it reads all of it
abbrev tried_facts : Facts
tried_facts = facts (103 ∷ 104 ∷ []) []

abbrev tried : List StmtSite
tried = batch tried_facts (Try 100 (MoreStmts (Print 101 (size 102)) NoStmts) s (MoreStmts (Run 110 (local 111)) NoStmts) ∷ [])

tried_writers : writers_told tried_facts tried ≡ (100, 100, (8 ∷ []), (102 ∷ [])) ∷ (111, 0, (0 ∷ 3 ∷ 8 ∷ 0 ∷ 3 ∷ []), (102 ∷ [])) ∷ []
tried_writers = refl

-- `while (o.m() == r.m(1).m()) { }`: a local call in a condition reads the whole of it
abbrev loop_facts : Facts
loop_facts = facts (145 ∷ 146 ∷ []) []

abbrev loop : List StmtSite
loop = batch loop_facts (While 140 (Binary 141 BinOp.Eq (local 142) (size 144)) NoStmts ∷ [])

loop_writers : writers_told loop_facts loop ≡ (142, 0, (0 ∷ 3 ∷ 0 ∷ 3 ∷ 8 ∷ []), (144 ∷ [])) ∷ []
loop_writers = refl

loop_conditions : conditions loop_facts loop ≡ (144, 141 ∷ []) ∷ (145, 141 ∷ []) ∷ []
loop_conditions = refl

-- `if (o > 1) { r.m(1).m(1); }`, where `o` isn't portable
abbrev branch_facts : Facts
branch_facts = facts (86 ∷ 87 ∷ []) []

abbrev branch : List StmtSite
branch = batch branch_facts (If 80 (Binary 81 BinOp.Gt (Name 82 o) (one 83)) (MoreStmts (send 84 (file 86) (one 89)) NoStmts) NoStmts ∷ [])

branch_conditions : conditions branch_facts branch ≡ (85, 81 ∷ []) ∷ (86, 81 ∷ []) ∷ []
branch_conditions = refl

-- `print(o && r.m(1)); print(r.m(1) && r.m(1));`: only the second `&&` is portable as a whole
abbrev and_facts : Facts
and_facts = facts (155 ∷ 162 ∷ 166 ∷ []) []

abbrev and : List StmtSite
and = batch and_facts (Print 150 (Binary 151 BinOp.And (Name 152 o) (file 154)) ∷ Print 160 (Binary 164 BinOp.And (file 161) (file 165)) ∷ [])

and_conditions : conditions and_facts and ≡ (154, 152 ∷ []) ∷ (161, []) ∷ (165, []) ∷ []
and_conditions = refl

-- `for (s in o) { r.m(1); } for (s in r.m(1)) { s.m(1); }`: a List above a call, and rows above one
abbrev turns_facts : Facts
turns_facts = facts (174 ∷ 182 ∷ 187 ∷ []) (181 ∷ [])

abbrev turns : List StmtSite
turns = batch turns_facts (For 170 s (Name 171 o) (MoreStmts (Run 172 (file 173)) NoStmts) ∷ For 180 s (file 181) (MoreStmts (send 185 (Name 187 s) (one 188)) NoStmts) ∷ [])

turns_conditions : conditions turns_facts turns ≡ (173, 171 ∷ []) ∷ (181, []) ∷ (186, []) ∷ []
turns_conditions = refl

turns_places : places_of turns_facts turns ≡ (170, Place.Script) ∷ (172, Place.Elsewhere) ∷ (180, Place.Script) ∷ (185, Place.Script) ∷ []
turns_places = refl

-- `var s = r.m(1); print(s); batch (m r) { o.m(); }`, with an object at `s`: what escapes, and what isn't allowed inside
abbrev kept_facts : Facts
kept_facts = facts (92 ∷ 93 ∷ 97 ∷ []) []

abbrev kept : List StmtSite
kept = batch kept_facts (Var 91 s (file 92) ∷ Print 96 (Name 97 s) ∷ Batch 98 m r (MoreStmts (Run 99 (local 100)) NoStmts) ∷ [])

kept_escapes : those (escapes kept_facts) kept ≡ 97 ∷ []
kept_escapes = refl

kept_inside : those (λ e. calls_remote_method kept_facts e.expr) kept ≡ 100 ∷ []
kept_inside = refl

kept_batches : map (λ t. is_batch t.stmt) kept ≡ false ∷ false ∷ true ∷ false ∷ []
kept_batches = refl

-- `interface O { fun m(): Int; } class C { remote fun m(s: Int) { var o = s; batch (O r) { .. } } } main { }`, with the batch
-- `print(r.m() + s); if (s > o) { r.m(); } o = s;`
abbrev block : Stmts
block = MoreStmts (Print 20 (Binary 21 BinOp.Add (Call 22 (Name 23 r) m NoExprs) (Name 24 s)))
    (MoreStmts (If 30 (Binary 31 BinOp.Gt (Name 32 s) (Name 33 o)) (MoreStmts (Run 34 (Call 35 (Name 36 r) m NoExprs)) NoStmts) NoStmts)
    (MoreStmts (Assign 40 (Name 41 o) (Name 42 s)) NoStmts))

abbrev method : Method
method = record {
  remote = true;
  signature = record { name = m; at = 6; params = record { name = s; at = 7; kind = type.Int 8 } ∷ []; result = type.Unit 6 };
  body = record { statements = MoreStmts (Var 10 o (Name 11 s)) (MoreStmts (Batch 14 (codes "O") r block) NoStmts); result = None };
}

abbrev program : Program
program = record {
  interfaces = record { name = codes "O"; at = 1; methods = record { name = m; at = 2; params = []; result = type.Int 3 } ∷ [] } ∷ [];
  classes = record { name = codes "C"; at = 5; fields = []; methods = method ∷ [] } ∷ [];
  result = type.Unit 90;
  body = record { statements = NoStmts; result = None };
  at = 90;
}

-- its one batch: the sum is remote with its parts, the condition is carried, and `o` isn't constant
program_places : map (places_of (facts_of program)) (sites_of program)
    ≡ ((20, Place.Script) ∷ (30, Place.Script) ∷ (34, Place.Script) ∷ (40, Place.LocalOnly) ∷ []) ∷ []
unfolding facts_of
program_places = refl

program_marks : map (marks_of (facts_of program)) (sites_of program)
    ≡ ((21, Mark.Remote) ∷ (22, Mark.Remote) ∷ (23, Mark.Remote) ∷ (24, Mark.Remote) ∷ (31, Mark.Remote) ∷ (32, Mark.Remote) ∷ (33, Mark.Remote)
    ∷ (35, Mark.Remote) ∷ (36, Mark.Remote) ∷ (41, Mark.Local) ∷ (42, Mark.Constant) ∷ []) ∷ []
unfolding facts_of
program_marks = refl
