-- Statements of a batch that stay with the client as a whole meet, and blocks in which nothing is taken.
use Rattle.std.proofs.Common.{◌≡◌, ◌⊎◌, inl, inr, refl, sym, ap, ◌∙◌, subst, ℕ, suc, List, [], ◌∷◌, ◌++◌, Bool as Truth, true, false, Option, Some, Ok}
use Rattle.rb_trees.specs.Outcome.{◌>>=◌, known}
use Rattle.rb_trees.specs.declared.values.Value.TheViews.{out-Value}
use Rattle.rb_trees.specs.mirror.Code.{Expr, Lit, Name, Field, Stmt, Stmts, Val, Var, Assign, Run, Print, Throw, If, While, For, Try, Batch, NoStmts, MoreStmts, expr_at}
use Rattle.rb_trees.specs.mirror.Declarations.{Program}
use Rattle.rb_trees.specs.mirror.Services.{Service}
use Rattle.rb_meaning_types.specs.Kinds as kind
use Rattle.rb_meaning_types.specs.Kinds.{Kind}
use Rattle.rb_meaning_types.specs.Violations.{UnknownName}
use Rattle.rb_meaning_types.specs.Declared.{Declarations, Context, of_program}
use Rattle.rb_meaning_types.specs.Scopes as typed
use Rattle.rb_meaning_types.specs.Scopes.{with_variable, variable_named}
use Rattle.rb_meaning_types.specs.Statements.{placed, loop_scope, catch_scope, check_stmt, check_stmts}
use Rattle.rb_meaning_types.specs.Notes.{scope_or, type_at}
use Rattle.rb_meaning_types.specs.Fits.{classes_of, Fits}
use Rattle.rb_meaning_code.specs.State.{Names, Local, bound}
use Rattle.rb_meaning_code.specs.Faults.{raised}
use Rattle.rb_meaning_code.specs.Operators.{shown_value}
use Rattle.rb_meaning_code.specs.Dialogue as dialogue
use Rattle.rb_meaning_code.specs.Calls.{Bodies}
use Rattle.rb_meaning_code.specs.Statements.{Effect, block, throws, handles, performs, performs_all}
use Rattle.rb_meaning_code.specs.Bodies.{bodies_of}
use Rattle.rb_meaning_code.specs.ScriptRun.{Ground, Vars}
use Rattle.rb_meaning_flow.specs.Facts.{Facts, facts_of, is_rows, over_rows}
use Rattle.rb_meaning_flow.specs.Scopes.{Scope}
use Rattle.rb_meaning_flow.specs.Portable.{holds_operation, block_holds}
use Rattle.rb_meaning_flow.specs.Marks.{is_portable_call}
use Rattle.rb_meaning.specs.State.{Outside}
use Rattle.rb_meaning.specs.Unsplit.{in_batch}
use Rattle.rb_meaning.specs.RemoteExprs.{remote_in, remote_of}
use Rattle.rb_meaning_split.specs.Refs.{Refs}
use Rattle.rb_meaning_split.specs.Cuts.{counted, cut, cut_stmt}
use Rattle.rb_law_types.specs.Ends.{Place, LocalFits, Ends, Nothing}
use Rattle.rb_law_types.specs.Around.{EndsHandled}
use Rattle.rb_law_types.specs.Code.{AreTyped, LeadsTo, LeadTo, OfBatchCode, IsBatchStmt, AreBatchStmts}
use Rattle.rb_law_types.proofs.Checks.{bind_ok, known_ok}
use Rattle.rb_law_types.proofs.Steps.{holds_less}
use Rattle.rb_law_types.proofs.Parts.{val_parts, var_parts, assign_parts, run_parts, print_parts, throw_parts, if_parts, while_parts, for_parts, try_parts, batch_parts, stmts_parts}
use Rattle.rb_law_types.proofs.TypeFacts.{kind_here, rows_fact}
use Rattle.rb_law_local.specs.Shown.{is_far, at_client, Fronts, LeftSeen}
use Rattle.rb_law_local.specs.Wanted.{AllWanted}
use Rattle.rb_law_local.specs.Parted.{PartedStmt, PartedStmts}
use Rattle.rb_law_local.specs.Placed.{PlacedStmt, PlacedStmts}
use Rattle.rb_law_local.proofs.Near.{StandPlain}
use Rattle.rb_law_local.specs.Meets.{Meets}
use Rattle.rb_law_local.proofs.Names.{Extends, extends_same, seen_bound, fronts_same, fronts_less}
use Rattle.rb_law_local.proofs.Meeting.{Ended, then_meets, seq_meets, gives_meet, falls_meet, told_otherwise}
use Rattle.rb_law_local.proofs.Coded.{Code, field_code}
use Rattle.rb_law_local.proofs.Uncut.{or_none, both_empty, nothing_taken, not_cut, stmt_takes_none, stmt_not_cut}
use Rattle.rb_law_local.proofs.Values.{wanted_left, wanted_right}
use Rattle.rb_law_local.proofs.Closing.{extends_on, within_extends, holds_framed}
use Rattle.rb_law_local.proofs.Effects.{Inner, then_value, truth_meets, block_left, block_ended, block_meets, while_meets, turns_meet, handles_meet, prints_meet, assigns_meet, writes_meet}

-- a statement's scope goes on in the one that it leads to
module _ (x : Context) where
  pub stmt_extends : (s : Stmt) (ws after : typed.Scope) → check_stmt x ws s ≡ Ok after → Extends ws after
  stmt_extends (Val at name e) ws after t = let h = val_parts x ws at name e after t in (record { name = name; kind = h.kind; fixed = true } ∷ [], h.same)
  stmt_extends (Var at name e) ws after t = let h = var_parts x ws at name e after t in (record { name = name; kind = h.kind; fixed = false } ∷ [], h.same)
  stmt_extends (Assign at a b) ws after t = extends_same ws after (assign_parts x ws at a b after t).same
  stmt_extends (Run at e) ws after t = extends_same ws after (run_parts x ws at e after t).same
  stmt_extends (Print at e) ws after t = extends_same ws after (print_parts x ws at e after t).same
  stmt_extends (Throw at e) ws after t = extends_same ws after (throw_parts x ws at e after t).same
  stmt_extends (If at c a b) ws after t = extends_same ws after (if_parts x ws at c a b after t).same
  stmt_extends (While at c a) ws after t = extends_same ws after (while_parts x ws at c a after t).same
  stmt_extends (For at name e a) ws after t = extends_same ws after (for_parts x ws at name e a after t).same
  stmt_extends (Try at a name b) ws after t = extends_same ws after (try_parts x ws at a name b after t).same
  stmt_extends (Batch at interface root a) ws after t = extends_same ws after (batch_parts x ws at interface root a after t).same

  pub stmts_extends : (ss : Stmts) (ws after : typed.Scope) → check_stmts x ws ss ≡ Ok after → Extends ws after
  stmts_extends NoStmts ws after t = extends_same ws after (cc (t))
  stmts_extends (MoreStmts s ss) ws after t = let h = stmts_parts x ws s ss after t in extends_on ws h.middle after (stmt_extends s ws h.middle h.typed) (stmts_extends ss h.middle after h.rest)

module _ (p : Program) (service : Service) (g : Ground) (refs : Refs) (vars : Vars) (gas : ℕ) (Holds : Outside → Type 0) (Here : ℕ → Type 0) (this : Option (List ℕ)) (remote : Truth)
    (keeps : OfBatchCode (of_program p) (type_at p) (λ A P run. EndsHandled Holds (in_batch p service) A P run)) (declared : AreTyped (of_program p))
    (near_this : (class : List ℕ) → this ≡ Some class → is_far (of_program p) (kind.Named class) ≡ false) (vs : Scope) (bodies_placed : StandPlain p Here) where
  abbrev d : Declarations
  d = of_program p

  abbrev x : Context
  x = record { declared = d; this = this; remote = remote }

  abbrev place : typed.Scope → Place
  place ws = record { this = this; remote = remote; scope = ws }

  abbrev f : Facts
  f = facts_of p

  abbrev code : Bodies
  code = bodies_of p.classes gas

  abbrev S : typed.Scope → typed.Scope → List Expr → ℕ → dialogue.Run (Unit {0}) → dialogue.Run (Unit {0}) → Type 0
  S ws after es n whole client = Meets p service g refs vars gas Holds Here (LeftSeen x after) (Fronts x ws) es n whole client

  abbrev W : typed.Scope → Names → List Expr → Type 0
  W ws ns es = AllWanted p service g refs vars Holds x ws ns es

  abbrev Is : (dialogue.Outcome (Unit {0}) → Type 0) → dialogue.Run (Unit {0}) → Type 0
  Is P run = Ended p service g refs vars gas Holds Here P run

  abbrev In : ℕ → typed.Scope → Effect → Type 0
  In n ws run = Inner p service g refs vars gas Holds Here this remote keeps declared near_this vs bodies_placed n ws run

  stmt_ended : (s : Stmt) (ws after : typed.Scope) (l : Local) → LeadsTo d (place ws) s after → IsBatchStmt (type_at p) x ws s → LocalFits x ws l → Is (Ends x ws after Nothing (classes_of l.heap)) (performs code gas s l)
  stmt_ended s ws after l t b fits = record { handled = keeps.statements (place ws) s after gas l t b fits }

  stmts_ended : (ss : Stmts) (ws after : typed.Scope) (l : Local) → LeadTo d (place ws) ss after → AreBatchStmts (type_at p) x ws ss → LocalFits x ws l → Is (Ends x ws after Nothing (classes_of l.heap)) (performs_all code gas ss l)
  stmts_ended ss ws after l t b fits = record { handled = keeps.sequences (place ws) ss after gas l t b fits }

  -- the statements of a block
  inner_of : (ss : Stmts) (ws after : typed.Scope) (n : ℕ) → LeadTo d (place ws) ss after → AreBatchStmts (type_at p) x ws ss → ((l : Local) → LocalFits x ws l → S ws after [] n (performs_all code gas ss l) (performs_all code gas ss (at_client x ws l)))
      → In n ws (performs_all code gas ss)
  inner_of ss ws after n t b m = record { last = after; extends = stmts_extends x ss ws after t.0; ended = λ l fits. stmts_ended ss ws after l t b fits; meets = m }

  -- a block, seen as a statement
  blocked : (ws : typed.Scope) (n : ℕ) (run : Effect) → In n ws run → (l : Local) → LocalFits x ws l → S ws ws [] n (block run l) (block run (at_client x ws l))
  blocked ws n run i l fits =
      block_left p service g refs vars gas Holds Here this remote keeps declared near_this vs bodies_placed ws n (classes_of l.heap) (block_ended p service g refs vars gas Holds Here this remote keeps declared near_this vs bodies_placed ws n run i l fits)
      (block_meets p service g refs vars gas Holds Here this remote keeps declared near_this vs bodies_placed ws n run i l fits)

  -- what a plain loop goes over is a list
  list_of_rows : (e : Expr) (list item : Kind) {ws : typed.Scope} → Code (type_at p) x ws e list → over_rows f e ≡ false → (list ≡ kind.ListOf item) ⊎ (list ≡ kind.RowsOf item) → list ≡ kind.ListOf item
  list_of_rows e list item c plain (inl is) = is
  list_of_rows e list item {ws = ws} c plain (inr is) =
      let rows : over_rows f e ≡ is_rows list = rows_fact p (expr_at e) list (kind_here (type_at p) x ws e list c.noted c.typed) in
      let there : is_rows list ≡ true = ap is_rows is in
      absurd (cc (plain, rows, there))

  abbrev C : typed.Scope → Expr → Kind → Type 0
  C ws e k = Code (type_at p) x ws e k

  mutual
    -- A statement that isn't divided as a whole meets the one without its remote expressions.
    pub stmt_meets : (s : Stmt) (ws after : typed.Scope) (n : ℕ) (l : Local) → LeadsTo d (place ws) s after → IsBatchStmt (type_at p) x ws s → PartedStmt f vs x ws s → PlacedStmt Here (is_portable_call f vs) s → LocalFits x ws l → W ws l.names (remote_of f vs s)
        → S ws after (remote_of f vs s) n (performs code gas s l) (performs code gas (cut_stmt f vs n s) (at_client x ws l))
    stmt_meets (Val at name e) ws after n l t b h u fits w =
        let q = val_parts x ws at name e after t.0 in
        let c : C ws e q.kind = record { typed = q.typed; formed = t.1; noted = b.0; admitted = b.1 } in
        subst (λ a. S ws a (remote_in f vs e ++ []) n (performs code gas (Val at name e) l) (performs code gas (Val at name (cut f vs n e)) (at_client x ws l))) q.same
        (then_value p service g refs vars gas Holds Here this remote keeps declared near_this vs bodies_placed ws (with_variable ws name q.kind true) e q.kind n l [] _ _ c h.0 u fits (wanted_left p service g refs vars gas Holds Here this remote keeps declared near_this vs bodies_placed ws l.names (remote_in f vs e) [] w) (λ v l1 fit same.
        gives_meet p service g refs vars gas Holds Here (bound name v l1) (bound name v (at_client x ws l1)) tt (sym (seen_bound x ws l1 name q.kind true v fit.state.count (h.1 q.kind q.typed)))))
    stmt_meets (Var at name e) ws after n l t b h u fits w =
        let q = var_parts x ws at name e after t.0 in
        let c : C ws e q.kind = record { typed = q.typed; formed = t.1; noted = b.0; admitted = b.1 } in
        subst (λ a. S ws a (remote_in f vs e ++ []) n (performs code gas (Var at name e) l) (performs code gas (Var at name (cut f vs n e)) (at_client x ws l))) q.same
        (then_value p service g refs vars gas Holds Here this remote keeps declared near_this vs bodies_placed ws (with_variable ws name q.kind false) e q.kind n l [] _ _ c h.0 u fits (wanted_left p service g refs vars gas Holds Here this remote keeps declared near_this vs bodies_placed ws l.names (remote_in f vs e) [] w) (λ v l1 fit same.
        gives_meet p service g refs vars gas Holds Here (bound name v l1) (bound name v (at_client x ws l1)) tt (sym (seen_bound x ws l1 name q.kind false v fit.state.count (h.1 q.kind q.typed)))))
    stmt_meets (Assign at (Name here name) e) ws after n l t b h u fits w =
        let q = assign_parts x ws at (Name here name) e after t.0 in
        let y = bind_ok (known (UnknownName here) (variable_named ws name)) _ q.left q.left_typed in
        let is : (y.0).kind ≡ q.left = cc (y.2) in
        let c : C ws e q.right = record { typed = q.right_typed; formed = t.1.1; noted = b.0.1; admitted = b.1.1 } in
        subst (λ a. S ws a (remote_in f vs e ++ []) n (performs code gas (Assign at (Name here name) e) l) (performs code gas (Assign at (Name here name) (cut f vs n e)) (at_client x ws l))) q.same
        (then_value p service g refs vars gas Holds Here this remote keeps declared near_this vs bodies_placed ws ws e q.right n l [] _ _ c h.1 u.2 fits (wanted_left p service g refs vars gas Holds Here this remote keeps declared near_this vs bodies_placed ws l.names (remote_in f vs e) [] w) (λ v l1 fit same.
        assigns_meet p service g refs vars gas Holds Here this remote keeps declared near_this vs bodies_placed ws (counted (remote_in f vs e) n) here name y.0 v l1 u.1 t.1.0 (known_ok (UnknownName here) (variable_named ws name) y.0 y.1) (ap (is_far d) is ∙ h.0 q.left q.left_typed) fit.state))
    stmt_meets (Assign at (Field here a name) e) ws after n l t b h u fits w =
        let q = assign_parts x ws at (Field here a name) e after t.0 in
        let m = counted (remote_in f vs a) n in
        let o = field_code (type_at p) x ws here a name q.left (record { typed = q.left_typed; formed = t.1.0; noted = b.0.0; admitted = b.1.0 }) in
        let c : C ws e q.right = record { typed = q.right_typed; formed = t.1.1; noted = b.0.1; admitted = b.1.1 } in
        subst (λ r. S ws r (remote_in f vs a ++ (remote_in f vs e ++ [])) n (performs code gas (Assign at (Field here a name) e) l) (performs code gas (Assign at (Field here (cut f vs n a) name) (cut f vs m e)) (at_client x ws l))) q.same
        (then_value p service g refs vars gas Holds Here this remote keeps declared near_this vs bodies_placed ws ws a o.kind n l (remote_in f vs e ++ []) _ _ o.code h.0 u.1.1 fits (wanted_left p service g refs vars gas Holds Here this remote keeps declared near_this vs bodies_placed ws l.names (remote_in f vs a) (remote_in f vs e ++ []) w) (λ object l1 fit same.
        then_value p service g refs vars gas Holds Here this remote keeps declared near_this vs bodies_placed ws ws e q.right m l1 [] _ _ c h.1 u.2 fit.state
        (subst (λ ns. W ws ns (remote_in f vs e)) (sym same) (wanted_left p service g refs vars gas Holds Here this remote keeps declared near_this vs bodies_placed ws l.names (remote_in f vs e) [] (wanted_right p service g refs vars gas Holds Here this remote keeps declared near_this vs bodies_placed ws l.names (remote_in f vs a) (remote_in f vs e ++ []) w)))
        (λ v l2 fit2 same2. writes_meet p service g refs vars gas Holds Here this remote keeps declared near_this vs bodies_placed ws (counted (remote_in f vs e) m) here object name v l2 u.1.0)))
    stmt_meets (Assign at (Lit here y) e) ws after n l t b h u fits w = let q = assign_parts x ws at (Lit here y) e after t.0 in absurd (cc (q.assignable))
    stmt_meets (Assign at a e) ws after n l t b h u fits w = let q = assign_parts x ws at a e after t.0 in absurd (cc (q.assignable))
    stmt_meets (Run at e) ws after n l t b h u fits w =
        let q = run_parts x ws at e after t.0 in
        let c : C ws e q.kind = record { typed = q.typed; formed = t.1; noted = b.0; admitted = b.1 } in
        subst (λ a. S ws a (remote_in f vs e ++ []) n (performs code gas (Run at e) l) (performs code gas (Run at (cut f vs n e)) (at_client x ws l))) q.same
        (then_value p service g refs vars gas Holds Here this remote keeps declared near_this vs bodies_placed ws ws e q.kind n l [] _ _ c h u fits (wanted_left p service g refs vars gas Holds Here this remote keeps declared near_this vs bodies_placed ws l.names (remote_in f vs e) [] w) (λ v l1 fit same.
        gives_meet p service g refs vars gas Holds Here l1 (at_client x ws l1) tt refl))
    stmt_meets (Print at e) ws after n l t b h u fits w =
        let q = print_parts x ws at e after t.0 in
        let c : C ws e q.kind = record { typed = q.typed; formed = t.1; noted = b.0; admitted = b.1.0 } in
        subst (λ a. S ws a (remote_in f vs e ++ []) n (performs code gas (Print at e) l) (performs code gas (Print at (cut f vs n e)) (at_client x ws l))) q.same
        (then_value p service g refs vars gas Holds Here this remote keeps declared near_this vs bodies_placed ws ws e q.kind n l [] _ _ c h u.1 fits (wanted_left p service g refs vars gas Holds Here this remote keeps declared near_this vs bodies_placed ws l.names (remote_in f vs e) [] w) (λ v l1 fit same.
        prints_meet p service g refs vars gas Holds Here this remote keeps declared near_this vs bodies_placed ws (counted (remote_in f vs e) n) at (shown_value (out-Value v)) l1 u.0))
    stmt_meets (Throw at e) ws after n l t b h u fits w =
        let q = throw_parts x ws at e after t.0 in
        let c : C ws e q.kind = record { typed = q.typed; formed = t.1; noted = b.0; admitted = b.1 } in
        subst (λ a. S ws a (remote_in f vs e ++ []) n (performs code gas (Throw at e) l) (performs code gas (Throw at (cut f vs n e)) (at_client x ws l))) q.same
        (then_value p service g refs vars gas Holds Here this remote keeps declared near_this vs bodies_placed ws ws e q.kind n l [] _ _ c h u.1 fits (wanted_left p service g refs vars gas Holds Here this remote keeps declared near_this vs bodies_placed ws l.names (remote_in f vs e) [] w) (λ v l1 fit same.
        falls_meet p service g refs vars gas Holds Here l1 (at_client x ws l1) [] (raised (throws (out-Value v)) at) refl u.0 (fronts_same x ws l1)))
    stmt_meets (If at c a b') ws after n l t b h u fits w =
        let q = if_parts x ws at c a b' after t.0 in
        let m = counted (remote_in f vs c) n in
        let none = or_none (block_holds f a) (block_holds f b') h.1 in
        let first = inner_of a ws q.first m (q.first_typed, t.1.1) (b.0.1, b.1.1) (λ l1 state. stmts_meet a ws q.first m l1 none.0 (q.first_typed, t.1.1) (b.0.1, b.1.1) h.2 u.2 state) in
        let second = inner_of b' ws q.second m (q.second_typed, t.1.2) (b.0.2, b.1.2) (λ l1 state. stmts_meet b' ws q.second m l1 none.1 (q.second_typed, t.1.2) (b.0.2, b.1.2) h.3 u.3 state) in
        let k : C ws c kind.Bool = record { typed = q.typed; formed = t.1.0; noted = b.0.0; admitted = b.1.0 } in
        subst (λ r. S ws r (remote_in f vs c ++ []) n (performs code gas (If at c a b') l) (performs code gas (If at (cut f vs n c) a b') (at_client x ws l))) q.same
        (then_value p service g refs vars gas Holds Here this remote keeps declared near_this vs bodies_placed ws ws c kind.Bool n l [] _ _ k h.0 u.1 fits (wanted_left p service g refs vars gas Holds Here this remote keeps declared near_this vs bodies_placed ws l.names (remote_in f vs c) [] w) (λ v l1 fit same.
        truth_meets p service g refs vars gas Holds Here this remote keeps declared near_this vs bodies_placed ws ws m at v (block (performs_all code gas a)) (block (performs_all code gas b')) (block (performs_all code gas a)) (block (performs_all code gas b')) l1 u.0
        (blocked ws m (performs_all code gas a) first l1 fit.state) (blocked ws m (performs_all code gas b') second l1 fit.state)))
    stmt_meets (While at c a) ws after n l t b h u fits w =
        let q = while_parts x ws at c a after t.0 in
        let i = inner_of a ws q.last n (q.block_typed, t.1.1) (b.0.1, b.1.1) (λ l1 state. stmts_meet a ws q.last n l1 h.2 (q.block_typed, t.1.1) (b.0.1, b.1.1) h.3 u.2 state) in
        let k : C ws c kind.Bool = record { typed = q.typed; formed = t.1.0; noted = b.0.0; admitted = b.1.0 } in
        subst (λ r. S ws r (remote_in f vs c ++ []) n (performs code gas (While at c a) l) (performs code gas (While at (cut f vs n c) a) (at_client x ws l))) q.same
        (subst (λ es. S ws ws es n (performs code gas (While at c a) l) (performs code gas (While at (cut f vs n c) a) (at_client x ws l))) (sym (both_empty (remote_in f vs c) [] (nothing_taken f vs c h.1) refl))
        (subst (λ r. S ws ws [] n (performs code gas (While at c a) l) (performs code gas (While at r a) (at_client x ws l))) (sym (not_cut f vs n c h.1))
        (while_meets p service g refs vars gas Holds Here this remote keeps declared near_this vs bodies_placed ws n (suc gas) at c (performs_all code gas a) u.0 k h.0 u.1 h.1 i l fits)))
    stmt_meets (For at name e a) ws after n l t b h u fits w =
        let q = for_parts x ws at name e a after t.0 in
        let m = counted (remote_in f vs e) n in
        let inner = with_variable ws name q.item true in
        let same_scope : scope_or ws (placed x ws e >>= λ r. loop_scope ws at name r) ≡ inner = ap (scope_or ws) q.judged in
        let noted : AreBatchStmts (type_at p) x inner a = subst (λ i. AreBatchStmts (type_at p) x i a) same_scope (b.0.1, b.1.1) in
        let parted : PartedStmts f vs x inner a = subst (λ i. PartedStmts f vs x i a) same_scope h.4 in
        let i = inner_of a inner q.last m (q.block_typed, t.1.1) noted (λ l1 state. stmts_meet a inner q.last m l1 h.3 (q.block_typed, t.1.1) noted parted u.2 state) in
        let k : C ws e q.list = record { typed = q.typed; formed = t.1.0; noted = b.0.0; admitted = b.1.0 } in
        let is_list = list_of_rows e q.list q.item k h.1 q.over in
        subst (λ r. S ws r (remote_in f vs e ++ []) n (performs code gas (For at name e a) l) (performs code gas (For at name (cut f vs n e) a) (at_client x ws l))) q.same
        (then_value p service g refs vars gas Holds Here this remote keeps declared near_this vs bodies_placed ws ws e q.list n l [] _ _ k h.0 u.1 fits (wanted_left p service g refs vars gas Holds Here this remote keeps declared near_this vs bodies_placed ws l.names (remote_in f vs e) [] w) (λ v l1 fit same.
        turns_meet p service g refs vars gas Holds Here this remote keeps declared near_this vs bodies_placed ws m at name q.item (performs_all code gas a) u.0 i (h.2 q.item (q.typed ∙ ap Ok is_list)) (out-Value v) l1 (subst (λ r. Fits p.interfaces (classes_of l1.heap) r v) is_list fit.gives) fit.state))
    stmt_meets (Try at a name b') ws after n l t b h u fits w =
        let q = try_parts x ws at a name b' after t.0 in
        let inner = with_variable ws name kind.Text true in
        let same_scope : scope_or ws (catch_scope ws at name) ≡ inner = ap (scope_or ws) q.judged in
        let noted : AreBatchStmts (type_at p) x inner b' = subst (λ i. AreBatchStmts (type_at p) x i b') same_scope (b.0.1, b.1.1) in
        let parted : PartedStmts f vs x inner b' = subst (λ i. PartedStmts f vs x i b') same_scope h.3 in
        let first = inner_of a ws q.first n (q.first_typed, t.1.0) (b.0.0, b.1.0) (λ l1 state. stmts_meet a ws q.first n l1 h.0 (q.first_typed, t.1.0) (b.0.0, b.1.0) h.2 u.0 state) in
        let second = inner_of b' inner q.second n (q.second_typed, t.1.1) noted (λ l1 state. stmts_meet b' inner q.second n l1 h.1 (q.second_typed, t.1.1) noted parted u.1 state) in
        subst (λ r. S ws r [] n (performs code gas (Try at a name b') l) (performs code gas (Try at a name b') (at_client x ws l))) q.same
        (seq_meets p service g refs vars gas Holds Here (handles name (performs_all code gas b')) (handles name (performs_all code gas b')) (block_meets p service g refs vars gas Holds Here this remote keeps declared near_this vs bodies_placed ws n (performs_all code gas a) first l fits) (block_ended p service g refs vars gas Holds Here this remote keeps declared near_this vs bodies_placed ws n (performs_all code gas a) first l fits)
        (λ y l1 cl e r. gives_meet p service g refs vars gas Holds Here l1 cl y r)
        (λ r l1 cl e near here is. handles_meet p service g refs vars gas Holds Here this remote keeps declared near_this vs bodies_placed ws n (classes_of l.heap) name (performs_all code gas b') second r l1 cl e near here is))
    stmt_meets (Batch at interface root a) ws after n l t b h u fits w = absurd h

    -- Statements in which nothing is taken meet themselves.
    pub stmts_meet : (ss : Stmts) (ws after : typed.Scope) (n : ℕ) (l : Local) → block_holds f ss ≡ false → LeadTo d (place ws) ss after → AreBatchStmts (type_at p) x ws ss → PartedStmts f vs x ws ss → PlacedStmts Here (is_portable_call f vs) ss → LocalFits x ws l
        → S ws after [] n (performs_all code gas ss l) (performs_all code gas ss (at_client x ws l))
    stmts_meet NoStmts ws after n l none t b h u fits =
        let same : ws ≡ after = cc (t.0) in
        gives_meet p service g refs vars gas Holds Here l (at_client x ws l) tt (ap (λ q. at_client x q l) same)
    stmts_meet (MoreStmts s ss) ws after n l none t b h u fits =
        let q = stmts_parts x ws s ss after t.0 in
        let both = or_none (holds_operation f s) (block_holds f ss) none in
        let same_scope : scope_or ws (check_stmt x ws s) ≡ q.middle = ap (scope_or ws) q.typed in
        let noted : AreBatchStmts (type_at p) x q.middle ss = subst (λ i. AreBatchStmts (type_at p) x i ss) same_scope (b.0.1, b.1.1) in
        let parted : PartedStmts f vs x q.middle ss = subst (λ i. PartedStmts f vs x i ss) same_scope h.1 in
        let taken = stmt_takes_none f vs s both.0 in
        let first : S ws q.middle [] n (performs code gas s l) (performs code gas s (at_client x ws l)) =
        subst (λ r. S ws q.middle [] n (performs code gas s l) (performs code gas r (at_client x ws l))) (stmt_not_cut f vs n s both.0)
        (subst (λ es. S ws q.middle es n (performs code gas s l) (performs code gas (cut_stmt f vs n s) (at_client x ws l))) taken
        (stmt_meets s ws q.middle n l (q.typed, t.1.0) (b.0.0, b.1.0) h.0 u.0 fits (subst (W ws l.names) (sym taken) tt))) in
        then_meets p service g refs vars gas Holds Here (λ y l1. performs_all code gas ss l1) (λ y l1. performs_all code gas ss l1) first (stmt_ended s ws q.middle l (q.typed, t.1.0) (b.0.0, b.1.0) fits)
        (λ y l1 cl e r.
        subst (λ c. S ws after [] n (performs_all code gas ss l1) (performs_all code gas ss c)) (sym r)
        (told_otherwise p service g refs vars gas Holds Here (stmts_meet ss q.middle after n l1 both.1 (q.rest, t.1.1) noted parted u.1 e.state) (stmts_ended ss q.middle after l1 (q.rest, t.1.1) noted e.state)
        (λ w l2 cl2 e2 is. is)
        (λ r2 l2 cl2 e2 fronts. fronts_less x ws q.middle l2 cl2 (stmt_extends x s ws q.middle q.typed) (holds_framed x ws l2 (holds_less x ws q.middle l2 (within_extends x ws q.middle (stmt_extends x s ws q.middle q.typed)) e2.state)) fronts)))
        (λ r l1 cl e fronts. fronts)
