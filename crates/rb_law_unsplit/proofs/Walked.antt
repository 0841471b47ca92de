-- The whole remote part of an admitted batch leaves a table that fits.
use Rattle.std.proofs.Common.{◌≡◌, ◌⊎◌, inl, inr, refl, sym, ap, ◌∙◌, subst, ℕ, List, [], ◌∷◌, ◌++◌, Bool as Truth, true, false, ◌&&◌, cond, All, Option, Some, Result, Ok, Err}
use Rattle.std.specs.List.{AllByRecursion, Contains, flat_map}
use Rattle.std.proofs.lemmas.Bool.{and_parts}
use Rattle.std.proofs.lemmas.List.Elements.{All-head, All-tail}
use Rattle.rb_trees.specs.Outcome.{◌>>=◌, known}
use Rattle.rb_trees.specs.declared.values.Value.{Value}
use Rattle.rb_trees.specs.declared.values.Value.TheOpen.{Value-F}
use Rattle.rb_trees.specs.declared.values.Value.TheViews.{out-Value}
use Rattle.rb_trees.specs.declared.values.Fault.{Fault}
use Rattle.rb_trees.specs.declared.refusals.Refusal.{Refusal}
use Rattle.rb_trees.specs.mirror.Code.{Expr, Exprs, Lit, Name, This, Unary, Binary, Field, Call, Index, New, Items, Taken, NoExprs, MoreExprs, expr_at, Stmt, Stmts, Val, Var, Assign, Run, Print, Throw, If, While, For, Try, Batch, NoStmts, MoreStmts}
use Rattle.rb_trees.specs.mirror.Declarations.{Program, Interface}
use Rattle.rb_trees.specs.mirror.Services.{Service}
use Rattle.rb_meaning_types.specs.Kinds as kind
use Rattle.rb_meaning_types.specs.Kinds.{Kind}
use Rattle.rb_meaning_types.specs.Violations.{Checked, Placed, UnknownName}
use Rattle.rb_meaning_types.specs.Declared.{Context, of_program}
use Rattle.rb_meaning_types.specs.Scopes as typed
use Rattle.rb_meaning_types.specs.Expressions.{type_of, types_of}
use Rattle.rb_meaning_types.specs.Statements.{placed, loop_scope, check_stmt, check_stmts}
use Rattle.rb_meaning_types.specs.Notes.{scope_or, type_at}
use Rattle.rb_meaning_types.specs.Programs.{check_service}
use Rattle.rb_meaning_types.specs.Fits.{AreItems, AreRows, Fits}
use Rattle.rb_meaning_code.specs.State.{Names}
use Rattle.rb_meaning_code.specs.Statements.{truth_of}
use Rattle.rb_meaning_code.specs.Remote.{Server, Reply, Got, Stopped, and_then, replies, rows_in}
use Rattle.rb_meaning_flow.specs.declared.forms.PlacedForm.{PlacedForm}
use Rattle.rb_meaning_flow.specs.declared.scopes.Role.{Role}
use Rattle.rb_meaning_flow.specs.Facts.{Facts, facts_of, over_rows, is_rows}
use Rattle.rb_meaning_flow.specs.Scopes.{Scope, with_variable, role_of}
use Rattle.rb_meaning_flow.specs.Portable.{portable, holds_call, branches_hold, is_constant_list, has_far_turns}
use Rattle.rb_meaning_flow.specs.Marks.{is_portable_call}
use Rattle.rb_meaning_flow.specs.Forms.{placed_form}
use Rattle.rb_meaning_flow.specs.Sites.{Around, Branch, Turn, is_script_place, StmtSite, scope_after, stmt_site, sites, block_sites}
use Rattle.rb_meaning_flow.specs.Refusals.{IsRefusal}
use Rattle.rb_meaning_code.specs.ScriptRun.{items_in}
use Rattle.rb_meaning.specs.ConstantLists.{items_of, items_named}
use Rattle.rb_meaning.specs.RemoteExprs.{whole_or, remote_in, all_remote_in, remote_of}
use Rattle.rb_meaning.specs.RemoteAnswers.{unit_of}
use Rattle.rb_meaning.specs.RemotePart.{Walked, Rest, ended, with_name, turns, value_of, performed, skims, walk_as, walk, walk_block}
use Rattle.rb_flow.specs.Laws.{SendsPortable}
use Rattle.rb_flow.proofs.Members.{first_contained}
use Rattle.rb_law_types.specs.Kept.{Fair}
use Rattle.rb_law_types.specs.Formed.{IsFormedExpr, AreFormedExprs, IsFormedStmt, AreFormedStmts, AreFormed}
use Rattle.rb_law_types.specs.Noted.{IsNotedExpr, AreNotedExprs, IsNotedStmt, AreNotedStmts}
use Rattle.rb_law_types.specs.Operators.{ConditionsHold}
use Rattle.rb_law_types.specs.Code.{AreTyped}
use Rattle.rb_law_types.proofs.Faults.{rule_own}
use Rattle.rb_law_types.proofs.Checks.{bind_ok, known_ok, placed_ok}
use Rattle.rb_law_types.proofs.Parts.{val_parts, var_parts, assign_parts, run_parts, print_parts, throw_parts, if_parts, while_parts, for_parts, try_parts, batch_parts, stmts_parts}
use Rattle.rb_law_types.proofs.TypeFacts.{kind_here, rows_fact}
use Rattle.rb_law_types.proofs.SitesWithin.{Within, within_left, within_right, within_tail, stmt_first}
use Rattle.rb_law_unsplit.proofs.Conditions.{condition_portable}
use Rattle.rb_law_unsplit.proofs.Placed.{if_holds, loop_over, loop_carried, rows_far, carried_far, far_row}
use Rattle.rb_law_unsplit.proofs.Agreed.{list_read}
use Rattle.rb_law_unsplit.proofs.Carried.{Carry, carry_more, carry_skip, carry_read}
use Rattle.rb_law_unsplit.proofs.Handling.{Fine, unit_fine}
use Rattle.rb_law_unsplit.proofs.Walking.{Laws, rest_typed, Table, value_fine}

pub all_append : {A : Type 0} (P : A → Type 0) (xs ys : List A) → AllByRecursion P xs → AllByRecursion P ys → AllByRecursion P (xs ++ ys)
all_append P [] ys h g = g
all_append P (x ∷ xs) ys h g = (h.0, all_append P xs ys h.1 g)

-- in a script a scope goes on as in the batch's own block
pub script_scope : (f : Facts) (around : List Around) (vs : Scope) (s : Stmt) → is_script_place f around ≡ true → scope_after f around vs s ≡ scope_after f [] vs s
script_scope f around vs (Val at name e) h = ap (λ t. with_variable vs name (cond (t && portable f vs e) Role.Carried Role.Plain) at) h
script_scope f around vs (Var at name e) h = refl
script_scope f around vs (Assign at a b) h = refl
script_scope f around vs (Run at e) h = refl
script_scope f around vs (Print at e) h = refl
script_scope f around vs (Throw at e) h = refl
script_scope f around vs (If at c a b) h = refl
script_scope f around vs (While at c a) h = refl
script_scope f around vs (For at name e a) h = refl
script_scope f around vs (Try at a name b) h = refl
script_scope f around vs (Batch at interface root a) h = refl

pub rows_fair : (P : Value → Type 0) (w : Value-F Value) → AreRows P w → Fair (All P) (rows_in w)
rows_fair P (Value-F.Rows rows) h = h
rows_fair P Value-F.Unit h = absurd h
rows_fair P _ h = absurd h

pub items_fair : (P : Value → Type 0) (w : Value-F Value) → AreItems P w → Fair (All P) (items_in w)
items_fair P (Value-F.List items) h = h.1
items_fair P Value-F.Unit h = absurd h
items_fair P _ h = absurd h

module _ (laws : Laws) (conditions : ConditionsHold) (p : Program) (service : Service) (service_typed : check_service service.classes ≡ Ok tt) (service_formed : AreFormed service.classes) (declared : AreTyped (of_program p))
    (this : Option (List ℕ)) (remote : Truth) (ss : List StmtSite) (none : (r : Refusal) → IsRefusal (facts_of p) ss r → ⊥) (sends : SendsPortable (facts_of p) ss) where
  abbrev x : Context
  x = record { declared = of_program p; this = this; remote = remote }

  abbrev is : List Interface
  is = p.interfaces

  abbrev f : Facts
  f = facts_of p

  abbrev types : ℕ → Option (Checked Kind)
  types = type_at p

  abbrev Fits' : Server → Type 0
  Fits' s = Table laws p service service_typed service_formed declared this remote s

  abbrev Good : Walked → Type 0
  Good r = Fine service (λ (u : Unit {0}). Unit {0}) r

  then_good : {A : Type 0} (P : A → Type 0) (r : Reply A) (k : A → Server → Walked) → Fine service P r → ((a : A) (s1 : Server) → P a → Fits' s1 → Good (k a s1)) → Good (and_then r k)
  then_good P (Got a s1) k h more = more a s1 h.0 h.1
  then_good P (Stopped at fault s1) k h more = h

  rule_fine : {A : Type 0} (P : A → Type 0) (at : ℕ) (r : Result A Fault) (s : Server) → Fair P r → Fits' s → Fine service P (replies at r s)
  rule_fine P at (Ok a) s h t = (h, t)
  rule_fine P at (Err fault) s h t = (rule_own fault h, t)

  chosen_good : (t : Truth) (a b : Walked) → Good a → Good b → Good (cond t a b)
  chosen_good true a b h g = h
  chosen_good false a b h g = g

  -- a portable expression, typed where it stands
  pub record Ready (vs : Scope) (ws : typed.Scope) (e : Expr) : Type 0 where
    pub kind : Kind
    pub typed_here : type_of x ws e ≡ Ok kind
    pub noted : IsNotedExpr types x ws e
    pub formed : IsFormedExpr e
    pub sent : portable f vs e ≡ true

  module _ (vs : Scope) (ws : typed.Scope) where
    whole_ready : (e : Expr) (k : Kind) (parts : List Expr) → type_of x ws e ≡ Ok k → IsNotedExpr types x ws e → IsFormedExpr e → AllByRecursion (Ready vs ws) parts → AllByRecursion (Ready vs ws) (whole_or f vs e parts)
    whole_ready e k parts t n g h = by (is_portable_call f vs e) refl
      where
        by : (b : Truth) → is_portable_call f vs e ≡ b → AllByRecursion (Ready vs ws) (cond b (e ∷ []) parts)
        by true e' = (record { kind = k; typed_here = t; noted = n; formed = g; sent = (and_parts (portable f vs e) (holds_call f e) e').0 }, tt)
        by false e' = h

    mutual
      pub remote_ready : (e : Expr) (k : Kind) → type_of x ws e ≡ Ok k → IsNotedExpr types x ws e → IsFormedExpr e → AllByRecursion (Ready vs ws) (remote_in f vs e)
      remote_ready (Lit at value) k t n g = tt
      remote_ready (Name at name) k t n g = tt
      remote_ready (This at) k t n g = tt
      remote_ready (Unary at op a) k t n g =
          let b = placed_ok (expr_at a) (type_of x ws a) _ k t in
          whole_ready (Unary at op a) k (remote_in f vs a) t n g (remote_ready a b.0 b.1 n.1 g)
      remote_ready (Binary at op a b) k t n g =
          let c = placed_ok (expr_at a) (type_of x ws a) _ k t in
          let d = placed_ok (expr_at b) (type_of x ws b) _ k c.2 in
          whole_ready (Binary at op a b) k (remote_in f vs a ++ remote_in f vs b) t n g
          (all_append (Ready vs ws) (remote_in f vs a) (remote_in f vs b) (remote_ready a c.0 c.1 n.1 g.0) (remote_ready b d.0 d.1 n.2 g.1))
      remote_ready (Field at a name) k t n g = let b = placed_ok (expr_at a) (type_of x ws a) _ k t in remote_ready a b.0 b.1 n.1 g
      remote_ready (Call at a method args) k t n g =
          let b = placed_ok (expr_at a) (type_of x ws a) _ k t in
          let ts = bind_ok (types_of x ws args) _ k b.2 in
          whole_ready (Call at a method args) k (remote_in f vs a ++ all_remote_in f vs args) t n g
          (all_append (Ready vs ws) (remote_in f vs a) (all_remote_in f vs args) (remote_ready a b.0 b.1 n.1 g.0) (all_ready args ts.0 ts.1 n.2 g.1))
      remote_ready (Index at a b) k t n g =
          let c = placed_ok (expr_at a) (type_of x ws a) _ k t in
          let d = placed_ok (expr_at b) (type_of x ws b) _ k c.2 in
          all_append (Ready vs ws) (remote_in f vs a) (remote_in f vs b) (remote_ready a c.0 c.1 n.1 g.0) (remote_ready b d.0 d.1 n.2 g.1)
      remote_ready (New at class args) k t n g = let ts = bind_ok (types_of x ws args) _ k t in all_ready args ts.0 ts.1 n.1 g
      remote_ready (Items at item items) k t n g = let ts = bind_ok (types_of x ws items) _ k t in all_ready items ts.0 ts.1 n.1 g
      remote_ready (Taken at step) k t n g = tt

      all_ready : (es : Exprs) (ps : List Placed) → types_of x ws es ≡ Ok ps → AreNotedExprs types x ws es → AreFormedExprs es → AllByRecursion (Ready vs ws) (all_remote_in f vs es)
      all_ready NoExprs ps t n g = tt
      all_ready (MoreExprs e es) ps t n g =
          let b = placed_ok (expr_at e) (type_of x ws e) _ ps t in
          let qs = rest_typed (record { at = expr_at e; kind = b.0 }) (types_of x ws es) ps b.2 in
          all_append (Ready vs ws) (remote_in f vs e) (all_remote_in f vs es) (remote_ready e b.0 b.1 n.0 g.0) (all_ready es qs.0 qs.1 n.1 g.1)

    -- the one outermost expression of a statement
    pub one_ready : (e : Expr) (k : Kind) → type_of x ws e ≡ Ok k → IsNotedExpr types x ws e → IsFormedExpr e → AllByRecursion (Ready vs ws) (flat_map (remote_in f vs) (e ∷ []))
    one_ready e k t n g = all_append (Ready vs ws) (remote_in f vs e) [] (remote_ready e k t n g) tt

    module _ (ns : Names) (carry : Carry is vs ws ns) where
      value_good : (e : Expr) (k : Kind) (s : Server) → portable f vs e ≡ true → type_of x ws e ≡ Ok k → IsNotedExpr types x ws e → IsFormedExpr e → Fits' s → Fine service (Fits is [] k) (value_of p service e ns s)
      value_good e k s r t n g table = value_fine laws p service service_typed service_formed declared this remote vs ws ns carry e k s r t n g table

      performed_good : (es : List Expr) (s : Server) → AllByRecursion (Ready vs ws) es → Fits' s → Good (performed p service es ns s)
      performed_good [] s h t = (tt, t)
      performed_good (e ∷ es) s h t =
          then_good (Fits is [] h.0.kind) (value_of p service e ns s) _ (value_good e h.0.kind s h.0.sent h.0.typed_here h.0.noted h.0.formed t) (λ v s1 fv t1. performed_good es s1 h.1 t1)

      skims_good : (s : Stmt) (srv : Server) (go : Rest) → AllByRecursion (Ready vs ws) (remote_of f vs s) → Fits' srv → ((s1 : Server) → Fits' s1 → Good (go ns s1)) → Good (skims p service vs s ns srv go)
      skims_good s srv go h t more = then_good (λ (u : Unit {0}). Unit {0}) (performed p service (remote_of f vs s) ns srv) _ (performed_good (remote_of f vs s) srv h t) (λ u s1 fu t1. more s1 t1)

  -- the items of a constant list that the walk goes over
  items_fine : (vs : Scope) (ws : typed.Scope) (ns : Names) → Carry is vs ws ns → (e : Expr) (list item : Kind) → is_constant_list vs e ≡ true → list ≡ kind.ListOf item → type_of x ws e ≡ Ok list → IsFormedExpr e → Fair (All (Fits is [] item)) (items_named ns e)
  items_fine vs ws ns carry (Name at name) list item constant is_list t g =
      let b = bind_ok (known (UnknownName at) (typed.variable_named ws name)) _ list t in
      let same : (b.0).kind ≡ kind.ListOf item = cc (b.2, is_list) in
      let found = carry_read is vs ws ns name b.0 carry g (list_read (role_of vs name) constant) (known_ok (UnknownName at) (typed.variable_named ws name) b.0 b.1) in
      subst (λ o. Fair (All (Fits is [] item)) (items_of o)) (sym found.1) (items_fair (Fits is [] item) (out-Value found.0) (subst (λ m. Fits is [] m found.0) same found.2))
  items_fine vs ws ns carry (Lit at value) list item constant is_list t g = absurd (cc (constant))
  items_fine vs ws ns carry _ list item constant is_list t g = absurd (cc (constant))

  -- turns over rows and over the items of a list
  turns_good : (item : Kind) (at : ℕ) (turn : Value → Server → Walked) → ((row : Value) (s1 : Server) → Fits is [] item row → Fits' s1 → Good (turn row s1)) → (rows : List Value) (s : Server) → All (Fits is [] item) rows → Fits' s
      → Good (turns at turn rows s)
  turns_good item at turn each [] s h t = (tt, t)
  turns_good item at turn each (row ∷ rows) s h t =
      then_good (λ (v : Value). Unit {0}) (unit_of at s) _ (unit_fine service at s t) (λ v s1 fv t1.
      then_good (λ (u : Unit {0}). Unit {0}) (turn row s1) _ (each row s1 (All-head (Fits is [] item) row rows h) t1) (λ u s2 fu t2.
      turns_good item at turn each rows s2 (All-tail (Fits is [] item) row rows h) t2))

  -- what a loop over rows goes over is portable
  pub loop_portable : (around : List Around) (vs : Scope) (at : ℕ) (name : List ℕ) (e : Expr) (a : Stmts) → Within (sites f around vs (For at name e a)) ss → over_rows f e ≡ true → portable f vs e ≡ true
  loop_portable around vs at name e a w h =
      let s = stmt_site around vs (For at name e a) in
      sends.loops s (w s (stmt_first f around vs (For at name e a))) e (subst (λ t. Contains (cond t (e ∷ []) []) e) (sym h) (first_contained e []))

  -- and it is rows
  pub rows_only : (e : Expr) (list item : Kind) → types (expr_at e) ≡ Some (Ok list) → over_rows f e ≡ true → (list ≡ kind.ListOf item) ⊎ (list ≡ kind.RowsOf item) → list ≡ kind.RowsOf item
  rows_only e list item noted h (inl is_list) = absurd (cc (sym h ∙ rows_fact p (expr_at e) list noted ∙ ap is_rows is_list))
  rows_only e list item noted h (inr is_rows') = is_rows'

  -- no rows are a list
  pub list_only : (e : Expr) (list item : Kind) → types (expr_at e) ≡ Some (Ok list) → over_rows f e ≡ false → (list ≡ kind.ListOf item) ⊎ (list ≡ kind.RowsOf item) → list ≡ kind.ListOf item
  list_only e list item noted h (inl is_list) = is_list
  list_only e list item noted h (inr is_rows') = absurd (cc (sym h ∙ rows_fact p (expr_at e) list noted ∙ ap is_rows is_rows'))

  pub script_inside : (around : List Around) (b : Truth) → is_script_place f around ≡ true → b ≡ true → (is_script_place f around && b) ≡ true
  script_inside around b h e = ap (λ t. t && b) h ∙ e

  -- an `if`, whose blocks are walked where a remote operation stands in them
  branches_good : (form : PlacedForm) (around : List Around) (vs : Scope) (ws : typed.Scope) (at : ℕ) (c : Expr) (a b : Stmts) (ns : Names) (srv : Server) (go : Rest) → placed_form f vs (If at c a b) ≡ form
      → Within (sites f around vs (If at c a b)) ss
      → type_of x ws c ≡ Ok kind.Bool → IsNotedExpr types x ws c → IsFormedExpr c → Carry is vs ws ns → Fits' srv → ((s1 : Server) → Fits' s1 → Good (go ns s1))
      → (branches_hold f a b ≡ true → (s1 : Server) → Fits' s1 → Good (walk_block p service vs a ns s1 ended)) → (branches_hold f a b ≡ true → (s1 : Server) → Fits' s1 → Good (walk_block p service vs b ns s1 ended))
      → Good (walk_as p service form vs (If at c a b) ns srv go)
  branches_good PlacedForm.CarriedIf around vs ws at c a b ns srv go placing w t n g carry table ends first second =
      let holding = if_holds f vs at c a b placing in
      then_good (Fits is [] kind.Bool) (value_of p service c ns srv) _ (value_good vs ws ns carry c kind.Bool srv (condition_portable f ss none around vs at c a b w holding) t n g table) (λ v s1 fv t1.
      then_good (λ (q : Truth). Unit {0}) (replies at (truth_of (out-Value v)) s1) _ (rule_fine (λ (q : Truth). Unit {0}) at (truth_of (out-Value v)) s1 (conditions is [] v fv) t1) (λ holds s2 fh t2.
      then_good (λ (u : Unit {0}). Unit {0}) (cond holds (walk_block p service vs a ns s2 ended) (walk_block p service vs b ns s2 ended)) _
      (chosen_good holds (walk_block p service vs a ns s2 ended) (walk_block p service vs b ns s2 ended) (first holding s2 t2) (second holding s2 t2)) (λ u s3 fu t3. ends s3 t3)))
  branches_good form around vs ws at c a b ns srv go placing w t n g carry table ends first second =
      skims_good vs ws ns carry (If at c a b) srv go (one_ready vs ws c kind.Bool t n g) table ends

  -- an expression alone, of which the remote expressions are performed in each form
  alone_good : (form : PlacedForm) (vs : Scope) (at : ℕ) (e : Expr) (ns : Names) (srv : Server) (go : Rest) → Good (skims p service vs (Run at e) ns srv go) → Good (walk_as p service form vs (Run at e) ns srv go)
  alone_good PlacedForm.CallAlone vs at e ns srv go h = h
  alone_good form vs at e ns srv go h = h

  -- a loop, which is walked where it goes over rows or is carried
  loop_good : (form : PlacedForm) (around : List Around) (vs : Scope) (ws : typed.Scope) (at : ℕ) (name : List ℕ) (e : Expr) (a : Stmts) (list item : Kind) (ns : Names) (srv : Server) (go : Rest)
      → placed_form f vs (For at name e a) ≡ form → Within (sites f around vs (For at name e a)) ss
      → type_of x ws e ≡ Ok list → (list ≡ kind.ListOf item) ⊎ (list ≡ kind.RowsOf item) → IsNotedExpr types x ws e → IsFormedExpr e → Carry is vs ws ns → Fits' srv → ((s1 : Server) → Fits' s1 → Good (go ns s1))
      → (has_far_turns f vs e a ≡ true → (row : Value) (s1 : Server) → Fits is [] item row → Fits' s1 → Good (walk_block p service (with_variable vs name Role.Row at) a (with_name name row ns) s1 ended))
      → Good (walk_as p service form vs (For at name e a) ns srv go)
  loop_good PlacedForm.RowsLoop around vs ws at name e a list item ns srv go placing w t over n g carry table ends each =
      let holding = loop_over f vs at name e a placing in
      let rows_kind = rows_only e list item (kind_here types x ws e list n t) holding over in
      then_good (Fits is [] list) (value_of p service e ns srv) _ (value_good vs ws ns carry e list srv (loop_portable around vs at name e a w holding) t n g table) (λ v s1 fv t1.
      then_good (All (Fits is [] item)) (replies at (rows_in (out-Value v)) s1) _
      (rule_fine (All (Fits is [] item)) at (rows_in (out-Value v)) s1 (rows_fair (Fits is [] item) (out-Value v) (subst (λ m. Fits is [] m v) rows_kind fv)) t1) (λ rows s2 fr t2.
      then_good (λ (u : Unit {0}). Unit {0}) (turns at (λ row s3. walk_block p service (with_variable vs name Role.Row at) a (with_name name row ns) s3 ended) rows s2) _
      (turns_good item at (λ row s3. walk_block p service (with_variable vs name Role.Row at) a (with_name name row ns) s3 ended) (each (rows_far f vs e a holding)) rows s2 fr t2) (λ u s3 fu t3. ends s3 t3)))
  loop_good PlacedForm.CarriedLoop around vs ws at name e a list item ns srv go placing w t over n g carry table ends each =
      let carried = loop_carried f vs at name e a placing in
      let list_kind = list_only e list item (kind_here types x ws e list n t) carried.no_rows over in
      then_good (All (Fits is [] item)) (replies at (items_named ns e) srv) _
      (rule_fine (All (Fits is [] item)) at (items_named ns e) srv (items_fine vs ws ns carry e list item carried.list list_kind t g) table) (λ items s1 fi t1.
      then_good (λ (u : Unit {0}). Unit {0}) (turns at (λ row s2. walk_block p service (with_variable vs name Role.Row at) a (with_name name row ns) s2 ended) items s1) _
      (turns_good item at (λ row s2. walk_block p service (with_variable vs name Role.Row at) a (with_name name row ns) s2 ended) (each (carried_far f vs e a carried)) items s1 fi t1) (λ u s2 fu t2. ends s2 t2))
  loop_good form around vs ws at name e a list item ns srv go placing w t over n g carry table ends each =
      skims_good vs ws ns carry (For at name e a) srv go (one_ready vs ws e list t n g) table ends

  mutual
    walk_good : (around : List Around) → is_script_place f around ≡ true → (vs : Scope) (ws after : typed.Scope) (s : Stmt) (ns : Names) (srv : Server) (go : Rest) → check_stmt x ws s ≡ Ok after → IsNotedStmt types x ws s → IsFormedStmt s
        → Within (sites f around vs s) ss → Carry is vs ws ns → Fits' srv → ((ns1 : Names) (s1 : Server) → Carry is (scope_after f [] vs s) after ns1 → Fits' s1 → Good (go ns1 s1)) → Good (walk p service vs s ns srv go)
    walk_good around script vs ws after (Val at name e) ns srv go t n g w carry table more = by (portable f vs e) refl more
      where
        by : (b : Truth) → portable f vs e ≡ b → ((ns1 : Names) (s1 : Server) → Carry is (with_variable vs name (cond b Role.Carried Role.Plain) at) after ns1 → Fits' s1 → Good (go ns1 s1))
            → Good (walk_as p service (cond b PlacedForm.CarriedVal PlacedForm.Plain) vs (Val at name e) ns srv go)
        by true e' more' =
            let d = val_parts x ws at name e after t in
            then_good (Fits is [] d.kind) (value_of p service e ns srv) _ (value_good vs ws ns carry e d.kind srv e' d.typed n g table) (λ v s1 fv t1.
            more' (with_name name v ns) s1 (subst (λ a. Carry is (with_variable vs name Role.Carried at) a (with_name name v ns)) d.same (carry_more is vs ws ns name Role.Carried at d.kind true v fv carry)) t1)
        by false e' more' =
            let d = val_parts x ws at name e after t in
            skims_good vs ws ns carry (Val at name e) srv go (one_ready vs ws e d.kind d.typed n g) table (λ s1 t1.
            more' ns s1 (subst (λ a. Carry is (with_variable vs name Role.Plain at) a ns) d.same (carry_skip is vs ws ns name Role.Plain at d.kind true refl carry)) t1)
    walk_good around script vs ws after (Var at name e) ns srv go t n g w carry table more =
        let d = var_parts x ws at name e after t in
        skims_good vs ws ns carry (Var at name e) srv go (one_ready vs ws e d.kind d.typed n g) table (λ s1 t1.
        more ns s1 (subst (λ a. Carry is (with_variable vs name Role.Plain at) a ns) d.same (carry_skip is vs ws ns name Role.Plain at d.kind false refl carry)) t1)
    walk_good around script vs ws after (Assign at a b) ns srv go t n g w carry table more =
        let d = assign_parts x ws at a b after t in
        skims_good vs ws ns carry (Assign at a b) srv go
        (all_append (Ready vs ws) (remote_in f vs a) (remote_in f vs b ++ []) (remote_ready vs ws a d.left d.left_typed n.0 g.0) (one_ready vs ws b d.right d.right_typed n.1 g.1)) table (λ s1 t1.
        more ns s1 (subst (λ i. Carry is vs i ns) d.same carry) t1)
    walk_good around script vs ws after (Run at e) ns srv go t n g w carry table more =
        let d = run_parts x ws at e after t in
        alone_good (placed_form f vs (Run at e)) vs at e ns srv go
        (skims_good vs ws ns carry (Run at e) srv go (one_ready vs ws e d.kind d.typed n g) table (λ s1 t1. more ns s1 (subst (λ i. Carry is vs i ns) d.same carry) t1))
    walk_good around script vs ws after (Print at e) ns srv go t n g w carry table more =
        let d = print_parts x ws at e after t in
        skims_good vs ws ns carry (Print at e) srv go (one_ready vs ws e d.kind d.typed n g) table (λ s1 t1. more ns s1 (subst (λ i. Carry is vs i ns) d.same carry) t1)
    walk_good around script vs ws after (Throw at e) ns srv go t n g w carry table more =
        let d = throw_parts x ws at e after t in
        skims_good vs ws ns carry (Throw at e) srv go (one_ready vs ws e d.kind d.typed n g) table (λ s1 t1. more ns s1 (subst (λ i. Carry is vs i ns) d.same carry) t1)
    walk_good around script vs ws after (If at c a b) ns srv go t n g w carry table more =
        let d = if_parts x ws at c a b after t in
        let frame = Branch at vs c a b ∷ around in
        let rest = within_tail _ _ _ w in
        let ends = λ (s1 : Server) (t1 : Fits' s1). more ns s1 (subst (λ i. Carry is vs i ns) d.same carry) t1 in
        branches_good (placed_form f vs (If at c a b)) around vs ws at c a b ns srv go refl w d.typed n.0 g.0 carry table ends
        (λ holding s1 t1. block_good frame (script_inside around (branches_hold f a b) script holding) vs ws d.first a ns s1 ended d.first_typed n.1 g.1 (within_left (block_sites f frame vs a) (block_sites f frame vs b) _ rest) carry t1 (λ ns2 s2 t2. (tt, t2)))
        (λ holding s1 t1. block_good frame (script_inside around (branches_hold f a b) script holding) vs ws d.second b ns s1 ended d.second_typed n.2 g.2 (within_right (block_sites f frame vs a) (block_sites f frame vs b) _ rest) carry t1 (λ ns2 s2 t2. (tt, t2)))
    walk_good around script vs ws after (While at c a) ns srv go t n g w carry table more =
        let d = while_parts x ws at c a after t in
        skims_good vs ws ns carry (While at c a) srv go (one_ready vs ws c kind.Bool d.typed n.0 g.0) table (λ s1 t1. more ns s1 (subst (λ i. Carry is vs i ns) d.same carry) t1)
    walk_good around script vs ws after (For at name e a) ns srv go t n g w carry table more =
        let d = for_parts x ws at name e a after t in
        let inner = typed.with_variable ws name d.item true in
        let same : scope_or ws (placed x ws e >>= λ q. loop_scope ws at name q) ≡ inner = ap (scope_or ws) d.judged in
        let noted : AreNotedStmts types x inner a = subst (λ i. AreNotedStmts types x i a) same n.1 in
        let frame = Turn at vs e a ∷ around in
        let turn_scope = with_variable vs name Role.Row at in
        let rest = within_tail _ _ _ w in
        loop_good (placed_form f vs (For at name e a)) around vs ws at name e a d.list d.item ns srv go refl w d.typed d.over n.0 g.0 carry table (λ s1 t1. more ns s1 (subst (λ i. Carry is vs i ns) d.same carry) t1)
        (λ far row s1 fr t1.
        block_good frame (script_inside around (has_far_turns f vs e a) script far) turn_scope inner d.last a (with_name name row ns) s1 ended d.block_typed noted g.1
        (subst (λ r. Within (block_sites f frame (with_variable vs name r at) a) ss) (far_row f around vs e a script far) rest) (carry_more is vs ws ns name Role.Row at d.item true row fr carry) t1 (λ ns2 s2 t2. (tt, t2)))
    walk_good around script vs ws after (Try at a name b) ns srv go t n g w carry table more =
        let d = try_parts x ws at a name b after t in
        skims_good vs ws ns carry (Try at a name b) srv go tt table (λ s1 t1. more ns s1 (subst (λ i. Carry is vs i ns) d.same carry) t1)
    walk_good around script vs ws after (Batch at interface root a) ns srv go t n g w carry table more =
        let d = batch_parts x ws at interface root a after t in
        skims_good vs ws ns carry (Batch at interface root a) srv go tt table (λ s1 t1. more ns s1 (subst (λ i. Carry is vs i ns) d.same carry) t1)

    pub block_good : (around : List Around) → is_script_place f around ≡ true → (vs : Scope) (ws after : typed.Scope) (block : Stmts) (ns : Names) (srv : Server) (go : Rest) → check_stmts x ws block ≡ Ok after → AreNotedStmts types x ws block
        → AreFormedStmts block → Within (block_sites f around vs block) ss → Carry is vs ws ns → Fits' srv → ((ns1 : Names) (s1 : Server) → Fits' s1 → Good (go ns1 s1)) → Good (walk_block p service vs block ns srv go)
    block_good around script vs ws after NoStmts ns srv go t n g w carry table more = more ns srv table
    block_good around script vs ws after (MoreStmts s rest) ns srv go t n g w carry table more =
        let d = stmts_parts x ws s rest after t in
        let same : scope_or ws (check_stmt x ws s) ≡ d.middle = ap (scope_or ws) d.typed in
        let later = within_right (sites f around vs s) (block_sites f around (scope_after f around vs s) rest) _ w in
        walk_good around script vs ws d.middle s ns srv (λ ns1 s1. walk_block p service (scope_after f [] vs s) rest ns1 s1 go) d.typed n.0 g.0 (within_left (sites f around vs s) (block_sites f around (scope_after f around vs s) rest) _ w) carry table
        (λ ns1 s1 c1 t1. block_good around script (scope_after f [] vs s) d.middle after rest ns1 s1 go d.rest (subst (λ i. AreNotedStmts types x i rest) same n.1) g.1
        (subst (λ i. Within (block_sites f around i rest) ss) (script_scope f around vs s script) later) c1 t1 more)
