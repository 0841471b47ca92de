-- The steps of a block do what a walk over its source does.
use Rattle.std.proofs.Common.{◌≡◌, ◌⊎◌, inl, inr, refl, sym, ap, ◌∙◌, subst, ℕ, suc, List, [], ◌∷◌, ◌++◌, Bool as Truth, true, false, ◌&&◌, ◌||◌, cond, All, Option, Some, Ok}
use Rattle.std.specs.List.{AllByRecursion, Contains, flat_map}
use Rattle.std.proofs.lemmas.Bool.{and_parts, or_right}
use Rattle.rb_trees.specs.Outcome.{◌>>=◌}
use Rattle.rb_trees.specs.declared.values.Value.{Value}
use Rattle.rb_trees.specs.declared.values.Value.TheOpen.{Value-F}
use Rattle.rb_trees.specs.declared.values.Value.TheViews.{out-Value}
use Rattle.rb_trees.specs.declared.refusals.Refusal.{Refusal}
use Rattle.rb_trees.specs.mirror.Code.{Expr, Lit, Name, This, Unary, Binary, Field, Call, Index, New, Items, Taken, expr_at, Stmt, Stmts, Val, Var, Assign, Run, Print, Throw, If, While, For, Try, Batch, NoStmts, MoreStmts}
use Rattle.rb_trees.specs.mirror.Declarations.{Program, Interface}
use Rattle.rb_trees.specs.mirror.Forests as forest
use Rattle.rb_trees.specs.mirror.Scripts as script
use Rattle.rb_trees.specs.mirror.Scripts.{Steps, MoreSteps}
use Rattle.rb_trees.specs.mirror.Services.{Service}
use Rattle.rb_meaning_types.specs.Kinds as kind
use Rattle.rb_meaning_types.specs.Kinds.{Kind}
use Rattle.rb_meaning_types.specs.Violations.{Checked}
use Rattle.rb_meaning_types.specs.Declared.{Context, of_program}
use Rattle.rb_meaning_types.specs.Scopes as typed
use Rattle.rb_meaning_types.specs.Expressions.{type_of}
use Rattle.rb_meaning_types.specs.Statements.{placed, loop_scope, check_stmt, check_stmts}
use Rattle.rb_meaning_types.specs.Notes.{scope_or, type_at}
use Rattle.rb_meaning_types.specs.Programs.{check_service}
use Rattle.rb_meaning_types.specs.Fits.{AreRows, Fits}
use Rattle.rb_meaning_code.specs.State.{Names}
use Rattle.rb_meaning_code.specs.Statements.{truth_of}
use Rattle.rb_meaning_code.specs.Remote.{Server, Reply, Got, and_then, replies, rows_in}
use Rattle.rb_meaning_code.specs.ScriptRun as run
use Rattle.rb_meaning_code.specs.ScriptRun.{Ground, Vars, Ran, with_entry, kept, with_kept, condition, rows_of, branched, chosen, turn_over, walked, run_steps}
use Rattle.rb_meaning_flow.specs.declared.forms.PlacedForm.{PlacedForm}
use Rattle.rb_meaning_flow.specs.declared.scopes.Role.{Role}
use Rattle.rb_meaning_flow.specs.Facts.{Facts, facts_of, over_rows, is_rows}
use Rattle.rb_meaning_flow.specs.Scopes.{Scope, with_variable}
use Rattle.rb_meaning_flow.specs.Portable.{portable, holds_call, block_holds, branches_hold, is_constant_list, may_carry, has_far_turns}
use Rattle.rb_meaning_flow.specs.Marks.{is_portable_call}
use Rattle.rb_meaning_flow.specs.Forms.{placed_form}
use Rattle.rb_meaning_flow.specs.Sites.{Around, Branch, Turn, is_script_place, StmtSite, turn_role, scope_after, stmt_site, sites, block_sites}
use Rattle.rb_meaning_flow.specs.Refusals.{IsRefusal}
use Rattle.rb_meaning.specs.RemoteExprs.{remote_in, all_remote_in, remote_of}
use Rattle.rb_meaning.specs.ConstantLists.{name_of, items_named}
use Rattle.rb_meaning.specs.RemotePart as part
use Rattle.rb_meaning.specs.RemotePart.{Walked, Rest, with_name, performed, skims, walk_as, walk, walk_block}
use Rattle.rb_meaning_split.specs.Refs.{Refs, with_var, list_number, sexpr}
use Rattle.rb_meaning_split.specs.Inputs.{constants, kept_constants, used_as, used, used_in}
use Rattle.rb_meaning_split.specs.Numbers.{step_after, steps_after, var_after_as, var_after, vars_after}
use Rattle.rb_meaning_split.specs.Steps.{refs_after_as, refs_after, keeps_val, keeps, steps_as, steps, block_steps}
use Rattle.rb_flow.specs.Laws.{SendsPortable}
use Rattle.rb_flow.proofs.Members.{first_contained}
use Rattle.rb_law_types.specs.Own.{IsFarItem, IsFarKind}
use Rattle.rb_law_types.specs.Formed.{IsFormedExpr, IsFormedStmt, AreFormedStmts, AreFormed}
use Rattle.rb_law_types.specs.Noted.{IsNotedExpr, IsNotedStmt, AreNotedStmts}
use Rattle.rb_law_types.specs.Code.{AreTyped}
use Rattle.rb_law_types.proofs.Parts.{val_parts, var_parts, assign_parts, run_parts, print_parts, throw_parts, if_parts, while_parts, for_parts, try_parts, batch_parts, stmts_parts}
use Rattle.rb_law_types.proofs.TypeFacts.{kind_here, primitive_fact, items_fact, rows_fact}
use Rattle.rb_law_types.proofs.SitesWithin.{Within, within_left, within_right, within_tail, stmt_first}
use Rattle.rb_law_unsplit.proofs.Conditions.{condition_portable}
use Rattle.rb_law_unsplit.proofs.Walking.{Laws}
use Rattle.rb_law_unsplit.proofs.Walked.{script_scope}
use Rattle.rb_law_script.proofs.Forms.{Tells, told}
use Rattle.rb_law_script.proofs.Numbers.{var_grows, vars_grow, IsNoVal, same_refs}
use Rattle.rb_law_script.proofs.Sent.{Sent}
use Rattle.rb_law_script.proofs.Kept.{kept_sent}
use Rattle.rb_law_script.proofs.Alike.{Table, Sound, then_sound, rule_sound, kept_same, and_then_after, Alike, reply_alike, entry_alike, kept_alike, branch_alike, turns_alike, turn_alike}
use Rattle.rb_law_script.proofs.Joined.{fits_primitive, Joined, joined_up, joined_more, joined_plain, same_value, sound_value, far_value, same_items, sound_items, far_items}

-- a remote expression as a whole is the one in it
pub one_remote : (f : Facts) (vs : Scope) (e : Expr) → is_portable_call f vs e ≡ true → remote_in f vs e ≡ e ∷ []
one_remote f vs (Unary at op a) h = ap (λ t. cond t (Unary at op a ∷ []) (remote_in f vs a)) h
one_remote f vs (Binary at op a b) h = ap (λ t. cond t (Binary at op a b ∷ []) (remote_in f vs a ++ remote_in f vs b)) h
one_remote f vs (Call at a method args) h = ap (λ t. cond t (Call at a method args ∷ []) (remote_in f vs a ++ all_remote_in f vs args)) h
one_remote f vs (Lit at v) h = absurd (cc (h))
one_remote f vs (Name at name) h = absurd (cc ((and_parts (portable f vs (Name at name)) false h).1))
one_remote f vs (This at) h = absurd (cc (h))
one_remote f vs (Field at a name) h = absurd (cc (h))
one_remote f vs (Index at a b) h = absurd (cc (h))
one_remote f vs (New at class args) h = absurd (cc (h))
one_remote f vs (Items at item items) h = absurd (cc (h))
one_remote f vs (Taken at step) h = absurd (cc (h))

pub item_kind : (is : List Interface) (k : Kind) → IsFarItem is k → IsFarKind is k
item_kind is kind.Int h = tt
item_kind is kind.Bool h = tt
item_kind is kind.Text h = tt
item_kind is kind.Unit h = absurd h
item_kind is (kind.Named name) h = h
item_kind is (kind.ListOf item) h = absurd h
item_kind is (kind.RowsOf row) h = absurd h

pub rows_fit : (P : Value → Type 0) (w : Value-F Value) → AreRows P w → (rows : List Value) → rows_in w ≡ Ok rows → All P rows
rows_fit P (Value-F.Rows vs) h rows e = let same : vs ≡ rows = cc (e) in subst (All P) same h
rows_fit P Value-F.Unit h rows e = absurd h
rows_fit P _ h rows e = absurd h

module _ (laws : Laws) (p : Program) (service : Service) (service_typed : check_service service.classes ≡ Ok tt) (service_formed : AreFormed service.classes) (declared : AreTyped (of_program p)) (this : Option (List ℕ)) (remote : Truth)
    (ss : List StmtSite) (none : (r : Refusal) → IsRefusal (facts_of p) ss r → ⊥) (sends : SendsPortable (facts_of p) ss) (g : Ground) (classes : g.classes ≡ service.classes) (inputs : List (List ℕ)) where
  abbrev x : Context
  x = record { declared = of_program p; this = this; remote = remote }

  abbrev is : List Interface
  is = p.interfaces

  abbrev f : Facts
  f = facts_of p

  abbrev types : ℕ → Option (Checked Kind)
  types = type_at p

  abbrev Sent' : Scope → typed.Scope → Expr → Type 0
  Sent' vs ws e = Sent laws.given p declared this remote vs ws e

  abbrev pub Like : Walked → Ran → Type 0
  Like w r = Alike service w r

  abbrev pub At : Refs → ℕ → Scope → typed.Scope → Names → Vars → Type 0
  At refs m vs ws ns vars = Joined is g inputs refs m vs ws ns vars

  -- what follows a statement
  abbrev pub More : Refs → ℕ → Scope → typed.Scope → Rest → Steps → (Vars → Server → Ran) → Type 0
  More refs m vs ws go rest kr = (ns1 : Names) (s1 : Server) (vars1 : Vars) → At refs m vs ws ns1 vars1 → Table service s1 → Like (go ns1 s1) (run_steps g rest vars1 s1 kr)

  module _ (refs : Refs) (m : ℕ) (vs : Scope) (ws : typed.Scope) (ns : Names) (vars : Vars) (j : At refs m vs ws ns vars) where
    abbrev value : Expr → Server → Reply Value
    value e s = part.value_of p service e ns s

    abbrev run_value : ℕ → Expr → Server → Reply Value
    run_value at e s = run.value_of g at vars (sexpr p refs e) s

    same : (e : Expr) (at : ℕ) (s : Server) → portable f vs e ≡ true → IsFormedExpr e → Within (constants vs e) inputs → run_value at e s ≡ value e s
    same e at s r formed w = same_value laws p service service_typed service_formed declared this remote g classes inputs refs m vs ws ns vars j e at s r formed w

    sound : (e : Expr) (k : Kind) (s : Server) → portable f vs e ≡ true → type_of x ws e ≡ Ok k → IsNotedExpr types x ws e → IsFormedExpr e → Table service s → Sound service (Fits is [] k) (value e s)
    sound e k s r t n formed table = sound_value laws p service service_typed service_formed declared this remote g classes inputs refs m vs ws ns vars j e k s r t n formed table

    far : (e : Expr) (k : Kind) → portable f vs e ≡ true → type_of x ws e ≡ Ok k → IsNotedExpr types x ws e → IsFormedExpr e → IsFarKind is k
    far e k r t n formed = far_value laws p service service_typed service_formed declared this remote g classes inputs refs m vs ws ns vars j e k r t n formed

    -- remote expressions, each of which is kept
    performed_alike : (es : List Expr) (n : ℕ) (s : Server) (rest : Steps) (kr : Vars → Server → Ran) (go : Server → Walked) → AllByRecursion (Sent' vs ws) es → Within (flat_map (constants vs) es) inputs → Table service s
        → ((s1 : Server) → Table service s1 → Like (go s1) (run_steps g rest vars s1 kr)) → Like (and_then (performed p service es ns s) (λ u s1. go s1)) (run_steps g (keeps p refs n es rest) vars s kr)
    performed_alike [] n s rest kr go sent w table more = more s table
    performed_alike (e ∷ es) n s rest kr go sent w table more =
        let first = sent.0 in
        let fits = sound e first.kind s first.sent first.typed_here first.noted first.formed table in
        subst (λ d. Like d (run_steps g (keeps p refs n (e ∷ es) rest) vars s kr)) (sym (and_then_after (value e s) (λ v s1. performed p service es ns s1) (λ u s1. go s1)))
        (reply_alike service (Fits is [] first.kind) n (value e s) (and_then (run_value (expr_at e) e s) (kept true (expr_at e))) (λ v s1. and_then (performed p service es ns s1) (λ u s2. go s2))
        (λ v s1. with_entry (forest.Value v) (run_steps g (keeps p refs (suc n) es rest) vars s1 kr))
        (ap (λ r. and_then r (kept true (expr_at e))) (same e (expr_at e) s first.sent first.formed (within_left (constants vs e) (flat_map (constants vs) es) inputs w))
        ∙ kept_same service (Fits is [] first.kind) true (expr_at e) (value e s) fits (λ k v h. fits_primitive is first.kind v first.primitive h))
        fits (λ v s1 h t1.
        entry_alike service (and_then (performed p service es ns s1) (λ u s2. go s2)) (run_steps g (keeps p refs (suc n) es rest) vars s1 kr) (forest.Value v)
        (performed_alike es (suc n) s1 rest kr go sent.1 (within_right (constants vs e) (flat_map (constants vs) es) inputs w) t1 more)))

    skims_alike : (s : Stmt) (n : ℕ) (srv : Server) (go : Rest) (rest : Steps) (kr : Vars → Server → Ran) → AllByRecursion (Sent' vs ws) (remote_of f vs s) → Within (kept_constants f vs s) inputs → Table service srv
        → ((s1 : Server) → Table service s1 → Like (go ns s1) (run_steps g rest vars s1 kr)) → Like (skims p service vs s ns srv go) (run_steps g (keeps p refs n (remote_of f vs s) rest) vars srv kr)
    skims_alike s n srv go rest kr sent w table more = performed_alike (remote_of f vs s) n srv rest kr (λ s1. go ns s1) sent w table more

    -- a carried val
    carried_alike : (n at : ℕ) (name : List ℕ) (e : Expr) (k : Kind) (srv : Server) (go : Rest) (rest : Steps) (kr : Vars → Server → Ran) → portable f vs e ≡ true → type_of x ws e ≡ Ok k → IsNotedExpr types x ws e → IsFormedExpr e → Within (constants vs e) inputs → Table service srv
        → typed.is_free ws name ≡ true → More (with_var refs name m) (suc m) (with_variable vs name Role.Carried at) (typed.with_variable ws name k true) go rest kr
        → Like (and_then (value e srv) (λ v s1. go (with_name name v ns) s1)) (run_steps g (MoreSteps (script.Let n at m (keeps_val p e) (sexpr p refs e)) rest) vars srv kr)
    carried_alike n at name e k srv go rest kr r t noted formed w table free more =
        let fits = sound e k srv r t noted formed table in
        reply_alike service (Fits is [] k) n (value e srv) (and_then (run_value at e srv) (kept (keeps_val p e) at)) (λ v s1. go (with_name name v ns) s1)
        (λ v s1. with_kept (keeps_val p e) v (run_steps g rest ((m, v) ∷ vars) s1 kr))
        (ap (λ q. and_then q (kept (keeps_val p e) at)) (same e at srv r formed w)
        ∙ kept_same service (Fits is [] k) (keeps_val p e) at (value e srv) fits (λ keep v h. fits_primitive is k v (sym (primitive_fact p (expr_at e) k (kind_here types x ws e k noted t)) ∙ (and_parts (holds_call f e) (f.primitive (expr_at e)) keep).1) h))
        fits (λ v s1 h t1.
        kept_alike service (go (with_name name v ns) s1) (run_steps g rest ((m, v) ∷ vars) s1 kr) (keeps_val p e) v
        (more (with_name name v ns) s1 ((m, v) ∷ vars) (joined_more is g inputs refs m vs ws ns vars name Role.Carried at k v j refl (far e k r t noted formed) free h) t1))

    -- a remote expression alone
    done_alike : (n at : ℕ) (e : Expr) (k : Kind) (srv : Server) (go : Rest) (rest : Steps) (kr : Vars → Server → Ran) → is_portable_call f vs e ≡ true → type_of x ws e ≡ Ok k → IsNotedExpr types x ws e → IsFormedExpr e → Within (kept_constants f vs (Run at e)) inputs → Table service srv
        → ((s1 : Server) → Table service s1 → Like (go ns s1) (run_steps g rest vars s1 kr)) → Like (skims p service vs (Run at e) ns srv go) (run_steps g (MoreSteps (script.Do n at (sexpr p refs e)) rest) vars srv kr)
    done_alike n at e k srv go rest kr whole t noted formed w table more =
        let list : remote_of f vs (Run at e) ≡ e ∷ [] = ap (λ l. l ++ []) (one_remote f vs e whole) in
        let w1 : Within (flat_map (constants vs) (e ∷ [])) inputs = subst (λ l. Within (flat_map (constants vs) l) inputs) list w in
        let r = (and_parts (portable f vs e) (holds_call f e) whole).0 in
        subst (λ l. Like (and_then (performed p service l ns srv) (λ u s1. go ns s1)) (run_steps g (MoreSteps (script.Do n at (sexpr p refs e)) rest) vars srv kr)) (sym list)
        (subst (λ d. Like d (run_steps g (MoreSteps (script.Do n at (sexpr p refs e)) rest) vars srv kr)) (sym (and_then_after (value e srv) (λ v s1. Got tt s1) (λ u s1. go ns s1)))
        (reply_alike service (Fits is [] k) n (value e srv) (run_value at e srv) (λ v s1. go ns s1) (λ v s1. run_steps g rest vars s1 kr) (same e at srv r formed (within_left (constants vs e) [] inputs w1))
        (sound e k srv r t noted formed table) (λ v s1 h t1. more s1 t1)))

    -- an `if` whose branches are run
    either_alike : (n at : ℕ) (c : Expr) (sa sb : Steps) (wa wb : Server → Walked) (srv : Server) (go : Rest) (rest : Steps) (kr : Vars → Server → Ran) → portable f vs c ≡ true → type_of x ws c ≡ Ok kind.Bool → IsNotedExpr types x ws c → IsFormedExpr c → Within (constants vs c) inputs → Table service srv
        → ((s1 : Server) → Table service s1 → Like (wa s1) (run_steps g sa vars s1 run.ended)) → ((s1 : Server) → Table service s1 → Like (wb s1) (run_steps g sb vars s1 run.ended)) → ((s1 : Server) → Table service s1 → Like (go ns s1) (run_steps g rest vars s1 kr))
        → Like (and_then (value c srv) (λ v s1. and_then (replies at (truth_of (out-Value v)) s1) (λ holds s2. and_then (cond holds (wa s2) (wb s2)) (λ u s3. go ns s3))))
        (run_steps g (MoreSteps (script.If n at (sexpr p refs c) sa sb) rest) vars srv kr)
    either_alike n at c sa sb wa wb srv go rest kr r t noted formed w table first second more =
        let goes = λ (holds : Truth) (s2 : Server). and_then (cond holds (wa s2) (wb s2)) (λ u s3. go ns s3) in
        subst (λ d. Like d (run_steps g (MoreSteps (script.If n at (sexpr p refs c) sa sb) rest) vars srv kr)) (and_then_after (value c srv) (condition at) goes)
        (reply_alike service (λ (q : Truth). Unit {0}) n (and_then (value c srv) (condition at)) (and_then (run_value at c srv) (condition at)) goes
        (λ holds s1. branched holds (chosen holds (run_steps g sa vars s1 run.ended) (run_steps g sb vars s1 run.ended)) (λ s2. run_steps g rest vars s2 kr))
        (ap (λ q. and_then q (condition at)) (same c at srv r formed w))
        (then_sound service (Fits is [] kind.Bool) (λ (q : Truth). Unit {0}) (value c srv) (condition at) (sound c kind.Bool srv r t noted formed table) (λ v s1 h t1. rule_sound service (λ (q : Truth). Unit {0}) at (truth_of (out-Value v)) s1 (λ b e. tt) t1))
        (λ holds s1 h t1. branch_alike service holds (wa s1) (wb s1) (run_steps g sa vars s1 run.ended) (run_steps g sb vars s1 run.ended) (λ s3. go ns s3) (λ s2. run_steps g rest vars s2 kr) (first s1 t1) (second s1 t1) more))

    same_list : (e : Expr) (at : ℕ) (s : Server) → is_constant_list vs e ≡ true → IsFormedExpr e → Within (name_of e) inputs → run.items_of g at (list_number refs e) s ≡ replies at (items_named ns e) s
    same_list e at s is_list formed w = same_items laws p service service_typed service_formed declared this remote g classes inputs refs m vs ws ns vars j e at s is_list formed w

    sound_list : (e : Expr) (item : Kind) (at : ℕ) (s : Server) → is_constant_list vs e ≡ true → type_of x ws e ≡ Ok (kind.ListOf item) → IsFormedExpr e → Table service s → Sound service (All (Fits is [] item)) (replies at (items_named ns e) s)
    sound_list e item at s is_list t formed table = sound_items laws p service service_typed service_formed declared this remote g classes inputs refs m vs ws ns vars j e item at s is_list t formed table

    far_list : (e : Expr) (item : Kind) → is_constant_list vs e ≡ true → type_of x ws e ≡ Ok (kind.ListOf item) → IsFarKind is item
    far_list e item is_list t = far_items laws p service service_typed service_formed declared this remote g classes inputs refs m vs ws ns vars j e item is_list t

    -- the turns of a loop over rows or items, and what follows them
    turning_alike : (n at : ℕ) (keep : Truth) (item : Kind) (block : Steps) (turn : Value → Server → Walked) (go : Rest) (rest : Steps) (kr : Vars → Server → Ran) → (keep ≡ true → kind.is_primitive item ≡ true)
        → ((row : Value) (s1 : Server) → Fits is [] item row → Table service s1 → Like (turn row s1) (run_steps g block ((m, row) ∷ vars) s1 run.ended)) → ((s1 : Server) → Table service s1 → Like (go ns s1) (run_steps g rest vars s1 kr))
        → (rows : List Value) (s1 : Server) → All (Fits is [] item) rows → Table service s1
        → Like (and_then (part.turns at turn rows s1) (λ u s2. go ns s2)) (walked n at (run.turns (λ row s2. turn_over n at keep (λ s3. run_steps g block ((m, row) ∷ vars) s3 run.ended) row s2) rows s1) (λ s2. run_steps g rest vars s2 kr))
    turning_alike n at keep item block turn go rest kr primitive each more rows s1 h t1 =
        turns_alike service (Fits is [] item) n at turn (λ row s2. turn_over n at keep (λ s3. run_steps g block ((m, row) ∷ vars) s3 run.ended) row s2)
        (λ row s2 fits t2. turn_alike service n at keep (λ s3. run_steps g block ((m, row) ∷ vars) s3 run.ended) row s2 (turn row s2) (λ is_kept. fits_primitive is item row (primitive is_kept) fits) (each row s2 fits t2))
        rows s1 (λ s3. go ns s3) (λ s2. run_steps g rest vars s2 kr) h t1 more

    -- a loop over rows
    each_alike : (n at : ℕ) (e : Expr) (item : Kind) (block : Steps) (turn : Value → Server → Walked) (srv : Server) (go : Rest) (rest : Steps) (kr : Vars → Server → Ran) → portable f vs e ≡ true → type_of x ws e ≡ Ok (kind.RowsOf item) → IsNotedExpr types x ws e → IsFormedExpr e → Within (constants vs e) inputs → Table service srv
        → ((row : Value) (s1 : Server) → Fits is [] item row → Table service s1 → Like (turn row s1) (run_steps g block ((m, row) ∷ vars) s1 run.ended)) → ((s1 : Server) → Table service s1 → Like (go ns s1) (run_steps g rest vars s1 kr))
        → Like (and_then (value e srv) (λ v s1. and_then (replies at (rows_in (out-Value v)) s1) (λ rows s2. and_then (part.turns at turn rows s2) (λ u s3. go ns s3))))
        (run_steps g (MoreSteps (script.Each n at m (f.items (expr_at e)) (sexpr p refs e) block) rest) vars srv kr)
    each_alike n at e item block turn srv go rest kr r t noted formed w table each more =
        let goes = λ (rows : List Value) (s2 : Server). and_then (part.turns at turn rows s2) (λ u s3. go ns s3) in
        let keep = f.items (expr_at e) in
        let fact = items_fact p (expr_at e) (kind.RowsOf item) (kind_here types x ws e (kind.RowsOf item) noted t) in
        subst (λ d. Like d (run_steps g (MoreSteps (script.Each n at m keep (sexpr p refs e) block) rest) vars srv kr)) (and_then_after (value e srv) (rows_of at) goes)
        (reply_alike service (All (Fits is [] item)) n (and_then (value e srv) (rows_of at)) (and_then (run_value at e srv) (rows_of at)) goes
        (λ rows s1. walked n at (run.turns (λ row s2. turn_over n at keep (λ s3. run_steps g block ((m, row) ∷ vars) s3 run.ended) row s2) rows s1) (λ s2. run_steps g rest vars s2 kr))
        (ap (λ q. and_then q (rows_of at)) (same e at srv r formed w))
        (then_sound service (Fits is [] (kind.RowsOf item)) (All (Fits is [] item)) (value e srv) (rows_of at) (sound e (kind.RowsOf item) srv r t noted formed table)
        (λ v s1 h t1. rule_sound service (All (Fits is [] item)) at (rows_in (out-Value v)) s1 (rows_fit (Fits is [] item) (out-Value v) h) t1))
        (turning_alike n at keep item block turn go rest kr (λ is_kept. sym fact ∙ is_kept) each more))

    -- a carried loop
    over_alike : (n at : ℕ) (e : Expr) (item : Kind) (block : Steps) (turn : Value → Server → Walked) (srv : Server) (go : Rest) (rest : Steps) (kr : Vars → Server → Ran) → is_constant_list vs e ≡ true → type_of x ws e ≡ Ok (kind.ListOf item) → IsFormedExpr e → Within (name_of e) inputs → Table service srv
        → ((row : Value) (s1 : Server) → Fits is [] item row → Table service s1 → Like (turn row s1) (run_steps g block ((m, row) ∷ vars) s1 run.ended)) → ((s1 : Server) → Table service s1 → Like (go ns s1) (run_steps g rest vars s1 kr))
        → Like (and_then (replies at (items_named ns e) srv) (λ items s1. and_then (part.turns at turn items s1) (λ u s2. go ns s2)))
        (run_steps g (MoreSteps (script.Over n at m (list_number refs e) block) rest) vars srv kr)
    over_alike n at e item block turn srv go rest kr is_list t formed w table each more =
        reply_alike service (All (Fits is [] item)) n (replies at (items_named ns e) srv) (run.items_of g at (list_number refs e) srv) (λ items s1. and_then (part.turns at turn items s1) (λ u s2. go ns s2))
        (λ items s1. walked n at (run.turns (λ row s2. turn_over n at false (λ s3. run_steps g block ((m, row) ∷ vars) s3 run.ended) row s2) items s1) (λ s2. run_steps g rest vars s2 kr))
        (same_list e at srv is_list formed w) (sound_list e item at srv is_list t formed table)
        (turning_alike n at false item block turn go rest kr (λ is_kept. absurd (cc (is_kept))) each more)

  -- what a loop over rows goes over is portable, and is rows
  pub loop_portable : (around : List Around) (vs : Scope) (at : ℕ) (name : List ℕ) (e : Expr) (a : Stmts) → Within (sites f around vs (For at name e a)) ss → over_rows f e ≡ true → portable f vs e ≡ true
  loop_portable around vs at name e a w h =
      let s = stmt_site around vs (For at name e a) in
      sends.loops s (w s (stmt_first f around vs (For at name e a))) e (subst (λ t. Contains (cond t (e ∷ []) []) e) (sym h) (first_contained e []))

  pub rows_only : (e : Expr) (list item : Kind) → types (expr_at e) ≡ Some (Ok list) → over_rows f e ≡ true → (list ≡ kind.ListOf item) ⊎ (list ≡ kind.RowsOf item) → list ≡ kind.RowsOf item
  rows_only e list item noted h (inl is_list) = absurd (cc (sym h ∙ rows_fact p (expr_at e) list noted ∙ ap is_rows is_list))
  rows_only e list item noted h (inr is_rows') = is_rows'

  -- what another loop goes over is a list
  list_only : (e : Expr) (list item : Kind) → types (expr_at e) ≡ Some (Ok list) → over_rows f e ≡ false → (list ≡ kind.ListOf item) ⊎ (list ≡ kind.RowsOf item) → list ≡ kind.ListOf item
  list_only e list item noted h (inl is_list) = is_list
  list_only e list item noted h (inr is_rows') = absurd (cc (sym h ∙ rows_fact p (expr_at e) list noted ∙ ap is_rows is_rows'))

  -- the variable of a loop whose turns are the script's is a row
  far_role : (around : List Around) (vs : Scope) (e : Expr) (a : Stmts) → is_script_place f around ≡ true → has_far_turns f vs e a ≡ true → turn_role f around vs e a ≡ Role.Row
  far_role around vs e a place far = ap (λ t. cond (over_rows f e || (t && may_carry f vs e a)) Role.Row Role.Plain) place ∙ ap (λ t. cond t Role.Row Role.Plain) far

  pub script_inside : (around : List Around) (b : Truth) → is_script_place f around ≡ true → b ≡ true → (is_script_place f around && b) ≡ true
  script_inside around b h e = ap (λ t. t && b) h ∙ e

  rows_far : (list item : Kind) → list ≡ kind.RowsOf item → IsFarKind is list → IsFarKind is item
  rows_far list item e h = item_kind is item (subst (IsFarKind is) e h)

  -- where the scope of types goes on as it was
  on_same : (refs : Refs) (m : ℕ) (vs : Scope) (ws after : typed.Scope) (go : Rest) (rest : Steps) (kr : Vars → Server → Ran) (ns : Names) (vars : Vars) → ws ≡ after → More refs m vs after go rest kr → At refs m vs ws ns vars
      → (s1 : Server) → Table service s1 → Like (go ns s1) (run_steps g rest vars s1 kr)
  on_same refs m vs ws after go rest kr ns vars e more j s1 t1 = more ns s1 vars (subst (λ i. At refs m vs i ns vars) e j) t1

  -- so it goes on after a statement that is no val
  on_after : (s : Stmt) → IsNoVal s → (refs : Refs) (m : ℕ) (vs : Scope) (ws after : typed.Scope) (go : Rest) (rest : Steps) (kr : Vars → Server → Ran) (ns : Names) (vars : Vars) → ws ≡ after
      → More (refs_after p refs m vs s) (var_after f vs s m) vs after go rest kr → At refs m vs ws ns vars → (s1 : Server) → Table service s1 → Like (go ns s1) (run_steps g rest vars s1 kr)
  on_after s unbound refs m vs ws after go rest kr ns vars e more j =
      on_same (refs_after p refs m vs s) (var_after f vs s m) vs ws after go rest kr ns vars e more
      (subst (λ r. At r (var_after f vs s m) vs ws ns vars) (sym (same_refs p (placed_form f vs s) refs m s unbound)) (joined_up is g inputs refs m (var_after f vs s m) vs ws ns vars (var_grows f vs s m) j))

  -- a `val`, by whether it is carried
  val_alike : (around : List Around) (vs : Scope) (ws after : typed.Scope) (at : ℕ) (name : List ℕ) (e : Expr) (ns : Names) (srv : Server) (go : Rest) (refs : Refs) (n m : ℕ) (vars : Vars) (rest : Steps) (kr : Vars → Server → Ran)
      → check_stmt x ws (Val at name e) ≡ Ok after → IsNotedExpr types x ws e → IsFormedExpr e → Within (sites f around vs (Val at name e)) ss → Within (used f vs (Val at name e)) inputs → At refs m vs ws ns vars → Table service srv
      → More (refs_after p refs m vs (Val at name e)) (var_after f vs (Val at name e) m) (scope_after f [] vs (Val at name e)) after go rest kr
      → Like (walk p service vs (Val at name e) ns srv go) (run_steps g (steps p refs vs n m (Val at name e) rest) vars srv kr)
  val_alike around vs ws after at name e ns srv go refs n m vars rest kr t noted formed w u j table more = by (portable f vs e) refl u more
    where
      by : (b : Truth) → portable f vs e ≡ b → Within (used_as f (cond b PlacedForm.CarriedVal PlacedForm.Plain) vs (Val at name e)) inputs
          → More (refs_after_as p (cond b PlacedForm.CarriedVal PlacedForm.Plain) refs m (Val at name e)) (var_after_as f (cond b PlacedForm.CarriedVal PlacedForm.Plain) vs (Val at name e) m)
          (with_variable vs name (cond b Role.Carried Role.Plain) at) after go rest kr
          → Like (walk_as p service (cond b PlacedForm.CarriedVal PlacedForm.Plain) vs (Val at name e) ns srv go)
          (run_steps g (steps_as p (cond b PlacedForm.CarriedVal PlacedForm.Plain) refs vs n m (Val at name e) rest) vars srv kr)
      by true r u' more' =
          let q = val_parts x ws at name e after t in
          carried_alike refs m vs ws ns vars j n at name e q.kind srv go rest kr r q.typed noted formed u' table q.free
          (λ ns1 s1 vars1 j1 t1. more' ns1 s1 vars1 (subst (λ i. At (with_var refs name m) (suc m) (with_variable vs name Role.Carried at) i ns1 vars1) q.same j1) t1)
      by false r u' more' =
          let q = val_parts x ws at name e after t in
          skims_alike refs m vs ws ns vars j (Val at name e) n srv go rest kr
          (kept_sent laws.given p declared this remote ss none sends around vs ws j.agree j.opens after (Val at name e) t noted formed w r) u' table (λ s1 t1.
          more' ns s1 vars (subst (λ i. At refs m (with_variable vs name Role.Plain at) i ns vars) q.same (joined_plain is g inputs refs m vs ws ns vars name at q.kind true j q.no_unit)) t1)

  -- an expression alone, by whether it is remote
  run_alike : (around : List Around) (vs : Scope) (ws after : typed.Scope) (at : ℕ) (e : Expr) (ns : Names) (srv : Server) (go : Rest) (refs : Refs) (n m : ℕ) (vars : Vars) (rest : Steps) (kr : Vars → Server → Ran)
      → check_stmt x ws (Run at e) ≡ Ok after → IsNotedExpr types x ws e → IsFormedExpr e → Within (sites f around vs (Run at e)) ss → Within (used f vs (Run at e)) inputs → At refs m vs ws ns vars → Table service srv
      → ((s1 : Server) → Table service s1 → Like (go ns s1) (run_steps g rest vars s1 kr)) → Like (walk p service vs (Run at e) ns srv go) (run_steps g (steps p refs vs n m (Run at e) rest) vars srv kr)
  run_alike around vs ws after at e ns srv go refs n m vars rest kr t noted formed w u j table more = by (placed_form f vs (Run at e)) (told f vs (Run at e)) u
    where
      by : (form : PlacedForm) → Tells f vs form (Run at e) → Within (used_as f form vs (Run at e)) inputs
          → Like (walk_as p service form vs (Run at e) ns srv go) (run_steps g (steps_as p form refs vs n m (Run at e) rest) vars srv kr)
      by PlacedForm.CallAlone whole u' =
          let q = run_parts x ws at e after t in
          done_alike refs m vs ws ns vars j n at e q.kind srv go rest kr whole q.typed noted formed u' table more
      by PlacedForm.Plain whole u' =
          skims_alike refs m vs ws ns vars j (Run at e) n srv go rest kr (kept_sent laws.given p declared this remote ss none sends around vs ws j.agree j.opens after (Run at e) t noted formed w whole) u' table more
      by form other u' = absurd other

  -- an `if`, by whether a remote operation stands in its branches
  if_alike : (around : List Around) (vs : Scope) (ws after : typed.Scope) (at : ℕ) (c : Expr) (a b : Stmts) (ns : Names) (srv : Server) (go : Rest) (refs : Refs) (n m : ℕ) (vars : Vars) (rest : Steps) (kr : Vars → Server → Ran)
      → check_stmt x ws (If at c a b) ≡ Ok after → IsNotedStmt types x ws (If at c a b) → IsFormedStmt (If at c a b) → Within (sites f around vs (If at c a b)) ss → Within (used f vs (If at c a b)) inputs → At refs m vs ws ns vars → Table service srv
      → (branches_hold f a b ≡ true → Within (used_in f vs a) inputs → (s1 : Server) → Table service s1 → Like (walk_block p service vs a ns s1 part.ended) (run_steps g (block_steps p refs vs (suc n) m a) vars s1 run.ended))
      → (branches_hold f a b ≡ true → Within (used_in f vs b) inputs → (s1 : Server) → Table service s1 → Like (walk_block p service vs b ns s1 part.ended) (run_steps g (block_steps p refs vs (steps_after f vs a (suc n)) (vars_after f vs a m) b) vars s1 run.ended))
      → ((s1 : Server) → Table service s1 → Like (go ns s1) (run_steps g rest vars s1 kr))
      → Like (walk p service vs (If at c a b) ns srv go) (run_steps g (steps p refs vs n m (If at c a b) rest) vars srv kr)
  if_alike around vs ws after at c a b ns srv go refs n m vars rest kr t noted formed w u j table first second more = by (placed_form f vs (If at c a b)) (told f vs (If at c a b)) u
    where
      by : (form : PlacedForm) → Tells f vs form (If at c a b) → Within (used_as f form vs (If at c a b)) inputs
          → Like (walk_as p service form vs (If at c a b) ns srv go) (run_steps g (steps_as p form refs vs n m (If at c a b) rest) vars srv kr)
      by PlacedForm.CarriedIf h u' =
          let q = if_parts x ws at c a b after t in
          let both = within_left (constants vs c ++ used_in f vs a) (used_in f vs b) inputs u' in
          either_alike refs m vs ws ns vars j n at c (block_steps p refs vs (suc n) m a) (block_steps p refs vs (steps_after f vs a (suc n)) (vars_after f vs a m) b)
          (λ s2. walk_block p service vs a ns s2 part.ended) (λ s2. walk_block p service vs b ns s2 part.ended) srv go rest kr (condition_portable f ss none around vs at c a b w h) q.typed noted.0 formed.0
          (within_left (constants vs c) (used_in f vs a) inputs both) table
          (first h (within_right (constants vs c) (used_in f vs a) inputs both)) (second h (within_right (constants vs c ++ used_in f vs a) (used_in f vs b) inputs u')) more
      by PlacedForm.Plain h u' =
          skims_alike refs m vs ws ns vars j (If at c a b) n srv go rest kr (kept_sent laws.given p declared this remote ss none sends around vs ws j.agree j.opens after (If at c a b) t noted formed w h) u' table more
      by form other u' = absurd other

  -- a loop, by whether it goes over rows, or is carried
  for_alike : (around : List Around) (vs : Scope) (ws after : typed.Scope) (at : ℕ) (name : List ℕ) (e : Expr) (a : Stmts) (item : Kind) (ns : Names) (srv : Server) (go : Rest) (refs : Refs) (n m : ℕ) (vars : Vars) (rest : Steps) (kr : Vars → Server → Ran)
      → check_stmt x ws (For at name e a) ≡ Ok after → (list : Kind) → type_of x ws e ≡ Ok list → (list ≡ kind.ListOf item) ⊎ (list ≡ kind.RowsOf item)
      → IsNotedStmt types x ws (For at name e a) → IsFormedStmt (For at name e a) → Within (sites f around vs (For at name e a)) ss → Within (used f vs (For at name e a)) inputs → At refs m vs ws ns vars → Table service srv
      → (has_far_turns f vs e a ≡ true → IsFarKind is item → Within (used_in f (with_variable vs name Role.Row at) a) inputs → (row : Value) (s1 : Server) → Fits is [] item row → Table service s1
      → Like (walk_block p service (with_variable vs name Role.Row at) a (with_name name row ns) s1 part.ended) (run_steps g (block_steps p (with_var refs name m) (with_variable vs name Role.Row at) (suc n) (suc m) a) ((m, row) ∷ vars) s1 run.ended))
      → ((s1 : Server) → Table service s1 → Like (go ns s1) (run_steps g rest vars s1 kr))
      → Like (walk p service vs (For at name e a) ns srv go) (run_steps g (steps p refs vs n m (For at name e a) rest) vars srv kr)
  for_alike around vs ws after at name e a item ns srv go refs n m vars rest kr t list typed_here over noted formed w u j table each more = by (placed_form f vs (For at name e a)) (told f vs (For at name e a)) u
    where
      inner : Scope
      inner = with_variable vs name Role.Row at

      by : (form : PlacedForm) → Tells f vs form (For at name e a) → Within (used_as f form vs (For at name e a)) inputs
          → Like (walk_as p service form vs (For at name e a) ns srv go) (run_steps g (steps_as p form refs vs n m (For at name e a) rest) vars srv kr)
      by PlacedForm.RowsLoop h u' =
          let r = loop_portable around vs at name e a w h in
          let is_rows' = rows_only e list item (kind_here types x ws e list noted.0 typed_here) h over in
          let far_item = rows_far list item is_rows' (far refs m vs ws ns vars j e list r typed_here noted.0 formed.0) in
          each_alike refs m vs ws ns vars j n at e item (block_steps p (with_var refs name m) inner (suc n) (suc m) a) (λ row s3. walk_block p service inner a (with_name name row ns) s3 part.ended) srv go rest kr r
          (typed_here ∙ ap Ok is_rows') noted.0 formed.0 (within_left (constants vs e) (used_in f inner a) inputs u') table
          (each (ap (λ t. t || may_carry f vs e a) h) far_item (within_right (constants vs e) (used_in f inner a) inputs u')) more
      by PlacedForm.CarriedLoop h u' =
          let is_list = (and_parts (is_constant_list vs e) (block_holds f a) h.1).0 in
          let typed_list = typed_here ∙ ap Ok (list_only e list item (kind_here types x ws e list noted.0 typed_here) h.0 over) in
          over_alike refs m vs ws ns vars j n at e item (block_steps p (with_var refs name m) inner (suc n) (suc m) a) (λ row s3. walk_block p service inner a (with_name name row ns) s3 part.ended) srv go rest kr is_list
          typed_list formed.0 (within_left (name_of e) (used_in f inner a) inputs u') table
          (each (or_right (over_rows f e) (may_carry f vs e a) h.1) (far_list refs m vs ws ns vars j e item is_list typed_list) (within_right (name_of e) (used_in f inner a) inputs u')) more
      by PlacedForm.Plain h u' =
          skims_alike refs m vs ws ns vars j (For at name e a) n srv go rest kr (kept_sent laws.given p declared this remote ss none sends around vs ws j.agree j.opens after (For at name e a) t noted formed w h) u' table more
      by form other u' = absurd other

  mutual
    pub stmt_alike : (around : List Around) → is_script_place f around ≡ true → (vs : Scope) (ws after : typed.Scope) (s : Stmt) (ns : Names) (srv : Server) (go : Rest) (refs : Refs) (n m : ℕ) (vars : Vars) (rest : Steps) (kr : Vars → Server → Ran)
        → check_stmt x ws s ≡ Ok after → IsNotedStmt types x ws s → IsFormedStmt s → Within (sites f around vs s) ss → Within (used f vs s) inputs → At refs m vs ws ns vars → Table service srv
        → More (refs_after p refs m vs s) (var_after f vs s m) (scope_after f [] vs s) after go rest kr
        → Like (walk p service vs s ns srv go) (run_steps g (steps p refs vs n m s rest) vars srv kr)
    stmt_alike around place vs ws after (Val at name e) ns srv go refs n m vars rest kr t noted formed w u j table more = val_alike around vs ws after at name e ns srv go refs n m vars rest kr t noted formed w u j table more
    stmt_alike around place vs ws after (Var at name e) ns srv go refs n m vars rest kr t noted formed w u j table more =
        let q = var_parts x ws at name e after t in
        skims_alike refs m vs ws ns vars j (Var at name e) n srv go rest kr (kept_sent laws.given p declared this remote ss none sends around vs ws j.agree j.opens after (Var at name e) t noted formed w tt) u table (λ s1 t1.
        more ns s1 vars (subst (λ i. At refs m (with_variable vs name Role.Plain at) i ns vars) q.same (joined_plain is g inputs refs m vs ws ns vars name at q.kind false j q.no_unit)) t1)
    stmt_alike around place vs ws after (Assign at a b) ns srv go refs n m vars rest kr t noted formed w u j table more =
        skims_alike refs m vs ws ns vars j (Assign at a b) n srv go rest kr (kept_sent laws.given p declared this remote ss none sends around vs ws j.agree j.opens after (Assign at a b) t noted formed w tt) u table
        (on_same refs m vs ws after go rest kr ns vars (assign_parts x ws at a b after t).same more j)
    stmt_alike around place vs ws after (Run at e) ns srv go refs n m vars rest kr t noted formed w u j table more =
        run_alike around vs ws after at e ns srv go refs n m vars rest kr t noted formed w u j table (on_after (Run at e) tt refs m vs ws after go rest kr ns vars (run_parts x ws at e after t).same more j)
    stmt_alike around place vs ws after (Print at e) ns srv go refs n m vars rest kr t noted formed w u j table more =
        skims_alike refs m vs ws ns vars j (Print at e) n srv go rest kr (kept_sent laws.given p declared this remote ss none sends around vs ws j.agree j.opens after (Print at e) t noted formed w tt) u table
        (on_same refs m vs ws after go rest kr ns vars (print_parts x ws at e after t).same more j)
    stmt_alike around place vs ws after (Throw at e) ns srv go refs n m vars rest kr t noted formed w u j table more =
        skims_alike refs m vs ws ns vars j (Throw at e) n srv go rest kr (kept_sent laws.given p declared this remote ss none sends around vs ws j.agree j.opens after (Throw at e) t noted formed w tt) u table
        (on_same refs m vs ws after go rest kr ns vars (throw_parts x ws at e after t).same more j)
    stmt_alike around place vs ws after (While at c a) ns srv go refs n m vars rest kr t noted formed w u j table more =
        skims_alike refs m vs ws ns vars j (While at c a) n srv go rest kr (kept_sent laws.given p declared this remote ss none sends around vs ws j.agree j.opens after (While at c a) t noted formed w tt) u table
        (on_same refs m vs ws after go rest kr ns vars (while_parts x ws at c a after t).same more j)
    stmt_alike around place vs ws after (Try at a name b) ns srv go refs n m vars rest kr t noted formed w u j table more =
        skims_alike refs m vs ws ns vars j (Try at a name b) n srv go rest kr tt u table (on_same refs m vs ws after go rest kr ns vars (try_parts x ws at a name b after t).same more j)
    stmt_alike around place vs ws after (Batch at interface root a) ns srv go refs n m vars rest kr t noted formed w u j table more =
        skims_alike refs m vs ws ns vars j (Batch at interface root a) n srv go rest kr tt u table (on_same refs m vs ws after go rest kr ns vars (batch_parts x ws at interface root a after t).same more j)
    stmt_alike around place vs ws after (If at c a b) ns srv go refs n m vars rest kr t noted formed w u j table more =
        let q = if_parts x ws at c a b after t in
        let frame = Branch at vs c a b ∷ around in
        let tail = within_tail _ _ _ w in
        let up = joined_up is g inputs refs m (vars_after f vs a m) vs ws ns vars (vars_grow f vs a m) j in
        if_alike around vs ws after at c a b ns srv go refs n m vars rest kr t noted formed w u j table
        (λ holding ua s1 t1. block_alike frame (script_inside around (branches_hold f a b) place holding) vs ws q.first a ns s1 part.ended refs (suc n) m vars run.ended q.first_typed noted.1 formed.1
        (within_left (block_sites f frame vs a) (block_sites f frame vs b) _ tail) ua j t1 (λ ns2 s2 vars2 t2. record { fault = refl; server = refl; table = t2 }))
        (λ holding ub s1 t1. block_alike frame (script_inside around (branches_hold f a b) place holding) vs ws q.second b ns s1 part.ended refs (steps_after f vs a (suc n)) (vars_after f vs a m) vars run.ended q.second_typed noted.2 formed.2
        (within_right (block_sites f frame vs a) (block_sites f frame vs b) _ tail) ub up t1 (λ ns2 s2 vars2 t2. record { fault = refl; server = refl; table = t2 }))
        (on_after (If at c a b) tt refs m vs ws after go rest kr ns vars q.same more j)
    stmt_alike around place vs ws after (For at name e a) ns srv go refs n m vars rest kr t noted formed w u j table more =
        let q = for_parts x ws at name e a after t in
        let inner = typed.with_variable ws name q.item true in
        let same_scope : scope_or ws (placed x ws e >>= λ y. loop_scope ws at name y) ≡ inner = ap (scope_or ws) q.judged in
        let block_noted : AreNotedStmts types x inner a = subst (λ i. AreNotedStmts types x i a) same_scope noted.1 in
        let frame = Turn at vs e a ∷ around in
        let turn_scope = with_variable vs name Role.Row at in
        let tail = within_tail _ _ _ w in
        for_alike around vs ws after at name e a q.item ns srv go refs n m vars rest kr t q.list q.typed q.over noted formed w u j table
        (λ turns far_item ua row s1 fits t1.
        block_alike frame (script_inside around (has_far_turns f vs e a) place turns) turn_scope inner q.last a (with_name name row ns) s1 part.ended (with_var refs name m) (suc n) (suc m) ((m, row) ∷ vars) run.ended q.block_typed block_noted formed.1
        (subst (λ r. Within (block_sites f frame (with_variable vs name r at) a) ss) (far_role around vs e a place turns) tail) ua (joined_more is g inputs refs m vs ws ns vars name Role.Row at q.item row j refl far_item q.free fits) t1
        (λ ns2 s2 vars2 t2. record { fault = refl; server = refl; table = t2 }))
        (on_after (For at name e a) tt refs m vs ws after go rest kr ns vars q.same more j)

    pub block_alike : (around : List Around) → is_script_place f around ≡ true → (vs : Scope) (ws after : typed.Scope) (block : Stmts) (ns : Names) (srv : Server) (go : Rest) (refs : Refs) (n m : ℕ) (vars : Vars) (kr : Vars → Server → Ran)
        → check_stmts x ws block ≡ Ok after → AreNotedStmts types x ws block → AreFormedStmts block → Within (block_sites f around vs block) ss → Within (used_in f vs block) inputs → At refs m vs ws ns vars → Table service srv
        → ((ns1 : Names) (s1 : Server) (vars1 : Vars) → Table service s1 → Like (go ns1 s1) (kr vars1 s1)) → Like (walk_block p service vs block ns srv go) (run_steps g (block_steps p refs vs n m block) vars srv kr)
    block_alike around place vs ws after NoStmts ns srv go refs n m vars kr t noted formed w u j table more = more ns srv vars table
    block_alike around place vs ws after (MoreStmts s rest) ns srv go refs n m vars kr t noted formed w u j table more =
        let q = stmts_parts x ws s rest after t in
        let same_scope : scope_or ws (check_stmt x ws s) ≡ q.middle = ap (scope_or ws) q.typed in
        let later = within_right (sites f around vs s) (block_sites f around (scope_after f around vs s) rest) _ w in
        let next_scope = scope_after f [] vs s in
        stmt_alike around place vs ws q.middle s ns srv (λ ns1 s1. walk_block p service next_scope rest ns1 s1 go) refs n m vars
        (block_steps p (refs_after p refs m vs s) next_scope (step_after f vs s n) (var_after f vs s m) rest) kr q.typed noted.0 formed.0
        (within_left (sites f around vs s) (block_sites f around (scope_after f around vs s) rest) _ w) (within_left (used f vs s) (used_in f next_scope rest) inputs u) j table
        (λ ns1 s1 vars1 j1 t1. block_alike around place next_scope q.middle after rest ns1 s1 go (refs_after p refs m vs s) (step_after f vs s n) (var_after f vs s m) vars1 kr q.rest
        (subst (λ i. AreNotedStmts types x i rest) same_scope noted.1) formed.1 (subst (λ i. Within (block_sites f around i rest) ss) (script_scope f around vs s place) later)
        (within_right (used f vs s) (used_in f next_scope rest) inputs u) j1 t1 more)
