-- The node of a batch's script fits its remainder.
use Rattle.std.proofs.Common.{◌≡◌, ◌≤◌, ◌-◌, ◌⊎◌, refl, sym, ap, ◌∙◌, subst, arith, ℕ, suc, List, [], ◌∷◌, ◌++◌, Bool as Truth, true, false, ◌&&◌, cond, All, Option, Some, None, Ok, Err}
use Rattle.std.specs.List.{AllByRecursion, flat_map}
use Rattle.std.proofs.lemmas.Bool.{and_parts}
use Rattle.rb_trees.specs.Outcome.{known, must, ◌>>◌, ◌>>=◌}
use Rattle.rb_trees.specs.declared.values.Value.{Value}
use Rattle.rb_trees.specs.declared.values.Value.TheViews.{out-Value}
use Rattle.rb_trees.specs.declared.refusals.Refusal.{Refusal}
use Rattle.rb_trees.specs.mirror.Declarations.{Program, Interface}
use Rattle.rb_trees.specs.mirror.Services.{Service}
use Rattle.rb_meaning_types.specs.Kinds as kind
use Rattle.rb_meaning_types.specs.Kinds.{Kind}
use Rattle.rb_meaning_types.specs.Violations.{Checked, UnknownName}
use Rattle.rb_meaning_types.specs.Declared.{Context, of_program}
use Rattle.rb_meaning_types.specs.Scopes as typed
use Rattle.rb_meaning_types.specs.Expressions.{type_of}
use Rattle.rb_meaning_types.specs.Statements.{placed, loop_scope, check_stmt, check_stmts}
use Rattle.rb_meaning_types.specs.Notes.{scope_or, type_at}
use Rattle.rb_meaning_types.specs.Programs.{check_service}
use Rattle.rb_meaning_types.specs.Fits.{Fits, TableFits}
use Rattle.rb_meaning_types.specs.Kinds.{is_primitive}
use Rattle.rb_meaning_flow.specs.Facts.{has_primitive_items}
use Rattle.rb_meaning_code.specs.Statements.{truth_of}
use Rattle.rb_meaning_code.specs.Remote.{Server, Reply, and_then, replies, rows_in}
use Rattle.rb_meaning_flow.specs.declared.forms.PlacedForm.{PlacedForm}
use Rattle.rb_meaning_flow.specs.declared.scopes.Role.{Role}
use Rattle.rb_meaning_flow.specs.Facts.{Facts, facts_of}
use Rattle.rb_meaning_flow.specs.Scopes.{Scope, with_variable, role_of}
use Rattle.rb_meaning_flow.specs.Portable.{portable, holds_call, branches_hold, is_constant_list, has_far_turns}
use Rattle.rb_meaning_flow.specs.Forms.{placed_form}
use Rattle.rb_meaning_flow.specs.Sites.{Around, Branch, Turn, is_script_place, StmtSite, scope_after, sites, block_sites}
use Rattle.rb_meaning_flow.specs.Refusals.{IsRefusal}
use Rattle.rb_flow.specs.Laws.{SendsPortable}
use Rattle.rb_law_types.proofs.Checks.{bind_ok, known_ok}
use Rattle.rb_law_types.specs.Formed.{IsFormedExpr, IsFormedStmt, AreFormedStmts, AreFormed}
use Rattle.rb_law_types.specs.Noted.{IsNotedExpr, IsNotedStmt, AreNotedStmts}
use Rattle.rb_law_types.specs.Operators.{ConditionsHold}
use Rattle.rb_law_types.specs.Code.{AreTyped}
use Rattle.rb_law_types.proofs.Parts.{val_parts, var_parts, assign_parts, run_parts, print_parts, throw_parts, if_parts, while_parts, for_parts, try_parts, batch_parts, stmts_parts}
use Rattle.rb_law_types.proofs.TypeFacts.{kind_here}
use Rattle.rb_law_types.proofs.TypeFacts.{items_fact}
use Rattle.rb_law_types.proofs.SitesWithin.{Within, within_left, within_right, within_tail}
use Rattle.rb_law_unsplit.proofs.Conditions.{condition_portable}
use Rattle.rb_trees.specs.mirror.Code.{Expr, Name, expr_at, Stmt, Stmts, Val, Var, Assign, Run, Print, Throw, If, While, For, Try, Batch, NoStmts, MoreStmts}
use Rattle.rb_trees.specs.declared.services.Object.{Object}
use Rattle.rb_trees.specs.mirror.Scripts as script_of
use Rattle.rb_trees.specs.mirror.Scripts.{Steps}
use Rattle.rb_trees.specs.mirror.Forests as forest
use Rattle.rb_trees.specs.mirror.Remainders as part_of
use Rattle.rb_trees.specs.mirror.Remainders.{Part, Parts, MoreParts}
use Rattle.rb_meaning_bytes.specs.Fits.{form_has_kind, is_kept, step_of, Walk, behind_value, begun, went, value_read, row_read, passed, part_read, parts_read}
use Rattle.rb_meaning_code.specs.Faults as faults
use Rattle.rb_meaning_code.specs.ScriptRun.{Ground, Vars, Ran, ended, with_entry, in_front, on_reply, value_of, is_primitive as primitive_form, kept, with_kept, condition, rows_of, chosen, branched, turns, turn_over, walked, run_steps}
use Rattle.rb_meaning_types.specs.CallKinds.{kind_number, kind_noted, call_kind}
use Rattle.rb_meaning.specs.RemoteExprs.{remote_in, remote_of}
use Rattle.rb_meaning.specs.ConstantLists.{name_of}
use Rattle.rb_meaning_split.specs.Client.{lengths}
use Rattle.rb_meaning_split.specs.Refs.{Refs, with_var, input_number, sexpr}
use Rattle.rb_meaning_split.specs.Cuts.{counted}
use Rattle.rb_meaning_split.specs.Inputs.{constants, kept_constants, used_as, used, used_in}
use Rattle.rb_meaning_split.specs.Numbers.{kept_after, step_after_as, step_after, steps_after, var_after_as, var_after, vars_after}
use Rattle.rb_meaning_split.specs.Steps.{refs_after_as, refs_after, keeps_val, keeps, steps_as, block_steps}
use Rattle.rb_meaning_split.specs.Parts.{takes, plain, carried, row_kind, part_as, block_parts}
use Rattle.rb_law_unsplit.proofs.Placed.{alone_calls, if_holds, loop_over, loop_carried, rows_far, carried_far, far_row}
use Rattle.rb_law_unsplit.proofs.Walking.{Laws}
use Rattle.rb_law_unsplit.proofs.Walked.{Ready, script_scope, rows_fair, one_ready, remote_ready, loop_portable, rows_only, list_only, script_inside}
use Rattle.rb_law_division.proofs.Lists.{all_both, all_left, all_right, recursively}
use Rattle.rb_law_division.proofs.Numbers.{grows_all, whole_remote, one_step}
use Rattle.rb_law_division.proofs.Reading.{later_less, Reader, Rests, parts_rest, taking, takes_rest, then_reads, first_part, first_taken, standing, over, raises_here, walks_same, Walks, walks_passed, walks_value, walks_branch, TurnWalks, turns_walk, walks_turns}
use Rattle.rb_law_division.proofs.Early.{ended_early, steps_early}
use Rattle.rb_law_division.proofs.Replied.{reply_walks, stops}
use Rattle.rb_law_division.proofs.Overs.{over_walks}
use Rattle.rb_law_division.proofs.Used.{IsIn, AreIn, EachIn, each_in}
use Rattle.rb_law_division.proofs.Known.{list_read, resolved, Knows, knows_later, knows_more, knows_plain}
use Rattle.rb_law_division.proofs.Sends.{Serves, then_serves, rule_serves, value_typed}
use Rattle.rb_law_division.proofs.Held.{vars_grow, held, primitive_is, kept_rows, row_number, item_held}

module _ (laws : Laws) (conditions : ConditionsHold) (p : Program) (service : Service) (service_typed : check_service service.classes ≡ Ok tt) (service_formed : AreFormed service.classes) (declared : AreTyped (of_program p))
    (this : Option (List ℕ)) (remote : Truth) (ss : List StmtSite) (none : (r : Refusal) → IsRefusal (facts_of p) ss r → ⊥) (sends : SendsPortable (facts_of p) ss)
    (names : List (List ℕ)) (inputs : List Value) where
  abbrev x : Context
  x = record { declared = of_program p; this = this; remote = remote }

  abbrev is : List Interface
  is = p.interfaces

  abbrev f : Facts
  f = facts_of p

  abbrev types : ℕ → Option (Checked Kind)
  types = type_at p

  abbrev Good : List Object → Type 0
  Good table = TableFits service.classes service.root table

  abbrev g : Ground
  g = record { classes = service.classes; root = service.root; inputs = inputs }

  abbrev Known : Scope → typed.Scope → Refs → ℕ → Vars → Type 0
  Known vs ws refs m vars = Knows is names g vs ws refs m vars

  abbrev pub ReadyHere : Scope → typed.Scope → Expr → Type 0
  ReadyHere vs ws e = Ready laws conditions p service service_typed service_formed declared this remote ss none sends vs ws e

  -- how long the lists of the inputs are
  abbrev pub lens : List ℕ
  lens = lengths inputs

  -- the parts read the node of a run
  abbrev pub Reads : ℕ → Parts → Ran → Type 0
  Reads n ps r = Walks lens Good n (λ w. parts_read lens ps w) r

  kept_here : (k : Kind) (at : ℕ) (v : Value) (s : Server) → Fits is [] k v → Good s.table → Serves Good (λ w. Fits is [] k w × (primitive_form (out-Value w) ≡ true)) (kept true at v s)
  kept_here k at v s h t = by (primitive_form (out-Value v)) refl
    where
      by : (b : Truth) → primitive_form (out-Value v) ≡ b → Serves Good (λ w. Fits is [] k w × (primitive_form (out-Value w) ≡ true)) (replies at (must b faults.kind >> Ok v) s)
      by true e = ((h, e), t)
      by false e = tt

  -- ---- the value of an expression that is sent

  module _ (vs : Scope) (ws : typed.Scope) (refs : Refs) (m : ℕ) (vars : Vars) (knows : Known vs ws refs m vars) where
    value_sent : (at : ℕ) (e : Expr) (r : ReadyHere vs ws e) (s : Server) → AreIn names (constants vs e) → Good s.table → Serves Good (Fits is [] r.kind) (value_of g at vars (sexpr p refs e) s)
    value_sent at e r s i t = value_typed laws p service service_typed service_formed declared this remote names inputs vs ws refs m vars knows at e r.kind s r.sent r.typed_here r.noted r.formed i t

    kind_of_sent : (e : Expr) (r : ReadyHere vs ws e) → call_kind p (expr_at e) ≡ kind_number r.kind
    kind_of_sent e r = ap kind_noted (kind_here types x ws e r.kind r.noted r.typed_here)

    value_kept : (at : ℕ) (e : Expr) (r : ReadyHere vs ws e) (s : Server) → AreIn names (constants vs e) → Good s.table
        → Serves Good (λ v. Fits is [] r.kind v × (primitive_form (out-Value v) ≡ true)) (and_then (value_of g at vars (sexpr p refs e) s) (kept true at))
    value_kept at e r s i t =
        then_serves Good (Fits is [] r.kind) (λ v. Fits is [] r.kind v × (primitive_form (out-Value v) ≡ true)) (value_of g at vars (sexpr p refs e) s) (kept true at) (value_sent at e r s i t) (λ v s1 h t1. kept_here r.kind at v s1 h t1)

    has_kind : (e : Expr) (r : ReadyHere vs ws e) (v : Value) → Fits is [] r.kind v × (primitive_form (out-Value v) ≡ true) → form_has_kind (call_kind p (expr_at e)) (out-Value v) ≡ true
    has_kind e r v h = subst (λ n. form_has_kind n (out-Value v) ≡ true) (sym (kind_of_sent e r)) (held is r.kind v h.0 h.1)

    -- a value that is read and what follows it
    value_walks : (n after at : ℕ) (e : Expr) (r : ReadyHere vs ws e) (R : Reader) (go : Value → Server → Ran) (s : Server) → n ≤ after → Rests R → AreIn names (constants vs e) → Good s.table
        → ((v : Value) (s1 : Server) → Fits is [] r.kind v → Good s1.table → Walks lens Good after R (go v s1))
        → Walks lens Good n (λ w. value_read n (call_kind p (expr_at e)) w >>= R) (on_reply n (and_then (value_of g at vars (sexpr p refs e) s) (kept true at)) (λ v s1. with_entry (forest.Value v) (go v s1)))
    value_walks n after at e r R go s l rests i t more =
        reply_walks lens Good (λ v. Fits is [] r.kind v × (primitive_form (out-Value v) ≡ true)) n (λ w. value_read n (call_kind p (expr_at e)) w >>= R) (and_then (value_of g at vars (sexpr p refs e) s) (kept true at))
        (λ v s1. with_entry (forest.Value v) (go v s1)) (value_kept at e r s i t)
        (then_reads (value_read n (call_kind p (expr_at e)) (standing forest.NoEntries (Some n))) (over forest.NoEntries None) R (Ok (over forest.NoEntries None)) (raises_here n (Err n)) (rests (over forest.NoEntries None) refl))
        (λ v s1 h t1. walks_value lens Good n n after (call_kind p (expr_at e)) v R (go v s1).node (go v s1).fault (go v s1).server l (has_kind e r v h) (more v s1 h.0 t1))

    -- ---- what a statement takes

    keeps_walks : (es : List Expr) (n : ℕ) (rest : Steps) (R : Reader) (go : Vars → Server → Ran) (s : Server) → Rests R → AllByRecursion (ReadyHere vs ws) es → EachIn names vs es → Good s.table
        → ((s1 : Server) → Good s1.table → Walks lens Good (counted es n) R (run_steps g rest vars s1 go)) → Walks lens Good n (taking (takes p n es) R) (run_steps g (keeps p refs n es rest) vars s go)
    keeps_walks [] n rest R go s rests r i t more = more s t
    keeps_walks (e ∷ es) n rest R go s rests r i t more =
        let run = on_reply n (and_then (value_of g (expr_at e) vars (sexpr p refs e) s) (kept true (expr_at e))) (λ v s1. with_entry (forest.Value v) (run_steps g (keeps p refs (suc n) es rest) vars s1 go)) in
        walks_same lens Good n (taking (takes p n (e ∷ es)) R) (λ w. value_read n (call_kind p (expr_at e)) w >>= taking (takes p (suc n) es) R) run.node run.fault run.server (first_taken (n, call_kind p (expr_at e)) (takes p (suc n) es) R)
        (value_walks n (suc n) (expr_at e) e r.0 (taking (takes p (suc n) es) R) (λ v s1. run_steps g (keeps p refs (suc n) es rest) vars s1 go) s (omega arith) (takes_rest (takes p (suc n) es) R rests) i.0 t
        (λ v s1 h t1. keeps_walks es (suc n) rest R go s1 rests r.1 i.1 t1 more))

    skims_walks : (stmt : Stmt) (n : ℕ) (rest : Steps) (ps : Parts) (go : Vars → Server → Ran) (s : Server) → AllByRecursion (ReadyHere vs ws) (remote_of f vs stmt) → AreIn names (kept_constants f vs stmt) → Good s.table
        → ((s1 : Server) → Good s1.table → Reads (kept_after f vs stmt n) ps (run_steps g rest vars s1 go)) → Reads n (MoreParts (plain p vs n stmt) ps) (run_steps g (keeps p refs n (remote_of f vs stmt) rest) vars s go)
    skims_walks stmt n rest ps go s r i t more =
        let es = remote_of f vs stmt in
        let run = run_steps g (keeps p refs n es rest) vars s go in
        walks_same lens Good n (λ w. parts_read lens (MoreParts (plain p vs n stmt) ps) w) (taking (takes p n es) (λ w. parts_read lens ps w)) run.node run.fault run.server (first_part lens (plain p vs n stmt) ps)
        (keeps_walks es n rest (λ w. parts_read lens ps w) go s (parts_rest lens ps) r (each_in names vs es i) t more)

    -- ---- a step that gives no entry

    pass_walks : (n : ℕ) (q : Part) (ps : Parts) (P : Value → Type 0) (r : Reply Value) (go : Value → Server → Ran) → ((w : Walk) → part_read lens q w ≡ passed n w) → Serves Good P r
        → ((v : Value) (s1 : Server) → P v → Good s1.table → Reads (suc n) ps (go v s1)) → Reads n (MoreParts q ps) (on_reply n r go)
    pass_walks n q ps P r go passing h more =
        reply_walks lens Good P n (λ w. parts_read lens (MoreParts q ps) w) r go h (stops lens n q ps (passing (standing forest.NoEntries (Some n)) ∙ raises_here n (Ok (standing forest.NoEntries (Some n)))))
        (λ v s1 fv t1. walks_passed lens Good n n (suc n) ps (go v s1).node (go v s1).fault (go v s1).server q passing (omega arith) (omega arith) (more v s1 fv t1))

    -- a carried val
    val_walks : (n at : ℕ) (name : List ℕ) (e : Expr) (r : ReadyHere vs ws e) (ps : Parts) (go : Value → Server → Ran) (s : Server) → AreIn names (constants vs e) → Good s.table
        → ((v : Value) (s1 : Server) → Fits is [] r.kind v → Good s1.table → Reads (suc n) ps (go v s1))
        → Reads n (MoreParts (carried p n at name e) ps) (on_reply n (and_then (value_of g at vars (sexpr p refs e) s) (kept (keeps_val p e) at)) (λ v s1. with_kept (keeps_val p e) v (go v s1)))
    val_walks n at name e r ps go s i t more = by (f.primitive (expr_at e)) (holds_call f e)
      where
        unkept : (q : Part) → ((w : Walk) → part_read lens q w ≡ passed n w) → Reads n (MoreParts q ps) (on_reply n (and_then (value_of g at vars (sexpr p refs e) s) (kept false at)) (λ v s1. go v s1))
        unkept q passing =
            pass_walks n q ps (Fits is [] r.kind) (and_then (value_of g at vars (sexpr p refs e) s) (kept false at)) go passing
            (then_serves Good (Fits is [] r.kind) (Fits is [] r.kind) (value_of g at vars (sexpr p refs e) s) (kept false at) (value_sent at e r s i t) (λ v s1 h t1. (h, t1))) more

        bound_run : Ran
        bound_run = on_reply n (and_then (value_of g at vars (sexpr p refs e) s) (kept true at)) (λ v s1. with_entry (forest.Value v) (go v s1))

        by : (primitive call : Truth) → Reads n (MoreParts (cond primitive (cond call (part_of.Bind n name (call_kind p (expr_at e))) (part_of.Both n at name e)) (part_of.Pass n)) ps)
            (on_reply n (and_then (value_of g at vars (sexpr p refs e) s) (kept (call && primitive) at)) (λ v s1. with_kept (call && primitive) v (go v s1)))
        by true true =
            walks_same lens Good n (λ w. parts_read lens (MoreParts (part_of.Bind n name (call_kind p (expr_at e))) ps) w) (λ w. value_read n (call_kind p (expr_at e)) w >>= λ w1. parts_read lens ps w1) bound_run.node bound_run.fault bound_run.server
            (first_part lens (part_of.Bind n name (call_kind p (expr_at e))) ps) (value_walks n (suc n) at e r (λ w. parts_read lens ps w) go s (omega arith) (parts_rest lens ps) i t more)
        by true false = unkept (part_of.Both n at name e) (λ w. refl)
        by false true = unkept (part_of.Pass n) (λ w. refl)
        by false false = unkept (part_of.Pass n) (λ w. refl)

  -- ---- blocks

  -- an `if` that holds a remote operation
  branch_walks : (n after at : ℕ) (a b : Parts) (ps : Parts) (r : Reply Truth) (first second : Server → Ran) (go : Server → Ran) → Serves Good (λ (t : Truth). Unit {0}) r → n ≤ after
      → ((s : Server) → Good s.table → Reads (suc n) a (first s)) → ((s : Server) → Good s.table → Reads (suc n) b (second s)) → ((s : Server) → Good s.table → Reads after ps (go s))
      → Reads n (MoreParts (part_of.Branch n a b) ps) (on_reply n r (λ holds s. branched holds (chosen holds (first s) (second s)) go))
  branch_walks n after at a b ps r first second go h l one two more =
      reply_walks lens Good (λ (t : Truth). Unit {0}) n (λ w. parts_read lens (MoreParts (part_of.Branch n a b) ps) w) r (λ holds s. branched holds (chosen holds (first s) (second s)) go) h
      (stops lens n (part_of.Branch n a b) ps (raises_here n (Err n))) taken
    where
      taken : (holds : Truth) (s : Server) → Unit {0} → Good s.table → Reads n (MoreParts (part_of.Branch n a b) ps) (branched holds (chosen holds (first s) (second s)) go)
      taken true s u t =
          let w = one s t in
          walks_branch lens Good n n after a b ps true (first s).node w.last w.read w.left (first s).fault (first s).server go w.same l (λ e. more (first s).server (w.table e))
      taken false s u t =
          let w = two s t in
          walks_branch lens Good n n after a b ps false (second s).node w.last w.read w.left (second s).fault (second s).server go w.same l (λ e. more (second s).server (w.table e))

  -- a turn over a row of a type
  turn_walks : (item : Kind) (n at number : ℕ) (keep : Truth) (body : Parts) (block : Server → Ran) (row : Value) (s : Server) → keep ≡ is_primitive item → number ≡ kind_number (kind.RowsOf item) - 4 → Fits is [] item row → Good s.table
      → ((s1 : Server) → Good s1.table → Reads (suc n) body (block s1)) → TurnWalks lens Good n number body (turn_over n at keep block row s)
  turn_walks item n at number keep body block row s keeping kinds fits t more = by keep keeping
    where
      is_kept_so : is_kept number ≡ is_primitive item
      is_kept_so = ap is_kept kinds ∙ kept_rows item

      inner : Reads (suc n) body (block s)
      inner = more s t

      by : (b : Truth) → b ≡ is_primitive item → TurnWalks lens Good n number body (turn_over n at b block row s)
      by true e = row_first (primitive_form (out-Value row)) refl
        where
          front : (nd : forest.Node) → form_has_kind number (out-Value row) ≡ true → (row_read n number (begun (in_front (forest.Value row) nd) false) >>= λ w. parts_read lens body w) ≡ parts_read lens body (begun nd false)
          front (forest.Holds es q) hk =
              ap (λ (b : Truth). cond b (known n (behind_value number (forest.MoreEntries (forest.Value row) es)) >>= λ xs. Ok (went (standing (forest.MoreEntries (forest.Value row) es) (step_of q)) xs)) (Ok (standing (forest.MoreEntries (forest.Value row) es) (step_of q))) >>= λ w. parts_read lens body w) (is_kept_so ∙ sym e)
              ∙ ap (λ (b : Truth). (known n (cond b (Some es) None) >>= λ xs. Ok (went (standing (forest.MoreEntries (forest.Value row) es) (step_of q)) xs)) >>= λ w. parts_read lens body w) hk

          row_first : (b : Truth) → primitive_form (out-Value row) ≡ b → TurnWalks lens Good n number body (on_reply n (replies at (must b faults.kind >> Ok row) s) (λ v s1. with_kept true v (block s1)))
          row_first true h = record {
            last = inner.last;
            read = front (block s).node (subst (λ k. form_has_kind k (out-Value row) ≡ true) (sym (kinds ∙ row_number item)) (item_held is item row (sym e) fits)) ∙ inner.read;
            left = inner.left;
            same = inner.same;
            table = inner.table;
          }
          row_first false h = absurd (cc (sym (primitive_is is item row (sym e) fits) ∙ h))
      by false e = record {
        last = inner.last;
        read = ap (λ (b : Truth). cond b (known n (behind_value number (begun (block s).node false).left) >>= λ xs. Ok (went (begun (block s).node false) xs)) (Ok (begun (block s).node false)) >>= λ w. parts_read lens body w) (is_kept_so ∙ sym e) ∙ inner.read;
        left = inner.left;
        same = inner.same;
        table = inner.table;
      }

  -- what has rows gives them
  rows_serve : (item : Kind) (at : ℕ) (r : Reply Value) → Serves Good (Fits is [] (kind.RowsOf item)) r → Serves Good (All (Fits is [] item)) (and_then r (rows_of at))
  rows_serve item at r h =
      then_serves Good (Fits is [] (kind.RowsOf item)) (All (Fits is [] item)) r (rows_of at) h (λ v s1 fv t1.
      rule_serves Good (All (Fits is [] item)) at (rows_in (out-Value v)) s1 (rows_fair (Fits is [] item) (out-Value v) fv) t1)

  -- a loop over rows
  loop_walks : (item : Kind) (n after at number : ℕ) (keep : Truth) (name : List ℕ) (body : Parts) (ps : Parts) (r : Reply Value) (block : Value → Server → Ran) (go : Server → Ran) → keep ≡ is_primitive item → number ≡ kind_number (kind.RowsOf item) - 4
      → suc n ≤ after → Serves Good (Fits is [] (kind.RowsOf item)) r → ((row : Value) (s : Server) → Fits is [] item row → Good s.table → Reads (suc n) body (block row s)) → ((s : Server) → Good s.table → Reads after ps (go s))
      → Reads n (MoreParts (part_of.Turns n name number body) ps) (on_reply n (and_then r (rows_of at)) (λ rows s. walked n at (turns (λ row s1. turn_over n at keep (block row) row s1) rows s) go))
  loop_walks item n after at number keep name body ps r block go keeping kinds l h each more =
      reply_walks lens Good (All (Fits is [] item)) n (λ w. parts_read lens (MoreParts (part_of.Turns n name number body) ps) w) (and_then r (rows_of at)) (λ rows s. walked n at (turns (λ row s1. turn_over n at keep (block row) row s1) rows s) go)
      (rows_serve item at r h) (stops lens n (part_of.Turns n name number body) ps (raises_here n (Err n))) (λ rows s fr t.
      let turn = λ (row : Value) (s1 : Server). turn_over n at keep (block row) row s1 in
      let t1 = turns turn rows s in
      walks_turns lens Good n number body n at after name ps go (omega arith) l more t1.nodes t1.why t1.server
      (turns_walk lens Good n number body (Fits is [] item) turn (λ row s1 fits t2. turn_walks item n at number keep body (block row) row s1 keeping kinds fits t2 (λ s3 t3. each row s3 fits t3)) rows s (recursively (Fits is [] item) rows fr) t))

  -- ---- statements

  -- what follows a statement, wherever its script goes on
  abbrev Follows : (n : ℕ) (ps : Parts) (rest : Steps) (go : Vars → Server → Ran) → Scope → typed.Scope → Refs → ℕ → Type 0
  Follows n ps rest go vs ws refs m = (vars : Vars) (s : Server) → Known vs ws refs m vars → Good s.table → Reads n ps (run_steps g rest vars s go)

  -- what follows a statement of a form
  abbrev FollowsAs : PlacedForm → Scope → (n m : ℕ) → Stmt → Refs → (ps : Parts) (rest : Steps) (go : Vars → Server → Ran) → Scope → typed.Scope → Type 0
  FollowsAs form vs n m s refs ps rest go later after = Follows (step_after_as f form vs s n) ps rest go later after (refs_after_as p form refs m s) (var_after_as f form vs s m)

  -- the part of a statement of a form reads the node of its steps, and the parts that follow it read what follows
  abbrev ReadsAs : PlacedForm → Scope → (n m : ℕ) → Stmt → Refs → (ps : Parts) (rest : Steps) (go : Vars → Server → Ran) → Vars → Server → Type 0
  ReadsAs form vs n m s refs ps rest go vars srv = Reads n (MoreParts (part_as p form refs vs n m s) ps) (run_steps g (steps_as p form refs vs n m s rest) vars srv go)

  truth_serves : (at : ℕ) (r : Reply Value) → Serves Good (Fits is [] kind.Bool) r → Serves Good (λ (t : Truth). Unit {0}) (and_then r (condition at))
  truth_serves at r h =
      then_serves Good (Fits is [] kind.Bool) (λ (t : Truth). Unit {0}) r (condition at) h (λ v s1 fv t1. rule_serves Good (λ (t : Truth). Unit {0}) at (truth_of (out-Value v)) s1 (conditions is [] v fv) t1)

  later_reads : (n m : ℕ) (ps : Parts) (r : Ran) → n ≤ m → Reads m ps r → Reads n ps r
  later_reads n m ps r l h = record { later = later_less n m r.node l h.later; last = h.last; read = h.read; left = h.left; same = h.same; table = h.table }

  -- an `if`
  if_walks : (form : PlacedForm) (around : List Around) (vs : Scope) (ws after : typed.Scope) (refs : Refs) (n m : ℕ) (vars : Vars) (at : ℕ) (c : Expr) (a b : Stmts) (rest : Steps) (ps : Parts) (go : Vars → Server → Ran) (srv : Server)
      → placed_form f vs (If at c a b) ≡ form
      → type_of x ws c ≡ Ok kind.Bool → IsNotedExpr types x ws c → IsFormedExpr c → Within (sites f around vs (If at c a b)) ss → AreIn names (used_as f form vs (If at c a b)) → Known vs ws refs m vars → Good srv.table → ws ≡ after
      → (branches_hold f a b ≡ true → (s : Server) → Good s.table → Reads (suc n) (block_parts p refs vs (suc n) m a) (run_steps g (block_steps p refs vs (suc n) m a) vars s ended))
      → (branches_hold f a b ≡ true → (s : Server) → Good s.table → Reads (suc n) (block_parts p refs vs (steps_after f vs a (suc n)) (vars_after f vs a m) b) (run_steps g (block_steps p refs vs (steps_after f vs a (suc n)) (vars_after f vs a m) b) vars s ended))
      → FollowsAs form vs n m (If at c a b) refs ps rest go vs after → ReadsAs form vs n m (If at c a b) refs ps rest go vars srv
  if_walks PlacedForm.CarriedIf around vs ws after refs n m vars at c a b rest ps go srv placing t nt fm w i k table same first second more =
      let holding = if_holds f vs at c a b placing in
      let middle = steps_after f vs a (suc n) in
      let between = vars_after f vs a m in
      let r : ReadyHere vs ws c = record { kind = kind.Bool; typed_here = t; noted = nt; formed = fm; sent = condition_portable f ss none around vs at c a b w holding } in
      let own = all_left (IsIn names) (constants vs c) (used_in f vs a) (all_left (IsIn names) (constants vs c ++ used_in f vs a) (used_in f vs b) i) in
      branch_walks n (steps_after f vs b middle) at (block_parts p refs vs (suc n) m a) (block_parts p refs vs middle between b) ps (and_then (value_of g at vars (sexpr p refs c) srv) (condition at))
      (λ s1. run_steps g (block_steps p refs vs (suc n) m a) vars s1 ended) (λ s1. run_steps g (block_steps p refs vs middle between b) vars s1 ended) (λ s2. run_steps g rest vars s2 go)
      (truth_serves at (value_of g at vars (sexpr p refs c) srv) (value_sent vs ws refs m vars k at c r srv own table))
      (omega (arith, grows_all f vs a (suc n), grows_all f vs b middle)) (first holding) (second holding)
      (λ s2 t2. more vars s2 (subst (λ z. Known vs z refs (vars_after f vs b between) vars) same (knows_later is names g vs ws refs m (vars_after f vs b between) vars (omega (arith, vars_grow f vs a m, vars_grow f vs b between)) k)) t2)
  if_walks form around vs ws after refs n m vars at c a b rest ps go srv placing t nt fm w i k table same first second more =
      skims_walks vs ws refs m vars k (If at c a b) n rest ps go srv (one_ready laws conditions p service service_typed service_formed declared this remote ss none sends vs ws c kind.Bool t nt fm) i table
      (λ s1 t1. more vars s1 (subst (λ z. Known vs z refs m vars) same k) t1)

  -- a carried loop over the list of a name
  named_walks : (vs : Scope) (ws : typed.Scope) (refs : Refs) (n m : ℕ) (vars : Vars) (at : ℕ) (name : List ℕ) (e : Expr) (a : Stmts) (item : Kind) (rest : Steps) (ps : Parts) (go : Vars → Server → Ran) (srv : Server)
      → is_constant_list vs e ≡ true → type_of x ws e ≡ Ok (kind.ListOf item) → IsFormedExpr e → AreIn names (name_of e) → Known vs ws refs m vars → Good srv.table
      → ((row : Value) (s : Server) → Fits is [] item row → Good s.table
      → Reads (suc n) (block_parts p (with_var refs name m) (with_variable vs name Role.Row at) (suc n) (suc m) a) (run_steps g (block_steps p (with_var refs name m) (with_variable vs name Role.Row at) (suc n) (suc m) a) ((m, row) ∷ vars) s ended))
      → ((s : Server) → Good s.table → Reads (steps_after f (with_variable vs name Role.Row at) a (suc n)) ps (run_steps g rest vars s go)) → ReadsAs PlacedForm.CarriedLoop vs n m (For at name e a) refs ps rest go vars srv
  named_walks vs ws refs n m vars at name (Name place q) a item rest ps go srv l t fm i k table each more =
      let inner = with_variable vs name Role.Row at in
      let refs1 = with_var refs name m in
      let b = bind_ok (known (UnknownName place) (typed.variable_named ws q)) _ (kind.ListOf item) t in
      let same : (b.0).kind ≡ kind.ListOf item = cc (b.2) in
      let called = k.called q i.0 in
      let found = k.each q b.0 fm (list_read (role_of vs q) l) (λ c. i.0) (known_ok (UnknownName place) (typed.variable_named ws q) b.0 b.1) in
      let body = block_parts p refs1 inner (suc n) (suc m) a in
      let steps = block_steps p refs1 inner (suc n) (suc m) a in
      let block = λ (row : Value) (s1 : Server). run_steps g steps ((m, row) ∷ vars) s1 ended in
      subst (λ o. Reads n (MoreParts (part_of.Over n at name q (input_number o) body) ps) (run_steps g (script_of.MoreSteps (script_of.Over n at m (input_number o) steps) rest) vars srv go)) (sym called.1)
      (over_walks Good g (Fits is [] item) n (steps_after f inner a (suc n)) at name q called.0 body ps found.0 block (λ s2. run_steps g rest vars s2 go) srv (grows_all f inner a (suc n)) (subst (λ o. resolved g vars o ≡ Some found.0) called.1 found.1)
      (subst (λ z. Fits is [] z found.0) same found.2) table (λ row s1. steps_early g steps ((m, row) ∷ vars) s1 ended (ended_early g)) each more)
  named_walks vs ws refs n m vars at name e a item rest ps go srv l t fm i k table each more = absurd (cc l)

  -- a loop
  for_walks : (form : PlacedForm) (around : List Around) (vs : Scope) (ws after : typed.Scope) (refs : Refs) (n m : ℕ) (vars : Vars) (at : ℕ) (name : List ℕ) (e : Expr) (a : Stmts) (list item : Kind) (rest : Steps) (ps : Parts)
      (go : Vars → Server → Ran) (srv : Server) → placed_form f vs (For at name e a) ≡ form
      → type_of x ws e ≡ Ok list → (list ≡ kind.ListOf item) ⊎ (list ≡ kind.RowsOf item) → IsNotedExpr types x ws e → IsFormedExpr e → Within (sites f around vs (For at name e a)) ss → AreIn names (used_as f form vs (For at name e a))
      → Known vs ws refs m vars → Good srv.table → ws ≡ after
      → (has_far_turns f vs e a ≡ true → AreIn names (used_in f (with_variable vs name Role.Row at) a) → (row : Value) (s : Server) → Fits is [] item row → Good s.table
      → Reads (suc n) (block_parts p (with_var refs name m) (with_variable vs name Role.Row at) (suc n) (suc m) a) (run_steps g (block_steps p (with_var refs name m) (with_variable vs name Role.Row at) (suc n) (suc m) a) ((m, row) ∷ vars) s ended))
      → FollowsAs form vs n m (For at name e a) refs ps rest go vs after → ReadsAs form vs n m (For at name e a) refs ps rest go vars srv
  for_walks PlacedForm.RowsLoop around vs ws after refs n m vars at name e a list item rest ps go srv placing t overs nt fm w i k table same each more =
      let holding = loop_over f vs at name e a placing in
      let inner = with_variable vs name Role.Row at in
      let noted = kind_here types x ws e list nt t in
      let is_rows_of : list ≡ kind.RowsOf item = rows_only laws conditions p service service_typed service_formed declared this remote ss none sends e list item noted holding overs in
      let r : ReadyHere vs ws e = record { kind = list; typed_here = t; noted = nt; formed = fm; sent = loop_portable laws conditions p service service_typed service_formed declared this remote ss none sends around vs at name e a w holding } in
      let own = all_left (IsIn names) (constants vs e) (used_in f inner a) i in
      let number : row_kind p e ≡ kind_number (kind.RowsOf item) - 4 = ap (λ q. kind_noted q - 4) (noted ∙ ap (λ q. Some (Ok q)) is_rows_of) in
      let keeping : f.items (expr_at e) ≡ is_primitive item = items_fact p (expr_at e) list noted ∙ ap has_primitive_items is_rows_of in
      loop_walks item n (steps_after f inner a (suc n)) at (row_kind p e) (f.items (expr_at e)) name (block_parts p (with_var refs name m) inner (suc n) (suc m) a) ps (value_of g at vars (sexpr p refs e) srv)
      (λ row s1. run_steps g (block_steps p (with_var refs name m) inner (suc n) (suc m) a) ((m, row) ∷ vars) s1 ended) (λ s2. run_steps g rest vars s2 go) keeping number (grows_all f inner a (suc n))
      (subst (λ q. Serves Good (Fits is [] q) (value_of g at vars (sexpr p refs e) srv)) is_rows_of (value_sent vs ws refs m vars k at e r srv own table)) (each (rows_far f vs e a holding) (all_right (IsIn names) (constants vs e) (used_in f inner a) i))
      (λ s2 t2. more vars s2 (subst (λ z. Known vs z refs (vars_after f inner a (suc m)) vars) same (knows_later is names g vs ws refs m (vars_after f inner a (suc m)) vars (omega (arith, vars_grow f inner a (suc m))) k)) t2)
  for_walks PlacedForm.CarriedLoop around vs ws after refs n m vars at name e a list item rest ps go srv placing t overs nt fm w i k table same each more =
      let carried = loop_carried f vs at name e a placing in
      let inner = with_variable vs name Role.Row at in
      let is_list_of : list ≡ kind.ListOf item =
      list_only laws conditions p service service_typed service_formed declared this remote ss none sends e list item (kind_here types x ws e list nt t) carried.no_rows overs in
      named_walks vs ws refs n m vars at name e a item rest ps go srv carried.list (t ∙ ap Ok is_list_of) fm (all_left (IsIn names) (name_of e) (used_in f inner a) i) k table
      (each (carried_far f vs e a carried) (all_right (IsIn names) (name_of e) (used_in f inner a) i))
      (λ s2 t2. more vars s2 (subst (λ z. Known vs z refs (vars_after f inner a (suc m)) vars) same (knows_later is names g vs ws refs m (vars_after f inner a (suc m)) vars (omega (arith, vars_grow f inner a (suc m))) k)) t2)
  for_walks form around vs ws after refs n m vars at name e a list item rest ps go srv placing t overs nt fm w i k table same each more =
      skims_walks vs ws refs m vars k (For at name e a) n rest ps go srv (one_ready laws conditions p service service_typed service_formed declared this remote ss none sends vs ws e list t nt fm) i table
      (λ s1 t1. more vars s1 (subst (λ z. Known vs z refs m vars) same k) t1)

  -- an expression alone
  run_walks : (form : PlacedForm) (vs : Scope) (ws after : typed.Scope) (refs : Refs) (n m : ℕ) (vars : Vars) (at : ℕ) (e : Expr) (k : Kind) (rest : Steps) (ps : Parts) (go : Vars → Server → Ran) (srv : Server) → placed_form f vs (Run at e) ≡ form
      → type_of x ws e ≡ Ok k → IsNotedExpr types x ws e → IsFormedExpr e → AreIn names (used_as f form vs (Run at e)) → Known vs ws refs m vars → Good srv.table → ws ≡ after
      → FollowsAs form vs n m (Run at e) refs ps rest go vs after → ReadsAs form vs n m (Run at e) refs ps rest go vars srv
  run_walks PlacedForm.CallAlone vs ws after refs n m vars at e own_kind rest ps go srv placing t nt fm i k table same more =
      let calls = alone_calls f vs at e placing in
      let r : ReadyHere vs ws e = record { kind = own_kind; typed_here = t; noted = nt; formed = fm; sent = (and_parts (portable f vs e) (holds_call f e) calls).0 } in
      let own : AreIn names (constants vs e) = (subst (λ es. EachIn names vs (es ++ [])) (whole_remote f vs e calls) (each_in names vs (remote_of f vs (Run at e)) i)).0 in
      pass_walks vs ws refs m vars k n (part_of.Pass n) ps (Fits is [] own_kind) (value_of g at vars (sexpr p refs e) srv) (λ v s1. run_steps g rest vars s1 go) (λ w1. refl) (value_sent vs ws refs m vars k at e r srv own table) (λ v s1 fv t1.
      subst (λ q. Reads q ps (run_steps g rest vars s1 go)) (one_step f vs at e n calls) (more vars s1 (subst (λ z. Known vs z refs m vars) same k) t1))
  run_walks form vs ws after refs n m vars at e own_kind rest ps go srv placing t nt fm i k table same more =
      skims_walks vs ws refs m vars k (Run at e) n rest ps go srv (one_ready laws conditions p service service_typed service_formed declared this remote ss none sends vs ws e own_kind t nt fm) i table
      (λ s1 t1. more vars s1 (subst (λ z. Known vs z refs m vars) same k) t1)

  mutual
    stmt_walks : (around : List Around) → is_script_place f around ≡ true → (vs : Scope) (ws after : typed.Scope) (refs : Refs) (n m : ℕ) (vars : Vars) (s : Stmt) (rest : Steps) (ps : Parts) (go : Vars → Server → Ran) (srv : Server)
        → check_stmt x ws s ≡ Ok after → IsNotedStmt types x ws s → IsFormedStmt s → Within (sites f around vs s) ss → AreIn names (used f vs s) → Known vs ws refs m vars → Good srv.table
        → FollowsAs (placed_form f vs s) vs n m s refs ps rest go (scope_after f [] vs s) after → ReadsAs (placed_form f vs s) vs n m s refs ps rest go vars srv
    stmt_walks around place vs ws after refs n m vars (Val at name e) rest ps go srv t nt fm w i k table more = by (portable f vs e) refl i more
      where
        form_by : Truth → PlacedForm
        form_by b = cond b PlacedForm.CarriedVal PlacedForm.Plain

        by : (b : Truth) → portable f vs e ≡ b → AreIn names (used_as f (form_by b) vs (Val at name e))
            → FollowsAs (form_by b) vs n m (Val at name e) refs ps rest go (with_variable vs name (cond b Role.Carried Role.Plain) at) after → ReadsAs (form_by b) vs n m (Val at name e) refs ps rest go vars srv
        by true e' i' more' =
            let d = val_parts x ws at name e after t in
            let r : ReadyHere vs ws e = record { kind = d.kind; typed_here = d.typed; noted = nt; formed = fm; sent = e' } in
            val_walks vs ws refs m vars k n at name e r ps (λ v s1. run_steps g rest ((m, v) ∷ vars) s1 go) srv i' table (λ v s1 fv t1.
            more' ((m, v) ∷ vars) s1 (subst (λ z. Known (with_variable vs name Role.Carried at) z (with_var refs name m) (suc m) ((m, v) ∷ vars)) d.same (knows_more is names g vs ws refs m vars name Role.Carried at d.kind true v fv k)) t1)
        by false e' i' more' =
            let d = val_parts x ws at name e after t in
            skims_walks vs ws refs m vars k (Val at name e) n rest ps go srv (one_ready laws conditions p service service_typed service_formed declared this remote ss none sends vs ws e d.kind d.typed nt fm) i' table (λ s1 t1.
            more' vars s1 (subst (λ z. Known (with_variable vs name Role.Plain at) z refs m vars) d.same (knows_plain is names g vs ws refs m vars name at d.kind true k)) t1)
    stmt_walks around place vs ws after refs n m vars (Var at name e) rest ps go srv t nt fm w i k table more =
        let d = var_parts x ws at name e after t in
        skims_walks vs ws refs m vars k (Var at name e) n rest ps go srv (one_ready laws conditions p service service_typed service_formed declared this remote ss none sends vs ws e d.kind d.typed nt fm) i table (λ s1 t1.
        more vars s1 (subst (λ z. Known (with_variable vs name Role.Plain at) z refs m vars) d.same (knows_plain is names g vs ws refs m vars name at d.kind false k)) t1)
    stmt_walks around place vs ws after refs n m vars (Assign at a b) rest ps go srv t nt fm w i k table more =
        let d = assign_parts x ws at a b after t in
        skims_walks vs ws refs m vars k (Assign at a b) n rest ps go srv
        (all_both (ReadyHere vs ws) (remote_in f vs a) (flat_map (remote_in f vs) (b ∷ []))
        (remote_ready laws conditions p service service_typed service_formed declared this remote ss none sends vs ws a d.left d.left_typed nt.0 fm.0)
        (one_ready laws conditions p service service_typed service_formed declared this remote ss none sends vs ws b d.right d.right_typed nt.1 fm.1)) i table (λ s1 t1.
        more vars s1 (subst (λ z. Known vs z refs m vars) d.same k) t1)
    stmt_walks around place vs ws after refs n m vars (Run at e) rest ps go srv t nt fm w i k table more =
        let d = run_parts x ws at e after t in
        run_walks (placed_form f vs (Run at e)) vs ws after refs n m vars at e d.kind rest ps go srv refl d.typed nt fm i k table d.same more
    stmt_walks around place vs ws after refs n m vars (Print at e) rest ps go srv t nt fm w i k table more =
        let d = print_parts x ws at e after t in
        skims_walks vs ws refs m vars k (Print at e) n rest ps go srv (one_ready laws conditions p service service_typed service_formed declared this remote ss none sends vs ws e d.kind d.typed nt fm) i table (λ s1 t1.
        more vars s1 (subst (λ z. Known vs z refs m vars) d.same k) t1)
    stmt_walks around place vs ws after refs n m vars (Throw at e) rest ps go srv t nt fm w i k table more =
        let d = throw_parts x ws at e after t in
        skims_walks vs ws refs m vars k (Throw at e) n rest ps go srv (one_ready laws conditions p service service_typed service_formed declared this remote ss none sends vs ws e d.kind d.typed nt fm) i table (λ s1 t1.
        more vars s1 (subst (λ z. Known vs z refs m vars) d.same k) t1)
    stmt_walks around place vs ws after refs n m vars (While at c a) rest ps go srv t nt fm w i k table more =
        let d = while_parts x ws at c a after t in
        skims_walks vs ws refs m vars k (While at c a) n rest ps go srv (one_ready laws conditions p service service_typed service_formed declared this remote ss none sends vs ws c kind.Bool d.typed nt.0 fm.0) i table (λ s1 t1.
        more vars s1 (subst (λ z. Known vs z refs m vars) d.same k) t1)
    stmt_walks around place vs ws after refs n m vars (Try at a name b) rest ps go srv t nt fm w i k table more =
        let d = try_parts x ws at a name b after t in
        skims_walks vs ws refs m vars k (Try at a name b) n rest ps go srv tt i table (λ s1 t1. more vars s1 (subst (λ z. Known vs z refs m vars) d.same k) t1)
    stmt_walks around place vs ws after refs n m vars (Batch at interface root a) rest ps go srv t nt fm w i k table more =
        let d = batch_parts x ws at interface root a after t in
        skims_walks vs ws refs m vars k (Batch at interface root a) n rest ps go srv tt i table (λ s1 t1. more vars s1 (subst (λ z. Known vs z refs m vars) d.same k) t1)
    stmt_walks around place vs ws after refs n m vars (If at c a b) rest ps go srv t nt fm w i k table more =
        let d = if_parts x ws at c a b after t in
        let frame = Branch at vs c a b ∷ around in
        let inside = within_tail _ _ _ w in
        let middle = steps_after f vs a (suc n) in
        let between = vars_after f vs a m in
        let used_there : branches_hold f a b ≡ true → AreIn names (constants vs c ++ used_in f vs a ++ used_in f vs b) =
        λ holding. subst (λ (t : Truth). AreIn names (used_as f (cond t PlacedForm.CarriedIf PlacedForm.Plain) vs (If at c a b))) holding i in
        if_walks (placed_form f vs (If at c a b)) around vs ws after refs n m vars at c a b rest ps go srv refl d.typed nt.0 fm.0 w i k table d.same
        (λ holding s1 t1. block_walks frame (script_inside laws conditions p service service_typed service_formed declared this remote ss none sends around (branches_hold f a b) place holding) vs ws d.first refs (suc n) m vars a s1
        d.first_typed nt.1 fm.1 (within_left (block_sites f frame vs a) (block_sites f frame vs b) _ inside)
        (all_right (IsIn names) (constants vs c) (used_in f vs a) (all_left (IsIn names) (constants vs c ++ used_in f vs a) (used_in f vs b) (used_there holding))) k t1)
        (λ holding s1 t1. later_reads (suc n) middle (block_parts p refs vs middle between b) (run_steps g (block_steps p refs vs middle between b) vars s1 ended) (grows_all f vs a (suc n))
        (block_walks frame (script_inside laws conditions p service service_typed service_formed declared this remote ss none sends around (branches_hold f a b) place holding) vs ws d.second refs middle between vars b s1
        d.second_typed nt.2 fm.2 (within_right (block_sites f frame vs a) (block_sites f frame vs b) _ inside)
        (all_right (IsIn names) (constants vs c ++ used_in f vs a) (used_in f vs b) (used_there holding)) (knows_later is names g vs ws refs m between vars (vars_grow f vs a m) k) t1))
        more
    stmt_walks around place vs ws after refs n m vars (For at name e a) rest ps go srv t nt fm w i k table more =
        let d = for_parts x ws at name e a after t in
        let inner = typed.with_variable ws name d.item true in
        let same : scope_or ws (placed x ws e >>= λ q. loop_scope ws at name q) ≡ inner = ap (scope_or ws) d.judged in
        let noted : AreNotedStmts types x inner a = subst (λ i. AreNotedStmts types x i a) same nt.1 in
        let frame = Turn at vs e a ∷ around in
        let turn_scope = with_variable vs name Role.Row at in
        let inside = within_tail _ _ _ w in
        for_walks (placed_form f vs (For at name e a)) around vs ws after refs n m vars at name e a d.list d.item rest ps go srv refl d.typed d.over nt.0 fm.0 w i k table d.same
        (λ far used_there row s1 fits t1. block_walks frame (script_inside laws conditions p service service_typed service_formed declared this remote ss none sends around (has_far_turns f vs e a) place far) turn_scope inner d.last (with_var refs name m) (suc n) (suc m)
        ((m, row) ∷ vars) a s1 d.block_typed noted fm.1 (subst (λ r. Within (block_sites f frame (with_variable vs name r at) a) ss) (far_row f around vs e a place far) inside) used_there
        (knows_more is names g vs ws refs m vars name Role.Row at d.item true row fits k) t1)
        more

    pub block_walks : (around : List Around) → is_script_place f around ≡ true → (vs : Scope) (ws after : typed.Scope) (refs : Refs) (n m : ℕ) (vars : Vars) (block : Stmts) (srv : Server)
        → check_stmts x ws block ≡ Ok after → AreNotedStmts types x ws block → AreFormedStmts block → Within (block_sites f around vs block) ss → AreIn names (used_in f vs block) → Known vs ws refs m vars → Good srv.table
        → Reads n (block_parts p refs vs n m block) (run_steps g (block_steps p refs vs n m block) vars srv ended)
    block_walks around place vs ws after refs n m vars NoStmts srv t nt fm w i k table = record { later = tt; last = standing forest.NoEntries None; read = refl; left = refl; same = refl; table = λ e. table }
    block_walks around place vs ws after refs n m vars (MoreStmts s rest) srv t nt fm w i k table =
        let d = stmts_parts x ws s rest after t in
        let same : scope_or ws (check_stmt x ws s) ≡ d.middle = ap (scope_or ws) d.typed in
        let later = within_right (sites f around vs s) (block_sites f around (scope_after f around vs s) rest) _ w in
        let vs1 = scope_after f [] vs s in
        let refs1 = refs_after p refs m vs s in
        let n1 = step_after f vs s n in
        let m1 = var_after f vs s m in
        stmt_walks around place vs ws d.middle refs n m vars s (block_steps p refs1 vs1 n1 m1 rest) (block_parts p refs1 vs1 n1 m1 rest) ended srv d.typed nt.0 fm.0
        (within_left (sites f around vs s) (block_sites f around (scope_after f around vs s) rest) _ w) (all_left (IsIn names) (used f vs s) (used_in f vs1 rest) i) k table
        (λ vars1 s1 k1 t1. block_walks around place vs1 d.middle after refs1 n1 m1 vars1 rest s1 d.rest (subst (λ i. AreNotedStmts types x i rest) same nt.1) fm.1
        (subst (λ i. Within (block_sites f around i rest) ss) (script_scope f around vs s place) later) (all_right (IsIn names) (used f vs s) (used_in f vs1 rest) i) k1 t1)
