-- The code of a batch, its script and its replay go on together, statement by statement.
use Rattle.std.proofs.Common.{◌≡◌, ◌≤◌, ◌⊎◌, inl, inr, refl, sym, ap, ◌∙◌, subst, ℕ, suc, ◌-◌, List, [], ◌∷◌, ◌++◌, true, false, cond, ◌&&◌, ◌||◌, Ok}
use Rattle.std.specs.List.{Contains}
use Rattle.std.proofs.lemmas.Bool.{and_parts}
use Rattle.std.proofs.lemmas.List.Elements.{Contains-append_right}
use Rattle.rb_trees.specs.Outcome.{◌>>=◌}
use Rattle.rb_trees.specs.declared.values.Value.{Value}
use Rattle.rb_trees.specs.declared.values.Value.TheViews.{out-Value}
use Rattle.rb_trees.specs.mirror.Code.{Expr, expr_at, Stmt, Stmts, Val, Var, Assign, Run as RunStmt, Print, Throw, If, While, For, Try, Batch, NoStmts, MoreStmts}
use Rattle.rb_trees.specs.mirror.Declarations.{Interface}
use Rattle.rb_trees.specs.mirror.Remainders as part
use Rattle.rb_trees.specs.mirror.Scripts as script
use Rattle.rb_trees.specs.mirror.Scripts.{Steps, MoreSteps}
use Rattle.rb_meaning_types.specs.Kinds as kind
use Rattle.rb_meaning_types.specs.Kinds.{Kind, is_primitive}
use Rattle.rb_meaning_types.specs.Scopes as typed
use Rattle.rb_meaning_types.specs.Statements.{placed, loop_scope, check_stmt}
use Rattle.rb_meaning_types.specs.Notes.{scope_or, type_at}
use Rattle.rb_meaning_bytes.specs.Fits.{is_kept}
use Rattle.rb_meaning_code.specs.State.{Local, bound}
use Rattle.rb_meaning_code.specs.Dialogue.{Outcome, Gave, Faulted, handle, on}
use Rattle.rb_meaning_code.specs.Expressions.{evaluates}
use Rattle.rb_meaning_code.specs.Statements.{block, by_truth, turns, performs, performs_all}
use Rattle.rb_meaning_code.specs.ScriptRun as run
use Rattle.rb_meaning_code.specs.ScriptRun.{Vars, Ran, run_steps}
use Rattle.rb_meaning_flow.specs.declared.forms.PlacedForm.{PlacedForm}
use Rattle.rb_meaning_flow.specs.declared.scopes.Role.{Role}
use Rattle.rb_meaning_flow.specs.Facts.{is_rows, over_rows}
use Rattle.rb_meaning_flow.specs.Scopes.{Scope, with_variable, assigned_by, assigned_in}
use Rattle.rb_meaning_flow.specs.Portable.{portable, block_holds, branches_hold, is_constant_list, may_carry, has_far_turns}
use Rattle.rb_meaning_flow.specs.Marks.{is_remote_whole}
use Rattle.rb_meaning_flow.specs.Forms.{placed_form, is_carried_form}
use Rattle.rb_meaning_flow.specs.Programs.{is_carried_at}
use Rattle.rb_meaning_flow.specs.Sites.{Around, Branch, Turn, is_script_place, own, stmt_site, scope_after, sites, block_sites}
use Rattle.rb_meaning.specs.State.{Outside}
use Rattle.rb_meaning_types.specs.CallKinds.{kind_noted}
use Rattle.rb_meaning.specs.RemoteExprs.{remote_of}
use Rattle.rb_meaning.specs.ConstantLists.{name_of}
use Rattle.rb_meaning_split.specs.Refs.{Refs, with_var, list_number, sexpr}
use Rattle.rb_meaning_split.specs.Inputs.{constants, used_as, used, used_in}
use Rattle.rb_meaning_split.specs.Numbers.{step_after_as, step_after, steps_after, var_after_as, var_after, vars_after}
use Rattle.rb_meaning_split.specs.Steps.{refs_after_as, refs_after, steps_as, block_steps}
use Rattle.rb_meaning_split.specs.Parts as parts
use Rattle.rb_meaning_split.specs.Replay as replay
use Rattle.rb_law_types.specs.Own.{IsFarItem}
use Rattle.rb_law_types.specs.Noted.{AreNotedStmts}
use Rattle.rb_law_types.specs.Admitted.{AreAdmittedStmts}
use Rattle.rb_law_types.proofs.Parts.{Branches, Loops, if_parts, for_parts, stmts_parts}
use Rattle.rb_law_types.proofs.TypeFacts.{kind_here, items_fact, rows_fact}
use Rattle.rb_law_types.proofs.SitesWithin.{Within, within_left, within_right, within_tail, stmt_first}
use Rattle.rb_law_unsplit.proofs.Agreed.{primitive_far}
use Rattle.rb_law_unsplit.proofs.Conditions.{condition_portable}
use Rattle.rb_law_unsplit.proofs.Placed.{far_row}
use Rattle.rb_law_unsplit.proofs.Walked.{script_scope}
use Rattle.rb_flow.proofs.Members.{first_contained}
use Rattle.rb_law_script.proofs.Later.{AllLater, later_up, fault_in, grows_block, later_block}
use Rattle.rb_law_script.proofs.Forms.{Tells, told}
use Rattle.rb_law_script.proofs.NoUnit.{NoUnit}
use Rattle.rb_law_script.proofs.Numbers.{le_trans, suc_le, vars_grow}
use Rattle.rb_law_script.proofs.Walk.{item_kind}
use Rattle.rb_law_local.specs.Shown.{at_client}
use Rattle.rb_law_local.proofs.Meeting.{handle_seq}
use Rattle.rb_law_local.proofs.Portable.{local_of}
use Rattle.rb_law_local.proofs.Statements.{stmt_extends, stmts_extends}
use Rattle.rb_law_division.specs.Faults.{sent_of}
use Rattle.rb_law_division.proofs.Held.{kept_rows}
use Rattle.rb_law_client.proofs.Overs.{Onto, Unkept, over_more, over_trans, stmts_from}
use Rattle.rb_law_client.proofs.Written.{InScript, written_left, written_right, stmt_free, stmts_free}
use Rattle.rb_law_client.proofs.Scene.{Scene, d, is, f, ss, x, place, h, code, Holds, written, At, Stands, AllStand}
use Rattle.rb_law_client.proofs.Goes.{Onward, Goes, at_node, sent_faults, plain_goes}
use Rattle.rb_law_client.proofs.Worth.{value, worth, far_here, other_far, at_bound}
use Rattle.rb_law_client.proofs.Vals.{StmtGoes, val_goes, run_goes}
use Rattle.rb_law_client.proofs.Blocks.{Done, BlockGoes, block_same, block_less, at_up}
use Rattle.rb_law_client.proofs.Choices.{if_goes}
use Rattle.rb_law_client.proofs.Turning.{each_goes}
use Rattle.rb_law_client.proofs.ListTurns.{over_goes, primitive_items}

item_no_unit : (interfaces : List Interface) (k : Kind) → IsFarItem interfaces k → NoUnit k
item_no_unit interfaces kind.Int h = refl
item_no_unit interfaces kind.Bool h = refl
item_no_unit interfaces kind.Text h = refl
item_no_unit interfaces kind.Unit h = absurd h
item_no_unit interfaces (kind.Named name) h = refl
item_no_unit interfaces (kind.ListOf item) h = absurd h
item_no_unit interfaces (kind.RowsOf row) h = absurd h

module _ (c : Scene) where
  -- How a block goes on there, from each local state and each run of the script.
  abbrev pub BlockHere : Scope → (ws after : typed.Scope) → Stmts → Refs → (m n : ℕ) → Type 0
  BlockHere vs ws after b refs m n = (vars : Vars) (l : Local) (o : Outside) → At c refs m vs ws vars l → Holds c o
      → let ran = run_steps c.ground (block_steps c.p refs vs n m b) vars o.server run.ended in
      BlockGoes c ws after (handle (h c) (performs_all (code c) c.gas b l) o) ran (replay.replay_all c.p.classes c.gas (parts.block_parts c.p refs vs n m b) (at_client (x c) ws l) (at_node c o ran) replay.ended)

  -- what of a statement as a whole is sent
  whole_sent : (around : List Around) (vs : Scope) (s : Stmt) (e : Expr) → own s ≡ e ∷ [] → is_remote_whole (f c) around s ≡ true → Contains (sent_of (f c) (stmt_site around vs s)) e
  whole_sent around vs s e same whole =
      Contains-append_right (remote_of (f c) vs s) (cond (is_remote_whole (f c) around s) (own s) []) e
      (subst (λ t. Contains (cond t (own s) []) e) (sym whole) (subst (λ es. Contains es e) (sym same) (first_contained e [])))

  -- ---- an `if`

  module _ (around : List Around) (vs : Scope) (ws after : typed.Scope) (position : ℕ) (e : Expr) (a b : Stmts) (stands : Stands c around vs ws after (If position e a b)) where
    abbrev s : Stmt
    s = If position e a b

    abbrev frame : List Around
    frame = Branch position vs e a b ∷ around

    place_inside : branches_hold (f c) a b ≡ true → is_script_place (f c) frame ≡ true
    place_inside holding = ap (λ t. t && branches_hold (f c) a b) stands.script ∙ holding

    used_if : branches_hold (f c) a b ≡ true → Within (constants vs e ++ used_in (f c) vs a ++ used_in (f c) vs b) c.inputs
    used_if holding = subst (λ t. Within (used_as (f c) (cond t PlacedForm.CarriedIf PlacedForm.Plain) vs s) c.inputs) holding stands.used

    pub first_stands : branches_hold (f c) a b ≡ true → AllStand c frame vs ws (if_parts (x c) ws position e a b after stands.typed).first a
    first_stands holding = record {
      script = place_inside holding;
      typed = (if_parts (x c) ws position e a b after stands.typed).first_typed;
      formed = stands.formed.1;
      noted = stands.noted.1;
      admitted = stands.admitted.1;
      within = within_left (block_sites (f c) frame vs a) (block_sites (f c) frame vs b) (ss c) (within_tail _ _ _ stands.within);
      used = within_right (constants vs e) (used_in (f c) vs a) c.inputs (within_left (constants vs e ++ used_in (f c) vs a) (used_in (f c) vs b) c.inputs (used_if holding));
      writes = written_left (written c) (assigned_in a) (assigned_in b) stands.writes;
    }

    pub second_stands : branches_hold (f c) a b ≡ true → AllStand c frame vs ws (if_parts (x c) ws position e a b after stands.typed).second b
    second_stands holding = record {
      script = place_inside holding;
      typed = (if_parts (x c) ws position e a b after stands.typed).second_typed;
      formed = stands.formed.2;
      noted = stands.noted.2;
      admitted = stands.admitted.2;
      within = within_right (block_sites (f c) frame vs a) (block_sites (f c) frame vs b) (ss c) (within_tail _ _ _ stands.within);
      used = within_right (constants vs e ++ used_in (f c) vs a) (used_in (f c) vs b) c.inputs (used_if holding);
      writes = written_right (written c) (assigned_in a) (assigned_in b) stands.writes;
    }

    module _ (refs : Refs) (m : ℕ) (vars : Vars) (l : Local) (at : At c refs m vs ws vars l) (n : ℕ) (rest : Steps) (kr : Onward) (ke : replay.Rest) (o : Outside) (holds : Holds c o) where
      abbrev go : Onward
      go vars1 s1 = run_steps c.ground rest vars1 s1 kr

      abbrev client : Local
      client = at_client (x c) ws l

      -- by whether a remote operation stands in its branches
      pub choice_goes : (branches_hold (f c) a b ≡ true → BlockHere vs ws (if_parts (x c) ws position e a b after stands.typed).first a refs m (suc n))
          → (branches_hold (f c) a b ≡ true → BlockHere vs ws (if_parts (x c) ws position e a b after stands.typed).second b refs (vars_after (f c) vs a m) (steps_after (f c) vs a (suc n)))
          → StmtGoes c vs ws after s refs m vars l n rest kr ke o
      choice_goes first second = by (placed_form (f c) vs s) (told (f c) vs s)
        where
          q : Branches (x c) ws e a b after
          q = if_parts (x c) ws position e a b after stands.typed

          m1 : ℕ
          m1 = vars_after (f c) vs a m

          sa : Steps
          sa = block_steps c.p refs vs (suc n) m a

          sb : Steps
          sb = block_steps c.p refs vs (steps_after (f c) vs a (suc n)) m1 b

          pa : part.Parts
          pa = parts.block_parts c.p refs vs (suc n) m a

          pb : part.Parts
          pb = parts.block_parts c.p refs vs (steps_after (f c) vs a (suc n)) m1 b

          up_first : m ≤ m1
          up_first = vars_grow (f c) vs a m

          up : m ≤ vars_after (f c) vs b m1
          up = le_trans m m1 (vars_after (f c) vs b m1) up_first (vars_grow (f c) vs b m1)

          chosen : branches_hold (f c) a b ≡ true
              → let ran = run_steps c.ground (MoreSteps (script.If n position (sexpr c.p refs e) sa sb) rest) vars o.server kr in
              Goes c refs (vars_after (f c) vs b m1) vs ws after (handle (h c) (performs (code c) c.gas s l) o) ran (replay.replay c.p.classes c.gas (part.Branch n pa pb) client (at_node c o ran) ke) go ke
          chosen holding =
              let r = condition_portable (f c) (ss c) c.none around vs position e a b stands.within holding in
              let uc = within_left (constants vs e) (used_in (f c) vs a) c.inputs (within_left (constants vs e ++ used_in (f c) vs a) (used_in (f c) vs b) c.inputs (used_if holding)) in
              let w = handle (h c) (evaluates (code c) e l) o in
              let ran = run_steps c.ground (MoreSteps (script.If n position (sexpr c.p refs e) sa sb) rest) vars o.server kr in
              let far = sent_faults c around vs ws after s stands e (whole_sent around vs s e refl (place_inside holding)) r (place c ws) kind.Bool (q.typed, stands.formed.0) stands.noted.0 l at.fits o holds in
              subst (λ i. Goes c refs (vars_after (f c) vs b m1) vs ws i (handle (h c) (performs (code c) c.gas s l) o) ran (replay.replay c.p.classes c.gas (part.Branch n pa pb) client (at_node c o ran) ke) go ke) q.same
              (subst (λ i. Goes c refs (vars_after (f c) vs b m1) vs ws ws i ran (replay.replay c.p.classes c.gas (part.Branch n pa pb) client (at_node c o ran) ke) go ke)
              (sym (handle_seq (h c) (evaluates (code c) e l) (on (λ v l1. by_truth position v (block (performs_all (code c) c.gas a)) (block (performs_all (code c) c.gas b)) l1)) o))
              (if_goes c refs m vs ws vars l at n (vars_after (f c) vs b m1) up go ke position a b sa sb pa pb o w (value c refs m vs ws vars l at position e o.server)
              (worth c refs m vs ws vars l at e kind.Bool r q.typed stands.noted.0 stands.formed.0 uc position o holds) far
              (λ o1 holds1. record {
                last = q.first;
                onward = stmts_extends (x c) a ws q.first q.first_typed;
                goes = first holding vars l o1 at holds1;
                over = (stmts_from c.p c.service (code c) (InScript refs) a c.gas (stmts_free (written c) (InScript refs) (x c) a ws q.first q.first_typed at.held (written_left (written c) (assigned_in a) (assigned_in b) stands.writes)) l).left o1;
              })
              (λ o1 holds1. record {
                last = q.second;
                onward = stmts_extends (x c) b ws q.second q.second_typed;
                goes = second holding vars l o1 (at_up c refs m m1 vs ws vars l up_first at) holds1;
                over = (stmts_from c.p c.service (code c) (InScript refs) b c.gas (stmts_free (written c) (InScript refs) (x c) b ws q.second q.second_typed at.held (written_right (written c) (assigned_in a) (assigned_in b) stands.writes)) l).left o1;
              })))

          by : (form : PlacedForm) → Tells (f c) vs form s
              → let ran = run_steps c.ground (steps_as c.p form refs vs n m s rest) vars o.server kr in
              Goes c (refs_after_as c.p form refs m s) (var_after_as (f c) form vs s m) vs ws after (handle (h c) (performs (code c) c.gas s l) o) ran
              (replay.replay c.p.classes c.gas (parts.part_as c.p form refs vs n m s) client (at_node c o ran) ke) go ke
          by PlacedForm.CarriedIf holding = chosen holding
          by PlacedForm.Plain holding = plain_goes c around vs ws after s stands refs m vars l at holding n rest kr ke o holds
          by form other = absurd other

  -- ---- a loop over rows, or one that is carried

  module _ (around : List Around) (vs : Scope) (ws after : typed.Scope) (position : ℕ) (name : List ℕ) (e : Expr) (a : Stmts) (stands : Stands c around vs ws after (For position name e a)) where
    abbrev loop : Stmt
    loop = For position name e a

    abbrev turn_frame : List Around
    turn_frame = Turn position vs e a ∷ around

    abbrev turn_scope : Scope
    turn_scope = with_variable vs name Role.Row position

    abbrev parts_of : Loops (x c) ws position name e a after
    parts_of = for_parts (x c) ws position name e a after stands.typed

    abbrev turn_typed : typed.Scope
    turn_typed = typed.with_variable ws name (for_parts (x c) ws position name e a after stands.typed).item true

    pub turn_stands : has_far_turns (f c) vs e a ≡ true → Within (used_in (f c) turn_scope a) c.inputs → AllStand c turn_frame turn_scope turn_typed (for_parts (x c) ws position name e a after stands.typed).last a
    turn_stands far used_there =
        let q = for_parts (x c) ws position name e a after stands.typed in
        let same : scope_or ws (placed (x c) ws e >>= λ y. loop_scope ws position name y) ≡ turn_typed = ap (scope_or ws) q.judged in
        record {
          script = ap (λ t. t && has_far_turns (f c) vs e a) stands.script ∙ far;
          typed = q.block_typed;
          formed = stands.formed.1;
          noted = subst (λ i. AreNotedStmts (type_at c.p) (x c) i a) same stands.noted.1;
          admitted = subst (λ i. AreAdmittedStmts (x c) i a) same stands.admitted.1;
          within = subst (λ r. Within (block_sites (f c) turn_frame (with_variable vs name r position) a) (ss c)) (far_row (f c) around vs e a stands.script far) (within_tail _ _ _ stands.within);
          used = used_there;
          writes = stands.writes;
        }

    module _ (refs : Refs) (m : ℕ) (vars : Vars) (l : Local) (at : At c refs m vs ws vars l) (n : ℕ) (rest : Steps) (kr : Onward) (ke : replay.Rest) (o : Outside) (holds : Holds c o) where
      abbrev go_on : Onward
      go_on vars1 s1 = run_steps c.ground rest vars1 s1 kr

      abbrev at_client_here : Local
      at_client_here = at_client (x c) ws l

      -- by whether its turns are the script's
      pub loop_goes : AllLater (step_after (f c) vs loop n) go_on
          → (has_far_turns (f c) vs e a ≡ true → Within (used_in (f c) turn_scope a) c.inputs → BlockHere turn_scope turn_typed (for_parts (x c) ws position name e a after stands.typed).last a (with_var refs name m) (suc m) (suc n))
          → StmtGoes c vs ws after loop refs m vars l n rest kr ke o
      loop_goes later each = by (placed_form (f c) vs loop) (told (f c) vs loop) later stands.used
        where
          q : Loops (x c) ws position name e a after
          q = for_parts (x c) ws position name e a after stands.typed

          sa : Steps
          sa = block_steps c.p (with_var refs name m) turn_scope (suc n) (suc m) a

          pa : part.Parts
          pa = parts.block_parts c.p (with_var refs name m) turn_scope (suc n) (suc m) a

          m2 : ℕ
          m2 = vars_after (f c) turn_scope a (suc m)

          w : Outcome Value × Outside
          w = handle (h c) (evaluates (code c) e l) o

          over_is : over_rows (f c) e ≡ is_rows q.list
          over_is = rows_fact c.p (expr_at e) q.list (kind_here (type_at c.p) (x c) ws e q.list stands.noted.0 q.typed)

          list_rows : over_rows (f c) e ≡ true → (q.list ≡ kind.ListOf q.item) ⊎ (q.list ≡ kind.RowsOf q.item) → q.list ≡ kind.RowsOf q.item
          list_rows rows (inl is_list) = absurd (cc (sym rows ∙ over_is ∙ ap is_rows is_list))
          list_rows rows (inr is_rows') = is_rows'

          no_rows : over_rows (f c) e ≡ false → (q.list ≡ kind.ListOf q.item) ⊎ (q.list ≡ kind.RowsOf q.item) → q.list ≡ kind.ListOf q.item
          no_rows apart (inl is_list) = is_list
          no_rows apart (inr is_rows') = absurd (cc (sym apart ∙ over_is ∙ ap is_rows is_rows'))

          free : Unkept (InScript refs) (assigned_in a)
          free = stmt_free (written c) (InScript refs) (x c) loop ws after stands.typed at.held stands.writes

          -- what a turn leaves of the names
          turn_over : (row : Value) (l1 : Local) (o1 : Outside) → Onto (InScript refs) l1 (local_of (handle (h c) (performs_all (code c) c.gas a (bound name row l1)) o1).0)
          turn_over row l1 o1 = over_trans (InScript refs) l1.names (bound name row l1).names (local_of (handle (h c) (performs_all (code c) c.gas a (bound name row l1)) o1).0).names (over_more (InScript refs) l1.names ((name, row) ∷ []))
              ((stmts_from c.p c.service (code c) (InScript refs) a c.gas free (bound name row l1)).left o1)

          turned : over_rows (f c) e ≡ true → AllLater (steps_after (f c) turn_scope a (suc n)) go_on → Within (constants vs e ++ used_in (f c) turn_scope a) c.inputs
              → let ran = run_steps c.ground (MoreSteps (script.Each n position m ((f c).items (expr_at e)) (sexpr c.p refs e) sa) rest) vars o.server kr in
              Goes c refs (vars_after (f c) turn_scope a (suc m)) vs ws after (handle (h c) (performs (code c) c.gas loop l) o) ran
              (replay.replay c.p.classes c.gas (part.Turns n name (parts.row_kind c.p e) pa) at_client_here (at_node c o ran) ke) go_on ke
          turned rows later' used' =
              let st = stmt_site around vs loop in
              let r : portable (f c) vs e ≡ true = c.sends.loops st (stands.within st (stmt_first (f c) around vs loop)) e (subst (λ t. Contains (cond t (e ∷ []) []) e) (sym rows) (first_contained e [])) in
              let is_rows' = list_rows rows q.over in
              let typed' = q.typed ∙ ap Ok is_rows' in
              let noted = kind_here (type_at c.p) (x c) ws e (kind.RowsOf q.item) stands.noted.0 typed' in
              let far_item : IsFarItem (is c) q.item = far_here c refs m vs ws vars l at e (kind.RowsOf q.item) r typed' stands.noted.0 stands.formed.0 in
              let fact = items_fact c.p (expr_at e) (kind.RowsOf q.item) noted in
              let known = c.turns (d c) vs ws at.known position name (kind.RowsOf q.item) q.item (inr refl) (c.types c.p c.fits.declared (place c ws) c.near at.known.kinds e (kind.RowsOf q.item) typed') in
              let ran = run_steps c.ground (MoreSteps (script.Each n position m ((f c).items (expr_at e)) (sexpr c.p refs e) sa) rest) vars o.server kr in
              let far = sent_faults c around vs ws after loop stands e (whole_sent around vs loop e refl rows) r (place c ws) (kind.RowsOf q.item) (typed', stands.formed.0) stands.noted.0 l at.fits o holds in
              let turns_far : has_far_turns (f c) vs e a ≡ true = ap (λ t. t || may_carry (f c) vs e a) rows in
              let inside = within_right (constants vs e) (used_in (f c) turn_scope a) c.inputs used' in
              subst (λ i. Goes c refs m2 vs ws i (handle (h c) (performs (code c) c.gas loop l) o) ran (replay.replay c.p.classes c.gas (part.Turns n name (parts.row_kind c.p e) pa) at_client_here (at_node c o ran) ke) go_on ke) q.same
              (subst (λ i. Goes c refs m2 vs ws ws i ran (replay.replay c.p.classes c.gas (part.Turns n name (parts.row_kind c.p e) pa) at_client_here (at_node c o ran) ke) go_on ke)
              (sym (handle_seq (h c) (evaluates (code c) e l) (on (λ v l1. turns position name (out-Value v) (performs_all (code c) c.gas a) l1)) o))
              (each_goes c refs m vs ws vars n m2 position (suc_le m m2 (vars_grow (f c) turn_scope a (suc m))) go_on ke name q.item ((f c).items (expr_at e)) (parts.row_kind c.p e)
              (ap (λ k. is_kept (kind_noted k - 4)) noted ∙ kept_rows q.item ∙ sym fact) fact a sa pa q.last (stmts_extends (x c) a turn_typed q.last q.block_typed)
              (λ other. other_far (d c) q.item (item_kind (is c) q.item far_item) other (item_no_unit (is c) q.item far_item))
              (record {
                goes = λ row l1 o1 fits at1 holds1.
                    each turns_far inside ((m, row) ∷ vars) (bound name row l1) o1 (at_bound c refs m vs ws vars l1 at1 name Role.Row position q.item row refl (item_kind (is c) q.item far_item) q.free fits known) holds1;
                over = turn_over;
              })
              l at (λ vars1 s1. later_up (suc n) (steps_after (f c) turn_scope a (suc n)) (fault_in (go_on vars1 s1).node) (grows_block (f c) turn_scope a (suc n)) (later' vars1 s1))
              o w (value c refs m vs ws vars l at position e o.server)
              (worth c refs m vs ws vars l at e (kind.RowsOf q.item) r typed' stands.noted.0 stands.formed.0 (within_left (constants vs e) (used_in (f c) turn_scope a) c.inputs used') position o holds) far))

          -- a carried loop stands at its position
          carried_here : placed_form (f c) vs loop ≡ PlacedForm.CarriedLoop → is_carried_at c.p position ≡ true
          carried_here form =
              let st = stmt_site around vs loop in
              c.marks.loops st (stands.within st (stmt_first (f c) around vs loop)) ∙ ap (λ t. t && is_carried_form (placed_form (f c) vs loop)) stands.script ∙ ap is_carried_form form

          carried : (over_rows (f c) e ≡ false) × (may_carry (f c) vs e a ≡ true) → Within (name_of e ++ used_in (f c) turn_scope a) c.inputs
              → let ran = run_steps c.ground (MoreSteps (script.Over n position m (list_number refs e) sa) rest) vars o.server kr in
              Goes c refs (vars_after (f c) turn_scope a (suc m)) vs ws after (handle (h c) (performs (code c) c.gas loop l) o) ran
              (replay.replay c.p.classes c.gas (parts.over c.p refs n position name e pa) at_client_here (at_node c o ran) ke) go_on ke
          carried both used' =
              let st = stmt_site around vs loop in
              let list = (and_parts (is_constant_list vs e) (block_holds (f c) a) both.1).0 in
              let typed' = q.typed ∙ ap Ok (no_rows both.0 q.over) in
              let primitive : is_primitive q.item ≡ true = primitive_items c refs m vs ws vars l at e q.item list typed' in
              let known = c.turns (d c) vs ws at.known position name (kind.ListOf q.item) q.item (inl refl) (c.types c.p c.fits.declared (place c ws) c.near at.known.kinds e (kind.ListOf q.item) typed') in
              let ran = run_steps c.ground (MoreSteps (script.Over n position m (list_number refs e) sa) rest) vars o.server kr in
              let turns_far : has_far_turns (f c) vs e a ≡ true = ap (λ t. t || may_carry (f c) vs e a) both.0 ∙ both.1 in
              let inside = within_right (name_of e) (used_in (f c) turn_scope a) c.inputs used' in
              let form = ap (λ t. cond t PlacedForm.RowsLoop (cond (may_carry (f c) vs e a) PlacedForm.CarriedLoop PlacedForm.Plain)) both.0 ∙ ap (λ t. cond t PlacedForm.CarriedLoop PlacedForm.Plain) both.1 in
              subst (λ i. Goes c refs m2 vs ws i (handle (h c) (performs (code c) c.gas loop l) o) ran (replay.replay c.p.classes c.gas (parts.over c.p refs n position name e pa) at_client_here (at_node c o ran) ke) go_on ke) q.same
              (subst (λ i. Goes c refs m2 vs ws ws i ran (replay.replay c.p.classes c.gas (parts.over c.p refs n position name e pa) at_client_here (at_node c o ran) ke) go_on ke)
              (sym (handle_seq (h c) (evaluates (code c) e l) (on (λ v l1. turns position name (out-Value v) (performs_all (code c) c.gas a) l1)) o))
              (over_goes c refs m vs ws vars n m2 position (suc_le m m2 (vars_grow (f c) turn_scope a (suc m))) (carried_here form) (c.marks.stmts st (stands.within st (stmt_first (f c) around vs loop))) go_on ke name q.item primitive
              a sa pa q.last (stmts_extends (x c) a turn_typed q.last q.block_typed)
              (record {
                goes = λ item l1 o1 fits at1 holds1.
                    each turns_far inside ((m, item) ∷ vars) (bound name item l1) o1 (at_bound c refs m vs ws vars l1 at1 name Role.Row position q.item item refl (primitive_far (is c) q.item primitive) q.free fits known) holds1;
                over = turn_over;
              })
              l at e list typed' stands.formed.0 (within_left (name_of e) (used_in (f c) turn_scope a) c.inputs used') o holds))

          by : (form : PlacedForm) → Tells (f c) vs form loop → AllLater (step_after_as (f c) form vs loop n) go_on → Within (used_as (f c) form vs loop) c.inputs
              → let ran = run_steps c.ground (steps_as c.p form refs vs n m loop rest) vars o.server kr in
              Goes c (refs_after_as c.p form refs m loop) (var_after_as (f c) form vs loop m) vs ws after (handle (h c) (performs (code c) c.gas loop l) o) ran
              (replay.replay c.p.classes c.gas (parts.part_as c.p form refs vs n m loop) at_client_here (at_node c o ran) ke) go_on ke
          by PlacedForm.RowsLoop rows later' used' = turned rows later' used'
          by PlacedForm.CarriedLoop both later' used' = carried both used'
          by PlacedForm.Plain apart later' used' = plain_goes c around vs ws after loop stands refs m vars l at (ap (λ t. t || may_carry (f c) vs e a) apart.0 ∙ apart.1) n rest kr ke o holds
          by form other later' used' = absurd other

  -- ---- statements in order

  module _ (around : List Around) (vs : Scope) (ws after : typed.Scope) (s : Stmt) (rest : Stmts) (stands : AllStand c around vs ws after (MoreStmts s rest)) where
    abbrev middle : typed.Scope
    middle = (stmts_parts (x c) ws s rest after stands.typed).middle

    abbrev next_scope : Scope
    next_scope = scope_after (f c) [] vs s

    pub head_stands : Stands c around vs ws middle s
    head_stands = record {
      script = stands.script;
      typed = (stmts_parts (x c) ws s rest after stands.typed).typed;
      formed = stands.formed.0;
      noted = stands.noted.0;
      admitted = stands.admitted.0;
      within = within_left (sites (f c) around vs s) (block_sites (f c) around (scope_after (f c) around vs s) rest) (ss c) stands.within;
      used = within_left (used (f c) vs s) (used_in (f c) next_scope rest) c.inputs stands.used;
      writes = written_left (written c) (assigned_by s) (assigned_in rest) stands.writes;
    }

    pub tail_stands : AllStand c around next_scope middle after rest
    tail_stands =
        let q = stmts_parts (x c) ws s rest after stands.typed in
        let same : scope_or ws (check_stmt (x c) ws s) ≡ middle = ap (scope_or ws) q.typed in
        record {
          script = stands.script;
          typed = q.rest;
          formed = stands.formed.1;
          noted = subst (λ i. AreNotedStmts (type_at c.p) (x c) i rest) same stands.noted.1;
          admitted = subst (λ i. AreAdmittedStmts (x c) i rest) same stands.admitted.1;
          within = subst (λ i. Within (block_sites (f c) around i rest) (ss c)) (script_scope (f c) around vs s stands.script)
              (within_right (sites (f c) around vs s) (block_sites (f c) around (scope_after (f c) around vs s) rest) (ss c) stands.within);
          used = within_right (used (f c) vs s) (used_in (f c) next_scope rest) c.inputs stands.used;
          writes = written_right (written c) (assigned_by s) (assigned_in rest) stands.writes;
        }

    -- a statement, and the block behind it
    pub more_goes : (refs : Refs) (m n : ℕ)
        → ((vars : Vars) (l : Local) (o : Outside) → At c refs m vs ws vars l → Holds c o
        → StmtGoes c vs ws middle s refs m vars l n (block_steps c.p (refs_after c.p refs m vs s) next_scope (step_after (f c) vs s n) (var_after (f c) vs s m) rest) run.ended
        (λ l1 s1. replay.replay_all c.p.classes c.gas (parts.block_parts c.p (refs_after c.p refs m vs s) next_scope (step_after (f c) vs s n) (var_after (f c) vs s m) rest) l1 s1 replay.ended) o)
        → BlockHere next_scope middle after rest (refs_after c.p refs m vs s) (var_after (f c) vs s m) (step_after (f c) vs s n)
        → BlockHere vs ws after (MoreStmts s rest) refs m n
    more_goes refs m n first more vars l o at holds =
        subst (λ w. BlockGoes c ws after w ran (replay.replay_all c.p.classes c.gas (parts.block_parts c.p refs vs n m (MoreStmts s rest)) (at_client (x c) ws l) (at_node c o ran) replay.ended))
        (sym (handle_seq (h c) (performs (code c) c.gas s l) (on (λ u l1. performs_all (code c) c.gas rest l1)) o))
        (by (handle (h c) (performs (code c) c.gas s l) o) _ (first vars l o at holds))
      where
        steps_rest : Steps
        steps_rest = block_steps c.p (refs_after c.p refs m vs s) next_scope (step_after (f c) vs s n) (var_after (f c) vs s m) rest

        ran : Ran
        ran = run_steps c.ground (block_steps c.p refs vs n m (MoreStmts s rest)) vars o.server run.ended

        go : Onward
        go vars1 s1 = run_steps c.ground steps_rest vars1 s1 run.ended

        ke : replay.Rest
        ke l1 s1 = replay.replay_all c.p.classes c.gas (parts.block_parts c.p (refs_after c.p refs m vs s) next_scope (step_after (f c) vs s n) (var_after (f c) vs s m) rest) l1 s1 replay.ended

        by : (w : Outcome (Unit {0}) × Outside) (rep : replay.Replayed) → Goes c (refs_after c.p refs m vs s) (var_after (f c) vs s m) next_scope ws middle w ran rep go ke
            → BlockGoes c ws after (handle (h c) (on (λ u l1. performs_all (code c) c.gas rest l1) w.0) w.1) ran rep
        by (Gave u l1, s1) rep t =
            let inner = go t.vars s1.server in
            subst (λ q. BlockGoes c ws after (handle (h c) (performs_all (code c) c.gas rest l1) s1) ran q) (sym t.replayed)
            (block_same c ws after (handle (h c) (performs_all (code c) c.gas rest l1) s1) inner ran (ke (at_client (x c) middle l1) (at_node c s1 inner)) t.fault t.server
            (block_less c ws middle after (stmt_extends (x c) s ws middle (stmts_parts (x c) ws s rest after stands.typed).typed) (handle (h c) (performs_all (code c) c.gas rest l1) s1) inner (ke (at_client (x c) middle l1) (at_node c s1 inner))
            (more t.vars l1 s1 t.at t.holds)))
        by (Faulted r l1, s1) rep t = t

  mutual
    pub stmt_goes : (s : Stmt) (around : List Around) (vs : Scope) (ws after : typed.Scope) → Stands c around vs ws after s → (refs : Refs) (m n : ℕ) (vars : Vars) (l : Local) (o : Outside) → At c refs m vs ws vars l → Holds c o
        → (rest : Steps) (kr : Onward) (ke : replay.Rest) → AllLater (step_after (f c) vs s n) (λ vars1 s1. run_steps c.ground rest vars1 s1 kr) → StmtGoes c vs ws after s refs m vars l n rest kr ke o
    stmt_goes (Val place name e) around vs ws after stands refs m n vars l o at holds rest kr ke later = val_goes c around vs ws after refs m vars l at n rest kr ke o holds place name e stands later
    stmt_goes (RunStmt place e) around vs ws after stands refs m n vars l o at holds rest kr ke later = run_goes c around vs ws after refs m vars l at n rest kr ke o holds place e stands later
    stmt_goes (If place e a b) around vs ws after stands refs m n vars l o at holds rest kr ke later =
        let q = if_parts (x c) ws place e a b after stands.typed in
        choice_goes around vs ws after place e a b stands refs m vars l at n rest kr ke o holds
        (λ holding. block_goes a (Branch place vs e a b ∷ around) vs ws q.first (first_stands around vs ws after place e a b stands holding) refs m (suc n))
        (λ holding. block_goes b (Branch place vs e a b ∷ around) vs ws q.second (second_stands around vs ws after place e a b stands holding) refs (vars_after (f c) vs a m) (steps_after (f c) vs a (suc n)))
    stmt_goes (For place name e a) around vs ws after stands refs m n vars l o at holds rest kr ke later =
        let q = for_parts (x c) ws place name e a after stands.typed in
        loop_goes around vs ws after place name e a stands refs m vars l at n rest kr ke o holds later
        (λ far inside. block_goes a (Turn place vs e a ∷ around) (with_variable vs name Role.Row place) (typed.with_variable ws name q.item true) q.last (turn_stands around vs ws after place name e a stands far inside) (with_var refs name m) (suc m) (suc n))
    stmt_goes (Var place name e) around vs ws after stands refs m n vars l o at holds rest kr ke later = plain_goes c around vs ws after (Var place name e) stands refs m vars l at tt n rest kr ke o holds
    stmt_goes (Assign place a b) around vs ws after stands refs m n vars l o at holds rest kr ke later = plain_goes c around vs ws after (Assign place a b) stands refs m vars l at tt n rest kr ke o holds
    stmt_goes (Print place e) around vs ws after stands refs m n vars l o at holds rest kr ke later = plain_goes c around vs ws after (Print place e) stands refs m vars l at tt n rest kr ke o holds
    stmt_goes (Throw place e) around vs ws after stands refs m n vars l o at holds rest kr ke later = plain_goes c around vs ws after (Throw place e) stands refs m vars l at tt n rest kr ke o holds
    stmt_goes (While place e a) around vs ws after stands refs m n vars l o at holds rest kr ke later = plain_goes c around vs ws after (While place e a) stands refs m vars l at tt n rest kr ke o holds
    stmt_goes (Try place a name b) around vs ws after stands refs m n vars l o at holds rest kr ke later = plain_goes c around vs ws after (Try place a name b) stands refs m vars l at tt n rest kr ke o holds
    stmt_goes (Batch place interface root a) around vs ws after stands refs m n vars l o at holds rest kr ke later = absurd stands.admitted

    pub block_goes : (b : Stmts) (around : List Around) (vs : Scope) (ws after : typed.Scope) → AllStand c around vs ws after b → (refs : Refs) (m n : ℕ) → BlockHere vs ws after b refs m n
    block_goes NoStmts around vs ws after stands refs m n vars l o at holds =
        let same : ws ≡ after = cc (stands.typed) in
        subst (λ i. Done c i l o (run.ended vars o.server) (replay.ended (at_client (x c) ws l) (at_node c o (run.ended vars o.server)))) same
        (record { fits = at.fits; holds = holds; fault = refl; server = refl; outcome = refl; events = refl })
    block_goes (MoreStmts s rest) around vs ws after stands refs m n vars l o at holds =
        let q = stmts_parts (x c) ws s rest after stands.typed in
        let next_refs = refs_after c.p refs m vs s in
        let next_vs = scope_after (f c) [] vs s in
        let steps_rest = block_steps c.p next_refs next_vs (step_after (f c) vs s n) (var_after (f c) vs s m) rest in
        more_goes around vs ws after s rest stands refs m n
        (λ vars' l' o' at' holds'. stmt_goes s around vs ws q.middle (head_stands around vs ws after s rest stands) refs m n vars' l' o' at' holds' steps_rest run.ended
        (λ l1 s1. replay.replay_all c.p.classes c.gas (parts.block_parts c.p next_refs next_vs (step_after (f c) vs s n) (var_after (f c) vs s m) rest) l1 s1 replay.ended)
        (later_block c.p c.ground next_refs next_vs rest (step_after (f c) vs s n) (var_after (f c) vs s m) run.ended (λ vars1 s1. tt)))
        (block_goes rest around next_vs q.middle after (tail_stands around vs ws after s rest stands) next_refs (var_after (f c) vs s m) (step_after (f c) vs s n)) vars l o at holds
