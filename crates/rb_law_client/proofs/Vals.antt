-- A val and an expression alone at a script place, carried or not.
use Rattle.std.proofs.Common.{◌≡◌, refl, sym, ap, ◌∙◌, subst, ℕ, suc, List, [], ◌∷◌, ◌++◌, Bool as Truth, true, false, cond, ◌&&◌, Ok}
use Rattle.std.specs.List.{Contains, flat_map}
use Rattle.std.proofs.lemmas.Bool.{and_parts}
use Rattle.std.proofs.lemmas.List.Elements.{Contains-append_left}
use Rattle.rb_trees.specs.declared.values.Value.{Value}
use Rattle.rb_trees.specs.declared.outcomes.Raised.{Raised}
use Rattle.rb_trees.specs.mirror.Code.{Expr, expr_at, Stmt, Val, Run as RunStmt}
use Rattle.rb_trees.specs.mirror.Remainders as part
use Rattle.rb_trees.specs.mirror.Scripts as script
use Rattle.rb_trees.specs.mirror.Scripts.{Steps, MoreSteps}
use Rattle.rb_meaning_types.specs.Kinds.{Kind, is_primitive}
use Rattle.rb_meaning_types.specs.Scopes as typed
use Rattle.rb_meaning_types.specs.Expressions.{type_of}
use Rattle.rb_meaning_types.specs.Notes.{type_at}
use Rattle.rb_meaning_code.specs.State.{Local, bound}
use Rattle.rb_meaning_code.specs.Dialogue.{Outcome, Gave, Faulted, handle, on}
use Rattle.rb_meaning_code.specs.Expressions.{evaluates}
use Rattle.rb_meaning_code.specs.Statements.{nothing, performs}
use Rattle.rb_meaning_code.specs.Remote.{Reply}
use Rattle.rb_meaning_code.specs.ScriptRun.{Vars, run_steps}
use Rattle.rb_meaning_flow.specs.declared.forms.PlacedForm.{PlacedForm}
use Rattle.rb_meaning_flow.specs.declared.scopes.Role.{Role}
use Rattle.rb_meaning_flow.specs.Scopes.{Scope, with_variable}
use Rattle.rb_meaning_flow.specs.Portable.{portable, holds_call}
use Rattle.rb_meaning_flow.specs.Marks.{is_portable_call}
use Rattle.rb_meaning_flow.specs.Forms.{placed_form}
use Rattle.rb_meaning_flow.specs.Sites.{Around, stmt_site, scope_after}
use Rattle.rb_meaning.specs.State.{Outside}
use Rattle.rb_meaning_types.specs.CallKinds.{call_kind}
use Rattle.rb_meaning.specs.RemoteExprs.{remote_in, remote_of}
use Rattle.rb_meaning_split.specs.Refs.{Refs, with_var, sexpr}
use Rattle.rb_meaning_split.specs.Inputs.{constants, used_as}
use Rattle.rb_meaning_split.specs.Cuts.{counted, cut}
use Rattle.rb_meaning_split.specs.Numbers.{step_after_as, step_after, var_after_as, var_after}
use Rattle.rb_meaning_split.specs.Steps.{refs_after_as, refs_after, keeps_val, steps_as, steps}
use Rattle.rb_meaning_split.specs.Parts as parts
use Rattle.rb_meaning_split.specs.Replay as replay
use Rattle.rb_law_types.specs.Own.{IsFarKind}
use Rattle.rb_law_types.proofs.Known.{typed_known}
use Rattle.rb_law_types.proofs.Parts.{val_parts, run_parts}
use Rattle.rb_law_types.proofs.TypeFacts.{kind_here, primitive_fact}
use Rattle.rb_law_types.proofs.SitesWithin.{Within, within_left, first_among}
use Rattle.rb_flow.proofs.Members.{first_contained}
use Rattle.rb_law_script.proofs.Forms.{Tells, told}
use Rattle.rb_law_script.proofs.NoUnit.{NoUnit}
use Rattle.rb_law_script.proofs.Later.{AllLater}
use Rattle.rb_law_script.proofs.Walk.{one_remote}
use Rattle.rb_law_local.specs.Shown.{at_client, SameNames, FellSame}
use Rattle.rb_law_local.specs.Local.{HoldsTable, IsLocalAt, Stand}
use Rattle.rb_law_local.specs.Admitted.{AreKnownScopes}
use Rattle.rb_law_local.specs.Parted.{IsNear}
use Rattle.rb_law_local.specs.Meets.{Meets}
use Rattle.rb_law_local.specs.Wanted.{AllWanted}
use Rattle.rb_law_local.proofs.Meeting.{handle_seq}
use Rattle.rb_law_local.proofs.Admitting.{if_name, quiet_parted}
use Rattle.rb_law_local.proofs.Marked.{quiet_placed}
use Rattle.rb_law_local.proofs.Uncut.{nothing_taken, not_cut}
use Rattle.rb_law_division.specs.Faults.{EachFault, IsRemote, sent_of}
use Rattle.rb_law_client.proofs.Calm.{value_calm}
use Rattle.rb_law_client.proofs.Scene.{Scene, d, is, f, ss, x, place, h, code, Holds, admitted, At, Stands, known_after}
use Rattle.rb_law_client.proofs.Goes.{Onward, Goes, at_node, sent_faults, plain_goes}
use Rattle.rb_law_client.proofs.Worth.{value, Worth, worth, far_here, closed_here, never_falls, primitive_near}
use Rattle.rb_law_client.proofs.Carried.{done_goes, bind_goes, pass_goes, Twice, both_goes}

-- How a statement at a script place goes on, before what follows it in the script and in the replay.
abbrev pub StmtGoes : (c : Scene) → (vs : Scope) (ws after : typed.Scope) (s : Stmt) (refs : Refs) (m : ℕ) (vars : Vars) (l : Local) (n : ℕ) (rest : Steps) (kr : Onward) (ke : replay.Rest) → Outside → Type 0
StmtGoes c vs ws after s refs m vars l n rest kr ke o =
    let ran = run_steps c.ground (steps c.p refs vs n m s rest) vars o.server kr in
    Goes c (refs_after c.p refs m vs s) (var_after (f c) vs s m) (scope_after (f c) [] vs s) ws after (handle (h c) (performs (code c) c.gas s l) o) ran
    (replay.replay c.p.classes c.gas (parts.part c.p refs vs n m s) (at_client (x c) ws l) (at_node c o ran) ke) (λ vars1 s1. run_steps c.ground rest vars1 s1 kr) ke

none_faults : {A : Type 0} (P : Raised → Type 0) (o : Outcome A) → EachFault (λ r. ⊥) o → EachFault P o
none_faults P (Gave a l) h = tt
none_faults P (Faulted r l) h = absurd h

module _ (c : Scene) (around : List Around) (vs : Scope) (ws after : typed.Scope) (refs : Refs) (m : ℕ) (vars : Vars) (l : Local) (at : At c refs m vs ws vars l) (n : ℕ) (rest : Steps) (kr : Onward) (ke : replay.Rest) (o : Outside) (holds : Holds c o) where
  abbrev go : Onward
  go vars1 s1 = run_steps c.ground rest vars1 s1 kr

  abbrev client : Local
  client = at_client (x c) ws l

  -- a remote expression as a whole is sent
  one_sent : (s : Stmt) (e : Expr) → remote_of (f c) vs s ≡ remote_in (f c) vs e ++ [] → is_portable_call (f c) vs e ≡ true → Contains (sent_of (f c) (stmt_site around vs s)) e
  one_sent s e same whole =
      Contains-append_left (remote_of (f c) vs s) _ e (subst (λ es. Contains es e) (sym (same ∙ ap (λ es. es ++ []) (one_remote (f c) vs e whole))) (first_contained e []))

  module _ (position : ℕ) (name : List ℕ) (e : Expr) (stands : Stands c around vs ws after (Val position name e)) where
    abbrev s : Stmt
    s = Val position name e

    -- a carried val without a remote call does the same at the client
    twice : (k : Kind) (far : IsFarKind (is c) k) (free : typed.is_free ws name ≡ true) (known : AreKnownScopes (d c) (with_variable vs name Role.Carried position) (typed.with_variable ws name k true)) → type_of (x c) ws e ≡ Ok k → is_primitive k ≡ true → holds_call (f c) e ≡ false
        → Twice c refs m vs ws vars l at n go ke o position name k far free known e (handle (h c) (evaluates (code c) e l) o)
    twice k far free known t primitive none ran =
        let here : Stand = record { place = place c ws; scope = vs; ground = c.ground; refs = refs; vars = vars; gas = c.gas } in
        let among = first_among (f c) (ss c) around vs s e [] refl stands.within in
        let empty = nothing_taken (f c) vs e none in
        let near : IsNear (f c) vs (x c) ws e = λ k' t'. let same : k ≡ k' = cc (sym t ∙ t') in primitive_near (d c) k' (subst (λ q. is_primitive q ≡ true) same primitive) in
        let meets = (c.local c.p c.service c.fits here c.near).values e k n l
        (record {
          typed = (t, stands.formed);
          noted = (stands.noted, stands.admitted);
          parted = quiet_parted c.p c.this c.remote (typed_known (d c) c.fits.declared) c.near (ss c) (admitted c) vs ws (stmt_site around vs s) [] e among stands.noted none (if_name (f c) vs (x c) ws e near);
          placed = quiet_placed c.p (ss c) (admitted c) c.marks (is_portable_call (f c) vs) (stmt_site around vs s) [] e among (refl, refl) none;
        })
        at.fits (subst (AllWanted c.p c.service c.ground refs vars (HoldsTable c.service) (x c) ws l.names) (sym empty) tt) in
        let whole = subst (λ es. Meets c.p c.service c.ground refs vars c.gas (HoldsTable c.service) (IsLocalAt c.p) (SameNames (x c) ws l.names) (FellSame (x c) ws l.names) es n (evaluates (code c) e l) (evaluates (code c) (cut (f c) vs n e) client)) empty meets in
        let uncut = subst (λ q. Meets c.p c.service c.ground refs vars c.gas (HoldsTable c.service) (IsLocalAt c.p) (SameNames (x c) ws l.names) (FellSame (x c) ws l.names) [] n (evaluates (code c) e l) (evaluates (code c) q client)) (not_cut (f c) vs n e none) whole in
        uncut.met o.events o.server (λ vars1 s1. ran) holds

    -- a fault of what is sent is remote
    call_far : (k : Kind) → type_of (x c) ws e ≡ Ok k → portable (f c) vs e ≡ true → holds_call (f c) e ≡ true → EachFault (IsRemote c.p) (handle (h c) (evaluates (code c) e l) o).0
    call_far k t r call =
        sent_faults c around vs ws after s stands e (one_sent s e refl (ap (λ b. b && holds_call (f c) e) r ∙ call)) r (place c ws) k (t, stands.formed) stands.noted l at.fits o holds

    used_carried : portable (f c) vs e ≡ true → Within (constants vs e) c.inputs
    used_carried r = subst (λ b. Within (used_as (f c) (cond b PlacedForm.CarriedVal PlacedForm.Plain) vs s) c.inputs) r stands.used

    abbrev CarriedGoes : Kind → Truth → part.Part → Type 0
    CarriedGoes k keep p =
        let ran = run_steps c.ground (MoreSteps (script.Let n position m keep (sexpr c.p refs e)) rest) vars o.server kr in
        Goes c (with_var refs name m) (suc m) (with_variable vs name Role.Carried position) ws (typed.with_variable ws name k true)
        (handle (h c) (on (λ v l1. nothing (bound name v l1)) (handle (h c) (evaluates (code c) e l) o).0) (handle (h c) (evaluates (code c) e l) o).1) ran
        (replay.replay c.p.classes c.gas p client (at_node c o ran) ke) go ke

    -- by whether it holds a call, and is primitive
    cases : portable (f c) vs e ≡ true → (k : Kind) → IsFarKind (is c) k → typed.is_free ws name ≡ true → AreKnownScopes (d c) (with_variable vs name Role.Carried position) (typed.with_variable ws name k true) → type_of (x c) ws e ≡ Ok k → NoUnit k
        → (f c).primitive (expr_at e) ≡ is_primitive k → Worth c refs m vs ws vars l at k o (handle (h c) (evaluates (code c) e l) o) (value c refs m vs ws vars l at position e o.server) → AllLater (suc n) go
        → (call primitive : Truth) → holds_call (f c) e ≡ call → (f c).primitive (expr_at e) ≡ primitive
        → CarriedGoes k (keeps_val c.p e) (parts.carried c.p n position name e)
    cases r k far free known t unit fact ends later call primitive h1 h2 =
        subst (λ b. CarriedGoes k (b && (f c).primitive (expr_at e)) (cond ((f c).primitive (expr_at e)) (cond b (part.Bind n name (call_kind c.p (expr_at e))) (part.Both n position name e)) (part.Pass n))) (sym h1)
        (subst (λ b. CarriedGoes k (call && b) (cond b (cond call (part.Bind n name (call_kind c.p (expr_at e))) (part.Both n position name e)) (part.Pass n))) (sym h2) (by call primitive h1 (sym fact ∙ h2)))
      where
        w : Outcome Value × Outside
        w = handle (h c) (evaluates (code c) e l) o

        reply : Reply Value
        reply = value c refs m vs ws vars l at position e o.server

        by : (call' primitive' : Truth) → holds_call (f c) e ≡ call' → is_primitive k ≡ primitive' → CarriedGoes k (call' && primitive') (cond primitive' (cond call' (part.Bind n name (call_kind c.p (expr_at e))) (part.Both n position name e)) (part.Pass n))
        by true true g1 g2 = bind_goes c refs m vs ws vars l at n go ke o position name k far free known (call_kind c.p (expr_at e)) g2 w reply ends (call_far k t r g1)
        by false true g1 g2 = both_goes c refs m vs ws vars l at n go ke o position name k far free known e g2 w reply ends (twice k far free known t g2 g1) ((value_calm (h c) (code c) (f c) vs e r g1 l).calm o) later
        by true false g1 g2 = pass_goes c refs m vs ws vars l at n go ke o position name k far free known g2 unit w reply ends (call_far k t r g1) later
        by false false g1 g2 =
            pass_goes c refs m vs ws vars l at n go ke o position name k far free known g2 unit w reply ends
            (none_faults (IsRemote c.p) w.0 (never_falls c refs m vs ws vars l at e k r g1 t far unit g2 (closed_here c refs m vs ws vars l at e r stands.formed (used_carried r)) o)) later

    pub val_goes : AllLater (step_after (f c) vs s n) go → StmtGoes c vs ws after s refs m vars l n rest kr ke o
    val_goes later = by (placed_form (f c) vs s) (told (f c) vs s) later
      where
        carried : portable (f c) vs e ≡ true → AllLater (suc n) go
            → let ran = run_steps c.ground (MoreSteps (script.Let n position m (keeps_val c.p e) (sexpr c.p refs e)) rest) vars o.server kr in
            Goes c (with_var refs name m) (suc m) (with_variable vs name Role.Carried position) ws after (handle (h c) (performs (code c) c.gas s l) o) ran
            (replay.replay c.p.classes c.gas (parts.carried c.p n position name e) client (at_node c o ran) ke) go ke
        carried r later' =
            let q = val_parts (x c) ws position name e after stands.typed in
            let far = far_here c refs m vs ws vars l at e q.kind r q.typed stands.noted stands.formed in
            let known : AreKnownScopes (d c) (with_variable vs name Role.Carried position) (typed.with_variable ws name q.kind true) =
            subst (λ b. AreKnownScopes (d c) (with_variable vs name (cond b Role.Carried Role.Plain) position) (typed.with_variable ws name q.kind true)) r
            (subst (λ i. AreKnownScopes (d c) (scope_after (f c) [] vs s) i) (sym q.same) (known_after c around vs ws after s stands refs m vars l at)) in
            let w = handle (h c) (evaluates (code c) e l) o in
            let reply = value c refs m vs ws vars l at position e o.server in
            let ends = worth c refs m vs ws vars l at e q.kind r q.typed stands.noted stands.formed (used_carried r) position o holds in
            let fact = primitive_fact c.p (expr_at e) q.kind (kind_here (type_at c.p) (x c) ws e q.kind stands.noted q.typed) in
            let ran = run_steps c.ground (MoreSteps (script.Let n position m (keeps_val c.p e) (sexpr c.p refs e)) rest) vars o.server kr in
            subst (λ i. Goes c (with_var refs name m) (suc m) (with_variable vs name Role.Carried position) ws i (handle (h c) (performs (code c) c.gas s l) o) ran (replay.replay c.p.classes c.gas (parts.carried c.p n position name e) client (at_node c o ran) ke) go ke) q.same
            (subst (λ i. Goes c (with_var refs name m) (suc m) (with_variable vs name Role.Carried position) ws (typed.with_variable ws name q.kind true) i ran (replay.replay c.p.classes c.gas (parts.carried c.p n position name e) client (at_node c o ran) ke) go ke)
            (sym (handle_seq (h c) (evaluates (code c) e l) (on (λ v l1. nothing (bound name v l1))) o))
            (cases r q.kind far q.free known q.typed q.no_unit fact ends later' (holds_call (f c) e) ((f c).primitive (expr_at e)) refl refl))

        by : (form : PlacedForm) → Tells (f c) vs form s → AllLater (step_after_as (f c) form vs s n) go
            → let ran = run_steps c.ground (steps_as c.p form refs vs n m s rest) vars o.server kr in
            Goes c (refs_after_as c.p form refs m s) (var_after_as (f c) form vs s m) (scope_after (f c) [] vs s) ws after (handle (h c) (performs (code c) c.gas s l) o) ran
            (replay.replay c.p.classes c.gas (parts.part_as c.p form refs vs n m s) client (at_node c o ran) ke) go ke
        by PlacedForm.CarriedVal r later' =
            let ran = run_steps c.ground (MoreSteps (script.Let n position m (keeps_val c.p e) (sexpr c.p refs e)) rest) vars o.server kr in
            subst (λ b. Goes c (with_var refs name m) (suc m) (with_variable vs name (cond b Role.Carried Role.Plain) position) ws after (handle (h c) (performs (code c) c.gas s l) o) ran
            (replay.replay c.p.classes c.gas (parts.carried c.p n position name e) client (at_node c o ran) ke) go ke) (sym r) (carried r later')
        by PlacedForm.Plain r later' = plain_goes c around vs ws after s stands refs m vars l at r n rest kr ke o holds
        by form other later' = absurd other

  module _ (position : ℕ) (e : Expr) (stands : Stands c around vs ws after (RunStmt position e)) where
    abbrev alone : Stmt
    alone = RunStmt position e

    pub run_goes : AllLater (step_after (f c) vs alone n) go → StmtGoes c vs ws after alone refs m vars l n rest kr ke o
    run_goes later = by (placed_form (f c) vs alone) (told (f c) vs alone) later stands.used
      where
        by : (form : PlacedForm) → Tells (f c) vs form alone → AllLater (step_after_as (f c) form vs alone n) go → Within (used_as (f c) form vs alone) c.inputs
            → let ran = run_steps c.ground (steps_as c.p form refs vs n m alone rest) vars o.server kr in
            Goes c (refs_after_as c.p form refs m alone) (var_after_as (f c) form vs alone m) vs ws after (handle (h c) (performs (code c) c.gas alone l) o) ran
            (replay.replay c.p.classes c.gas (parts.part_as c.p form refs vs n m alone) client (at_node c o ran) ke) go ke
        by PlacedForm.CallAlone whole later' used =
            let q = run_parts (x c) ws position e after stands.typed in
            let r = (and_parts (portable (f c) vs e) (holds_call (f c) e) whole).0 in
            let list : remote_of (f c) vs alone ≡ e ∷ [] = ap (λ es. es ++ []) (one_remote (f c) vs e whole) in
            let used' = subst (λ es. Within (flat_map (constants vs) es) c.inputs) list used in
            let w = handle (h c) (evaluates (code c) e l) o in
            let reply = value c refs m vs ws vars l at position e o.server in
            let ran = run_steps c.ground (MoreSteps (script.Do n position (sexpr c.p refs e)) rest) vars o.server kr in
            subst (λ i. Goes c refs m vs ws i (handle (h c) (performs (code c) c.gas alone l) o) ran (replay.replay c.p.classes c.gas (part.Pass n) client (at_node c o ran) ke) go ke) q.same
            (subst (λ i. Goes c refs m vs ws ws i ran (replay.replay c.p.classes c.gas (part.Pass n) client (at_node c o ran) ke) go ke) (sym (handle_seq (h c) (evaluates (code c) e l) (on (λ v l1. nothing l1)) o))
            (done_goes c refs m vs ws vars l at n go ke o q.kind w reply
            (worth c refs m vs ws vars l at e q.kind r q.typed stands.noted stands.formed (within_left (constants vs e) [] c.inputs used') position o holds)
            (sent_faults c around vs ws after alone stands e (one_sent alone e refl whole) r (place c ws) q.kind (q.typed, stands.formed) stands.noted l at.fits o holds)
            (subst (λ es. AllLater (counted es n) go) list later')))
        by PlacedForm.Plain whole later' used = plain_goes c around vs ws after alone stands refs m vars l at whole n rest kr ke o holds
        by form other later' used = absurd other
