-- How the code of a batch, its script and its replay go on together; and those of a statement that stays with the client.
use Rattle.std.proofs.Common.{◌≡◌, inl, inr, refl, sym, ap, ◌∙◌, subst, ℕ, suc, List, [], ◌∷◌, true, false, cond, ◌||◌, Some}
use Rattle.std.specs.List.{AllByRecursion, Contains, flat_map}
use Rattle.std.proofs.lemmas.List.Elements.{Contains-append_left}
use Rattle.rb_trees.specs.declared.outcomes.Raised.{Raised}
use Rattle.rb_trees.specs.mirror.Code.{Expr, expr_at, Stmt, Val, Run as RunStmt, If, For}
use Rattle.rb_trees.specs.mirror.Forests as forest
use Rattle.rb_trees.specs.mirror.Scripts.{Steps, NoSteps}
use Rattle.rb_meaning_types.specs.Kinds.{Kind, is_primitive}
use Rattle.rb_meaning_types.specs.Scopes as typed
use Rattle.rb_meaning_types.specs.Notes.{type_at}
use Rattle.rb_meaning_types.specs.Fits.{classes_of}
use Rattle.rb_meaning_code.specs.State.{Local}
use Rattle.rb_meaning_code.specs.Dialogue.{Outcome, Gave, Faulted, handle}
use Rattle.rb_meaning_code.specs.Expressions.{evaluates}
use Rattle.rb_meaning_code.specs.Statements.{performs}
use Rattle.rb_meaning_code.specs.Remote.{Server, Reply, Got, Stopped, and_then}
use Rattle.rb_meaning_code.specs.ScriptRun as run
use Rattle.rb_meaning_code.specs.ScriptRun.{Vars, Ran, kept, on_reply, with_entry, run_steps}
use Rattle.rb_meaning_flow.specs.declared.forms.PlacedForm.{PlacedForm}
use Rattle.rb_meaning_flow.specs.Scopes.{Scope}
use Rattle.rb_meaning_flow.specs.Facts.{over_rows}
use Rattle.rb_meaning_flow.specs.Portable.{portable, may_carry}
use Rattle.rb_meaning_flow.specs.Forms.{placed_form}
use Rattle.rb_meaning_flow.specs.Sites.{Around, stmt_site, site, scope_after}
use Rattle.rb_meaning.specs.State.{Outside}
use Rattle.rb_meaning.specs.Unsplit.{stands_remote, with_side}
use Rattle.rb_meaning.specs.RemoteExprs.{remote_of}
use Rattle.rb_meaning.specs.RemotePart as part
use Rattle.rb_meaning_split.specs.Refs.{Refs, sexpr}
use Rattle.rb_meaning_split.specs.Inputs.{constants, used_as, kept_constants}
use Rattle.rb_meaning_split.specs.Steps.{keeps}
use Rattle.rb_meaning_split.specs.Parts as parts
use Rattle.rb_meaning_split.specs.Replay as replay
use Rattle.rb_meaning_split.specs.Replay.{Seen, Replayed}
use Rattle.rb_law_types.specs.Ends.{Place, context, LocalHolds, Ends, Nothing, FitsPlace}
use Rattle.rb_law_types.specs.Formed.{IsFormedExpr}
use Rattle.rb_law_types.specs.Noted.{IsNotedExpr}
use Rattle.rb_law_types.specs.Code.{HasKind}
use Rattle.rb_law_types.proofs.SitesWithin.{Within, within_left, within_right, stmt_first}
use Rattle.rb_law_script.proofs.Values.{value_same}
use Rattle.rb_law_script.proofs.Covered.{closed_of}
use Rattle.rb_law_script.proofs.Forms.{Tells, told}
use Rattle.rb_law_script.proofs.Kept.{kept_sent}
use Rattle.rb_law_script.proofs.Sent.{Sent}
use Rattle.rb_law_local.specs.Shown.{at_client, Fronts, LeftSeen}
use Rattle.rb_law_local.specs.Local.{HoldsTable, IsLocalAt, Stand}
use Rattle.rb_law_local.specs.Admitted.{StaysWhole}
use Rattle.rb_law_local.specs.Meets.{far_side, placed, keeping, FromOne, Met}
use Rattle.rb_law_local.specs.Wanted.{AllWanted}
use Rattle.rb_law_local.proofs.Portable.{local_of}
use Rattle.rb_law_local.proofs.Uncut.{or_none}
use Rattle.rb_law_division.specs.Faults.{EachFault, IsRemote, StandsRemote, sent_of}
use Rattle.rb_law_division.proofs.Lists.{each}
use Rattle.rb_law_client.proofs.Overs.{Onto}
use Rattle.rb_law_client.proofs.Written.{InScript}
use Rattle.rb_law_client.proofs.Scene.{Scene, d, f, ss, x, place, h, code, Holds, admitted, At, Stands, stmt_ends, stmt_leaves, at_after}

-- what follows in the script
abbrev pub Onward : Type 0
Onward = Vars → Server → Ran

-- the script's steps that keep some expressions, before the others
reply_same : {A : Type 0} (id : ℕ) (r : Reply A) (k k' : A → Server → Ran) → ((a : A) (s : Server) → k a s ≡ k' a s) → on_reply id r k ≡ on_reply id r k'
reply_same id (Got a s) k k' e = e a s
reply_same id (Stopped at fault s) k k' e = refl

-- a remote fault keeps its side, and a local one that stands elsewhere
pub side_far : (c : Scene) (r : Raised) → IsRemote c.p r → with_side c.p r ≡ far_side r
side_far c r is_far = ap (λ t. record r { remote = t }) is_far

pub side_near : (c : Scene) (r : Raised) → r.remote ≡ false → stands_remote c.p r.at ≡ false → with_side c.p r ≡ r
side_near c r near here = ap (λ t. record r { remote = t }) (ap (λ t. t || stands_remote c.p r.at) near ∙ here ∙ sym near)

-- replay ends where its code does
pub after_fault : {A : Type 0} (w : Outcome A × Seen) (k : A → replay.Rest) (r : Raised) (l : Local) → w.0 ≡ Faulted r l → replay.after w k ≡ record { outcome = Faulted r l; events = w.1.events }
after_fault (o, s) k r l e = ap (λ q. replay.after (q, s) k) e

module _ (c : Scene) where
  -- Code of a batch ended by a fault. Replay ends by it, with its side, and shows the same; a remote one stopped the
  -- script, at the same position.
  pub record Went (ws : typed.Scope) (r : Raised) (l : Local) (s : Outside) (ran : Ran) (rep : Replayed) : Type 0 where
    pub local : Local
    pub fronts : Fronts (x c) ws l local
    pub state : LocalHolds (x c) ws l
    pub ends : rep.outcome ≡ Faulted (with_side c.p r) local
    pub events : rep.events ≡ s.events
    pub far : (with_side c.p r).remote ≡ true → (ran.fault ≡ Some (placed r)) × (ran.server ≡ s.server)

  -- It went to its end. What follows sees the same in the script and in the replay, at the place behind it.
  pub record Arrived (refs : Refs) (m : ℕ) (vs : Scope) (after : typed.Scope) (l : Local) (s : Outside) (ran : Ran) (rep : Replayed) (kr : Onward) (ke : replay.Rest) : Type 0 where
    pub vars : Vars
    pub at : At c refs m vs after vars l
    pub holds : Holds c s
    pub fault : ran.fault ≡ (kr vars s.server).fault
    pub server : ran.server ≡ (kr vars s.server).server
    pub replayed : rep ≡ ke (at_client (x c) after l) (record { events = s.events; node = (kr vars s.server).node })

  abbrev pub Goes : Refs → ℕ → Scope → (ws after : typed.Scope) → Outcome (Unit {0}) × Outside → Ran → Replayed → Onward → replay.Rest → Type 0
  Goes refs m vs ws after (Gave u l, s) ran rep kr ke = Arrived refs m vs after l s ran rep kr ke
  Goes refs m vs ws after (Faulted r l, s) ran rep kr ke = Went ws r l s ran rep

  -- the client's surroundings when code begins
  abbrev pub at_node : Outside → Ran → Seen
  at_node o ran = record { events = o.events; node = ran.node }

  keeps_rest : (refs : Refs) (es : List Expr) (n : ℕ) (rest : Steps) (vars : Vars) (s : Server) (kr : Onward) → run_steps c.ground (keeps c.p refs n es rest) vars s kr ≡ run_steps c.ground (keeps c.p refs n es NoSteps) vars s (λ vars1 s1. run_steps c.ground rest vars1 s1 kr)
  keeps_rest refs [] n rest vars s kr = refl
  keeps_rest refs (e ∷ es) n rest vars s kr =
      reply_same n (and_then (run.value_of c.ground (expr_at e) vars (sexpr c.p refs e) s) (kept true (expr_at e))) _ _ (λ v s1. ap (with_entry (forest.Value v)) (keeps_rest refs es (suc n) rest vars s1 kr))

  abbrev SentHere : Scope → typed.Scope → Expr → Type 0
  SentHere vs ws e = Sent c.laws.given c.p c.fits.declared c.this c.remote vs ws e

  module _ (around : List Around) (vs : Scope) (ws after : typed.Scope) (s : Stmt) (stands : Stands c around vs ws after s) where
    -- what is sent of a statement stands there
    pub sent_stands : (e : Expr) → Contains (sent_of (f c) (stmt_site around vs s)) e → StandsRemote c.p (stmt_site around vs s) e
    sent_stands e among = c.sent c.p c.batch c.among (stmt_site around vs s) (stands.within (stmt_site around vs s) (stmt_first (f c) around vs s)) e among

    -- and it faults remotely, wherever it is evaluated
    pub sent_faults : (e : Expr) → Contains (sent_of (f c) (stmt_site around vs s)) e → portable (f c) vs e ≡ true → (at : Place) (k : Kind) → HasKind (d c) at e k
        → IsNotedExpr (type_at c.p) (context (d c) at) at.scope e → (l : Local) → FitsPlace (d c) at l → (o : Outside) → Holds c o
        → EachFault (IsRemote c.p) (handle (h c) (evaluates (code c) e l) o).0
    sent_faults e among is_portable at k typed' noted l fits o holds =
        let there = sent_stands e among in
        c.faults (site (stmt_site around vs s) there.above e) at (record { stands = there.stands; remote = there.remote; portable = is_portable; kind = k; typed = typed'.0; noted = noted; formed = typed'.1 }) l fits o holds

    -- a statement that stays with the client has the plain form
    plain_form : StaysWhole (f c) vs s → placed_form (f c) vs s ≡ PlacedForm.Plain
    plain_form = by s
      where
        by : (t : Stmt) → StaysWhole (f c) vs t → placed_form (f c) vs t ≡ PlacedForm.Plain
        by (Val at name e) w = ap (λ b. cond b PlacedForm.CarriedVal PlacedForm.Plain) w
        by (RunStmt at e) w = ap (λ b. cond b PlacedForm.CallAlone PlacedForm.Plain) w
        by (If at e a b) w = ap (λ b. cond b PlacedForm.CarriedIf PlacedForm.Plain) w
        by (For at name e a) w =
            let both = or_none (over_rows (f c) e) (may_carry (f c) vs e a) w in
            ap (λ b. cond b PlacedForm.RowsLoop (cond (may_carry (f c) vs e a) PlacedForm.CarriedLoop PlacedForm.Plain)) both.0 ∙ ap (λ b. cond b PlacedForm.CarriedLoop PlacedForm.Plain) both.1
        by t w = refl

    to_plain : StaysWhole (f c) vs s → Tells (f c) vs PlacedForm.Plain s
    to_plain whole = subst (λ form. Tells (f c) vs form s) (plain_form whole) (told (f c) vs s)

    used_kept : StaysWhole (f c) vs s → Within (kept_constants (f c) vs s) c.inputs
    used_kept whole = subst (λ form. Within (used_as (f c) form vs s) c.inputs) (plain_form whole) stands.used

    module _ (refs : Refs) (m : ℕ) (vars : Vars) (l : Local) (at : At c refs m vs ws vars l) where
      abbrev here : Stand
      here = record { place = place c ws; scope = vs; ground = c.ground; refs = refs; vars = vars; gas = c.gas }

      all_sent : StaysWhole (f c) vs s → AllByRecursion (SentHere vs ws) (remote_of (f c) vs s)
      all_sent whole = kept_sent c.laws.given c.p c.fits.declared c.this c.remote (ss c) c.none c.sends around vs ws at.joined.agree at.joined.opens after s stands.typed stands.noted stands.formed stands.within (to_plain whole)

      -- what a portable expression reads is the same in the script
      pub reads_same : (e : Expr) → portable (f c) vs e ≡ true → IsFormedExpr e → Within (constants vs e) c.inputs → (step : ℕ) (s1 : Server) → run.value_of c.ground step vars (sexpr c.p refs e) s1 ≡ part.value_of c.p c.service e l.names s1
      reads_same e r formed w step s1 = value_same c.p c.service c.ground c.classes refs vars l.names at.linked step e s1 (closed_of (f c) c.inputs refs vs at.joined.covered e r formed w)

      wanted : (es : List Expr) → AllByRecursion (SentHere vs ws) es → Within (flat_map (constants vs) es) c.inputs → AllWanted c.p c.service c.ground refs vars (HoldsTable c.service) (x c) ws l.names es
      wanted [] sent w = tt
      wanted (e ∷ es) sent w =
          let one = sent.0 in (
            record {
              reads = λ step o holds. reads_same e one.sent one.formed (within_left (constants vs e) (flat_map (constants vs) es) c.inputs w) step o.server;
              primitive = λ k t. let same : one.kind ≡ k = cc (sym one.typed_here ∙ t) in subst (λ q. is_primitive q ≡ true) same one.primitive;
            },
            wanted es sent.1 (within_right (constants vs e) (flat_map (constants vs) es) c.inputs w),
          )

      -- a fault of what is kept is remote
      one_remote : (whole : StaysWhole (f c) vs s) (r : Raised) → FromOne c.p c.service c.ground refs vars c.gas (HoldsTable c.service) (IsLocalAt c.p) (remote_of (f c) vs s) r → IsRemote c.p r
      one_remote whole r from =
          subst (EachFault (IsRemote c.p)) from.ended
          (sent_faults from.expr (Contains-append_left (remote_of (f c) vs s) _ from.expr from.one) (each (SentHere vs ws) (remote_of (f c) vs s) from.expr (all_sent whole) from.one).sent from.place from.kind from.typed from.noted.0 from.local from.fits from.around from.holds)

      -- A statement that stays with the client.
      pub plain_goes : StaysWhole (f c) vs s → (n : ℕ) (rest : Steps) (kr : Onward) (ke : replay.Rest) (o : Outside) → Holds c o
          → let ran = run_steps c.ground (keeps c.p refs n (remote_of (f c) vs s) rest) vars o.server kr in
          Goes refs m (scope_after (f c) [] vs s) ws after (handle (h c) (performs (code c) c.gas s l) o) ran
          (replay.replay c.p.classes c.gas (parts.plain c.p vs n s) (at_client (x c) ws l) (at_node o ran) ke) (λ vars1 s1. run_steps c.ground rest vars1 s1 kr) ke
      plain_goes whole n rest kr ke o holds =
          let go : Onward = λ vars1 s1. run_steps c.ground rest vars1 s1 kr in
          let local = (c.local c.p c.service c.fits here c.near).statements s after n l
          (record {
            typed = (stands.typed, stands.formed);
            noted = (stands.noted, stands.admitted);
            parted = (c.parted c.p c.fits.declared (ss c) (admitted c) (place c ws) c.near around vs s after
                (record { script = stands.script; typed = stands.typed; noted = stands.noted; within = stands.within; kinds = at.known.kinds; carries = at.known.carries })).parted whole;
            placed = c.placed c.p (ss c) (admitted c) c.marks around vs s stands.within whole;
          })
          at.fits (wanted (remote_of (f c) vs s) (all_sent whole) (used_kept whole)) in
          let ends = stmt_ends c around vs ws after s stands refs m vars l at o holds in
          let inner = keeping c.p c.service c.ground refs vars c.gas (HoldsTable c.service) (IsLocalAt c.p) n (remote_of (f c) vs s) o.server go in
          subst (λ ran. Goes refs m (scope_after (f c) [] vs s) ws after (handle (h c) (performs (code c) c.gas s l) o) ran
          (replay.replay c.p.classes c.gas (parts.plain c.p vs n s) (at_client (x c) ws l) (at_node o ran) ke) go ke)
          (sym (keeps_rest refs (remote_of (f c) vs s) n rest vars o.server kr))
          (by go (handle (h c) (performs (code c) c.gas s l) o) _ inner ends.0 ends.1 (stmt_leaves c around vs ws after s stands refs m vars l at o) (local.met o.events o.server go holds))
        where
          by : (go : Onward) (w : Outcome (Unit {0}) × Outside) (q : Outcome (Unit {0}) × Seen) (ran : Ran) → Ends (x c) ws after Nothing (classes_of l.heap) w.0 → Holds c w.1 → Onto (InScript refs) l (local_of w.0)
              → Met c.p c.service c.ground refs vars c.gas (HoldsTable c.service) (IsLocalAt c.p) (LeftSeen (x c) after) (Fronts (x c) ws) (remote_of (f c) vs s) w q ran go
              → Goes refs m (scope_after (f c) [] vs s) ws after w ran (replay.after q (λ u l1 s1. ke l1 s1)) go ke
          by go (Gave u l1, s1) q ran e holds1 over t = record {
            vars = vars;
            at = at_after c around vs ws after s stands refs m vars l at whole l1 e.state over;
            holds = holds1;
            fault = t.fault;
            server = t.server;
            replayed = ap (λ z. replay.after z (λ u l1 s1. ke l1 s1)) t.ends ∙ ap (λ z. ke z (record { events = s1.events; node = (go vars s1.server).node })) t.relates;
          }
          by go (Faulted r l1, s1) q ran e holds1 over (inl t) =
              let far = one_remote whole r t.from in
              let same = after_fault q (λ u l1 s1. ke l1 s1) (far_side r) t.local t.ends in
              record {
                local = t.local;
                fronts = t.relates;
                state = e.state;
                ends = ap (λ z. z.outcome) same ∙ ap (λ z. Faulted z t.local) (sym (side_far c r far));
                events = ap (λ z. z.events) same ∙ t.events;
                far = λ is_far. (t.fault, t.server);
              }
          by go (Faulted r l1, s1) q ran e holds1 over (inr t) =
              let side = side_near c r t.near t.here in
              let same = after_fault q (λ u l1 s1. ke l1 s1) r t.local t.ends in
              record {
                local = t.local;
                fronts = t.relates;
                state = e.state;
                ends = ap (λ z. z.outcome) same ∙ ap (λ z. Faulted z t.local) (sym side);
                events = ap (λ z. z.events) same ∙ t.events;
                far = λ is_far. let z = ap (λ q. q.remote) side in absurd (cc (is_far, z, t.near));
              }
