-- Carried vals and remote expressions alone: where they stand, in the script and in the replay.
use Rattle.std.proofs.Common.{◌≡◌, inl, inr, refl, sym, ap, ◌∙◌, subst, ℕ, suc, List, [], ◌∷◌, Bool as Truth, true, false, cond, ◌||◌, Some, None}
use Rattle.rb_trees.specs.declared.values.Value.{Value}
use Rattle.rb_trees.specs.declared.values.Fault.{Fault}
use Rattle.rb_trees.specs.declared.outcomes.Raised.{Raised}
use Rattle.rb_trees.specs.declared.forests.NodeFault.{NodeFault}
use Rattle.rb_trees.specs.mirror.Code.{Expr}
use Rattle.rb_trees.specs.mirror.Forests as forest
use Rattle.rb_trees.specs.mirror.Forests.{Node, Holds as Held, NoEntries, MoreEntries}
use Rattle.rb_trees.specs.mirror.Remainders as part
use Rattle.rb_meaning_types.specs.Kinds.{Kind, is_primitive}
use Rattle.rb_meaning_types.specs.Scopes as typed
use Rattle.rb_meaning_types.specs.Fits.{Fits}
use Rattle.rb_meaning_code.specs.Faults.{raised_remotely}
use Rattle.rb_meaning_code.specs.State.{Local, bound}
use Rattle.rb_meaning_code.specs.Dialogue.{Outcome, Gave, Faulted, handle, on}
use Rattle.rb_meaning_code.specs.Expressions.{evaluates}
use Rattle.rb_meaning_code.specs.Statements.{nothing}
use Rattle.rb_meaning_code.specs.Remote.{Server, Reply, Got, Stopped, and_then}
use Rattle.rb_meaning_code.specs.ScriptRun as run
use Rattle.rb_meaning_code.specs.ScriptRun.{Vars, Ran, in_front, kept, on_reply, with_entry, with_kept, run_steps}
use Rattle.rb_meaning_flow.specs.declared.scopes.Role.{Role}
use Rattle.rb_meaning_flow.specs.Scopes.{Scope, with_variable}
use Rattle.rb_meaning.specs.State.{Outside}
use Rattle.rb_meaning.specs.Unsplit.{stands_remote}
use Rattle.rb_meaning_split.specs.Refs.{Refs, with_var}
use Rattle.rb_meaning_split.specs.Replay as replay
use Rattle.rb_meaning_split.specs.Replay.{Seen, in_replay, Replayed, fault_at, taken}
use Rattle.rb_law_types.specs.Own.{IsFarKind}
use Rattle.rb_law_unsplit.proofs.Positions.{same_position}
use Rattle.rb_law_script.proofs.Alike.{kept_got}
use Rattle.rb_law_script.proofs.Joined.{fits_primitive}
use Rattle.rb_law_script.proofs.Later.{AllLater, none_here}
use Rattle.rb_law_script.proofs.NoUnit.{NoUnit}
use Rattle.rb_law_local.specs.Shown.{at_client, SameNames, FellSame}
use Rattle.rb_law_local.specs.Local.{HoldsTable, IsLocalAt}
use Rattle.rb_law_local.specs.Admitted.{AreKnownScopes}
use Rattle.rb_law_local.specs.Meets.{far_side, Met}
use Rattle.rb_law_local.proofs.Meeting.{none_among}
use Rattle.rb_law_local.proofs.Names.{seen_bound, fronts_same}
use Rattle.rb_law_division.specs.Faults.{EachFault, IsRemote}
use Rattle.rb_law_client.proofs.Calm.{OtherThanFuel}
use Rattle.rb_law_client.proofs.Scene.{Scene, d, is, x, h, code, Holds, At}
use Rattle.rb_law_client.proofs.Goes.{Onward, side_far, Went, Arrived, Goes, at_node}
use Rattle.rb_law_client.proofs.Worth.{Worth, seen_far, primitive_near, other_far, at_bound}

-- ---- nodes that stopped at a step

abbrev pub stop : ℕ → ℕ → Fault → NodeFault
stop step at fault = record { step = step; at = at; fault = fault }

pub stops_here : (n at : ℕ) (fault : Fault) → fault_at n (Held NoEntries (Some (stop n at fault))) ≡ Some (stop n at fault)
stops_here n at fault = ap (λ t. cond t (Some (stop n at fault)) None) (same_position n)

pub unless_stops : (n at : ℕ) (fault : Fault) (side : NodeFault → Raised) (l : Local) (s : Seen) (other : Replayed)
    → replay.unless (fault_at n (Held NoEntries (Some (stop n at fault)))) side l s other ≡ replay.stopped (side (stop n at fault)) l s
unless_stops n at fault side l s other = ap (λ q. replay.unless q side l s other) (stops_here n at fault)

pub taken_stops : (n at : ℕ) (fault : Fault) (l : Local) (s : Seen) (go : Value → Seen → Replayed)
    → replay.on_value (taken n (Held NoEntries (Some (stop n at fault)))) l s go ≡ replay.stopped (raised_remotely fault at) l s
taken_stops n at fault l s go = ap (λ q. replay.stopped (replay.missed q) l s) (stops_here n at fault)

pub value_front : (n : ℕ) (v : Value) (node : Node) (l : Local) (s : Seen) (go : Value → Seen → Replayed) → replay.on_value (taken n (in_front (forest.Value v) node)) l s go ≡ go v (record s { node = node })
value_front n v (Held es fault) l s go = refl

module _ (c : Scene) (ws : typed.Scope) (l : Local) where
  abbrev cl : Local
  cl = at_client (x c) ws l

  -- a remote fault that stopped the script in a step, and the replay there
  pub stop_went : (refs : Refs) (m : ℕ) (vs : Scope) (vars : Vars) → At c refs m vs ws vars l → (r : Raised) (s : Outside) (id : ℕ) (rep : Replayed) → IsRemote c.p r
      → rep ≡ record { outcome = Faulted (far_side r) cl; events = s.events } → Went c ws r l s (run.stopped id r.at r.fault s.server) rep
  stop_went refs m vs vars at r s id rep is_far e = record {
    local = cl;
    fronts = fronts_same (x c) ws l;
    state = at.fits.holds;
    ends = ap (λ q. q.outcome) e ∙ ap (λ q. Faulted q cl) (sym (side_far c r is_far));
    events = ap (λ q. q.events) e;
    far = λ far. (refl, refl);
  }

module _ (c : Scene) (refs : Refs) (m : ℕ) (vs : Scope) (ws : typed.Scope) (vars : Vars) (l : Local) (at : At c refs m vs ws vars l) (n : ℕ) (go : Onward) (ke : replay.Rest) (o : Outside) where
  abbrev client : Local
  client = at_client (x c) ws l

  -- ---- a remote expression alone

  abbrev done : Outcome Value × Outside → Outcome (Unit {0}) × Outside
  done w = handle (h c) (on (λ v l1. nothing l1) w.0) w.1

  abbrev passes : Ran → Replayed
  passes ran = replay.replay c.p.classes c.gas (part.Pass n) client (at_node c o ran) ke

  pub done_goes : (k : Kind) (w : Outcome Value × Outside) (reply : Reply Value) → Worth c refs m vs ws vars l at k o w reply → EachFault (IsRemote c.p) w.0 → AllLater (suc n) go
      → let ran = on_reply n reply (λ v s1. go vars s1) in Goes c refs m vs ws ws (done w) ran (passes ran) go ke
  done_goes k (Gave v l1, s1) reply worth far later =
      let inner = go vars s1.server in
      let same : on_reply n reply (λ v s1. go vars s1) ≡ inner = ap (λ q. on_reply n q (λ v s1. go vars s1)) worth.1 in
      subst (λ z. Goes c refs m vs ws ws (Gave tt z, s1) (on_reply n reply (λ v s1. go vars s1)) (passes (on_reply n reply (λ v s1. go vars s1))) go ke) (sym worth.0)
      (subst (λ ran. Goes c refs m vs ws ws (Gave tt l, s1) ran (passes ran) go ke) (sym same) (record {
        vars = vars;
        at = at;
        holds = worth.4;
        fault = refl;
        server = refl;
        replayed = ap (λ q. replay.unless q replay.far_fault client (at_node c o inner) (ke client (at_node c o inner))) (none_here n inner.node (later vars s1.server))
            ∙ ap (λ q. ke client (record { events = q; node = inner.node })) (sym worth.2);
      }))
  done_goes k (Faulted r l1, s1) reply worth far later =
      let ran = run.stopped n r.at r.fault s1.server in
      let same : on_reply n reply (λ v s1. go vars s1) ≡ ran = ap (λ q. on_reply n q (λ v s1. go vars s1)) worth.1 in
      subst (λ z. Went c ws r z s1 (on_reply n reply (λ v s1. go vars s1)) (passes (on_reply n reply (λ v s1. go vars s1)))) (sym worth.0)
      (subst (λ z. Went c ws r l s1 z (passes z)) (sym same)
      (stop_went c ws l refs m vs vars at r s1 n (passes ran) far
      (unless_stops n r.at r.fault replay.far_fault client (at_node c o ran) (ke client (at_node c o ran)) ∙ ap (λ q. record { outcome = Faulted (far_side r) client; events = q }) (sym worth.2))))

  -- ---- a carried val

  module _ (place : ℕ) (name : List ℕ) (k : Kind) (far_kind : IsFarKind (is c) k) (free : typed.is_free ws name ≡ true) (known : AreKnownScopes (d c) (with_variable vs name Role.Carried place) (typed.with_variable ws name k true)) where
    abbrev after : typed.Scope
    after = typed.with_variable ws name k true

    abbrev binds : Outcome Value × Outside → Outcome (Unit {0}) × Outside
    binds w = handle (h c) (on (λ v l1. nothing (bound name v l1)) w.0) w.1

    abbrev let_ran : Truth → Reply Value → Ran
    let_ran keep reply = on_reply n (and_then reply (kept keep place)) (λ v s1. with_kept keep v (go ((m, v) ∷ vars) s1))

    abbrev replays : part.Part → Ran → Replayed
    replays p ran = replay.replay c.p.classes c.gas p client (at_node c o ran) ke

    abbrev LetGoes : Truth → part.Part → Outcome Value × Outside → Reply Value → Type 0
    LetGoes keep p w reply = Goes c (with_var refs name m) (suc m) (with_variable vs name Role.Carried place) ws after (binds w) (let_ran keep reply) (replays p (let_ran keep reply)) go ke

    let_got : (keep : Truth) (v : Value) (s : Server) (reply : Reply Value) → reply ≡ Got v s → (keep ≡ true → is_primitive k ≡ true) → Fits (is c) [] k v → let_ran keep reply ≡ with_kept keep v (go ((m, v) ∷ vars) s)
    let_got keep v s reply e primitive fits =
        ap (λ q. on_reply n (and_then q (kept keep place)) (λ v s1. with_kept keep v (go ((m, v) ∷ vars) s1))) e
        ∙ ap (λ q. on_reply n q (λ v s1. with_kept keep v (go ((m, v) ∷ vars) s1))) (kept_got keep place v s (λ is_kept. fits_primitive (is c) k v (primitive is_kept) fits))

    -- what is bound on both sides
    let_arrived : (keep : Truth) (v : Value) (s1 : Outside) (rep : Replayed) → Fits (is c) [] k v → Holds c s1 → rep ≡ ke (at_client (x c) after (bound name v l)) (record { events = s1.events; node = (go ((m, v) ∷ vars) s1.server).node })
        → Arrived c (with_var refs name m) (suc m) (with_variable vs name Role.Carried place) after (bound name v l) s1 (with_kept keep v (go ((m, v) ∷ vars) s1.server)) rep go ke
    let_arrived keep v s1 rep fits holds e = record {
      vars = (m, v) ∷ vars;
      at = at_bound c refs m vs ws vars l at name Role.Carried place k v refl far_kind free fits known;
      holds = holds;
      fault = same_fault keep (go ((m, v) ∷ vars) s1.server);
      server = same_server keep (go ((m, v) ∷ vars) s1.server);
      replayed = e;
    }
      where
        same_fault : (t : Truth) (ran : Ran) → (with_kept t v ran).fault ≡ ran.fault
        same_fault true ran = refl
        same_fault false ran = refl

        same_server : (t : Truth) (ran : Ran) → (with_kept t v ran).server ≡ ran.server
        same_server true ran = refl
        same_server false ran = refl

    let_stopped : (keep : Truth) (r : Raised) (s : Server) (reply : Reply Value) → reply ≡ Stopped r.at r.fault s → let_ran keep reply ≡ run.stopped n r.at r.fault s
    let_stopped keep r s reply e = ap (λ q. on_reply n (and_then q (kept keep place)) (λ v s1. with_kept keep v (go ((m, v) ∷ vars) s1))) e

    -- what was kept is bound
    pub bind_goes : (kind_number : ℕ) → is_primitive k ≡ true → (w : Outcome Value × Outside) (reply : Reply Value) → Worth c refs m vs ws vars l at k o w reply → EachFault (IsRemote c.p) w.0 → LetGoes true (part.Bind n name kind_number) w reply
    bind_goes number primitive (Gave v l1, s1) reply worth far =
        let inner = go ((m, v) ∷ vars) s1.server in
        let p = part.Bind n name number in
        subst (λ z. Goes c (with_var refs name m) (suc m) (with_variable vs name Role.Carried place) ws after (Gave tt (bound name v z), s1) (let_ran true reply) (replays p (let_ran true reply)) go ke) (sym worth.0)
        (subst (λ ran. Goes c (with_var refs name m) (suc m) (with_variable vs name Role.Carried place) ws after (Gave tt (bound name v l), s1) ran (replays p ran) go ke) (sym (let_got true v s1.server reply worth.1 (λ t. primitive) worth.3))
        (let_arrived true v s1 (replays p (with_entry (forest.Value v) inner)) worth.3 worth.4
        (value_front n v inner.node client (at_node c o (with_entry (forest.Value v) inner)) (λ v s1. ke (bound name v client) s1)
        ∙ ap (λ q. ke (bound name v client) (record { events = q; node = inner.node })) (sym worth.2)
        ∙ ap (λ q. ke q (record { events = s1.events; node = inner.node })) (sym (seen_bound (x c) ws l name k true v at.fits.count (primitive_near (d c) k primitive))))))
    bind_goes number primitive (Faulted r l1, s1) reply worth far =
        let ran = run.stopped n r.at r.fault s1.server in
        let p = part.Bind n name number in
        subst (λ z. Went c ws r z s1 (let_ran true reply) (replays p (let_ran true reply))) (sym worth.0)
        (subst (λ z. Went c ws r l s1 z (replays p z)) (sym (let_stopped true r s1.server reply worth.1))
        (stop_went c ws l refs m vs vars at r s1 n (replays p ran) far
        (taken_stops n r.at r.fault client (at_node c o ran) (λ v s1. ke (bound name v client) s1) ∙ ap (λ q. record { outcome = Faulted (far_side r) client; events = q }) (sym worth.2))))

    -- an object or rows, which a client hasn't
    pub pass_goes : is_primitive k ≡ false → NoUnit k → (w : Outcome Value × Outside) (reply : Reply Value) → Worth c refs m vs ws vars l at k o w reply → EachFault (IsRemote c.p) w.0 → AllLater (suc n) go → LetGoes false (part.Pass n) w reply
    pass_goes other unit (Gave v l1, s1) reply worth far later =
        let inner = go ((m, v) ∷ vars) s1.server in
        let p = part.Pass n in
        subst (λ z. Goes c (with_var refs name m) (suc m) (with_variable vs name Role.Carried place) ws after (Gave tt (bound name v z), s1) (let_ran false reply) (replays p (let_ran false reply)) go ke) (sym worth.0)
        (subst (λ ran. Goes c (with_var refs name m) (suc m) (with_variable vs name Role.Carried place) ws after (Gave tt (bound name v l), s1) ran (replays p ran) go ke) (sym (let_got false v s1.server reply worth.1 (λ t. absurd (cc (t))) worth.3))
        (let_arrived false v s1 (replays p inner) worth.3 worth.4
        (ap (λ q. replay.unless q replay.far_fault client (at_node c o inner) (ke client (at_node c o inner))) (none_here n inner.node (later ((m, v) ∷ vars) s1.server))
        ∙ ap (λ q. ke client (record { events = q; node = inner.node })) (sym worth.2)
        ∙ ap (λ q. ke q (record { events = s1.events; node = inner.node })) (sym (seen_far (x c) ws l name k true v at.fits.count (other_far (d c) k far_kind other unit))))))
    pass_goes other unit (Faulted r l1, s1) reply worth far later =
        let ran = run.stopped n r.at r.fault s1.server in
        let p = part.Pass n in
        subst (λ z. Went c ws r z s1 (let_ran false reply) (replays p (let_ran false reply))) (sym worth.0)
        (subst (λ z. Went c ws r l s1 z (replays p z)) (sym (let_stopped false r s1.server reply worth.1))
        (stop_went c ws l refs m vs vars at r s1 n (replays p ran) far
        (unless_stops n r.at r.fault replay.far_fault client (at_node c o ran) (ke client (at_node c o ran)) ∙ ap (λ q. record { outcome = Faulted (far_side r) client; events = q }) (sym worth.2))))

    -- what is evaluated on both sides
    module _ (e : Expr) where
      -- it does the same at the client, whatever the node is there
      abbrev pub Twice : Outcome Value × Outside → Type 0
      Twice w = (ran : Ran) → Met c.p c.service c.ground refs vars c.gas (HoldsTable c.service) (IsLocalAt c.p) (SameNames (x c) ws l.names) (FellSame (x c) ws l.names) [] w
          (handle in_replay (evaluates (code c) e client) (at_node c o ran)) ran (λ vars1 s1. ran)

      near_facts : (r : Raised) (l1 : Local) (s1 : Outside) (ran : Ran) → Met c.p c.service c.ground refs vars c.gas (HoldsTable c.service) (IsLocalAt c.p) (SameNames (x c) ws l.names) (FellSame (x c) ws l.names) [] (Faulted r l1, s1)
          (handle in_replay (evaluates (code c) e client) (at_node c o ran)) ran (λ vars1 s1. ran) → (r.remote ≡ false) × IsLocalAt c.p r.at
      near_facts r l1 s1 ran (inl q) = absurd (none_among q.from.expr q.from.one)
      near_facts r l1 s1 ran (inr q) = (q.near, q.here)

      near_went : (r : Raised) (s : Outside) (rep : Replayed) → OtherThanFuel r.fault → (r.remote ≡ false) × IsLocalAt c.p r.at → rep ≡ record { outcome = Faulted (replay.own_fault (stop n r.at r.fault)) client; events = s.events }
          → Went c ws r l s (run.stopped n r.at r.fault s.server) rep
      near_went r s rep other near e' = record {
        local = client;
        fronts = fronts_same (x c) ws l;
        state = at.fits.holds;
        ends = ap (λ q. q.outcome) e' ∙ ap (λ t. Faulted (record r { remote = t }) client) (other ∙ sym (ap (λ t. t || stands_remote c.p r.at) near.0 ∙ near.1));
        events = ap (λ q. q.events) e';
        far = λ far. (refl, refl);
      }

      pub both_goes : is_primitive k ≡ true → (w : Outcome Value × Outside) (reply : Reply Value) → Worth c refs m vs ws vars l at k o w reply → Twice w → EachFault (λ r. OtherThanFuel r.fault) w.0 → AllLater (suc n) go → LetGoes false (part.Both n place name e) w reply
      both_goes primitive (Gave v l1, s1) reply worth twice other later =
          let inner = go ((m, v) ∷ vars) s1.server in
          let p = part.Both n place name e in
          let t = twice inner in
          let k2 : Value → replay.Rest = λ v l1 s1. ke (bound name v l1) s1 in
          subst (λ z. Goes c (with_var refs name m) (suc m) (with_variable vs name Role.Carried place) ws after (Gave tt (bound name v z), s1) (let_ran false reply) (replays p (let_ran false reply)) go ke) (sym worth.0)
          (subst (λ ran. Goes c (with_var refs name m) (suc m) (with_variable vs name Role.Carried place) ws after (Gave tt (bound name v l), s1) ran (replays p ran) go ke) (sym (let_got false v s1.server reply worth.1 (λ t. absurd (cc (t))) worth.3))
          (let_arrived false v s1 (replays p inner) worth.3 worth.4
          (ap (λ q. replay.unless q replay.own_fault client (at_node c o inner) (replay.after (handle in_replay (evaluates (code c) e client) (at_node c o inner)) k2)) (none_here n inner.node (later ((m, v) ∷ vars) s1.server))
          ∙ ap (λ q. replay.after q k2) t.ends
          ∙ ap (λ q. ke (bound name v q) (record { events = s1.events; node = inner.node })) (t.relates.1 ∙ ap (at_client (x c) ws) worth.0)
          ∙ ap (λ q. ke q (record { events = s1.events; node = inner.node })) (sym (seen_bound (x c) ws l name k true v at.fits.count (primitive_near (d c) k primitive))))))
      both_goes primitive (Faulted r l1, s1) reply worth twice other later =
          let ran = run.stopped n r.at r.fault s1.server in
          let p = part.Both n place name e in
          let k2 : Value → replay.Rest = λ v l1 s1. ke (bound name v l1) s1 in
          subst (λ z. Went c ws r z s1 (let_ran false reply) (replays p (let_ran false reply))) (sym worth.0)
          (subst (λ z. Went c ws r l s1 z (replays p z)) (sym (let_stopped false r s1.server reply worth.1))
          (near_went r s1 (replays p ran) other (near_facts r l1 s1 ran (twice ran))
          (unless_stops n r.at r.fault replay.own_fault client (at_node c o ran) (replay.after (handle in_replay (evaluates (code c) e client) (at_node c o ran)) k2)
          ∙ ap (λ q. record { outcome = Faulted (replay.own_fault (stop n r.at r.fault)) client; events = q }) (sym worth.2))))
