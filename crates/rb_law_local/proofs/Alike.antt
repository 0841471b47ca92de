-- Calls of own methods do the same where a batch stands and where it is replayed.
use Rattle.std.proofs.Common.{◌≡◌, refl, sym, ap, ◌∙◌, subst, ℕ, List, [], ◌++◌, ◌∷◌, length, Result, Ok, Err, inr, false}
use Rattle.rb_trees.specs.declared.values.Value.{Value}
use Rattle.rb_trees.specs.declared.values.Value.TheVariants as value
use Rattle.rb_trees.specs.declared.values.Value.TheViews.{out-Value}
use Rattle.rb_trees.specs.declared.values.Fault.{Fault}
use Rattle.rb_trees.specs.mirror.Declarations.{Program, Method}
use Rattle.rb_trees.specs.mirror.Services.{Service}
use Rattle.rb_trees.specs.mirror.Forests.{Node}
use Rattle.rb_meaning_types.specs.Declared.{Declarations, Context}
use Rattle.rb_meaning_types.specs.Scopes.{Scope}
use Rattle.rb_meaning_code.specs.State.{Names, Local, spent}
use Rattle.rb_meaning_code.specs.Faults.{raises}
use Rattle.rb_meaning_code.specs.Dialogue.{Line, Taken, Invoke, Turn, ListTurn, Outcome, Gave, Faulted, Done, Ask, AskBatch, Run, Handler, handle, seq, next, end}
use Rattle.rb_meaning_code.specs.Calls.{Bodies, called_method, unit_due, call_fits, names_within, entered, left, call}
use Rattle.rb_meaning_code.specs.Remote.{Server}
use Rattle.rb_meaning_code.specs.ScriptRun.{Ground, Vars, Ran}
use Rattle.rb_meaning_code.specs.Bodies.{bodies_of}
use Rattle.rb_meaning_flow.specs.Programs.{is_carried_at}
use Rattle.rb_meaning.specs.State as state
use Rattle.rb_meaning.specs.State.{Event, Outside}
use Rattle.rb_meaning.specs.Unsplit.{list_turn, in_batch}
use Rattle.rb_meaning_split.specs.Refs.{Refs}
use Rattle.rb_meaning_split.specs.Replay.{Seen, in_replay}
use Rattle.rb_law_types.specs.Asked.{Own, Keeps}
use Rattle.rb_law_local.specs.Shown.{seen, named, at_client, SameNames, FellSame}
use Rattle.rb_law_local.specs.Meets.{Rest, Met, Meets}
use Rattle.rb_law_local.proofs.Meeting.{handle_seq, none_among}
use Rattle.rb_law_local.proofs.Near.{NearEnd, Near, own_call_near, StandPlain}

-- Both surroundings answer alike what is neither remote nor a batch.
pub record Alike {A : Type 0} (Here : ℕ → Type 0) (p : Program) (service : Service) (run : Run A) (events : List Event) (server : Server) (node : Node) : Type 0 where
  pub same : (handle in_replay run (record { events = events; node = node })).0 ≡ (handle (in_batch p service) run (record { events = events; server = server })).0
  pub seen : (handle in_replay run (record { events = events; node = node })).1 ≡ record { events = (handle (in_batch p service) run (record { events = events; server = server })).1.events; node = node }
  pub left : (handle (in_batch p service) run (record { events = events; server = server })).1.server ≡ server
  pub near : NearEnd Here (handle (in_batch p service) run (record { events = events; server = server })).0

-- at these positions no carried loop stands
abbrev Uncarried : (ℕ → Type 0) → Program → Type 0
Uncarried Here p = (at : ℕ) → Here at → is_carried_at p at ≡ false

alike_run : {A : Type 0} (Here : ℕ → Type 0) (p : Program) (service : Service) (d : Declarations) (P : Outcome A → Type 0) (run : Run A) (events : List Event) (server : Server) (node : Node) → Keeps d (Own []) P run → Near Here run → Uncarried Here p → Alike Here p service run events server node
alike_run Here p service d P (Done o) events server node h near plain = record { same = refl; seen = refl; left = refl; near = near }
alike_run Here p service d P (Ask (Line at bytes) go) events server node h near plain =
    let a = alike_run Here p service d P (go (Ok value.Unit)) (events ++ state.Line bytes ∷ []) server node (h.1 (Ok value.Unit) tt) (near.1 (Ok value.Unit) tt) plain in
    record { same = a.same; seen = a.seen; left = a.left; near = a.near }
alike_run Here p service d P (Ask (ListTurn at) go) events server node h near plain =
    let s : Outside = record { events = events; server = server } in
    let a = alike_run Here p service d P (go (Ok value.Unit)) events server node (h.1 (Ok value.Unit) tt) (near.1 (Ok value.Unit) tt) plain in
    let turn : list_turn (is_carried_at p at) at s ≡ (Ok value.Unit, s) = ap (λ t. list_turn t at s) (plain at near.0) in
    let run : handle (in_batch p service) (Ask (ListTurn at) go) s ≡ handle (in_batch p service) (go (Ok value.Unit)) s = ap (λ q. handle (in_batch p service) (go q.0) q.1) turn in
    record {
      same = a.same ∙ ap (λ q. q.0) (sym run);
      seen = a.seen ∙ ap (λ q. record { events = q.1.events; node = node }) (sym run);
      left = ap (λ q. q.1.server) run ∙ a.left;
      near = subst (λ q. NearEnd Here q.0) (sym run) a.near;
    }
alike_run Here p service d P (Ask (Taken step) go) events server node h near plain = absurd h.0
alike_run Here p service d P (Ask (Invoke at target method args) go) events server node h near plain = absurd h.0
alike_run Here p service d P (Ask (Turn at) go) events server node h near plain = absurd h.0
alike_run Here p service d P (AskBatch at l go) events server node h near plain = absurd (none_among h.0 h.1.may)

-- the outcome with other names
abbrev pub renamed : {A : Type 0} → Names → Outcome A → Outcome A
renamed ns (Gave a l) = Gave a (named ns l)
renamed ns (Faulted r l) = Faulted r (named ns l)

module _ {S : Type 0} (h : Handler S) (bodies : Bodies) (at : ℕ) (receiver : Value) (name : List ℕ) (args : List Value) (ns : Names) where
  abbrev Renames : Run Value → Run Value → Type 0
  Renames run other = (s : S) → handle h other s ≡ (renamed ns (handle h run s).0, (handle h run s).1)

  -- a call is the same from other names, but for the names
  pub call_renames : (l : Local) → Renames (call bodies at receiver name args l) (call bodies at receiver name args (named ns l))
  call_renames l = by_method (called_method bodies.classes l.heap (out-Value receiver) name (length args))
    where
      returns : (s : S) (o : Outcome Value × S) → handle h (left (named ns (spent l)) o.0) o.1 ≡ (renamed ns (handle h (left (spent l) o.0) o.1).0, (handle h (left (spent l) o.0) o.1).1)
      returns s (Gave v l1, s1) = refl
      returns s (Faulted r l1, s1) = refl

      body : (m : Method) → Renames (seq (bodies.run at m.body (entered (names_within receiver m.signature.params args) (spent l))) (left (spent l)))
          (seq (bodies.run at m.body (entered (names_within receiver m.signature.params args) (spent l))) (left (named ns (spent l))))
      body m s =
          let run = bodies.run at m.body (entered (names_within receiver m.signature.params args) (spent l)) in
          handle_seq h run (left (named ns (spent l))) s ∙ returns s (handle h run s) ∙ sym (ap (λ q. (renamed ns q.0, q.1)) (handle_seq h run (left (spent l)) s))

      by_depth : (m : Method) (r : Result (Unit {0}) Fault) → Renames
          (next (end (spent l) (raises at r)) (λ w l3. seq (bodies.run at m.body (entered (names_within receiver m.signature.params args) l3)) (left l3)))
          (next (end (named ns (spent l)) (raises at r)) (λ w l3. seq (bodies.run at m.body (entered (names_within receiver m.signature.params args) l3)) (left l3)))
      by_depth m (Ok u) s = body m s
      by_depth m (Err f) s = refl

      by_unit : (m : Method) (r : Result (Unit {0}) Fault) → Renames
          (next (end l (raises at r)) (λ u l2. next (end (spent l2) (raises at (call_fits l2.depth))) (λ w l3. seq (bodies.run at m.body (entered (names_within receiver m.signature.params args) l3)) (left l3))))
          (next (end (named ns l) (raises at r)) (λ u l2. next (end (spent l2) (raises at (call_fits l2.depth))) (λ w l3. seq (bodies.run at m.body (entered (names_within receiver m.signature.params args) l3)) (left l3))))
      by_unit m (Ok u) s = by_depth m (call_fits l.depth) s
      by_unit m (Err f) s = refl

      by_method : (r : Result Method Fault) → Renames
          (next (end l (raises at r)) (λ m l1. next (end l1 (raises at (unit_due l1.fuel))) (λ u l2. next (end (spent l2) (raises at (call_fits l2.depth))) (λ w l3. seq (bodies.run at m.body (entered (names_within receiver m.signature.params args) l3)) (left l3)))))
          (next (end (named ns l) (raises at r)) (λ m l1. next (end l1 (raises at (unit_due l1.fuel))) (λ u l2. next (end (spent l2) (raises at (call_fits l2.depth))) (λ w l3. seq (bodies.run at m.body (entered (names_within receiver m.signature.params args) l3)) (left l3)))))
      by_method (Ok m) s = by_unit m (unit_due l.fuel) s
      by_method (Err f) s = refl

abbrev names_of : Outcome Value → Names
names_of (Gave v l) = l.names
names_of (Faulted r l) = l.names

module _ (p : Program) (service : Service) (g : Ground) (refs : Refs) (vars : Vars) (gas : ℕ) (Holds : Outside → Type 0) (Here : ℕ → Type 0) (x : Context) (scope : Scope) where
  -- a call of an own method, which asks nothing remote
  pub call_meets : (d : Declarations) (P : Outcome Value → Type 0) (at : ℕ) (receiver : Value) (name : List ℕ) (args : List Value) (l : Local) (n : ℕ) → StandPlain p Here → Here at → Keeps d (Own []) P (call (bodies_of p.classes gas) at receiver name args l)
      → Meets p service g refs vars gas Holds Here (SameNames x scope l.names) (FellSame x scope l.names) [] n (call (bodies_of p.classes gas) at receiver name args l) (call (bodies_of p.classes gas) at receiver name args (at_client x scope l))
  call_meets d P at receiver name args l n placed here keeps = record {
    met = λ events server go holds.
        let run = call (bodies_of p.classes gas) at receiver name args l in
        let other = call (bodies_of p.classes gas) at receiver name args (at_client x scope l) in
        let s : Outside = record { events = events; server = server } in
        let around : Seen = record { events = events; node = (go vars server).node } in
        let a = alike_run Here p service d P run events server (go vars server).node keeps (own_call_near Here p.classes placed.classes gas at receiver name args here l) placed.uncarried in
        by (go vars server) go (handle (in_batch p service) run s) (handle in_replay other around)
        (call_renames in_replay (bodies_of p.classes gas) at receiver name args (seen x scope l.names) l around ∙ ap (λ q. (renamed (seen x scope l.names) q, (handle in_replay run around).1)) a.same ∙ ap (λ q. (renamed (seen x scope l.names) (handle (in_batch p service) run s).0, q)) a.seen)
        (ap (λ q. q.0) (call_renames (in_batch p service) (bodies_of p.classes gas) at receiver name args l.names l s)) (ap (go vars) a.left) a.near;
  }
    where
      by : (ran : Ran) (go : Rest) (w : Outcome Value × Outside) (c : Outcome Value × Seen) → c ≡ (renamed (seen x scope l.names) w.0, record { events = w.1.events; node = ran.node }) → w.0 ≡ renamed l.names w.0 → go vars w.1.server ≡ ran → NearEnd Here w.0
          → Met p service g refs vars gas Holds Here (SameNames x scope l.names) (FellSame x scope l.names) [] w c ran go
      by ran go (Gave v l1, s1) c is own same near =
          let names = ap names_of own in
          record {
            local = named (seen x scope l.names) l1;
            relates = (names, ap (λ q. named (seen x scope q) l1) (sym names));
            ends = is ∙ ap (λ q. (Gave v (named (seen x scope l.names) l1), record { events = s1.events; node = q.node })) (sym same);
            fault = ap (λ q. q.fault) (sym same);
            server = ap (λ q. q.server) (sym same);
          }
      by ran go (Faulted r l1, s1) c is own same near =
          let names = ap names_of own in
          inr (record {
            local = named (seen x scope l.names) l1;
            relates = (names, ap (λ q. named (seen x scope q) l1) (sym names));
            near = near.0;
            here = near.1;
            ends = ap (λ q. q.0) is;
            events = ap (λ q. q.1.events) is;
            stays = λ none. record { same = ap (λ q. q.1) is ∙ ap (λ q. record { events = s1.events; node = q.node }) (sym same); fault = ap (λ q. q.fault) (sym same); server = ap (λ q. q.server) (sym same) };
          })
