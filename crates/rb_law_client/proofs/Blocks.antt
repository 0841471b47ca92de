-- How a block of a batch, its steps and its parts go on to their ends, and what is left behind a block.
use Rattle.std.proofs.Common.{◌≡◌, ◌≤◌, ap, ◌∙◌, ℕ, List, [], length, true, Some, None}
use Rattle.rb_trees.specs.declared.outcomes.Raised.{Raised}
use Rattle.rb_trees.specs.mirror.Forests.{Node}
use Rattle.rb_meaning_types.specs.Scopes as typed
use Rattle.rb_meaning_types.specs.Fits.{classes_of}
use Rattle.rb_meaning_code.specs.State.{Local, closed}
use Rattle.rb_meaning_code.specs.Dialogue.{Outcome, Gave, Faulted}
use Rattle.rb_meaning_code.specs.ScriptRun.{Vars, Ran}
use Rattle.rb_meaning_flow.specs.Scopes.{Scope}
use Rattle.rb_meaning.specs.State.{Event, Outside}
use Rattle.rb_meaning.specs.Unsplit.{with_side}
use Rattle.rb_meaning_split.specs.Refs.{Refs}
use Rattle.rb_meaning_split.specs.Replay as replay
use Rattle.rb_meaning_split.specs.Replay.{Replayed}
use Rattle.rb_law_types.specs.Ends.{Grown, LocalFits, LocalHolds}
use Rattle.rb_law_types.proofs.Steps.{holds_less, left_taken}
use Rattle.rb_law_script.proofs.Joined.{joined_up}
use Rattle.rb_law_local.specs.Meets.{placed}
use Rattle.rb_law_local.specs.Shown.{at_client, Fronts}
use Rattle.rb_law_local.proofs.Names.{Extends, fronts_same, fronts_less, fronts_closed}
use Rattle.rb_law_local.proofs.Closing.{within_extends, holds_framed}
use Rattle.rb_law_client.proofs.Scene.{Scene, is, x, Holds, At}
use Rattle.rb_law_client.proofs.Goes.{Went}

none_grown : (cs : List (List ℕ)) → Grown [] cs
none_grown cs object class e = absurd (cc (e))

-- ---- behind a block of the replay

pub behind_done : (count : ℕ) (rest : Node) (rep : Replayed) (go : replay.Rest) (l : Local) (events : List Event) → rep.outcome ≡ Gave tt l → rep.events ≡ events
    → replay.behind count rest rep go ≡ go (closed count l) (record { events = events; node = rest })
behind_done count rest rep go l events e e1 = ap (λ q. replay.behind_end count rest q rep.events go) e ∙ ap (λ q. go (closed count l) (record { events = q; node = rest })) e1

pub behind_fell : (count : ℕ) (rest : Node) (rep : Replayed) (go : replay.Rest) (r : Raised) (l : Local) (events : List Event) → rep.outcome ≡ Faulted r l → rep.events ≡ events
    → replay.behind count rest rep go ≡ record { outcome = Faulted r (closed count l); events = events }
behind_fell count rest rep go r l events e e1 = ap (λ q. replay.behind_end count rest q rep.events go) e ∙ ap (λ q. record { outcome = Faulted r (closed count l); events = q }) e1

module _ (c : Scene) where
  -- A block went to its end: nothing stopped the script, and the replay gave the same.
  pub record Done (after : typed.Scope) (l : Local) (s : Outside) (ran : Ran) (rep : Replayed) : Type 0 where
    pub fits : LocalFits (x c) after l
    pub holds : Holds c s
    pub fault : ran.fault ≡ None
    pub server : ran.server ≡ s.server
    pub outcome : rep.outcome ≡ Gave tt (at_client (x c) after l)
    pub events : rep.events ≡ s.events

  abbrev pub BlockGoes : (ws after : typed.Scope) → Outcome (Unit {0}) × Outside → Ran → Replayed → Type 0
  BlockGoes ws after (Gave u l, s) ran rep = Done after l s ran rep
  BlockGoes ws after (Faulted r l, s) ran rep = Went c ws r l s ran rep

  -- the script's run in other words
  pub block_same : (ws after : typed.Scope) (w : Outcome (Unit {0}) × Outside) (ran other : Ran) (rep : Replayed) → other.fault ≡ ran.fault → other.server ≡ ran.server → BlockGoes ws after w ran rep → BlockGoes ws after w other rep
  block_same ws after (Gave u l, s) ran other rep e e1 t = record { fits = t.fits; holds = t.holds; fault = e ∙ t.fault; server = e1 ∙ t.server; outcome = t.outcome; events = t.events }
  block_same ws after (Faulted r l, s) ran other rep e e1 t = record {
    local = t.local;
    fronts = t.fronts;
    state = t.state;
    ends = t.ends;
    events = t.events;
    far = λ is_far. let both = t.far is_far in (e ∙ both.0, e1 ∙ both.1);
  }

  -- a fault in a longer scope
  pub went_less : (ws inner : typed.Scope) → Extends ws inner → (r : Raised) (l : Local) (s : Outside) (ran : Ran) (rep : Replayed) → Went c inner r l s ran rep → Went c ws r l s ran rep
  went_less ws inner into r l s ran rep t =
      let state = holds_less (x c) ws inner l (within_extends (x c) ws inner into) t.state in
      record {
        local = t.local;
        fronts = fronts_less (x c) ws inner l t.local into (holds_framed (x c) ws l state) t.fronts;
        state = state;
        ends = t.ends;
        events = t.events;
        far = t.far;
      }

  pub block_less : (ws inner after : typed.Scope) → Extends ws inner → (w : Outcome (Unit {0}) × Outside) (ran : Ran) (rep : Replayed) → BlockGoes inner after w ran rep → BlockGoes ws after w ran rep
  block_less ws inner after into (Gave u l, s) ran rep t = t
  block_less ws inner after into (Faulted r l, s) ran rep t = went_less ws inner into r l s ran rep t

  pub at_up : (refs : Refs) (m m' : ℕ) (vs : Scope) (ws : typed.Scope) (vars : Vars) (l : Local) → m ≤ m' → At c refs m vs ws vars l → At c refs m' vs ws vars l
  at_up refs m m' vs ws vars l up at = record {
    walked = at.walked;
    joined = joined_up (is c) c.ground c.inputs refs m m' vs ws at.walked vars up at.joined;
    linked = at.linked;
    fits = at.fits;
    held = at.held;
    known = at.known;
  }

  -- ---- at the end of a block that stands in one scope, begins in another and leads to a third

  module _ (ws inner : typed.Scope) (into : Extends ws inner) (l : Local) (state : LocalFits (x c) ws l) where
    pub close_fits : (l1 : Local) → LocalHolds (x c) inner l1 → LocalFits (x c) ws (closed (length l.names) l1)
    close_fits l1 h = (left_taken (x c) ws [] (length l.names) l1 state.count (holds_less (x c) ws inner l1 (within_extends (x c) ws inner into) h) (none_grown (classes_of l1.heap))).state

    pub close_client : (l1 client : Local) → LocalHolds (x c) inner l1 → Fronts (x c) inner l1 client → closed (length (at_client (x c) ws l).names) client ≡ at_client (x c) ws (closed (length l.names) l1)
    close_client l1 client h fronts =
        let outer = holds_less (x c) ws inner l1 (within_extends (x c) ws inner into) h in
        let framed = holds_framed (x c) ws l1 outer in
        fronts_closed (x c) ws l l1 client (holds_framed (x c) ws l state.holds) state.count framed (fronts_less (x c) ws inner l1 client into framed fronts)

    pub close_done : (last : typed.Scope) → Extends inner last → (l1 : Local) → LocalFits (x c) last l1
        → LocalHolds (x c) inner l1 × (closed (length (at_client (x c) ws l).names) (at_client (x c) last l1) ≡ at_client (x c) ws (closed (length l.names) l1))
    close_done last onward l1 fits =
        let held = holds_less (x c) inner last l1 (within_extends (x c) inner last onward) fits.holds in
        (held, close_client l1 (at_client (x c) last l1) held (fronts_less (x c) inner last l1 (at_client (x c) last l1) onward (holds_framed (x c) inner l1 held) (fronts_same (x c) last l1)))

    -- a fault in the block, behind it
    pub close_went : (r : Raised) (l1 : Local) (s : Outside) (ran other : Ran) (rep : Replayed) (rest : Node) (go : replay.Rest) → Went c inner r l1 s ran rep
        → ((with_side c.p r).remote ≡ true → (other.fault ≡ Some (placed r)) × (other.server ≡ s.server))
        → Went c ws r (closed (length l.names) l1) s other (replay.behind (length (at_client (x c) ws l).names) rest rep go)
    close_went r l1 s ran other rep rest go t far =
        let e = behind_fell (length (at_client (x c) ws l).names) rest rep go (with_side c.p r) t.local s.events t.ends t.events in
        record {
          local = at_client (x c) ws (closed (length l.names) l1);
          fronts = fronts_same (x c) ws (closed (length l.names) l1);
          state = (close_fits l1 t.state).holds;
          ends = ap (λ q. q.outcome) e ∙ ap (Faulted (with_side c.p r)) (close_client l1 t.local t.state t.fronts);
          events = ap (λ q. q.events) e;
          far = far;
        }
