-- An `if` of a batch whose branches hold a remote operation: where it stands, in the script and in the replay.
use Rattle.std.proofs.Common.{◌≡◌, ◌≤◌, refl, sym, ap, ◌∙◌, subst, ℕ, length, Bool as Truth, true, false, cond, Some, Ok}
use Rattle.rb_trees.specs.declared.values.Value.{Value}
use Rattle.rb_trees.specs.declared.values.Value.TheOpen.{Value-F}
use Rattle.rb_trees.specs.declared.values.Value.TheViews.{out-Value}
use Rattle.rb_trees.specs.declared.values.Fault.{Fault}
use Rattle.rb_trees.specs.mirror.Code.{Stmts}
use Rattle.rb_trees.specs.mirror.Forests as forest
use Rattle.rb_trees.specs.mirror.Forests.{Node, Holds as Held, NoEntries, MoreEntries}
use Rattle.rb_trees.specs.mirror.Remainders as part
use Rattle.rb_trees.specs.mirror.Scripts.{Steps}
use Rattle.rb_meaning_types.specs.Kinds as kind
use Rattle.rb_meaning_types.specs.Scopes as typed
use Rattle.rb_meaning_types.specs.Fits.{IsBoolValue}
use Rattle.rb_meaning_code.specs.Faults.{raises, raised_remotely}
use Rattle.rb_meaning_code.specs.State.{Local, closed}
use Rattle.rb_meaning_code.specs.Dialogue.{Outcome, Gave, Faulted, Run, handle, on, next, end}
use Rattle.rb_meaning_code.specs.Statements.{closes, block, truth_of, either, by_truth, performs_all}
use Rattle.rb_meaning_code.specs.Remote.{Server, Reply, and_then, replies}
use Rattle.rb_meaning_code.specs.ScriptRun as run
use Rattle.rb_meaning_code.specs.ScriptRun.{Vars, Ran, in_front, condition, on_reply, goes_on, chosen, branched, run_steps}
use Rattle.rb_meaning_flow.specs.Scopes.{Scope}
use Rattle.rb_meaning.specs.State.{Outside}
use Rattle.rb_meaning_split.specs.Refs.{Refs}
use Rattle.rb_meaning_split.specs.Replay as replay
use Rattle.rb_meaning_split.specs.Replay.{Seen, Replayed}
use Rattle.rb_law_local.specs.Shown.{at_client}
use Rattle.rb_law_local.specs.Meets.{far_side}
use Rattle.rb_law_local.proofs.Meeting.{handle_seq}
use Rattle.rb_law_local.proofs.Names.{Extends, extends_same}
use Rattle.rb_law_local.proofs.Portable.{local_of}
use Rattle.rb_law_division.specs.Faults.{EachFault, IsRemote}
use Rattle.rb_law_client.proofs.Overs.{Onto, over_take}
use Rattle.rb_law_client.proofs.Written.{InScript}
use Rattle.rb_law_client.proofs.Scene.{Scene, x, h, code, Holds, At, at_moved}
use Rattle.rb_law_client.proofs.Goes.{Onward, Went, Goes, at_node}
use Rattle.rb_law_client.proofs.Worth.{Worth}
use Rattle.rb_law_client.proofs.Carried.{stop, stops_here, stop_went}
use Rattle.rb_law_client.proofs.Blocks.{behind_done, BlockGoes, at_up, close_fits, close_done, close_went}

-- the branch that a node begins with
branch_front : (n : ℕ) (holds : Truth) (inner node : Node) (l : Local) (s : Seen) (go : Truth → Node → Node → Replayed) → replay.on_branch n (in_front (forest.Branch holds inner) node) l s go ≡ go holds inner node
branch_front n holds inner (Held es fault) l s go = refl

branch_stops : (n at : ℕ) (fault : Fault) (l : Local) (s : Seen) (go : Truth → Node → Node → Replayed)
    → replay.on_branch n (Held NoEntries (Some (stop n at fault))) l s go ≡ replay.stopped (raised_remotely fault at) l s
branch_stops n at fault l s go = ap (λ q. replay.stopped (replay.missed q) l s) (stops_here n at fault)

-- a truth value has a truth
pub record HasTruth (w : Value-F Value) : Type 0 where
  pub truth : Truth
  pub is : truth_of w ≡ Ok truth

pub bool_truth : (w : Value-F Value) → IsBoolValue w → HasTruth w
bool_truth (Value-F.Bool b) h = record { truth = b; is = refl }
bool_truth Value-F.Unit h = absurd h
bool_truth _ h = absurd h

module _ (c : Scene) (refs : Refs) (m : ℕ) (vs : Scope) (ws : typed.Scope) (vars : Vars) (l : Local) (at : At c refs m vs ws vars l) (n m' : ℕ) (up : m ≤ m') (go : Onward) (ke : replay.Rest) where
  abbrev client : Local
  client = at_client (x c) ws l

  -- what follows the branch in the script
  abbrev on_after : Ran → Ran
  on_after r = goes_on r.fault r.server (λ s2. go vars s2)

  -- a branch that was run, behind its end
  closed_goes : (last : typed.Scope) → Extends ws last → (holds : Truth) (w : Outcome (Unit {0}) × Outside) (r : Ran) (rep : Replayed) → BlockGoes c ws last w r rep → Onto (InScript refs) l (local_of w.0)
      → Goes c refs m' vs ws ws (handle (h c) (closes (length l.names) w.0) w.1) (branched holds r (λ s2. go vars s2)) (replay.behind (length client.names) (on_after r).node rep ke) go ke
  closed_goes last onward holds (Gave u l1, s1) r rep t over =
      let done = close_done c ws ws (extends_same ws ws refl) l at.fits last onward l1 t.fits in
      let k = ap (λ q. goes_on q r.server (λ s2. go vars s2)) t.fault ∙ ap (go vars) t.server in
      record {
        vars = vars;
        at = at_up c refs m m' vs ws vars (closed (length l.names) l1) up
            (at_moved c refs m vs ws vars l (closed (length l.names) l1) at (close_fits c ws ws (extends_same ws ws refl) l at.fits l1 done.0) (over_take (InScript refs) l.names l1.names over));
        holds = t.holds;
        fault = ap (λ q. q.fault) k;
        server = ap (λ q. q.server) k;
        replayed = behind_done (length client.names) (on_after r).node rep ke (at_client (x c) last l1) s1.events t.outcome t.events
            ∙ ap (λ q. ke q (record { events = s1.events; node = (on_after r).node })) done.1
            ∙ ap (λ q. ke (at_client (x c) ws (closed (length l.names) l1)) (record { events = s1.events; node = q.node })) k;
      }
  closed_goes last onward holds (Faulted q l1, s1) r rep t over =
      close_went c ws ws (extends_same ws ws refl) l at.fits q l1 s1 r (branched holds r (λ s2. go vars s2)) rep (on_after r).node ke t (λ is_far.
      let both = t.far is_far in
      let k = ap (λ z. goes_on z r.server (λ s2. go vars s2)) both.0 in
      (ap (λ z. z.fault) k, ap (λ z. z.server) k ∙ both.1))

  -- the branches, with their steps and parts
  module _ (position : ℕ) (a b : Stmts) (sa sb : Steps) (pa pb : part.Parts) where
    abbrev steps_ran : Steps → Server → Ran
    steps_ran sts s1 = run_steps c.ground sts vars s1 run.ended

    abbrev replayed : part.Parts → Outside → Ran → Replayed
    replayed ps o1 r = replay.replay_all c.p.classes c.gas ps client (at_node c o1 r) replay.ended

    -- how a branch goes on
    pub record BranchGoes (block : Stmts) (sts : Steps) (ps : part.Parts) (o1 : Outside) : Type 0 where
      pub last : typed.Scope
      pub onward : Extends ws last
      pub goes : BlockGoes c ws last (handle (h c) (performs_all (code c) c.gas block l) o1) (steps_ran sts o1.server) (replayed ps o1 (steps_ran sts o1.server))
      pub over : Onto (InScript refs) l (local_of (handle (h c) (performs_all (code c) c.gas block l) o1).0)

    abbrev branch_part : part.Part
    branch_part = part.Branch n pa pb

    abbrev whole_ran : Truth → Server → Ran
    whole_ran holds s1 = branched holds (chosen holds (steps_ran sa s1) (steps_ran sb s1)) (λ s2. go vars s2)

    one_goes : (holds : Truth) (o1 : Outside) → BranchGoes a sa pa o1 → BranchGoes b sb pb o1
        → Goes c refs m' vs ws ws (handle (h c) (either holds (block (performs_all (code c) c.gas a)) (block (performs_all (code c) c.gas b)) l) o1) (whole_ran holds o1.server)
        (replay.replay c.p.classes c.gas branch_part client (at_node c o1 (whole_ran holds o1.server)) ke) go ke
    one_goes true o1 first second =
        let r = steps_ran sa o1.server in
        subst (λ w. Goes c refs m' vs ws ws w (whole_ran true o1.server) (replay.replay c.p.classes c.gas branch_part client (at_node c o1 (whole_ran true o1.server)) ke) go ke)
        (sym (handle_seq (h c) (performs_all (code c) c.gas a l) (closes (length l.names)) o1))
        (subst (λ q. Goes c refs m' vs ws ws (handle (h c) (closes (length l.names) (handle (h c) (performs_all (code c) c.gas a l) o1).0) (handle (h c) (performs_all (code c) c.gas a l) o1).1) (whole_ran true o1.server) q go ke)
        (sym (branch_front n true r.node (on_after r).node client (at_node c o1 (whole_ran true o1.server)) _))
        (closed_goes first.last first.onward true (handle (h c) (performs_all (code c) c.gas a l) o1) r (replayed pa o1 r) first.goes first.over))
    one_goes false o1 first second =
        let r = steps_ran sb o1.server in
        subst (λ w. Goes c refs m' vs ws ws w (whole_ran false o1.server) (replay.replay c.p.classes c.gas branch_part client (at_node c o1 (whole_ran false o1.server)) ke) go ke)
        (sym (handle_seq (h c) (performs_all (code c) c.gas b l) (closes (length l.names)) o1))
        (subst (λ q. Goes c refs m' vs ws ws (handle (h c) (closes (length l.names) (handle (h c) (performs_all (code c) c.gas b l) o1).0) (handle (h c) (performs_all (code c) c.gas b l) o1).1) (whole_ran false o1.server) q go ke)
        (sym (branch_front n false r.node (on_after r).node client (at_node c o1 (whole_ran false o1.server)) _))
        (closed_goes second.last second.onward false (handle (h c) (performs_all (code c) c.gas b l) o1) r (replayed pb o1 r) second.goes second.over))

    abbrev decides : Value → Local → Run (Unit {0})
    decides v l1 = by_truth position v (block (performs_all (code c) c.gas a)) (block (performs_all (code c) c.gas b)) l1

    abbrev chooses : Seen → Truth → Node → Node → Replayed
    chooses s holds inner rest =
        replay.behind (length client.names) rest
        (cond holds (replay.replay_all c.p.classes c.gas pa client (record s { node = inner }) replay.ended) (replay.replay_all c.p.classes c.gas pb client (record s { node = inner }) replay.ended)) ke

    abbrev if_ran : Reply Value → Ran
    if_ran reply = on_reply n (and_then reply (condition position)) (λ holds s1. whole_ran holds s1)

    -- the condition, and the branch that it chooses
    pub if_goes : (o : Outside) (w : Outcome Value × Outside) (reply : Reply Value) → Worth c refs m vs ws vars l at kind.Bool o w reply → EachFault (IsRemote c.p) w.0
        → ((o1 : Outside) → Holds c o1 → BranchGoes a sa pa o1) → ((o1 : Outside) → Holds c o1 → BranchGoes b sb pb o1)
        → Goes c refs m' vs ws ws (handle (h c) (on decides w.0) w.1) (if_ran reply) (replay.replay c.p.classes c.gas branch_part client (at_node c o (if_ran reply)) ke) go ke
    if_goes o (Gave v l1, s1) reply worth far first second =
        let t = bool_truth (out-Value v) worth.3 in
        let got : if_ran reply ≡ whole_ran t.truth s1.server =
        ap (λ q. on_reply n (and_then q (condition position)) (λ holds s1. whole_ran holds s1)) worth.1 ∙ ap (λ q. on_reply n (replies position q s1.server) (λ holds s1. whole_ran holds s1)) t.is in
        subst (λ z. Goes c refs m' vs ws ws (handle (h c) (decides v z) s1) (if_ran reply) (replay.replay c.p.classes c.gas branch_part client (at_node c o (if_ran reply)) ke) go ke) (sym worth.0)
        (subst (λ q. Goes c refs m' vs ws ws (handle (h c) (next (end l (raises position q)) (λ holds l1. either holds (block (performs_all (code c) c.gas a)) (block (performs_all (code c) c.gas b)) l1)) s1) (if_ran reply)
        (replay.replay c.p.classes c.gas branch_part client (at_node c o (if_ran reply)) ke) go ke) (sym t.is)
        (subst (λ q. Goes c refs m' vs ws ws (handle (h c) (either t.truth (block (performs_all (code c) c.gas a)) (block (performs_all (code c) c.gas b)) l) s1) q (replay.replay c.p.classes c.gas branch_part client (at_node c o q) ke) go ke) (sym got)
        (subst (λ q. Goes c refs m' vs ws ws (handle (h c) (either t.truth (block (performs_all (code c) c.gas a)) (block (performs_all (code c) c.gas b)) l) s1) (whole_ran t.truth s1.server)
        (replay.replay c.p.classes c.gas branch_part client (record { events = q; node = (whole_ran t.truth s1.server).node }) ke) go ke) worth.2
        (one_goes t.truth s1 (first s1 worth.4) (second s1 worth.4)))))
    if_goes o (Faulted r l1, s1) reply worth far first second =
        let ran = run.stopped n r.at r.fault s1.server in
        let got : if_ran reply ≡ ran = ap (λ q. on_reply n (and_then q (condition position)) (λ holds s1. whole_ran holds s1)) worth.1 in
        subst (λ z. Went c ws r z s1 (if_ran reply) (replay.replay c.p.classes c.gas branch_part client (at_node c o (if_ran reply)) ke)) (sym worth.0)
        (subst (λ z. Went c ws r l s1 z (replay.replay c.p.classes c.gas branch_part client (at_node c o z) ke)) (sym got)
        (stop_went c ws l refs m vs vars at r s1 n (replay.replay c.p.classes c.gas branch_part client (at_node c o ran) ke) far
        (branch_stops n r.at r.fault client (at_node c o ran) (chooses (at_node c o ran)) ∙ ap (λ q. record { outcome = Faulted (far_side r) client; events = q }) (sym worth.2))))
