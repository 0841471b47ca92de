-- What steps did, where the code does their parts one by one.
use Rattle.std.proofs.Common.{◌≡◌, inl, inr, refl, sym, ap, ◌∙◌, subst, ℕ, ◌+◌, ◌<◌, ◌≤◌, ◌%◌, ◌^◌, List, [], ◌∷◌, ◌++◌, append_assoc, length, drop, get_or}
use Rattle.std.proofs.lemmas.List.{drop_all}
use Rattle.std.specs.Prelude.{Bool, true, false, cond, is_some, Option, None, Some, Result, Ok, Err, MatchResult}
use Rattle.rb_trees.specs.Outcome.{Gives, ◌>>◌}
use Rattle.rb_trees.specs.declared.values.Value.{Value}
use Rattle.rb_trees.specs.declared.values.Fault.{Fault}
use Rattle.rb_trees.specs.declared.forests.NodeFault.{NodeFault}
use Rattle.rb_trees.specs.declared.scripts.Step.{Step}
use Rattle.rb_trees.specs.declared.scripts.SExpr.{SExpr}
use Rattle.rb_trees.specs.declared.versions.Version.{Version}
use Rattle.rb_trees.specs.mirror.Forests as forest
use Rattle.rb_trees.specs.mirror.Forests.{Entries, NoEntries, MoreEntries}
use Rattle.rb_trees.specs.mirror.Scripts as script
use Rattle.rb_trees.specs.mirror.Scripts.{Steps, mirror_step, mirror_steps}
use Rattle.rb_meaning_bytes.specs.formats.Fields.{number, truth}
use Rattle.rb_meaning_bytes.specs.formats.ForestBytes.{entries_bytes}
use Rattle.rb_meaning_code.specs.Remote.{Server, Reply, Got, Stopped, and_then, replies}
use Rattle.rb_meaning_code.specs.ScriptRun.{Ground, Vars, PlacedFault, Ran, ended, stopped, halted, with_entry, with_kept, on_reply, may_keep, kept, goes_on, chosen, branched, condition, rows_of, items_of, turns, turn_over, walked, run_step, run_steps}
use Rattle.rb_wire_fields.specs.Buffers.{Keeps}
use Rattle.rb_wire_fields.proofs.Kept.{keeps_same, keeps_after}
use Rattle.rb_engine.specs.Ends as failed
use Rattle.rb_engine.specs.Misses.{Means}
use Rattle.rb_engine.specs.declared.ends.Failure.{Failure}
use Rattle.rb_engine.specs.declared.misses.Miss.{Miss}
use Rattle.rb_engine.specs.declared.misses.Miss.TheVariants as miss
use Rattle.rb_exec.specs.Holes.{filled}
use Rattle.rb_exec.specs.Written.{Written, written, AddsEntries, Gains}
use Rattle.rb_exec.specs.Blocks.{with_entries, Does, Extends, Binds, Did, Closes, WroteNode, Ended, one_value, first_entries}
use Rattle.rb_exec.specs.Ends.{AtStep, Gets, Ruled, StopsBy, UnlessMemory}
use Rattle.rb_exec.specs.Stages.{Rest, Meaning, ground, site_value, with_first, if_kept, block_run, block_from, step_run, steps_run, if_run, each_run, over_run, row_run, turns_run, walk_run}
use Rattle.rb_exec.specs.Bindings.{oldest}
use Rattle.rb_exec.specs.declared.stage.Stage.{Stage}
use Rattle.rb_exec.specs.declared.stage.Site.{Site}
use Rattle.rb_exec.specs.declared.turns.Walk.{Walk}
use Rattle.rb_exec.specs.declared.ends.Stop.{Stop}
use Rattle.rb_exec.specs.declared.ends.Stop.TheVariants as stop
use Rattle.rb_exec.proofs.Dropped.{dropped_one}
use Rattle.rb_exec.proofs.Guided.{oldest_of}
use Rattle.rb_exec.proofs.Replies.{ruled}
use Rattle.rb_exec.proofs.Entries.{entries_after, with_after, adds_both, gains_none, adds_keeps, branch_added, first_is, kept_first, wrote}

pub extends_itself : {vars : Vars} → Extends vars vars
extends_itself = ([], refl)

pub extends_far : {a b c : Vars} → Extends a b → Extends b c → Extends a c
extends_far {a = a} (more, e) (further, f) = (further ++ more, f ∙ ap (λ vs. further ++ vs) e ∙ sym (append_assoc further more a))

pub by_result : {version : Version} {m : Meaning} {before after : Written version} {old new : Vars} {r r1 : Result (Unit {0}) Stop} {s : Server}
    → r ≡ r1 → Did m before old r1 after new s → Did m before old r after new s
by_result {m = m} {before = before} {after = after} {old = old} {new = new} {s = s} e d = subst (λ x. Did m before old x after new s) (sym e) d

does_as : {version : Version} (r : Result (Unit {0}) Stop) (m m1 : Meaning) (before after : Written version) (new : Vars) (s : Server)
    → ((go : Rest) → m go ≡ m1 go) → Does m1 before r after new s → Does m before r after new s
does_as (Ok u) m m1 before after new s e d = record { entries = d.entries; adds = d.adds; says = λ go. e go ∙ d.says go }
does_as (Err (stop.Fault f)) m m1 before after new s e d = record { entries = d.entries; adds = d.adds; says = λ go. e go ∙ d.says go }
does_as (Err stop.Within) m m1 before after new s e d = record { entries = d.entries; adds = d.adds; says = (d.says.0, λ go. e go ∙ d.says.1 go) }
does_as (Err stop.Memory) m m1 before after new s e d = d

-- the same whatever follows
pub as_step : {version : Version} {m m1 : Meaning} {before after : Written version} {old new : Vars} {r : Result (Unit {0}) Stop} {s : Server}
    → ((go : Rest) → m go ≡ m1 go) → Did m1 before old r after new s → Did m before old r after new s
as_step {m = m} {m1 = m1} {before = before} {after = after} {new = new} {r = r} {s = s} e d = record { does = does_as r m m1 before after new s e d.does; binds = d.binds }

-- behind entries that were added before
does_behind : {version : Version} (r : Result (Unit {0}) Stop) (m m1 : Meaning) (before mid after : Written version) (new : Vars) (s : Server)
    → Gains before mid (λ es. (go : Rest) → m go ≡ with_entries es (m1 go)) → Does m1 mid r after new s → Does m before r after new s
does_behind (Ok u) m m1 before mid after new s g d = record {
  entries = entries_after g.entries d.entries;
  adds = adds_both g.entries d.entries before mid after g.adds d.adds;
  says = λ go. g.says go ∙ ap (with_entries g.entries) (d.says go) ∙ sym (with_after g.entries d.entries (go new s));
}
does_behind (Err (stop.Fault f)) m m1 before mid after new s g d = record {
  entries = entries_after g.entries d.entries;
  adds = adds_both g.entries d.entries before mid after g.adds d.adds;
  says = λ go. g.says go ∙ ap (with_entries g.entries) (d.says go) ∙ sym (with_after g.entries d.entries (stopped f.step f.at f.fault s));
}
does_behind (Err stop.Within) m m1 before mid after new s g d = record {
  entries = entries_after g.entries d.entries;
  adds = adds_both g.entries d.entries before mid after g.adds d.adds;
  says = (d.says.0, λ go. g.says go ∙ ap (with_entries g.entries) (d.says.1 go) ∙ sym (with_after g.entries d.entries (halted d.says.0 s)));
}
does_behind {version = version} (Err stop.Memory) m m1 before mid after new s g d = keeps_after before.bytes mid.bytes after.bytes (entries_bytes version g.entries) g.adds.bytes d

pub did_behind : {version : Version} {m m1 : Meaning} {before mid after : Written version} {old new : Vars} {r : Result (Unit {0}) Stop} {s : Server}
    → Gains before mid (λ es. (go : Rest) → m go ≡ with_entries es (m1 go)) → Did m1 mid old r after new s → Did m before old r after new s
did_behind {m = m} {m1 = m1} {before = before} {mid = mid} {after = after} {new = new} {r = r} {s = s} g d =
    record { does = does_behind r m m1 before mid after new s g d.does; binds = d.binds }

-- however the steps ended, the buffer kept its bytes
does_keeps : {version : Version} (r : Result (Unit {0}) Stop) (m : Meaning) (before after : Written version) (new : Vars) (s : Server) → Does m before r after new s → Keeps before.bytes after.bytes
does_keeps (Ok u) m before after new s d = adds_keeps d.adds
does_keeps (Err (stop.Fault f)) m before after new s d = adds_keeps d.adds
does_keeps (Err stop.Within) m before after new s d = adds_keeps d.adds
does_keeps (Err stop.Memory) m before after new s d = d

pub did_keeps : {version : Version} {m : Meaning} {before after : Written version} {old new : Vars} {r : Result (Unit {0}) Stop} {s : Server} → Did m before old r after new s → Keeps before.bytes after.bytes
did_keeps {m = m} {before = before} {after = after} {new = new} {r = r} {s = s} d = does_keeps r m before after new s d.does

pub went_on : {version : Version} {before : Written version} {vars : Vars} {s : Server} → Did (λ go. go vars s) before vars (Ok tt) before vars s
went_on {before = before} = record { does = gains_none before (λ go. refl); binds = extends_itself }

-- for want of memory nothing is said, but that the buffer kept its bytes
pub want : {version : Version} {m : Meaning} {before after : Written version} {old new : Vars} {r : Result (Unit {0}) Stop} {s : Server}
    → r ≡ Err stop.Memory → Keeps before.bytes after.bytes → Did m before old r after new s
want is k = by_result is (record { does = k; binds = tt })

pub wanted : {version : Version} {m : Meaning} {before after : Written version} {old new : Vars} {r : Result (Unit {0}) Stop} {h : Stop} {s : Server}
    → r ≡ Err h → h ≡ stop.Memory → Keeps before.bytes after.bytes → Did m before old r after new s
wanted is e k = want (is ∙ ap Err e) k

-- an expression gave its value to the step
value_at : {A : Type 0} (id : ℕ) (t : Result A Miss) (r : Result A Stop) (a : A) → AtStep id t r → r ≡ Ok a → t ≡ Ok a
value_at id (Ok b) r a is e = let same : b ≡ a = cc (is, e) in ap Ok same
value_at id (Err (miss.Fault at f)) (Ok b) a is e = absurd is
value_at id (Err (miss.Fault at f)) (Err h) a is e = absurd (cc e)
value_at id (Err miss.Memory) r a is e = absurd (cc (is, e))

pub on_value : {version : Version} {A : Type 0} {m : Reply A} {t : Result A Stop} {a : A} {s1 s2 : Server} {before after : Written version} {old new : Vars} {r : Result (Unit {0}) Stop} {id : ℕ} (k : A → Server → Meaning)
    → Gets id m t s1 → t ≡ Ok a → Did (k a s1) before old r after new s2 → Did (λ go. on_reply id m (λ b s. k b s go)) before old r after new s2
on_value {m = m} {t = t} {a = a} {s1 = s1} {id = id} k h was d =
    let gave : m ≡ Got a s1 = subst (λ x. Means m x s1) (value_at id h.outcome t a h.so was) h.replied.means in
    as_step (λ go. ap (λ x. on_reply id x (λ b s. k b s go)) gave) d

-- steps that a fault of their node ends, unless its room is wanting
pub stopped_by : {version : Version} {m : Meaning} (w : Written version) (vars : Vars) (s : Server) (f : NodeFault) (r : Result (Unit {0}) Stop) → MatchResult r (λ u. ⊥) (StopsBy f)
    → ((go : Rest) → m go ≡ stopped f.step f.at f.fault s) → Did m w vars r w vars s
stopped_by w vars s f (Ok u) is e = absurd is
stopped_by w vars s f (Err h) (inl is) e = by_result (ap Err is) (record { does = gains_none w e; binds = extends_itself })
stopped_by w vars s f (Err h) (inr is) e = want (ap Err is) (keeps_same w.bytes w.bytes refl)

-- it gave none, and the steps are over
faulted : {version : Version} {A : Type 0} (m : Reply A) (t : Result A Miss) (r : Result A Stop) (h : Stop) (s : Server) (before : Written version) (vars : Vars) (id : ℕ) (k : A → Server → Meaning)
    → Means m t s → AtStep id t r → r ≡ Err h → Did (λ go. on_reply id m (λ b s1. k b s1 go)) before vars (Err h) before vars s
faulted m (Ok a) r h s before vars id k d is e = absurd (cc (is, e))
faulted m (Err (miss.Fault at f)) (Ok b) h s before vars id k d is e = absurd is
faulted m (Err (miss.Fault at f)) (Err g) h s before vars id k d is e =
    let same : g ≡ h = cc e in
    stopped_by before vars s (record { step = id; at = at; fault = f }) (Err h) (subst (StopsBy (record { step = id; at = at; fault = f })) same is) (λ go. ap (λ x. on_reply id x (λ b s1. k b s1 go)) d)
faulted m (Err miss.Memory) r h s before vars id k d is e =
    let same : stop.Memory ≡ h = cc (is, e) in
    want (ap Err (sym same)) (keeps_same before.bytes before.bytes refl)

pub on_fault : {version : Version} {A : Type 0} {m : Reply A} {t : Result A Stop} {h : Stop} {s : Server} {before : Written version} {vars : Vars} {r : Result (Unit {0}) Stop} {id : ℕ} (k : A → Server → Meaning)
    → Gets id m t s → t ≡ Err h → r ≡ Err h → Did (λ go. on_reply id m (λ b s1. k b s1 go)) before vars r before vars s
on_fault {m = m} {t = t} {h = h} {s = s} {before = before} {vars = vars} {id = id} k d was e =
    by_result e (faulted m d.outcome t h s before vars id k d.replied.means d.so was)

-- what a rule gives at the position of a step
pub on_rule : {A : Type 0} {t : Result A Stop} {s : Server} {id : ℕ} (at : ℕ) (o : Result A Failure) (d : Result A Fault) → Gives (λ a. a) failed.fault_of o d → Ruled id at o t → Gets id (replies at d s) t s
on_rule at o d g is = record { outcome = is.placed; replied = ruled at o d g is.at_place; so = is.at_step }

-- two replies in a step, one after the other
pub both_replies : {A B : Type 0} (id : ℕ) (m : Reply A) (n : A → Server → Reply B) (k : B → Server → Ran)
    → on_reply id (and_then m n) k ≡ on_reply id m (λ a s. on_reply id (n a s) k)
both_replies id (Got a s) n k = refl
both_replies id (Stopped at f s) n k = refl

kept_by : (id at : ℕ) (c : Result (Unit {0}) Fault) (v : Value) (s : Server) (k : Value → Server → Ran)
    → on_reply id (replies at (c >> Ok v) s) k ≡ on_reply id (replies at c s) (λ u s1. k v s1)
kept_by id at (Ok u) v s k = refl
kept_by id at (Err f) v s k = refl

-- a value, and what is asked of it where it is kept
pub kept_value : (id at : ℕ) (keep : Bool) (m : Reply Value) (k : Value → Server → Ran)
    → on_reply id (and_then m (kept keep at)) k ≡ on_reply id m (λ v s. on_reply id (replies at (may_keep keep v) s) (λ u s1. k v s1))
kept_value id at keep (Got v s) k = kept_by id at (may_keep keep v) v s k
kept_value id at keep (Stopped place f s) k = refl

pub added_value : {version : Version} {before after : Written version} {vars : Vars} {s : Server} (v : Value) → AddsEntries (one_value v) before after
    → Did (λ go. with_entry (forest.Value v) (go vars s)) before vars (Ok tt) after vars s
added_value v g = record { does = record { entries = one_value v; adds = g; says = λ go. refl }; binds = extends_itself }

pub bound_kept : {version : Version} {before after : Written version} {old new : Vars} {s : Server} (keep : Bool) (variable : ℕ) (v : Value) (first : Option Value) → first ≡ if_kept keep v → AddsEntries (first_entries first) before after → new ≡ (variable, v) ∷ old
    → Did (λ go. with_kept keep v (go ((variable, v) ∷ old) s)) before old (Ok tt) after new s
bound_kept {before = before} {old = old} {new = new} {s = s} keep variable v first e g f = record {
  does = record {
    entries = first_entries first;
    adds = g;
    says = λ go. kept_first keep v (go ((variable, v) ∷ old) s) ∙ ap (λ x. with_first x (go ((variable, v) ∷ old) s)) (sym e)
        ∙ first_is first (go ((variable, v) ∷ old) s) ∙ ap (λ vs. with_entries (first_entries first) (go vs s)) (sym f);
  };
  binds = ((variable, v) ∷ [], f);
}

-- branches

pub choice : (g : Ground) (holds : Bool) (a b : Steps) (vars : Vars) (s : Server)
    → chosen holds (run_steps g a vars s ended) (run_steps g b vars s ended) ≡ run_steps g (cond holds a b) vars s ended
choice g true a b vars s = refl
choice g false a b vars s = refl

free : (f : Option PlacedFault) (s : Server) (go : Server → Ran) → false ≡ is_some f → goes_on f s go ≡ go s
free None s go e = refl
free (Some f) s go e = absurd (cc e)

held : (f : Option PlacedFault) (s : Server) → true ≡ is_some f → (x : PlacedFault) × ((go : Server → Ran) → goes_on f s go ≡ halted x s)
held None s e = absurd (cc e)
held (Some f) s e = (f, λ go. refl)

pub branch_went : {version : Version} {vars : Vars} {s : Server} (holds : Bool) (r : Ran) (old front new : List ℕ) (count counted : ℕ) (halts : Bool)
    → front ≡ old ++ 0x32 ∷ truth holds → WroteNode version r front halts new s → counted ≡ (count + 1) % 2 ^ 32 → halts ≡ false
    → Did (λ go. branched holds r (λ s1. go vars s1)) (written version old count) vars (Ok tt) (written version new counted) vars s
branch_went {vars = vars} {s = s} holds r old front new count counted halts f w c off = record {
  does = record {
    entries = MoreEntries (forest.Branch holds r.node) NoEntries;
    adds = branch_added holds r.node old front new count counted f w.bytes c;
    says = λ go.
        ap (with_entry (forest.Branch holds r.node)) (free r.fault r.server (λ s1. go vars s1) (sym off ∙ w.stopped_so))
        ∙ ap (λ x. with_entry (forest.Branch holds r.node) (go vars x)) (sym w.server_so);
  };
  binds = extends_itself;
}

pub branch_stopped : {version : Version} {vars : Vars} {s : Server} (holds : Bool) (r : Ran) (old front new : List ℕ) (count counted : ℕ) (halts : Bool)
    → front ≡ old ++ 0x32 ∷ truth holds → WroteNode version r front halts new s → counted ≡ (count + 1) % 2 ^ 32 → halts ≡ true
    → Did (λ go. branched holds r (λ s1. go vars s1)) (written version old count) vars (Err stop.Within) (written version new counted) vars s
branch_stopped {vars = vars} {s = s} holds r old front new count counted halts f w c on =
    let h = held r.fault r.server (sym on ∙ w.stopped_so) in
    record {
      does = record {
        entries = MoreEntries (forest.Branch holds r.node) NoEntries;
        adds = branch_added holds r.node old front new count counted f w.bytes c;
        says = (
          h.0,
          λ go.
              ap (with_entry (forest.Branch holds r.node)) (h.1 (λ s1. go vars s1))
              ∙ ap (λ x. with_entry (forest.Branch holds r.node) (halted h.0 x)) (sym w.server_so),
        );
      };
      binds = extends_itself;
    }

-- blocks

-- the node of steps that gained their entries behind a hole
ends_so : {version : Version} (r : Result (Unit {0}) Stop) (m : Meaning) (old holed now new : List ℕ) (at count : ℕ) (halts : Bool) (vars : Vars) (s : Server) → at ≡ length old → holed ≡ old ++ number 0
    → Does m (written version holed 0) r (written version now count) vars s → Ended version r (filled at (number count) now) halts new → WroteNode version (m ended) old halts new s
ends_so (Ok u) m old holed now new at count halts vars s a h d e =
    wrote d.entries None (m ended) (ended vars s) old holed now new at count halts s a h d.adds e.1 (d.says ended) refl e.0 refl
ends_so (Err (stop.Fault f)) m old holed now new at count halts vars s a h d e =
    wrote d.entries (Some f) (m ended) (stopped f.step f.at f.fault s) old holed now new at count halts s a h d.adds e.1 (d.says ended) refl e.0 refl
ends_so (Err stop.Within) m old holed now new at count halts vars s a h d e =
    wrote d.entries None (m ended) (halted d.says.0 s) old holed now new at count halts s a h d.adds e.1 (d.says.1 ended) refl e.0 refl
ends_so (Err stop.Memory) m old holed now new at count halts vars s a h d e = absurd e

pub block_so : {version : Version} {m : Meaning} {vars mid : Vars} {s : Server} (r : Result (Unit {0}) Stop) (first : Option Value) (old holed headed now new : List ℕ) (at begun count : ℕ) (halts : Bool)
    → at ≡ length old → holed ≡ old ++ number 0 → AddsEntries (first_entries first) (written version holed 0) (written version headed begun) → Did m (written version headed begun) vars r (written version now count) mid s
    → Ended version r (filled at (number count) now) halts new → WroteNode version (with_first first (m ended)) old halts new s
block_so {version = version} {m = m} {mid = mid} {s = s} r first old holed headed now new at begun count halts a h f d e =
    ends_so r (λ go. with_first first (m go)) old holed now new at count halts mid s a h
    (does_behind r (λ go. with_first first (m go)) m (written version holed 0) (written version headed begun) (written version now count) mid s (record { entries = first_entries first; adds = f; says = λ go. first_is first (m go) }) d.does) e

binds_far : (h : Stop) (a b c : Vars) → Extends a b → Binds (Err h) b c → Binds (Err h) a c
binds_far (stop.Fault f) a b c e x = extends_far e x
binds_far stop.Within a b c e x = extends_far e x
binds_far stop.Memory a b c e x = tt

-- what a stop says, whatever follows the step
stops : {version : Version} (h : Stop) (m : Meaning) (before after : Written version) (new : Vars) (s : Server) (f : Rest → Rest) → Does m before (Err h) after new s → Does (λ go. m (f go)) before (Err h) after new s
stops (stop.Fault x) m before after new s f d = record { entries = d.entries; adds = d.adds; says = λ go. d.says (f go) }
stops stop.Within m before after new s f d = record { entries = d.entries; adds = d.adds; says = (d.says.0, λ go. d.says.1 (f go)) }
stops stop.Memory m before after new s f d = d

-- steps in order, one by one: those from a place on are what is left of the steps
pub record LeadsOn {version : Version} (st : Stage) (steps : List Step) (before : Written version) (old : Vars) (s : Server) (i : ℕ) (after : Written version) (new : Vars) (s1 : Server) : Type 0 where
  pub leads : Gains before after (λ es. (go : Rest) → steps_run st steps old s go ≡ with_entries es (steps_run st (drop i steps) new s1 go))
  pub binds : Extends old new

pub leads_begin : {version : Version} {st : Stage} {steps : List Step} {w : Written version} {vars : Vars} {s : Server} → LeadsOn st steps w vars s 0 w vars s
leads_begin {w = w} = record { leads = gains_none w (λ go. refl); binds = extends_itself }

-- the meaning of a step with those behind it
abbrev pub rest_run : Stage → List Step → ℕ → Rest → Rest
rest_run st steps i go vars s = steps_run st (drop (i + 1) steps) vars s go

steps_on : (st : Stage) (steps : List Step) (i : ℕ) (step : Step) (vars : Vars) (s : Server) (go : Rest) → i < length steps → step ≡ get_or steps i step
    → steps_run st (drop i steps) vars s go ≡ step_run st step vars s (rest_run st steps i go)
steps_on st steps i step vars s go l e = ap (λ xs. steps_run st xs vars s go) (dropped_one steps i step l e)

-- so far, and the next step
led : {version : Version} (st : Stage) (steps : List Step) (before mid : Written version) (old vars : Vars) (s s1 : Server) (i : ℕ) (step : Step) → i < length steps → step ≡ get_or steps i step
    → Gains before mid (λ es. (go : Rest) → steps_run st steps old s go ≡ with_entries es (steps_run st (drop i steps) vars s1 go))
    → Gains before mid (λ es. (go : Rest) → steps_run st steps old s go ≡ with_entries es (step_run st step vars s1 (rest_run st steps i go)))
led st steps before mid old vars s s1 i step l e g =
    record { entries = g.entries; adds = g.adds; says = λ go. g.says go ∙ ap (with_entries g.entries) (steps_on st steps i step vars s1 go l e) }

leads_far : {version : Version} (st : Stage) (steps : List Step) (before mid after : Written version) (old vars vars1 : Vars) (s s1 s2 : Server) (i : ℕ) (step : Step)
    → Gains before mid (λ es. (go : Rest) → steps_run st steps old s go ≡ with_entries es (step_run st step vars s1 (rest_run st steps i go)))
    → Gains mid after (λ es. (go : Rest) → step_run st step vars s1 go ≡ with_entries es (go vars1 s2))
    → Gains before after (λ es. (go : Rest) → steps_run st steps old s go ≡ with_entries es (steps_run st (drop (i + 1) steps) vars1 s2 go))
leads_far st steps before mid after old vars vars1 s s1 s2 i step g d = record {
  entries = entries_after g.entries d.entries;
  adds = adds_both g.entries d.entries before mid after g.adds d.adds;
  says = λ go. g.says go ∙ ap (with_entries g.entries) (d.says (rest_run st steps i go)) ∙ sym (with_after g.entries d.entries (steps_run st (drop (i + 1) steps) vars1 s2 go));
}

pub leads_more : {version : Version} {st : Stage} {steps : List Step} {before mid after : Written version} {old vars vars1 : Vars} {s s1 s2 : Server} {i : ℕ} {r : Result (Unit {0}) Stop} {u : Unit {0}} (step : Step) → i < length steps → step ≡ get_or steps i step
    → LeadsOn st steps before old s i mid vars s1 → Did (step_run st step vars s1) mid vars r after vars1 s2 → r ≡ Ok u → LeadsOn st steps before old s (i + 1) after vars1 s2
leads_more {st = st} {steps = steps} {before = before} {mid = mid} {after = after} {old = old} {vars = vars} {vars1 = vars1} {s = s} {s1 = s1} {s2 = s2} {i = i} step l e h d is = record {
  leads = leads_far st steps before mid after old vars vars1 s s1 s2 i step (led st steps before mid old vars s s1 i step l e h.leads)
      (subst (λ x. Does (step_run st step vars s1) mid x after vars1 s2) is d.does);
  binds = extends_far h.binds (subst (λ x. Binds x vars vars1) is d.binds);
}

pub leads_cut : {version : Version} {st : Stage} {steps : List Step} {before mid after : Written version} {old vars vars1 : Vars} {s s1 s2 : Server} {i : ℕ} {t r : Result (Unit {0}) Stop} {h : Stop} (step : Step) → i < length steps → step ≡ get_or steps i step
    → LeadsOn st steps before old s i mid vars s1 → Did (step_run st step vars s1) mid vars t after vars1 s2 → t ≡ Err h → r ≡ Err h → Did (steps_run st steps old s) before old r after vars1 s2
leads_cut {st = st} {steps = steps} {before = before} {mid = mid} {after = after} {old = old} {vars = vars} {vars1 = vars1} {s = s} {s1 = s1} {s2 = s2} {i = i} {h = h} step l e on d is so =
    by_result so (record {
      does = does_behind (Err h) (steps_run st steps old s) (λ go. step_run st step vars s1 (rest_run st steps i go)) before mid after vars1 s2 (led st steps before mid old vars s s1 i step l e on.leads)
          (stops h (step_run st step vars s1) mid after vars1 s2 (rest_run st steps i) (subst (λ x. Does (step_run st step vars s1) mid x after vars1 s2) is d.does));
      binds = binds_far h old vars vars1 on.binds (subst (λ x. Binds x vars vars1) is d.binds);
    })

pub leads_end : {version : Version} {st : Stage} {steps : List Step} {before after : Written version} {old vars : Vars} {s s1 : Server} {i : ℕ} → length steps ≤ i
    → LeadsOn st steps before old s i after vars s1 → Did (steps_run st steps old s) before old (Ok tt) after vars s1
leads_end {st = st} {steps = steps} {vars = vars} {s1 = s1} {i = i} l h = record {
  does = record {
    entries = h.leads.entries;
    adds = h.leads.adds;
    says = λ go. h.leads.says go ∙ ap (λ xs. with_entries h.leads.entries (steps_run st xs vars s1 go)) (drop_all i steps l);
  };
  binds = h.binds;
}

-- the bindings of a block go at its end
closes_by : {count : ℕ} {old mid new : Vars} → Extends old mid → new ≡ oldest count mid → Closes count old new
closes_by {count = count} (added, a) e more rest was is =
    e ∙ ap (oldest count) (a ∙ ap (λ vs. added ++ vs) was ∙ sym (append_assoc added more rest)) ∙ ap (λ n. oldest n ((added ++ more) ++ rest)) is ∙ oldest_of (added ++ more) rest

extends_so : (version : Version) (old mid : Vars) (before after : List ℕ) (halts : Bool) (r : Result (Unit {0}) Stop) → Binds r old mid → Ended version r before halts after → Extends old mid
extends_so version old mid before after halts (Ok u) b f = b
extends_so version old mid before after halts (Err (stop.Fault x)) b f = b
extends_so version old mid before after halts (Err stop.Within) b f = b
extends_so version old mid before after halts (Err stop.Memory) b f = absurd f

pub closes_so : {version : Version} {count : ℕ} {m : Meaning} {before after : Written version} {old mid new : Vars} {s : Server} (r : Result (Unit {0}) Stop) (was now : List ℕ) (halts : Bool)
    → Did m before old r after mid s → Ended version r was halts now → new ≡ oldest count mid → Closes count old new
closes_so {version = version} {old = old} {mid = mid} r was now halts d f e = closes_by (extends_so version old mid was now halts r d.binds f) e

-- the same variables are left
pub back_to : {version : Version} {m : Meaning} {before after : Written version} {old new : Vars} {r : Result (Unit {0}) Stop} {s : Server} → new ≡ old → Did m before old r after old s → Did m before old r after new s
back_to {m = m} {before = before} {after = after} {old = old} {r = r} {s = s} e d = subst (λ vs. Did m before old r after vs s) (sym e) d

-- a step of a known form
pub of_step : {version : Version} {before after : Written version} {old new : Vars} {r : Result (Unit {0}) Stop} {s1 : Server} {m : script.Step} (st : Stage) (step : Step) (vars : Vars) (s : Server) → mirror_step step ≡ m
    → Did (λ go. run_step (ground st) m vars s go) before old r after new s1 → Did (step_run st step vars s) before old r after new s1
of_step st step vars s is d = as_step (λ go. ap (λ x. run_step (ground st) x vars s go) is) d

-- the branch that is chosen
abbrev pub branch_of : Site → Bool → List Step → List Step → Vars → Server → Ran
branch_of site holds a b vars s = chosen holds (block_run site.stage.now a vars s) (block_run site.stage.now b vars s)

-- the block that a condition chose
pub branch_run : {version : Version} (site : Site) (holds : Bool) (a b steps : List Step) (vars : Vars) (s s1 : Server) (old new : List ℕ) (halts : Bool) → steps ≡ cond holds a b
    → WroteNode version (block_from site.stage.now None steps vars s) old halts new s1 → WroteNode version (branch_of site holds a b vars s) old halts new s1
branch_run {version = version} site true a b steps vars s s1 old new halts e run = subst (λ xs. WroteNode version (block_run site.stage.now xs vars s) old halts new s1) e run
branch_run {version = version} site false a b steps vars s s1 old new halts e run = subst (λ xs. WroteNode version (block_run site.stage.now xs vars s) old halts new s1) e run

-- what holds of a block unless memory ran out
pub unless_run : {m m1 : Ran} (version : Version) (q : Result Bool Stop) (old new : List ℕ) (s : Server) → m1 ≡ m → UnlessMemory q (λ b. WroteNode version m old b new s) → UnlessMemory q (λ b. WroteNode version m1 old b new s)
unless_run version q old new s e h = subst (λ x. UnlessMemory q (λ b. WroteNode version x old b new s)) (sym e) h

pub unless_closes : {count variable : ℕ} {v : Value} {old mid : Vars} (new : Vars) (q : Result Bool Stop) → UnlessMemory q (λ b. Closes count mid new) → mid ≡ (variable, v) ∷ old → count ≡ length old → UnlessMemory q (λ b. new ≡ old)
unless_closes {variable = variable} {v = v} {old = old} new (Ok b) h e n = h ((variable, v) ∷ []) old e n
unless_closes new (Err x) h e n = h

-- an `If`: its condition, and then the branch
pub if_so : {version : Version} {before after : Written version} {old new : Vars} {r : Result (Unit {0}) Stop} {s1 : Server} (site : Site) (e : SExpr) (a b : List Step) (vars : Vars) (s : Server)
    → Did (λ go. on_reply site.id (site_value site vars e s) (λ v s2. on_reply site.id (condition site.at v s2) (λ holds s3. branched holds (branch_of site holds a b vars s3) (λ s4. go vars s4)))) before old r after new s1
    → Did (if_run site e a b vars s) before old r after new s1
if_so site e a b vars s d =
    as_step (λ go. both_replies site.id (site_value site vars e s) (condition site.at) (λ holds s3. branched holds (branch_of site holds a b vars s3) (λ s4. go vars s4))) d

-- an `Each`: its rows, and then the turns
pub each_so : {version : Version} {before after : Written version} {old new : Vars} {r : Result (Unit {0}) Stop} {s1 : Server} (w : Walk) (e : SExpr) (vars : Vars) (s : Server)
    → Did (λ go. on_reply w.site.id (site_value w.site vars e s) (λ v s2. on_reply w.site.id (rows_of w.site.at v s2) (λ rows s3. walked w.site.id w.site.at (turns_run w rows vars s3) (λ s4. go vars s4)))) before old r after new s1
    → Did (each_run w e vars s) before old r after new s1
each_so w e vars s d =
    as_step (λ go. both_replies w.site.id (site_value w.site vars e s) (rows_of w.site.at) (λ rows s3. walked w.site.id w.site.at (turns_run w rows vars s3) (λ s4. go vars s4))) d

-- an `Over`: the items of its list, and then the turns, which keep none
pub over_so : {version : Version} {before after : Written version} {old new : Vars} {r : Result (Unit {0}) Stop} {s1 : Server} (w : Walk) (input : ℕ) (vars : Vars) (s : Server) → w.keep ≡ false
    → Did (λ go. on_reply w.site.id (items_of (ground w.site.stage.now) w.site.at input s) (λ items s2. walk_run w items vars s2 go)) before old r after new s1
    → Did (over_run w input vars s) before old r after new s1
over_so w input vars s plain d =
    as_step (λ go. ap (λ keep. on_reply w.site.id (items_of (ground w.site.stage.now) w.site.at input s) (λ items s2.
    walked w.site.id w.site.at (turns (λ item s3. turn_over w.site.id w.site.at keep (row_run w item vars) item s3) items s2) (λ s3. go vars s3))) (sym plain)) d
