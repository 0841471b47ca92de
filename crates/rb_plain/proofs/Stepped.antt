-- How statements are performed one after the other.
use Rattle.std.proofs.Common.{◌≡◌, refl, sym, ap, ◌∙◌, subst, ℕ, suc, ◌+◌, ◌-◌, ◌<◌, ◌≤◌, List, [], ◌∷◌, ◌++◌, append-nil, arith, length, drop, get_or}
use Rattle.std.proofs.lemmas.List.{drop_all}
use Rattle.std.specs.List.{flat_map}
use Rattle.std.specs.Prelude.{Bool, true, false, cond, OnOk, Result, Ok, Err}
use Rattle.rb_trees.specs.declared.values.Value.{Value, out-Value}
use Rattle.rb_trees.specs.declared.values.Value.TheVariants as value
use Rattle.rb_trees.specs.declared.values.Fault.{Fault}
use Rattle.rb_trees.specs.declared.code.Expr as expr
use Rattle.rb_trees.specs.declared.code.Stmt as stmt
use Rattle.rb_trees.specs.mirror.Code as code
use Rattle.rb_trees.specs.mirror.Code.{Stmt, mirror_expr, mirror_stmt, mirror_stmts}
use Rattle.rb_meaning_code.specs.Calls.{unit_due}
use Rattle.rb_meaning_code.specs.Faults.{fuel_used}
use Rattle.rb_meaning_code.specs.State.{Names}
use Rattle.rb_meaning_code.specs.Remote.{Server, Reply, Got, Stopped, and_then, replies, rows_in}
use Rattle.rb_meaning_code.specs.Statements.{truth_of}
use Rattle.rb_meaning_flow.specs.declared.forms.PlacedForm.{PlacedForm}
use Rattle.rb_meaning_flow.specs.Facts.{facts_of}
use Rattle.rb_meaning_flow.specs.Forms.{placed_form}
use Rattle.rb_meaning_flow.specs.declared.scopes.Role.{Role}
use Rattle.rb_meaning_flow.specs.Scopes.{Scope, with_variable}
use Rattle.rb_meaning_flow.specs.Sites.{own, scope_after}
use Rattle.rb_meaning.specs.ConstantLists.{items_named}
use Rattle.rb_meaning.specs.RemoteExprs.{remote_in, remote_of}
use Rattle.rb_meaning.specs.RemotePart as part
use Rattle.rb_meaning.specs.RemoteAnswers.{unit_of}
use Rattle.rb_meaning.specs.RemotePart.{Rest, turns, walk_block}
use Rattle.rb_engine.specs.Misses.{Means}
use Rattle.rb_engine.specs.Servers.{TakesUnit}
use Rattle.rb_engine.specs.declared.misses.Miss.{Miss}
use Rattle.rb_engine.specs.declared.misses.Miss.TheVariants as miss
use Rattle.rb_plain.specs.Parts.{part_meant, performed_meant}
use Rattle.rb_plain.specs.Remote.{Ended, SameStage, as_unit, value_meant}
use Rattle.rb_plain.specs.Staged.{Staged, program_of, service_of}
use Rattle.rb_plain.specs.Walks.{Does, Kept, Meaning, Walked, block_from, block_meant, branch_meant, carried_meant, form_meant, items_meant, rows_meant, scope_behind, skim_meant, stmt_meant, stmts_meant, turn_from, turn_meant, turns_from, turns_meant}
use Rattle.rb_plain.specs.declared.remote_world.RemoteWorld.{RemoteWorld}
use Rattle.rb_plain.specs.declared.walk.Binding.{Binding}
use Rattle.rb_plain.specs.declared.walk.Branch.{Branch}
use Rattle.rb_plain.specs.declared.walk.Loop.{Loop}
use Rattle.rb_plain.proofs.Dropped.{dropped_one}
use Rattle.rb_plain.proofs.Fronts.{kept_added, kept_after, kept_far, kept_same}
use Rattle.rb_plain.proofs.Replies.{as_reply, from_later, given, got, in_row, missed, same_by, two_in_row, unstarved_err, unstarved_ok, went}

pub by_result : {m : Meaning} {r r1 : Result (Unit {0}) Miss} {old new : Names} {w w1 : RemoteWorld} → r ≡ r1 → Walked m old r1 w new w1 → Walked m old r w new w1
by_result {m = m} {old = old} {new = new} {w = w} {w1 = w1} e h = subst (λ x. Walked m old x w new w1) (sym e) h

does_as : (r : Result (Unit {0}) Miss) (m m1 : Meaning) (names : Names) (s : Server) → ((go : Rest) → m go ≡ m1 go) → Does m1 r names s → Does m r names s
does_as (Ok u) m m1 names s e h = λ go. e go ∙ h go
does_as (Err (miss.Fault at f)) m m1 names s e h = λ go. e go ∙ h go
does_as (Err miss.Memory) m m1 names s e h = tt

-- the same whatever follows
pub as_meant : {m m1 : Meaning} {r : Result (Unit {0}) Miss} {old new : Names} {w w1 : RemoteWorld} → ((go : Rest) → m go ≡ m1 go) → Walked m1 old r w new w1 → Walked m old r w new w1
as_meant {m = m} {m1 = m1} {r = r} {new = new} {w1 = w1} e h = record { does = does_as r m m1 new w1.server e h.does; names_so = h.names_so; stage_so = h.stage_so }

pub went_on : {names : Names} {w : RemoteWorld} → Walked (λ go. go names w.server) names (Ok tt) w names w
went_on {names = names} = record { does = λ go. refl; names_so = kept_same names; stage_so = refl }

-- for want of memory nothing is said
pub want : {m : Meaning} {old new : Names} {r : Result (Unit {0}) Miss} {h : Miss} {w w1 : RemoteWorld} → r ≡ Err h → h ≡ miss.Memory → Walked m old r w new w1
want is so = by_result (is ∙ ap Err so) (record { does = tt; names_so = tt; stage_so = tt })

-- Values that are bound.

pub carried : {t : Result Value Miss} {v : Value} {old new : Names} {w w1 : RemoteWorld} (d : Binding) → Ended (value_meant w.stage d.expr.now old w.server) t w w1 → t ≡ Ok v → new ≡ old ++ (d.name.now, v) ∷ [] → Walked (carried_meant w d old) old (Ok tt) w new w1
carried {v = v} {old = old} {new = new} {w1 = w1} d h is bound = record {
  does = λ go. ap (λ x. and_then x (λ u s. go (old ++ (d.name.now, u) ∷ []) s)) (got h is) ∙ ap (λ ns. go ns w1.server) (sym bound);
  names_so = kept_added old new ((d.name.now, v) ∷ []) bound;
  stage_so = same_by h is;
}

missed_by : (h : Miss) (m : Reply Value) (k : Value → Rest → Server → part.Walked) (names : Names) (s : Server) → Means m (Err h) s → Does (λ go. and_then m (λ v s1. k v go s1)) (Err h) names s
missed_by (miss.Fault at f) m k names s e = λ go. ap (λ x. and_then x (λ v s1. k v go s1)) e
missed_by miss.Memory m k names s e = tt

pub carried_missed : {t : Result Value Miss} {h : Miss} {r : Result (Unit {0}) Miss} {old new : Names} {w w1 : RemoteWorld} (d : Binding) → Ended (value_meant w.stage d.expr.now old w.server) t w w1 → t ≡ Err h → r ≡ Err h → Walked (carried_meant w d old) old r w new w1
carried_missed {t = t} {h = h} {old = old} {new = new} {w = w} {w1 = w1} d ended is so =
    let meant = value_meant w.stage d.expr.now old w.server in
    by_result so (record {
      does = missed_by h meant (λ v go s. go (old ++ (d.name.now, v) ∷ []) s) new w1.server (subst (λ x. Means meant x w1.server) is ended.means);
      names_so = tt;
      stage_so = unstarved_err (Unit {0}) t h (SameStage w w1) (SameStage w w1) (λ x. x) is ended.stage_so;
    })

-- a statement of a known form
pub of_form : {r : Result (Unit {0}) Miss} {old new : Names} {w1 : RemoteWorld} {form : PlacedForm} (w : RemoteWorld) (scope : Scope) (s : stmt.Stmt) (names : Names) (m : Stmt)
    → placed_form (facts_of (program_of w.stage)) scope (mirror_stmt s) ≡ form → mirror_stmt s ≡ m
    → Walked (form_meant form w scope m names) old r w new w1 → Walked (stmt_meant w scope s names) old r w new w1
of_form {form = form} w scope s names m placed is h =
    as_meant (λ go. ap (λ f. form_meant f w scope (mirror_stmt s) names go) placed ∙ ap (λ x. form_meant form w scope x names go) is) h

-- Blocks.

ended_by : (r : Result (Unit {0}) Miss) (m : Meaning) (names : Names) (s : Server) → Does m r names s → Means (m part.ended) r s
ended_by (Ok u) m names s d = d part.ended
ended_by (Err (miss.Fault at f)) m names s d = d part.ended
ended_by (Err miss.Memory) m names s d = tt

-- statements as a block, to its end
pub block_ends : {m : Meaning} {r : Result (Unit {0}) Miss} {old new : Names} {w w1 : RemoteWorld} → Walked m old r w new w1 → Ended (m part.ended) r w w1
block_ends {m = m} {r = r} {new = new} {w1 = w1} h = record { means = ended_by r m new w1.server h.does; stage_so = h.stage_so }

-- the same, by how the statements ended
pub block_done : {m : Meaning} {t : Result (Unit {0}) Miss} {u : Unit {0}} {old new : Names} {w w1 : RemoteWorld} → Walked m old t w new w1 → t ≡ Ok u → Ended (m part.ended) (Ok tt) w w1
block_done {m = m} {w = w} {w1 = w1} h is = subst (λ x. Ended (m part.ended) x w w1) is (block_ends h)

pub block_cut : {m : Meaning} {t r : Result (Unit {0}) Miss} {h : Miss} {old new : Names} {w w1 : RemoteWorld} → Walked m old t w new w1 → t ≡ Err h → r ≡ Err h → Ended (m part.ended) r w w1
block_cut {m = m} {w = w} {w1 = w1} d is so = subst (λ x. Ended (m part.ended) x w w1) (is ∙ sym so) (block_ends d)

does_reply : (r : Result (Unit {0}) Miss) (x : part.Walked) (names new : Names) (s : Server) → OnOk r (new ≡ names) → Means x r s → Does (λ go. and_then x (λ u s1. go names s1)) r new s
does_reply (Ok u) x names new s e m = λ go. ap (λ y. and_then y (λ v s1. go names s1)) m ∙ ap (λ ns. go ns s) (sym e)
does_reply (Err (miss.Fault at f)) x names new s e m = λ go. ap (λ y. and_then y (λ v s1. go names s1)) m
does_reply (Err miss.Memory) x names new s e m = tt

kept_by : (r : Result (Unit {0}) Miss) (names new : Names) → OnOk r (new ≡ names) → OnOk r (Kept names new)
kept_by (Ok u) names new e = subst (λ ns. Kept names ns) (sym e) (kept_same names)
kept_by (Err h) names new e = tt

-- what is performed to its end, and then goes on with the names of before
pub to_end : {x : part.Walked} {r : Result (Unit {0}) Miss} {names new : Names} {w w1 : RemoteWorld} → Ended x r w w1 → OnOk r (new ≡ names)
    → Walked (λ go. and_then x (λ u s. go names s)) names r w new w1
to_end {x = x} {r = r} {names = names} {new = new} {w1 = w1} h e = record { does = does_reply r x names new w1.server e h.means; names_so = kept_by r names new e; stage_so = h.stage_so }

-- a statement of which only the remote expressions are performed

abbrev remote : RemoteWorld → Scope → expr.Expr → List code.Expr
remote w scope e = remote_in (facts_of (program_of w.stage)) scope (mirror_expr e)

-- its own expression is one
pub skims_one : {r : Result (Unit {0}) Miss} {w w1 : RemoteWorld} (scope : Scope) (s : Stmt) (e : expr.Expr) (names new : Names) → own s ≡ mirror_expr e ∷ []
    → Ended (part_meant w scope e names) r w w1 → OnOk r (new ≡ names) → Walked (skim_meant w scope s names) names r w new w1
skims_one {w = w} scope s e names new is h same =
    let all : remote_of (facts_of (program_of w.stage)) scope s ≡ remote w scope e =
    ap (flat_map (remote_in (facts_of (program_of w.stage)) scope)) is ∙ append-nil (remote w scope e) in
    as_meant (λ go. ap (λ es. and_then (performed_meant w es names) (λ u s1. go names s1)) all) (to_end h same)

-- they are two
pub skims_two : {r : Result (Unit {0}) Miss} {w w1 : RemoteWorld} (scope : Scope) (s : Stmt) (a b : expr.Expr) (names new : Names) → own s ≡ mirror_expr a ∷ mirror_expr b ∷ []
    → Ended (performed_meant w (remote w scope a ++ remote w scope b) names) r w w1 → OnOk r (new ≡ names) → Walked (skim_meant w scope s names) names r w new w1
skims_two {w = w} scope s a b names new is h same =
    let all : remote_of (facts_of (program_of w.stage)) scope s ≡ remote w scope a ++ remote w scope b =
    ap (flat_map (remote_in (facts_of (program_of w.stage)) scope)) is ∙ ap (λ es. remote w scope a ++ es) (append-nil (remote w scope b)) in
    as_meant (λ go. ap (λ es. and_then (performed_meant w es names) (λ u s1. go names s1)) all) (to_end h same)

-- there are none
pub skims_none : {w : RemoteWorld} (scope : Scope) (s : Stmt) (names : Names) → own s ≡ [] → Walked (skim_meant w scope s names) names (Ok tt) w names w
skims_none {w = w} scope s names is =
    as_meant (λ go. ap (λ es. and_then (performed_meant w (flat_map (remote_in (facts_of (program_of w.stage)) scope) es) names) (λ u s1. go names s1)) is) went_on

-- the block that a condition chose
pub chosen_so : {r : Result (Unit {0}) Miss} {w1 w2 : RemoteWorld} (w : RemoteWorld) (holds : Bool) (scope : Scope) (a b ss : List stmt.Stmt) (names : Names) → ss ≡ cond holds a b → SameStage w w1
    → Ended (block_meant w1 scope ss names) r w1 w2 → Ended (cond holds (block_from w.stage scope a names w1.server) (block_from w.stage scope b names w1.server)) r w1 w2
chosen_so {w1 = w1} w true scope a b ss names e same h = as_reply (ap (λ st. block_from st scope a names w1.server) (sym same) ∙ ap (λ xs. block_from w1.stage scope xs names w1.server) (sym e)) h
chosen_so {w1 = w1} w false scope a b ss names e same h = as_reply (ap (λ st. block_from st scope b names w1.server) (sym same) ∙ ap (λ xs. block_from w1.stage scope xs names w1.server) (sym e)) h

-- an `if` whose condition is carried
pub branch_so : {r : Result (Unit {0}) Miss} {names new : Names} {w w1 : RemoteWorld} (scope : Scope) (b : Branch) → OnOk r (new ≡ names)
    → Ended (and_then (value_meant w.stage b.condition.now names w.server) (λ v s1. and_then (replies b.at (truth_of (out-Value v)) s1)
    (λ holds s2. cond holds (block_from w.stage scope b.yes.now names s2) (block_from w.stage scope b.no.now names s2)))) r w w1
    → Walked (branch_meant w scope b names) names r w new w1
branch_so {names = names} {w = w} scope b e h =
    as_meant (λ go. in_row (value_meant w.stage b.condition.now names w.server) (λ v s1. replies b.at (truth_of (out-Value v)) s1)
    (λ holds s2. cond holds (block_from w.stage scope b.yes.now names s2) (block_from w.stage scope b.no.now names s2)) (λ u s3. go names s3)) (to_end h e)

-- Turns.

pub rows_so : {r : Result (Unit {0}) Miss} {names new : Names} {w w1 : RemoteWorld} (scope : Scope) (l : Loop) (e : expr.Expr) → OnOk r (new ≡ names)
    → Ended (and_then (value_meant w.stage e names w.server) (λ v s1. and_then (replies l.at (rows_in (out-Value v)) s1) (λ rows s2. turns_from w.stage scope l names rows s2))) r w w1
    → Walked (rows_meant w scope l e names) names r w new w1
rows_so {names = names} {w = w} scope l e f h =
    as_meant (λ go. in_row (value_meant w.stage e names w.server) (λ v s1. replies l.at (rows_in (out-Value v)) s1) (λ rows s2. turns_from w.stage scope l names rows s2) (λ u s3. go names s3)) (to_end h f)

pub items_so : {r : Result (Unit {0}) Miss} {names new : Names} {w w1 : RemoteWorld} (scope : Scope) (l : Loop) (e : expr.Expr) → OnOk r (new ≡ names)
    → Ended (and_then (replies l.at (items_named names (mirror_expr e)) w.server) (λ items s1. turns_from w.stage scope l names items s1)) r w w1
    → Walked (items_meant w scope l e names) names r w new w1
items_so {names = names} {w = w} scope l e f h =
    as_meant (λ go. two_in_row (replies l.at (items_named names (mirror_expr e)) w.server) (λ items s1. turns_from w.stage scope l names items s1) (λ u s2. go names s2)) (to_end h f)

pub turns_so : {r : Result (Unit {0}) Miss} {w1 w2 : RemoteWorld} (w : RemoteWorld) (scope : Scope) (l : Loop) (names : Names) (rows : List Value) → SameStage w w1
    → Ended (turns_meant w1 scope l names rows) r w1 w2 → Ended (turns_from w.stage scope l names rows w1.server) r w1 w2
turns_so {w1 = w1} w scope l names rows same h = as_reply (ap (λ st. turns_from st scope l names rows w1.server) (sym same)) h

-- a unit was taken, or there was none
unit_by : (at : ℕ) (s s1 : Server) (left : ℕ) → s ≡ record { table = s1.table; fuel = suc left } → s1.fuel ≡ left → unit_of at s ≡ Got value.Unit s1
unit_by at s s1 left e f =
    let less : suc left - 1 ≡ s1.fuel = omega (arith, f) in
    ap (unit_of at) e ∙ ap (λ n. Got value.Unit (record { table = s1.table; fuel = n })) less

pub unit_taken : (at : ℕ) {w w1 : RemoteWorld} (t : Bool) → TakesUnit w.server t w1.server → t ≡ true → SameStage w w1 → Ended (unit_of at w.server) (Ok value.Unit) w w1
unit_taken at {w = w} {w1 = w1} true h e same = given (unit_by at w.server w1.server w1.server.fuel h refl) same
unit_taken at false h e same = absurd (cc e)

none_left : (at n : ℕ) (s : Server) → n ≡ 0 → and_then (replies at (unit_due n) s) (λ u s1. Got value.Unit (record s1 { fuel = s1.fuel - 1 })) ≡ Stopped at fuel_used s
none_left at n s e = ap (λ m. and_then (replies at (unit_due m) s) (λ u s1. Got value.Unit (record s1 { fuel = s1.fuel - 1 }))) e

pub unit_missing : (at : ℕ) {w w1 : RemoteWorld} {f : Fault} (t : Bool) → TakesUnit w.server t w1.server → t ≡ false → f ≡ fuel_used → SameStage w w1 → Ended (unit_of at w.server) (Err (miss.Fault at f)) w w1
unit_missing at true h e g same = absurd (cc e)
unit_missing at {w = w} {w1 = w1} {f = f} false h e g same = record {
  means = none_left at w.server.fuel w.server h.0 ∙ ap (λ x. Stopped at x w.server) (sym g) ∙ ap (Stopped at f) (sym h.1);
  stage_so = same;
}

-- turns of which those over the rows from a place on are left
pub record TurnsOn (scope : Scope) (l : Loop) (names : Names) (rows : List Value) (w : RemoteWorld) (i : ℕ) (w1 : RemoteWorld) : Type 0 where
  pub leads : turns_meant w scope l names rows ≡ turns_from w.stage scope l names (drop i rows) w1.server
  pub stage_so : SameStage w w1

pub turns_begin : {scope : Scope} {l : Loop} {names : Names} {rows : List Value} {w : RemoteWorld} → TurnsOn scope l names rows w 0 w
turns_begin = record { leads = refl; stage_so = refl }

turn_on : (st : Staged) (scope : Scope) (l : Loop) (names : Names) (rows : List Value) (i : ℕ) (row : Value) (s : Server) → i < length rows → row ≡ get_or rows i row
    → turns_from st scope l names (drop i rows) s ≡ and_then (unit_of l.at s) (λ u s1. and_then (turn_from st scope l names row s1) (λ v s2. turns_from st scope l names (drop (i + 1) rows) s2))
turn_on st scope l names rows i row s h is = ap (λ xs. turns_from st scope l names xs s) (dropped_one rows i row h is)

pub turns_more : {t r : Result (Unit {0}) Miss} {u v : Unit {0}} {scope : Scope} {l : Loop} {names : Names} {rows : List Value} {w w1 w2 w3 : RemoteWorld} {i : ℕ} (row : Value) → i < length rows → row ≡ get_or rows i row
    → TurnsOn scope l names rows w i w1 → Ended (unit_of l.at w1.server) (as_unit t) w1 w2 → t ≡ Ok u → Ended (turn_meant w2 scope l names row) r w2 w3 → r ≡ Ok v → TurnsOn scope l names rows w (i + 1) w3
turns_more {scope = scope} {l = l} {names = names} {rows = rows} {w = w} {w1 = w1} {w2 = w2} {w3 = w3} {i = i} row h is on unit so turn end =
    let rest : Server → part.Walked = λ s. turns_from w.stage scope l names (drop (i + 1) rows) s in
    let same : SameStage w w2 = same_by unit (ap as_unit so) ∙ on.stage_so in
    record {
      leads = on.leads ∙ turn_on w.stage scope l names rows i row w1.server h is
          ∙ ap (λ x. and_then x (λ a s1. and_then (turn_from w.stage scope l names row s1) (λ b s2. rest s2))) (got unit (ap as_unit so))
          ∙ ap (λ st. and_then (turn_from st scope l names row w2.server) (λ b s2. rest s2)) (sym same)
          ∙ ap (λ x. and_then x (λ b s2. rest s2)) (got turn end);
      stage_so = same_by turn end ∙ same;
    }

pub turns_short : {t r : Result (Unit {0}) Miss} {h : Miss} {scope : Scope} {l : Loop} {names : Names} {rows : List Value} {w w1 w2 : RemoteWorld} {i : ℕ} (row : Value) → i < length rows → row ≡ get_or rows i row
    → TurnsOn scope l names rows w i w1 → Ended (unit_of l.at w1.server) (as_unit t) w1 w2 → t ≡ Err h → r ≡ Err h → Ended (turns_meant w scope l names rows) r w w2
turns_short {scope = scope} {l = l} {names = names} {rows = rows} {w = w} {w1 = w1} {i = i} row g is on unit so end =
    as_reply (on.leads ∙ turn_on w.stage scope l names rows i row w1.server g is) (from_later on.stage_so (missed _ unit (ap as_unit so) end))

pub turns_cut : {t r q : Result (Unit {0}) Miss} {u : Unit {0}} {h : Miss} {scope : Scope} {l : Loop} {names : Names} {rows : List Value} {w w1 w2 w3 : RemoteWorld} {i : ℕ} (row : Value) → i < length rows → row ≡ get_or rows i row
    → TurnsOn scope l names rows w i w1 → Ended (unit_of l.at w1.server) (as_unit t) w1 w2 → t ≡ Ok u → Ended (turn_meant w2 scope l names row) r w2 w3 → r ≡ Err h → q ≡ Err h → Ended (turns_meant w scope l names rows) q w w3
turns_cut {scope = scope} {l = l} {names = names} {rows = rows} {w = w} {w1 = w1} {w2 = w2} {i = i} row g is on unit so turn cut end =
    as_reply (on.leads ∙ turn_on w.stage scope l names rows i row w1.server g is)
    (from_later on.stage_so (went _ unit (ap as_unit so)
    (as_reply (ap (λ st. and_then (turn_from st scope l names row w2.server) (λ b s2. turns_from w.stage scope l names (drop (i + 1) rows) s2)) (sym (same_by unit (ap as_unit so) ∙ on.stage_so)))
    (missed _ turn cut end))))

pub turns_end : {scope : Scope} {l : Loop} {names : Names} {rows : List Value} {w w1 : RemoteWorld} {i : ℕ} → length rows ≤ i → TurnsOn scope l names rows w i w1 → Ended (turns_meant w scope l names rows) (Ok tt) w w1
turns_end {scope = scope} {l = l} {names = names} {rows = rows} {w = w} {w1 = w1} {i = i} h on =
    given (on.leads ∙ ap (λ xs. turns_from w.stage scope l names xs w1.server) (drop_all i rows h)) on.stage_so

-- Statements of which those from a place on are left.

pub record StmtsOn (ss : List stmt.Stmt) (scope : Scope) (names : Names) (w : RemoteWorld) (i : ℕ) (scope1 : Scope) (names1 : Names) (w1 : RemoteWorld) : Type 0 where
  pub leads : (go : Rest) → stmts_meant w scope ss names go ≡ stmts_meant w1 scope1 (drop i ss) names1 go
  pub names_so : Kept names names1
  pub scope_so : Kept scope scope1
  pub stage_so : SameStage w w1

pub stmts_begin : {ss : List stmt.Stmt} {scope : Scope} {names : Names} {w : RemoteWorld} → StmtsOn ss scope names w 0 scope names w
stmts_begin {scope = scope} {names = names} = record { leads = λ go. refl; names_so = kept_same names; scope_so = kept_same scope; stage_so = refl }

abbrev behind : Staged → Scope → List stmt.Stmt → Rest → Rest
behind st scope ss go names s = walk_block (program_of st) (service_of st) scope (mirror_stmts ss) names s go

stmt_on : (w : RemoteWorld) (scope : Scope) (ss : List stmt.Stmt) (i : ℕ) (x : stmt.Stmt) (names : Names) (go : Rest) → i < length ss → x ≡ get_or ss i x
    → stmts_meant w scope (drop i ss) names go ≡ stmt_meant w scope x names (behind w.stage (scope_behind w scope x) (drop (i + 1) ss) go)
stmt_on w scope ss i x names go l is = ap (λ xs. stmts_meant w scope xs names go) (dropped_one ss i x l is)

ok_names : (t : Result (Unit {0}) Miss) (u : Unit {0}) (P : Type 0) → t ≡ Ok u → OnOk t P → P
ok_names (Ok v) u P e p = p
ok_names (Err h) u P e p = absurd (cc e)

pub stmts_more : {t : Result (Unit {0}) Miss} {u : Unit {0}} {ss : List stmt.Stmt} {scope scope1 scope2 : Scope} {names names1 names2 : Names} {w w1 w2 : RemoteWorld} {i : ℕ} (x : stmt.Stmt) → i < length ss → x ≡ get_or ss i x
    → StmtsOn ss scope names w i scope1 names1 w1 → Walked (stmt_meant w1 scope1 x names1) names1 t w1 names2 w2 → t ≡ Ok u → scope2 ≡ scope_behind w1 scope1 x → StmtsOn ss scope names w (i + 1) scope2 names2 w2
stmts_more {t = t} {u = u} {ss = ss} {scope = scope} {scope1 = scope1} {scope2 = scope2} {names = names} {names1 = names1} {names2 = names2} {w1 = w1} {w2 = w2} {i = i} x l is on h so e =
    let did = subst (λ y. Does (stmt_meant w1 scope1 x names1) y names2 w2.server) so h.does in
    let same = unstarved_ok t u (SameStage w1 w2) so h.stage_so in
    record {
      leads = λ go. on.leads go ∙ stmt_on w1 scope1 ss i x names1 go l is ∙ did (behind w1.stage (scope_behind w1 scope1 x) (drop (i + 1) ss) go)
          ∙ ap (λ st. behind st (scope_behind w1 scope1 x) (drop (i + 1) ss) go names2 w2.server) (sym same)
          ∙ ap (λ sc. behind w2.stage sc (drop (i + 1) ss) go names2 w2.server) (sym e);
      names_so = kept_far names names1 names2 on.names_so (ok_names t u (Kept names1 names2) so h.names_so);
      scope_so = kept_far scope scope1 scope2 on.scope_so (subst (λ sc. Kept scope1 sc) (sym e) (kept_after _ scope1 (mirror_stmt x)));
      stage_so = same ∙ on.stage_so;
    }

stops : (h : Miss) (m : Meaning) (f : Rest → Rest) (names : Names) (s : Server) → Does m (Err h) names s → Does (λ go. m (f go)) (Err h) names s
stops (miss.Fault at x) m f names s d = λ go. d (f go)
stops miss.Memory m f names s d = tt

pub stmts_cut : {t r : Result (Unit {0}) Miss} {h : Miss} {ss : List stmt.Stmt} {scope scope1 : Scope} {names names1 names2 : Names} {w w1 w2 : RemoteWorld} {i : ℕ} (x : stmt.Stmt) → i < length ss → x ≡ get_or ss i x
    → StmtsOn ss scope names w i scope1 names1 w1 → Walked (stmt_meant w1 scope1 x names1) names1 t w1 names2 w2 → t ≡ Err h → r ≡ Err h → Walked (stmts_meant w scope ss names) names r w names2 w2
stmts_cut {t = t} {h = h} {ss = ss} {scope = scope} {scope1 = scope1} {names = names} {names1 = names1} {names2 = names2} {w = w} {w1 = w1} {w2 = w2} {i = i} x l is on d so end =
    let rest : Rest → Rest = λ go. behind w1.stage (scope_behind w1 scope1 x) (drop (i + 1) ss) go in
    by_result end (record {
      does = does_as (Err h) (stmts_meant w scope ss names) (λ go. stmt_meant w1 scope1 x names1 (rest go)) names2 w2.server (λ go. on.leads go ∙ stmt_on w1 scope1 ss i x names1 go l is)
          (stops h (stmt_meant w1 scope1 x names1) rest names2 w2.server (subst (λ y. Does (stmt_meant w1 scope1 x names1) y names2 w2.server) so d.does));
      names_so = tt;
      stage_so = unstarved_err (Unit {0}) t h (SameStage w1 w2) (SameStage w w2) (λ y. y ∙ on.stage_so) so d.stage_so;
    })

pub stmts_end : {ss : List stmt.Stmt} {scope scope1 : Scope} {names names1 : Names} {w w1 : RemoteWorld} {i : ℕ} → length ss ≤ i → StmtsOn ss scope names w i scope1 names1 w1 → Walked (stmts_meant w scope ss names) names (Ok tt) w names1 w1
stmts_end {ss = ss} {scope1 = scope1} {names1 = names1} {w1 = w1} {i = i} l on = record {
  does = λ go. on.leads go ∙ ap (λ xs. stmts_meant w1 scope1 xs names1 go) (drop_all i ss l);
  names_so = on.names_so;
  stage_so = on.stage_so;
}

-- The block of a turn, which begins with its row bound.

turn_so : (w : RemoteWorld) (scope scope1 : Scope) (l : Loop) (names names1 : Names) (row : Value) → scope1 ≡ with_variable scope l.name.now Role.Row l.at → names1 ≡ names ++ (l.name.now, row) ∷ []
    → turn_meant w scope l names row ≡ stmts_meant w scope1 l.block.now names1 part.ended
turn_so w scope scope1 l names names1 row e f =
    ap (λ sc. stmts_meant w sc l.block.now (names ++ (l.name.now, row) ∷ []) part.ended) (sym e) ∙ ap (λ ns. stmts_meant w scope1 l.block.now ns part.ended) (sym f)

pub turn_done : {t : Result (Unit {0}) Miss} {u : Unit {0}} {old new : Names} {w w1 : RemoteWorld} (scope scope1 : Scope) (l : Loop) (names names1 : Names) (row : Value)
    → scope1 ≡ with_variable scope l.name.now Role.Row l.at → names1 ≡ names ++ (l.name.now, row) ∷ []
    → Walked (stmts_meant w scope1 l.block.now names1) old t w new w1 → t ≡ Ok u → Ended (turn_meant w scope l names row) (Ok tt) w w1
turn_done {w = w} scope scope1 l names names1 row e f h is = as_reply (turn_so w scope scope1 l names names1 row e f) (block_done h is)

pub turn_cut : {t r : Result (Unit {0}) Miss} {h : Miss} {old new : Names} {w w1 : RemoteWorld} (scope scope1 : Scope) (l : Loop) (names names1 : Names) (row : Value)
    → scope1 ≡ with_variable scope l.name.now Role.Row l.at → names1 ≡ names ++ (l.name.now, row) ∷ []
    → Walked (stmts_meant w scope1 l.block.now names1) old t w new w1 → t ≡ Err h → r ≡ Err h → Ended (turn_meant w scope l names row) r w w1
turn_cut {w = w} scope scope1 l names names1 row e f d is so = as_reply (turn_so w scope scope1 l names names1 row e f) (block_cut d is so)

-- names of which one more was bound
pub named : {new : Names} {n m : List ℕ} {v x : Value} (names : Names) → new ≡ names ++ (n, v) ∷ [] → n ≡ m → v ≡ x → new ≡ names ++ (m, x) ∷ []
named {m = m} {v = v} names e f g = e ∙ ap (λ y. names ++ (y, v) ∷ []) f ∙ ap (λ y. names ++ (m, y) ∷ []) g

-- what is the same whatever the result
pub on_same : {A B E : Type 0} (r : Result A E) (x : B) → OnOk r (x ≡ x)
on_same (Ok a) x = refl
on_same (Err e) x = tt

-- the scope behind a statement of a known form
pub scope_of : (w : RemoteWorld) (scope : Scope) (s : stmt.Stmt) (m : Stmt) (r : Result (Unit {0}) Miss) (new : Scope) → mirror_stmt s ≡ m
    → OnOk r (new ≡ scope_after (facts_of (program_of w.stage)) [] scope m) → OnOk r (new ≡ scope_behind w scope s)
scope_of w scope s m r new is h = subst (λ x. OnOk r (new ≡ scope_after (facts_of (program_of w.stage)) [] scope x)) (sym is) h
