-- How remote expressions are performed one after the other.
use Rattle.std.proofs.Common.{◌≡◌, refl, sym, ap, ◌∙◌, ℕ, ◌+◌, ◌<◌, ◌≤◌, List, [], ◌∷◌, ◌++◌, length, drop, get_or}
use Rattle.std.proofs.lemmas.List.{drop_all}
use Rattle.std.specs.Prelude.{Bool, true, false, cond, ◌&&◌, Result, Ok, Err}
use Rattle.rb_trees.specs.declared.values.Value.{Value}
use Rattle.rb_trees.specs.declared.code.Expr as expr
use Rattle.rb_trees.specs.mirror.Code.{Expr, Lit, Name, This, Unary, Binary, Field, Call, Index, New, Items, Taken, mirror_expr, mirror_exprs}
use Rattle.rb_trees.specs.mirror.Declarations.{Program}
use Rattle.rb_trees.specs.mirror.Services.{Service}
use Rattle.rb_meaning_code.specs.State.{Names}
use Rattle.rb_meaning_code.specs.Remote.{Server, Reply, Got, Stopped, and_then}
use Rattle.rb_meaning_flow.specs.Facts.{Facts, facts_of}
use Rattle.rb_meaning_flow.specs.Scopes.{Scope, role_of, is_portable_role}
use Rattle.rb_meaning_flow.specs.Marks.{is_portable_call}
use Rattle.rb_meaning.specs.RemoteExprs.{all_remote_in, remote_in}
use Rattle.rb_meaning.specs.RemotePart.{Walked, performed, value_of}
use Rattle.rb_engine.specs.declared.misses.Miss.{Miss}
use Rattle.rb_plain.specs.Parts.{all_parts_meant, below, both_meant, sent_meant, part_meant, parts_meant, performed_meant}
use Rattle.rb_plain.specs.Remote.{Ended, SameStage, value_meant}
use Rattle.rb_plain.specs.Staged.{Staged, program_of, service_of}
use Rattle.rb_plain.specs.declared.remote_world.RemoteWorld.{RemoteWorld}
use Rattle.rb_plain.proofs.Dropped.{dropped_one}
use Rattle.rb_plain.proofs.Replies.{as_reply, from_later, given, got, missed, same_by, went}

in_turn_by : (m : Reply Value) (k l : Value → Server → Walked) (j : Unit {0} → Server → Walked) → ((v : Value) (s : Server) → k v s ≡ and_then (l v s) j) → and_then m k ≡ and_then (and_then m l) j
in_turn_by (Got v s) k l j h = h v s
in_turn_by (Stopped at f s) k l j h = refl

-- expressions, and then others
in_turn : (p : Program) (service : Service) (es fs : List Expr) (names : Names) (s : Server)
    → performed p service (es ++ fs) names s ≡ and_then (performed p service es names s) (λ u s1. performed p service fs names s1)
in_turn p service [] fs names s = refl
in_turn p service (e ∷ es) fs names s =
    in_turn_by (value_of p service e names s) (λ v s1. performed p service (es ++ fs) names s1) (λ v s1. performed p service es names s1)
    (λ u s1. performed p service fs names s1) (λ v s1. in_turn p service es fs names s1)

-- the first expressions were performed, and the others follow
pub then_more : {t r : Result (Unit {0}) Miss} {u : Unit {0}} {w w1 w2 : RemoteWorld} (es fs : List Expr) (names : Names)
    → Ended (performed_meant w es names) t w w1 → t ≡ Ok u → Ended (performed_meant w1 fs names) r w1 w2 → Ended (performed_meant w (es ++ fs) names) r w w2
then_more {w = w} {w1 = w1} es fs names h is n =
    as_reply (in_turn (program_of w.stage) (service_of w.stage) es fs names w.server)
    (went _ h is (as_reply (ap (λ st. performed (program_of st) (service_of st) fs names w1.server) (sym (same_by h is))) n))

-- the first ones ended by a fault
pub then_none : {t r : Result (Unit {0}) Miss} {h : Miss} {w w1 : RemoteWorld} (es fs : List Expr) (names : Names)
    → Ended (performed_meant w es names) t w w1 → t ≡ Err h → r ≡ Err h → Ended (performed_meant w (es ++ fs) names) r w w1
then_none {w = w} es fs names d is so = as_reply (in_turn (program_of w.stage) (service_of w.stage) es fs names w.server) (missed _ d is so)

-- a remote expression gave its value, or none
pub whole_gave : {t : Result Value Miss} {v : Value} {w w1 : RemoteWorld} (e : expr.Expr) (names : Names) → Ended (value_meant w.stage e names w.server) t w w1 → t ≡ Ok v
    → Ended (performed_meant w (mirror_expr e ∷ []) names) (Ok tt) w w1
whole_gave e names h is = went _ h is (given refl refl)

pub whole_missed : {t : Result Value Miss} {h : Miss} {r : Result (Unit {0}) Miss} {w w1 : RemoteWorld} (e : expr.Expr) (names : Names) → Ended (value_meant w.stage e names w.server) t w w1 → t ≡ Err h → r ≡ Err h
    → Ended (performed_meant w (mirror_expr e ∷ []) names) r w w1
whole_missed e names d is so = missed _ d is so

and_false : (b : Bool) → (b && false) ≡ false
and_false true = refl
and_false false = refl

-- an expression is a remote one as a whole, or those in its parts are
whole_or_parts : (x : Facts) (scope : Scope) (e : Expr) → remote_in x scope e ≡ cond (is_portable_call x scope e) (e ∷ []) (below x scope e)
whole_or_parts x scope (Lit at v) = refl
whole_or_parts x scope (Name at name) = ap (λ b. cond b (Name at name ∷ []) []) (sym (and_false (is_portable_role (role_of scope name))))
whole_or_parts x scope (This at) = refl
whole_or_parts x scope (Unary at op a) = refl
whole_or_parts x scope (Binary at op a b) = refl
whole_or_parts x scope (Field at a name) = refl
whole_or_parts x scope (Call at a method args) = refl
whole_or_parts x scope (Index at a b) = refl
whole_or_parts x scope (New at class args) = refl
whole_or_parts x scope (Items at item items) = refl
whole_or_parts x scope (Taken at step) = refl

by_kind : {r : Result (Unit {0}) Miss} {w1 : RemoteWorld} (w : RemoteWorld) (scope : Scope) (e : expr.Expr) (names : Names) (b : Bool)
    → is_portable_call (facts_of (program_of w.stage)) scope (mirror_expr e) ≡ b
    → Ended (performed_meant w (cond b (mirror_expr e ∷ []) (below (facts_of (program_of w.stage)) scope (mirror_expr e))) names) r w w1 → Ended (part_meant w scope e names) r w w1
by_kind w scope e names b is h =
    as_reply (ap (λ es. performed_meant w es names) (whole_or_parts (facts_of (program_of w.stage)) scope (mirror_expr e)
    ∙ ap (λ x. cond x (mirror_expr e ∷ []) (below (facts_of (program_of w.stage)) scope (mirror_expr e))) is)) h

pub is_whole : {r : Result (Unit {0}) Miss} {w1 : RemoteWorld} (w : RemoteWorld) (scope : Scope) (e : expr.Expr) (names : Names) (b : Bool)
    → b ≡ is_portable_call (facts_of (program_of w.stage)) scope (mirror_expr e) → b ≡ true → Ended (performed_meant w (mirror_expr e ∷ []) names) r w w1 → Ended (part_meant w scope e names) r w w1
is_whole w scope e names b is so h = by_kind w scope e names true (sym is ∙ so) h

pub is_parts : {r : Result (Unit {0}) Miss} {w1 : RemoteWorld} (w : RemoteWorld) (scope : Scope) (e : expr.Expr) (names : Names) (b : Bool)
    → b ≡ is_portable_call (facts_of (program_of w.stage)) scope (mirror_expr e) → b ≡ false → Ended (parts_meant w scope e names) r w w1 → Ended (part_meant w scope e names) r w w1
is_parts w scope e names b is so h = by_kind w scope e names false (sym is ∙ so) h

-- the parts of an expression of a known form
pub of_form : {r : Result (Unit {0}) Miss} {w1 : RemoteWorld} (w : RemoteWorld) (scope : Scope) (e : expr.Expr) (names : Names) (m : Expr) → mirror_expr e ≡ m
    → Ended (performed_meant w (below (facts_of (program_of w.stage)) scope m) names) r w w1 → Ended (parts_meant w scope e names) r w w1
of_form w scope e names m is h = as_reply (ap (λ x. performed_meant w (below (facts_of (program_of w.stage)) scope x) names) is) h

-- of an expression that was looked at in a later world, on the same stage
pub part_from : {r : Result (Unit {0}) Miss} {w1 w2 : RemoteWorld} (w : RemoteWorld) (scope : Scope) (e : expr.Expr) (names : Names) → SameStage w w1 → Ended (part_meant w1 scope e names) r w1 w2
    → Ended (performed_meant w1 (remote_in (facts_of (program_of w.stage)) scope (mirror_expr e)) names) r w1 w2
part_from {w1 = w1} w scope e names same h = as_reply (ap (λ st. performed_meant w1 (remote_in (facts_of (program_of st)) scope (mirror_expr e)) names) (sym same)) h

pub parts_from : {r : Result (Unit {0}) Miss} {w1 w2 : RemoteWorld} (w : RemoteWorld) (scope : Scope) (es : List expr.Expr) (names : Names) → SameStage w w1 → Ended (all_parts_meant w1 scope es names) r w1 w2
    → Ended (performed_meant w1 (all_remote_in (facts_of (program_of w.stage)) scope (mirror_exprs es)) names) r w1 w2
parts_from {w1 = w1} w scope es names same h = as_reply (ap (λ st. performed_meant w1 (all_remote_in (facts_of (program_of st)) scope (mirror_exprs es)) names) (sym same)) h

-- two expressions in a row
pub two : {t r : Result (Unit {0}) Miss} {u : Unit {0}} {w w1 w2 : RemoteWorld} (scope : Scope) (a b : expr.Expr) (names : Names)
    → Ended (part_meant w scope a names) t w w1 → t ≡ Ok u → Ended (part_meant w1 scope b names) r w1 w2
    → Ended (performed_meant w (remote_in (facts_of (program_of w.stage)) scope (mirror_expr a) ++ remote_in (facts_of (program_of w.stage)) scope (mirror_expr b)) names) r w w2
two {w = w} scope a b names h is n =
    then_more (remote_in (facts_of (program_of w.stage)) scope (mirror_expr a)) (remote_in (facts_of (program_of w.stage)) scope (mirror_expr b)) names h is (part_from w scope b names (same_by h is) n)

pub both_none : {t r : Result (Unit {0}) Miss} {h : Miss} {w w1 : RemoteWorld} (scope : Scope) (a b : expr.Expr) (names : Names)
    → Ended (part_meant w scope a names) t w w1 → t ≡ Err h → r ≡ Err h → Ended (both_meant w scope a b names) r w w1
both_none {w = w} scope a b names d is so =
    then_none (remote_in (facts_of (program_of w.stage)) scope (mirror_expr a)) (remote_in (facts_of (program_of w.stage)) scope (mirror_expr b)) names d is so

-- an expression, and others
pub one_and_all : {t r : Result (Unit {0}) Miss} {u : Unit {0}} {w w1 w2 : RemoteWorld} (scope : Scope) (a : expr.Expr) (es : List expr.Expr) (names : Names)
    → Ended (part_meant w scope a names) t w w1 → t ≡ Ok u → Ended (all_parts_meant w1 scope es names) r w1 w2
    → Ended (performed_meant w (remote_in (facts_of (program_of w.stage)) scope (mirror_expr a) ++ all_remote_in (facts_of (program_of w.stage)) scope (mirror_exprs es)) names) r w w2
one_and_all {w = w} scope a es names h is n =
    then_more (remote_in (facts_of (program_of w.stage)) scope (mirror_expr a)) (all_remote_in (facts_of (program_of w.stage)) scope (mirror_exprs es)) names h is (parts_from w scope es names (same_by h is) n)

pub sent_none : {t r : Result (Unit {0}) Miss} {h : Miss} {w w1 : RemoteWorld} (scope : Scope) (a : expr.Expr) (es : List expr.Expr) (names : Names)
    → Ended (part_meant w scope a names) t w w1 → t ≡ Err h → r ≡ Err h → Ended (sent_meant w scope a es names) r w w1
sent_none {w = w} scope a es names d is so =
    then_none (remote_in (facts_of (program_of w.stage)) scope (mirror_expr a)) (all_remote_in (facts_of (program_of w.stage)) scope (mirror_exprs es)) names d is so

-- expressions of which those from a place on are left
pub record LeadsOn (scope : Scope) (es : List expr.Expr) (names : Names) (w : RemoteWorld) (i : ℕ) (w1 : RemoteWorld) : Type 0 where
  pub leads : all_parts_meant w scope es names ≡ all_parts_meant w1 scope (drop i es) names
  pub stage_so : SameStage w w1

pub leads_begin : {scope : Scope} {es : List expr.Expr} {names : Names} {w : RemoteWorld} → LeadsOn scope es names w 0 w
leads_begin = record { leads = refl; stage_so = refl }

one_on : (w : RemoteWorld) (scope : Scope) (es : List expr.Expr) (i : ℕ) (e : expr.Expr) (names : Names) → i < length es → e ≡ get_or es i e
    → all_parts_meant w scope (drop i es) names
    ≡ performed_meant w (remote_in (facts_of (program_of w.stage)) scope (mirror_expr e) ++ all_remote_in (facts_of (program_of w.stage)) scope (mirror_exprs (drop (i + 1) es))) names
one_on w scope es i e names l is = ap (λ xs. all_parts_meant w scope xs names) (dropped_one es i e l is)

pub leads_more : {scope : Scope} {es : List expr.Expr} {names : Names} {w w1 w2 : RemoteWorld} {i : ℕ} {t : Result (Unit {0}) Miss} {u : Unit {0}} (e : expr.Expr) → i < length es → e ≡ get_or es i e
    → LeadsOn scope es names w i w1 → Ended (part_meant w1 scope e names) t w1 w2 → t ≡ Ok u → LeadsOn scope es names w (i + 1) w2
leads_more {scope = scope} {es = es} {names = names} {w1 = w1} {w2 = w2} {i = i} e l is on h so =
    let mine = remote_in (facts_of (program_of w1.stage)) scope (mirror_expr e) in
    let rest : Staged → List Expr = λ st. all_remote_in (facts_of (program_of st)) scope (mirror_exprs (drop (i + 1) es)) in
    record {
      leads = on.leads ∙ one_on w1 scope es i e names l is ∙ in_turn (program_of w1.stage) (service_of w1.stage) mine (rest w1.stage) names w1.server
          ∙ ap (λ x. and_then x (λ u s. performed (program_of w1.stage) (service_of w1.stage) (rest w1.stage) names s)) (got h so)
          ∙ ap (λ st. performed (program_of st) (service_of st) (rest st) names w2.server) (sym (same_by h so));
      stage_so = same_by h so ∙ on.stage_so;
    }

pub leads_cut : {scope : Scope} {es : List expr.Expr} {names : Names} {w w1 w2 : RemoteWorld} {i : ℕ} {t r : Result (Unit {0}) Miss} {h : Miss} (e : expr.Expr) → i < length es → e ≡ get_or es i e
    → LeadsOn scope es names w i w1 → Ended (part_meant w1 scope e names) t w1 w2 → t ≡ Err h → r ≡ Err h → Ended (all_parts_meant w scope es names) r w w2
leads_cut {scope = scope} {es = es} {names = names} {w1 = w1} {i = i} e l is on d so end =
    as_reply (on.leads ∙ one_on w1 scope es i e names l is) (from_later on.stage_so (then_none (remote_in (facts_of (program_of w1.stage)) scope (mirror_expr e)) (all_remote_in (facts_of (program_of w1.stage)) scope (mirror_exprs (drop (i + 1) es))) names d so end))

pub leads_end : {scope : Scope} {es : List expr.Expr} {names : Names} {w w1 : RemoteWorld} {i : ℕ} → length es ≤ i → LeadsOn scope es names w i w1 → Ended (all_parts_meant w scope es names) (Ok tt) w w1
leads_end {scope = scope} {es = es} {names = names} {w1 = w1} {i = i} l on = given (on.leads ∙ ap (λ xs. all_parts_meant w1 scope xs names) (drop_all i es l)) on.stage_so
