-- How a call on a service is led to its end by the World of its code, and what the client gets of it.
use Rattle.std.proofs.Common.{◌≡◌, inl, inr, refl, sym, ap, ◌∙◌, subst, ℕ, List, [], length, map}
use Rattle.std.proofs.lemmas.Bool.{eq-eqb}
use Rattle.std.proofs.lemmas.List.{length-map}
use Rattle.std.specs.Prelude.{nat_eq, Result, Ok, Err}
use Rattle.rb_trees.specs.Outcome.{Gives, known, must, ◌>>=◌, ◌>>◌}
use Rattle.rb_trees.specs.declared.values.Value.{Value, out-Value}
use Rattle.rb_trees.specs.declared.values.Value.TheOpen.{Value-F}
use Rattle.rb_trees.specs.declared.values.Value.TheVariants as value
use Rattle.rb_trees.specs.declared.services.Object.{Object}
use Rattle.rb_trees.specs.declared.values.Fault.{Fault}
use Rattle.rb_trees.specs.declared.outcomes.Raised.{Raised}
use Rattle.rb_trees.specs.declared.want.Memory.{Memory}
use Rattle.rb_trees.specs.declared.declarations.Class as class
use Rattle.rb_trees.specs.declared.declarations.Method as method
use Rattle.rb_trees.specs.mirror.Declarations.{mirror_class, mirror_param, mirror_method}
use Rattle.rb_meaning_code.specs.Faults.{kind as kind_fault, wrong_kind, raises}
use Rattle.rb_meaning_code.specs.State.{Local, spent}
use Rattle.rb_meaning_code.specs.Dialogue.{Outcome, Gave, Faulted, Dialogue, Done, Ask, AskBatch, Surroundings, Follows, handle, seq, next, end}
use Rattle.rb_meaning_code.specs.Calls.{call, called_method, unit_due, call_fits, names_within, entered, left}
use Rattle.rb_meaning_code.specs.Bodies.{in_service}
use Rattle.rb_meaning_code.specs.Remote.{Server, Stopped, and_then, replies, begun, seen_as, served, returned}
use Rattle.rb_engine.specs.Code.{bodies, found_run}
use Rattle.rb_engine.specs.Ends.{fault_of, flattened}
use Rattle.rb_engine.specs.Locals.{local}
use Rattle.rb_engine.specs.Meets.{Led}
use Rattle.rb_engine.specs.Methods.{IsMethodOf}
use Rattle.rb_engine.specs.Remote.{Answers, RepliesAt, server, call_checked, call_invoked, found_outcome, found_served}
use Rattle.rb_engine.specs.Service.{service_answers, service_performs}
use Rattle.rb_engine.specs.declared.ends.Failure.{Failure}
use Rattle.rb_engine.specs.declared.ends.Failure.TheVariants as failure
use Rattle.rb_engine.specs.declared.service.ServiceWorld.{ServiceWorld}
use Rattle.rb_engine.specs.declared.state.State.{State}
use Rattle.rb_engine.specs.declared.world.Halt.{Halt}
use Rattle.rb_engine.proofs.Values.{out_Ref}

-- the World of a service's code, as its surroundings
abbrev pub in_world : Surroundings ServiceWorld Memory
in_world = record { answers = service_answers; performs = service_performs }

-- what it leads to an end ends so under the handler
ends_so : {A : Type 0} (d : Dialogue A) (w w1 : ServiceWorld) (a : A) → Follows in_world d w (Ok a) w1 → (handle in_service d tt).0 ≡ a
ends_so (Done b) w w1 a h = let same : a ≡ b = cc (h.0) in sym same
ends_so (Ask q go) w w1 a (inl (b, mid, e, h)) =
    let same : b ≡ (in_service.answer tt q).0 = cc (e.0) in
    ap (λ x. (handle in_service (go x) tt).0) (sym same) ∙ ends_so (go b) mid w1 a h
ends_so (Ask q go) w w1 a (inr (x, e, h)) = absurd (cc h)
ends_so (AskBatch at l go) w w1 a (inl (b, mid, e, h)) =
    let same : b ≡ (in_service.batch tt at l).0 = cc (e.0) in
    ap (λ x. (handle in_service (go x) tt).0) (sym same) ∙ ends_so (go b) mid w1 a h
ends_so (AskBatch at l go) w w1 a (inr (x, e, h)) = absurd (cc h)

-- no call is active in the state
begins : (st : State) → st.depth ≡ 0 → local [] st ≡ begun (server st)
begins st e = ap (λ d. record { names = []; heap = st.heap; fuel = st.fuel; depth = d }) e

outcome_so : (classes : List class.Class) (at object : ℕ) (m : method.Method) (args : List Value) (st : State) (w w1 : ServiceWorld) (o : Outcome Value) → st.depth ≡ 0
    → Follows in_world (found_run classes at m (value.Ref object) args st.fuel (local [] st)) w (Ok o) w1 → found_outcome classes at object m args (server st) ≡ o
outcome_so classes at object m args st w w1 o e h =
    ap (λ l. (handle in_service (found_run classes at m (value.Ref object) args st.fuel l) tt).0) (sym (begins st e)) ∙ ends_so _ w w1 o h

-- a rule's answer at the client
pub answered_so : (at : ℕ) (r : Result Value Failure) (d : Result Value Fault) (answer : Result (Result Value Raised) Memory) (s : Server)
    → Gives (λ v. v) fault_of r d → Answers at r answer → RepliesAt at (replies at d s) answer s
answered_so at (Ok v) d answer s g a = subst (λ x. RepliesAt at (replies at d s) x s) (sym a) (ap (λ x. replies at x s) g)
answered_so at (Err (failure.Fault f)) d answer s g a = subst (λ x. RepliesAt at (replies at d s) x s) (sym a) (ap (λ x. replies at x s) g, refl)
answered_so at (Err failure.Memory) d (Ok given) s g a = absurd (cc a)
answered_so at (Err failure.Memory) d (Err want) s g a = tt

pub value_served : (classes : List class.Class) (at kind object : ℕ) (m : method.Method) (args : List Value) (st st1 : State) (w w1 : ServiceWorld)
    (r : Result (Result Value Raised) (Halt Memory)) (v : Value) (rule : Result Value Failure) (answer : Result (Result Value Raised) Memory)
    → st.depth ≡ 0 → r ≡ Ok (Ok v) → Led in_world (found_run classes at m (value.Ref object) args st.fuel (local [] st)) w (local [] st1) (flattened r) w1
    → Gives (λ x. x) fault_of rule (known wrong_kind (seen_as kind (out-Value v))) → Answers at rule answer
    → RepliesAt at (found_served classes at kind object m args (server st)) answer (server st1)
value_served classes at kind object m args st st1 w w1 r v rule answer e is led g a =
    subst (λ o. RepliesAt at (returned at kind o) answer (server st1))
    (sym (outcome_so classes at object m args st w w1 (Gave v (local [] st1)) e
    (subst (λ x. Led in_world (found_run classes at m (value.Ref object) args st.fuel (local [] st)) w (local [] st1) (flattened x) w1) is led)))
    (answered_so at rule (known wrong_kind (seen_as kind (out-Value v))) answer (server st1) g a)

pub fault_served : (classes : List class.Class) (at kind object : ℕ) (m : method.Method) (args : List Value) (st st1 : State) (w w1 : ServiceWorld)
    (r : Result (Result Value Raised) (Halt Memory)) (f : Raised) → st.depth ≡ 0 → r ≡ Ok (Err f)
    → Led in_world (found_run classes at m (value.Ref object) args st.fuel (local [] st)) w (local [] st1) (flattened r) w1
    → found_served classes at kind object m args (server st) ≡ Stopped at f.fault (server st1)
fault_served classes at kind object m args st st1 w w1 r f e is led =
    ap (returned at kind) (outcome_so classes at object m args st w w1 (Faulted f (local [] st1)) e
    (subst (λ x. Led in_world (found_run classes at m (value.Ref object) args st.fuel (local [] st)) w (local [] st1) (flattened x) w1) is led))

-- A method that was found, with as many arguments as parameters, is the one that is called.

called_found : (classes : List class.Class) (heap : List Object) (object : ℕ) (f : Value-F Value) (name : List ℕ) (count : ℕ) (m : method.Method)
    → f ≡ Value-F.Ref object → IsMethodOf classes heap object name m → length m.signature.params ≡ count → called_method (map mirror_class classes) heap f name count ≡ Ok (mirror_method m)
called_found classes heap object f name count m is found fits =
    ap (λ g. called_method (map mirror_class classes) heap g name count) is
    ∙ ap (λ o. known kind_fault o >>= λ n. must (nat_eq (length n.signature.params) count) kind_fault >> Ok n) found
    ∙ ap (λ b. must b kind_fault >> Ok (mirror_method m)) (eq-eqb (length (map mirror_param m.signature.params)) count (length-map m.signature.params mirror_param ∙ fits))

call_found : (classes : List class.Class) (gas at object : ℕ) (name : List ℕ) (m : method.Method) (args : List Value) (l : Local)
    → IsMethodOf classes l.heap object name m → length m.signature.params ≡ length args
    → call (bodies classes gas) at (value.Ref object) name args l ≡ found_run classes at m (value.Ref object) args gas l
call_found classes gas at object name m args l found fits =
    ap (λ r. next (end l (raises at r)) (λ n l1.
    next (end l1 (raises at (unit_due l1.fuel))) (λ u l2.
    next (end (spent l2) (raises at (call_fits l2.depth))) (λ w l3.
    seq ((bodies classes gas).run at n.body (entered (names_within (value.Ref object) n.signature.params args) l3)) (left l3)))))
    (called_found classes l.heap object (out-Value (value.Ref object)) name (length args) m (out_Ref object) found fits)

-- a remote call whose checks are passed is that of the method that was found
pub invoked_so : (classes : List class.Class) (at kind object : ℕ) (target : Value) (name : List ℕ) (m : method.Method) (given args : List Value) (s s1 : Server) (answer : Result (Result Value Raised) Memory)
    → call_checked classes s.table target name given ≡ Ok (object, args) → IsMethodOf classes s.table object name m → length m.signature.params ≡ length args
    → RepliesAt at (found_served classes at kind object m args s) answer s1 → RepliesAt at (call_invoked classes at kind target name given s) answer s1
invoked_so classes at kind object target name m given args s s1 answer checked found fits replied =
    subst (λ meant. RepliesAt at meant answer s1)
    (sym (ap (λ d. and_then (replies at d s) (λ c s2. returned at kind (served (map mirror_class classes) at c.0 name c.1 s2))) checked
    ∙ ap (λ d. returned at kind (handle in_service d tt).0) (call_found classes s.fuel at object name m args (begun s) found fits)))
    replied
