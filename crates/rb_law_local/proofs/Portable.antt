-- A portable expression has the same value where it stands as the remote part gives it.
use Rattle.std.proofs.Common.{◌≡◌, refl, sym, ap, ◌∙◌, subst, ℕ, List, [], ◌∷◌, Bool as Truth, true, ◌&&◌, Option, Some, None, is_some, Result, Ok, Err}
use Rattle.std.proofs.lemmas.Bool.{and_parts}
use Rattle.rb_trees.specs.declared.values.Value.{Value}
use Rattle.rb_trees.specs.declared.values.Value.TheOpen.{Value-F}
use Rattle.rb_trees.specs.declared.values.Value.TheViews.{out-Value}
use Rattle.rb_trees.specs.declared.values.Fault.{Fault}
use Rattle.rb_trees.specs.declared.outcomes.Raised.{Raised}
use Rattle.rb_trees.specs.mirror.Code.{Expr, Exprs, Lit, Name, This, Unary, Binary, Field, Call, Index, New, Items, Taken, NoExprs, MoreExprs, expr_at}
use Rattle.rb_trees.specs.mirror.Declarations.{Program, Interface}
use Rattle.rb_trees.specs.mirror.Services.{Service}
use Rattle.rb_meaning_types.specs.Kinds as kind
use Rattle.rb_meaning_types.specs.Kinds.{Kind}
use Rattle.rb_meaning_types.specs.Names.{interface_named}
use Rattle.rb_meaning_types.specs.Violations.{Placed}
use Rattle.rb_meaning_types.specs.Declared.{Declarations, Context, of_program}
use Rattle.rb_meaning_types.specs.Scopes as typed
use Rattle.rb_meaning_types.specs.Notes.{type_at}
use Rattle.rb_meaning_types.specs.Fits.{classes_of, IsRemoteValue, FitsNamed, Fits}
use Rattle.rb_meaning_code.specs.State.{Local}
use Rattle.rb_meaning_code.specs.Faults.{raises}
use Rattle.rb_meaning_code.specs.Operators.{on_one, on_two, by_left}
use Rattle.rb_meaning_code.specs.Dialogue as dialogue
use Rattle.rb_meaning_code.specs.Dialogue.{Outcome, Gave, Faulted, Run, handle, on, next, gives, end}
use Rattle.rb_meaning_code.specs.Calls.{Bodies, called}
use Rattle.rb_meaning_code.specs.Expressions.{value_of, decided_or, evaluates, evaluates_all}
use Rattle.rb_meaning_code.specs.Bodies.{bodies_of}
use Rattle.rb_meaning_code.specs.Remote.{Server}
use Rattle.rb_meaning_code.specs.ScriptRun.{Ground, Vars}
use Rattle.rb_meaning_split.specs.Refs.{Refs}
use Rattle.rb_meaning_flow.specs.Facts.{facts_of, is_remote, is_object}
use Rattle.rb_meaning_flow.specs.Scopes.{Scope}
use Rattle.rb_meaning_flow.specs.Portable.{portable, all_portable}
use Rattle.rb_meaning.specs.State.{Event, Outside}
use Rattle.rb_meaning.specs.Unsplit.{in_batch}
use Rattle.rb_meaning.specs.RemoteAnswers.{remote_answer}
use Rattle.rb_meaning.specs.RemotePart.{with_names, in_remote_part}
use Rattle.rb_law_types.specs.Ends.{Place, FitsPlace}
use Rattle.rb_law_types.specs.Around.{EndsHandled}
use Rattle.rb_law_types.specs.Code.{OfBatchCode, EndsIn, EndsInAll}
use Rattle.rb_law_types.proofs.TypeFacts.{kind_here, object_fact}
use Rattle.rb_law_local.proofs.Meeting.{handle_seq, Ended}
use Rattle.rb_law_local.proofs.Coded.{Code, Codes, unary_code, binary_code, call_code, first_code}

-- the outcome with another local state
abbrev pub put_at : {A : Type 0} → Local → Outcome A → Outcome A
put_at l (Gave a l1) = Gave a l
put_at l (Faulted r l1) = Faulted r l

abbrev pub local_of : {A : Type 0} → Outcome A → Local
local_of (Gave a l) = l
local_of (Faulted r l) = l

object_named : (d : Declarations) (k : Kind) → is_object d k ≡ true → (name : List ℕ) × (k ≡ kind.Named name) × (is_some (interface_named d.interfaces name) ≡ true)
object_named d (kind.Named name) h = (name, refl, h)
object_named d kind.Int h = absurd (cc (h))
object_named d _ h = absurd (cc (h))

remote_fits : (o : Option Interface) (cs : List (List ℕ)) (name : List ℕ) (w : Value-F Value) → is_some o ≡ true → FitsNamed o cs name w → IsRemoteValue w
remote_fits (Some i) cs name w e h = h
remote_fits None cs name w e h = absurd (cc (e))

module _ (p : Program) (service : Service) (g : Ground) (refs : Refs) (vars : Vars) (gas : ℕ) (Holds : Outside → Type 0) (Here : ℕ → Type 0) where
  abbrev code : Bodies
  code = bodies_of p.classes gas

  abbrev far : Bodies
  far = bodies_of p.classes 0

  -- A run as it stands ends as one of the remote part, and leaves the local state and the events as they are.
  pub record Same {A : Type 0} (l : Local) (events : List Event) (w : Outcome A × Outside) (r : Outcome A × Server) : Type 0 where
    pub ends : r ≡ (put_at (with_names l.names) w.0, w.1.server)
    pub local : w.0 ≡ put_at l w.0
    pub still : w.1.events ≡ events

  pub record Twins {A : Type 0} (l : Local) (whole part : Run A) : Type 0 where
    pub twins : (s : Outside) → Holds s → Same l s.events (handle (in_batch p service) whole s) (handle (in_remote_part p service) part s.server)

  gives_twins : {A : Type 0} (l : Local) (a : A) → Twins l (gives a l) (gives a (with_names l.names))
  gives_twins l a = record { twins = λ s h. record { ends = refl; local = refl; still = refl } }

  end_twins : {A : Type 0} (l : Local) (at : ℕ) (r : Result A Fault) → Twins l (end l (raises at r)) (end (with_names l.names) (raises at r))
  end_twins l at (Ok a) = gives_twins l a
  end_twins l at (Err f) = record { twins = λ s h. record { ends = refl; local = refl; still = refl } }

  check_twins : {A B : Type 0} (l : Local) (at : ℕ) (r : Result A Fault) (k k' : A → Local → Run B) → ((a : A) → Twins l (k a l) (k' a (with_names l.names)))
      → Twins l (next (end l (raises at r)) k) (next (end (with_names l.names) (raises at r)) k')
  check_twins l at (Ok a) k k' more = more a
  check_twins l at (Err f) k k' more = record { twins = λ s h. record { ends = refl; local = refl; still = refl } }

  then_twins : {A B : Type 0} {P : Outcome A → Type 0} {l : Local} {whole part : Run A} (k k' : A → Local → Run B) → Twins l whole part → Ended p service g refs vars gas Holds Here P whole
      → ((a : A) → P (Gave a l) → Twins l (k a l) (k' a (with_names l.names))) → Twins l (next whole k) (next part k')
  then_twins {A = A} {B = B} {P = P} {l = l} {whole = whole} {part = part} k k' first ended more = record {
    twins = λ s h.
        let e = ended.handled s h in
        subst (λ q. Same l s.events q (handle (in_remote_part p service) (next part k') s.server)) (sym (handle_seq (in_batch p service) whole (on k) s))
        (subst (λ q. Same l s.events (handle (in_batch p service) (on k (handle (in_batch p service) whole s).0) (handle (in_batch p service) whole s).1) q) (sym (handle_seq (in_remote_part p service) part (on k') s.server))
        (by s.events (handle (in_batch p service) whole s) (handle (in_remote_part p service) part s.server) e.0 e.1 (first.twins s h)));
  }
    where
      by : (events : List Event) (w : Outcome A × Outside) (r : Outcome A × Server) → P w.0 → Holds w.1 → Same l events w r
          → Same l events (handle (in_batch p service) (on k w.0) w.1) (handle (in_remote_part p service) (on k' r.0) r.1)
      by events (Gave a l1, s1) r e h m =
          let at_l : l1 ≡ l = ap local_of m.local in
          subst (λ q. Same l events (handle (in_batch p service) (k a l1) s1) (handle (in_remote_part p service) (on k' q.0) q.1)) (sym m.ends)
          (subst (λ q. Same l events (handle (in_batch p service) (k a q) s1) (handle (in_remote_part p service) (k' a (with_names l.names)) s1.server)) (sym at_l)
          (subst (λ q. Same l q (handle (in_batch p service) (k a l) s1) (handle (in_remote_part p service) (k' a (with_names l.names)) s1.server)) m.still
          ((more a (subst (λ q. P (Gave a q)) at_l e)).twins s1 h)))
      by events (Faulted x l1, s1) r e h m =
          subst (λ q. Same l events (Faulted x l1, s1) (handle (in_remote_part p service) (on k' q.0) q.1)) (sym m.ends)
          (record { ends = refl; local = ap (Faulted x) (ap local_of m.local); still = m.still })

  decided_twins : (l : Local) (o : Option Value) (go go' : Local → Run Value) → Twins l (go l) (go' (with_names l.names)) → Twins l (decided_or o go l) (decided_or o go' (with_names l.names))
  decided_twins l (Some v) go go' h = gives_twins l v
  decided_twins l None go go' h = h

  -- a call on a remote object
  call_twins : (l : Local) (at : ℕ) (v : Value) (w : Value-F Value) (method : List ℕ) (args : List Value) → IsRemoteValue w → Twins l (called code at v w method args l) (called far at v w method args (with_names l.names))
  call_twins l at v (Value-F.Remote object) method args on = record { twins = λ s h. by s (remote_answer p service s.server (dialogue.Invoke at v method args)) }
    where
      by : (s : Outside) (a : Result Value Raised × Server) → Same l s.events (handle (in_batch p service) (end l a.0) (record s { server = a.1 })) (handle (in_remote_part p service) (end (with_names l.names) a.0) a.1)
      by s (Ok u, s1) = record { ends = refl; local = refl; still = refl }
      by s (Err x, s1) = record { ends = refl; local = refl; still = refl }
  call_twins l at v Value-F.Unit method args on = absurd on
  call_twins l at v _ method args on = absurd on

  module _ (this : Option (List ℕ)) (remote : Truth) (keeps : OfBatchCode (of_program p) (type_at p) (λ A P run. EndsHandled Holds (in_batch p service) A P run)) (ws : typed.Scope) where
    abbrev place : Place
    place = record { this = this; remote = remote; scope = ws }

    abbrev x : Context
    x = record { declared = of_program p; this = this; remote = remote }

    abbrev Coded : Expr → Kind → Type 0
    Coded e k = Code (type_at p) x ws e k

    abbrev AllCoded : Exprs → List Placed → Type 0
    AllCoded es ks = Codes (type_at p) x ws es ks

    pub value_ended : (e : Expr) (k : Kind) (l : Local) → Coded e k → FitsPlace (of_program p) place l → Ended p service g refs vars gas Holds Here (EndsIn (of_program p) place l k) (evaluates code e l)
    value_ended e k l c fits = record { handled = keeps.values place e k gas l (c.typed, c.formed) (c.noted, c.admitted) fits }

    pub values_ended : (es : Exprs) (ks : List Placed) (l : Local) → AllCoded es ks → FitsPlace (of_program p) place l → Ended p service g refs vars gas Holds Here (EndsInAll (of_program p) place l ks) (evaluates_all code es l)
    values_ended es ks l c fits = record { handled = keeps.lists place es ks gas l (c.typed, c.formed) (c.noted, c.admitted) fits }

    module _ (vs : Scope) where
      mutual
        pub value_twins : (e : Expr) (k : Kind) (l : Local) → portable (facts_of p) vs e ≡ true → Coded e k → FitsPlace (of_program p) place l → Twins l (evaluates code e l) (evaluates far e (with_names l.names))
        value_twins (Lit at v) k l r c fits = gives_twins l v
        value_twins (Name at name) k l r c fits = end_twins l at (value_of l.names name)
        value_twins (This at) k l r c fits = absurd (cc (r))
        value_twins (Unary at op a) k l r c fits =
            let s = unary_code (type_at p) x ws at op a k c in
            then_twins _ _ (value_twins a s.kind l r s.code fits) (value_ended a s.kind l s.code fits) (λ v h. end_twins l at (on_one op (out-Value v)))
        value_twins (Binary at op a b) k l r c fits =
            let s = binary_code (type_at p) x ws at op a b k c in
            let both = and_parts (portable (facts_of p) vs a) (portable (facts_of p) vs b) r in
            then_twins _ _ (value_twins a s.left l both.0 s.first fits) (value_ended a s.left l s.first fits) (λ v h.
            check_twins l at (by_left op (out-Value v)) _ _ (λ decided.
            decided_twins l decided _ _ (then_twins _ _ (value_twins b s.right l both.1 s.second fits) (value_ended b s.right l s.second fits) (λ w h1. end_twins l at (on_two op (out-Value v) (out-Value w))))))
        value_twins (Field at a name) k l r c fits = absurd (cc (r))
        value_twins (Call at a method args) k l r c fits =
            let s = call_code (type_at p) x ws at a method args k c in
            let whole = and_parts (is_remote (facts_of p) a && portable (facts_of p) vs a) (all_portable (facts_of p) vs args) r in
            let receiver = and_parts (is_remote (facts_of p) a) (portable (facts_of p) vs a) whole.0 in
            let named = object_named (of_program p) s.kind (sym (object_fact p (expr_at a) s.kind (kind_here (type_at p) x ws a s.kind s.receiver.noted s.receiver.typed)) ∙ receiver.0) in
            then_twins _ _ (value_twins a s.kind l receiver.1 s.receiver fits) (value_ended a s.kind l s.receiver fits) (λ v h.
            then_twins _ _ (values_twins args s.kinds l whole.1 s.rest fits) (values_ended args s.kinds l s.rest fits) (λ us h1.
            call_twins l at v (out-Value v) method us
            (remote_fits (interface_named p.interfaces named.0) (classes_of l.heap) named.0 (out-Value v) named.2 (subst (λ m. Fits p.interfaces (classes_of l.heap) m v) named.1 h.gives))))
        value_twins (Index at a b) k l r c fits = absurd (cc (r))
        value_twins (New at class args) k l r c fits = absurd (cc (r))
        value_twins (Items at item items) k l r c fits = absurd (cc (r))
        value_twins (Taken at step) k l r c fits = absurd (cc (r))

        values_twins : (es : Exprs) (ks : List Placed) (l : Local) → all_portable (facts_of p) vs es ≡ true → AllCoded es ks → FitsPlace (of_program p) place l → Twins l (evaluates_all code es l) (evaluates_all far es (with_names l.names))
        values_twins NoExprs ks l r c fits = gives_twins l []
        values_twins (MoreExprs e es) ks l r c fits =
            let s = first_code (type_at p) x ws e es ks c in
            let both = and_parts (portable (facts_of p) vs e) (all_portable (facts_of p) vs es) r in
            then_twins _ _ (value_twins e s.0.kind l both.0 s.0.code fits) (value_ended e s.0.kind l s.0.code fits) (λ v h.
            then_twins _ _ (values_twins es s.1.kinds l both.1 s.1.codes fits) (values_ended es s.1.kinds l s.1.codes fits) (λ us h1. gives_twins l (v ∷ us)))
