-- A portable expression of a batch has a value of its type on the service, and its table keeps fitting.
use Rattle.std.proofs.Common.{◌≡◌, refl, sym, ap, ◌∙◌, subst, ℕ, List, [], Bool as Truth, true, ◌&&◌, All, Option, Some, None, is_some, Result, Ok, Err}
use Rattle.std.proofs.lemmas.Bool.{and_parts}
use Rattle.std.proofs.lemmas.List.Elements.{All-nil, All-cons}
use Rattle.rb_trees.specs.Outcome.{known}
use Rattle.rb_trees.specs.declared.values.Value.{Value}
use Rattle.rb_trees.specs.declared.values.Value.TheOpen.{Value-F}
use Rattle.rb_trees.specs.declared.values.Value.TheViews.{out-Value}
use Rattle.rb_trees.specs.declared.values.Fault.{Fault}
use Rattle.rb_trees.specs.mirror.Code.{Expr, Exprs, Lit, Name, This, Unary, Binary, Field, Call, Index, New, Items, Taken, NoExprs, MoreExprs, expr_at}
use Rattle.rb_trees.specs.mirror.Declarations.{Program, Interface}
use Rattle.rb_trees.specs.mirror.Services.{Service}
use Rattle.rb_meaning_types.specs.Kinds as kind
use Rattle.rb_meaning_types.specs.Kinds.{Kind}
use Rattle.rb_meaning_types.specs.Names.{interface_named}
use Rattle.rb_meaning_types.specs.Violations.{Checked, Placed, UnknownName}
use Rattle.rb_meaning_types.specs.Declared.{Declarations, Context, of_program}
use Rattle.rb_meaning_types.specs.Scopes as typed
use Rattle.rb_meaning_types.specs.Literals.{literal_form, literal_kind}
use Rattle.rb_meaning_types.specs.Expressions.{with_first, type_of, types_of}
use Rattle.rb_meaning_types.specs.Members.{call_on, interface_call, receiver_interface}
use Rattle.rb_meaning_types.specs.Notes.{type_at}
use Rattle.rb_meaning_types.specs.Programs.{check_service}
use Rattle.rb_meaning_types.specs.Fits.{IsRemoteValue, FitsNamed, Fits, TableFits}
use Rattle.rb_meaning_code.specs.State.{Names, Local}
use Rattle.rb_meaning_code.specs.Faults as faults
use Rattle.rb_meaning_code.specs.Faults.{raises}
use Rattle.rb_meaning_code.specs.Operators.{on_one, on_two, by_left}
use Rattle.rb_meaning_code.specs.Dialogue.{Outcome, Gave, Faulted, Dialogue, Done, Ask, AskBatch, Run, Handler, handle, seq, on, next, end}
use Rattle.rb_meaning_code.specs.Calls.{Bodies, called}
use Rattle.rb_meaning_code.specs.Expressions.{value_of, decided_or, evaluates, evaluates_all}
use Rattle.rb_meaning_code.specs.Bodies.{bodies_of}
use Rattle.rb_meaning_code.specs.Remote.{Server, Reply, Got, Stopped, invoke}
use Rattle.rb_meaning_flow.specs.Facts.{Facts, facts_of, is_remote, is_object}
use Rattle.rb_meaning_flow.specs.Scopes.{Scope}
use Rattle.rb_meaning_flow.specs.Portable.{portable, all_portable}
use Rattle.rb_meaning_types.specs.CallKinds as numbers
use Rattle.rb_meaning.specs.RemotePart as part
use Rattle.rb_meaning.specs.RemoteAnswers.{answer_of}
use Rattle.rb_meaning.specs.RemotePart.{reply_of, with_names, in_remote_part}
use Rattle.rb_law_types.specs.Kept.{IsBounded, IsOwnFault, Fair}
use Rattle.rb_law_types.specs.Formed.{IsFormedExpr, AreFormedExprs, AreFormed}
use Rattle.rb_law_types.specs.Noted.{IsNotedExpr, AreNotedExprs}
use Rattle.rb_law_types.specs.Operators.{IfDecided, OneKeeps, TwoKeep, LeftKeeps}
use Rattle.rb_law_types.specs.Far.{FittingAreBounded, RemoteCallsGiveFar}
use Rattle.rb_law_types.specs.Remote.{CallsKeep}
use Rattle.rb_law_types.specs.Code.{AreTyped}
use Rattle.rb_law_types.proofs.Faults.{rule_own}
use Rattle.rb_law_types.proofs.Checks.{bind_ok, known_ok, placed_ok}
use Rattle.rb_law_types.proofs.Exprs.{literal_fits}
use Rattle.rb_law_types.proofs.TypeFacts.{kind_here, object_fact}
use Rattle.rb_law_unsplit.proofs.Carried.{Carry, carry_look}
use Rattle.rb_law_unsplit.proofs.Handling.{Fine, invoke_fine}

-- the laws that the walk stands on
pub record Laws : Type 0 where
  pub one : OneKeeps
  pub two : TwoKeep
  pub left : LeftKeeps
  pub calls : CallsKeep
  pub sent : FittingAreBounded
  pub given : RemoteCallsGiveFar

pub handle_seq : {S A B : Type 0} (h : Handler S) (run : Dialogue A) (k : A → Dialogue B) (s : S) → handle h (seq run k) s ≡ handle h (k (handle h run s).0) (handle h run s).1
handle_seq h (Done a) k s = refl
handle_seq h (Ask q go) k s = handle_seq h (go (h.answer s q).0) k (h.answer s q).1
handle_seq h (AskBatch at l go) k s = handle_seq h (go (h.batch s at l).0) k (h.batch s at l).1

pub rest_typed : (p : Placed) (r : Checked (List Placed)) (ps : List Placed) → with_first p r ≡ Ok ps → (qs : List Placed) × (r ≡ Ok qs)
rest_typed p (Ok qs) ps h = (qs, refl)
rest_typed p (Err fault) ps h = absurd (cc (h))

pub object_named : (d : Declarations) (k : Kind) → is_object d k ≡ true → (name : List ℕ) × (k ≡ kind.Named name) × (is_some (interface_named d.interfaces name) ≡ true)
object_named d (kind.Named name) h = (name, refl, h)
object_named d kind.Int h = absurd (cc (h))
object_named d _ h = absurd (cc (h))

pub there : {A : Type 0} (o : Option A) → is_some o ≡ true → (a : A) × (o ≡ Some a)
there (Some a) h = (a, refl)
there None h = absurd (cc (h))

module _ (laws : Laws) (p : Program) (service : Service) (service_typed : check_service service.classes ≡ Ok tt) (service_formed : AreFormed service.classes) (declared : AreTyped (of_program p)) (this : Option (List ℕ)) (remote : Truth) where
  abbrev x : Context
  x = record { declared = of_program p; this = this; remote = remote }

  abbrev is : List Interface
  is = p.interfaces

  abbrev f : Facts
  f = facts_of p

  abbrev types : ℕ → Option (Checked Kind)
  types = type_at p

  abbrev pub Table : Server → Type 0
  Table s = TableFits service.classes service.root s.table

  abbrev h : Handler Server
  h = in_remote_part p service

  abbrev code : Bodies
  code = bodies_of p.classes 0

  -- how an evaluation ends that began in a local state: there too, unless by a fault
  abbrev OutFits : {A : Type 0} → (A → Type 0) → Local → Outcome A × Server → Type 0
  OutFits P l (Gave a l1, s1) = P a × (l1 ≡ l) × Table s1
  OutFits P l (Faulted r l1, s1) = IsOwnFault r.fault × Table s1

  then_fits : {A B : Type 0} (P : A → Type 0) (Q : B → Type 0) (run : Run A) (k : A → Local → Run B) (l : Local) (s : Server) → OutFits P l (handle h run s)
      → ((a : A) (s1 : Server) → P a → Table s1 → OutFits Q l (handle h (k a l) s1)) → OutFits Q l (handle h (next run k) s)
  then_fits {A = A} P Q run k l s fits more = subst (OutFits Q l) (sym (handle_seq h run (on k) s)) (by (handle h run s) fits)
    where
      by : (r : Outcome A × Server) → OutFits P l r → OutFits Q l (handle h (on k r.0) r.1)
      by (Gave a l1, s1) e = subst (λ m. OutFits Q l (handle h (k a m) s1)) (sym e.1) (more a s1 e.0 e.2)
      by (Faulted r l1, s1) e = e

  end_fits : {A : Type 0} (P : A → Type 0) (at : ℕ) (r : Result A Fault) (l : Local) (s : Server) → Fair P r → Table s → OutFits P l (handle h (end l (raises at r)) s)
  end_fits P at (Ok a) l s e t = (e, refl, t)
  end_fits P at (Err fault) l s e t = (rule_own fault e, t)

  answer_fits : (P : Value → Type 0) (l : Local) (r : Reply Value) → Fine service P r → OutFits P l (handle h (end l (answer_of r).0) (answer_of r).1)
  answer_fits P l (Got v s1) e = (e.0, refl, e.1)
  answer_fits P l (Stopped at fault s1) e = e

  decided_fits : (P : Value → Type 0) (o : Option Value) (go : Local → Run Value) (l : Local) (s : Server) → IfDecided P o → Table s → OutFits P l (handle h (go l) s) → OutFits P l (handle h (decided_or o go l) s)
  decided_fits P (Some v) go l s e t more = (e, refl, t)
  decided_fits P None go l s e t more = more

  -- a call on a remote object
  call_fits : (at : ℕ) (k : Kind) (target : Value) (w : Value-F Value) (method : List ℕ) (args : List Value) (l : Local) (s : Server) → out-Value target ≡ w → IsRemoteValue w → All IsBounded args
      → Fine service (Fits is [] k) (invoke service.classes at (numbers.call_kind p at) (out-Value target) method args s) → OutFits (Fits is [] k) l (handle h (called code at target w method args l) s)
  call_fits at k target (Value-F.Remote object) method args l s e on bounded fine = answer_fits (Fits is [] k) l (invoke service.classes at (numbers.call_kind p at) (out-Value target) method args s) fine
  call_fits at k target Value-F.Unit method args l s e on bounded fine = absurd on
  call_fits at k target _ method args l s e on bounded fine = absurd on

  module _ (vs : Scope) (ws : typed.Scope) (ns : Names) (carry : Carry is vs ws ns) where
    abbrev l : Local
    l = with_names ns

    mutual
      unfolding literal_kind

      value_fits : (e : Expr) (k : Kind) (s : Server) → portable f vs e ≡ true → type_of x ws e ≡ Ok k → IsNotedExpr types x ws e → IsFormedExpr e → Table s → OutFits (Fits is [] k) l (handle h (evaluates code e l) s)
      value_fits (Lit at v) k s r t n g table =
          let same : literal_form (out-Value v) ≡ k = cc (t) in
          (subst (λ m. Fits is [] m v) same (literal_fits is [] v (out-Value v) refl g), refl, table)
      value_fits (Name at name) k s r t n g table =
          let b = bind_ok (known (UnknownName at) (typed.variable_named ws name)) _ k t in
          let same : (b.0).kind ≡ k = cc (b.2) in
          let found = carry_look is vs ws ns name b.0 carry g r (known_ok (UnknownName at) (typed.variable_named ws name) b.0 b.1) in
          end_fits (Fits is [] k) at (value_of ns name) l s
          (subst (λ o. Fair (Fits is [] k) (known faults.kind o)) (sym found.1) (subst (λ m. Fits is [] m found.0) same found.2)) table
      value_fits (This at) k s r t n g table = absurd (cc (r))
      value_fits (Unary at o a) k s r t n g table =
          let b = placed_ok (expr_at a) (type_of x ws a) _ k t in
          then_fits (Fits is [] b.0) (Fits is [] k) (evaluates code a l) _ l s (value_fits a b.0 s r b.1 n.1 g table) (λ v s1 fv t1.
          end_fits (Fits is [] k) at (on_one o (out-Value v)) l s1 (laws.one is [] o (record { at = expr_at a; kind = b.0 }) k v b.2 fv) t1)
      value_fits (Binary at o a b) k s r t n g table =
          let c = placed_ok (expr_at a) (type_of x ws a) _ k t in
          let e = placed_ok (expr_at b) (type_of x ws b) _ k c.2 in
          let p1 : Placed = record { at = expr_at a; kind = c.0 } in
          let p2 : Placed = record { at = expr_at b; kind = e.0 } in
          let both = and_parts (portable f vs a) (portable f vs b) r in
          then_fits (Fits is [] c.0) (Fits is [] k) (evaluates code a l) _ l s (value_fits a c.0 s both.0 c.1 n.1 g.0 table) (λ v s1 fv t1.
          then_fits (IfDecided (Fits is [] k)) (Fits is [] k) (end l (raises at (by_left o (out-Value v)))) _ l s1
          (end_fits (IfDecided (Fits is [] k)) at (by_left o (out-Value v)) l s1 (laws.left is [] o p1 p2 k v e.2 fv) t1) (λ decided s2 fd t2.
          decided_fits (Fits is [] k) decided _ l s2 fd t2
          (then_fits (Fits is [] e.0) (Fits is [] k) (evaluates code b l) _ l s2 (value_fits b e.0 s2 both.1 e.1 n.2 g.1 t2) (λ w s3 fw t3.
          end_fits (Fits is [] k) at (on_two o (out-Value v) (out-Value w)) l s3 (laws.two is [] o p1 p2 k v w e.2 fv fw) t3))))
      value_fits (Field at a name) k s r t n g table = absurd (cc (r))
      value_fits (Call at a method args) k s r t n g table =
          let b = placed_ok (expr_at a) (type_of x ws a) _ k t in
          let ts = bind_ok (types_of x ws args) _ k b.2 in
          let whole = and_parts (is_remote f a && portable f vs a) (all_portable f vs args) r in
          let receiver = and_parts (is_remote f a) (portable f vs a) whole.0 in
          let named = object_named (of_program p) b.0 (sym (object_fact p (expr_at a) b.0 (kind_here types x ws a b.0 n.1 b.1)) ∙ receiver.0) in
          let interface = there (interface_named is named.0) named.2 in
          let on_interface : interface_call at method interface.0 ts.0 ≡ Ok k =
          subst (λ o. call_on x at method (record { at = expr_at a; kind = b.0 }) ts.0 o ≡ Ok k) (ap (receiver_interface (of_program p)) named.1 ∙ interface.1) ts.2 in
          let far = laws.given (of_program p) declared at named.0 method interface.0 ts.0 k interface.1 on_interface in
          then_fits (Fits is [] b.0) (Fits is [] k) (evaluates code a l) _ l s (value_fits a b.0 s receiver.1 b.1 n.1 g.0 table) (λ v s1 fv t1.
          then_fits (All IsBounded) (Fits is [] k) (evaluates_all code args l) _ l s1 (values_fit args ts.0 s1 whole.1 ts.1 n.2 g.1 t1) (λ us s2 fus t2.
          let on : IsRemoteValue (out-Value v) = subst (λ o. FitsNamed o [] named.0 (out-Value v)) interface.1 (subst (λ m. Fits is [] m v) named.1 fv) in
          call_fits at k v (out-Value v) method us l s2 refl on fus
          (invoke_fine laws.calls p service service_typed service_formed at v method us s2 k on fus (n.0 ∙ ap Some t) far t2)))
      value_fits (Index at a b) k s r t n g table = absurd (cc (r))
      value_fits (New at class args) k s r t n g table = absurd (cc (r))
      value_fits (Items at item items) k s r t n g table = absurd (cc (r))
      value_fits (Taken at step) k s r t n g table = absurd (cc (r))

      values_fit : (es : Exprs) (ps : List Placed) (s : Server) → all_portable f vs es ≡ true → types_of x ws es ≡ Ok ps → AreNotedExprs types x ws es → AreFormedExprs es → Table s → OutFits (All IsBounded) l (handle h (evaluates_all code es l) s)
      values_fit NoExprs ps s r t n g table = (All-nil IsBounded, refl, table)
      values_fit (MoreExprs e es) ps s r t n g table =
          let b = placed_ok (expr_at e) (type_of x ws e) _ ps t in
          let qs = rest_typed (record { at = expr_at e; kind = b.0 }) (types_of x ws es) ps b.2 in
          let both = and_parts (portable f vs e) (all_portable f vs es) r in
          then_fits (Fits is [] b.0) (All IsBounded) (evaluates code e l) _ l s (value_fits e b.0 s both.0 b.1 n.0 g.0 table) (λ v s1 fv t1.
          then_fits (All IsBounded) (All IsBounded) (evaluates_all code es l) _ l s1 (values_fit es qs.0 s1 both.1 qs.1 n.1 g.1 t1) (λ us s2 fus t2.
          (All-cons IsBounded v us (laws.sent is [] b.0 v fv) fus, refl, t2)))

    pub value_fine : (e : Expr) (k : Kind) (s : Server) → portable f vs e ≡ true → type_of x ws e ≡ Ok k → IsNotedExpr types x ws e → IsFormedExpr e → Table s → Fine service (Fits is [] k) (part.value_of p service e ns s)
    value_fine e k s r t n g table = by (handle h (evaluates code e l) s) (value_fits e k s r t n g table)
      where
        by : (o : Outcome Value × Server) → OutFits (Fits is [] k) l o → Fine service (Fits is [] k) (reply_of o)
        by (Gave v l1, s1) e' = (e'.0, e'.2)
        by (Faulted r' l1, s1) e' = e'
