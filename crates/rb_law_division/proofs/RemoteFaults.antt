-- What is sent in a batch faults remotely.
use Rattle.std.proofs.Common.{◌≡◌, refl, sym, ap, ◌∙◌, subst, ℕ, List, [], ◌∷◌, Bool as Truth, true, false, cond, ◌&&◌, option_map, All, Option, Some, None, Result, Ok, Err}
use Rattle.std.proofs.lemmas.Bool.{and_parts}
use Rattle.std.proofs.lemmas.List.Elements.{All-nil, All-cons}
use Rattle.rb_trees.specs.Outcome.{known}
use Rattle.rb_trees.specs.declared.values.Value.{Value}
use Rattle.rb_trees.specs.declared.values.Value.TheOpen.{Value-F}
use Rattle.rb_trees.specs.declared.values.Value.TheViews.{out-Value}
use Rattle.rb_trees.specs.declared.values.Fault.{Fault}
use Rattle.rb_trees.specs.mirror.Code.{Expr, Exprs, Lit, Name, This, Unary, Binary, Field, Call, Index, New, Items, Taken, NoExprs, MoreExprs, expr_at}
use Rattle.rb_trees.specs.mirror.Declarations.{Program, Interface}
use Rattle.rb_trees.specs.mirror.Services.{Service}
use Rattle.rb_meaning_types.specs.Kinds as kind
use Rattle.rb_meaning_types.specs.Kinds.{Kind}
use Rattle.rb_meaning_types.specs.Names.{interface_named}
use Rattle.rb_meaning_types.specs.Violations.{Checked, Placed, UnknownName}
use Rattle.rb_meaning_types.specs.Declared.{Context, of_program}
use Rattle.rb_meaning_types.specs.Scopes as typed
use Rattle.rb_meaning_types.specs.Literals.{literal_form, literal_kind}
use Rattle.rb_meaning_types.specs.Expressions.{type_of, types_of}
use Rattle.rb_meaning_types.specs.Members.{call_on, interface_call, receiver_interface}
use Rattle.rb_meaning_types.specs.Notes.{type_at}
use Rattle.rb_meaning_types.specs.Programs.{check_service}
use Rattle.rb_meaning_types.specs.Fits.{IsRemoteValue, FitsNamed, Fits, TableFits}
use Rattle.rb_meaning_code.specs.State.{Local}
use Rattle.rb_meaning_code.specs.Faults as faults
use Rattle.rb_meaning_code.specs.Faults.{raises}
use Rattle.rb_meaning_code.specs.Operators.{on_one, on_two, by_left}
use Rattle.rb_meaning_code.specs.Dialogue.{Outcome, Gave, Faulted, Run, Handler, handle, on, next, end}
use Rattle.rb_meaning_code.specs.Calls.{Bodies, called}
use Rattle.rb_meaning_code.specs.Expressions.{value_of, decided_or, evaluates, evaluates_all}
use Rattle.rb_meaning_code.specs.Bodies.{bodies_of}
use Rattle.rb_meaning_code.specs.Remote.{Reply, Got, Stopped, invoke}
use Rattle.rb_meaning_flow.specs.Facts.{Facts, facts_of, is_remote}
use Rattle.rb_meaning_flow.specs.Scopes.{Scope}
use Rattle.rb_meaning_flow.specs.Portable.{portable, all_portable}
use Rattle.rb_meaning_types.specs.CallKinds as numbers
use Rattle.rb_meaning.specs.RemoteAnswers.{answer_of}
use Rattle.rb_law_types.specs.Kept.{IsBounded, Fair}
use Rattle.rb_law_types.specs.Formed.{IsFormedExpr, AreFormedExprs, AreFormed}
use Rattle.rb_law_types.specs.Noted.{IsNotedExpr, AreNotedExprs}
use Rattle.rb_law_types.specs.Operators.{IfDecided}
use Rattle.rb_law_types.specs.Code.{AreTyped}
use Rattle.rb_law_types.proofs.Checks.{bind_ok, known_ok, placed_ok}
use Rattle.rb_law_types.proofs.Exprs.{literal_fits}
use Rattle.rb_law_unsplit.proofs.Handling.{Fine, invoke_fine}
use Rattle.std.specs.Str.{bytes_eq}
use Rattle.rb_trees.specs.Named.{first_named, lookup}
use Rattle.rb_meaning_types.specs.Fits.{classes_of, this_name, frame_scope, Frame, NamesFit}
use Rattle.rb_meaning_types.specs.Lawful.{expr_positions, exprs_positions}
use Rattle.rb_meaning.specs.State.{Outside}
use Rattle.rb_meaning.specs.Unsplit.{stands_remote, with_answer, in_batch}
use Rattle.rb_marks.specs.Laws.{EachHasItsMark}
use Rattle.rb_law_types.specs.Ends.{Grown, Place, context, FitsPlace}
use Rattle.rb_law_types.specs.Formed.{LawfulClassesAreFormed}
use Rattle.rb_law_types.proofs.Values.{fits_more}
use Rattle.rb_law_types.proofs.TypeFacts.{kind_here, object_fact}
use Rattle.rb_law_unsplit.proofs.Programs.{program_typed}
use Rattle.rb_law_unsplit.proofs.Walking.{Laws, handle_seq, rest_typed, object_named, there}
use Rattle.rb_law_division.specs.Faults.{EachFault, IsRemote, SentFaultsAreRemote}
use Rattle.rb_law_division.proofs.Lists.{all_left, all_right}
use Rattle.rb_law_division.proofs.Marked.{EachMarked, site_marked}

-- ---- names

module _ (is : List Interface) (cs : List (List ℕ)) where
  abbrev Looked : Kind → Option Value → Type 0
  Looked k o = (v : Value) × (o ≡ Some v) × Fits is cs k v

  look : (vs : typed.Scope) (ns : Frame) (name : List ℕ) (v : typed.Variable) → NamesFit is cs vs ns → typed.variable_named vs name ≡ Some v → Looked v.kind (lookup ns name)
  look [] ns name v h e = absurd (cc (e))
  look (w ∷ vs) [] name v h e = absurd h
  look (w ∷ vs) (n ∷ ns) name v h e =
      subst (λ m. Looked v.kind (option_map (λ (q : List ℕ × Value). q.1) (cond (bytes_eq m name) (Some n) (first_named (λ p. p.0) ns name)))) h.0 (by (bytes_eq w.name name) e (look vs ns name v h.2))
    where
      by : (t : Truth) → cond t (Some w) (typed.variable_named vs name) ≡ Some v → (typed.variable_named vs name ≡ Some v → Looked v.kind (lookup ns name))
          → Looked v.kind (option_map (λ (q : List ℕ × Value). q.1) (cond t (Some n) (first_named (λ p. p.0) ns name)))
      by true e' more = let same : w ≡ v = cc (e') in (n.1, refl, subst (λ u. Fits is cs u.kind n.1) same h.1)
      by false e' more = more e'

  frame_look : (this : Option (List ℕ)) (scope : typed.Scope) (ns : Frame) (name : List ℕ) (v : typed.Variable) → bytes_eq this_name name ≡ false → NamesFit is cs (frame_scope this scope) ns → typed.variable_named scope name ≡ Some v
      → Looked v.kind (lookup ns name)
  frame_look None scope ns name v plain h e = look scope ns name v h e
  frame_look (Some class) scope ns name v plain h e = look (frame_scope (Some class) scope) ns name v h
      (subst (λ t. cond t (Some (record { name = this_name; kind = kind.Named class; fixed = true })) (typed.variable_named scope name) ≡ Some v) (sym plain) e)

none_grown : (cs : List (List ℕ)) → Grown [] cs
none_grown cs object class e = absurd (cc e)

module _ (laws : Laws) (p : Program) (service : Service) (service_typed : check_service service.classes ≡ Ok tt) (service_formed : AreFormed service.classes) (declared : AreTyped (of_program p)) (place : Place) (gas : ℕ)
    (l : Local) (fits : FitsPlace (of_program p) place l) where
  abbrev x : Context
  x = context (of_program p) place

  abbrev ws : typed.Scope
  ws = place.scope

  abbrev is : List Interface
  is = p.interfaces

  abbrev cs : List (List ℕ)
  cs = classes_of l.heap

  abbrev f : Facts
  f = facts_of p

  abbrev types : ℕ → Option (Checked Kind)
  types = type_at p

  abbrev Table : Outside → Type 0
  Table s = TableFits service.classes service.root s.server.table

  abbrev h : Handler Outside
  h = in_batch p service

  abbrev code : Bodies
  code = bodies_of p.classes gas

  -- how an evaluation ends that began in the local state: there too, unless by a remote fault
  abbrev Out : {A : Type 0} → (A → Type 0) → Outcome A × Outside → Type 0
  Out P (Gave a l1, s1) = P a × (l1 ≡ l) × Table s1
  Out P (Faulted r l1, s1) = IsRemote p r

  then_out : {A B : Type 0} (P : A → Type 0) (Q : B → Type 0) (run : Run A) (k : A → Local → Run B) (s : Outside) → Out P (handle h run s)
      → ((a : A) (s1 : Outside) → P a → Table s1 → Out Q (handle h (k a l) s1)) → Out Q (handle h (next run k) s)
  then_out {A = A} P Q run k s out more = subst (Out Q) (sym (handle_seq h run (on k) s)) (by (handle h run s) out)
    where
      by : (r : Outcome A × Outside) → Out P r → Out Q (handle h (on k r.0) r.1)
      by (Gave a l1, s1) e = subst (λ m. Out Q (handle h (k a m) s1)) (sym e.1) (more a s1 e.0 e.2)
      by (Faulted r l1, s1) e = e

  -- a rule at a position that is marked Remote
  end_out : {A : Type 0} (P : A → Type 0) (at : ℕ) (r : Result A Fault) (s : Outside) → stands_remote p at ≡ true → Fair P r → Table s → Out P (handle h (end l (raises at r)) s)
  end_out P at (Ok a) s m e t = (e, refl, t)
  end_out P at (Err fault) s m e t = m

  answer_out : (P : Value → Type 0) (s : Outside) (r : Reply Value) → Fine service P r → Out P (handle h (end l (with_answer s (answer_of r)).0) (with_answer s (answer_of r)).1)
  answer_out P s (Got v s1) e = (e.0, refl, e.1)
  answer_out P s (Stopped at fault s1) e = refl

  decided_out : (P : Value → Type 0) (o : Option Value) (go : Local → Run Value) (s : Outside) → IfDecided P o → Table s → Out P (handle h (go l) s) → Out P (handle h (decided_or o go l) s)
  decided_out P (Some v) go s e t more = (e, refl, t)
  decided_out P None go s e t more = more

  fine_more : (k : Kind) (r : Reply Value) → Fine service (Fits is [] k) r → Fine service (Fits is cs k) r
  fine_more k (Got v s1) e = (fits_more is [] cs (none_grown cs) k v e.0, e.1)
  fine_more k (Stopped at fault s1) e = e

  -- a call on a remote object
  call_out : (at : ℕ) (k : Kind) (target : Value) (w : Value-F Value) (method : List ℕ) (args : List Value) (s : Outside) → out-Value target ≡ w → IsRemoteValue w
      → Fine service (Fits is cs k) (invoke service.classes at (numbers.call_kind p at) (out-Value target) method args s.server) → Out (Fits is cs k) (handle h (called code at target w method args l) s)
  call_out at k target (Value-F.Remote object) method args s e on fine = answer_out (Fits is cs k) s (invoke service.classes at (numbers.call_kind p at) (out-Value target) method args s.server) fine
  call_out at k target Value-F.Unit method args s e on fine = absurd on
  call_out at k target _ method args s e on fine = absurd on

  module _ (vs : Scope) where
    mutual
      unfolding literal_kind

      value_out : (e : Expr) (k : Kind) (s : Outside) → portable f vs e ≡ true → type_of x ws e ≡ Ok k → IsNotedExpr types x ws e → IsFormedExpr e → EachMarked p (expr_positions e) → Table s → Out (Fits is cs k) (handle h (evaluates code e l) s)
      value_out (Lit at v) k s r t n g m table =
          let same : literal_form (out-Value v) ≡ k = cc (t) in
          (subst (λ q. Fits is cs q v) same (literal_fits is cs v (out-Value v) refl g), refl, table)
      value_out (Name at name) k s r t n g m table =
          let b = bind_ok (known (UnknownName at) (typed.variable_named ws name)) _ k t in
          let same : (b.0).kind ≡ k = cc (b.2) in
          let found = frame_look is cs place.this ws l.names name b.0 g fits.holds.names_fit (known_ok (UnknownName at) (typed.variable_named ws name) b.0 b.1) in
          end_out (Fits is cs k) at (value_of l.names name) s m.0
          (subst (λ o. Fair (Fits is cs k) (known faults.kind o)) (sym found.1) (subst (λ q. Fits is cs q found.0) same found.2)) table
      value_out (This at) k s r t n g m table = absurd (cc (r))
      value_out (Unary at o a) k s r t n g m table =
          let b = placed_ok (expr_at a) (type_of x ws a) _ k t in
          then_out (Fits is cs b.0) (Fits is cs k) (evaluates code a l) _ s (value_out a b.0 s r b.1 n.1 g m.1 table) (λ v s1 fv t1.
          end_out (Fits is cs k) at (on_one o (out-Value v)) s1 m.0 (laws.one is cs o (record { at = expr_at a; kind = b.0 }) k v b.2 fv) t1)
      value_out (Binary at o a b) k s r t n g m table =
          let c = placed_ok (expr_at a) (type_of x ws a) _ k t in
          let e = placed_ok (expr_at b) (type_of x ws b) _ k c.2 in
          let p1 : Placed = record { at = expr_at a; kind = c.0 } in
          let p2 : Placed = record { at = expr_at b; kind = e.0 } in
          let both = and_parts (portable f vs a) (portable f vs b) r in
          let first = all_left (λ q. stands_remote p q ≡ true) (expr_positions a) (expr_positions b) m.1 in
          let second = all_right (λ q. stands_remote p q ≡ true) (expr_positions a) (expr_positions b) m.1 in
          then_out (Fits is cs c.0) (Fits is cs k) (evaluates code a l) _ s (value_out a c.0 s both.0 c.1 n.1 g.0 first table) (λ v s1 fv t1.
          then_out (IfDecided (Fits is cs k)) (Fits is cs k) (end l (raises at (by_left o (out-Value v)))) _ s1
          (end_out (IfDecided (Fits is cs k)) at (by_left o (out-Value v)) s1 m.0 (laws.left is cs o p1 p2 k v e.2 fv) t1) (λ decided s2 fd t2.
          decided_out (Fits is cs k) decided _ s2 fd t2
          (then_out (Fits is cs e.0) (Fits is cs k) (evaluates code b l) _ s2 (value_out b e.0 s2 both.1 e.1 n.2 g.1 second t2) (λ w s3 fw t3.
          end_out (Fits is cs k) at (on_two o (out-Value v) (out-Value w)) s3 m.0 (laws.two is cs o p1 p2 k v w e.2 fv fw) t3))))
      value_out (Field at a name) k s r t n g m table = absurd (cc (r))
      value_out (Call at a method args) k s r t n g m table =
          let b = placed_ok (expr_at a) (type_of x ws a) _ k t in
          let ts = bind_ok (types_of x ws args) _ k b.2 in
          let whole = and_parts (is_remote f a && portable f vs a) (all_portable f vs args) r in
          let receiver = and_parts (is_remote f a) (portable f vs a) whole.0 in
          let first = all_left (λ q. stands_remote p q ≡ true) (expr_positions a) (exprs_positions args) m.1 in
          let second = all_right (λ q. stands_remote p q ≡ true) (expr_positions a) (exprs_positions args) m.1 in
          let named = object_named (of_program p) b.0 (sym (object_fact p (expr_at a) b.0 (kind_here types x ws a b.0 n.1 b.1)) ∙ receiver.0) in
          let interface = there (interface_named is named.0) named.2 in
          let on_interface : interface_call at method interface.0 ts.0 ≡ Ok k =
          subst (λ o. call_on x at method (record { at = expr_at a; kind = b.0 }) ts.0 o ≡ Ok k) (ap (receiver_interface (of_program p)) named.1 ∙ interface.1) ts.2 in
          let far = laws.given (of_program p) declared at named.0 method interface.0 ts.0 k interface.1 on_interface in
          then_out (Fits is cs b.0) (Fits is cs k) (evaluates code a l) _ s (value_out a b.0 s receiver.1 b.1 n.1 g.0 first table) (λ v s1 fv t1.
          then_out (All IsBounded) (Fits is cs k) (evaluates_all code args l) _ s1 (values_out args ts.0 s1 whole.1 ts.1 n.2 g.1 second t1) (λ us s2 fus t2.
          let on : IsRemoteValue (out-Value v) = subst (λ o. FitsNamed o cs named.0 (out-Value v)) interface.1 (subst (λ q. Fits is cs q v) named.1 fv) in
          call_out at k v (out-Value v) method us s2 refl on
          (fine_more k (invoke service.classes at (numbers.call_kind p at) (out-Value v) method us s2.server) (invoke_fine laws.calls p service service_typed service_formed at v method us s2.server k on fus (n.0 ∙ ap Some t) far t2))))
      value_out (Index at a b) k s r t n g m table = absurd (cc (r))
      value_out (New at class args) k s r t n g m table = absurd (cc (r))
      value_out (Items at item items) k s r t n g m table = absurd (cc (r))
      value_out (Taken at step) k s r t n g m table = absurd (cc (r))

      values_out : (es : Exprs) (ps : List Placed) (s : Outside) → all_portable f vs es ≡ true → types_of x ws es ≡ Ok ps → AreNotedExprs types x ws es → AreFormedExprs es → EachMarked p (exprs_positions es) → Table s
          → Out (All IsBounded) (handle h (evaluates_all code es l) s)
      values_out NoExprs ps s r t n g m table = (All-nil IsBounded, refl, table)
      values_out (MoreExprs e es) ps s r t n g m table =
          let b = placed_ok (expr_at e) (type_of x ws e) _ ps t in
          let qs = rest_typed (record { at = expr_at e; kind = b.0 }) (types_of x ws es) ps b.2 in
          let both = and_parts (portable f vs e) (all_portable f vs es) r in
          then_out (Fits is cs b.0) (All IsBounded) (evaluates code e l) _ s (value_out e b.0 s both.0 b.1 n.0 g.0 (all_left (λ q. stands_remote p q ≡ true) (expr_positions e) (exprs_positions es) m) table) (λ v s1 fv t1.
          then_out (All IsBounded) (All IsBounded) (evaluates_all code es l) _ s1 (values_out es qs.0 s1 both.1 qs.1 n.1 g.1 (all_right (λ q. stands_remote p q ≡ true) (expr_positions e) (exprs_positions es) m) t1) (λ us s2 fus t2.
          (All-cons IsBounded v us (laws.sent is cs b.0 v fv) fus, refl, t2)))

    faults_remote : (P : Value → Type 0) (o : Outcome Value × Outside) → Out P o → EachFault (IsRemote p) o.0
    faults_remote P (Gave v l1, s1) e = tt
    faults_remote P (Faulted r l1, s1) e = e

pub sent_remote : Laws → LawfulClassesAreFormed → EachHasItsMark → SentFaultsAreRemote
sent_remote laws classes_formed marks p lawful checked service typed_service formed_service s place sent l fits outside table gas =
    let t = program_typed p checked in
    let declared : AreTyped (of_program p) = record { declared = t.declared; bodies = t.bodies; formed = classes_formed p.classes lawful.classes; alone = λ e. absurd (cc (e)) } in
    faults_remote laws p service typed_service formed_service declared place gas l fits s.stands.scope (Fits p.interfaces (classes_of l.heap) sent.kind) (handle (in_batch p service) (evaluates (bodies_of p.classes gas) s.expr l) outside)
    (value_out laws p service typed_service formed_service declared place gas l fits s.stands.scope s.expr sent.kind outside sent.portable sent.typed sent.noted sent.formed (site_marked marks p lawful s sent.stands sent.remote) table)
