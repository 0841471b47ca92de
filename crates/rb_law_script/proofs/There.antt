-- A portable expression that is evaluated where it stands, in the body of a batch, has the value that it has in the script.
use Rattle.std.proofs.Common.{◌≡◌, refl, sym, ap, ◌∙◌, subst, ℕ, List, [], Bool as Truth, true, ◌&&◌, Option, Some, None, Result, Ok, Err}
use Rattle.std.proofs.lemmas.Bool.{and_parts}
use Rattle.rb_trees.specs.Named.{lookup}
use Rattle.rb_trees.specs.Outcome.{known}
use Rattle.rb_trees.specs.declared.values.Value.{Value}
use Rattle.rb_trees.specs.declared.values.Value.TheOpen.{Value-F}
use Rattle.rb_trees.specs.declared.values.Value.TheViews.{out-Value}
use Rattle.rb_trees.specs.declared.values.Fault.{Fault}
use Rattle.rb_trees.specs.mirror.Code.{Expr, Exprs, Lit, Name, This, Unary, Binary, Field, Call, Index, New, Items, Taken, NoExprs, MoreExprs, expr_at}
use Rattle.rb_trees.specs.mirror.Declarations.{Program, Interface}
use Rattle.rb_trees.specs.mirror.Services.{Service}
use Rattle.rb_meaning_types.specs.Kinds as kind
use Rattle.rb_meaning_types.specs.Kinds.{Kind}
use Rattle.rb_meaning_types.specs.Names.{interface_named}
use Rattle.rb_meaning_types.specs.Violations.{Checked, Placed}
use Rattle.rb_meaning_types.specs.Declared.{Context, of_program}
use Rattle.rb_meaning_types.specs.Scopes as typed
use Rattle.rb_meaning_types.specs.Expressions.{type_of, types_of}
use Rattle.rb_meaning_types.specs.Notes.{type_at}
use Rattle.rb_meaning_types.specs.Programs.{check_service}
use Rattle.rb_meaning_types.specs.Fits.{IsRemoteValue, FitsNamed, Fits}
use Rattle.rb_meaning_code.specs.State.{Names, Local}
use Rattle.rb_meaning_code.specs.Faults as faults
use Rattle.rb_meaning_code.specs.Faults.{raises}
use Rattle.rb_meaning_code.specs.Operators.{on_one, on_two, by_left}
use Rattle.rb_meaning_code.specs.Dialogue.{Outcome, Gave, Faulted, Run, Handler, handle, on, next, end}
use Rattle.rb_meaning_code.specs.Calls.{Bodies, called}
use Rattle.rb_meaning_code.specs.Expressions as source
use Rattle.rb_meaning_code.specs.Expressions.{evaluates, evaluates_all}
use Rattle.rb_meaning_code.specs.Remote.{Server, Reply, Got, Stopped, and_then, replies, invoke}
use Rattle.rb_meaning_code.specs.ScriptRun as run
use Rattle.rb_meaning_code.specs.ScriptRun.{Ground, Vars}
use Rattle.rb_meaning_flow.specs.Facts.{Facts, facts_of, is_remote}
use Rattle.rb_meaning_flow.specs.Scopes.{Scope}
use Rattle.rb_meaning_flow.specs.Portable.{portable, all_portable}
use Rattle.rb_meaning.specs.State.{Outside}
use Rattle.rb_meaning_types.specs.CallKinds.{call_kind}
use Rattle.rb_meaning.specs.RemoteAnswers.{answer_of}
use Rattle.rb_meaning.specs.Unsplit.{with_answer, in_batch}
use Rattle.rb_meaning_split.specs.Refs.{Ref, Root, Input, Var, Refs, ref_expr, sexpr, sexprs}
use Rattle.rb_law_types.specs.Formed.{IsFormedExpr, AreFormedExprs, AreFormed}
use Rattle.rb_law_types.specs.Noted.{IsNotedExpr, AreNotedExprs}
use Rattle.rb_law_types.specs.Code.{AreTyped}
use Rattle.rb_law_types.proofs.Checks.{bind_ok, placed_ok}
use Rattle.rb_law_types.proofs.TypeFacts.{kind_here, object_fact}
use Rattle.rb_law_unsplit.proofs.Walking.{Laws, handle_seq, rest_typed, object_named, there}
use Rattle.rb_law_script.proofs.Linked.{ref_value, IsRead, Linked, IsFound, Closed, AllClosed}
use Rattle.rb_law_script.proofs.Values.{value_same}
use Rattle.rb_law_script.proofs.Alike.{Table, Sound}
use Rattle.rb_law_script.proofs.Joined.{Joined, sound_value}

-- Code ends there as a reply does. It leaves the local state as it is, and of its surroundings the events.
abbrev pub DoesThere : {A : Type 0} → Local → Outside → Outcome A × Outside → Reply A → Type 0
DoesThere l s (Gave a l1, s1) r = (l1 ≡ l) × (r ≡ Got a s1.server) × (s1.events ≡ s.events)
DoesThere l s (Faulted x l1, s1) r = (l1 ≡ l) × (r ≡ Stopped x.at x.fault s1.server) × (s1.events ≡ s.events)

there_from : {A : Type 0} (l : Local) (s s1 : Outside) (o : Outcome A × Outside) (r : Reply A) → s1.events ≡ s.events → DoesThere l s1 o r → DoesThere l s o r
there_from l s s1 (Gave a l1, s2) r e h = (h.0, h.1, h.2 ∙ e)
there_from l s s1 (Faulted x l1, s2) r e h = (h.0, h.1, h.2 ∙ e)

-- the server after what a rule gives
ruled : {A : Type 0} (at : ℕ) (r : Result A Fault) (s s1 : Server) (a : A) → replies at r s ≡ Got a s1 → s ≡ s1
ruled at (Ok b) s s1 a e = cc (e)
ruled at (Err f) s s1 a e = absurd (cc (e))

named_remote : (is : List Interface) (name : List ℕ) (interface : Interface) (k : Kind) (v : Value) → k ≡ kind.Named name → interface_named is name ≡ Some interface → Fits is [] k v → IsRemoteValue (out-Value v)
named_remote is name interface k v e found fits = subst (λ o. FitsNamed o [] name (out-Value v)) found (subst (λ m. Fits is [] m v) e fits)

module _ (p : Program) (service : Service) (l : Local) where
  abbrev h : Handler Outside
  h = in_batch p service

  abbrev There : {A : Type 0} → Outside → Outcome A × Outside → Reply A → Type 0
  There s o r = DoesThere l s o r

  pub then_there : {A B : Type 0} (d : Run A) (k : A → Local → Run B) (s : Outside) (r : Reply A) (kr : A → Server → Reply B) → There s (handle h d s) r
      → ((a : A) (s1 : Outside) → r ≡ Got a s1.server → There s1 (handle h (k a l) s1) (kr a s1.server)) → There s (handle h (next d k) s) (and_then r kr)
  then_there {A = A} d k s r kr first more = subst (λ o. There s o (and_then r kr)) (sym (handle_seq h d (on k) s)) (by (handle h d s) first)
    where
      by : (o : Outcome A × Outside) → There s o r → There s (handle h (on k o.0) o.1) (and_then r kr)
      by (Gave a l1, s1) e =
          subst (λ m. There s (handle h (k a m) s1) (and_then r kr)) (sym e.0)
          (subst (λ q. There s (handle h (k a l) s1) (and_then q kr)) (sym e.1) (there_from l s s1 (handle h (k a l) s1) (kr a s1.server) e.2 (more a s1 e.1)))
      by (Faulted x l1, s1) e = (e.0, ap (λ q. and_then q kr) e.1, e.2)

  pub end_there : {A : Type 0} (at : ℕ) (r : Result A Fault) (s : Outside) → There s (handle h (end l (raises at r)) s) (replies at r s.server)
  end_there at (Ok a) s = (refl, refl, refl)
  end_there at (Err f) s = (refl, refl, refl)

  answer_there : (s : Outside) (r : Reply Value) → There s (handle h (end l (with_answer s (answer_of r)).0) (with_answer s (answer_of r)).1) r
  answer_there s (Got v s1) = (refl, refl, refl)
  answer_there s (Stopped at f s1) = (refl, refl, refl)

  decided_there : (o : Option Value) (go : Local → Run Value) (gr : Server → Reply Value) (s : Outside) → There s (handle h (go l) s) (gr s.server) → There s (handle h (source.decided_or o go l) s) (run.decided_or o gr s.server)
  decided_there (Some v) go gr s more = (refl, refl, refl)
  decided_there None go gr s more = more

  call_there : (bodies : Bodies) (at : ℕ) (target : Value) (w : Value-F Value) (method : List ℕ) (args : List Value) (s : Outside) → out-Value target ≡ w → IsRemoteValue w
      → There s (handle h (called bodies at target w method args l) s) (invoke service.classes at (call_kind p at) w method args s.server)
  call_there bodies at target (Value-F.Remote object) method args s e on =
      subst (λ w. There s (handle h (called bodies at target (Value-F.Remote object) method args l) s) (invoke service.classes at (call_kind p at) w method args s.server)) e
      (answer_there s (invoke service.classes at (call_kind p at) (out-Value target) method args s.server))
  call_there bodies at target Value-F.Unit method args s e on = absurd on
  call_there bodies at target _ method args s e on = absurd on

module _ (laws : Laws) (p : Program) (service : Service) (service_typed : check_service service.classes ≡ Ok tt) (service_formed : AreFormed service.classes) (declared : AreTyped (of_program p)) (this : Option (List ℕ)) (remote : Truth)
    (g : Ground) (classes : g.classes ≡ service.classes) (inputs : List (List ℕ)) (refs : Refs) (m : ℕ) (vs : Scope) (ws : typed.Scope) (ns : Names) (vars : Vars) (j : Joined p.interfaces g inputs refs m vs ws ns vars)
    (bodies : Bodies) (l : Local) (linked : Linked g refs vars l.names) (step : ℕ) where
  abbrev x : Context
  x = record { declared = of_program p; this = this; remote = remote }

  abbrev is : List Interface
  is = p.interfaces

  abbrev f : Facts
  f = facts_of p

  abbrev types : ℕ → Option (Checked Kind)
  types = type_at p

  abbrev batch : Handler Outside
  batch = in_batch p service

  abbrev value : Expr → Server → Reply Value
  value e s = run.value_of g step vars (sexpr p refs e) s

  abbrev DoesHere : {A : Type 0} → Outside → Outcome A × Outside → Reply A → Type 0
  DoesHere s o r = DoesThere l s o r

  -- what a portable expression gives fits its type
  gives : (e : Expr) (k : Kind) (s s1 : Server) (v : Value) → portable f vs e ≡ true → type_of x ws e ≡ Ok k → IsNotedExpr types x ws e → IsFormedExpr e → Closed refs e → Table service s → value e s ≡ Got v s1 → Fits is [] k v × Table service s1
  gives e k s s1 v r t n formed c table got =
      subst (Sound service (Fits is [] k)) (sym (value_same p service g classes refs vars ns j.linked step e s c) ∙ got)
      (sound_value laws p service service_typed service_formed declared this remote g classes inputs refs m vs ws ns vars j e k s r t n formed table)

  read_there : (place : ℕ) (name : List ℕ) (r : Ref) (s : Outside) → IsRead g vars l.names name r → DoesHere s (handle batch (end l (raises place (source.value_of l.names name))) s) (run.value_of g step vars (ref_expr (Some r)) s.server)
  read_there place name r s read = subst (λ o. DoesHere s (handle batch (end l (raises place (known faults.kind o))) s) (run.value_of g step vars (ref_expr (Some r)) s.server)) (sym read.holds) (refl, by r read.reads, refl)
    where
      by : (q : Ref) → ref_value g vars q ≡ Some read.value → run.value_of g step vars (ref_expr (Some q)) s.server ≡ Got read.value s.server
      by Root e = ap (λ o. replies step (known faults.kind o) s.server) e
      by (Input number) e = ap (λ o. replies step (known faults.kind o) s.server) e
      by (Var number) e = ap (λ o. replies step (known faults.kind o) s.server) e

  mutual
    pub value_there : (e : Expr) (k : Kind) (s : Outside) → portable f vs e ≡ true → type_of x ws e ≡ Ok k → IsNotedExpr types x ws e → IsFormedExpr e → Closed refs e → Table service s.server → DoesHere s (handle batch (evaluates bodies e l) s) (value e s.server)
    value_there (Lit at v) k s r t n formed c table = (refl, refl, refl)
    value_there (Name at name) k s r t n formed c table = by (lookup refs name) refl c.1
      where
        by : (o : Option Ref) → lookup refs name ≡ o → IsFound o → DoesHere s (handle batch (evaluates bodies (Name at name) l) s) (run.value_of g step vars (ref_expr o) s.server)
        by (Some q) e found = read_there at name q s (linked name c.0 q e)
        by None e found = absurd found
    value_there (This at) k s r t n formed c table = absurd c
    value_there (Unary at op a) k s r t n formed c table =
        let b = placed_ok (expr_at a) (type_of x ws a) _ k t in
        then_there p service l (evaluates bodies a l) _ s (value a s.server) _ (value_there a b.0 s r b.1 n.1 formed c table) (λ v s1 got. end_there p service l at (on_one op (out-Value v)) s1)
    value_there (Binary at op a b) k s r t n formed c table =
        let left = placed_ok (expr_at a) (type_of x ws a) _ k t in
        let right = placed_ok (expr_at b) (type_of x ws b) _ k left.2 in
        let both = and_parts (portable f vs a) (portable f vs b) r in
        then_there p service l (evaluates bodies a l) _ s (value a s.server) _ (value_there a left.0 s both.0 left.1 n.1 formed.0 c.0 table) (λ v s1 got.
        let t1 = (gives a left.0 s.server s1.server v both.0 left.1 n.1 formed.0 c.0 table got).1 in
        then_there p service l (end l (raises at (by_left op (out-Value v)))) _ s1 (replies at (by_left op (out-Value v)) s1.server) _ (end_there p service l at (by_left op (out-Value v)) s1) (λ decided s2 ruled_by.
        let t2 = subst (Table service) (ruled at (by_left op (out-Value v)) s1.server s2.server decided ruled_by) t1 in
        decided_there p service l decided _ _ s2
        (then_there p service l (evaluates bodies b l) _ s2 (value b s2.server) _ (value_there b right.0 s2 both.1 right.1 n.2 formed.1 c.1 t2) (λ w s3 got3.
        end_there p service l at (on_two op (out-Value v) (out-Value w)) s3))))
    value_there (Field at a name) k s r t n formed c table = absurd c
    value_there (Call at a method args) k s r t n formed c table =
        let b = placed_ok (expr_at a) (type_of x ws a) _ k t in
        let ts = bind_ok (types_of x ws args) _ k b.2 in
        let whole = and_parts (is_remote f a && portable f vs a) (all_portable f vs args) r in
        let receiver = and_parts (is_remote f a) (portable f vs a) whole.0 in
        let named = object_named (of_program p) b.0 (sym (object_fact p (expr_at a) b.0 (kind_here types x ws a b.0 n.1 b.1)) ∙ receiver.0) in
        let interface = there (interface_named is named.0) named.2 in
        then_there p service l (evaluates bodies a l) _ s (value a s.server) _ (value_there a b.0 s receiver.1 b.1 n.1 formed.0 c.0 table) (λ v s1 got.
        let given = gives a b.0 s.server s1.server v receiver.1 b.1 n.1 formed.0 c.0 table got in
        then_there p service l (evaluates_all bodies args l) _ s1 (run.values_of g step vars (sexprs p refs args) s1.server) _ (values_there args ts.0 s1 whole.1 ts.1 n.2 formed.1 c.1 given.1) (λ us s2 got2.
        subst (λ cs. DoesHere s2 (handle batch (called bodies at v (out-Value v) method us l) s2) (invoke cs at (call_kind p at) (out-Value v) method us s2.server)) (sym classes)
        (call_there p service l bodies at v (out-Value v) method us s2 refl (named_remote is named.0 interface.0 b.0 v named.1 interface.1 given.0))))
    value_there (Index at a b) k s r t n formed c table = absurd c
    value_there (New at class args) k s r t n formed c table = absurd c
    value_there (Items at item items) k s r t n formed c table = absurd c
    value_there (Taken at place) k s r t n formed c table = absurd c

    values_there : (es : Exprs) (ps : List Placed) (s : Outside) → all_portable f vs es ≡ true → types_of x ws es ≡ Ok ps → AreNotedExprs types x ws es → AreFormedExprs es → AllClosed refs es → Table service s.server
        → DoesHere s (handle batch (evaluates_all bodies es l) s) (run.values_of g step vars (sexprs p refs es) s.server)
    values_there NoExprs ps s r t n formed c table = (refl, refl, refl)
    values_there (MoreExprs e es) ps s r t n formed c table =
        let b = placed_ok (expr_at e) (type_of x ws e) _ ps t in
        let qs = rest_typed (record { at = expr_at e; kind = b.0 }) (types_of x ws es) ps b.2 in
        let both = and_parts (portable f vs e) (all_portable f vs es) r in
        then_there p service l (evaluates bodies e l) _ s (value e s.server) _ (value_there e b.0 s both.0 b.1 n.0 formed.0 c.0 table) (λ v s1 got.
        let t1 = (gives e b.0 s.server s1.server v both.0 b.1 n.0 formed.0 c.0 table got).1 in
        then_there p service l (evaluates_all bodies es l) _ s1 (run.values_of g step vars (sexprs p refs es) s1.server) _ (values_there es qs.0 s1 both.1 qs.1 n.1 formed.1 c.1 t1) (λ us s2 got2. (refl, refl, refl)))
