-- A portable expression has the same value in a script as in the source.
use Rattle.std.proofs.Common.{◌≡◌, refl, sym, ap, subst, ℕ, List, [], length, Option, Some, None, Result, Ok, Err}
use Rattle.rb_trees.specs.Named.{lookup}
use Rattle.rb_trees.specs.Outcome.{known}
use Rattle.rb_trees.specs.declared.values.Value.{Value}
use Rattle.rb_trees.specs.declared.values.Value.TheOpen.{Value-F}
use Rattle.rb_trees.specs.declared.values.Value.TheViews.{out-Value}
use Rattle.rb_trees.specs.declared.values.Fault.{Fault}
use Rattle.rb_trees.specs.mirror.Code.{Expr, Exprs, Lit, Name, This, Unary, Binary, Field, Call, Index, New, Items, Taken, NoExprs, MoreExprs}
use Rattle.rb_trees.specs.mirror.Declarations.{Method, Program}
use Rattle.rb_trees.specs.mirror.Services.{Service}
use Rattle.rb_meaning_code.specs.State.{Names, Local, spent}
use Rattle.rb_meaning_code.specs.Faults as faults
use Rattle.rb_meaning_code.specs.Faults.{raises}
use Rattle.rb_meaning_code.specs.Operators.{on_one, on_two, by_left}
use Rattle.rb_meaning_code.specs.Dialogue.{Outcome, Gave, Faulted, Run, Handler, handle, seq, on, next, end}
use Rattle.rb_meaning_code.specs.Calls.{Bodies, called_method, unit_due, call_fits, names_within, entered, left, call, called}
use Rattle.rb_meaning_code.specs.Expressions as source
use Rattle.rb_meaning_code.specs.Expressions.{evaluates, evaluates_all}
use Rattle.rb_meaning_code.specs.Bodies.{bodies_of}
use Rattle.rb_meaning_code.specs.Remote.{Server, Reply, Got, Stopped, and_then, replies, invoke}
use Rattle.rb_meaning_code.specs.ScriptRun as run
use Rattle.rb_meaning_code.specs.ScriptRun.{Ground, Vars}
use Rattle.rb_meaning_types.specs.CallKinds.{call_kind}
use Rattle.rb_meaning.specs.RemoteAnswers.{answer_of}
use Rattle.rb_meaning.specs.RemotePart as part
use Rattle.rb_meaning.specs.RemotePart.{reply_of, with_names, in_remote_part}
use Rattle.rb_meaning_split.specs.Refs.{Ref, Root, Input, Var, Refs, ref_expr, sexpr, sexprs}
use Rattle.rb_law_unsplit.proofs.Walking.{handle_seq}
use Rattle.rb_law_script.proofs.Linked.{ref_value, IsRead, Linked, IsFound, Closed, AllClosed}

-- Code ends as a reply does, and leaves the local state as it is where it gives a value.
abbrev pub Does : {A : Type 0} → Local → Outcome A × Server → Reply A → Type 0
Does l (Gave a l1, s1) r = (l1 ≡ l) × (r ≡ Got a s1)
Does l (Faulted x l1, s1) r = r ≡ Stopped x.at x.fault s1

module _ (p : Program) (service : Service) (g : Ground) (classes : g.classes ≡ service.classes) where
  abbrev h : Handler Server
  h = in_remote_part p service

  abbrev code : Bodies
  code = bodies_of p.classes 0

  pub then_does : {A B : Type 0} (d : Run A) (k : A → Local → Run B) (l : Local) (s : Server) (r : Reply A) (kr : A → Server → Reply B) → Does l (handle h d s) r
      → ((a : A) (s1 : Server) → Does l (handle h (k a l) s1) (kr a s1)) → Does l (handle h (next d k) s) (and_then r kr)
  then_does {A = A} d k l s r kr first more = subst (λ o. Does l o (and_then r kr)) (sym (handle_seq h d (on k) s)) (by (handle h d s) first)
    where
      by : (o : Outcome A × Server) → Does l o r → Does l (handle h (on k o.0) o.1) (and_then r kr)
      by (Gave a l1, s1) e =
          subst (λ m. Does l (handle h (k a m) s1) (and_then r kr)) (sym e.0) (subst (λ q. Does l (handle h (k a l) s1) (and_then q kr)) (sym e.1) (more a s1))
      by (Faulted x l1, s1) e = ap (λ q. and_then q kr) e

  pub end_does : {A : Type 0} (at : ℕ) (r : Result A Fault) (l : Local) (s : Server) → Does l (handle h (end l (raises at r)) s) (replies at r s)
  end_does at (Ok a) l s = (refl, refl)
  end_does at (Err f) l s = refl

  pub answer_does : (l : Local) (r : Reply Value) → Does l (handle h (end l (answer_of r).0) (answer_of r).1) r
  answer_does l (Got v s1) = (refl, refl)
  answer_does l (Stopped at f s1) = refl

  decided_does : (o : Option Value) (go : Local → Run Value) (gr : Server → Reply Value) (l : Local) (s : Server) → Does l (handle h (go l) s) (gr s) → Does l (handle h (source.decided_or o go l) s) (run.decided_or o gr s)
  decided_does (Some v) go gr l s more = (refl, refl)
  decided_does None go gr l s more = more

  -- what follows where a method of an own object is found
  abbrev goes : ℕ → Value → List Value → Method → Local → Run Value
  goes at target args m l1 =
      next (end l1 (raises at (unit_due l1.fuel))) (λ u l2.
      next (end (spent l2) (raises at (call_fits l2.depth))) (λ w l3.
      seq (code.run at m.body (entered (names_within target m.signature.params args) l3)) (left l3)))

  -- a call on a value that isn't remote, where there are no own objects
  own_does : (at : ℕ) (target : Value) (method : List ℕ) (args : List Value) (names : Names) (s : Server) → called_method p.classes [] (out-Value target) method (length args) ≡ Err faults.kind
      → Does (with_names names) (handle h (call code at target method args (with_names names)) s) (Stopped at faults.kind s)
  own_does at target method args names s own =
      subst (λ r. Does (with_names names) (handle h (next (end (with_names names) (raises at r)) (goes at target args)) s) (Stopped at faults.kind s)) (sym own) refl

  call_does : (at : ℕ) (target : Value) (w : Value-F Value) (method : List ℕ) (args : List Value) (names : Names) (s : Server) → out-Value target ≡ w
      → Does (with_names names) (handle h (called code at target w method args (with_names names)) s) (invoke g.classes at (call_kind p at) w method args s)
  call_does at target (Value-F.Remote object) method args names s e =
      subst (λ cs. Does (with_names names) (handle h (called code at target (Value-F.Remote object) method args (with_names names)) s) (invoke cs at (call_kind p at) (Value-F.Remote object) method args s)) (sym classes)
      (subst (λ w. Does (with_names names) (handle h (called code at target (Value-F.Remote object) method args (with_names names)) s) (invoke service.classes at (call_kind p at) w method args s)) e
      (answer_does (with_names names) (invoke service.classes at (call_kind p at) (out-Value target) method args s)))
  call_does at target Value-F.Unit method args names s e = own_does at target method args names s (ap (λ w. called_method p.classes [] w method (length args)) e)
  call_does at target _ method args names s e = own_does at target method args names s (ap (λ w. called_method p.classes [] w method (length args)) e)

  module _ (refs : Refs) (vars : Vars) (names : Names) (linked : Linked g refs vars names) (step : ℕ) where
    abbrev l : Local
    l = with_names names

    read_does : (place : ℕ) (name : List ℕ) (r : Ref) (s : Server) → IsRead g vars names name r → Does l (handle h (end l (raises place (source.value_of names name))) s) (run.value_of g step vars (ref_expr (Some r)) s)
    read_does place name r s read = subst (λ o. Does l (handle h (end l (raises place (known faults.kind o))) s) (run.value_of g step vars (ref_expr (Some r)) s)) (sym read.holds) (refl, by r read.reads)
      where
        by : (q : Ref) → ref_value g vars q ≡ Some read.value → run.value_of g step vars (ref_expr (Some q)) s ≡ Got read.value s
        by Root e = ap (λ o. replies step (known faults.kind o) s) e
        by (Input number) e = ap (λ o. replies step (known faults.kind o) s) e
        by (Var number) e = ap (λ o. replies step (known faults.kind o) s) e

    mutual
      pub value_does : (e : Expr) (s : Server) → Closed refs e → Does l (handle h (evaluates code e l) s) (run.value_of g step vars (sexpr p refs e) s)
      value_does (Lit at v) s c = (refl, refl)
      value_does (Name at name) s c = by (lookup refs name) refl c.1
        where
          by : (o : Option Ref) → lookup refs name ≡ o → IsFound o → Does l (handle h (evaluates code (Name at name) l) s) (run.value_of g step vars (ref_expr o) s)
          by (Some r) e f = read_does at name r s (linked name c.0 r e)
          by None e f = absurd f
      value_does (This at) s c = absurd c
      value_does (Unary at op a) s c =
          then_does (evaluates code a l) _ l s (run.value_of g step vars (sexpr p refs a) s) _ (value_does a s c) (λ v s1. end_does at (on_one op (out-Value v)) l s1)
      value_does (Binary at op a b) s c =
          then_does (evaluates code a l) _ l s (run.value_of g step vars (sexpr p refs a) s) _ (value_does a s c.0) (λ v s1.
          then_does (end l (raises at (by_left op (out-Value v)))) _ l s1 (replies at (by_left op (out-Value v)) s1) _ (end_does at (by_left op (out-Value v)) l s1) (λ decided s2.
          decided_does decided _ _ l s2
          (then_does (evaluates code b l) _ l s2 (run.value_of g step vars (sexpr p refs b) s2) _ (value_does b s2 c.1) (λ w s3.
          end_does at (on_two op (out-Value v) (out-Value w)) l s3))))
      value_does (Field at a name) s c = absurd c
      value_does (Call at a method args) s c =
          then_does (evaluates code a l) _ l s (run.value_of g step vars (sexpr p refs a) s) _ (value_does a s c.0) (λ v s1.
          then_does (evaluates_all code args l) _ l s1 (run.values_of g step vars (sexprs p refs args) s1) _ (values_do args s1 c.1) (λ vs s2.
          call_does at v (out-Value v) method vs names s2 refl))
      value_does (Index at a b) s c = absurd c
      value_does (New at class args) s c = absurd c
      value_does (Items at item items) s c = absurd c
      value_does (Taken at place) s c = absurd c

      pub values_do : (es : Exprs) (s : Server) → AllClosed refs es → Does l (handle h (evaluates_all code es l) s) (run.values_of g step vars (sexprs p refs es) s)
      values_do NoExprs s c = (refl, refl)
      values_do (MoreExprs e es) s c =
          then_does (evaluates code e l) _ l s (run.value_of g step vars (sexpr p refs e) s) _ (value_does e s c.0) (λ v s1.
          then_does (evaluates_all code es l) _ l s1 (run.values_of g step vars (sexprs p refs es) s1) _ (values_do es s1 c.1) (λ vs s2. (refl, refl)))

    -- the value of a portable expression
    pub value_same : (e : Expr) (s : Server) → Closed refs e → run.value_of g step vars (sexpr p refs e) s ≡ part.value_of p service e names s
    value_same e s c = by (handle h (evaluates code e l) s) (value_does e s c)
      where
        by : (o : Outcome Value × Server) → Does l o (run.value_of g step vars (sexpr p refs e) s) → run.value_of g step vars (sexpr p refs e) s ≡ reply_of o
        by (Gave v l1, s1) e' = e'.1
        by (Faulted x l1, s1) e' = e'
