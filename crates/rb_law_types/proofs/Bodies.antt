-- Typed methods keep types, by induction on the gas; and so does all typed code.
use Rattle.std.proofs.Common.{◌≡◌, refl, sym, ap, ◌∙◌, subst, ℕ, zero, suc, List, [], arith, Bool as Truth, true, false, not, ◌&&◌, Option, Some, None, Result, Ok, Err}
use Rattle.std.proofs.lemmas.Bool.{and_parts}
use Rattle.rb_trees.specs.declared.values.Value.{Value}
use Rattle.rb_trees.specs.declared.values.Value.TheVariants as value
use Rattle.rb_trees.specs.declared.outcomes.Raised.{Raised}
use Rattle.rb_trees.specs.mirror.Code.{Stmts, Expr, expr_at}
use Rattle.rb_trees.specs.mirror.Declarations.{Body, Method}
use Rattle.rb_meaning_types.specs.Kinds as kind
use Rattle.rb_meaning_types.specs.Kinds.{Kind, kind_of, is_unit, same_kind}
use Rattle.rb_meaning_types.specs.Violations.{Checked, MissingReturn}
use Rattle.rb_meaning_types.specs.Declared.{Declarations, Context, method_context}
use Rattle.rb_meaning_types.specs.Scopes.{Scope, parameters}
use Rattle.rb_meaning_types.specs.Expressions.{type_of}
use Rattle.rb_meaning_types.specs.Statements.{check_stmts}
use Rattle.rb_meaning_types.specs.Bodies.{check_return}
use Rattle.rb_meaning_types.specs.Fits.{classes_of}
use Rattle.rb_meaning_code.specs.Faults.{raised, fuel_used}
use Rattle.rb_meaning_code.specs.State.{Local}
use Rattle.rb_meaning_code.specs.Dialogue.{Question, Line, Taken, Invoke, Turn, ListTurn, Outcome, Gave, Faulted, Dialogue, Done, Ask, AskBatch, Run}
use Rattle.rb_meaning_code.specs.Calls.{Bodies}
use Rattle.rb_meaning_code.specs.Statements.{performs_all}
use Rattle.rb_meaning_code.specs.Bodies.{returns, runs, body_within}
use Rattle.rb_law_types.specs.Formed.{IsFormedReturn}
use Rattle.rb_law_types.specs.Own.{IsOwnPlace}
use Rattle.rb_law_types.specs.Ends.{Place, context, LocalFits, Ends, OfKind, Returns}
use Rattle.rb_law_types.specs.Asked.{Site, Side, Own, InBatch, IsFar, IsNear, IsAsked, IsAnswer, Keeps}
use Rattle.rb_law_types.specs.Admitted.{HasMethod}
use Rattle.rb_law_types.specs.Batches.{sites, sites_in, MayHold, AreAmong, MethodsAsk}
use Rattle.rb_law_types.specs.Code.{AreTyped, LeadTo, AllAsk, IsBatchExpr, AreBatchExprs, IsBatchStmt, AreBatchStmts, bodies, TypesKeep, BatchesKeep}
use Rattle.rb_law_types.proofs.Checks.{bind_ok, must_ok, placed_ok, same_sound}
use Rattle.rb_law_types.proofs.Values.{grown_same, unit_fits}
use Rattle.rb_law_types.proofs.Faults.{plain_rule, rule_fits}
use Rattle.rb_law_types.proofs.Known.{Known, typed_known, class_known, class_apart, method_known}
use Rattle.rb_law_types.proofs.OwnKinds.{own_parameters}
use Rattle.rb_law_types.proofs.Exprs.{NotedExpr, SafeBodies, MayCall, value_runs, values_run, call_runs}
use Rattle.rb_law_types.proofs.Stmts.{Adds, stmt_runs, stmts_run}
use Rattle.rb_law_types.proofs.Steps.{keeps_more, Runs, goes, ends, block_runs}

is_the_unit : (k : Kind) → is_unit k ≡ true → kind.Unit ≡ k
is_the_unit kind.Unit h = refl
is_the_unit kind.Int h = absurd (cc (h))
is_the_unit _ h = absurd (cc (h))

-- a fact of the batches that may be asked, and of the types of a batch
abbrev ByKnown : (List Site → Type 0) → Side → Type 0
ByKnown P (Own batches) = P batches
ByKnown P (InBatch types) = ⊥

abbrev ByTypes : ((ℕ → Option (Checked Kind)) → Type 0) → Side → Type 0
ByTypes P (Own batches) = ⊥
ByTypes P (InBatch types) = P types

-- what a body returns is noted, too
abbrev NotedReturn : Side → Context → Scope → Option Expr → Type 0
NotedReturn side x scope None = Unit {0}
NotedReturn side x scope (Some e) = NotedExpr side x scope e

module _ (side : Side) (x : Context) (known' : Known x.declared) (all : Truth) (run : ℕ → Body → Local → Run Value) (run_ok : SafeBodies x.declared side all run) (may : MayCall side x all) where
  abbrev all_bodies : Bodies
  all_bodies = record { classes = x.declared.classes; run = run }

  -- the value of a `return`
  return_runs : (scope : Scope) → (IsNear side → IsOwnPlace x scope) → (at : ℕ) (k : Kind) (result : Option Expr) (l : Local) → check_return x scope at k result ≡ Ok tt → IsFormedReturn result → NotedReturn side x scope result → LocalFits x scope l
      → Runs side x scope scope (OfKind x k) (classes_of l.heap) (returns all_bodies result l)
  return_runs scope own at k None l h f n state =
      let same = is_the_unit k (must_ok (is_unit k) (MissingReturn at) h) in
      subst (λ m. Runs side x scope scope (OfKind x m) (classes_of l.heap) (returns all_bodies None l)) same (ends value.Unit (unit_fits x.declared.interfaces (classes_of l.heap)) state (grown_same (classes_of l.heap)))
  return_runs scope own at k (Some e) l h f n state =
      let s = placed_ok (expr_at e) (type_of x scope e) _ tt h in
      let both = and_parts (not (is_unit k)) (same_kind k s.0) (must_ok (not (is_unit k) && same_kind k s.0) _ s.2) in
      value_runs side x known' all run run_ok scope own may e l k (s.1 ∙ ap Ok (sym (same_sound k s.0 both.1))) f n state

not_noted : (batches : List Site) (x : Context) (scope : Scope) (e : Expr) → NotedExpr (Own batches) x scope e
not_noted batches x scope e types is = absurd (subst IsFar (sym is) tt)

no_return : (batches : List Site) (x : Context) (scope : Scope) (result : Option Expr) → NotedReturn (Own batches) x scope result
no_return batches x scope None = tt
no_return batches x scope (Some e) = not_noted batches x scope e

-- what is so of the batches of a side is so of those of the same side
known_by : {batches : List Site} (P : List Site → Type 0) → P batches → (bs : List Site) → Own batches ≡ Own bs → P bs
known_by P h ks e = subst (λ side. ByKnown P side) e h

-- a method's body, where the methods that it calls keep types
method_keeps : (d : Declarations) → Known d → (batches : List Site) (all : Truth) (run : ℕ → Body → Local → Run Value) → SafeBodies d (Own batches) all run → (gas : ℕ) (class name : List ℕ) (m : Method) (l : Local)
    → HasMethod d class name m → (m.remote ≡ true → all ≡ true) → (MayHold (method_context d class m.remote) → AreAmong batches (sites_in (method_context d class m.remote) (parameters m.signature.params) m.body.statements))
    → LocalFits (method_context d class m.remote) (parameters m.signature.params) l
    → Keeps d (Own batches) (Returns d (kind_of m.signature.result) (classes_of l.heap)) (runs (record { classes = d.classes; run = run }) gas m.body l)
method_keeps d known' batches all run run_ok gas class name m l has may asks state =
    let x = method_context d class m.remote in
    let scope = parameters m.signature.params in
    let k = kind_of m.signature.result in
    let apart = class_apart d known' class has.of_class has.found in
    let method = method_known d class has.of_class (class_known d known' class has.of_class has.found) name m has.method in
    let own : IsOwnPlace x scope = (apart, own_parameters d m.signature.params method.own.params) in
    let s = bind_ok (check_stmts x scope m.body.statements) _ tt method.body in
    let r = stmts_run (Own batches) x known' all run run_ok (λ near. may) m.body.statements gas scope s.0 (λ near. own) s.1 method.formed.0 (λ ts e. absurd (subst IsFar (sym e) tt))
    (λ ks e. known_by (λ q. MayHold x → AreAmong q (sites_in x scope m.body.statements)) asks ks e) in
    let whole : Runs (Own batches) x scope s.0 (OfKind x k) (classes_of l.heap) (runs (record { classes = d.classes; run = run }) gas m.body l) =
    goes _ r.sub (r.runs l state) (λ u l1 f1 state1 g1. return_runs (Own batches) x known' all run run_ok (λ near. may) s.0 r.own m.signature.at k m.body.result l1 s.2 method.formed.1 (no_return batches x s.0 m.body.result) state1) in
    keeps_more d (Own batches) (Ends x scope s.0 (OfKind x k) (classes_of l.heap)) (Returns d k (classes_of l.heap)) (runs (record { classes = d.classes; run = run }) gas m.body l) (returned x scope s.0 k (classes_of l.heap)) whole.keeps
  where
    returned : (x : Context) (scope after : Scope) (k : Kind) (cs : List (List ℕ)) (o : Outcome Value) → Ends x scope after (OfKind x k) cs o → Returns x.declared k cs o
    returned x scope after k cs (Gave v l1) e = (e.gives, record { heap = e.state.holds.heap_fits; grown = e.grown })
    returned x scope after k cs (Faulted r l1) e = (e.fault, record { heap = e.state.heap_fits; grown = e.grown })

-- the batches of methods are among those: of all methods, or of those that aren't remote, in which none stands
abbrev pub AskKnown : Declarations → List Site → Truth → Type 0
AskKnown d batches all = (class name : List ℕ) (m : Method) → HasMethod d class name m → (m.remote ≡ true → all ≡ true) → MayHold (method_context d class m.remote)
    → AreAmong batches (sites_in (method_context d class m.remote) (parameters m.signature.params) m.body.statements)

pub bodies_keep : (d : Declarations) → Known d → (batches : List Site) (all : Truth) → AskKnown d batches all → (gas : ℕ) → SafeBodies d (Own batches) all (body_within d.classes gas)
bodies_keep d known' batches all asks zero at class name m l has may state = (rule_fits d (raised fuel_used at) (plain_rule 7 (omega arith) (omega arith)), record { heap = state.holds.heap_fits; grown = grown_same (classes_of l.heap) })
bodies_keep d known' batches all asks (suc gas) at class name m l has may state =
    method_keeps d known' batches all (body_within d.classes gas) (bodies_keep d known' batches all asks gas) gas class name m l has may (asks class name m has may) state

-- Methods are of the own side, also where a batch calls them: those that aren't remote, which ask no batch.

no_batches : (d : Declarations) → AskKnown d [] false
no_batches d class name m has may holds = let wrong = may holds.remote in absurd (cc (wrong))

answer_own : (d : Declarations) (batches : List Site) (side : Side) (q : Question) (a : Result Value Raised) → IsAsked d (Own batches) q → IsAnswer d side q a → IsAnswer d (Own batches) q a
answer_own d batches side (Line at bytes) (Ok v) asked h = tt
answer_own d batches side (ListTurn at) (Ok v) asked h = tt
answer_own d batches side (Taken step) (Ok v) asked h = absurd asked
answer_own d batches side (Invoke at target method args) (Ok v) asked h = absurd asked
answer_own d batches side (Turn at) (Ok v) asked h = absurd asked
answer_own d batches side q (Err r) asked h = h

asked_far : (d : Declarations) (batches : List Site) (types : ℕ → Option (Checked Kind)) (q : Question) → IsAsked d (Own batches) q → IsAsked d (InBatch types) q
asked_far d batches types (Line at bytes) h = h
asked_far d batches types (ListTurn at) h = h
asked_far d batches types (Taken step) h = absurd h
asked_far d batches types (Invoke at target method args) h = absurd h
asked_far d batches types (Turn at) h = absurd h

keeps_far : {A : Type 0} (d : Declarations) (types : ℕ → Option (Checked Kind)) (P : A → Type 0) (run : Dialogue A) → Keeps d (Own []) P run → Keeps d (InBatch types) P run
keeps_far d types P (Done a) h = h
keeps_far d types P (Ask q go) h = (asked_far d [] types q h.0, λ a fits. keeps_far d types P (go a) (h.1 a (answer_own d [] (InBatch types) q a h.0 fits)))
keeps_far d types P (AskBatch at l go) h = absurd (omega (arith, h.1.may.1))

far_bodies : (d : Declarations) → AreTyped d → (types : ℕ → Option (Checked Kind)) (gas : ℕ) → SafeBodies d (InBatch types) false (body_within d.classes gas)
far_bodies d typed types gas at class name m l has may state =
    keeps_far d types _ (body_within d.classes gas at m.body l) (bodies_keep d (typed_known d typed) [] false (no_batches d) gas at class name m l has may state)

-- what bodies do that are called from the own side
own_bodies : (d : Declarations) → AreTyped d → (batches : List Site) → MethodsAsk batches d → (gas : ℕ) → SafeBodies d (Own batches) true (body_within d.classes gas)
own_bodies d typed batches asks gas = bodies_keep d (typed_known d typed) batches true (λ class name m has may holds. asks class name m has holds) gas

own_calls : (batches : List Site) (x : Context) → MayCall (Own batches) x true
own_calls batches x near remote = refl

far_calls : (types : ℕ → Option (Checked Kind)) (x : Context) → MayCall (InBatch types) x false
far_calls types x near remote = absurd near

module _ (d : Declarations) (typed : AreTyped d) (batches : List Site) (asks : MethodsAsk batches d) (p : Place) (gas : ℕ) where
  pub own_stmts : IsOwnPlace (context d p) p.scope → (ss : Stmts) (after : Scope) → LeadTo d p ss after → AllAsk d batches p ss → Adds (Own batches) (context d p) p.scope after (performs_all (bodies d gas) gas ss)
  own_stmts own ss after t b =
      stmts_run (Own batches) (context d p) (typed_known d typed) true (body_within d.classes gas) (own_bodies d typed batches asks gas) (own_calls batches (context d p)) ss gas p.scope after (λ near. own) t.0 t.1
      (λ ts e. absurd (subst IsFar (sym e) tt)) (λ ks e. known_by (λ q. MayHold (context d p) → AreAmong q (sites_in (context d p) p.scope ss)) b ks e)

pub types_keep : TypesKeep
types_keep d typed batches asks = record {
  values = λ p e k gas l t stands.
      (value_runs (Own batches) (context d p) (typed_known d typed) true (body_within d.classes gas) (own_bodies d typed batches asks gas) p.scope (λ near. stands.own) (own_calls batches (context d p)) e l k t.0 t.1 (not_noted batches (context d p) p.scope e) stands.fits).keeps;
  lists = λ p es ks gas l t stands.
      (values_run (Own batches) (context d p) (typed_known d typed) true (body_within d.classes gas) (own_bodies d typed batches asks gas) p.scope (λ near. stands.own) (own_calls batches (context d p)) es l ks t.0 t.1 (λ ts e. absurd (subst IsFar (sym e) tt)) stands.fits).keeps;
  statements = λ p s after gas l t b stands.
      ((stmt_runs (Own batches) (context d p) (typed_known d typed) true (body_within d.classes gas) (own_bodies d typed batches asks gas) (own_calls batches (context d p)) s gas p.scope after (λ near. stands.own) t.0 t.1
      (λ ts e. absurd (subst IsFar (sym e) tt)) (λ ks e. known_by (λ q. MayHold (context d p) → AreAmong q (sites (context d p) p.scope s)) b ks e)).runs l stands.fits).keeps;
  sequences = λ p ss after gas l t b stands. ((own_stmts d typed batches asks p gas stands.own ss after t b).runs l stands.fits).keeps;
  blocks = λ p ss after gas l t b stands.
      let r = own_stmts d typed batches asks p gas stands.own ss after t b in
      (block_runs {l = l} (performs_all (bodies d gas) gas ss) stands.fits r.sub (r.runs l stands.fits)).keeps;
  calls = λ p class name m receiver args at gas l c stands.
      (call_runs (Own batches) (context d p) (typed_known d typed) true (body_within d.classes gas) (own_bodies d typed batches asks gas) p.scope l at class name c.has.of_class m receiver args c.has.found c.has.method (λ remote. refl) stands.fits c.on c.args_fit).keeps;
  methods = λ class name m gas l has fits.
      method_keeps d (typed_known d typed) batches true (body_within d.classes gas) (own_bodies d typed batches asks gas) gas class name m l has (λ remote. refl) (asks class name m has) fits;
}

noted_in : {types : ℕ → Option (Checked Kind)} (P : (ℕ → Option (Checked Kind)) → Type 0) → P types → (ts : ℕ → Option (Checked Kind)) → InBatch types ≡ InBatch ts → P ts
noted_in P h ts e = subst (λ side. ByTypes P side) e h

pub far_stmts : (d : Declarations) (typed : AreTyped d) (types : ℕ → Option (Checked Kind)) (p : Place) (gas : ℕ) (ss : Stmts) (after : Scope) → LeadTo d p ss after → AreBatchStmts types (context d p) p.scope ss
    → Adds (InBatch types) (context d p) p.scope after (performs_all (bodies d gas) gas ss)
far_stmts d typed types p gas ss after t n =
    stmts_run (InBatch types) (context d p) (typed_known d typed) false (body_within d.classes gas) (far_bodies d typed types gas) (far_calls types (context d p)) ss gas p.scope after (λ near. absurd near) t.0 t.1
    (noted_in (λ ts. AreBatchStmts ts (context d p) p.scope ss) n) (λ ks e. absurd (subst IsNear (sym e) tt))

pub batches_keep : BatchesKeep
batches_keep d typed types = record {
  values = λ p e k gas l t n fits.
      (value_runs (InBatch types) (context d p) (typed_known d typed) false (body_within d.classes gas) (far_bodies d typed types gas) p.scope (λ near. absurd near) (far_calls types (context d p)) e l k t.0 t.1 (noted_in (λ ts. IsBatchExpr ts (context d p) p.scope e) n) fits).keeps;
  lists = λ p es ks gas l t n fits.
      (values_run (InBatch types) (context d p) (typed_known d typed) false (body_within d.classes gas) (far_bodies d typed types gas) p.scope (λ near. absurd near) (far_calls types (context d p)) es l ks t.0 t.1 (noted_in (λ ts. AreBatchExprs ts (context d p) p.scope es) n) fits).keeps;
  statements = λ p s after gas l t n fits.
      ((stmt_runs (InBatch types) (context d p) (typed_known d typed) false (body_within d.classes gas) (far_bodies d typed types gas) (far_calls types (context d p)) s gas p.scope after (λ near. absurd near) t.0 t.1
      (noted_in (λ ts. IsBatchStmt ts (context d p) p.scope s) n) (λ ks e. absurd (subst IsNear (sym e) tt))).runs l fits).keeps;
  sequences = λ p ss after gas l t n fits. ((far_stmts d typed types p gas ss after t n).runs l fits).keeps;
  blocks = λ p ss after gas l t n fits.
      let r = far_stmts d typed types p gas ss after t n in
      (block_runs {l = l} (performs_all (bodies d gas) gas ss) fits r.sub (r.runs l fits)).keeps;
}
