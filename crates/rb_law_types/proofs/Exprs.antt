-- Typed expressions and calls keep types.
use Rattle.std.proofs.Common.{◌≡◌, ◌⊎◌, inl, inr, refl, sym, ap, ◌∙◌, subst, ℕ, zero, suc, List, [], ◌∷◌, length, arith, Bool as Truth, true, false, not, ◌||◌, nat_lt, All, Option, Some, None, is_some, Result, Ok, Err}
use Rattle.std.proofs.lemmas.List.Elements.{All-nil, All-cons}
use Rattle.rb_trees.specs.Outcome.{known, must}
use Rattle.rb_trees.specs.declared.values.Value.{Value}
use Rattle.rb_trees.specs.declared.values.Value.TheOpen.{Value-F}
use Rattle.rb_trees.specs.declared.values.Value.TheViews.{out-Value}
use Rattle.rb_trees.specs.declared.outcomes.Raised.{Raised}
use Rattle.rb_trees.specs.mirror.Code.{Expr, Exprs, Lit, Name, This, Unary, Binary, Field, Call, Index, New, Items, Taken, NoExprs, MoreExprs, expr_at}
use Rattle.rb_trees.specs.mirror.Declarations.{Interface, Body, Method, Class}
use Rattle.rb_meaning_types.specs.Kinds as kind
use Rattle.rb_meaning_types.specs.Kinds.{Kind, kind_of}
use Rattle.rb_meaning_types.specs.Names.{interface_named, class_named, method_named}
use Rattle.rb_meaning_types.specs.Violations.{Checked, Placed, UnknownName, wanted}
use Rattle.rb_meaning_types.specs.Declared.{Declarations, Context, method_context}
use Rattle.rb_meaning_types.specs.Scopes.{Scope, variable_named, parameters}
use Rattle.rb_meaning_types.specs.Literals.{literal_form, literal_kind}
use Rattle.rb_meaning_types.specs.Expressions.{all_wanted, with_first, type_of, types_of}
use Rattle.rb_meaning_types.specs.Fits.{classes_of, IsIntValue, IsBoolValue, IsTextValue, IsUnitValue, AreItems, AreRows, IsObjectOf, IsRemoteValue, FitsNamed, Fits, HeapFits, this_name, frame_scope}
use Rattle.rb_meaning_code.specs.State.{Local, Names, spent}
use Rattle.rb_meaning_code.specs.Faults.{too_deep}
use Rattle.rb_meaning_code.specs.Operators.{on_one, on_two, by_left}
use Rattle.rb_meaning_code.specs.Dialogue.{Invoke, Outcome, Gave, Faulted, Run, seq, next, end}
use Rattle.rb_meaning_code.specs.Objects.{constructed, field_of}
use Rattle.rb_meaning_code.specs.Calls.{Bodies, called_method, unit_due, call_fits, names_within, entered, left, call, called}
use Rattle.rb_meaning_code.specs.Faults.{raises}
use Rattle.rb_meaning_code.specs.Expressions.{value_of, indexed, list_of, decided_or, constructs, evaluates, evaluates_all}
use Rattle.rb_law_types.specs.Kept.{IsPrimitiveForm, IsBoundedForm, IsBounded, Fair}
use Rattle.rb_law_types.specs.Formed.{IsFormedExpr, AreFormedExprs}
use Rattle.rb_law_types.specs.Own.{IsOwnPlace, IsFarKind}
use Rattle.rb_law_types.specs.Operators.{IfDecided}
use Rattle.rb_law_types.specs.Ends.{Grown, LocalFits, Ends, OfKind, OfKinds, Returns}
use Rattle.rb_law_types.specs.Asked.{Side, Own, InBatch, IsFar, IsNear, IsInvoked, IsAnswer, Keeps}
use Rattle.rb_law_types.specs.Admitted.{HasMethod, CallsNoRemote}
use Rattle.rb_law_types.specs.Code.{ArgumentsFit, IsBatchExpr, AreBatchExprs}
use Rattle.rb_law_types.proofs.Checks.{bind_ok, then_ok, known_ok, placed_ok, wanted_ok}
use Rattle.rb_law_types.proofs.Values.{of_class, grown_same, fits_more, names_more}
use Rattle.rb_law_types.proofs.Faults.{plain_rule}
use Rattle.rb_law_types.proofs.Results.{one_keeps, two_keep, left_keeps, index_keeps, lists_keep}
use Rattle.rb_law_types.proofs.Known.{Known, class_apart}
use Rattle.rb_law_types.proofs.OwnKinds.{field_ok, IsCall, IsFarCall, call_how, not_far, new_ok, items_ok, type_own}
use Rattle.rb_law_types.proofs.Names.{name_fits, this_fits}
use Rattle.rb_law_types.proofs.Objects.{arguments_do, arguments_count, matched_names, matched_count, constructed_fits, IsMade, field_fits, called_fits}
use Rattle.rb_law_types.proofs.Steps.{keeps_seq, Runs, then_goes, ends, helped, helped_end}

-- code in a batch is noted and admitted
abbrev pub NotedExpr : Side → Context → Scope → Expr → Type 0
NotedExpr side x scope e = (types : ℕ → Option (Checked Kind)) → side ≡ InBatch types → IsBatchExpr types x scope e

abbrev pub NotedExprs : Side → Context → Scope → Exprs → Type 0
NotedExprs side x scope es = (types : ℕ → Option (Checked Kind)) → side ≡ InBatch types → AreBatchExprs types x scope es

-- no object of the own side stands in any heap
from_nothing : (cs : List (List ℕ)) → Grown [] cs
from_nothing cs object class e = absurd (cc (e))

pub literal_fits : (is : List Interface) (cs : List (List ℕ)) (v : Value) (w : Value-F Value) → out-Value v ≡ w → IsPrimitiveForm w → Fits is cs (literal_form w) v
literal_fits is cs v (Value-F.Int n) e h = subst IsIntValue (sym e) h
literal_fits is cs v (Value-F.Bool b) e h = subst IsBoolValue (sym e) h
literal_fits is cs v (Value-F.Text t) e h = subst IsTextValue (sym e) h
literal_fits is cs v Value-F.Unit e h = absurd h
literal_fits is cs v _ e h = absurd h

abbrev Any : Unit {0} → Type 0
Any u = Unit {0}

pub unit_fair : (fuel : ℕ) → Fair Any (unit_due fuel)
unit_fair zero = plain_rule 7 (omega arith) (omega arith)
unit_fair (suc n) = tt

depth_fair : (depth : ℕ) → Fair Any (call_fits depth)
depth_fair depth = by (nat_lt depth 32)
  where
    by : (t : Truth) → Fair Any (must t too_deep)
    by true = tt
    by false = plain_rule 6 (omega arith) (omega arith)

with_first_ok : (p : Placed) (r : Checked (List Placed)) (ps : List Placed) → with_first p r ≡ Ok ps → (qs : List Placed) × (r ≡ Ok qs) × ((p ∷ qs) ≡ ps)
with_first_ok p (Ok qs) ps h = (qs, refl, cc (h))
with_first_ok p (Err fault) ps h = absurd (cc (h))

all_fit : (x : Context) (cs : List (List ℕ)) (item : Kind) (ps : List Placed) (vs : List Value) → all_wanted item ps ≡ Ok tt → OfKinds x ps cs vs → All (Fits x.declared.interfaces cs item) vs
all_fit x cs item [] [] e h = All-nil (Fits x.declared.interfaces cs item)
all_fit x cs item [] (v ∷ vs) e h = absurd h
all_fit x cs item (p ∷ ps) [] e h = absurd h
all_fit x cs item (p ∷ ps) (v ∷ vs) e h =
    let s = then_ok (wanted item p) (all_wanted item ps) tt e in
    All-cons (Fits x.declared.interfaces cs item) v vs (subst (λ k. Fits x.declared.interfaces cs k v) (sym (wanted_ok item p s.0)) h.0) (all_fit x cs item ps vs s.1 h.1)

-- values that fit are within their limits

int_bounded : (w : Value-F Value) → IsIntValue w → IsBoundedForm w
int_bounded (Value-F.Int n) h = h
int_bounded Value-F.Unit h = absurd h
int_bounded _ h = absurd h

bool_bounded : (w : Value-F Value) → IsBoolValue w → IsBoundedForm w
bool_bounded (Value-F.Bool b) h = tt
bool_bounded Value-F.Unit h = absurd h
bool_bounded _ h = absurd h

text_bounded : (w : Value-F Value) → IsTextValue w → IsBoundedForm w
text_bounded (Value-F.Text t) h = h
text_bounded Value-F.Unit h = absurd h
text_bounded _ h = absurd h

unit_bounded : (w : Value-F Value) → IsUnitValue w → IsBoundedForm w
unit_bounded Value-F.Unit h = tt
unit_bounded (Value-F.Int n) h = absurd h
unit_bounded _ h = absurd h

named_bounded : (o : Option Interface) (cs : List (List ℕ)) (name : List ℕ) (w : Value-F Value) → FitsNamed o cs name w → IsBoundedForm w
named_bounded (Some i) cs name (Value-F.Remote object) h = tt
named_bounded (Some i) cs name Value-F.Unit h = absurd h
named_bounded (Some i) cs name _ h = absurd h
named_bounded None cs name (Value-F.Ref object) h = tt
named_bounded None cs name Value-F.Unit h = absurd h
named_bounded None cs name _ h = absurd h

items_bounded : (P : Value → Type 0) (w : Value-F Value) → AreItems P w → IsBoundedForm w
items_bounded P (Value-F.List items) h = tt
items_bounded P Value-F.Unit h = absurd h
items_bounded P _ h = absurd h

rows_bounded : (P : Value → Type 0) (w : Value-F Value) → AreRows P w → IsBoundedForm w
rows_bounded P (Value-F.Rows rows) h = tt
rows_bounded P Value-F.Unit h = absurd h
rows_bounded P _ h = absurd h

pub value_bounded : (is : List Interface) (cs : List (List ℕ)) (k : Kind) (v : Value) → Fits is cs k v → IsBounded v
value_bounded is cs kind.Int v h = int_bounded (out-Value v) h
value_bounded is cs kind.Bool v h = bool_bounded (out-Value v) h
value_bounded is cs kind.Text v h = text_bounded (out-Value v) h
value_bounded is cs kind.Unit v h = unit_bounded (out-Value v) h
value_bounded is cs (kind.Named name) v h = named_bounded (interface_named is name) cs name (out-Value v) h
value_bounded is cs (kind.ListOf item) v h = items_bounded (Fits is cs item) (out-Value v) h
value_bounded is cs (kind.RowsOf row) v h = rows_bounded (Fits is cs row) (out-Value v) h

all_bounded : (x : Context) (cs : List (List ℕ)) (ps : List Placed) (vs : List Value) → OfKinds x ps cs vs → All IsBounded vs
all_bounded x cs [] [] h = All-nil IsBounded
all_bounded x cs [] (v ∷ vs) h = absurd h
all_bounded x cs (p ∷ ps) [] h = absurd h
all_bounded x cs (p ∷ ps) (v ∷ vs) h = All-cons IsBounded v vs (value_bounded x.declared.interfaces cs p.kind v h.0) (all_bounded x cs ps vs h.1)

-- a state that fits, in a heap that has grown
pub still_fits : (x : Context) (scope : Scope) (l l1 : Local) → LocalFits x scope l → Grown (classes_of l.heap) (classes_of l1.heap) → HeapFits x.declared.interfaces x.declared.classes l1.heap
    → LocalFits x scope (record l1 { names = l.names; depth = l.depth })
still_fits x scope l l1 state g h = record {
  holds = record { names_fit = names_more x.declared.interfaces (classes_of l.heap) (classes_of l1.heap) g (frame_scope x.this scope) l.names state.holds.names_fit; heap_fits = h };
  count = state.count;
}

-- methods of typed declarations, run by their bodies, keep types: all of them, or those that aren't remote
abbrev pub SafeBodies : Declarations → Side → Truth → (ℕ → Body → Local → Run Value) → Type 0
SafeBodies d side all run = (at : ℕ) (class name : List ℕ) (m : Method) (l : Local) → HasMethod d class name m → (m.remote ≡ true → all ≡ true) → LocalFits (method_context d class m.remote) (parameters m.signature.params) l
    → Keeps d side (Returns d (kind_of m.signature.result) (classes_of l.heap)) (run at m.body l)

-- whether code may call a method that is remote
abbrev pub MayCall : Side → Context → Truth → Type 0
MayCall side x all = IsNear side → x.remote ≡ true → all ≡ true

module _ (side : Side) (x : Context) (known' : Known x.declared) (all : Truth) (run : ℕ → Body → Local → Run Value) (run_ok : SafeBodies x.declared side all run) (scope : Scope) where
  abbrev bodies : Bodies
  bodies = record { classes = x.declared.classes; run = run }

  abbrev is : List Interface
  is = x.declared.interfaces

  -- back in the caller
  comes_back : (k : Kind) (l : Local) → LocalFits x scope l → (o : Outcome Value) → Returns x.declared k (classes_of l.heap) o → Keeps x.declared side (Ends x scope scope (OfKind x k) (classes_of l.heap)) (left l o)
  comes_back k l state (Gave v l1) h = record { gives = h.0; state = still_fits x scope l l1 state h.1.grown h.1.heap; grown = h.1.grown }
  comes_back k l state (Faulted r l1) h = record { fault = h.0; state = (still_fits x scope l l1 state h.1.grown h.1.heap).holds; grown = h.1.grown }

  -- a call of a method of a class, with arguments that fit
  pub call_runs : (l : Local) (at : ℕ) (class name : List ℕ) (c : Class) (m : Method) (receiver : Value) (args : List Value) → class_named x.declared.classes class ≡ Some c → method_named c.methods name ≡ Some m
      → (m.remote ≡ true → all ≡ true) → LocalFits x scope l → Fits is (classes_of l.heap) (kind.Named class) receiver → ArgumentsFit is (classes_of l.heap) m.signature.params args
      → Runs side x scope scope (OfKind x (kind_of m.signature.result)) (classes_of l.heap) (call bodies at receiver name args l)
  call_runs l at class name c m receiver args found there may state on_it args_fit =
      let apart = class_apart x.declared known' class c found in
      let has : HasMethod x.declared class name m = record { of_class = c; found = found; method = there } in
      let stands = of_class is (classes_of l.heap) class receiver apart on_it in
      let names : Names = names_within receiver m.signature.params args in
      let inside : LocalFits (method_context x.declared class m.remote) (parameters m.signature.params) (entered names (spent l)) = record {
        holds = record { names_fit = (refl, on_it, matched_names is (classes_of l.heap) m.signature.params args args_fit); heap_fits = state.holds.heap_fits };
        count = ap suc (matched_count is (classes_of l.heap) m.signature.params args args_fit);
      } in
      helped (λ m'. m' ≡ m) at (called_method x.declared.classes l.heap (out-Value receiver) name (length args)) _ state
      (called_fits is x.declared.classes l.heap state.holds.heap_fits (out-Value receiver) class c name m (length args) stands found there (arguments_count is (classes_of l.heap) m.signature.params args args_fit)) (λ m' same.
      subst (λ m1. Runs side x scope scope (OfKind x (kind_of m.signature.result)) (classes_of l.heap) (next (end l (raises at (unit_due l.fuel))) (λ u l2.
      next (end (spent l2) (raises at (call_fits l2.depth))) (λ w l3.
      seq (run at m1.body (entered (names_within receiver m1.signature.params args) l3)) (left l3))))) (sym same)
      (helped Any at (unit_due l.fuel) _ state (unit_fair l.fuel) (λ u h.
      helped {l = spent l} Any at (call_fits l.depth) _ (record { holds = record { names_fit = state.holds.names_fit; heap_fits = state.holds.heap_fits }; count = state.count }) (depth_fair l.depth) (λ w h1.
      record {
        keeps = keeps_seq x.declared side (Returns x.declared (kind_of m.signature.result) (classes_of l.heap)) (Ends x scope scope (OfKind x (kind_of m.signature.result)) (classes_of l.heap))
            (run at m.body (entered names (spent l))) (left (spent l))
            (run_ok at class name m (entered names (spent l)) has may inside)
            (comes_back (kind_of m.signature.result) (spent l) (record { holds = record { names_fit = state.holds.names_fit; heap_fits = state.holds.heap_fits }; count = state.count }));
      }))))

  -- on an own object the call isn't remote
  called_runs : (P : List (List ℕ) → Value → Type 0) (cs : List (List ℕ)) (class : List ℕ) (l : Local) (at : ℕ) (name : List ℕ) (receiver : Value) (w : Value-F Value) (args : List Value) → IsObjectOf cs class w
      → Runs side x scope scope P cs (call bodies at receiver name args l) → Runs side x scope scope P cs (called bodies at receiver w name args l)
  called_runs P cs class l at name receiver (Value-F.Ref n) args stands r = r
  called_runs P cs class l at name receiver Value-F.Unit args stands r = absurd stands
  called_runs P cs class l at name receiver _ args stands r = absurd stands

  decided_runs : (k : Kind) (l : Local) (o : Option Value) (go : Local → Run Value) → IfDecided (Fits is (classes_of l.heap) k) o → LocalFits x scope l → Runs side x scope scope (OfKind x k) (classes_of l.heap) (go l)
      → Runs side x scope scope (OfKind x k) (classes_of l.heap) (decided_or o go l)
  decided_runs k l (Some v) go h state r = ends v h state (grown_same (classes_of l.heap))
  decided_runs k l None go h state r = r

  create_runs : (l : Local) (at : ℕ) (name : List ℕ) (c : Class) (args : List Value) → class_named x.declared.classes name ≡ Some c → ArgumentsFit is (classes_of l.heap) c.fields args → LocalFits x scope l
      → Runs side x scope scope (OfKind x (kind.Named name)) (classes_of l.heap) (constructs bodies at name args l)
  create_runs l at name c args found args_fit state =
      helped (IsMade is x.declared.classes l.heap name) at (constructed x.declared.classes l.heap name args) _ state
      (constructed_fits is x.declared.classes l.heap state.holds.heap_fits name c args (class_apart x.declared known' name c found) found args_fit) (λ made h.
      ends made.0 h.object (still_fits x scope l (record l { heap = made.1 }) state h.grown h.heap_fits) h.grown)

  -- the answer to a remote call
  answered_keeps : (at : ℕ) (k : Kind) (target : Value) (method : List ℕ) (args : List Value) (l : Local) (s : Side) → s ≡ side → ((types : ℕ → Option (Checked Kind)) → s ≡ InBatch types → types at ≡ Some (Ok k)) → IsFar s → LocalFits x scope l
      → (a : Result Value Raised) → IsAnswer x.declared s (Invoke at target method args) a → Keeps x.declared side (Ends x scope scope (OfKind x k) (classes_of l.heap)) (end l a)
  answered_keeps at k target method args l (Own batches) is_side noted far state a h = absurd far
  answered_keeps at k target method args l (InBatch types) is_side noted far state (Ok v) h =
      record { gives = fits_more is [] (classes_of l.heap) (from_nothing (classes_of l.heap)) k v (h k (noted types refl)); state = state; grown = grown_same (classes_of l.heap) }
  answered_keeps at k target method args l (InBatch types) is_side noted far state (Err r) h = record { fault = h; state = state.holds; grown = grown_same (classes_of l.heap) }

  invoked : (s : Side) (at : ℕ) (k : Kind) (target : Value) (args : List Value) → ((types : ℕ → Option (Checked Kind)) → s ≡ InBatch types → types at ≡ Some (Ok k)) → IsFar s → IsRemoteValue (out-Value target) → All IsBounded args
      → IsFarKind is k → IsInvoked x.declared s at target args
  invoked (Own batches) at k target args noted far remote bounded far_kind = absurd far
  invoked (InBatch types) at k target args noted far remote bounded far_kind = record { on = remote; bounded = bounded; kind = k; noted = noted types refl; far = far_kind }

  -- a call on an object of the service
  far_runs : (at : ℕ) (k : Kind) (method : List ℕ) (args : List Value) (l : Local) (receiver : Value) (w : Value-F Value) → out-Value receiver ≡ w → IsRemoteValue w → All IsBounded args → IsFarKind is k
      → ((types : ℕ → Option (Checked Kind)) → side ≡ InBatch types → types at ≡ Some (Ok k)) → IsFar side → LocalFits x scope l → Runs side x scope scope (OfKind x k) (classes_of l.heap) (called bodies at receiver w method args l)
  far_runs at k method args l receiver (Value-F.Remote object) e remote bounded far_kind noted far state =
      record { keeps = (invoked side at k receiver args noted far (subst IsRemoteValue (sym e) remote) bounded far_kind, answered_keeps at k receiver method args l side refl noted far state) }
  far_runs at k method args l receiver Value-F.Unit e remote bounded far_kind noted far state = absurd remote
  far_runs at k method args l receiver _ e remote bounded far_kind noted far state = absurd remote

  -- a call on an own object or on one of the service
  any_call_runs : (at : ℕ) (name : List ℕ) (p : Placed) (ts : List Placed) (k : Kind) (v : Value) (vs : List Value) (l : Local) → IsCall x.declared x.remote at name p ts k ⊎ (IsFarCall x.declared p.kind × IsFarKind is k) → (IsFarCall x.declared p.kind → IsFar side)
      → (IsNear side → x.remote ≡ true → all ≡ true) → ((types : ℕ → Option (Checked Kind)) → side ≡ InBatch types → (types at ≡ Some (Ok k)) × CallsNoRemote x.declared name p.kind)
      → LocalFits x scope l → Fits is (classes_of l.heap) p.kind v → OfKinds x ts (classes_of l.heap) vs
      → Runs side x scope scope (OfKind x k) (classes_of l.heap) (called bodies at v (out-Value v) name vs l)
  any_call_runs at name p ts k v vs l (inl d) far may noted state fv fvs =
      let on_it = subst (λ m. Fits is (classes_of l.heap) m v) d.receiver fv in
      let allowed = by_side side refl d.method may (near_call x.remote d.method d.allowed) (λ types e. (noted types e).1 d.class d.method d.receiver (ap is_some (class_apart x.declared known' d.class d.of_class d.found)) (record { of_class = d.of_class; found = d.found; method = d.there })) in
      called_runs (OfKind x k) (classes_of l.heap) d.class l at name v (out-Value v) vs (of_class is (classes_of l.heap) d.class v (class_apart x.declared known' d.class d.of_class d.found) on_it)
      (subst (λ m. Runs side x scope scope (OfKind x m) (classes_of l.heap) (call bodies at v name vs l)) d.same
      (call_runs l at d.class name d.of_class d.method v vs d.found d.there allowed state on_it (arguments_do x (classes_of l.heap) at d.method.signature.params ts vs d.args_fit fvs)))
    where
      near_call : (remote : Truth) (m : Method) → (remote || not m.remote) ≡ true → m.remote ≡ true → remote ≡ true
      near_call true m e is_remote = refl
      near_call false m e is_remote = absurd (cc (e, ap not is_remote))

      by_side : (s : Side) → s ≡ side → (m : Method) → (IsNear side → x.remote ≡ true → all ≡ true) → (m.remote ≡ true → x.remote ≡ true) → ((types : ℕ → Option (Checked Kind)) → side ≡ InBatch types → m.remote ≡ false) → m.remote ≡ true → all ≡ true
      by_side (Own batches) e m may near far is_remote = may (subst IsNear e tt) (near is_remote)
      by_side (InBatch types) e m may near far is_remote = let none = far types (sym e) in absurd (cc (none, is_remote))
  any_call_runs at name p ts k v vs l (inr f) far may noted state fv fvs =
      far_runs at k name vs l v (out-Value v) refl
      (subst (λ o. FitsNamed o (classes_of l.heap) f.0.name (out-Value v)) f.0.found (subst (λ m. Fits is (classes_of l.heap) m v) f.0.receiver fv)) (all_bounded x (classes_of l.heap) ts vs fvs) f.1 (λ types e. (noted types e).0) (far f.0) state

  far_side : (s : Side) → (IsNear s → IsOwnPlace x scope) → (a : Expr) (k : Kind) → type_of x scope a ≡ Ok k → IsFarCall x.declared k → IsFar s
  far_side (Own batches) own a k t f = absurd (not_far x.declared k (type_own x known' scope (own tt) a k t) f)
  far_side (InBatch types) own a k t f = tt

  module _ (own : IsNear side → IsOwnPlace x scope) (may : MayCall side x all) where
    mutual
      unfolding literal_kind

      pub value_runs : (e : Expr) (l : Local) (k : Kind) → type_of x scope e ≡ Ok k → IsFormedExpr e → NotedExpr side x scope e → LocalFits x scope l → Runs side x scope scope (OfKind x k) (classes_of l.heap) (evaluates bodies e l)
      value_runs (Lit at v) l k t f n state =
          let same : literal_form (out-Value v) ≡ k = cc (t) in
          ends v (subst (λ m. Fits is (classes_of l.heap) m v) same (literal_fits is (classes_of l.heap) v (out-Value v) refl f)) state (grown_same (classes_of l.heap))
      value_runs (Name at name) l k t f n state =
          let s = bind_ok (known (UnknownName at) (variable_named scope name)) _ k t in
          let same : (s.0).kind ≡ k = cc (s.2) in
          helped_end l (OfKind x k) at (value_of l.names name) state
          (subst (λ m. Fair (Fits is (classes_of l.heap) m) (value_of l.names name)) same
          (name_fits is (classes_of l.heap) x.this scope l.names name s.0 f state.holds.names_fit (known_ok (UnknownName at) (variable_named scope name) s.0 s.1)))
      value_runs (This at) l k t f n state = helped_end l (OfKind x k) at (value_of l.names this_name) state (this_fits is (classes_of l.heap) x.this scope l.names at k state.holds.names_fit t)
      value_runs (Unary at o a) l k t f n state =
          let s = placed_ok (expr_at a) (type_of x scope a) _ k t in
          then_goes _ (value_runs a l s.0 s.1 f (λ ts e. ((n ts e).0.1, (n ts e).1)) state) (λ v l1 fv state1 g1.
          helped_end l1 (OfKind x k) at (on_one o (out-Value v)) state1 (one_keeps is (classes_of l1.heap) o (record { at = expr_at a; kind = s.0 }) k v s.2 fv))
      value_runs (Binary at o a b) l k t f n state =
          let s = placed_ok (expr_at a) (type_of x scope a) _ k t in
          let u = placed_ok (expr_at b) (type_of x scope b) _ k s.2 in
          let p : Placed = record { at = expr_at a; kind = s.0 } in
          let q : Placed = record { at = expr_at b; kind = u.0 } in
          then_goes _ (value_runs a l s.0 s.1 f.0 (λ ts e. ((n ts e).0.1, (n ts e).1.0)) state) (λ v l1 fv state1 g1.
          helped (IfDecided (Fits is (classes_of l1.heap) k)) at (by_left o (out-Value v)) _ state1 (left_keeps is (classes_of l1.heap) o p q k v u.2 fv) (λ decided h.
          decided_runs k l1 decided _ h state1
          (then_goes _ (value_runs b l1 u.0 u.1 f.1 (λ ts e. ((n ts e).0.2, (n ts e).1.1)) state1) (λ w l2 fw state2 g2.
          helped_end l2 (OfKind x k) at (on_two o (out-Value v) (out-Value w)) state2 (two_keep is (classes_of l2.heap) o p q k v w u.2 (fits_more is (classes_of l1.heap) (classes_of l2.heap) g2 s.0 v fv) fw)))))
      value_runs (Field at a name) l k t f n state =
          let s = placed_ok (expr_at a) (type_of x scope a) _ k t in
          let d = field_ok x.declared at name (record { at = expr_at a; kind = s.0 }) k s.2 in
          then_goes _ (value_runs a l s.0 s.1 f (λ ts e. ((n ts e).0.1, (n ts e).1)) state) (λ v l1 fv state1 g1.
          helped_end l1 (OfKind x k) at (field_of l1.heap (out-Value v) name) state1
          (subst (λ m. Fair (Fits is (classes_of l1.heap) m) (field_of l1.heap (out-Value v) name)) d.same
          (field_fits is x.declared.classes l1.heap state1.holds.heap_fits (out-Value v) d.class d.of_class name d.field
          (of_class is (classes_of l1.heap) d.class v (class_apart x.declared known' d.class d.of_class d.found) (subst (λ m. Fits is (classes_of l1.heap) m v) d.receiver fv)) d.found d.there)))
      value_runs (Call at a name args) l k t f n state =
          let s = placed_ok (expr_at a) (type_of x scope a) _ k t in
          let ts = bind_ok (types_of x scope args) _ k s.2 in
          let p : Placed = record { at = expr_at a; kind = s.0 } in
          then_goes _ (value_runs a l s.0 s.1 f.0 (λ ts e. ((n ts e).0.1, (n ts e).1.0)) state) (λ v l1 fv state1 g1.
          then_goes _ (values_run args l1 ts.0 ts.1 f.1 (λ types e. ((n types e).0.2, (n types e).1.1)) state1) (λ vs l2 fvs state2 g2.
          any_call_runs at name p ts.0 k v vs l2 (call_how x known' at name p ts.0 k ts.2) (far_side side own a s.0 s.1) may (λ types e. ((n types e).0.0 ∙ ap Some t, (n types e).1.2 s.0 s.1)) state2 (fits_more is (classes_of l1.heap) (classes_of l2.heap) g2 s.0 v fv) fvs))
      value_runs (Index at a b) l k t f n state =
          let s = placed_ok (expr_at a) (type_of x scope a) _ k t in
          let u = placed_ok (expr_at b) (type_of x scope b) _ k s.2 in
          then_goes _ (value_runs a l s.0 s.1 f.0 (λ ts e. ((n ts e).0.1, (n ts e).1.0)) state) (λ v l1 fv state1 g1.
          then_goes _ (value_runs b l1 u.0 u.1 f.1 (λ ts e. ((n ts e).0.2, (n ts e).1.1)) state1) (λ w l2 fw state2 g2.
          helped_end l2 (OfKind x k) at (indexed (out-Value v) (out-Value w)) state2
          (index_keeps is (classes_of l2.heap) (record { at = expr_at a; kind = s.0 }) (record { at = expr_at b; kind = u.0 }) k v w u.2 (fits_more is (classes_of l1.heap) (classes_of l2.heap) g2 s.0 v fv) fw)))
      value_runs (New at name args) l k t f n state =
          let ts = bind_ok (types_of x scope args) _ k t in
          let d = new_ok x.declared at name ts.0 k ts.2 in
          then_goes _ (values_run args l ts.0 ts.1 f (λ types e. ((n types e).0.1, (n types e).1)) state) (λ vs l1 fvs state1 g1.
          subst (λ m. Runs side x scope scope (OfKind x m) (classes_of l1.heap) (constructs bodies at name vs l1)) d.same
          (create_runs l1 at name d.of_class vs d.found (arguments_do x (classes_of l1.heap) at d.of_class.fields ts.0 vs d.args_fit fvs) state1))
      value_runs (Items at item items) l k t f n state =
          let ts = bind_ok (types_of x scope items) _ k t in
          let d = items_ok x.declared item ts.0 k ts.2 in
          then_goes _ (values_run items l ts.0 ts.1 f (λ types e. ((n types e).0.1, (n types e).1)) state) (λ vs l1 fvs state1 g1.
          helped_end l1 (OfKind x k) at (list_of vs) state1
          (subst (λ m. Fair (Fits is (classes_of l1.heap) m) (list_of vs)) d.same (lists_keep is (classes_of l1.heap) (kind_of item) vs (all_fit x (classes_of l1.heap) (kind_of item) ts.0 vs d.wanted_all fvs))))
      value_runs (Taken at step) l k t f n state = absurd (cc (t))

      pub values_run : (es : Exprs) (l : Local) (ps : List Placed) → types_of x scope es ≡ Ok ps → AreFormedExprs es → NotedExprs side x scope es → LocalFits x scope l → Runs side x scope scope (OfKinds x ps) (classes_of l.heap) (evaluates_all bodies es l)
      values_run NoExprs l ps t f n state =
          let same : [] ≡ ps = cc (t) in
          ends [] (subst (λ qs. OfKinds x qs (classes_of l.heap) []) same tt) state (grown_same (classes_of l.heap))
      values_run (MoreExprs e es) l ps t f n state =
          let s = placed_ok (expr_at e) (type_of x scope e) _ ps t in
          let p : Placed = record { at = expr_at e; kind = s.0 } in
          let ts = with_first_ok p (types_of x scope es) ps s.2 in
          then_goes _ (value_runs e l s.0 s.1 f.0 (λ types e'. ((n types e').0.0, (n types e').1.0)) state) (λ v l1 fv state1 g1.
          then_goes _ (values_run es l1 ts.0 ts.1 f.1 (λ types e'. ((n types e').0.1, (n types e').1.1)) state1) (λ vs l2 fvs state2 g2.
          ends (v ∷ vs) (subst (λ qs. OfKinds x qs (classes_of l2.heap) (v ∷ vs)) ts.2 (fits_more is (classes_of l1.heap) (classes_of l2.heap) g2 s.0 v fv, fvs)) state2 (grown_same (classes_of l2.heap))))
