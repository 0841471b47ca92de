-- A portable expression of a batch has a value of its type in the script, and the table keeps fitting.
use Rattle.std.proofs.Common.{◌≡◌, refl, sym, ap, ◌∙◌, subst, ℕ, List, [], ◌∷◌, Bool as Truth, true, false, cond, ◌&&◌, All, Option, Some, None, Result, Ok, Err}
use Rattle.std.proofs.lemmas.Bool.{and_parts}
use Rattle.std.proofs.lemmas.List.Elements.{All-nil, All-cons}
use Rattle.rb_trees.specs.Outcome.{known}
use Rattle.rb_trees.specs.declared.values.Value.{Value}
use Rattle.rb_trees.specs.declared.values.Value.TheViews.{out-Value}
use Rattle.rb_trees.specs.declared.values.Fault.{Fault}
use Rattle.rb_trees.specs.mirror.Code.{Expr, Exprs, Lit, Name, This, Unary, Binary, Field, Call, Index, New, Items, Taken, NoExprs, MoreExprs, expr_at}
use Rattle.rb_trees.specs.mirror.Declarations.{Program, Interface}
use Rattle.rb_trees.specs.mirror.Services.{Service}
use Rattle.rb_meaning_types.specs.Kinds.{Kind}
use Rattle.rb_meaning_types.specs.Names.{interface_named}
use Rattle.rb_meaning_types.specs.Violations.{Checked, Placed, UnknownName}
use Rattle.rb_meaning_types.specs.Declared.{Context, of_program}
use Rattle.rb_meaning_types.specs.Scopes as typed
use Rattle.rb_meaning_types.specs.Literals.{literal_form, literal_kind}
use Rattle.rb_meaning_types.specs.Expressions.{type_of, types_of}
use Rattle.rb_meaning_types.specs.Members.{call_on, interface_call, receiver_interface}
use Rattle.rb_meaning_types.specs.Notes.{type_at}
use Rattle.rb_meaning_types.specs.Programs.{check_service}
use Rattle.rb_meaning_types.specs.Fits.{IsRemoteValue, FitsNamed, Fits, TableFits}
use Rattle.rb_meaning_code.specs.Faults as faults
use Rattle.rb_meaning_code.specs.Faults.{raises}
use Rattle.rb_meaning_code.specs.Operators.{on_one, on_two, by_left}
use Rattle.rb_meaning_code.specs.Remote.{Server, Reply, Got, Stopped, invoke}
use Rattle.rb_meaning_flow.specs.Facts.{Facts, facts_of, is_remote}
use Rattle.rb_meaning_flow.specs.Scopes.{Scope}
use Rattle.rb_meaning_flow.specs.Portable.{portable, all_portable}
use Rattle.rb_meaning_types.specs.CallKinds as numbers
use Rattle.rb_law_types.specs.Kept.{IsBounded, Fair}
use Rattle.rb_law_types.specs.Formed.{IsFormedExpr, AreFormedExprs, AreFormed}
use Rattle.rb_law_types.specs.Noted.{IsNotedExpr, AreNotedExprs}
use Rattle.rb_law_types.specs.Operators.{IfDecided}
use Rattle.rb_law_types.specs.Code.{AreTyped}
use Rattle.rb_law_types.proofs.Checks.{bind_ok, known_ok, placed_ok}
use Rattle.rb_law_types.proofs.Exprs.{literal_fits}
use Rattle.rb_law_types.proofs.TypeFacts.{kind_here, object_fact}
use Rattle.rb_law_unsplit.proofs.Handling.{Fine, invoke_fine}
use Rattle.rb_trees.specs.Named.{lookup}
use Rattle.rb_trees.specs.declared.values.Value.TheVariants as value
use Rattle.rb_trees.specs.declared.services.Object.{Object}
use Rattle.rb_meaning_code.specs.Remote.{and_then, replies}
use Rattle.rb_meaning_code.specs.ScriptRun.{Ground, Vars, decided_or, value_of, values_of}
use Rattle.rb_meaning_flow.specs.Scopes.{role_of, is_constant_role}
use Rattle.rb_meaning_split.specs.Refs.{Ref, Root, Input, Var, Refs, ref_expr, sexpr, sexprs}
use Rattle.rb_meaning_split.specs.Inputs.{constants, all_constants}
use Rattle.rb_law_unsplit.proofs.Walking.{Laws, rest_typed, object_named, there}
use Rattle.rb_law_division.proofs.Lists.{all_left, all_right}
use Rattle.rb_law_division.proofs.Used.{IsIn, AreIn}
use Rattle.rb_law_division.proofs.Known.{portable_read, portable_constant, resolved, HasValue, Knows}

-- what the server gives is so, and the table that it leaves fits; nothing is said of a fault
abbrev pub Serves : {A : Type 0} → (List Object → Type 0) → (A → Type 0) → Reply A → Type 0
Serves Fit P (Got a s) = P a × Fit s.table
Serves Fit P (Stopped at f s) = Unit {0}

pub then_serves : {A B : Type 0} (Fit : List Object → Type 0) (P : A → Type 0) (Q : B → Type 0) (r : Reply A) (k : A → Server → Reply B) → Serves Fit P r
    → ((a : A) (s : Server) → P a → Fit s.table → Serves Fit Q (k a s)) → Serves Fit Q (and_then r k)
then_serves Fit P Q (Got a s) k h more = more a s h.0 h.1
then_serves Fit P Q (Stopped at f s) k h more = tt

pub rule_serves : {A : Type 0} (Fit : List Object → Type 0) (P : A → Type 0) (at : ℕ) (r : Result A Fault) (s : Server) → Fair P r → Fit s.table → Serves Fit P (replies at r s)
rule_serves Fit P at (Ok a) s h t = (h, t)
rule_serves Fit P at (Err f) s h t = tt

module _ (laws : Laws) (p : Program) (service : Service) (service_typed : check_service service.classes ≡ Ok tt) (service_formed : AreFormed service.classes) (declared : AreTyped (of_program p)) (this : Option (List ℕ)) (remote : Truth)
    (names : List (List ℕ)) (inputs : List Value) where
  abbrev x : Context
  x = record { declared = of_program p; this = this; remote = remote }

  abbrev is : List Interface
  is = p.interfaces

  abbrev f : Facts
  f = facts_of p

  abbrev types : ℕ → Option (Checked Kind)
  types = type_at p

  abbrev pub Fit : List Object → Type 0
  Fit table = TableFits service.classes service.root table

  -- what the script runs on
  abbrev pub ground_of : Ground
  ground_of = record { classes = service.classes; root = service.root; inputs = inputs }

  fine_serves : {A : Type 0} (P : A → Type 0) (r : Reply A) → Fine service P r → Serves Fit P r
  fine_serves P (Got a s) h = h
  fine_serves P (Stopped at fault s) h = tt

  decided_serves : (P : Value → Type 0) (o : Option Value) (go : Server → Reply Value) (s : Server) → IfDecided P o → Fit s.table → Serves Fit P (go s) → Serves Fit P (decided_or o go s)
  decided_serves P (Some v) go s e t more = (e, t)
  decided_serves P None go s e t more = more

  module _ (vs : Scope) (ws : typed.Scope) (refs : Refs) (m : ℕ) (vars : Vars) (knows : Knows is names ground_of vs ws refs m vars) (here : ℕ) where
    named : (o : Option Ref) (k : Kind) (s : Server) → HasValue is names ground_of k (resolved ground_of vars o) → Fit s.table → Serves Fit (Fits is [] k) (value_of ground_of here vars (ref_expr o) s)
    named (Some Root) k s h t = let same : value.Remote service.root ≡ h.0 = cc (h.1) in (subst (Fits is [] k) (sym same) h.2, t)
    named (Some (Input n)) k s h t = subst (λ o. Serves Fit (Fits is [] k) (replies here (known faults.kind o) s)) (sym h.1) (h.2, t)
    named (Some (Var n)) k s h t = subst (λ o. Serves Fit (Fits is [] k) (replies here (known faults.kind o) s)) (sym h.1) (h.2, t)
    named None k s h t = absurd (cc (h.1))

    constant_in : (name : List ℕ) (t : Truth) → AreIn names (cond t (name ∷ []) []) → t ≡ true → IsIn names name
    constant_in name true h e = h.0
    constant_in name false h e = absurd (cc e)

    mutual
      unfolding literal_kind

      pub value_typed : (e : Expr) (k : Kind) (s : Server) → portable f vs e ≡ true → type_of x ws e ≡ Ok k → IsNotedExpr types x ws e → IsFormedExpr e → AreIn names (constants vs e) → Fit s.table
          → Serves Fit (Fits is [] k) (value_of ground_of here vars (sexpr p refs e) s)
      value_typed (Lit at v) k s r t n g i table =
          let same : literal_form (out-Value v) ≡ k = cc (t) in
          (subst (λ m. Fits is [] m v) same (literal_fits is [] v (out-Value v) refl g), table)
      value_typed (Name at name) k s r t n g i table =
          let b = bind_ok (known (UnknownName at) (typed.variable_named ws name)) _ k t in
          let same : (b.0).kind ≡ k = cc (b.2) in
          let found = knows.each name b.0 g (portable_read (role_of vs name) r) (λ c. constant_in name (is_constant_role (role_of vs name)) i (portable_constant (role_of vs name) r c)) (known_ok (UnknownName at) (typed.variable_named ws name) b.0 b.1) in
          named (lookup refs name) k s (subst (λ m. HasValue is names ground_of m (resolved ground_of vars (lookup refs name))) same found) table
      value_typed (This at) k s r t n g i table = absurd (cc (r))
      value_typed (Unary at o a) k s r t n g i table =
          let b = placed_ok (expr_at a) (type_of x ws a) _ k t in
          then_serves Fit (Fits is [] b.0) (Fits is [] k) (value_of ground_of here vars (sexpr p refs a) s) _ (value_typed a b.0 s r b.1 n.1 g i table) (λ v s1 fv t1.
          rule_serves Fit (Fits is [] k) at (on_one o (out-Value v)) s1 (laws.one is [] o (record { at = expr_at a; kind = b.0 }) k v b.2 fv) t1)
      value_typed (Binary at o a b) k s r t n g i table =
          let c = placed_ok (expr_at a) (type_of x ws a) _ k t in
          let e = placed_ok (expr_at b) (type_of x ws b) _ k c.2 in
          let p1 : Placed = record { at = expr_at a; kind = c.0 } in
          let p2 : Placed = record { at = expr_at b; kind = e.0 } in
          let both = and_parts (portable f vs a) (portable f vs b) r in
          let in_a = all_left (IsIn names) (constants vs a) (constants vs b) i in
          let in_b = all_right (IsIn names) (constants vs a) (constants vs b) i in
          then_serves Fit (Fits is [] c.0) (Fits is [] k) (value_of ground_of here vars (sexpr p refs a) s) _ (value_typed a c.0 s both.0 c.1 n.1 g.0 in_a table) (λ v s1 fv t1.
          then_serves Fit (IfDecided (Fits is [] k)) (Fits is [] k) (replies at (by_left o (out-Value v)) s1) _
          (rule_serves Fit (IfDecided (Fits is [] k)) at (by_left o (out-Value v)) s1 (laws.left is [] o p1 p2 k v e.2 fv) t1) (λ decided s2 fd t2.
          decided_serves (Fits is [] k) decided _ s2 fd t2
          (then_serves Fit (Fits is [] e.0) (Fits is [] k) (value_of ground_of here vars (sexpr p refs b) s2) _ (value_typed b e.0 s2 both.1 e.1 n.2 g.1 in_b t2) (λ w s3 fw t3.
          rule_serves Fit (Fits is [] k) at (on_two o (out-Value v) (out-Value w)) s3 (laws.two is [] o p1 p2 k v w e.2 fv fw) t3))))
      value_typed (Field at a name) k s r t n g i table = absurd (cc (r))
      value_typed (Call at a method args) k s r t n g i table =
          let b = placed_ok (expr_at a) (type_of x ws a) _ k t in
          let ts = bind_ok (types_of x ws args) _ k b.2 in
          let whole = and_parts (is_remote f a && portable f vs a) (all_portable f vs args) r in
          let receiver = and_parts (is_remote f a) (portable f vs a) whole.0 in
          let in_a = all_left (IsIn names) (constants vs a) (all_constants vs args) i in
          let in_args = all_right (IsIn names) (constants vs a) (all_constants vs args) i in
          let named_as = object_named (of_program p) b.0 (sym (object_fact p (expr_at a) b.0 (kind_here types x ws a b.0 n.1 b.1)) ∙ receiver.0) in
          let interface = there (interface_named is named_as.0) named_as.2 in
          let on_interface : interface_call at method interface.0 ts.0 ≡ Ok k =
          subst (λ o. call_on x at method (record { at = expr_at a; kind = b.0 }) ts.0 o ≡ Ok k) (ap (receiver_interface (of_program p)) named_as.1 ∙ interface.1) ts.2 in
          let far = laws.given (of_program p) declared at named_as.0 method interface.0 ts.0 k interface.1 on_interface in
          then_serves Fit (Fits is [] b.0) (Fits is [] k) (value_of ground_of here vars (sexpr p refs a) s) _ (value_typed a b.0 s receiver.1 b.1 n.1 g.0 in_a table) (λ v s1 fv t1.
          then_serves Fit (All IsBounded) (Fits is [] k) (values_of ground_of here vars (sexprs p refs args) s1) _ (values_typed args ts.0 s1 whole.1 ts.1 n.2 g.1 in_args t1) (λ us s2 fus t2.
          let on : IsRemoteValue (out-Value v) = subst (λ o. FitsNamed o [] named_as.0 (out-Value v)) interface.1 (subst (λ m. Fits is [] m v) named_as.1 fv) in
          fine_serves (Fits is [] k) (invoke service.classes at (numbers.call_kind p at) (out-Value v) method us s2)
          (invoke_fine laws.calls p service service_typed service_formed at v method us s2 k on fus (n.0 ∙ ap Some t) far t2)))
      value_typed (Index at a b) k s r t n g i table = absurd (cc (r))
      value_typed (New at class args) k s r t n g i table = absurd (cc (r))
      value_typed (Items at item items) k s r t n g i table = absurd (cc (r))
      value_typed (Taken at step) k s r t n g i table = absurd (cc (r))

      values_typed : (es : Exprs) (ps : List Placed) (s : Server) → all_portable f vs es ≡ true → types_of x ws es ≡ Ok ps → AreNotedExprs types x ws es → AreFormedExprs es → AreIn names (all_constants vs es) → Fit s.table
          → Serves Fit (All IsBounded) (values_of ground_of here vars (sexprs p refs es) s)
      values_typed NoExprs ps s r t n g i table = (All-nil IsBounded, table)
      values_typed (MoreExprs e es) ps s r t n g i table =
          let b = placed_ok (expr_at e) (type_of x ws e) _ ps t in
          let qs = rest_typed (record { at = expr_at e; kind = b.0 }) (types_of x ws es) ps b.2 in
          let both = and_parts (portable f vs e) (all_portable f vs es) r in
          then_serves Fit (Fits is [] b.0) (All IsBounded) (value_of ground_of here vars (sexpr p refs e) s) _
          (value_typed e b.0 s both.0 b.1 n.0 g.0 (all_left (IsIn names) (constants vs e) (all_constants vs es) i) table) (λ v s1 fv t1.
          then_serves Fit (All IsBounded) (All IsBounded) (values_of ground_of here vars (sexprs p refs es) s1) _
          (values_typed es qs.0 s1 both.1 qs.1 n.1 g.1 (all_right (IsIn names) (constants vs e) (all_constants vs es) i) t1) (λ us s2 fus t2.
          (All-cons IsBounded v us (laws.sent is [] b.0 v fv) fus, t2)))
