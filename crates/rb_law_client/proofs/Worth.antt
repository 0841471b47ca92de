-- Portable expressions where they stand in a batch, and names that are bound to what they give.
use Rattle.std.proofs.Common.{◌≡◌, refl, sym, ap, ◌∙◌, subst, ℕ, suc, List, [], ◌∷◌, ◌++◌, length, Bool as Truth, true, false, cond, ◌&&◌, ◌||◌, Option, Some, None, Ok}
use Rattle.std.proofs.lemmas.Bool.{and_parts}
use Rattle.rb_trees.specs.Outcome.{known, must, ◌>>◌}
use Rattle.rb_trees.specs.Named.{lookup}
use Rattle.rb_trees.specs.declared.code.BinOp.{BinOp}
use Rattle.rb_trees.specs.declared.code.BinOp.TheVariants as bin
use Rattle.rb_trees.specs.declared.code.UnOp.{UnOp}
use Rattle.rb_trees.specs.declared.code.UnOp.TheVariants as un
use Rattle.rb_trees.specs.declared.values.Value.{Value}
use Rattle.rb_trees.specs.declared.values.Value.TheOpen.{Value-F}
use Rattle.rb_trees.specs.mirror.Code.{Expr, Lit, Name, This, Unary, Binary, Field, Call, Index, New, Items, Taken, expr_at}
use Rattle.rb_trees.specs.mirror.Declarations.{Interface}
use Rattle.rb_meaning_types.specs.Kinds as kind
use Rattle.rb_meaning_types.specs.Kinds.{Kind, is_primitive}
use Rattle.rb_meaning_types.specs.Literals.{literal_form}
use Rattle.rb_meaning_types.specs.Operators.{takes_operand, takes_left, unary_result, binary_result}
use Rattle.rb_meaning_types.specs.Violations.{Placed, wanted, wrong_type}
use Rattle.rb_meaning_types.specs.Declared.{Declarations, Context}
use Rattle.rb_meaning_types.specs.Scopes as typed
use Rattle.rb_meaning_types.specs.Expressions.{type_of}
use Rattle.rb_meaning_types.specs.Notes.{type_at}
use Rattle.rb_meaning_types.specs.Fits.{classes_of, frame_scope, Fits}
use Rattle.rb_meaning_code.specs.Faults as faults
use Rattle.rb_meaning_code.specs.Faults.{raises}
use Rattle.rb_meaning_code.specs.State.{Names, Local, bound}
use Rattle.rb_meaning_code.specs.Dialogue.{Outcome, Gave, Faulted, handle, end}
use Rattle.rb_meaning_code.specs.Expressions.{evaluates}
use Rattle.rb_meaning_code.specs.Remote.{Server, Reply, Got, Stopped}
use Rattle.rb_meaning_code.specs.ScriptRun as run
use Rattle.rb_meaning_code.specs.ScriptRun.{Vars}
use Rattle.rb_meaning_flow.specs.declared.scopes.Role.{Role}
use Rattle.rb_meaning_flow.specs.Facts.{is_remote}
use Rattle.rb_meaning_flow.specs.Scopes.{Scope, with_variable, is_list_role}
use Rattle.rb_meaning_flow.specs.Portable.{portable, all_portable, holds_call}
use Rattle.rb_meaning.specs.State.{Outside}
use Rattle.rb_meaning_split.specs.Refs.{Ref, Refs, with_var, sexpr}
use Rattle.rb_meaning_split.specs.Inputs.{constants}
use Rattle.rb_law_types.specs.Own.{IsFarKind}
use Rattle.rb_law_types.specs.Ends.{Grown}
use Rattle.rb_law_types.specs.Formed.{IsFormedExpr}
use Rattle.rb_law_types.specs.Noted.{IsNotedExpr}
use Rattle.rb_law_types.proofs.Checks.{then_ok, must_ok, placed_ok}
use Rattle.rb_law_types.proofs.Stmts.{binds}
use Rattle.rb_law_types.proofs.Values.{fits_more}
use Rattle.rb_law_types.proofs.SitesWithin.{Within}
use Rattle.rb_law_unsplit.proofs.Carried.{Carry, carry_begins}
use Rattle.rb_law_script.proofs.Linked.{IsFound, Closed, linked_more}
use Rattle.rb_law_script.proofs.Values.{value_same}
use Rattle.rb_law_script.proofs.Covered.{closed_of}
use Rattle.rb_law_script.proofs.Carrying.{carry_free}
use Rattle.rb_law_script.proofs.NoUnit.{NoUnit}
use Rattle.rb_law_script.proofs.Alike.{Sound}
use Rattle.rb_law_script.proofs.Joined.{joined_more, sound_value, far_value}
use Rattle.rb_law_script.proofs.There.{DoesThere, value_there}
use Rattle.rb_law_local.specs.Shown.{is_far, shown, at_client, named}
use Rattle.rb_law_local.specs.Admitted.{AreKnownScopes}
use Rattle.rb_law_local.proofs.Names.{framed_more}
use Rattle.rb_law_local.proofs.Uncut.{or_none}
use Rattle.rb_law_division.specs.Faults.{EachFault}
use Rattle.rb_law_client.proofs.Written.{held_with}
use Rattle.rb_law_client.proofs.Scene.{Scene, d, is, f, x, place, h, code, Holds, written, At}

none_grown : (cs : List (List ℕ)) → Grown [] cs
none_grown cs object class e = absurd (cc (e))

-- ---- names that a client hasn't

shown_skip : (d : Declarations) (vs : typed.Scope) (ns : Names) (v : typed.Variable) (n : List ℕ × Value) → length vs ≡ length ns → is_far d v.kind ≡ true → shown d (vs ++ v ∷ []) (ns ++ n ∷ []) ≡ shown d vs ns
shown_skip d [] [] v n same far = ap (λ t. cond t [] (n ∷ [])) far
shown_skip d [] (m ∷ ns) v n same far = absurd (cc (same))
shown_skip d (w ∷ vs) [] v n same far = absurd (cc (same))
shown_skip d (w ∷ vs) (m ∷ ns) v n same far = by (is_far d w.kind) (shown_skip d vs ns v n (cc (same)) far)
  where
    by : (t : Truth) → shown d (vs ++ v ∷ []) (ns ++ n ∷ []) ≡ shown d vs ns
        → cond t (shown d (vs ++ v ∷ []) (ns ++ n ∷ [])) (m ∷ shown d (vs ++ v ∷ []) (ns ++ n ∷ [])) ≡ cond t (shown d vs ns) (m ∷ shown d vs ns)
    by true e = e
    by false e = ap (λ q. m ∷ q) e

-- a far name more: the client is as before
pub seen_far : (x : Context) (scope : typed.Scope) (l : Local) (name : List ℕ) (k : Kind) (fixed : Truth) (value : Value) → length (frame_scope x.this scope) ≡ length l.names → is_far x.declared k ≡ true
    → at_client x (typed.with_variable scope name k fixed) (bound name value l) ≡ at_client x scope l
seen_far x scope l name k fixed value same far =
    let v : typed.Variable = record { name = name; kind = k; fixed = fixed } in
    ap (λ q. named q l) (ap (λ q. shown x.declared q (l.names ++ (name, value) ∷ [])) (framed_more x.this scope (v ∷ [])) ∙ shown_skip x.declared (frame_scope x.this scope) l.names v (name, value) same far)

pub primitive_near : (d : Declarations) (k : Kind) → is_primitive k ≡ true → is_far d k ≡ false
primitive_near d kind.Int h = refl
primitive_near d kind.Bool h = refl
primitive_near d kind.Text h = refl
primitive_near d kind.Unit h = absurd (cc (h))
primitive_near d _ h = absurd (cc (h))

pub other_far : (d : Declarations) (k : Kind) → IsFarKind d.interfaces k → is_primitive k ≡ false → NoUnit k → is_far d k ≡ true
other_far d kind.Int far h unit = absurd (cc (h))
other_far d kind.Bool far h unit = absurd (cc (h))
other_far d kind.Text far h unit = absurd (cc (h))
other_far d kind.Unit far h unit = absurd (cc (unit))
other_far d (kind.Named name) far h unit = ap (λ t. t || false) far
other_far d (kind.ListOf item) far h unit = absurd far
other_far d (kind.RowsOf row) far h unit = refl

-- ---- the types of what has no call

literal_primitive : (w : Value-F Value) (k : Kind) → literal_form w ≡ k → NoUnit k → is_primitive k ≡ true
literal_primitive (Value-F.Int n) k e unit = ap is_primitive (sym e)
literal_primitive (Value-F.Bool b) k e unit = ap is_primitive (sym e)
literal_primitive (Value-F.Text t) k e unit = ap is_primitive (sym e)
literal_primitive Value-F.Unit k e unit = let z : NoUnit kind.Unit = subst NoUnit (sym e) unit in absurd (cc (z))
literal_primitive _ k e unit = let z : NoUnit kind.Unit = subst NoUnit (sym e) unit in absurd (cc (z))

one_primitive : (op : UnOp) → is_primitive (unary_result op) ≡ true
one_primitive un.Not = refl
one_primitive un.Neg = refl
one_primitive un.Len = refl
one_primitive un.Str = refl

sum_primitive : (interfaces : List Interface) (k : Kind) → takes_left bin.Add k ≡ true → IsFarKind interfaces k → is_primitive k ≡ true
sum_primitive interfaces kind.Int t far = refl
sum_primitive interfaces kind.Bool t far = refl
sum_primitive interfaces kind.Text t far = refl
sum_primitive interfaces kind.Unit t far = absurd (cc (t))
sum_primitive interfaces (kind.Named name) t far = absurd (cc (t))
sum_primitive interfaces (kind.ListOf item) t far = absurd far
sum_primitive interfaces (kind.RowsOf row) t far = absurd (cc (t))

two_primitive : (interfaces : List Interface) (op : BinOp) (k : Kind) → takes_left op k ≡ true → IsFarKind interfaces (binary_result op k) → is_primitive (binary_result op k) ≡ true
two_primitive interfaces bin.Add k t far = sum_primitive interfaces k t far
two_primitive interfaces bin.Sub k t far = refl
two_primitive interfaces bin.Mul k t far = refl
two_primitive interfaces bin.Div k t far = refl
two_primitive interfaces bin.Rem k t far = refl
two_primitive interfaces bin.Eq k t far = refl
two_primitive interfaces bin.Ne k t far = refl
two_primitive interfaces bin.Lt k t far = refl
two_primitive interfaces bin.Le k t far = refl
two_primitive interfaces bin.Gt k t far = refl
two_primitive interfaces bin.Ge k t far = refl
two_primitive interfaces bin.And k t far = refl
two_primitive interfaces bin.Or k t far = refl

module _ (c : Scene) (refs : Refs) (m : ℕ) (vs : Scope) (ws : typed.Scope) (vars : Vars) (l : Local) (at : At c refs m vs ws vars l) where
  abbrev pub value : ℕ → Expr → Server → Reply Value
  value step e s = run.value_of c.ground step vars (sexpr c.p refs e) s

  -- A portable expression ends as its script's one. It leaves the local state and the events; its value is of its type.
  abbrev pub Worth : Kind → Outside → Outcome Value × Outside → Reply Value → Type 0
  Worth k o (Gave v l1, s1) r = (l1 ≡ l) × (r ≡ Got v s1.server) × (s1.events ≡ o.events) × Fits (is c) [] k v × Holds c s1
  Worth k o (Faulted q l1, s1) r = (l1 ≡ l) × (r ≡ Stopped q.at q.fault s1.server) × (s1.events ≡ o.events)

  pub closed_here : (e : Expr) → portable (f c) vs e ≡ true → IsFormedExpr e → Within (constants vs e) c.inputs → Closed refs e
  closed_here e r formed w = closed_of (f c) c.inputs refs vs at.joined.covered e r formed w

  pub worth : (e : Expr) (k : Kind) → portable (f c) vs e ≡ true → type_of (x c) ws e ≡ Ok k → IsNotedExpr (type_at c.p) (x c) ws e → IsFormedExpr e → Within (constants vs e) c.inputs → (step : ℕ) (o : Outside) → Holds c o
      → Worth k o (handle (h c) (evaluates (code c) e l) o) (value step e o.server)
  worth e k r t n formed w step o holds =
      let closed = closed_here e r formed w in
      by (handle (h c) (evaluates (code c) e l) o) (value step e o.server)
      (value_there c.laws c.p c.service c.service_typed c.service_formed c.fits.declared c.this c.remote c.ground c.classes c.inputs refs m vs ws at.walked vars at.joined (code c) l at.linked step e k o r t n formed closed holds)
      (subst (Sound c.service (Fits (is c) [] k)) (sym (value_same c.p c.service c.ground c.classes refs vars at.walked at.joined.linked step e o.server closed))
      (sound_value c.laws c.p c.service c.service_typed c.service_formed c.fits.declared c.this c.remote c.ground c.classes c.inputs refs m vs ws at.walked vars at.joined e k o.server r t n formed holds))
    where
      by : (q : Outcome Value × Outside) (reply : Reply Value) → DoesThere l o q reply → Sound c.service (Fits (is c) [] k) reply → Worth k o q reply
      by (Gave v l1, s1) reply there sound = let both = subst (Sound c.service (Fits (is c) [] k)) there.1 sound in (there.0, there.1, there.2, both.0, both.1)
      by (Faulted q l1, s1) reply there sound = there

  pub far_here : (e : Expr) (k : Kind) → portable (f c) vs e ≡ true → type_of (x c) ws e ≡ Ok k → IsNotedExpr (type_at c.p) (x c) ws e → IsFormedExpr e → IsFarKind (is c) k
  far_here e k r t n formed = far_value c.laws c.p c.service c.service_typed c.service_formed c.fits.declared c.this c.remote c.ground c.classes c.inputs refs m vs ws at.walked vars at.joined e k r t n formed

  -- What is portable, holds no call and isn't primitive is a name, which has a value.
  pub never_falls : (e : Expr) (k : Kind) → portable (f c) vs e ≡ true → holds_call (f c) e ≡ false → type_of (x c) ws e ≡ Ok k → IsFarKind (is c) k → NoUnit k → is_primitive k ≡ false → Closed refs e → (o : Outside)
      → EachFault (λ r. ⊥) (handle (h c) (evaluates (code c) e l) o).0
  never_falls (Lit place v) k r none t far unit other closed o = tt
  never_falls (Name place name) k r none t far unit other closed o = by (lookup refs name) refl closed.1
    where
      by : (q : Option Ref) → lookup refs name ≡ q → IsFound q → EachFault (λ r. ⊥) (handle (h c) (evaluates (code c) (Name place name) l) o).0
      by (Some y) e found = subst (λ z. EachFault (λ r. ⊥) (handle (h c) (end l (raises place (known faults.kind z))) o).0) (sym (at.linked name closed.0 y e).holds) tt
      by None e found = absurd found
  never_falls (This place) k r none t far unit other closed o = absurd (cc (r))
  never_falls (Unary place op a) k r none t far unit other closed o =
      let b = placed_ok (expr_at a) (type_of (x c) ws a) _ k t in
      let u = then_ok (must (takes_operand op b.0) (wrong_type (record { at = expr_at a; kind = b.0 }))) (Ok (unary_result op)) k b.2 in
      let same : unary_result op ≡ k = cc (u.1) in
      absurd (cc (other, ap is_primitive (sym same), one_primitive op))
  never_falls (Binary place op a b) k r none t far unit other closed o =
      let p = placed_ok (expr_at a) (type_of (x c) ws a) _ k t in
      let q = placed_ok (expr_at b) (type_of (x c) ws b) _ k p.2 in
      let first : Placed = record { at = expr_at a; kind = p.0 } in
      let second : Placed = record { at = expr_at b; kind = q.0 } in
      let u = then_ok (must (takes_left op p.0) (wrong_type first) >> wanted p.0 second) (Ok (binary_result op p.0)) k q.2 in
      let v = then_ok (must (takes_left op p.0) (wrong_type first)) (wanted p.0 second) tt u.0 in
      let same : binary_result op p.0 ≡ k = cc (u.1) in
      absurd (cc (other, ap is_primitive (sym same), two_primitive (is c) op p.0 (must_ok (takes_left op p.0) (wrong_type first) v.0) (subst (IsFarKind (is c)) (sym same) far)))
  never_falls (Field place a name) k r none t far unit other closed o = absurd (cc (r))
  never_falls (Call place a method args) k r none t far unit other closed o =
      let receiver = (and_parts (is_remote (f c) a) (portable (f c) vs a) (and_parts (is_remote (f c) a && portable (f c) vs a) (all_portable (f c) vs args) r).0).0 in
      let two = or_none (is_remote (f c) a || holds_call (f c) a) _ none in
      absurd (cc (receiver, (or_none (is_remote (f c) a) (holds_call (f c) a) two.0).0))
  never_falls (Index place a b) k r none t far unit other closed o = absurd (cc (r))
  never_falls (New place class args) k r none t far unit other closed o = absurd (cc (r))
  never_falls (Items place item items) k r none t far unit other closed o = absurd (cc (r))
  never_falls (Taken place step) k r none t far unit other closed o = absurd (cc (r))

  -- with a name more, which the script binds too
  pub at_bound : (name : List ℕ) (role : Role) (place : ℕ) (k : Kind) (v : Value) → is_list_role role ≡ false → IsFarKind (is c) k → typed.is_free ws name ≡ true → Fits (is c) [] k v → AreKnownScopes (d c) (with_variable vs name role place) (typed.with_variable ws name k true)
      → At c (with_var refs name m) (suc m) (with_variable vs name role place) (typed.with_variable ws name k true) ((m, v) ∷ vars) (bound name v l)
  at_bound name role place k v other far free fits known' =
      let carry : Carry (is c) vs ws l.names = carry_begins (is c) (classes_of l.heap) c.this vs ws l.names at.joined.agree at.fits.holds.names_fit at.fits.count in
      record {
        walked = at.walked ++ (name, v) ∷ [];
        joined = joined_more (is c) c.ground c.inputs refs m vs ws at.walked vars name role place k v at.joined other far free fits;
        linked = linked_more c.ground refs vars l.names m name v at.linked at.joined.fresh (λ plain. carry_free (is c) vs ws l.names name carry plain free);
        fits = binds (x c) ws l name k true v at.fits (fits_more (is c) [] (classes_of l.heap) (none_grown (classes_of l.heap)) k v fits);
        held = held_with (written c) refs ws name m k at.held free;
        known = known';
      }
