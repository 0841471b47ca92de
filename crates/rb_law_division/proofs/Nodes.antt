-- The node of each batch of an admitted program fits its remainder.
use Rattle.std.proofs.Common.{◌≡◌, refl, subst, ap, sym, ◌∙◌, ℕ, suc, ◌+◌, List, [], ◌∷◌, ◌++◌, Bool as Truth, true, false, ◌||◌, cond, arith, Option, Some, None, option_map, is_none, Result, Ok, Err, slice_get}
use Rattle.std.specs.List.{AllByRecursion, Contains}
use Rattle.std.specs.Str.{bytes_eq}
use Rattle.std.proofs.lemmas.Slice.Eq.{bytes_eq-Decides}
use Rattle.rb_trees.specs.Named.{first_named, lookup}
use Rattle.rb_trees.specs.declared.values.Value.{Value, out-Value}
use Rattle.rb_trees.specs.declared.values.Value.TheVariants as value
use Rattle.rb_trees.specs.declared.services.Object.{Object}
use Rattle.rb_trees.specs.mirror.Declarations.{Program, Interface}
use Rattle.rb_trees.specs.mirror.Services.{Service}
use Rattle.rb_trees.specs.mirror.Code.{Stmts}
use Rattle.rb_meaning_bytes.specs.Fits.{Walk, leaves, begun, parts_read, judged, fits, Extra}
use Rattle.rb_meaning_types.specs.Kinds as kind
use Rattle.rb_meaning_types.specs.Kinds.{Kind}
use Rattle.rb_meaning_types.specs.Names.{is_new, interface_named}
use Rattle.rb_meaning_types.specs.Declared.{Declarations, Context, of_program}
use Rattle.rb_meaning_types.specs.Scopes as typed
use Rattle.rb_meaning_types.specs.Notes.{scope_or, type_at}
use Rattle.rb_meaning_types.specs.Lawful.{IsLawful}
use Rattle.rb_meaning_types.specs.Programs.{check_program}
use Rattle.rb_meaning_split.specs.Parts.{block_parts}
use Rattle.rb_meaning_types.specs.Fits.{classes_of, IsRemoteValue, Fits, this_name}
use Rattle.rb_meaning_code.specs.State.{Names, Local, bound}
use Rattle.rb_meaning_code.specs.Remote.{batch_fuel}
use Rattle.rb_meaning_code.specs.ScriptRun.{Ground}
use Rattle.rb_meaning_flow.specs.declared.scopes.Role.{Role}
use Rattle.rb_meaning_flow.specs.Facts.{Facts, facts_of}
use Rattle.rb_meaning_flow.specs.Scopes as flow
use Rattle.rb_meaning_flow.specs.Scopes.{role_of, is_list_role, assigned_in, opened}
use Rattle.rb_meaning_flow.specs.Outermost.{Outermost, batch_sites, program_batches}
use Rattle.rb_meaning.specs.Links.{IsTyped}
use Rattle.rb_meaning.specs.Unsplit.{batch_at}
use Rattle.rb_meaning_split.specs.Refs.{Ref, Root, Input}
use Rattle.rb_meaning_split.specs.Inputs.{used_in}
use Rattle.rb_meaning_split.specs.Client.{fits_batch, value_or_unit, input_values, lengths}
use Rattle.rb_meaning_split.specs.Division.{numbered, first_refs, inputs_of, division}
use Rattle.rb_law_types.specs.Formed.{LawfulExprsAreFormed, LawfulStmtsAreFormed, LawfulClassesAreFormed}
use Rattle.rb_law_types.specs.Noted.{AreNotedStmts}
use Rattle.rb_law_types.specs.Operators.{ConditionsHold}
use Rattle.rb_law_types.specs.Ends.{Place, context, LocalFits}
use Rattle.rb_law_types.specs.Asked.{Site, Own, IsAskedBatch}
use Rattle.rb_law_types.specs.Code.{TypesKeep}
use Rattle.rb_law_types.proofs.Served.{remote_out}
use Rattle.rb_law_types.proofs.Stmts.{binds}
use Rattle.rb_law_types.proofs.Parts.{batch_parts}
use Rattle.rb_flow.specs.Program.{HasNoRefusal}
use Rattle.rb_flow.specs.Laws.{AdmittedSendPortable}
use Rattle.rb_flow.proofs.Among.{mapped_to}
use Rattle.rb_law_unsplit.specs.Noted.{LawfulAreNoted}
use Rattle.rb_law_unsplit.specs.Batches.{program_sites}
use Rattle.rb_law_unsplit.proofs.Found.{batch_found}
use Rattle.rb_law_unsplit.proofs.Agreed.{Agree, agree_added, agree_with}
use Rattle.rb_law_unsplit.proofs.Standing.{block_lawful, IsBatchOf}
use Rattle.rb_law_unsplit.proofs.Programs.{program_typed, batches_in}
use Rattle.rb_law_unsplit.proofs.Carried.{Carry, carry_begins, carry_read}
use Rattle.rb_law_unsplit.proofs.Walking.{Laws}
use Rattle.rb_law_unsplit.proofs.Whole.{remote_named, declared, service_formed}
use Rattle.rb_law_division.specs.Fitting.{node_of, NodesFit}
use Rattle.rb_law_division.proofs.Used.{IsIn, uses_in}
use Rattle.rb_law_division.proofs.Known.{else_first, first_more, is_read, is_given, resolved, AreOlder, SameNames, Match, names_match, HasValue, Knows}
use Rattle.rb_law_division.proofs.Calls.{IsGivenIn, calls_first, root_is}
use Rattle.rb_law_division.proofs.Roots.{none_named}
use Rattle.rb_law_division.proofs.Outer.{AreOuter, batches_outer, opened_outer, block_constant, uses_so}
use Rattle.rb_law_division.proofs.Fitting.{block_walks}

same_names : (is : List Interface) (vs : flow.Scope) (ws : typed.Scope) → Agree is vs ws → SameNames vs ws
same_names is [] [] h = tt
same_names is [] (w ∷ ws) h = absurd h
same_names is (v ∷ vs) [] h = absurd h
same_names is (v ∷ vs) (w ∷ ws) h = (h.0, same_names is vs ws h.2)

-- ---- inputs

inputs_older : (n m : ℕ) (qs : List (List ℕ)) → AreOlder m (numbered n qs)
inputs_older n m [] = tt
inputs_older n m (q ∷ qs) = (tt, inputs_older (suc n) m qs)

-- an input, by its number among them
record IsInput (frame : Names) (n : ℕ) (qs : List (List ℕ)) (q : List ℕ) : Type 0 where
  place : ℕ
  found : lookup (numbered n qs) q ≡ Some (Input (n + place))
  holds : slice_get (input_values qs frame) place ≡ Some (value_or_unit (lookup frame q))

input_found : (frame : Names) (n : ℕ) (qs : List (List ℕ)) (q : List ℕ) → IsIn qs q → IsInput frame n qs q
input_found frame n [] q h = absurd (cc h)
input_found frame n (a ∷ qs) q h = by (bytes_eq a q) refl h (input_found frame (suc n) qs q)
  where
    put : Truth → Option Ref
    put t = option_map (λ r. r.1) (cond t (Some (a, Input n)) (first_named (λ r. r.0) (numbered (suc n) qs) q))

    by : (t : Truth) → bytes_eq a q ≡ t → cond t false (is_new q qs) ≡ false → (IsIn qs q → IsInput frame (suc n) qs q) → IsInput frame n (a ∷ qs) q
    by true e k more =
        let number : n ≡ n + 0 = omega arith in
        record { place = 0; found = subst (λ t. put t ≡ Some (Input (n + 0))) (sym e) (ap (λ i. Some (Input i)) number); holds = ap (λ r. Some (value_or_unit (lookup frame r))) ((bytes_eq-Decides a q).0 e) }
    by false e k more =
        let rest = more k in
        let number : suc n + rest.place ≡ n + suc rest.place = omega arith in
        record { place = suc rest.place; found = subst (λ t. put t ≡ Some (Input (n + suc rest.place))) (sym e) (rest.found ∙ ap (λ i. Some (Input i)) number); holds = rest.holds }

none_numbered : (n : ℕ) (qs : List (List ℕ)) (q : List ℕ) → AllByRecursion (λ a. bytes_eq a q ≡ false) qs → lookup (numbered n qs) q ≡ None
none_numbered n [] q h = refl
none_numbered n (a ∷ qs) q h = ap (λ (t : Truth). option_map (λ (r : List ℕ × Ref). r.1) (cond t (Some (a, Input n)) (first_named (λ r. r.0) (numbered (suc n) qs) q))) h.0 ∙ none_numbered (suc n) qs q h.1

differs : (a q : List ℕ) → (a ≡ q → ⊥) → bytes_eq a q ≡ false
differs a q h = by (bytes_eq a q) refl
  where
    by : (t : Truth) → bytes_eq a q ≡ t → t ≡ false
    by true e = absurd (h ((bytes_eq-Decides a q).0 e))
    by false e = refl

all_differ : (q : List ℕ) (qs : List (List ℕ)) → AllByRecursion (λ a. a ≡ q → ⊥) qs → AllByRecursion (λ a. bytes_eq a q ≡ false) qs
all_differ q [] h = tt
all_differ q (a ∷ qs) h = (differs a q h.0, all_differ q qs h.1)

all_other : (P : List ℕ → Type 0) (q : List ℕ) (qs : List (List ℕ)) → (P q → ⊥) → AllByRecursion P qs → AllByRecursion (λ a. a ≡ q → ⊥) qs
all_other P q [] f h = tt
all_other P q (a ∷ qs) f h = ((λ e. f (subst P e h.0)), all_other P q qs f h.1)

-- what looks up a name that isn't the last
not_last : (frame : Names) (last : List ℕ × Value) (q : List ℕ) (v : Value) → bytes_eq last.0 q ≡ false → lookup (frame ++ last ∷ []) q ≡ Some v → lookup frame q ≡ Some v
not_last frame last q v d h =
    by (first_named (λ n. n.0) frame q) (subst (λ (t : Truth). option_map (λ (n : List ℕ × Value). n.1) (else_first (first_named (λ n. n.0) frame q) (cond t (Some last) None)) ≡ Some v) d (sym (ap (option_map (λ n. n.1)) (first_more (λ n. n.0) frame last q)) ∙ h))
  where
    by : (o : Option (List ℕ × Value)) → option_map (λ n. n.1) (else_first o None) ≡ Some v → option_map (λ n. n.1) o ≡ Some v
    by (Some n) e = e
    by None e = absurd (cc e)

no_role : (vs : flow.Scope) (ws : typed.Scope) (q : List ℕ) → SameNames vs ws → typed.variable_named ws q ≡ None → IsGivenIn vs q → ⊥
no_role vs ws q same e c = by (flow.variable_named vs q) (subst (Match (flow.variable_named vs q)) e (names_match vs ws q same)) c
  where
    by : (o : Option _) → Match {B = typed.Variable} o None → is_given (flow.role_in o) ≡ true → ⊥
    by (Some u) m k = m
    by None m k = cc k

free_none : (o : Option typed.Variable) → is_none o ≡ true → o ≡ None
free_none (Some w) h = absurd (cc h)
free_none None h = refl

module _ (is : List Interface) (service : Service) (outer : flow.Scope) (scope : typed.Scope) (root interface : List ℕ) (at : ℕ) (assigned : List (List ℕ)) (frame : Names) (qs : List (List ℕ)) where
  abbrev vs : flow.Scope
  vs = flow.scope_with assigned (flow.with_variable outer root Role.Root at)

  abbrev root_typed : typed.Variable
  root_typed = record { name = root; kind = kind.Named interface; fixed = true }

  abbrev ws : typed.Scope
  ws = scope ++ root_typed ∷ []

  abbrev g : Ground
  g = record { classes = service.classes; root = service.root; inputs = input_values qs frame }

  abbrev last : List ℕ × Value
  last = (root, value.Remote service.root)

  -- what is known where a batch begins
  begins_known : SameNames vs ws → SameNames outer scope → AreOuter outer → typed.variable_named scope root ≡ None → Carry is vs ws (frame ++ last ∷ []) → Fits is [] (kind.Named interface) (value.Remote service.root)
      → AllByRecursion (IsGivenIn vs) qs → Knows is qs g vs ws (first_refs root qs) 0 []
  begins_known same outer_same outers free carry fits constant = record {
    same = same;
    none = no_ref;
    older = (tt, inputs_older 0 0 qs);
    called = (calls_first vs root (root_is assigned outer root at (none_named outer scope root outer_same (ap is_none free))) qs constant).called;
    each = λ q w plain r c e. known q w plain r c e (sym (first_more (λ u. u.name) scope root_typed q) ∙ e) (typed.variable_named scope q) refl;
  }
    where
      put : List ℕ → Truth → Option Ref
      put q t = option_map (λ (r : List ℕ × Ref). r.1) (cond t (Some (root, Root)) (first_named (λ r. r.0) (numbered 0 qs) q))

      no_ref : (q : List ℕ) → typed.variable_named ws q ≡ None → lookup (first_refs root qs) q ≡ None
      no_ref q e = by (typed.variable_named scope q) (bytes_eq root q) refl (sym (first_more (λ u. u.name) scope root_typed q) ∙ e)
        where
          by : (o : Option typed.Variable) (t : Truth) → bytes_eq root q ≡ t → else_first o (cond t (Some root_typed) None) ≡ None → lookup (first_refs root qs) q ≡ None
          by (Some w) t k h = absurd (cc h)
          by None true k h = absurd (cc h)
          by None false k h = ap (put q) k ∙ none_numbered 0 qs q (all_differ q qs (all_other (IsGivenIn vs) q qs (no_role vs ws q same e) constant))

      known : (q : List ℕ) (w : typed.Variable) → bytes_eq this_name q ≡ false → is_read (role_of vs q) ≡ true → (is_given (role_of vs q) ≡ true → IsIn qs q) → typed.variable_named ws q ≡ Some w
          → else_first (typed.variable_named scope q) (cond (bytes_eq root q) (Some root_typed) None) ≡ Some w → (o : Option typed.Variable) → typed.variable_named scope q ≡ o → HasValue is qs g w.kind (resolved g [] (lookup (first_refs root qs) q))
      known q w plain r c e k (Some w0) there =
          let looked = carry_read is vs ws (frame ++ last ∷ []) q w carry plain r e in
          let other = differs root q (λ same_as. cc (sym free ∙ ap (typed.variable_named scope) same_as ∙ there)) in
          let outer_role = opened_outer assigned outer scope (record { name = root; role = Role.Root; node = at }) q w0 outers outer_same there in
          let input = input_found frame 0 qs q (c (sym (ap (λ t. t || is_list_role (role_of vs q)) outer_role) ∙ r)) in
          let in_frame = not_last frame last q looked.0 other looked.1 in
          let number : 0 + input.place ≡ input.place = omega arith in
          (looked.0, ap (λ t. resolved g [] (put q t)) other ∙ ap (resolved g []) input.found ∙ ap (slice_get (input_values qs frame)) number ∙ input.holds ∙ ap (λ o. Some (value_or_unit o)) in_frame, looked.2)
      known q w plain r c e k None there = by (bytes_eq root q) refl (subst (λ o. else_first o (cond (bytes_eq root q) (Some root_typed) None) ≡ Some w) there k)
        where
          by : (t : Truth) → bytes_eq root q ≡ t → cond t (Some root_typed) None ≡ Some w → HasValue is qs g w.kind (resolved g [] (lookup (first_refs root qs) q))
          by true same_as h =
              let it : root_typed ≡ w = cc h in
              (value.Remote service.root, ap (λ t. resolved g [] (put q t)) same_as, subst (λ z. Fits is [] z.kind (value.Remote service.root)) it fits)
          by false same_as h = absurd (cc h)

-- a walk that leaves nothing fits
is_judged : (r : Result Walk ℕ) (w : Walk) → r ≡ Ok w → leaves w ≡ false → judged r ≡ Ok tt
is_judged r w e l = ap judged e ∙ ap (λ (t : Truth). cond t (Err Extra) (Ok tt)) l

module _ (laws : Laws) (conditions : ConditionsHold) (exprs_formed : LawfulExprsAreFormed) (stmts_formed : LawfulStmtsAreFormed) (classes_formed : LawfulClassesAreFormed) (types_keep : TypesKeep) (sends : AdmittedSendPortable) (notes : LawfulAreNoted) where
  module _ (p : Program) (lawful : IsLawful p) (checked : check_program p ≡ Ok tt) (no_refusal : HasNoRefusal p) (service : Service) (table : List Object) (served : IsTyped service table) where
    abbrev is : List Interface
    is = p.interfaces

    abbrev d : Declarations
    d = of_program p

    abbrev f : Facts
    f = facts_of p

    abbrev batches : List Site
    batches = program_sites p

    -- a batch of admission, as a site
    abbrev site_of : Outermost → List ℕ → Place → Site
    site_of o interface place = record { at = o.at; interface = interface; root = o.root; block = o.block; place = place }

    node_fits : (o : Outermost) (interface : List ℕ) (place : Place) (at : ℕ) (l : Local) → IsBatchOf p (program_batches f p) (site_of o interface place) → Agree is o.outer place.scope → Contains (program_batches f p) o
        → IsAskedBatch d (Own batches) at l (site_of o interface place) → fits_batch (division p o) l (node_of p o service table l) ≡ Ok tt
    unfolding division fits
    node_fits o interface place at l known agree among asked =
        let x : Context = context d place in
        let t = program_typed p checked in
        let ss = batch_sites f o in
        let is_one = mapped_to (batch_sites f) (program_batches f p) o among in
        let parts = batch_parts x place.scope o.at interface o.root o.block place.scope asked.typed in
        let scope = typed.with_variable place.scope o.root (kind.Named interface) true in
        let begun_scope = opened o.outer o.at o.root o.block in
        let qs = inputs_of p o in
        let agreed : Agree is begun_scope scope =
        agree_with is (assigned_in o.block) (flow.with_variable o.outer o.root Role.Root o.at) scope (agree_added is o.outer place.scope o.root Role.Root o.at (kind.Named interface) true agree (λ r. parts.declared_as, λ r. absurd (cc r))) in
        let start = bound o.root (value.Remote service.root) l in
        let root_remote : IsRemoteValue (out-Value (value.Remote service.root)) = subst IsRemoteValue (sym (remote_out service.root)) tt in
        let root_fits : Fits is (classes_of l.heap) (kind.Named interface) (value.Remote service.root) =
        remote_named (interface_named is interface) (classes_of l.heap) interface (out-Value (value.Remote service.root)) parts.declared_as root_remote in
        let start_fits : LocalFits x scope start = binds x place.scope l o.root (kind.Named interface) true (value.Remote service.root) asked.fits root_fits in
        let carry : Carry is begun_scope scope start.names = carry_begins is (classes_of start.heap) place.this begun_scope scope start.names agreed start_fits.holds.names_fit start_fits.count in
        let noted : AreNotedStmts (type_at p) x scope o.block = subst (λ i. AreNotedStmts (type_at p) x i o.block) (ap (scope_or place.scope) parts.judged) known.noted in
        let knows = begins_known is service o.outer place.scope o.root interface o.at (assigned_in o.block) l.names qs (same_names is begun_scope scope agreed) (same_names is o.outer place.scope agree) (batches_outer p o among)
        (free_none (typed.variable_named place.scope o.root) parts.free) carry (remote_named (interface_named is interface) [] interface (out-Value (value.Remote service.root)) parts.declared_as root_remote)
        (uses_so (IsGivenIn begun_scope) [] (used_in f begun_scope o.block) (block_constant f begun_scope o.block)) in
        let walk = block_walks laws conditions p service served.typed (service_formed laws.calls exprs_formed stmts_formed classes_formed types_keep p lawful t no_refusal service table served)
        (declared laws.calls exprs_formed stmts_formed classes_formed types_keep p lawful t no_refusal service table served) place.this place.remote ss (λ r e. no_refusal r (ss, is_one, e)) (sends p lawful no_refusal ss is_one)
        qs (input_values qs l.names) [] refl begun_scope scope parts.last (first_refs o.root qs) 0 0 [] o.block (record { table = table; fuel = batch_fuel }) parts.block_typed noted (stmts_formed o.block (block_lawful o.block known.lawful.2)) (λ y c. c)
        (uses_in (used_in f begun_scope o.block)) knows served.fits in
        is_judged (parts_read (lengths (input_values qs l.names)) (block_parts p (first_refs o.root qs) begun_scope 0 0 o.block) (begun (node_of p o service table l) false)) walk.last walk.read walk.left

    pub asked_fits : (at : ℕ) (l : Local) (site : Site) → IsAskedBatch d (Own batches) at l site → (b : Outermost) → batch_at p at ≡ Some b → fits_batch (division p b) l (node_of p b service table l) ≡ Ok tt
    asked_fits at l site asked b found =
        let known = batches_in p lawful (program_typed p checked) (notes p lawful) site asked.may in
        let o = known.begun in
        let same : site_of o site.interface site.place ≡ site =
        ap (λ q. site_with q o.root o.block) known.at ∙ ap (λ q. site_with site.at q o.block) known.root ∙ ap (λ q. site_with site.at site.root q) known.block in
        let same_batch : o ≡ b = cc (sym (ap (batch_at p) (sym (known.at ∙ asked.here)) ∙ batch_found p lawful o known.among) ∙ found) in
        subst (λ q. fits_batch (division p q) l (node_of p q service table l) ≡ Ok tt) same_batch
        (node_fits o site.interface site.place at l (subst (IsBatchOf p (program_batches f p)) (sym same) known) known.agree known.among (subst (IsAskedBatch d (Own batches) at l) (sym same) asked))
      where
        site_with : ℕ → List ℕ → Stmts → Site
        site_with at' root' block' = record { at = at'; interface = site.interface; root = root'; block = block'; place = site.place }

  pub nodes_fit : NodesFit
  nodes_fit p lawful checked no_refusal service table served at l site asked b found = asked_fits p lawful checked no_refusal service table served at l site asked b found
