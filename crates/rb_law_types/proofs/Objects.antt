-- Heaps that fit: their objects, new ones, and fields that are written; and arguments that fit parameters.
use Rattle.std.proofs.Common.{◌≡◌, refl, sym, ap, ◌∙◌, subst, ℕ, zero, suc, List, [], ◌∷◌, ◌++◌, length, arith, Bool as Truth, true, false, nat_eq, nat_lt, All, Option, Some, None, option_and_then, slice_get, slice_set, Ok}
use Rattle.std.proofs.lemmas.Bool.{eqb-true, eq-eqb}
use Rattle.std.proofs.lemmas.List.Elements.{All-head, All-tail, All-set, All-push}
use Rattle.rb_trees.specs.Limits.{most_objects}
use Rattle.rb_trees.specs.Named.{lookup}
use Rattle.rb_trees.specs.Classes.{method_of_class}
use Rattle.rb_trees.specs.Objects.{field_value, with_field, with_object, option_with_field, with_field_value}
use Rattle.rb_trees.specs.Outcome.{◌>>=◌, ◌>>◌, known, must}
use Rattle.rb_trees.specs.declared.values.Value.{Value}
use Rattle.rb_trees.specs.declared.values.Value.TheOpen.{Value-F}
use Rattle.rb_trees.specs.declared.values.Value.TheVariants as value
use Rattle.rb_trees.specs.declared.services.Object.{Object}
use Rattle.rb_trees.specs.mirror.Declarations.{Param, Interface, Class, Method}
use Rattle.rb_meaning_types.specs.Kinds as kind
use Rattle.rb_meaning_types.specs.Kinds.{kind_of}
use Rattle.rb_meaning_types.specs.Names.{interface_named, class_named, method_named, field_named}
use Rattle.rb_meaning_types.specs.Violations.{Placed, WrongCount, wanted}
use Rattle.rb_meaning_types.specs.Declared.{Context}
use Rattle.rb_meaning_types.specs.Members.{arguments_wanted, arguments_fit}
use Rattle.rb_meaning_types.specs.Scopes.{parameters}
use Rattle.rb_meaning_types.specs.Fits.{classes_of, IsObjectOf, Fits, FieldsFit, ObjectFits, HeapFits, NamesFit}
use Rattle.rb_meaning_code.specs.Faults.{kind as kind_fault, heap_full}
use Rattle.rb_meaning_code.specs.Objects.{matched, object_with, placed, constructed, field_of, with_field_of}
use Rattle.rb_meaning_code.specs.Calls.{method_of, own_method, called_method}
use Rattle.rb_law_types.specs.Kept.{Fair}
use Rattle.rb_law_types.specs.Ends.{Grown, OfKinds}
use Rattle.rb_law_types.specs.Code.{ArgumentsFit}
use Rattle.rb_law_types.proofs.Checks.{then_ok, must_ok, wanted_ok}
use Rattle.rb_law_types.proofs.Faults.{plain_rule, SomeIs, known_fair}
use Rattle.rb_law_types.proofs.Values.{object_fits, fields_more, objects_more}
use Rattle.rb_law_types.proofs.Names.{field_there, field_put}

-- arguments

module _ (x : Context) (cs : List (List ℕ)) where
  wanted_fit : (ps : List Param) (args : List Placed) (vs : List Value) → length args ≡ length ps → arguments_wanted ps args ≡ Ok tt → OfKinds x args cs vs → ArgumentsFit x.declared.interfaces cs ps vs
  wanted_fit [] [] [] n e h = tt
  wanted_fit [] [] (v ∷ vs) n e h = absurd h
  wanted_fit [] (a ∷ args) vs n e h = absurd (omega (arith, n))
  wanted_fit (p ∷ ps) [] vs n e h = absurd (omega (arith, n))
  wanted_fit (p ∷ ps) (a ∷ args) [] n e h = absurd h
  wanted_fit (p ∷ ps) (a ∷ args) (v ∷ vs) n e h =
      let s = then_ok (wanted (kind_of p.kind) a) (arguments_wanted ps args) tt e in
      (subst (λ k. Fits x.declared.interfaces cs k v) (sym (wanted_ok (kind_of p.kind) a s.0)) h.0, wanted_fit ps args vs (omega (arith, n)) s.1 h.1)

  pub arguments_do : (at : ℕ) (ps : List Param) (args : List Placed) (vs : List Value) → arguments_fit at ps args ≡ Ok tt → OfKinds x args cs vs → ArgumentsFit x.declared.interfaces cs ps vs
  arguments_do at ps args vs e h =
      let s = then_ok (must (nat_eq (length args) (length ps)) (WrongCount at)) (arguments_wanted ps args) tt e in
      wanted_fit ps args vs (eqb-true (length args) (length ps) (must_ok (nat_eq (length args) (length ps)) (WrongCount at) s.0)) s.1 h

module _ (is : List Interface) (cs : List (List ℕ)) where
  pub arguments_count : (ps : List Param) (vs : List Value) → ArgumentsFit is cs ps vs → length ps ≡ length vs
  arguments_count [] [] h = refl
  arguments_count [] (v ∷ vs) h = absurd h
  arguments_count (p ∷ ps) [] h = absurd h
  arguments_count (p ∷ ps) (v ∷ vs) h = ap suc (arguments_count ps vs h.1)

  pub matched_fields : (ps : List Param) (vs : List Value) → ArgumentsFit is cs ps vs → FieldsFit is cs ps (matched ps vs)
  matched_fields [] [] h = tt
  matched_fields [] (v ∷ vs) h = absurd h
  matched_fields (p ∷ ps) [] h = absurd h
  matched_fields (p ∷ ps) (v ∷ vs) h = (refl, h.0, matched_fields ps vs h.1)

  pub matched_names : (ps : List Param) (vs : List Value) → ArgumentsFit is cs ps vs → NamesFit is cs (parameters ps) (matched ps vs)
  matched_names [] [] h = tt
  matched_names [] (v ∷ vs) h = absurd h
  matched_names (p ∷ ps) [] h = absurd h
  matched_names (p ∷ ps) (v ∷ vs) h = (refl, h.0, matched_names ps vs h.1)

  pub matched_count : (ps : List Param) (vs : List Value) → ArgumentsFit is cs ps vs → length (parameters ps) ≡ length (matched ps vs)
  matched_count [] [] h = refl
  matched_count [] (v ∷ vs) h = absurd h
  matched_count (p ∷ ps) [] h = absurd h
  matched_count (p ∷ ps) (v ∷ vs) h = ap suc (matched_count ps vs h.1)

-- an object by its class

pub object_there : (heap : List Object) (n : ℕ) (name : List ℕ) → slice_get (classes_of heap) n ≡ Some name → (o : Object) × (slice_get heap n ≡ Some o) × (o.class ≡ name)
object_there [] n name e = absurd (cc (e))
object_there (o ∷ heap) zero name e = (o, refl, cc (e))
object_there (o ∷ heap) (suc n) name e = object_there heap n name e

got_fits : {A : Type 0} (P : A → Type 0) (xs : List A) (n : ℕ) (a : A) → slice_get xs n ≡ Some a → All P xs → P a
got_fits P [] n a e h = absurd (cc (e))
got_fits P (y ∷ ys) zero a e h = let same : y ≡ a = cc (e) in subst P same (All-head P y ys h)
got_fits P (y ∷ ys) (suc n) a e h = got_fits P ys n a e (All-tail P y ys h)

-- an object of a class of the declarations
pub record IsObject (is : List Interface) (classes : List Class) (heap : List Object) (n : ℕ) (name : List ℕ) (c : Class) : Type 0 where
  pub object : Object
  pub there : slice_get heap n ≡ Some object
  pub named : object.class ≡ name
  pub fields : FieldsFit is (classes_of heap) c.fields object.fields

pub object_is : (is : List Interface) (classes : List Class) (heap : List Object) (n : ℕ) (name : List ℕ) (c : Class) → HeapFits is classes heap → slice_get (classes_of heap) n ≡ Some name → class_named classes name ≡ Some c
    → IsObject is classes heap n name c
object_is is classes heap n name c h e found =
    let o = object_there heap n name e in
    let fits = got_fits (ObjectFits is classes (classes_of heap)) heap n o.0 o.1 h in
    let found' : class_named classes (o.0).class ≡ Some c = ap (class_named classes) o.2 ∙ found in
    let same : fits.class ≡ c = cc (fits.found, found') in
    record { object = o.0; there = o.1; named = o.2; fields = subst (λ d. FieldsFit is (classes_of heap) d.fields (o.0).fields) same fits.fields }

-- one object more

grown_added : (heap : List Object) (o : Object) → Grown (classes_of heap) (classes_of (heap ++ o ∷ []))
grown_added [] o n class e = absurd (cc (e))
grown_added (p ∷ heap) o zero class e = e
grown_added (p ∷ heap) o (suc n) class e = grown_added heap o n class e

added_stands : (heap : List Object) (o : Object) → slice_get (classes_of (heap ++ o ∷ [])) (length heap) ≡ Some o.class
added_stands [] o = refl
added_stands (p ∷ heap) o = added_stands heap o

-- what a new object gives
pub record IsMade (is : List Interface) (classes : List Class) (heap : List Object) (name : List ℕ) (made : Value × List Object) : Type 0 where
  pub object : Fits is (classes_of made.1) (kind.Named name) made.0
  pub heap_fits : HeapFits is classes made.1
  pub grown : Grown (classes_of heap) (classes_of made.1)

module _ (is : List Interface) (classes : List Class) (heap : List Object) (h : HeapFits is classes heap) where
  made : (name : List ℕ) (c : Class) (vs : List Value) → interface_named is name ≡ None → class_named classes name ≡ Some c → ArgumentsFit is (classes_of heap) c.fields vs
      → Fair (IsMade is classes heap name) (placed heap (record { class = name; fields = matched c.fields vs }))
  made name c vs apart found args = by (nat_lt (length heap) most_objects)
    where
      new : Object
      new = record { class = name; fields = matched c.fields vs }

      by : (t : Truth) → Fair (IsMade is classes heap name) (must t heap_full >> Ok (value.Ref (length heap), heap ++ new ∷ []))
      by true = let g = grown_added heap new in record {
        object = object_fits is (classes_of (heap ++ new ∷ [])) name (length heap) apart (added_stands heap new);
        heap_fits = All-push (ObjectFits is classes (classes_of (heap ++ new ∷ []))) heap new (objects_more is (classes_of heap) (classes_of (heap ++ new ∷ [])) g classes heap h)
            (record { class = c; found = found; fields = fields_more is (classes_of heap) (classes_of (heap ++ new ∷ [])) g c.fields (matched c.fields vs) (matched_fields is (classes_of heap) c.fields vs args) });
        grown = g;
      }
      by false = plain_rule 5 (omega arith) (omega arith)

  pub constructed_fits : (name : List ℕ) (c : Class) (vs : List Value) → interface_named is name ≡ None → class_named classes name ≡ Some c → ArgumentsFit is (classes_of heap) c.fields vs
      → Fair (IsMade is classes heap name) (constructed classes heap name vs)
  constructed_fits name c vs apart found args =
      subst (λ o. Fair (IsMade is classes heap name) (known kind_fault o >>= (λ d. object_with name d.fields vs) >>= λ o'. placed heap o')) (sym found)
      (subst (λ t. Fair (IsMade is classes heap name) (must t kind_fault >> Ok (record { class = name; fields = matched c.fields vs }) >>= λ o'. placed heap o'))
      (sym (eq-eqb (length c.fields) (length vs) (arguments_count is (classes_of heap) c.fields vs args)))
      (made name c vs apart found args))

  -- fields

  own_field : (n : ℕ) (name : List ℕ) (c : Class) (field : List ℕ) (p : Param) → IsObject is classes heap n name c → field_named c.fields field ≡ Some p
      → SomeIs (Fits is (classes_of heap) (kind_of p.kind)) (field_value heap n field)
  own_field n name c field p o e = subst (λ found. SomeIs (Fits is (classes_of heap) (kind_of p.kind)) (option_and_then (λ q. lookup q.fields field) found)) (sym o.there)
      (field_there is (classes_of heap) c.fields o.object.fields field p o.fields e)

  pub field_fits : (v : Value-F Value) (name : List ℕ) (c : Class) (field : List ℕ) (p : Param) → IsObjectOf (classes_of heap) name v → class_named classes name ≡ Some c → field_named c.fields field ≡ Some p
      → Fair (Fits is (classes_of heap) (kind_of p.kind)) (field_of heap v field)
  field_fits (Value-F.Ref n) name c field p stands found e =
      known_fair (Fits is (classes_of heap) (kind_of p.kind)) kind_fault (field_value heap n field) (own_field n name c field p (object_is is classes heap n name c h stands found) e)
  field_fits Value-F.Unit name c field p stands found e = absurd stands
  field_fits _ name c field p stands found e = absurd stands

-- another object of the same class in a place
classes_set : (heap : List Object) (n : ℕ) (old new : Object) → slice_get heap n ≡ Some old → new.class ≡ old.class → classes_of (slice_set heap n new) ≡ classes_of heap
classes_set [] n old new e same = refl
classes_set (p ∷ heap) zero old new e same = let is : new.class ≡ p.class = cc (e, same) in ap (λ c. c ∷ classes_of heap) is
classes_set (p ∷ heap) (suc n) old new e same = ap (λ cs. p.class ∷ cs) (classes_set heap n old new e same)

-- what a field that is written gives
pub record IsWritten (is : List Interface) (classes : List Class) (heap new : List Object) : Type 0 where
  pub heap_fits : HeapFits is classes new
  pub same : classes_of new ≡ classes_of heap

module _ (is : List Interface) (classes : List Class) (heap : List Object) (h : HeapFits is classes heap) where
  set_fits : (n : ℕ) (name : List ℕ) (c : Class) (field : List ℕ) (p : Param) (x : Value) → IsObject is classes heap n name c → class_named classes name ≡ Some c → field_named c.fields field ≡ Some p
      → Fits is (classes_of heap) (kind_of p.kind) x → IsWritten is classes heap (with_field_value heap n field x)
  set_fits n name c field p x o found e fits =
      let new = with_field o.object field x in
      let same = classes_set heap n o.object new o.there refl in
      subst (λ there. IsWritten is classes heap (with_object heap n (option_with_field there field x))) (sym o.there)
      (record {
        heap_fits = subst (λ cs. All (ObjectFits is classes cs) (slice_set heap n new)) (sym same)
            (All-set (ObjectFits is classes (classes_of heap)) heap n new
            (record { class = c; found = ap (class_named classes) o.named ∙ found; fields = field_put is (classes_of heap) c.fields o.object.fields field p x o.fields e fits }) h);
        same = same;
      })

  written : (n : ℕ) (field : List ℕ) (x : Value) (P : Value → Type 0) (old : Option Value) → SomeIs P old → IsWritten is classes heap (with_field_value heap n field x)
      → Fair (IsWritten is classes heap) (known kind_fault old >>= λ w. Ok (with_field_value heap n field x))
  written n field x P (Some w) there h' = h'
  written n field x P None there h' = absurd there

  pub write_fits : (v : Value-F Value) (name : List ℕ) (c : Class) (field : List ℕ) (p : Param) (x : Value) → IsObjectOf (classes_of heap) name v → class_named classes name ≡ Some c → field_named c.fields field ≡ Some p
      → Fits is (classes_of heap) (kind_of p.kind) x → Fair (IsWritten is classes heap) (with_field_of heap v field x)
  write_fits (Value-F.Ref n) name c field p x stands found e fits =
      let o = object_is is classes heap n name c h stands found in
      written n field x (Fits is (classes_of heap) (kind_of p.kind)) (field_value heap n field) (own_field is classes heap h n name c field p o e) (set_fits n name c field p x o found e fits)
  write_fits Value-F.Unit name c field p x stands found e fits = absurd stands
  write_fits _ name c field p x stands found e fits = absurd stands

  -- the method that is called

  own_called : (n : ℕ) (name : List ℕ) (c : Class) (method : List ℕ) (m : Method) (count : ℕ) → IsObject is classes heap n name c → class_named classes name ≡ Some c → method_named c.methods method ≡ Some m
      → length m.signature.params ≡ count → Fair (λ m'. m' ≡ m) (own_method classes heap n method count)
  own_called n name c method m count o found e is_count =
      let of_object : method_of classes heap n method ≡ Some m =
      ap (option_and_then (λ q. method_of_class classes q.class method)) o.there
      ∙ ap (λ class. method_of_class classes class method) o.named
      ∙ ap (option_and_then (λ d. method_named d.methods method)) found
      ∙ e in
      subst (λ found'. Fair (λ m'. m' ≡ m) (known kind_fault found' >>= λ m'. must (nat_eq (length m'.signature.params) count) kind_fault >> Ok m')) (sym of_object)
      (subst (λ t. Fair (λ m'. m' ≡ m) (must t kind_fault >> Ok m)) (sym (eq-eqb (length m.signature.params) count is_count)) refl)

  pub called_fits : (v : Value-F Value) (name : List ℕ) (c : Class) (method : List ℕ) (m : Method) (count : ℕ) → IsObjectOf (classes_of heap) name v → class_named classes name ≡ Some c → method_named c.methods method ≡ Some m
      → length m.signature.params ≡ count → Fair (λ m'. m' ≡ m) (called_method classes heap v method count)
  called_fits (Value-F.Ref n) name c method m count stands found e is_count = own_called n name c method m count (object_is is classes heap n name c h stands found) found e is_count
  called_fits Value-F.Unit name c method m count stands found e is_count = absurd stands
  called_fits _ name c method m count stands found e is_count = absurd stands
