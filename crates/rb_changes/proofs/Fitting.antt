-- A table that fits a service fits it after changes, too.
use Rattle.std.proofs.Common.{◌≡◌, refl, sym, ap, subst, ℕ, zero, suc, List, [], ◌∷◌, arith, Bool as Truth, true, false, cond, All, Option, Some, None, option_map, option_and_then, slice_get, slice_set, length-set}
use Rattle.std.specs.Str.{bytes_eq}
use Rattle.std.proofs.lemmas.List.Elements.{All-head, All-tail, All-set}
use Rattle.rb_trees.specs.Named.{first_named, lookup, replaced}
use Rattle.rb_trees.specs.Objects.{with_field, with_object, option_with_field}
use Rattle.rb_trees.specs.declared.services.Change.{Change}
use Rattle.rb_trees.specs.declared.services.Object.{Object}
use Rattle.rb_trees.specs.declared.values.Value.{Value, out-Value}
use Rattle.rb_trees.specs.declared.values.Value.TheOpen.{Value-F}
use Rattle.rb_trees.specs.mirror.Declarations.{Interface, Class, Param}
use Rattle.rb_meaning_types.specs.Kinds as kind
use Rattle.rb_meaning_types.specs.Kinds.{Kind, kind_of}
use Rattle.rb_meaning_types.specs.Names.{interface_named}
use Rattle.rb_meaning_types.specs.Fits.{classes_of, IsIntValue, IsBoolValue, IsTextValue, IsUnitValue, IsObjectOf, IsRemoteValue, AreItems, AreRows, FitsNamed, Fits, FieldsFit, ObjectFits, TableFits}
use Rattle.rb_meaning.specs.Changes.{are_alike, changed_from, changed, IsBounded}
use Rattle.rb_changes.specs.Laws.{ChangesKeepFitting}

-- a value that is like another one fits whatever type that one fits

ints : (old new : Value-F Value) → are_alike old new ≡ true → IsBounded new → IsIntValue old → IsIntValue new
ints (Value-F.Int a) (Value-F.Int b) e h fits = h
ints (Value-F.Int a) _ e h fits = absurd (cc (e))
ints _ new e h fits = absurd fits

bools : (old new : Value-F Value) → are_alike old new ≡ true → IsBoolValue old → IsBoolValue new
bools (Value-F.Bool a) (Value-F.Bool b) e fits = tt
bools (Value-F.Bool a) _ e fits = absurd (cc (e))
bools _ new e fits = absurd fits

texts : (old new : Value-F Value) → are_alike old new ≡ true → IsBounded new → IsTextValue old → IsTextValue new
texts (Value-F.Text a) (Value-F.Text b) e h fits = h
texts (Value-F.Text a) _ e h fits = absurd (cc (e))
texts _ new e h fits = absurd fits

no_object : (cs : List (List ℕ)) (name : List ℕ) (old new : Value-F Value) → are_alike old new ≡ true → IsObjectOf cs name old → IsObjectOf cs name new
no_object cs name (Value-F.Ref n) new e fits = absurd (cc (e))
no_object cs name _ new e fits = absurd fits

no_remote : (old new : Value-F Value) → are_alike old new ≡ true → IsRemoteValue old → IsRemoteValue new
no_remote (Value-F.Remote n) new e fits = absurd (cc (e))
no_remote _ new e fits = absurd fits

no_unit : (old new : Value-F Value) → are_alike old new ≡ true → IsUnitValue old → IsUnitValue new
no_unit Value-F.Unit new e fits = absurd (cc (e))
no_unit _ new e fits = absurd fits

no_items : (P : Value → Type 0) (old new : Value-F Value) → are_alike old new ≡ true → AreItems P old → AreItems P new
no_items P (Value-F.List items) new e fits = absurd (cc (e))
no_items P _ new e fits = absurd fits

no_rows : (P : Value → Type 0) (old new : Value-F Value) → are_alike old new ≡ true → AreRows P old → AreRows P new
no_rows P (Value-F.Rows rows) new e fits = absurd (cc (e))
no_rows P _ new e fits = absurd fits

named : (found : Option Interface) (cs : List (List ℕ)) (name : List ℕ) (old new : Value-F Value) → are_alike old new ≡ true → FitsNamed found cs name old → FitsNamed found cs name new
named None cs name old new e fits = no_object cs name old new e fits
named (Some i) cs name old new e fits = no_remote old new e fits

-- an old value and a new one of a field that is changed
record Alike (old new : Value) : Type 0 where
  alike : are_alike (out-Value old) (out-Value new) ≡ true
  bounded : IsBounded (out-Value new)

module _ (is : List Interface) (cs : List (List ℕ)) where
  like : (k : Kind) (old new : Value) → Alike old new → Fits is cs k old → Fits is cs k new
  like kind.Int old new h fits = ints (out-Value old) (out-Value new) h.alike h.bounded fits
  like kind.Bool old new h fits = bools (out-Value old) (out-Value new) h.alike fits
  like kind.Text old new h fits = texts (out-Value old) (out-Value new) h.alike h.bounded fits
  like kind.Unit old new h fits = no_unit (out-Value old) (out-Value new) h.alike fits
  like (kind.Named name) old new h fits = named (interface_named is name) cs name (out-Value old) (out-Value new) h.alike fits
  like (kind.ListOf item) old new h fits = no_items (Fits is cs item) (out-Value old) (out-Value new) h.alike fits
  like (kind.RowsOf row) old new h fits = no_rows (Fits is cs row) (out-Value old) (out-Value new) h.alike fits

  -- so do fields of which one has such a value
  put : (ps : List Param) (fs : List (List ℕ × Value)) (name : List ℕ) (old new : Value) → lookup fs name ≡ Some old → Alike old new → FieldsFit is cs ps fs → FieldsFit is cs ps (replaced fs name new)
  put [] [] name old new e h fits = tt
  put [] (f ∷ fs) name old new e h fits = absurd fits
  put (p ∷ ps) [] name old new e h fits = absurd fits
  put (p ∷ ps) (f ∷ fs) name old new e h fits = by (bytes_eq f.0 name) e (λ e'. put ps fs name old new e' h fits.2)
    where
      by : (t : Truth) → option_map (λ n. n.1) (cond t (Some f) (first_named (λ n. n.0) fs name)) ≡ Some old → (lookup fs name ≡ Some old → FieldsFit is cs ps (replaced fs name new))
          → FieldsFit is cs (p ∷ ps) (cond t ((f.0, new) ∷ fs) (f ∷ replaced fs name new))
      by true e' more = let same : old ≡ f.1 = cc (e') in (fits.0, like (kind_of p.kind) f.1 new (subst (λ v. Alike v new) same h) fits.1, fits.2)
      by false e' more = (fits.0, fits.1, more e')

-- an object in place of one of the same class

got_fits : {A : Type 0} (P : A → Type 0) (xs : List A) (n : ℕ) (a : A) → slice_get xs n ≡ Some a → All P xs → P a
got_fits P [] n a e h = absurd (cc (e))
got_fits P (y ∷ ys) zero a e h = let same : y ≡ a = cc (e) in subst P same (All-head P y ys h)
got_fits P (y ∷ ys) (suc n) a e h = got_fits P ys n a e (All-tail P y ys h)

classes_set : (heap : List Object) (n : ℕ) (old new : Object) → slice_get heap n ≡ Some old → new.class ≡ old.class → classes_of (slice_set heap n new) ≡ classes_of heap
classes_set [] n old new e same = refl
classes_set (p ∷ heap) zero old new e same = let is : new.class ≡ p.class = cc (e, same) in ap (λ c. c ∷ classes_of heap) is
classes_set (p ∷ heap) (suc n) old new e same = ap (λ cs. p.class ∷ cs) (classes_set heap n old new e same)

module _ (classes : List Class) (root : ℕ) (table : List Object) (fits : TableFits classes root table) (c : Change) (bounded : IsBounded (out-Value c.value)) where
  write : (o : Object) (old : Value) → slice_get table c.object ≡ Some o → lookup o.fields c.field ≡ Some old → are_alike (out-Value old) (out-Value c.value) ≡ true
      → TableFits classes root (slice_set table c.object (with_field o c.field c.value))
  write o old there found alike =
      let new = with_field o c.field c.value in
      let object = got_fits (ObjectFits [] classes (classes_of table)) table c.object o there fits.heap_fits in
      let same = classes_set table c.object o new there refl in
      record {
        heap_fits = subst (λ cs. All (ObjectFits [] classes cs) (slice_set table c.object new)) (sym same)
            (All-set (ObjectFits [] classes (classes_of table)) table c.object new
            (record {
              class = object.class;
              found = object.found;
              fields = put [] (classes_of table) object.class.fields o.fields c.field old c.value found (record { alike = alike; bounded = bounded }) object.fields;
            }) fits.heap_fits);
        root_is = omega (arith, length-set {A = Object}, fits.root_is);
      }

  taken : (t : Truth) (o : Object) (old : Value) → slice_get table c.object ≡ Some o → lookup o.fields c.field ≡ Some old → are_alike (out-Value old) (out-Value c.value) ≡ t
      → TableFits classes root (cond t (slice_set table c.object (with_field o c.field c.value)) table)
  taken true o old there found e = write o old there found e
  taken false o old there found e = fits

  by_field : (o : Object) (old : Option Value) → slice_get table c.object ≡ Some o → lookup o.fields c.field ≡ old → TableFits classes root (changed_from old c table)
  by_field o None there found = fits
  by_field o (Some old) there found =
      let alike = are_alike (out-Value old) (out-Value c.value) in
      subst (λ q. TableFits classes root (cond alike (with_object table c.object (option_with_field q c.field c.value)) table)) (sym there)
      (taken alike o old there found refl)

  by_object : (q : Option Object) → slice_get table c.object ≡ q → TableFits classes root (changed_from (option_and_then (λ o. lookup o.fields c.field) q) c table)
  by_object None there = fits
  by_object (Some o) there = by_field o (lookup o.fields c.field) there refl

  keep : TableFits classes root (changed c table)
  keep = by_object (slice_get table c.object) refl

pub all_keep : ChangesKeepFitting
all_keep classes root [] bounded table fits = fits
all_keep classes root (c ∷ cs) bounded table fits = all_keep classes root cs bounded.1 (changed c table) (keep classes root table fits c bounded.0)
