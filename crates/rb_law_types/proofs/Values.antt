-- How values, fields and names fit: what they open to, and that they fit grown heaps.
use Rattle.std.proofs.Common.{◌≡◌, refl, sym, ap, ◌∙◌, subst, ℕ, ℤ, suc, List, [], ◌∷◌, ◌++◌, length, take, arith, Bool, All, Option, Some, None, slice_get}
use Rattle.std.proofs.lemmas.List.Elements.{All-weaker}
use Rattle.rb_trees.specs.declared.values.Value.{Value}
use Rattle.rb_trees.specs.declared.values.Value.TheOpen.{Value-F}
use Rattle.rb_trees.specs.declared.values.Value.TheVariants as value
use Rattle.rb_trees.specs.declared.values.Value.TheViews.{out-Value, out-roll-Value}
use Rattle.rb_trees.specs.declared.services.Object.{Object}
use Rattle.rb_trees.specs.mirror.Declarations.{Param, Interface, Class}
use Rattle.rb_meaning_types.specs.Kinds as kind
use Rattle.rb_meaning_types.specs.Kinds.{Kind, kind_of}
use Rattle.rb_meaning_types.specs.Names.{interface_named}
use Rattle.rb_meaning_types.specs.Values.{IsInt, IsText, IsList}
use Rattle.rb_meaning_types.specs.Scopes.{Scope, Variable}
use Rattle.rb_meaning_types.specs.Fits.{IsIntValue, IsBoolValue, IsTextValue, IsUnitValue, IsObjectOf, AreItems, AreRows, FitsNamed, Fits, FieldsFit, ObjectFits, Frame, frame_scope, NamesFit}
use Rattle.rb_law_types.specs.Ends.{Grown}

-- values, opened

pub unit_out : out-Value value.Unit ≡ Value-F.Unit
unit_out = ap out-Value (sym value.rolls-Unit) ∙ out-roll-Value Value-F.Unit

pub int_out : (number : ℤ) → out-Value (value.Int number) ≡ Value-F.Int number
int_out number = ap out-Value (sym (value.rolls-Int number)) ∙ out-roll-Value (Value-F.Int number)

pub bool_out : (truth : Bool) → out-Value (value.Bool truth) ≡ Value-F.Bool truth
bool_out truth = ap out-Value (sym (value.rolls-Bool truth)) ∙ out-roll-Value (Value-F.Bool truth)

pub text_out : (text : List ℕ) → out-Value (value.Text text) ≡ Value-F.Text text
text_out text = ap out-Value (sym (value.rolls-Text text)) ∙ out-roll-Value (Value-F.Text text)

pub list_out : (items : List Value) → out-Value (value.List items) ≡ Value-F.List items
list_out items = ap out-Value (sym (value.rolls-List items)) ∙ out-roll-Value (Value-F.List items)

pub ref_out : (object : ℕ) → out-Value (value.Ref object) ≡ Value-F.Ref object
ref_out object = ap out-Value (sym (value.rolls-Ref object)) ∙ out-roll-Value (Value-F.Ref object)

-- values of each type

module _ (is : List Interface) (cs : List (List ℕ)) where
  pub unit_fits : Fits is cs kind.Unit value.Unit
  unit_fits = subst IsUnitValue (sym unit_out) tt

  pub int_fits : (number : ℤ) → IsInt number → Fits is cs kind.Int (value.Int number)
  int_fits number h = subst IsIntValue (sym (int_out number)) h

  pub bool_fits : (truth : Bool) → Fits is cs kind.Bool (value.Bool truth)
  bool_fits truth = subst IsBoolValue (sym (bool_out truth)) tt

  pub text_fits : (text : List ℕ) → IsText text → Fits is cs kind.Text (value.Text text)
  text_fits text h = subst IsTextValue (sym (text_out text)) h

  pub list_fits : (item : Kind) (items : List Value) → IsList items → All (Fits is cs item) items → Fits is cs (kind.ListOf item) (value.List items)
  list_fits item items short each = subst (AreItems (Fits is cs item)) (sym (list_out items)) (short, each)

  pub object_fits : (name : List ℕ) (object : ℕ) → interface_named is name ≡ None → slice_get cs object ≡ Some name → Fits is cs (kind.Named name) (value.Ref object)
  object_fits name object own stands = subst (λ o. FitsNamed o cs name (out-Value (value.Ref object))) (sym own) (subst (IsObjectOf cs name) (sym (ref_out object)) stands)

  -- a value of a class's type
  pub of_class : (name : List ℕ) (v : Value) → interface_named is name ≡ None → Fits is cs (kind.Named name) v → IsObjectOf cs name (out-Value v)
  of_class name v own fits = subst (λ o. FitsNamed o cs name (out-Value v)) own fits

-- grown heaps

pub grown_same : (cs : List (List ℕ)) → Grown cs cs
grown_same cs object class h = h

pub grown_on : (a b c : List (List ℕ)) → Grown a b → Grown b c → Grown a c
grown_on a b c g h object class e = h object class (g object class e)

module _ (is : List Interface) (cs more : List (List ℕ)) (g : Grown cs more) where
  object_more : (name : List ℕ) (v : Value-F Value) → IsObjectOf cs name v → IsObjectOf more name v
  object_more name (Value-F.Ref object) h = g object name h
  object_more name Value-F.Unit h = absurd h
  object_more name _ h = absurd h

  named_more : (o : Option Interface) (name : List ℕ) (v : Value-F Value) → FitsNamed o cs name v → FitsNamed o more name v
  named_more (Some i) name v h = h
  named_more None name v h = object_more name v h

  items_more : (P Q : Value → Type 0) → ((v : Value) → P v → Q v) → (v : Value-F Value) → AreItems P v → AreItems Q v
  items_more P Q f (Value-F.List items) h = (h.0, All-weaker P Q f items h.1)
  items_more P Q f Value-F.Unit h = absurd h
  items_more P Q f _ h = absurd h

  rows_more : (P Q : Value → Type 0) → ((v : Value) → P v → Q v) → (v : Value-F Value) → AreRows P v → AreRows Q v
  rows_more P Q f (Value-F.Rows rows) h = All-weaker P Q f rows h
  rows_more P Q f Value-F.Unit h = absurd h
  rows_more P Q f _ h = absurd h

  pub fits_more : (k : Kind) (v : Value) → Fits is cs k v → Fits is more k v
  fits_more kind.Int v h = h
  fits_more kind.Bool v h = h
  fits_more kind.Text v h = h
  fits_more kind.Unit v h = h
  fits_more (kind.Named name) v h = named_more (interface_named is name) name (out-Value v) h
  fits_more (kind.ListOf item) v h = items_more (Fits is cs item) (Fits is more item) (fits_more item) (out-Value v) h
  fits_more (kind.RowsOf row) v h = rows_more (Fits is cs row) (Fits is more row) (fits_more row) (out-Value v) h

  pub all_more : (k : Kind) (vs : List Value) → All (Fits is cs k) vs → All (Fits is more k) vs
  all_more k vs h = All-weaker (Fits is cs k) (Fits is more k) (fits_more k) vs h

  pub names_more : (vs : Scope) (ns : Frame) → NamesFit is cs vs ns → NamesFit is more vs ns
  names_more [] ns h = tt
  names_more (v ∷ vs) [] h = absurd h
  names_more (v ∷ vs) (n ∷ ns) h = (h.0, fits_more v.kind n.1 h.1, names_more vs ns h.2)

  pub fields_more : (ps : List Param) (fs : List (List ℕ × Value)) → FieldsFit is cs ps fs → FieldsFit is more ps fs
  fields_more [] [] h = tt
  fields_more [] (f ∷ fs) h = absurd h
  fields_more (p ∷ ps) [] h = absurd h
  fields_more (p ∷ ps) (f ∷ fs) h = (h.0, fits_more (kind_of p.kind) f.1 h.1, fields_more ps fs h.2)

  pub objects_more : (declared : List Class) (heap : List Object) → All (ObjectFits is declared cs) heap → All (ObjectFits is declared more) heap
  objects_more declared heap h = All-weaker (ObjectFits is declared cs) (ObjectFits is declared more)
      (λ o f. record { class = f.class; found = f.found; fields = fields_more f.class.fields o.fields f.fields }) heap h

-- names

module _ (is : List Interface) (cs : List (List ℕ)) where
  less : (vs more : Scope) (ns : Frame) → NamesFit is cs (vs ++ more) ns → NamesFit is cs vs ns
  less [] more ns h = tt
  less (v ∷ vs) more [] h = absurd h
  less (v ∷ vs) more (n ∷ ns) h = (h.0, h.1, less vs more ns h.2)

  added : (vs : Scope) (ns : Frame) (v : Variable) (x : Value) → length vs ≡ length ns → NamesFit is cs vs ns → Fits is cs v.kind x → NamesFit is cs (vs ++ v ∷ []) (ns ++ (v.name, x) ∷ [])
  added [] [] v x e h fits = (refl, fits, tt)
  added [] (n ∷ ns) v x e h fits = absurd (omega (arith, e))
  added (w ∷ vs) [] v x e h fits = absurd h
  added (w ∷ vs) (n ∷ ns) v x e h fits = (h.0, h.1, added vs ns v x (omega (arith, e)) h.2 fits)

  pub names_take : (vs : Scope) (ns : Frame) → NamesFit is cs vs ns → NamesFit is cs vs (take (length vs) ns)
  names_take [] ns h = tt
  names_take (v ∷ vs) [] h = absurd h
  names_take (v ∷ vs) (n ∷ ns) h = (h.0, h.1, names_take vs ns h.2)

  pub names_count : (vs : Scope) (ns : Frame) → NamesFit is cs vs ns → length vs ≡ length (take (length vs) ns)
  names_count [] ns h = refl
  names_count (v ∷ vs) [] h = absurd h
  names_count (v ∷ vs) (n ∷ ns) h = ap suc (names_count vs ns h.2)

  -- in a frame, the same
  pub names_less : (this : Option (List ℕ)) (scope more : Scope) (ns : Frame) → NamesFit is cs (frame_scope this (scope ++ more)) ns → NamesFit is cs (frame_scope this scope) ns
  names_less None scope more ns h = less scope more ns h
  names_less (Some class) scope more [] h = absurd h
  names_less (Some class) scope more (n ∷ ns) h = (h.0, h.1, less scope more ns h.2)

  pub names_added : (this : Option (List ℕ)) (scope : Scope) (ns : Frame) (v : Variable) (x : Value) → length (frame_scope this scope) ≡ length ns → NamesFit is cs (frame_scope this scope) ns → Fits is cs v.kind x
      → NamesFit is cs (frame_scope this (scope ++ v ∷ [])) (ns ++ (v.name, x) ∷ [])
  names_added None scope ns v x e h fits = added scope ns v x e h fits
  names_added (Some class) scope [] v x e h fits = absurd h
  names_added (Some class) scope (n ∷ ns) v x e h fits = (h.0, h.1, added scope ns v x (omega (arith, e)) h.2 fits)

longer : {A B : Type 0} (xs : List A) (ys : List B) (x : A) (y : B) → length xs ≡ length ys → length (xs ++ x ∷ []) ≡ length (ys ++ y ∷ [])
longer [] [] x y e = refl
longer [] (b ∷ ys) x y e = absurd (omega (arith, e))
longer (a ∷ xs) [] x y e = absurd (omega (arith, e))
longer (a ∷ xs) (b ∷ ys) x y e = ap suc (longer xs ys x y (omega (arith, e)))

pub frame_longer : (this : Option (List ℕ)) (scope : Scope) (ns : Frame) (v : Variable) (n : List ℕ × Value) → length (frame_scope this scope) ≡ length ns → length (frame_scope this (scope ++ v ∷ [])) ≡ length (ns ++ n ∷ [])
frame_longer None scope ns v n e = longer scope ns v n e
frame_longer (Some class) scope [] v n e = absurd (omega (arith, e))
frame_longer (Some class) scope (m ∷ ns) v n e = ap suc (longer scope ns v n (omega (arith, e)))
