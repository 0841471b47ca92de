-- The table of a text without a refusal fits its service.
use Rattle.std.proofs.Common.{◌≡◌, ℕ, ℤ, ◌+◌, ◌<◌, ◌≤◌, suc, List, [], ◌∷◌, length, Bool, true, nat_le, Option, Some, None, Ok, refl, sym, ap, ◌∙◌, subst, slice_get, arith}
use Rattle.std.specs.Option.{is_some}
use Rattle.std.specs.Str.{bytes_eq}
use Rattle.std.specs.List.{All}
use Rattle.std.proofs.lemmas.Slice.Eq.{bytes_eq-Decides}
use Rattle.std.proofs.lemmas.Bool.Decides.{nat_tests}
use Rattle.std.proofs.lemmas.List.Elements.{All-nil, All-cons, All-tail}
use Rattle.rb_trees.specs.Limits.{longest_list}
use Rattle.rb_trees.specs.Outcome.{must}
use Rattle.rb_trees.specs.declared.values.Value.{Value}
use Rattle.rb_trees.specs.declared.values.Value.TheOpen.{Value-F}
use Rattle.rb_trees.specs.declared.values.Value.TheVariants as value
use Rattle.rb_trees.specs.declared.values.Value.TheViews.{out-Value, out-roll-Value}
use Rattle.rb_trees.specs.mirror.Declarations.{Param}
use Rattle.rb_trees.specs.mirror.Services.{Literal, Literals, Int, Bool as Truth, Text, Object as Reference, Items, NoLiterals, MoreLiterals, ObjectText, ServiceText}
use Rattle.rb_meaning_types.specs.Kinds as kind
use Rattle.rb_meaning_types.specs.Kinds.{Kind, kind_of}
use Rattle.rb_meaning_types.specs.Fits.{classes_of, IsIntValue, IsBoolValue, IsTextValue, IsObjectOf, AreItems, Fits, FieldsFit, ObjectFits, TableFits}
use Rattle.rb_meaning_types.specs.Lawful.{literal_count, IsLawfulLiteral, AreLawfulLiterals, IsLawfulGiven, IsLawfulObject, IsLawfulServiceText}
use Rattle.rb_meaning_types.specs.Stores.{FieldKind, BadReference, class_written, may_be_of, all_literals, is_of_kind, is_int_literal, is_bool_literal, is_text_literal, is_reference_to, are_items, refers_well, all_refer_well, check_literal, check_literals, check_table, has_fields, value_of, values_of, fields_of, object_of, table_of}
use Rattle.rb_store.proofs.Numbered.{passed, held, both, AllPass, all_pass, classes_written, at_place, root_within}

out_Int : (number : ℤ) → out-Value (value.Int number) ≡ Value-F.Int number
out_Int number = ap out-Value (sym (value.rolls-Int number)) ∙ out-roll-Value (Value-F.Int number)

out_Bool : (truth : Bool) → out-Value (value.Bool truth) ≡ Value-F.Bool truth
out_Bool truth = ap out-Value (sym (value.rolls-Bool truth)) ∙ out-roll-Value (Value-F.Bool truth)

out_Text : (text : List ℕ) → out-Value (value.Text text) ≡ Value-F.Text text
out_Text text = ap out-Value (sym (value.rolls-Text text)) ∙ out-roll-Value (Value-F.Text text)

out_Ref : (object : ℕ) → out-Value (value.Ref object) ≡ Value-F.Ref object
out_Ref object = ap out-Value (sym (value.rolls-Ref object)) ∙ out-roll-Value (Value-F.Ref object)

out_List : (items : List Value) → out-Value (value.List items) ≡ Value-F.List items
out_List items = ap out-Value (sym (value.rolls-List items)) ∙ out-roll-Value (Value-F.List items)

as_many : (ls : Literals) → length (values_of ls) ≡ literal_count ls
as_many NoLiterals = refl
as_many (MoreLiterals l ls) = ap suc (as_many ls)

int_fits : (l : Literal) → is_int_literal l ≡ true → IsLawfulLiteral l → IsIntValue (out-Value (value_of l))
int_fits (Int number) e lawful = subst IsIntValue (sym (out_Int number)) lawful
int_fits (Truth truth) e lawful = cc
int_fits (Text text) e lawful = cc
int_fits (Reference number) e lawful = cc
int_fits (Items items) e lawful = cc

bool_fits : (l : Literal) → is_bool_literal l ≡ true → IsBoolValue (out-Value (value_of l))
bool_fits (Int number) e = cc
bool_fits (Truth truth) e = subst IsBoolValue (sym (out_Bool truth)) tt
bool_fits (Text text) e = cc
bool_fits (Reference number) e = cc
bool_fits (Items items) e = cc

text_fits : (l : Literal) → is_text_literal l ≡ true → IsLawfulLiteral l → IsTextValue (out-Value (value_of l))
text_fits (Int number) e lawful = cc
text_fits (Truth truth) e lawful = cc
text_fits (Text text) e lawful = subst IsTextValue (sym (out_Text text)) lawful
text_fits (Reference number) e lawful = cc
text_fits (Items items) e lawful = cc

of_class : (class : List ℕ) (o : Option (List ℕ)) → may_be_of class o ≡ true → is_some o ≡ true → o ≡ Some class
of_class class None e there = cc
of_class class (Some written) e there = ap Some ((bytes_eq-Decides written class).0 e)

-- the objects of a text, where the first of each number stands at that place
module _ (objects : List ObjectText) (classes : List (List ℕ)) (placed : (number : ℕ) (class : List ℕ) → class_written objects number ≡ Some class → slice_get classes number ≡ Some class) where
  reference_fits : (class : List ℕ) (l : Literal) → is_reference_to objects class l ≡ true → refers_well objects l ≡ true → IsObjectOf classes class (out-Value (value_of l))
  reference_fits class (Int number) e there = cc
  reference_fits class (Truth truth) e there = cc
  reference_fits class (Text text) e there = cc
  reference_fits class (Reference number) e there =
      subst (IsObjectOf classes class) (sym (out_Ref number)) (placed number class (of_class class (class_written objects number) e there))
  reference_fits class (Items items) e there = cc

  -- what is known of a literal, and that its value fits
  abbrev Goes : Kind → Literal → Type 0
  Goes k l = is_of_kind objects k l ≡ true → refers_well objects l ≡ true → IsLawfulLiteral l → Fits [] classes k (value_of l)

  all_fit : (k : Kind) → ((l : Literal) → Goes k l) → (ls : Literals) → all_literals (is_of_kind objects k) ls ≡ true → all_refer_well objects ls ≡ true → AreLawfulLiterals ls
      → All (Fits [] classes k) (values_of ls)
  all_fit k one NoLiterals e there lawful = All-nil (Fits [] classes k)
  all_fit k one (MoreLiterals l ls) e there lawful =
      let kinds = both (is_of_kind objects k l) (all_literals (is_of_kind objects k) ls) e in
      let refers = both (refers_well objects l) (all_refer_well objects ls) there in
      All-cons (Fits [] classes k) (value_of l) (values_of ls) (one l kinds.0 refers.0 lawful.0) (all_fit k one ls kinds.1 refers.1 lawful.1)

  short : (n : ℕ) (ls : Literals) → nat_le (literal_count ls) n ≡ true → length (values_of ls) ≤ n
  short n ls e = let many = as_many ls in let few : literal_count ls ≤ n = grind (arith, nat_tests) in omega arith

  items_fit : (k : Kind) → ((l : Literal) → Goes k l) → (l : Literal) → are_items (is_of_kind objects k) l ≡ true → refers_well objects l ≡ true → IsLawfulLiteral l
      → AreItems (Fits [] classes k) (out-Value (value_of l))
  items_fit k one (Int number) e there lawful = cc
  items_fit k one (Truth truth) e there lawful = cc
  items_fit k one (Text text) e there lawful = cc
  items_fit k one (Reference number) e there lawful = cc
  items_fit k one (Items items) e there lawful =
      let parts = both (nat_le (literal_count items) longest_list) (all_literals (is_of_kind objects k) items) e in
      subst (AreItems (Fits [] classes k)) (sym (out_List (values_of items))) (short longest_list items parts.0, all_fit k one items parts.1 there lawful.0)

  literal_fits : (k : Kind) (l : Literal) → Goes k l
  literal_fits kind.Int l e there lawful = int_fits l e lawful
  literal_fits kind.Bool l e there lawful = bool_fits l e
  literal_fits kind.Text l e there lawful = text_fits l e lawful
  literal_fits kind.Unit l e there lawful = cc
  literal_fits (kind.Named class) l e there lawful = reference_fits class l e there
  literal_fits (kind.ListOf item) l e there lawful = items_fit item (literal_fits item) l e there lawful
  literal_fits (kind.RowsOf row) l e there lawful = cc

  fields_fit : (n : ℕ) (ps : List Param) (fs : List (List ℕ × Literal)) → has_fields ps fs ≡ true → check_literals objects n ps fs ≡ Ok tt → All IsLawfulGiven fs
      → FieldsFit [] classes ps (fields_of fs)
  fields_fit n [] [] named e lawful = tt
  fields_fit n [] (f ∷ fs) named e lawful = cc
  fields_fit n (p ∷ ps) [] named e lawful = cc
  fields_fit n (p ∷ ps) (f ∷ fs) named e lawful =
      let names = both (bytes_eq p.name f.0) (has_fields ps fs) named in
      let parts = passed (check_literal objects n (kind_of p.kind) f.1) (check_literals objects n ps fs) tt e in
      let first = passed (must (is_of_kind objects (kind_of p.kind) f.1) (FieldKind n)) (must (refers_well objects f.1) (BadReference n)) tt parts.0 in
      let good : IsLawfulGiven f = lawful 0 f (omega arith) in (
        (bytes_eq-Decides p.name f.0).0 names.0,
        literal_fits (kind_of p.kind) f.1 (held (is_of_kind objects (kind_of p.kind) f.1) (FieldKind n) first.0) (held (refers_well objects f.1) (BadReference n) first.1) good.1,
        fields_fit n ps fs names.1 parts.1 (All-tail IsLawfulGiven f fs lawful),
      )

objects_fit : (t : ServiceText) (classes : List (List ℕ)) → ((number : ℕ) (class : List ℕ) → class_written t.objects number ≡ Some class → slice_get classes number ≡ Some class)
    → (n : ℕ) (os : List ObjectText) → AllPass t n os → All IsLawfulObject os → All (ObjectFits [] t.classes classes) (table_of os)
objects_fit t classes placed n [] all lawful = All-nil (ObjectFits [] t.classes classes)
objects_fit t classes placed n (o ∷ os) all lawful =
    let good : IsLawfulObject o = lawful 0 o (omega arith) in
    All-cons (ObjectFits [] t.classes classes) (object_of o) (table_of os)
    (record { class = all.0.class; found = all.0.found; fields = fields_fit t.objects classes placed n all.0.class.fields o.fields all.0.named all.0.literals good.1 })
    (objects_fit t classes placed (n + 1) os all.1 (All-tail IsLawfulObject o os lawful))

classes_same : (os : List ObjectText) → classes_of (table_of os) ≡ classes_written os
classes_same [] = refl
classes_same (o ∷ os) = ap (λ cs. o.class ∷ cs) (classes_same os)

length_same : (os : List ObjectText) → length (table_of os) ≡ length os
length_same [] = refl
length_same (o ∷ os) = ap suc (length_same os)

pub table_fits : (t : ServiceText) → IsLawfulServiceText t → check_table t ≡ Ok tt → TableFits t.classes t.root (table_of t.objects)
table_fits t lawful e = record {
  heap_fits = objects_fit t (classes_of (table_of t.objects))
      (λ number class is. subst (λ cs. slice_get cs number ≡ Some class) (sym (classes_same t.objects)) (at_place t e number class is))
      0 t.objects (all_pass t e) lawful.objects;
  root_is = subst (λ n. t.root < n) (sym (length_same t.objects)) (root_within t e);
}
