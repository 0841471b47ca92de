-- Values of the kind of a type fit the type.
use Rattle.std.proofs.Common.{◌≡◌, refl, subst, ℕ, ◌+◌, List, [], true, Option, Some, None}
use Rattle.std.specs.Option.{is_some}
use Rattle.std.proofs.lemmas.List.Elements.{All-weaker}
use Rattle.rb_trees.specs.declared.values.Value.{Value}
use Rattle.rb_trees.specs.declared.values.Value.TheOpen.{Value-F}
use Rattle.rb_trees.specs.declared.values.Value.TheViews.{out-Value}
use Rattle.rb_trees.specs.mirror.Declarations.{Interface}
use Rattle.rb_meaning_types.specs.Kinds as type
use Rattle.rb_meaning_types.specs.Names.{interface_named}
use Rattle.rb_meaning_types.specs.Fits.{IsIntValue, IsBoolValue, IsTextValue, IsUnitValue, IsRemoteValue, AreRows, FitsNamed, Fits}
use Rattle.rb_meaning_code.specs.Remote.{Item, AnInt, ABool, AText, AnObject, Kind, Nothing, One, Rows, kind_of}
use Rattle.rb_meaning_types.specs.CallKinds.{item_number, kind_number}
use Rattle.rb_law_types.specs.Own.{IsFarItem, IsFarKind}
use Rattle.rb_law_types.specs.Remote.{IsItemForm, AreRowsForm, IsNothingForm, IsKindForm, IsOfKind}

int_item : (n : ℕ) (w : Value-F Value) → IsItemForm n AnInt w → IsIntValue w
int_item n (Value-F.Int number) h = h
int_item n Value-F.Unit h = absurd h
int_item n _ h = absurd h

bool_item : (n : ℕ) (w : Value-F Value) → IsItemForm n ABool w → IsBoolValue w
bool_item n (Value-F.Bool truth) h = tt
bool_item n Value-F.Unit h = absurd h
bool_item n _ h = absurd h

text_item : (n : ℕ) (w : Value-F Value) → IsItemForm n AText w → IsTextValue w
text_item n (Value-F.Text text) h = h
text_item n Value-F.Unit h = absurd h
text_item n _ h = absurd h

object_item : (n : ℕ) (w : Value-F Value) → IsItemForm n AnObject w → IsRemoteValue w
object_item n (Value-F.Remote object) h = tt
object_item n Value-F.Unit h = absurd h
object_item n _ h = absurd h

unit_item : (w : Value-F Value) → IsNothingForm w → IsUnitValue w
unit_item Value-F.Unit h = tt
unit_item (Value-F.Int n) h = absurd h
unit_item _ h = absurd h

named_fits : (o : Option Interface) (name : List ℕ) (w : Value-F Value) → is_some o ≡ true → IsRemoteValue w → FitsNamed o [] name w
named_fits (Some i) name w e h = h
named_fits None name w e h = absurd (cc (e))

abbrev item_of : type.Kind → Item
item_of type.Int = AnInt
item_of type.Bool = ABool
item_of type.Text = AText
item_of type.Unit = AnObject
item_of (type.Named name) = AnObject
item_of (type.ListOf item) = AnObject
item_of (type.RowsOf row) = AnObject

item_fits : (is : List Interface) (k : type.Kind) (n : ℕ) (v : Value) → IsFarItem is k → IsItemForm n (item_of k) (out-Value v) → Fits is [] k v
item_fits is type.Int n v far h = int_item n (out-Value v) h
item_fits is type.Bool n v far h = bool_item n (out-Value v) h
item_fits is type.Text n v far h = text_item n (out-Value v) h
item_fits is type.Unit n v far h = absurd far
item_fits is (type.Named name) n v far h = named_fits (interface_named is name) name (out-Value v) far (object_item n (out-Value v) h)
item_fits is (type.ListOf item) n v far h = absurd far
item_fits is (type.RowsOf row) n v far h = absurd far

rows_fit : (is : List Interface) (k : type.Kind) (n : ℕ) (w : Value-F Value) → IsFarItem is k → AreRowsForm n (item_of k) w → AreRows (Fits is [] k) w
rows_fit is k n (Value-F.Rows rows) far h = All-weaker (λ v. IsItemForm n (item_of k) (out-Value v)) (Fits is [] k) (λ v m. item_fits is k n v far m) rows h.1
rows_fit is k n Value-F.Unit far h = absurd h
rows_fit is k n _ far h = absurd h

rows_number : (is : List Interface) (k : type.Kind) → IsFarItem is k → kind_of (item_number k + 4) ≡ Some (Rows (item_of k))
rows_number is type.Int far = refl
rows_number is type.Bool far = refl
rows_number is type.Text far = refl
rows_number is type.Unit far = absurd far
rows_number is (type.Named name) far = refl
rows_number is (type.ListOf item) far = absurd far
rows_number is (type.RowsOf row) far = absurd far

-- what is of a number's kind is of the kind that the number has
of_number : (number n : ℕ) (v : Value) (k : Kind) → kind_of number ≡ Some k → IsOfKind number n v → IsKindForm n k (out-Value v)
of_number number n v k e h = let same : h.0 ≡ k = cc (h.1, e) in subst (λ m. IsKindForm n m (out-Value v)) same h.2

pub kind_fits : (is : List Interface) (k : type.Kind) (n : ℕ) (v : Value) → IsFarKind is k → IsOfKind (kind_number k) n v → Fits is [] k v
kind_fits is type.Int n v far h = int_item n (out-Value v) (of_number 1 n v (One AnInt) refl h)
kind_fits is type.Bool n v far h = bool_item n (out-Value v) (of_number 2 n v (One ABool) refl h)
kind_fits is type.Text n v far h = text_item n (out-Value v) (of_number 3 n v (One AText) refl h)
kind_fits is type.Unit n v far h = unit_item (out-Value v) (of_number 0 n v Nothing refl h)
kind_fits is (type.Named name) n v far h = named_fits (interface_named is name) name (out-Value v) far (object_item n (out-Value v) (of_number 4 n v (One AnObject) refl h))
kind_fits is (type.ListOf item) n v far h = absurd far
kind_fits is (type.RowsOf row) n v far h = rows_fit is row n (out-Value v) far (of_number (item_number row + 4) n v (Rows (item_of row)) (rows_number is row far) h)
