-- Kept values have the kind that is demanded, and the numbers of variables grow.
use Rattle.std.proofs.Common.{◌≡◌, ◌≤◌, ◌-◌, refl, arith, ℕ, suc, List, [], true, Option, Some, None}
use Rattle.rb_trees.specs.declared.values.Value.{Value}
use Rattle.rb_trees.specs.declared.values.Value.TheOpen.{Value-F}
use Rattle.rb_trees.specs.declared.values.Value.TheViews.{out-Value}
use Rattle.rb_trees.specs.mirror.Declarations.{Interface}
use Rattle.rb_meaning_types.specs.Kinds as kind
use Rattle.rb_meaning_types.specs.Kinds.{Kind}
use Rattle.rb_meaning_types.specs.Fits.{IsIntValue, IsBoolValue, IsTextValue, IsUnitValue, IsObjectOf, IsRemoteValue, AreItems, AreRows, FitsNamed, Fits}
use Rattle.rb_meaning_types.specs.Kinds.{is_primitive}
use Rattle.rb_meaning_types.specs.Names.{interface_named}
use Rattle.rb_meaning_flow.specs.declared.forms.PlacedForm.{PlacedForm}
use Rattle.rb_meaning_flow.specs.declared.scopes.Role.{Role}
use Rattle.rb_meaning_flow.specs.Facts.{Facts}
use Rattle.rb_meaning_flow.specs.Scopes.{Scope, with_variable}
use Rattle.rb_meaning_flow.specs.Forms.{placed_form}
use Rattle.rb_meaning_flow.specs.Sites.{scope_after}
use Rattle.rb_trees.specs.mirror.Code.{Stmt, Stmts, Val, If, For, NoStmts, MoreStmts}
use Rattle.rb_meaning_bytes.specs.Fits.{form_has_kind, is_kept}
use Rattle.rb_meaning_code.specs.ScriptRun.{is_primitive as primitive_form}
use Rattle.rb_meaning_types.specs.CallKinds.{item_number, kind_number}
use Rattle.rb_meaning_split.specs.Numbers.{var_after_as, var_after, vars_after}

-- ---- numbers of variables

module _ (x : Facts) where
  mutual
    var_grows : (form : PlacedForm) (scope : Scope) (s : Stmt) (m : ℕ) → m ≤ var_after_as x form scope s m
    var_grows PlacedForm.CarriedVal scope (Val at name e) m = omega arith
    var_grows PlacedForm.CarriedIf scope (If at c a b) m = omega (arith, vars_grow scope a m, vars_grow scope b (vars_after x scope a m))
    var_grows PlacedForm.RowsLoop scope (For at name e a) m = omega (arith, vars_grow (with_variable scope name Role.Row at) a (suc m))
    var_grows PlacedForm.CarriedLoop scope (For at name e a) m = omega (arith, vars_grow (with_variable scope name Role.Row at) a (suc m))
    var_grows form scope s m = omega arith

    pub vars_grow : (scope : Scope) (ss : Stmts) (m : ℕ) → m ≤ vars_after x scope ss m
    vars_grow scope NoStmts m = omega arith
    vars_grow scope (MoreStmts s ss) m = omega (arith, var_grows (placed_form x scope s) scope s m, vars_grow (scope_after x [] scope s) ss (var_after x scope s m))

-- ---- what is kept has the kind that is demanded

pub int_held : (w : Value-F Value) → IsIntValue w → form_has_kind 1 w ≡ true
int_held (Value-F.Int n) h = refl
int_held Value-F.Unit h = absurd h
int_held _ h = absurd h

pub bool_held : (w : Value-F Value) → IsBoolValue w → form_has_kind 2 w ≡ true
bool_held (Value-F.Bool b) h = refl
bool_held Value-F.Unit h = absurd h
bool_held _ h = absurd h

pub text_held : (w : Value-F Value) → IsTextValue w → form_has_kind 3 w ≡ true
text_held (Value-F.Text b) h = refl
text_held Value-F.Unit h = absurd h
text_held _ h = absurd h

-- a value of no primitive type isn't primitive
unit_far : (w : Value-F Value) → IsUnitValue w → primitive_form w ≡ true → ⊥
unit_far Value-F.Unit h e = cc e
unit_far (Value-F.Int n) h e = h
unit_far _ h e = h

remote_far : (w : Value-F Value) → IsRemoteValue w → primitive_form w ≡ true → ⊥
remote_far (Value-F.Remote n) h e = cc e
remote_far Value-F.Unit h e = h
remote_far _ h e = h

object_far : (cs : List (List ℕ)) (name : List ℕ) (w : Value-F Value) → IsObjectOf cs name w → primitive_form w ≡ true → ⊥
object_far cs name (Value-F.Ref n) h e = cc e
object_far cs name Value-F.Unit h e = h
object_far cs name _ h e = h

named_far : (o : Option Interface) (cs : List (List ℕ)) (name : List ℕ) (w : Value-F Value) → FitsNamed o cs name w → primitive_form w ≡ true → ⊥
named_far (Some i) cs name w h e = remote_far w h e
named_far None cs name w h e = object_far cs name w h e

items_far : (P : Value → Type 0) (w : Value-F Value) → AreItems P w → primitive_form w ≡ true → ⊥
items_far P (Value-F.List items) h e = cc e
items_far P Value-F.Unit h e = h
items_far P _ h e = h

rows_far : (P : Value → Type 0) (w : Value-F Value) → AreRows P w → primitive_form w ≡ true → ⊥
rows_far P (Value-F.Rows rows) h e = cc e
rows_far P Value-F.Unit h e = h
rows_far P _ h e = h

pub held : (is : List Interface) (k : Kind) (v : Value) → Fits is [] k v → primitive_form (out-Value v) ≡ true → form_has_kind (kind_number k) (out-Value v) ≡ true
held is kind.Int v h e = int_held (out-Value v) h
held is kind.Bool v h e = bool_held (out-Value v) h
held is kind.Text v h e = text_held (out-Value v) h
held is kind.Unit v h e = absurd (unit_far (out-Value v) h e)
held is (kind.Named name) v h e = absurd (named_far (interface_named is name) [] name (out-Value v) h e)
held is (kind.ListOf item) v h e = absurd (items_far (Fits is [] item) (out-Value v) h e)
held is (kind.RowsOf row) v h e = absurd (rows_far (Fits is [] row) (out-Value v) h e)

-- a value of a primitive type is primitive, and of its kind
int_is : (w : Value-F Value) → IsIntValue w → primitive_form w ≡ true
int_is (Value-F.Int n) h = refl
int_is Value-F.Unit h = absurd h
int_is _ h = absurd h

bool_is : (w : Value-F Value) → IsBoolValue w → primitive_form w ≡ true
bool_is (Value-F.Bool b) h = refl
bool_is Value-F.Unit h = absurd h
bool_is _ h = absurd h

text_is : (w : Value-F Value) → IsTextValue w → primitive_form w ≡ true
text_is (Value-F.Text b) h = refl
text_is Value-F.Unit h = absurd h
text_is _ h = absurd h

pub primitive_is : (is : List Interface) (k : Kind) (v : Value) → is_primitive k ≡ true → Fits is [] k v → primitive_form (out-Value v) ≡ true
primitive_is is kind.Int v e h = int_is (out-Value v) h
primitive_is is kind.Bool v e h = bool_is (out-Value v) h
primitive_is is kind.Text v e h = text_is (out-Value v) h
primitive_is is kind.Unit v e h = absurd (cc e)
primitive_is is _ v e h = absurd (cc e)

-- rows of a primitive type are kept, and no others
pub kept_rows : (k : Kind) → is_kept (kind_number (kind.RowsOf k) - 4) ≡ is_primitive k
kept_rows kind.Int = refl
kept_rows kind.Bool = refl
kept_rows kind.Text = refl
kept_rows kind.Unit = refl
kept_rows (kind.Named name) = refl
kept_rows (kind.ListOf item) = refl
kept_rows (kind.RowsOf row) = refl

pub row_number : (k : Kind) → kind_number (kind.RowsOf k) - 4 ≡ item_number k
row_number kind.Int = refl
row_number kind.Bool = refl
row_number kind.Text = refl
row_number kind.Unit = refl
row_number (kind.Named name) = refl
row_number (kind.ListOf item) = refl
row_number (kind.RowsOf row) = refl

pub item_held : (is : List Interface) (k : Kind) (v : Value) → is_primitive k ≡ true → Fits is [] k v → form_has_kind (item_number k) (out-Value v) ≡ true
item_held is kind.Int v e h = int_held (out-Value v) h
item_held is kind.Bool v e h = bool_held (out-Value v) h
item_held is kind.Text v e h = text_held (out-Value v) h
item_held is kind.Unit v e h = absurd (cc e)
item_held is _ v e h = absurd (cc e)
