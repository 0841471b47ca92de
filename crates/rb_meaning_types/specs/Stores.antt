-- Which texts of services have a table, and which: the first refusal of the others. Objects are looked at in order, each
-- by its number, its class, the names of its fields, and then its values from the left; the root comes last.
use Rattle.std.specs.Prelude.{ℕ, ◌+◌, List, [], ◌∷◌, map, Bool, true, false, ◌&&◌, cond, nat_eq, nat_le, Option, Some, None, option_map, is_some, Result, Ok}
use Rattle.std.specs.Str.{bytes_eq}
use Rattle.rb_trees.specs.Limits.{longest_list}
use Rattle.rb_trees.specs.Outcome.{◌>>=◌, ◌>>◌, known, must, refused_as}
use Rattle.rb_trees.specs.declared.values.Value.{Value}
use Rattle.rb_trees.specs.declared.values.Value.TheVariants as value
use Rattle.rb_trees.specs.declared.services.Object.{Object}
use Rattle.rb_trees.specs.declared.reading.ReadError.{ReadError}
use Rattle.rb_trees.specs.declared.stores.StoreError.{StoreError}
use Rattle.rb_trees.specs.declared.stores.StoreError.TheVariants as error
use Rattle.rb_trees.specs.mirror.Declarations.{Param, Class}
use Rattle.rb_trees.specs.mirror.Services.{Literal, Literals, Int, Bool as Truth, Text, Object as Reference, Items, NoLiterals, MoreLiterals, ObjectText, Service, ServiceText}
use Rattle.rb_meaning_types.specs.Kinds as kind
use Rattle.rb_meaning_types.specs.Kinds.{Kind, kind_of}
use Rattle.rb_meaning_types.specs.Lawful.{literal_count}
use Rattle.rb_meaning_types.specs.Names.{class_named}
use Rattle.rb_meaning_types.specs.Violations as violation
use Rattle.rb_meaning_types.specs.Violations.{Violation, violation_of}
use Rattle.rb_meaning_types.specs.Programs.{check_service}

-- Why a text is no service with a table. The number is that of an object, by its place in the text from 0.
pub data StoreRefusal : Type 0 where
  -- it isn't read
  Read : (error : ReadError) → StoreRefusal
  -- its classes aren't typed, or an object's class isn't there
  Types : (violation : Violation) → StoreRefusal
  -- no object is written with the root's number
  NoRoot : StoreRefusal
  -- a value refers to a number that no object is written with
  BadReference : (object : ℕ) → StoreRefusal
  -- the fields aren't those of the class in order
  FieldMissing : (object : ℕ) → StoreRefusal
  -- a value isn't of its field's type
  FieldKind : (object : ℕ) → StoreRefusal
  -- the object is written with another number than its place
  ObjectNumber : (object : ℕ) → StoreRefusal

abbrev pub Stored : Type 0 → Type 0
Stored A = Result A StoreRefusal

-- The refusal that an error tells. Want of memory tells none; where the type of a wrong expression was written counts
-- for nothing.
abbrev pub store_refusal : StoreError → Option StoreRefusal
store_refusal (error.Read e) = Some (Read e)
store_refusal (error.Types e) = option_map Types (violation_of e)
store_refusal error.NoRoot = Some NoRoot
store_refusal (error.BadReference object) = Some (BadReference object)
store_refusal (error.FieldMissing object) = Some (FieldMissing object)
store_refusal (error.FieldKind object) = Some (FieldKind object)
store_refusal (error.ObjectNumber object) = Some (ObjectNumber object)
store_refusal error.Memory = None

-- the class of the first object that is written with a number
abbrev pub class_written : List ObjectText → ℕ → Option (List ℕ)
class_written [] number = None
class_written (o ∷ os) number = cond (nat_eq o.number number) (Some o.class) (class_written os number)

-- whether some object is written with the number
abbrev pub is_written : List ObjectText → ℕ → Bool
is_written objects number = is_some (class_written objects number)

abbrev pub is_int_literal : Literal → Bool
is_int_literal (Int number) = true
is_int_literal _ = false

abbrev pub is_bool_literal : Literal → Bool
is_bool_literal (Truth truth) = true
is_bool_literal _ = false

abbrev pub is_text_literal : Literal → Bool
is_text_literal (Text text) = true
is_text_literal _ = false

-- whether what is written with a number may be of a class; a number that no object is written with is judged later
abbrev pub may_be_of : List ℕ → Option (List ℕ) → Bool
may_be_of class None = true
may_be_of class (Some written) = bytes_eq written class

abbrev pub is_reference_to : List ObjectText → List ℕ → Literal → Bool
is_reference_to objects class (Reference number) = may_be_of class (class_written objects number)
is_reference_to objects class _ = false

abbrev pub all_literals : (Literal → Bool) → Literals → Bool
all_literals test NoLiterals = true
all_literals test (MoreLiterals l ls) = test l && all_literals test ls

-- a list that isn't too long, of items that pass the test
abbrev pub are_items : (Literal → Bool) → Literal → Bool
are_items test (Items items) = nat_le (literal_count items) longest_list && all_literals test items
are_items test _ = false

-- Whether a literal is of a type: a list in each item, too.
abbrev pub is_of_kind : List ObjectText → Kind → Literal → Bool
is_of_kind objects kind.Int literal = is_int_literal literal
is_of_kind objects kind.Bool literal = is_bool_literal literal
is_of_kind objects kind.Text literal = is_text_literal literal
is_of_kind objects kind.Unit literal = false
is_of_kind objects (kind.Named class) literal = is_reference_to objects class literal
is_of_kind objects (kind.ListOf item) literal = are_items (is_of_kind objects item) literal
is_of_kind objects (kind.RowsOf row) literal = false

-- Whether each number that a literal refers to, in its lists too, is one that some object is written with.
abbrev mutual
  pub refers_well : List ObjectText → Literal → Bool
  refers_well objects (Int number) = true
  refers_well objects (Truth truth) = true
  refers_well objects (Text text) = true
  refers_well objects (Reference number) = is_written objects number
  refers_well objects (Items items) = all_refer_well objects items

  pub all_refer_well : List ObjectText → Literals → Bool
  all_refer_well objects NoLiterals = true
  all_refer_well objects (MoreLiterals l ls) = refers_well objects l && all_refer_well objects ls

-- a literal of a field: it is of the field's type, and then its references are good
abbrev pub check_literal : List ObjectText → ℕ → Kind → Literal → Stored (Unit {0})
check_literal objects n kind literal =
    must (is_of_kind objects kind literal) (FieldKind n) >> must (refers_well objects literal) (BadReference n)

-- the literals of an object from the left, each by the type of its field
abbrev pub check_literals : List ObjectText → ℕ → List Param → List (List ℕ × Literal) → Stored (Unit {0})
check_literals objects n [] fields = Ok tt
check_literals objects n (p ∷ ps) [] = Ok tt
check_literals objects n (p ∷ ps) (f ∷ fs) = check_literal objects n (kind_of p.kind) f.1 >> check_literals objects n ps fs

-- whether fields are those of a class, by name and in order
abbrev pub has_fields : List Param → List (List ℕ × Literal) → Bool
has_fields [] [] = true
has_fields [] (f ∷ fs) = false
has_fields (p ∷ ps) [] = false
has_fields (p ∷ ps) (f ∷ fs) = bytes_eq p.name f.0 && has_fields ps fs

-- the fields of an object of a class: their names, then their literals
abbrev pub check_fields : List ObjectText → ℕ → Class → List (List ℕ × Literal) → Stored (Unit {0})
check_fields objects n class fields =
    must (has_fields class.fields fields) (FieldMissing n) >> check_literals objects n class.fields fields

-- the object at place n of a text: its number, its class, its fields
abbrev pub check_object : ServiceText → ℕ → ObjectText → Stored (Unit {0})
check_object t n o =
    must (nat_eq o.number n) (ObjectNumber n)
    >> (known (Types (violation.UnknownName o.at)) (class_named t.classes o.class) >>= λ class. check_fields t.objects n class o.fields)

-- objects in order, the first at place n
abbrev pub check_objects : ServiceText → ℕ → List ObjectText → Stored (Unit {0})
check_objects t n [] = Ok tt
check_objects t n (o ∷ os) = check_object t n o >> check_objects t (n + 1) os

-- all objects, and then the root
abbrev pub check_table : ServiceText → Stored (Unit {0})
check_table t = check_objects t 0 t.objects >> must (is_written t.objects t.root) NoRoot

-- The value that a literal stands for.
abbrev mutual
  pub value_of : Literal → Value
  value_of (Int number) = value.Int number
  value_of (Truth truth) = value.Bool truth
  value_of (Text text) = value.Text text
  value_of (Reference number) = value.Ref number
  value_of (Items items) = value.List (values_of items)

  pub values_of : Literals → List Value
  values_of NoLiterals = []
  values_of (MoreLiterals l ls) = value_of l ∷ values_of ls

abbrev pub fields_of : List (List ℕ × Literal) → List (List ℕ × Value)
fields_of fields = map (λ f. (f.0, value_of f.1)) fields

abbrev pub object_of : ObjectText → Object
object_of o = record { class = o.class; fields = fields_of o.fields }

-- the table that objects of a text stand for
abbrev pub table_of : List ObjectText → List Object
table_of objects = map object_of objects

-- a text: its classes are typed, and then its objects have no refusal
abbrev pub check_text : ServiceText → Stored (Unit {0})
check_text t = refused_as Types (check_service t.classes) >> check_table t

-- What a text is: the service with its table, or its first refusal.
abbrev pub service_of : ServiceText → Stored (Service × List Object)
service_of t = check_text t >> Ok (record { classes = t.classes; root = t.root }, table_of t.objects)
