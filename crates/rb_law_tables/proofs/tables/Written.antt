-- A table that fits is that of objects with literals that suit.
use Rattle.std.proofs.Common.{◌≡◌, ℕ, ◌+◌, suc, List, [], ◌∷◌, map, length, option_map, refl, sym, ap, subst, ◌∙◌, arith}
use Rattle.std.specs.List.{AllByRecursion}
use Rattle.std.proofs.lemmas.List.Elements.{recursion_from_All}
use Rattle.rb_trees.specs.declared.services.Object.{Object}
use Rattle.rb_trees.specs.declared.values.Value.{Value}
use Rattle.rb_trees.specs.declared.values.Value.TheOpen.{Value-F}
use Rattle.rb_trees.specs.declared.values.Value.TheVariants as value
use Rattle.rb_trees.specs.declared.values.Value.TheViews.{out-Value, roll-Value, roll-out-Value}
use Rattle.rb_trees.specs.mirror.Declarations.{Param, Class}
use Rattle.rb_trees.specs.mirror.Services.{Literal, Literals, Int, Bool as Truth, Text, Object as Reference, Items, NoLiterals, MoreLiterals, ObjectText}
use Rattle.rb_trees.specs.printing.Unplaced.{unplaced_param, unplaced_class}
use Rattle.rb_meaning_types.specs.Kinds as kind
use Rattle.rb_meaning_types.specs.Kinds.{Kind, kind_of}
use Rattle.rb_meaning_types.specs.Lawful.{literal_count}
use Rattle.rb_meaning_types.specs.Fits.{IsIntValue, IsBoolValue, IsTextValue, IsObjectOf, AreItems, Fits, FieldsFit, ObjectFits}
use Rattle.rb_meaning_types.specs.Stores.{value_of, values_of, fields_of, table_of}
use Rattle.rb_law_tables.proofs.alike.Names.{bare, class_bare, kind_bare}
use Rattle.rb_law_tables.proofs.tables.Stored.{IsStored, IsStoredParam, IsStoredClass, found_in}
use Rattle.rb_law_tables.proofs.tables.Suits.{AllSuit, Suits, GivenSuit, ObjectsSuit, unplaced_object}

-- a value by its outermost form
same_value : (v w : Value) (form : Value-F Value) → out-Value v ≡ form → roll-Value form ≡ w → w ≡ v
same_value v w form e rolls = sym rolls ∙ ap roll-Value (sym e) ∙ roll-out-Value v

module _ (classes : List (List ℕ)) where
  -- the literal of a value
  record LiteralOf (k : Kind) (v : Value) : Type 0 where
    literal : Literal
    is : value_of literal ≡ v
    suits : Suits classes k literal

  record LiteralsOf (k : Kind) (vs : List Value) : Type 0 where
    literals : Literals
    is : values_of literals ≡ vs
    count : literal_count literals ≡ length vs
    suit : AllSuit (Suits classes k) literals

  int_of : (v : Value) (form : Value-F Value) → out-Value v ≡ form → IsIntValue form → LiteralOf kind.Int v
  int_of v (Value-F.Int n) e h = record { literal = Int n; is = same_value v (value.Int n) (Value-F.Int n) e (value.rolls-Int n); suits = h }
  int_of v Value-F.Unit e h = absurd h
  int_of v (Value-F.Bool b) e h = absurd h
  int_of v (Value-F.Text t) e h = absurd h
  int_of v (Value-F.List items) e h = absurd h
  int_of v (Value-F.Ref object) e h = absurd h
  int_of v (Value-F.Remote object) e h = absurd h
  int_of v (Value-F.Rows rows) e h = absurd h

  bool_of : (v : Value) (form : Value-F Value) → out-Value v ≡ form → IsBoolValue form → LiteralOf kind.Bool v
  bool_of v (Value-F.Bool b) e h = record { literal = Truth b; is = same_value v (value.Bool b) (Value-F.Bool b) e (value.rolls-Bool b); suits = tt }
  bool_of v Value-F.Unit e h = absurd h
  bool_of v (Value-F.Int n) e h = absurd h
  bool_of v (Value-F.Text t) e h = absurd h
  bool_of v (Value-F.List items) e h = absurd h
  bool_of v (Value-F.Ref object) e h = absurd h
  bool_of v (Value-F.Remote object) e h = absurd h
  bool_of v (Value-F.Rows rows) e h = absurd h

  text_of : (v : Value) (form : Value-F Value) → out-Value v ≡ form → IsTextValue form → LiteralOf kind.Text v
  text_of v (Value-F.Text t) e h = record { literal = Text t; is = same_value v (value.Text t) (Value-F.Text t) e (value.rolls-Text t); suits = h }
  text_of v Value-F.Unit e h = absurd h
  text_of v (Value-F.Int n) e h = absurd h
  text_of v (Value-F.Bool b) e h = absurd h
  text_of v (Value-F.List items) e h = absurd h
  text_of v (Value-F.Ref object) e h = absurd h
  text_of v (Value-F.Remote object) e h = absurd h
  text_of v (Value-F.Rows rows) e h = absurd h

  reference_of : (name : List ℕ) (v : Value) (form : Value-F Value) → out-Value v ≡ form → IsObjectOf classes name form → LiteralOf (kind.Named name) v
  reference_of name v (Value-F.Ref object) e h = record { literal = Reference object; is = same_value v (value.Ref object) (Value-F.Ref object) e (value.rolls-Ref object); suits = h }
  reference_of name v Value-F.Unit e h = absurd h
  reference_of name v (Value-F.Int n) e h = absurd h
  reference_of name v (Value-F.Bool b) e h = absurd h
  reference_of name v (Value-F.Text t) e h = absurd h
  reference_of name v (Value-F.List items) e h = absurd h
  reference_of name v (Value-F.Remote object) e h = absurd h
  reference_of name v (Value-F.Rows rows) e h = absurd h

  items_of : (k : Kind) → ((v : Value) → Fits [] classes k v → LiteralOf k v) → (vs : List Value) → AllByRecursion (Fits [] classes k) vs → LiteralsOf k vs
  items_of k one [] h = record { literals = NoLiterals; is = refl; count = refl; suit = tt }
  items_of k one (v ∷ vs) h =
      let first = one v h.0 in
      let rest = items_of k one vs h.1 in
      record { literals = MoreLiterals first.literal rest.literals; is = ap (λ w. w ∷ values_of rest.literals) first.is ∙ ap (λ ws. v ∷ ws) rest.is; count = ap suc rest.count; suit = (first.suits, rest.suit) }

  list_of : (k : Kind) → ((v : Value) → Fits [] classes k v → LiteralOf k v) → (v : Value) (form : Value-F Value) → out-Value v ≡ form → AreItems (Fits [] classes k) form → LiteralOf (kind.ListOf k) v
  list_of k one v (Value-F.List items) e h =
      let those = items_of k one items (recursion_from_All (Fits [] classes k) items h.1) in
      record { literal = Items those.literals; is = ap value.List those.is ∙ same_value v (value.List items) (Value-F.List items) e (value.rolls-List items); suits = (omega (arith, those.count, h.0), those.suit) }
  list_of k one v Value-F.Unit e h = absurd h
  list_of k one v (Value-F.Int n) e h = absurd h
  list_of k one v (Value-F.Bool b) e h = absurd h
  list_of k one v (Value-F.Text t) e h = absurd h
  list_of k one v (Value-F.Ref object) e h = absurd h
  list_of k one v (Value-F.Remote object) e h = absurd h
  list_of k one v (Value-F.Rows rows) e h = absurd h

  literal_of : (k : Kind) (v : Value) → IsStored k → Fits [] classes k v → LiteralOf k v
  literal_of kind.Int v s h = int_of v (out-Value v) refl h
  literal_of kind.Bool v s h = bool_of v (out-Value v) refl h
  literal_of kind.Text v s h = text_of v (out-Value v) refl h
  literal_of kind.Unit v s h = absurd s
  literal_of (kind.Named name) v s h = reference_of name v (out-Value v) refl h
  literal_of (kind.ListOf item) v s h = list_of item (λ w g. literal_of item w s g) v (out-Value v) refl h
  literal_of (kind.RowsOf row) v s h = absurd s

  -- the fields of an object, with literals
  record GivenOf (ps : List Param) (fs : List (List ℕ × Value)) : Type 0 where
    given : List (List ℕ × Literal)
    is : fields_of given ≡ fs
    suit : GivenSuit classes (map unplaced_param ps) given

  given_of : (ps : List Param) (fs : List (List ℕ × Value)) → AllByRecursion IsStoredParam ps → FieldsFit [] classes ps fs → GivenOf ps fs
  given_of [] [] s h = record { given = []; is = refl; suit = tt }
  given_of [] (f ∷ fs) s h = absurd h
  given_of (p ∷ ps) [] s h = absurd h
  given_of (p ∷ ps) (f ∷ fs) s h =
      let first = literal_of (kind_of p.kind) f.1 s.0 h.1 in
      let rest = given_of ps fs s.1 h.2 in
      record {
        given = (f.0, first.literal) ∷ rest.given;
        is = ap (λ v. (f.0, v) ∷ fields_of rest.given) first.is ∙ ap (λ gs. f ∷ gs) rest.is;
        suit = (h.0, subst (λ k. Suits classes k first.literal) (sym (kind_bare p.kind)) first.suits, rest.suit);
      }

  module _ (declared : List Class) (stored : AllByRecursion IsStoredClass declared) where
    -- objects with the fields of a table, from the number n on
    pub record ObjectsOf (n : ℕ) (table : List Object) : Type 0 where
      pub objects : List ObjectText
      pub is : table_of objects ≡ table
      pub suit : ObjectsSuit (bare declared) classes n objects
      pub placed : map unplaced_object objects ≡ objects

    pub objects_of : (n : ℕ) (table : List Object) → AllByRecursion (ObjectFits [] declared classes) table → ObjectsOf n table
    objects_of n [] h = record { objects = []; is = refl; suit = tt; placed = refl }
    objects_of n (o ∷ os) h =
        let fit = h.0 in
        let there = found_in IsStoredClass (λ c. c.name) declared o.class fit.class stored fit.found in
        let fields = given_of fit.class.fields o.fields there.0 fit.fields in
        let rest = objects_of (n + 1) os h.1 in
        let first : ObjectText = record { number = n; class = o.class; at = 0; fields = fields.given } in
        record {
          objects = first ∷ rest.objects;
          is = ap (λ fs. record { class = o.class; fields = fs } ∷ table_of rest.objects) fields.is ∙ ap (λ t. o ∷ t) rest.is;
          suit = (record { number = refl; class = unplaced_class fit.class; found = class_bare declared o.class ∙ ap (option_map unplaced_class) fit.found; fields = fields.suit }, rest.suit);
          placed = ap (λ xs. first ∷ xs) rest.placed;
        }
