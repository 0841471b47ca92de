-- Literals that suit the types of their fields, and objects that suit the classes.
use Rattle.std.proofs.Common.{◌≡◌, ℕ, ◌+◌, ◌≤◌, List, [], ◌∷◌, map, slice_get, Some}
use Rattle.rb_trees.specs.Limits.{longest_list}
use Rattle.rb_trees.specs.mirror.Declarations.{Param, Class}
use Rattle.rb_trees.specs.mirror.Services.{Literal, Literals, Int, Bool as Truth, Text, Object as Reference, Items, NoLiterals, MoreLiterals, ObjectText}
use Rattle.rb_meaning_types.specs.Kinds as kind
use Rattle.rb_meaning_types.specs.Kinds.{Kind, kind_of}
use Rattle.rb_meaning_types.specs.Names.{class_named}
use Rattle.rb_meaning_types.specs.Values.{IsInt, IsText}
use Rattle.rb_meaning_types.specs.Lawful.{literal_count}

abbrev pub IsIntLiteral : Literal → Type 0
IsIntLiteral (Int number) = IsInt number
IsIntLiteral _ = ⊥

abbrev pub IsBoolLiteral : Literal → Type 0
IsBoolLiteral (Truth truth) = Unit {0}
IsBoolLiteral _ = ⊥

abbrev pub IsTextLiteral : Literal → Type 0
IsTextLiteral (Text text) = IsText text
IsTextLiteral _ = ⊥

-- an object of the class, by its number
abbrev pub IsReference : List (List ℕ) → List ℕ → Literal → Type 0
IsReference classes name (Reference number) = slice_get classes number ≡ Some name
IsReference classes name _ = ⊥

abbrev pub AllSuit : (Literal → Type 0) → Literals → Type 0
AllSuit P NoLiterals = Unit {0}
AllSuit P (MoreLiterals l ls) = P l × AllSuit P ls

abbrev pub AreItems : (Literal → Type 0) → Literal → Type 0
AreItems P (Items items) = (literal_count items ≤ longest_list) × AllSuit P items
AreItems P _ = ⊥

-- A literal suits a type, given the classes of the objects in order.
abbrev pub Suits : List (List ℕ) → Kind → Literal → Type 0
Suits classes kind.Int literal = IsIntLiteral literal
Suits classes kind.Bool literal = IsBoolLiteral literal
Suits classes kind.Text literal = IsTextLiteral literal
Suits classes kind.Unit literal = ⊥
Suits classes (kind.Named name) literal = IsReference classes name literal
Suits classes (kind.ListOf item) literal = AreItems (Suits classes item) literal
Suits classes (kind.RowsOf row) literal = ⊥

-- the fields that are declared, in order, each with a literal of its type
abbrev pub GivenSuit : List (List ℕ) → List Param → List (List ℕ × Literal) → Type 0
GivenSuit classes [] [] = Unit {0}
GivenSuit classes [] (g ∷ gs) = ⊥
GivenSuit classes (p ∷ ps) [] = ⊥
GivenSuit classes (p ∷ ps) (g ∷ gs) = (p.name ≡ g.0) × Suits classes (kind_of p.kind) g.1 × GivenSuit classes ps gs

-- an object with its number, of a declared class
pub record ObjectSuits (declared : List Class) (classes : List (List ℕ)) (n : ℕ) (o : ObjectText) : Type 0 where
  pub number : o.number ≡ n
  pub class : Class
  pub found : class_named declared o.class ≡ Some class
  pub fields : GivenSuit classes class.fields o.fields

-- objects in order, the first with the number n
abbrev pub ObjectsSuit : List Class → List (List ℕ) → ℕ → List ObjectText → Type 0
ObjectsSuit declared classes n [] = Unit {0}
ObjectsSuit declared classes n (o ∷ os) = ObjectSuits declared classes n o × ObjectsSuit declared classes (n + 1) os

-- an object without its position
abbrev pub unplaced_object : ObjectText → ObjectText
unplaced_object o = record { number = o.number; class = o.class; at = 0; fields = o.fields }

-- positions count for nothing
pub suit_too : (declared : List Class) (classes : List (List ℕ)) (n : ℕ) (os : List ObjectText) → ObjectsSuit declared classes n (map unplaced_object os) → ObjectsSuit declared classes n os
suit_too declared classes n [] h = tt
suit_too declared classes n (o ∷ os) h = (record { number = h.0.number; class = h.0.class; found = h.0.found; fields = h.0.fields }, suit_too declared classes (n + 1) os h.1)
