-- What the table of a text rests on: numbers that are small enough to be those of objects.
use Rattle.std.specs.Prelude.{◌≡◌, ℕ, nat_lt, Bool, true, ◌&&◌, List, [], ◌∷◌}
use Rattle.rb_trees.specs.mirror.Services.{Literal, Literals, Int, Bool as Truth, Text, Object, Items, NoLiterals, MoreLiterals, ObjectText}

-- whether the numbers that a literal refers to are below a bound
abbrev mutual
  pub is_below : ℕ → Literal → Bool
  is_below bound (Int number) = true
  is_below bound (Truth truth) = true
  is_below bound (Text text) = true
  is_below bound (Object number) = nat_lt number bound
  is_below bound (Items items) = are_below bound items

  pub are_below : ℕ → Literals → Bool
  are_below bound NoLiterals = true
  are_below bound (MoreLiterals l ls) = is_below bound l && are_below bound ls

abbrev pub FieldsBelow : ℕ → List (List ℕ × Literal) → Type 0
FieldsBelow bound [] = Unit {0}
FieldsBelow bound (f ∷ fs) = (is_below bound f.1 ≡ true) × FieldsBelow bound fs

abbrev pub ObjectsBelow : ℕ → List ObjectText → Type 0
ObjectsBelow bound [] = Unit {0}
ObjectsBelow bound (o ∷ os) = FieldsBelow bound o.fields × ObjectsBelow bound os
