-- The mirror of services and of their texts. Objects of a table hold values, and stand as they are.
use Rattle.std.specs.Prelude as prelude
use Rattle.std.specs.Prelude.{ℕ, ℤ, List, [], ◌∷◌, map}
use Rattle.rb_trees.specs.declared.services.Service as service
use Rattle.rb_trees.specs.declared.services.ServiceText as text
use Rattle.rb_trees.specs.declared.services.ObjectText as object
use Rattle.rb_trees.specs.declared.services.Literal as literal
use Rattle.rb_trees.specs.declared.services.Literal.TheOpen.{Literal-F}
use Rattle.rb_trees.specs.declared.services.Literal.TheFolds.{fold-Literal}
use Rattle.rb_trees.specs.mirror.Declarations.{Class, mirror_class}

mutual
  pub data Literal : Type 0 where
    Int : (number : ℤ) → Literal
    Bool : (truth : prelude.Bool) → Literal
    Text : (text : List ℕ) → Literal
    Object : (number : ℕ) → Literal
    Items : (items : Literals) → Literal

  pub data Literals : Type 0 where
    NoLiterals : Literals
    MoreLiterals : (first : Literal) (rest : Literals) → Literals

abbrev pub literals_from : List Literal → Literals
literals_from [] = NoLiterals
literals_from (l ∷ ls) = MoreLiterals l (literals_from ls)

abbrev pub literal_step : Literal-F Literal → Literal
literal_step (Literal-F.Int number) = Int number
literal_step (Literal-F.Bool truth) = Bool truth
literal_step (Literal-F.Text text) = Text text
literal_step (Literal-F.Object number) = Object number
literal_step (Literal-F.Items items) = Items (literals_from items)

-- a literal of a service's text in the mirror
unfoldable pub mirror_literal : literal.Literal → Literal
mirror_literal l = fold-Literal Literal literal_step l

abbrev pub mirror_literals : List literal.Literal → Literals
mirror_literals [] = NoLiterals
mirror_literals (l ∷ ls) = MoreLiterals (mirror_literal l) (mirror_literals ls)

pub record Service : Type 0 where
  pub classes : List Class
  pub root : ℕ

pub record ObjectText : Type 0 where
  pub number : ℕ
  pub class : List ℕ
  pub at : ℕ
  pub fields : List (List ℕ × Literal)

pub record ServiceText : Type 0 where
  pub classes : List Class
  pub objects : List ObjectText
  pub root : ℕ

-- a service in the mirror
abbrev pub mirror_service : service.Service → Service
mirror_service s = record { classes = map mirror_class s.classes; root = s.root }

abbrev pub mirror_object : object.ObjectText → ObjectText
mirror_object o = record { number = o.number; class = o.class; at = o.at; fields = map (λ f. (f.0, mirror_literal f.1)) o.fields }

-- a service's text in the mirror
abbrev pub mirror_service_text : text.ServiceText → ServiceText
mirror_service_text t = record { classes = map mirror_class t.classes; objects = map mirror_object t.objects; root = t.root }
