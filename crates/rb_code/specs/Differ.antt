-- Names that differ.
use Rattle.std.specs.Prelude.{◌≡◌, List, [], ◌∷◌, None}
use Rattle.rb_trees.specs.mirror.Declarations.{Class, Method}
use Rattle.rb_trees.specs.Classes.{class_named, method_named}

-- no method has the name of one before it
abbrev pub MethodsDiffer : List Method → Type 0
MethodsDiffer [] = Unit {0}
MethodsDiffer (m ∷ ms) = (method_named ms m.signature.name ≡ None) × MethodsDiffer ms

-- no class has the name of one before it, and the methods of each class differ
abbrev pub ClassesDiffer : List Class → Type 0
ClassesDiffer [] = Unit {0}
ClassesDiffer (c ∷ cs) = (class_named cs c.name ≡ None) × MethodsDiffer c.methods × ClassesDiffer cs
