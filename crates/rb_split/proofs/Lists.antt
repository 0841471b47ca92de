-- What follows of the name by which the list of a carried loop stands.
use Rattle.std.proofs.Common.{◌≡◌, ℕ, List, [], ◌∷◌, refl}
use Rattle.rb_trees.specs.Named.{lookup}
use Rattle.rb_trees.specs.mirror.Code.{Expr, Lit, Name, This, Unary, Binary, Field, Call, Index, New, Items, Taken}
use Rattle.rb_trees.specs.mirror.Declarations.{Program}
use Rattle.rb_trees.specs.mirror.Remainders.{Part, Parts, Pass, Over}
use Rattle.rb_meaning.specs.ConstantLists.{name_of}
use Rattle.rb_meaning_split.specs.Parts.{over}
use Rattle.rb_meaning_split.specs.Refs.{Refs, input_number, list_number}

-- the number of the input, and the part
abbrev pub number_of : Refs → List (List ℕ) → ℕ
number_of refs [] = 0
number_of refs (name ∷ names) = input_number (lookup refs name)

abbrev pub part_of : Refs → ℕ → ℕ → List ℕ → List (List ℕ) → Parts → Part
part_of refs n at name [] body = Pass n
part_of refs n at name (list ∷ lists) body = Over n at name list (input_number (lookup refs list)) body

pub number_named : (refs : Refs) (e : Expr) → list_number refs e ≡ number_of refs (name_of e)
number_named refs (Lit at value) = refl
number_named refs (Name at name) = refl
number_named refs (This at) = refl
number_named refs (Unary at op a) = refl
number_named refs (Binary at op a b) = refl
number_named refs (Field at a name) = refl
number_named refs (Call at a method args) = refl
number_named refs (Index at a b) = refl
number_named refs (New at class args) = refl
number_named refs (Items at item items) = refl
number_named refs (Taken at step) = refl

pub part_named : (p : Program) (refs : Refs) (n at : ℕ) (name : List ℕ) (e : Expr) (body : Parts) → over p refs n at name e body ≡ part_of refs n at name (name_of e) body
part_named p refs n at name (Lit place value) body = refl
part_named p refs n at name (Name place list) body = refl
part_named p refs n at name (This place) body = refl
part_named p refs n at name (Unary place op a) body = refl
part_named p refs n at name (Binary place op a b) body = refl
part_named p refs n at name (Field place a field) body = refl
part_named p refs n at name (Call place a method args) body = refl
part_named p refs n at name (Index place a b) body = refl
part_named p refs n at name (New place class args) body = refl
part_named p refs n at name (Items place item items) body = refl
part_named p refs n at name (Taken place step) body = refl
