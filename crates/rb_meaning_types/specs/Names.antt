-- Names, and the first of a list that has a name.
use Rattle.std.specs.Prelude.{ℕ, List, [], ◌∷◌, Bool, true, false, cond, Option}
use Rattle.std.specs.Str.{bytes_eq}
pub use Rattle.rb_trees.specs.Named.{first_named}
pub use Rattle.rb_trees.specs.Classes.{class_named, method_named}
use Rattle.rb_trees.specs.mirror.Declarations.{Param, Signature, Interface}

-- whether a name is none of those before
abbrev pub is_new : List ℕ → List (List ℕ) → Bool
is_new name [] = true
is_new name (other ∷ others) = cond (bytes_eq other name) false (is_new name others)

abbrev pub interface_named : List Interface → List ℕ → Option Interface
interface_named interfaces name = first_named (λ i. i.name) interfaces name

abbrev pub field_named : List Param → List ℕ → Option Param
field_named fields name = first_named (λ f. f.name) fields name

abbrev pub signature_named : List Signature → List ℕ → Option Signature
signature_named signatures name = first_named (λ s. s.name) signatures name
