-- The notes of an expression are those of its parts and its own.
use Rattle.std.proofs.Common.{◌≡◌, List, refl}
use Rattle.rb_trees.specs.mirror.Code.{Expr, Lit, Name, This, Unary, Binary, Field, Call, Index, New, Items, Taken}
use Rattle.rb_meaning_types.specs.Scopes.{Scope}
use Rattle.rb_meaning_types.specs.Declared.{Context}
use Rattle.rb_meaning_types.specs.Notes.{Note, note, noted, parts_noted}

pub noted_parts : (x : Context) (scope : Scope) (notes : List Note) (e : Expr) → noted x scope notes e ≡ note x scope (parts_noted x scope notes e) e
noted_parts x scope notes (Lit at value) = refl
noted_parts x scope notes (Name at name) = refl
noted_parts x scope notes (This at) = refl
noted_parts x scope notes (Unary at op a) = refl
noted_parts x scope notes (Binary at op a b) = refl
noted_parts x scope notes (Field at a name) = refl
noted_parts x scope notes (Call at a method args) = refl
noted_parts x scope notes (Index at a b) = refl
noted_parts x scope notes (New at class args) = refl
noted_parts x scope notes (Items at item items) = refl
noted_parts x scope notes (Taken at step) = refl
