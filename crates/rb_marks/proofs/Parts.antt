-- The notes of an expression are its own and those of its parts.
use Rattle.std.proofs.Common.{◌≡◌, Bool, refl}
use Rattle.rb_trees.specs.mirror.Code.{Expr, Lit, Name, This, Unary, Binary, Field, Call, Index, New, Items, Taken}
use Rattle.rb_meaning_flow.specs.Facts.{Facts}
use Rattle.rb_meaning_flow.specs.Scopes.{Scope}
use Rattle.rb_marks.specs.Passes.{Marked, inner, note, marked, parts_marked}

pub marked_parts : (x : Facts) (scope : Scope) (inside : Bool) (notes : Marked) (e : Expr)
    → marked x scope inside notes e ≡ parts_marked x scope (inner x scope inside e) (note scope (inner x scope inside e) notes e) e
marked_parts x scope inside notes (Lit at value) = refl
marked_parts x scope inside notes (Name at name) = refl
marked_parts x scope inside notes (This at) = refl
marked_parts x scope inside notes (Unary at op a) = refl
marked_parts x scope inside notes (Binary at op a b) = refl
marked_parts x scope inside notes (Field at a name) = refl
marked_parts x scope inside notes (Call at a method args) = refl
marked_parts x scope inside notes (Index at a b) = refl
marked_parts x scope inside notes (New at class args) = refl
marked_parts x scope inside notes (Items at item items) = refl
marked_parts x scope inside notes (Taken at step) = refl
