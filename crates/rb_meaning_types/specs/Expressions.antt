-- The type of an expression in a scope, or the first violation: the parts go first, in order of
-- evaluation, and then the expression itself.
use Rattle.std.specs.Prelude.{ℕ, List, [], ◌∷◌, Option, Some, None, Ok, Err}
use Rattle.rb_trees.specs.mirror.Types.{TypeTree}
use Rattle.rb_trees.specs.mirror.Code.{Expr, Exprs, Lit, Name, This, Unary, Binary, Field, Call, Index, New, Items, Taken, NoExprs, MoreExprs, expr_at}
use Rattle.rb_meaning_types.specs.Kinds.{Kind, Named, ListOf, kind_of}
use Rattle.rb_meaning_types.specs.Declared.{Declarations, Context}
use Rattle.rb_meaning_types.specs.Violations.{Checked, Placed, UnknownName, NotAllowedHere, wanted, with_place}
use Rattle.rb_trees.specs.Outcome.{◌>>=◌, ◌>>◌, known}
use Rattle.rb_meaning_types.specs.Scopes.{Scope, variable_named}
use Rattle.rb_meaning_types.specs.Literals.{literal_kind}
use Rattle.rb_meaning_types.specs.Operators.{unary_kind, binary_kind, index_kind}
use Rattle.rb_meaning_types.specs.Members.{field_kind, call_kind, new_kind}
use Rattle.rb_meaning_types.specs.Places.{item_type}

-- a variable that is in scope
abbrev pub name_kind : Scope → ℕ → List ℕ → Checked Kind
name_kind scope at name = known (UnknownName at) (variable_named scope name) >>= λ v. Ok v.kind

-- `this` stands in a method
abbrev pub this_kind : Option (List ℕ) → ℕ → Checked Kind
this_kind (Some class) at = Ok (Named class)
this_kind None at = Err (UnknownName at)

-- each item of a list has the written type
abbrev pub all_wanted : Kind → List Placed → Checked (Unit {0})
all_wanted kind [] = Ok tt
all_wanted kind (p ∷ ps) = wanted kind p >> all_wanted kind ps

-- a list by its items: the written type may be that of an item, and each item has it
abbrev pub items_kind : Declarations → TypeTree → List Placed → Checked Kind
items_kind d item ps = item_type d item >> all_wanted (kind_of item) ps >> Ok (ListOf (kind_of item))

abbrev pub with_first : Placed → Checked (List Placed) → Checked (List Placed)
with_first p (Ok ps) = Ok (p ∷ ps)
with_first p (Err fault) = Err fault

abbrev mutual
  pub type_of : Context → Scope → Expr → Checked Kind
  type_of x scope (Lit at value) = Ok (literal_kind value)
  type_of x scope (Name at name) = name_kind scope at name
  type_of x scope (This at) = this_kind x.this at
  type_of x scope (Unary at op a) = with_place (expr_at a) (type_of x scope a) >>= λ p. unary_kind op p
  type_of x scope (Binary at op a b) = with_place (expr_at a) (type_of x scope a) >>= λ p.
      with_place (expr_at b) (type_of x scope b) >>= λ q. binary_kind op p q
  type_of x scope (Field at a name) = with_place (expr_at a) (type_of x scope a) >>= λ p. field_kind x.declared at name p
  type_of x scope (Call at a method args) = with_place (expr_at a) (type_of x scope a) >>= λ p.
      types_of x scope args >>= λ ps. call_kind x at method p ps
  type_of x scope (Index at a b) = with_place (expr_at a) (type_of x scope a) >>= λ p.
      with_place (expr_at b) (type_of x scope b) >>= λ q. index_kind p q
  type_of x scope (New at class args) = types_of x scope args >>= λ ps. new_kind x.declared at class ps
  type_of x scope (Items at item items) = types_of x scope items >>= λ ps. items_kind x.declared item ps
  type_of x scope (Taken at step) = Err (NotAllowedHere at)

  -- the types of a list of expressions, from the first to the last
  pub types_of : Context → Scope → Exprs → Checked (List Placed)
  types_of x scope NoExprs = Ok []
  types_of x scope (MoreExprs e es) = with_place (expr_at e) (type_of x scope e) >>= λ p. with_first p (types_of x scope es)
