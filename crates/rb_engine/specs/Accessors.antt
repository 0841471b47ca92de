-- Accessors: methods whose body gives a field of `this`, and does nothing else.
use Rattle.std.specs.Prelude.{◌≡◌, ℕ, List, Some}
use Rattle.rb_trees.specs.Objects.{field_value}
use Rattle.rb_trees.specs.declared.values.Value.{Value}
use Rattle.rb_trees.specs.declared.services.Object.{Object}
use Rattle.rb_trees.specs.mirror.Code as code
use Rattle.rb_trees.specs.mirror.Declarations.{Body}

-- The body gives a field of `this` alone, and the object has this value in that field.
pub record GivesField (heap : List Object) (object : ℕ) (b : Body) (v : Value) : Type 0 where
  pub at : ℕ
  pub this_at : ℕ
  pub name : List ℕ
  pub nothing_before : b.statements ≡ code.NoStmts
  pub result : b.result ≡ Some (code.Field at (code.This this_at) name)
  pub value : field_value heap object name ≡ Some v
