-- What the facts of a program tell of an expression whose type is noted.
use Rattle.std.proofs.Common.{◌≡◌, ap, ◌∙◌, ℕ, List, Option, Some, Ok}
use Rattle.rb_trees.specs.mirror.Code.{Expr, Lit, Name, This, Unary, Binary, Field, Call, Index, New, Items, Taken, expr_at}
use Rattle.rb_trees.specs.mirror.Declarations.{Program}
use Rattle.rb_meaning_types.specs.Kinds.{Kind, is_primitive}
use Rattle.rb_meaning_types.specs.Violations.{Checked}
use Rattle.rb_meaning_types.specs.Declared.{Context, of_program}
use Rattle.rb_meaning_types.specs.Scopes.{Scope}
use Rattle.rb_meaning_types.specs.Expressions.{type_of}
use Rattle.rb_meaning_types.specs.Notes.{type_at}
use Rattle.rb_meaning_flow.specs.Facts.{facts_of, kind_is, is_object, is_rows, has_primitive_items, has_remote_method}
use Rattle.rb_law_types.specs.Noted.{IsNotedExpr}

pub note_here : (types : ℕ → Option (Checked Kind)) (x : Context) (scope : Scope) (e : Expr) → IsNotedExpr types x scope e → types (expr_at e) ≡ Some (type_of x scope e)
note_here types x scope (Lit at value) h = h
note_here types x scope (Name at name) h = h
note_here types x scope (This at) h = h
note_here types x scope (Unary at op a) h = h.0
note_here types x scope (Binary at op a b) h = h.0
note_here types x scope (Field at a name) h = h.0
note_here types x scope (Call at a method args) h = h.0
note_here types x scope (Index at a b) h = h.0
note_here types x scope (New at class args) h = h.0
note_here types x scope (Items at item items) h = h.0
note_here types x scope (Taken at step) h = h

pub kind_here : (types : ℕ → Option (Checked Kind)) (x : Context) (scope : Scope) (e : Expr) (k : Kind) → IsNotedExpr types x scope e → type_of x scope e ≡ Ok k → types (expr_at e) ≡ Some (Ok k)
kind_here types x scope e k n t = note_here types x scope e n ∙ ap Some t

module _ (p : Program) (at : ℕ) (k : Kind) (h : type_at p at ≡ Some (Ok k)) where
  pub primitive_fact : (facts_of p).primitive at ≡ is_primitive k
  unfolding facts_of
  primitive_fact = ap (kind_is is_primitive) h

  pub items_fact : (facts_of p).items at ≡ has_primitive_items k
  unfolding facts_of
  items_fact = ap (kind_is has_primitive_items) h

  pub object_fact : (facts_of p).object at ≡ is_object (of_program p) k
  unfolding facts_of
  object_fact = ap (kind_is (is_object (of_program p))) h

  pub rows_fact : (facts_of p).rows at ≡ is_rows k
  unfolding facts_of
  rows_fact = ap (kind_is is_rows) h

  pub method_fact : (method : List ℕ) → (facts_of p).remote_method at method ≡ has_remote_method (of_program p) method k
  unfolding facts_of
  method_fact method = ap (kind_is (has_remote_method (of_program p) method)) h
