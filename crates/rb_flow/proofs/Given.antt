-- What a type that was found tells of the expression at its position.
use Rattle.std.proofs.Common.{◌≡◌, ℕ, List, Option, sym, ap}
use Rattle.rb_trees.specs.declared.code.TypeForm.{TypeForm}
use Rattle.rb_trees.specs.mirror.Declarations.{Program}
use Rattle.rb_meaning_types.specs.Declared.{of_program}
use Rattle.rb_meaning_types.specs.Notes.{type_at}
use Rattle.rb_meaning_types.proofs.TypeForms.{kinds}
use Rattle.rb_trees.proofs.mirror.Positions.{expr_at_tree}
use Rattle.rb_trees.proofs.mirror.Exprs.{exprs}
use Rattle.rb_meaning_flow.specs.Facts.{facts_of, kind_is, is_object, is_rows, has_remote_method}
use Rattle.rb_types.specs.Given.{kind_given}
use Rattle.std.proofs.lemmas.Grind.{common_steps}

pub object_given : (p : Program) (at : ℕ) (kind : Option TypeForm) → kind_given kind ≡ type_at p at → (facts_of p).object at ≡ kind_is (is_object (of_program p)) (kind_given kind)
unfolding facts_of
object_given p at kind e = ap (kind_is (is_object (of_program p))) (sym e)

pub rows_given : (p : Program) (at : ℕ) (kind : Option TypeForm) → kind_given kind ≡ type_at p at → (facts_of p).rows at ≡ kind_is is_rows (kind_given kind)
unfolding facts_of
rows_given p at kind e = ap (kind_is is_rows) (sym e)

pub method_given : (p : Program) (at : ℕ) (method : List ℕ) (kind : Option TypeForm) → kind_given kind ≡ type_at p at
    → (facts_of p).remote_method at method ≡ kind_is (has_remote_method (of_program p) method) (kind_given kind)
unfolding facts_of
method_given p at method kind e = ap (kind_is (has_remote_method (of_program p) method)) (sym e)

pub ruleset kind_rules = (kinds, common_steps)

pub ruleset fact_rules = (exprs, expr_at_tree, object_given, rows_given, method_given, common_steps)
