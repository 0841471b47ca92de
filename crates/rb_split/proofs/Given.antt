-- What a type that was found tells of the expression at its position.
use Rattle.std.proofs.Common.{◌≡◌, ℕ, Option, sym, ap}
use Rattle.rb_trees.specs.declared.code.TypeForm.{TypeForm}
use Rattle.rb_trees.specs.mirror.Declarations.{Program}
use Rattle.rb_meaning_types.specs.Kinds.{is_primitive}
use Rattle.rb_meaning_types.specs.Notes.{type_at}
use Rattle.rb_meaning_types.proofs.TypeForms.{kinds}
use Rattle.rb_meaning_flow.specs.Facts.{facts_of, has_primitive_items, kind_is}
use Rattle.rb_types.specs.Given.{kind_given}
use Rattle.std.proofs.lemmas.Grind.{common_steps}

pub primitive_given : (p : Program) (at : ℕ) (kind : Option TypeForm) → kind_given kind ≡ type_at p at → (facts_of p).primitive at ≡ kind_is is_primitive (kind_given kind)
unfolding facts_of
primitive_given p at kind e = ap (kind_is is_primitive) (sym e)

pub items_given : (p : Program) (at : ℕ) (kind : Option TypeForm) → kind_given kind ≡ type_at p at → (facts_of p).items at ≡ kind_is has_primitive_items (kind_given kind)
unfolding facts_of
items_given p at kind e = ap (kind_is has_primitive_items) (sym e)

pub ruleset given_rules = (kinds, primitive_given, items_given, common_steps)
