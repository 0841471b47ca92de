-- The law of changes: a table keeps fitting.
use Rattle.std.specs.Prelude.{ℕ, List}
use Rattle.rb_trees.specs.declared.services.Change.{Change}
use Rattle.rb_trees.specs.declared.services.Object.{Object}
use Rattle.rb_trees.specs.mirror.Declarations.{Class}
use Rattle.rb_meaning_types.specs.Fits.{TableFits}
use Rattle.rb_meaning.specs.Changes.{AreBounded, all_changed}

-- A table that fits fits after changes too whose values are within their bounds.
abbrev pub ChangesKeepFitting : Type 0
ChangesKeepFitting = (classes : List Class) (root : ℕ) (changes : List Change) → AreBounded changes
    → (table : List Object) → TableFits classes root table → TableFits classes root (all_changed changes table)
