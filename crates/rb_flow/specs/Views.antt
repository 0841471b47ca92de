-- What the code's values stand for in the definitions.
use Rattle.std.specs.Prelude.{ℕ, List, [], ◌∷◌, Option, Some, None}
use Rattle.rb_trees.specs.declared.declarations.Program as program
use Rattle.rb_trees.specs.mirror.Declarations.{mirror_program}
use Rattle.rb_meaning_flow.specs.Facts.{Facts, facts_of}

-- what the types of a program tell
abbrev pub facts : program.Program → Facts
facts p = facts_of (mirror_program p)

-- the node, or none
abbrev pub node_list : Option ℕ → List ℕ
node_list None = []
node_list (Some node) = node ∷ []
