-- How uses of inputs are noted, one after the other.
use Rattle.std.specs.Prelude.{ℕ, List, [], ◌∷◌, ◌++◌, cond}
use Rattle.rb_trees.specs.declared.code.Stmt as stmt
use Rattle.rb_trees.specs.declared.declarations.Program as program
use Rattle.rb_trees.specs.mirror.Code.{mirror_stmts}
use Rattle.rb_meaning_types.specs.Names.{is_new}
use Rattle.rb_meaning_flow.specs.declared.scopes.Role.{Role}
use Rattle.rb_meaning_flow.specs.Scopes.{Scope, is_constant_role, role_of, with_variable}
use Rattle.rb_meaning_split.specs.Inputs.{used_in}
use Rattle.rb_split.specs.declared.loops.Loop.{Loop}
use Rattle.rb_split.specs.Views.{facts}

-- the inputs so far, and one more where the name is new
abbrev pub with_use : List (List ℕ) → List ℕ → List (List ℕ)
with_use uses name = cond (is_new name uses) (uses ++ name ∷ []) uses

-- the inputs so far, and those of these names that are new
abbrev pub noted : List (List ℕ) → List (List ℕ) → List (List ℕ)
noted uses [] = uses
noted uses (name ∷ names) = noted (with_use uses name) names

-- a variable, where it is constant
abbrev pub constant_variable : Scope → List ℕ → List (List ℕ)
constant_variable scope name = cond (is_constant_role (role_of scope name)) (name ∷ []) []

-- the inputs that the statements of a block use
abbrev pub used_by : program.Program → Scope → List stmt.Stmt → List (List ℕ)
used_by p scope ss = used_in (facts p) scope (mirror_stmts ss)

-- the inputs that the block of a loop uses, with the variable of the loop
abbrev pub used_in_turn : program.Program → Scope → Loop → List (List ℕ)
used_in_turn p scope l = used_by p (with_variable scope l.name.now Role.Row l.at) l.block.now
