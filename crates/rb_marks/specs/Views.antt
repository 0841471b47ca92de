-- What the structs of a walk stand for in the definitions.
use Rattle.std.specs.Prelude.{List}
use Rattle.rb_trees.specs.declared.declarations.Program.{Program}
use Rattle.rb_trees.specs.mirror.Declarations.{mirror_program}
use Rattle.rb_meaning_flow.specs.declared.scopes.Variable.{Variable}
use Rattle.rb_meaning_flow.specs.Facts.{Facts, facts_of}
use Rattle.rb_meaning_flow.specs.Scopes.{Scope, scope_with, with_variable}
use Rattle.rb_marks.specs.declared.batch.Batch.{Batch}
use Rattle.rb_marks.specs.declared.declared.Declared.{Declared}

-- the facts of a program's tree
abbrev pub told : Program → Facts
told p = facts_of (mirror_program p)

-- the facts that a walk through a batch asks
abbrev pub facts_in : Batch → Facts
facts_in x = told x.facts.now

-- the scope as the batch sees it
abbrev pub seen : Batch → List Variable → Scope
seen x scope = scope_with x.assigned scope

-- the scope once a declared variable was added
abbrev pub with_declared : Scope → Declared → Scope
with_declared scope own = with_variable scope own.name.now own.role own.at
