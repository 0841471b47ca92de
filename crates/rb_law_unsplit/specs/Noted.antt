-- A law of lawful programs: the type of each expression is noted at its position.
use Rattle.std.specs.Prelude.{ℕ, List, []}
use Rattle.std.specs.List.{AllByRecursion}
use Rattle.rb_trees.specs.mirror.Declarations.{Method, Class, Program}
use Rattle.rb_meaning_types.specs.Declared.{of_program, method_context, main_context}
use Rattle.rb_meaning_types.specs.Scopes.{parameters}
use Rattle.rb_meaning_types.specs.Notes.{type_at}
use Rattle.rb_meaning_types.specs.Lawful.{IsLawful}
use Rattle.rb_law_types.specs.Noted.{AreNotedStmts}

-- the statements of the methods of a class, and those of `main`
abbrev pub IsNotedMethod : Program → List ℕ → Method → Type 0
IsNotedMethod p class m = AreNotedStmts (type_at p) (method_context (of_program p) class m.remote) (parameters m.signature.params) m.body.statements

abbrev pub IsNotedClass : Program → Class → Type 0
IsNotedClass p c = AllByRecursion (IsNotedMethod p c.name) c.methods

pub record IsNotedProgram (p : Program) : Type 0 where
  pub classes : AllByRecursion (IsNotedClass p) p.classes
  pub main : AreNotedStmts (type_at p) (main_context (of_program p)) [] p.body.statements

abbrev pub LawfulAreNoted : Type 0
LawfulAreNoted = (p : Program) → IsLawful p → IsNotedProgram p
