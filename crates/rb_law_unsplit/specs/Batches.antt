-- All batches of a program, as typing knows them.
use Rattle.std.specs.Prelude.{ℕ, List, [], ◌++◌}
use Rattle.std.specs.List.{flat_map}
use Rattle.rb_trees.specs.mirror.Declarations.{Method, Class, Program}
use Rattle.rb_meaning_types.specs.Declared.{Declarations, of_program, method_context, main_context}
use Rattle.rb_meaning_types.specs.Scopes.{parameters}
use Rattle.rb_law_types.specs.Asked.{Site}
use Rattle.rb_law_types.specs.Batches.{sites_in}

-- the batches of a method, and those of a class
abbrev pub method_sites : Declarations → List ℕ → Method → List Site
method_sites d class m = sites_in (method_context d class m.remote) (parameters m.signature.params) m.body.statements

abbrev pub class_sites : Declarations → Class → List Site
class_sites d c = flat_map (method_sites d c.name) c.methods

-- those of all methods, and those of `main`
abbrev pub program_sites : Program → List Site
program_sites p = flat_map (class_sites (of_program p)) p.classes ++ sites_in (main_context (of_program p)) [] p.body.statements
