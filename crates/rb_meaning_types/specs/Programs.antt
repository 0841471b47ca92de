-- Typed programs and services, and the first violation of others: declarations, then the bodies of
-- methods, then `main`.
use Rattle.std.specs.Prelude.{List, [], Bool}
use Rattle.std.specs.Result.{is_ok}
use Rattle.rb_trees.specs.mirror.Declarations.{Class, Program}
use Rattle.rb_meaning_types.specs.Violations.{Checked}
use Rattle.rb_trees.specs.Outcome.{◌>>◌}
use Rattle.rb_meaning_types.specs.Declared.{of_program, of_service, main_context}
use Rattle.rb_meaning_types.specs.Places.{main_type}
use Rattle.rb_meaning_types.specs.Bodies.{check_body, check_class_bodies}
use Rattle.rb_meaning_types.specs.Declarations.{check_declarations}

-- `main`: its result type, then its body
abbrev pub check_main : Program → Checked (Unit {0})
check_main p = main_type (of_program p) p.at p.result >> check_body (main_context (of_program p)) [] p.at p.result p.body

abbrev pub check_program : Program → Checked (Unit {0})
check_program p = check_declarations (of_program p) >> check_class_bodies (of_program p) p.classes >> check_main p

-- a service has classes alone
abbrev pub check_service : List Class → Checked (Unit {0})
check_service classes = check_declarations (of_service classes) >> check_class_bodies (of_service classes) classes

-- whether a program is typed
abbrev pub is_typed : Program → Bool
is_typed p = is_ok (check_program p)

-- whether a service is typed
abbrev pub is_typed_service : List Class → Bool
is_typed_service classes = is_ok (check_service classes)
