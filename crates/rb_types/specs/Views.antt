-- What the checker's structs stand for in the definitions.
use Rattle.std.specs.Prelude.{ℕ, List, map, Option, Ok}
use Rattle.std.specs.Option.{option_map, option_copied}
use Rattle.std.specs.Borrow.{Bor}
use Rattle.rb_trees.specs.mirror.Declarations.{mirror_interface, mirror_class}
use Rattle.rb_trees.specs.declared.declarations.Class as class
use Rattle.rb_trees.specs.declared.code.Expr as code
use Rattle.rb_trees.specs.mirror.Code.{Expr, mirror_expr}
use Rattle.rb_types.specs.declared.kinds.Placed as placed
use Rattle.rb_types.specs.declared.scope.Variable as variable
use Rattle.rb_types.specs.declared.context.Declarations as declarations
use Rattle.rb_types.specs.declared.context.Context as context
use Rattle.rb_meaning_types.specs.Kinds.{kind_of_form}
use Rattle.rb_meaning_types.specs.Violations.{Placed}
use Rattle.rb_meaning_types.specs.Scopes.{Variable, Scope}
use Rattle.rb_meaning_types.specs.Declared.{Declarations, Context}
use Rattle.rb_meaning_types.specs.Notes.{Note}

abbrev pub placed_of : placed.Placed → Placed
placed_of p = record { at = p.at; kind = kind_of_form p.kind }

abbrev pub all_placed : List placed.Placed → List Placed
all_placed ps = map placed_of ps

abbrev pub variable_of : variable.Variable → Variable
variable_of v = record { name = v.name; kind = kind_of_form v.kind; fixed = v.fixed }

abbrev pub scope_of : List variable.Variable → Scope
scope_of variables = map variable_of variables

abbrev pub declarations_of : declarations.Declarations → Declarations
declarations_of d = record { interfaces = map mirror_interface d.interfaces; classes = map mirror_class d.classes; service = d.service }

abbrev pub context_of : context.Context → Context
context_of x = record { declared = declarations_of x.declared.now; this = option_copied x.this; remote = x.remote }

-- a placed type as what the judgement gives to its expression
abbrev pub note_of : placed.Placed → Note
note_of p = record { at = p.at; gives = Ok (kind_of_form p.kind) }

abbrev pub notes_of : List placed.Placed → List Note
notes_of notes = map note_of notes

-- what a body gives back, or nothing
abbrev pub returned_of : Option code.Expr → Option Expr
returned_of returned = option_map mirror_expr returned

-- what is found, or nothing, seen by view
abbrev pub found : {X Y : Type 0} → (X → Y) → Option (Bor X) → Option Y
found view result = option_map view (option_copied result)

-- the names of a class's fields and methods
abbrev pub names_of_fields : class.Class → List (List ℕ)
names_of_fields c = map (λ f. f.name) c.fields

abbrev pub names_of_methods : class.Class → List (List ℕ)
names_of_methods c = map (λ m. m.signature.name) c.methods
