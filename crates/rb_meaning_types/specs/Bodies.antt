-- Bodies: the statements in order, then the `return`.
use Rattle.std.specs.Prelude.{ℕ, List, [], ◌∷◌, not, ◌&&◌, Option, Some, None, Ok}
use Rattle.rb_trees.specs.mirror.Types.{TypeTree}
use Rattle.rb_trees.specs.mirror.Code.{Expr}
use Rattle.rb_trees.specs.mirror.Declarations.{Method, Class, Body}
use Rattle.rb_meaning_types.specs.Kinds.{Kind, kind_of, is_unit, same_kind}
use Rattle.rb_meaning_types.specs.Violations.{Checked, Placed, MissingReturn, wrong_type}
use Rattle.rb_trees.specs.Outcome.{◌>>=◌, ◌>>◌, must}
use Rattle.rb_meaning_types.specs.Scopes.{Scope, parameters}
use Rattle.rb_meaning_types.specs.Declared.{Declarations, Context, method_context}
use Rattle.rb_meaning_types.specs.Statements.{placed, check_stmts}

-- a `return` gives the result's type; none may stand where the result is Unit
abbrev pub return_fits : Kind → Placed → Checked (Unit {0})
return_fits kind p = must (not (is_unit kind) && same_kind kind p.kind) (wrong_type p)

-- a body whose result isn't Unit has a `return`
abbrev pub check_return : Context → Scope → ℕ → Kind → Option Expr → Checked (Unit {0})
check_return x scope at kind (Some e) = placed x scope e >>= λ p. return_fits kind p
check_return x scope at kind None = must (is_unit kind) (MissingReturn at)

-- a body that begins in a scope, with the position of its method's name or of `main`
abbrev pub check_body : Context → Scope → ℕ → TypeTree → Body → Checked (Unit {0})
check_body x scope at result body = check_stmts x scope body.statements >>= λ after. check_return x after at (kind_of result) body.result

-- a method's body begins with the parameters in scope
abbrev pub check_method_body : Declarations → List ℕ → Method → Checked (Unit {0})
check_method_body d class m =
    check_body (method_context d class m.remote) (parameters m.signature.params) m.signature.at m.signature.result m.body

abbrev pub check_method_bodies : Declarations → List ℕ → List Method → Checked (Unit {0})
check_method_bodies d class [] = Ok tt
check_method_bodies d class (m ∷ ms) =
    check_method_body d class m >> check_method_bodies d class ms

-- the bodies of all methods of classes, in source order
abbrev pub check_class_bodies : Declarations → List Class → Checked (Unit {0})
check_class_bodies d [] = Ok tt
check_class_bodies d (c ∷ cs) =
    check_method_bodies d c.name c.methods >> check_class_bodies d cs
