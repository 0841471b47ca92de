-- The first violation of a program or a service, by cases: up to there it is typed by the rules, and a rule is broken.
use Rattle.std.specs.Prelude.{◌≡◌, ℕ, List, [], map, Bool as Truth, true, false, ◌&&◌, Option, Some, None}
use Rattle.rb_trees.specs.mirror.Code.{Expr, expr_at}
use Rattle.rb_trees.specs.mirror.Declarations.{Param, Signature, Interface, Body, Method, Class, Program}
use Rattle.rb_meaning_types.specs.Kinds.{Kind, kind_of, is_unit}
use Rattle.rb_meaning_types.specs.Violations.{Violation, WrongType, MissingReturn, NotAllowedHere}
use Rattle.rb_meaning_types.specs.Scopes.{Scope, parameters}
use Rattle.rb_meaning_types.specs.Declared.{Declarations, Context, of_program, of_service, method_context, main_context}
use Rattle.rb_meaning_types.specs.Places.{is_main_result}
use Rattle.rb_typing_rules.specs.Rules.{HasType, AllLead}
use Rattle.rb_typing_rules.specs.Programs.{IsKnown, IsParameterType, AreParams, IsSignature, AreSignatures, IsMethod, AreInterfaces, IsClass, AreDeclared, IsMethodBody, AreMethodBodies, AreClassBodies}
use Rattle.rb_typing_rules.specs.Order.{Differ, InOrder, InList, InMembers}
use Rattle.rb_typing_rules.specs.BrokenTypes.{BrokenParameter, BrokenResult, BrokenMainResult}
use Rattle.rb_typing_rules.specs.BrokenCode.{BrokenExpr, BrokenStmts}

-- parameters, of an interface's method or of a class's, or fields
abbrev pub BrokenParams : Truth → Declarations → List (List ℕ) → List Param → Violation → Type 0
BrokenParams remote d = InMembers (λ p. p.at) (λ p. p.name) (λ p. IsParameterType remote d p.kind) (λ p. BrokenParameter remote d p.kind)

-- a signature: its parameters, then its result
abbrev pub BrokenSignature : Truth → Declarations → Signature → Violation → Type 0
BrokenSignature remote d s = InOrder (BrokenParams remote d [] s.params) (AreParams remote d [] s.params) (BrokenResult remote d s.result)

abbrev pub BrokenSignatures : Declarations → List (List ℕ) → List Signature → Violation → Type 0
BrokenSignatures d = InMembers (λ s. s.at) (λ s. s.name) (IsSignature true d) (BrokenSignature true d)

-- A method of a class: its signature, or it is a `remote` one of a service.
pub data BrokenMethod (d : Declarations) (m : Method) : Violation → Type 0 where
  in_signature : (v : Violation) → BrokenSignature false d m.signature v → BrokenMethod d m v
  remote_method : IsSignature false d m.signature → (d.service && m.remote) ≡ true → BrokenMethod d m (NotAllowedHere m.signature.at)

abbrev pub BrokenMethods : Declarations → List (List ℕ) → List Method → Violation → Type 0
BrokenMethods d = InMembers (λ m. m.signature.at) (λ m. m.signature.name) (IsMethod d) (BrokenMethod d)

abbrev pub BrokenInterfaces : Declarations → List (List ℕ) → List Interface → Violation → Type 0
BrokenInterfaces d = InMembers (λ i. i.at) (λ i. i.name) (λ i. AreSignatures d [] i.methods) (λ i. BrokenSignatures d [] i.methods)

-- a class: its fields, then its methods
abbrev pub BrokenClass : Declarations → Class → Violation → Type 0
BrokenClass d c = InOrder (BrokenParams false d [] c.fields) (AreParams false d [] c.fields) (BrokenMethods d [] c.methods)

abbrev pub BrokenClasses : Declarations → List (List ℕ) → List Class → Violation → Type 0
BrokenClasses d = InMembers (λ c. c.at) (λ c. c.name) (IsClass d) (BrokenClass d)

-- interfaces, then classes; a name of an interface is none of a class
abbrev pub BrokenDeclarations : Declarations → Violation → Type 0
BrokenDeclarations d =
    InOrder (BrokenInterfaces d [] d.interfaces) (AreInterfaces d [] d.interfaces) (BrokenClasses d (map (λ i. i.name) d.interfaces) d.classes)

-- A `return`: its expression, or this has a type though the result is Unit, or has another type than the result; or
-- there is none though the result isn't Unit, told at a position.
pub data BrokenReturn (x : Context) (scope : Scope) (at : ℕ) (kind : Kind) : Option Expr → Violation → Type 0 where
  in_returned : (e : Expr) (v : Violation) → BrokenExpr x scope e v → BrokenReturn x scope at kind (Some e) v
  unit_returned : (e : Expr) (found : Kind) → HasType x scope e found → is_unit kind ≡ true → BrokenReturn x scope at kind (Some e) (WrongType (expr_at e) found)
  other_returned : (e : Expr) (found : Kind) → HasType x scope e found → Differ kind found → BrokenReturn x scope at kind (Some e) (WrongType (expr_at e) found)
  no_return : is_unit kind ≡ false → BrokenReturn x scope at kind None (MissingReturn at)

-- A body: its statements, or these lead to a scope in which its `return` is broken.
pub data BrokenBody (x : Context) (scope : Scope) (at : ℕ) (kind : Kind) (body : Body) : Violation → Type 0 where
  in_statements : (v : Violation) → BrokenStmts x scope body.statements v → BrokenBody x scope at kind body v
  in_return : (after : Scope) (v : Violation) → AllLead x scope body.statements after → BrokenReturn x after at kind body.result v → BrokenBody x scope at kind body v

abbrev pub BrokenMethodBody : Declarations → List ℕ → Method → Violation → Type 0
BrokenMethodBody d class m =
    BrokenBody (method_context d class m.remote) (parameters m.signature.params) m.signature.at (kind_of m.signature.result) m.body

abbrev pub BrokenMethodBodies : Declarations → List ℕ → List Method → Violation → Type 0
BrokenMethodBodies d class = InList (IsMethodBody d class) (BrokenMethodBody d class)

abbrev pub BrokenClassBodies : Declarations → List Class → Violation → Type 0
BrokenClassBodies d = InList (λ c. AreMethodBodies d c.name c.methods) (λ c. BrokenMethodBodies d c.name c.methods)

-- The first violation of a program: in its declarations; or these are right, and it is in a method's body; or these are
-- right too, and it is in the result type of `main`, or in its body.
pub data FirstViolation (p : Program) : Violation → Type 0 where
  in_declarations : (v : Violation) → BrokenDeclarations (of_program p) v → FirstViolation p v
  in_methods : (v : Violation) → AreDeclared (of_program p) → BrokenClassBodies (of_program p) p.classes v → FirstViolation p v
  in_main_result : (v : Violation) → AreDeclared (of_program p) → AreClassBodies (of_program p) p.classes
      → BrokenMainResult (of_program p) p.at p.result v → FirstViolation p v
  in_main : (v : Violation) → AreDeclared (of_program p) → AreClassBodies (of_program p) p.classes → IsKnown (of_program p) p.result
      → is_main_result p.at p.result ≡ true → BrokenBody (main_context (of_program p)) [] p.at (kind_of p.result) p.body v → FirstViolation p v

-- The first violation of a service: in its declarations; or these are right, and it is in a method's body.
abbrev pub FirstViolationOfService : List Class → Violation → Type 0
FirstViolationOfService classes =
    InOrder (BrokenDeclarations (of_service classes)) (AreDeclared (of_service classes)) (BrokenClassBodies (of_service classes) classes)
