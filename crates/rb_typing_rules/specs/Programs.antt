-- The rules by cases of bodies, declarations, programs and services.
use Rattle.std.specs.Prelude.{◌≡◌, ℕ, List, [], map, Bool as Truth, true, false, ◌&&◌, Option, Some, None}
use Rattle.rb_trees.specs.mirror.Types.{TypeTree, Int, Bool, Text, Unit as UnitType, Named, ListOf, RowsOf}
use Rattle.rb_trees.specs.mirror.Code.{Expr}
use Rattle.rb_trees.specs.mirror.Declarations.{Param, Signature, Interface, Body, Method, Class, Program}
use Rattle.rb_meaning_types.specs.Kinds.{Kind, kind_of, is_unit}
use Rattle.rb_meaning_types.specs.Scopes.{Scope, parameters}
use Rattle.rb_meaning_types.specs.Places.{is_remote_value, is_remote_result, is_main_result}
use Rattle.rb_meaning_types.specs.Declared.{Declarations, Context, is_class, is_declared, of_program, of_service, method_context, main_context}
use Rattle.rb_typing_rules.specs.Order.{Each, AreMembers}
use Rattle.rb_typing_rules.specs.Rules.{HasType, AllLead}

-- the names in a type are declared
abbrev pub IsKnown : Declarations → TypeTree → Type 0
IsKnown d (Int at) = Unit {0}
IsKnown d (Bool at) = Unit {0}
IsKnown d (Text at) = Unit {0}
IsKnown d (UnitType at) = Unit {0}
IsKnown d (Named at name) = is_declared d name ≡ true
IsKnown d (ListOf at item) = IsKnown d item
IsKnown d (RowsOf at row) = IsKnown d row

-- the type of a value of local code
abbrev pub IsValueType : Declarations → TypeTree → Type 0
IsValueType d (Int at) = Unit {0}
IsValueType d (Bool at) = Unit {0}
IsValueType d (Text at) = Unit {0}
IsValueType d (UnitType at) = ⊥
IsValueType d (Named at name) = is_class d name ≡ true
IsValueType d (ListOf at item) = IsValueType d item
IsValueType d (RowsOf at row) = ⊥

-- such a type or Unit
abbrev pub IsValueResult : Declarations → TypeTree → Type 0
IsValueResult d (UnitType at) = Unit {0}
IsValueResult d kind = IsValueType d kind

-- the type of a parameter, of an interface's method or of a class's
abbrev pub IsParameterType : Truth → Declarations → TypeTree → Type 0
IsParameterType true d kind = IsKnown d kind × (is_remote_value d kind ≡ true)
IsParameterType false d kind = IsKnown d kind × IsValueType d kind

-- the type of a result, of an interface's method or of a class's
abbrev pub IsResultType : Truth → Declarations → TypeTree → Type 0
IsResultType true d kind = IsKnown d kind × (is_remote_result d kind ≡ true)
IsResultType false d kind = IsKnown d kind × IsValueResult d kind

-- parameters: each name differs from those before, and each type may stand there
abbrev pub AreParams : Truth → Declarations → List (List ℕ) → List Param → Type 0
AreParams remote d = AreMembers (λ p. p.name) (λ p. IsParameterType remote d p.kind)

abbrev pub IsSignature : Truth → Declarations → Signature → Type 0
IsSignature remote d s = AreParams remote d [] s.params × IsResultType remote d s.result

abbrev pub AreSignatures : Declarations → List (List ℕ) → List Signature → Type 0
AreSignatures d = AreMembers (λ s. s.name) (IsSignature true d)

-- a service has no `remote` method
abbrev pub IsMethod : Declarations → Method → Type 0
IsMethod d m = IsSignature false d m.signature × ((d.service && m.remote) ≡ false)

abbrev pub AreMethods : Declarations → List (List ℕ) → List Method → Type 0
AreMethods d = AreMembers (λ m. m.signature.name) (IsMethod d)

abbrev pub AreInterfaces : Declarations → List (List ℕ) → List Interface → Type 0
AreInterfaces d = AreMembers (λ i. i.name) (λ i. AreSignatures d [] i.methods)

abbrev pub IsClass : Declarations → Class → Type 0
IsClass d c = AreParams false d [] c.fields × AreMethods d [] c.methods

abbrev pub AreClasses : Declarations → List (List ℕ) → List Class → Type 0
AreClasses d = AreMembers (λ c. c.name) (IsClass d)

-- interfaces, then classes; a name of an interface is none of a class
abbrev pub AreDeclared : Declarations → Type 0
AreDeclared d = AreInterfaces d [] d.interfaces × AreClasses d (map (λ i. i.name) d.interfaces) d.classes

-- a `return` has the result's type, and stands exactly where the result isn't Unit
abbrev pub Returns : Context → Scope → Kind → Option Expr → Type 0
Returns x scope kind (Some e) = (is_unit kind ≡ false) × HasType x scope e kind
Returns x scope kind None = is_unit kind ≡ true

-- a body: its statements lead to a scope in which its `return` is right
pub record IsBody (x : Context) (scope : Scope) (kind : Kind) (body : Body) : Type 0 where
  pub after : Scope
  pub statements : AllLead x scope body.statements after
  pub result : Returns x after kind body.result

abbrev pub IsMethodBody : Declarations → List ℕ → Method → Type 0
IsMethodBody d class m =
    IsBody (method_context d class m.remote) (parameters m.signature.params) (kind_of m.signature.result) m.body

abbrev pub AreMethodBodies : Declarations → List ℕ → List Method → Type 0
AreMethodBodies d class = Each (IsMethodBody d class)

abbrev pub AreClassBodies : Declarations → List Class → Type 0
AreClassBodies d = Each (λ c. AreMethodBodies d c.name c.methods)

-- A typed program.
pub record IsTyped (p : Program) : Type 0 where
  pub declared : AreDeclared (of_program p)
  pub bodies : AreClassBodies (of_program p) p.classes
  pub result_known : IsKnown (of_program p) p.result
  pub result : is_main_result p.at p.result ≡ true
  pub body : IsBody (main_context (of_program p)) [] (kind_of p.result) p.body

-- A typed service.
pub record IsTypedService (classes : List Class) : Type 0 where
  pub declared : AreDeclared (of_service classes)
  pub bodies : AreClassBodies (of_service classes) classes
