-- The rules by cases agree with the judgement that computes, both ways.
use Rattle.std.specs.Prelude.{◌≡◌, ◌↔◌, ◌⊎◌, List, Ok, Err}
use Rattle.rb_trees.specs.mirror.Code.{Expr, Stmts}
use Rattle.rb_trees.specs.mirror.Declarations.{Class, Program}
use Rattle.rb_meaning_types.specs.Kinds.{Kind}
use Rattle.rb_meaning_types.specs.Violations.{Violation}
use Rattle.rb_meaning_types.specs.Scopes.{Scope}
use Rattle.rb_meaning_types.specs.Declared.{Context}
use Rattle.rb_meaning_types.specs.Expressions.{type_of}
use Rattle.rb_meaning_types.specs.Statements.{check_stmts}
use Rattle.rb_meaning_types.specs.Programs.{check_program, check_service}
use Rattle.rb_typing_rules.specs.Rules.{HasType, AllLead}
use Rattle.rb_typing_rules.specs.Programs.{IsTyped, IsTypedService}
use Rattle.rb_typing_rules.specs.BrokenCode.{BrokenExpr, BrokenStmts}
use Rattle.rb_typing_rules.specs.BrokenPrograms.{FirstViolation, FirstViolationOfService}

-- the type of an expression is computed exactly where the rules give it
abbrev pub ExprsAgree : Type 0
ExprsAgree = (x : Context) (scope : Scope) (e : Expr) (kind : Kind) → (type_of x scope e ≡ Ok kind) ↔ HasType x scope e kind

-- the scope after statements is computed exactly where the rules lead to it
abbrev pub StmtsAgree : Type 0
StmtsAgree = (x : Context) (scope : Scope) (ss : Stmts) (after : Scope) → (check_stmts x scope ss ≡ Ok after) ↔ AllLead x scope ss after

-- a program is typed exactly where the rules say so
abbrev pub ProgramsAgree : Type 0
ProgramsAgree = (p : Program) → (check_program p ≡ Ok tt) ↔ IsTyped p

-- a service is typed exactly where the rules say so
abbrev pub ServicesAgree : Type 0
ServicesAgree = (classes : List Class) → (check_service classes ≡ Ok tt) ↔ IsTypedService classes

-- an expression's first violation is computed exactly where the rules are broken there first
abbrev pub BrokenExprsAgree : Type 0
BrokenExprsAgree = (x : Context) (scope : Scope) (e : Expr) (v : Violation) → (type_of x scope e ≡ Err v) ↔ BrokenExpr x scope e v

-- the first violation of statements is computed exactly where the rules are broken there first
abbrev pub BrokenStmtsAgree : Type 0
BrokenStmtsAgree = (x : Context) (scope : Scope) (ss : Stmts) (v : Violation) → (check_stmts x scope ss ≡ Err v) ↔ BrokenStmts x scope ss v

-- a program's first violation is computed exactly where the rules are broken there first
abbrev pub FirstViolationsAgree : Type 0
FirstViolationsAgree = (p : Program) (v : Violation) → (check_program p ≡ Err v) ↔ FirstViolation p v

-- a service's first violation is computed exactly where the rules are broken there first
abbrev pub FirstViolationsOfServicesAgree : Type 0
FirstViolationsOfServicesAgree = (classes : List Class) (v : Violation) → (check_service classes ≡ Err v) ↔ FirstViolationOfService classes v

-- what is judged is typed or has a first violation, not both, and one violation alone
abbrev pub HasOneOutcome : Type 0 → (Violation → Type 0) → Type 0
HasOneOutcome Typed First =
    (Typed ⊎ ((v : Violation) × First v)) × ((v : Violation) → Typed → First v → ⊥) × ((v w : Violation) → First v → First w → v ≡ w)

abbrev pub ProgramsHaveOneOutcome : Type 0
ProgramsHaveOneOutcome = (p : Program) → HasOneOutcome (IsTyped p) (FirstViolation p)

abbrev pub ServicesHaveOneOutcome : Type 0
ServicesHaveOneOutcome = (classes : List Class) → HasOneOutcome (IsTypedService classes) (FirstViolationOfService classes)
