-- Laws of typed code: whatever it is, it ends as its types say.
use Rattle.std.specs.Prelude.{◌≡◌, ℕ, List, [], ◌∷◌, true, Option, Some, Ok}
use Rattle.rb_trees.specs.declared.values.Value.{Value}
use Rattle.rb_trees.specs.mirror.Code.{Expr, Exprs, Stmt, Stmts}
use Rattle.rb_trees.specs.mirror.Declarations.{Param, Interface, Class, Method}
use Rattle.rb_meaning_types.specs.Kinds.{Kind, Named, kind_of}
use Rattle.rb_meaning_types.specs.Violations.{Checked, Placed}
use Rattle.rb_meaning_types.specs.Declared.{Declarations, Context, of_service}
use Rattle.rb_meaning_types.specs.Scopes.{Scope, parameters}
use Rattle.rb_meaning_types.specs.Expressions.{type_of, types_of}
use Rattle.rb_meaning_types.specs.Statements.{check_stmt, check_stmts}
use Rattle.rb_meaning_types.specs.Bodies.{check_class_bodies}
use Rattle.rb_meaning_types.specs.Declarations.{check_declarations}
use Rattle.rb_meaning_types.specs.Programs.{check_service}
use Rattle.rb_meaning_types.specs.Fits.{classes_of, Fits}
use Rattle.rb_meaning_code.specs.State.{Local}
use Rattle.rb_meaning_code.specs.Dialogue.{Dialogue, Outcome, handle}
use Rattle.rb_meaning_code.specs.Calls.{Bodies, call}
use Rattle.rb_meaning_code.specs.Expressions.{evaluates, evaluates_all}
use Rattle.rb_meaning_code.specs.Statements.{performs, performs_all, block}
use Rattle.rb_meaning_code.specs.Bodies.{bodies_of, runs, in_service}
use Rattle.rb_law_types.specs.Formed.{IsFormedExpr, AreFormedExprs, IsFormedStmt, AreFormedStmts, AreFormed}
use Rattle.rb_law_types.specs.Own.{IsOwnPlace}
use Rattle.rb_law_types.specs.Ends.{Place, context, FitsPlace, Ends, OfKind, OfKinds, Nothing, Returns}
use Rattle.rb_law_types.specs.Asked.{Site, Own, InBatch, Keeps, KeepsAlone}
use Rattle.rb_law_types.specs.Noted.{IsNotedExpr, AreNotedExprs, IsNotedStmt, AreNotedStmts}
use Rattle.rb_law_types.specs.Admitted.{HasMethod, IsAdmittedExpr, AreAdmittedExprs, IsAdmittedStmt, AreAdmittedStmts}
use Rattle.rb_law_types.specs.Batches.{sites, sites_in, MayHold, AreAmong, MethodsAsk}

-- Typed declarations, whose code is formed. A service has no interfaces.
pub record AreTyped (d : Declarations) : Type 0 where
  pub declared : check_declarations d ≡ Ok tt
  pub bodies : check_class_bodies d d.classes ≡ Ok tt
  pub formed : AreFormed d.classes
  pub alone : d.service ≡ true → d.interfaces ≡ []

-- Code stands at a place of the own side, and its local state fits the scope there.
pub record Stands (d : Declarations) (p : Place) (l : Local) : Type 0 where
  pub own : IsOwnPlace (context d p) p.scope
  pub fits : FitsPlace d p l

-- typed and formed code of a place: an expression of a type, expressions of types, statements that lead to a scope
abbrev pub HasKind : Declarations → Place → Expr → Kind → Type 0
HasKind d p e kind = (type_of (context d p) p.scope e ≡ Ok kind) × IsFormedExpr e

abbrev pub HaveKinds : Declarations → Place → Exprs → List Placed → Type 0
HaveKinds d p es kinds = (types_of (context d p) p.scope es ≡ Ok kinds) × AreFormedExprs es

abbrev pub LeadsTo : Declarations → Place → Stmt → Scope → Type 0
LeadsTo d p s after = (check_stmt (context d p) p.scope s ≡ Ok after) × IsFormedStmt s

abbrev pub LeadTo : Declarations → Place → Stmts → Scope → Type 0
LeadTo d p ss after = (check_stmts (context d p) p.scope ss ≡ Ok after) × AreFormedStmts ss

-- code of a place that asks these batches alone, if any may stand there
abbrev pub Asks : Declarations → List Site → Place → Stmt → Type 0
Asks d batches p s = MayHold (context d p) → AreAmong batches (sites (context d p) p.scope s)

abbrev pub AllAsk : Declarations → List Site → Place → Stmts → Type 0
AllAsk d batches p ss = MayHold (context d p) → AreAmong batches (sites_in (context d p) p.scope ss)

-- code of a batch of an admitted program, with its types noted by their positions
abbrev pub IsBatchExpr : (ℕ → Option (Checked Kind)) → Context → Scope → Expr → Type 0
IsBatchExpr types x scope e = IsNotedExpr types x scope e × IsAdmittedExpr x scope e

abbrev pub AreBatchExprs : (ℕ → Option (Checked Kind)) → Context → Scope → Exprs → Type 0
AreBatchExprs types x scope es = AreNotedExprs types x scope es × AreAdmittedExprs x scope es

abbrev pub IsBatchStmt : (ℕ → Option (Checked Kind)) → Context → Scope → Stmt → Type 0
IsBatchStmt types x scope s = IsNotedStmt types x scope s × IsAdmittedStmt x scope s

abbrev pub AreBatchStmts : (ℕ → Option (Checked Kind)) → Context → Scope → Stmts → Type 0
AreBatchStmts types x scope ss = AreNotedStmts types x scope ss × AreAdmittedStmts x scope ss

-- how it ends that begins there in a local state: by a value of a type, by values of types, in a scope
abbrev pub EndsIn : Declarations → Place → Local → Kind → Outcome Value → Type 0
EndsIn d p l kind o = Ends (context d p) p.scope p.scope (OfKind (context d p) kind) (classes_of l.heap) o

abbrev pub EndsInAll : Declarations → Place → Local → List Placed → Outcome (List Value) → Type 0
EndsInAll d p l kinds o = Ends (context d p) p.scope p.scope (OfKinds (context d p) kinds) (classes_of l.heap) o

abbrev pub EndsAt : Declarations → Place → Local → Scope → Outcome (Unit {0}) → Type 0
EndsAt d p l after o = Ends (context d p) p.scope after Nothing (classes_of l.heap) o

-- as many arguments as parameters, each of its type
abbrev pub ArgumentsFit : List Interface → List (List ℕ) → List Param → List Value → Type 0
ArgumentsFit interfaces classes [] [] = Unit {0}
ArgumentsFit interfaces classes [] (v ∷ vs) = ⊥
ArgumentsFit interfaces classes (p ∷ ps) [] = ⊥
ArgumentsFit interfaces classes (p ∷ ps) (v ∷ vs) = Fits interfaces classes (kind_of p.kind) v × ArgumentsFit interfaces classes ps vs

-- A call of a method on an object of its class, with arguments that fit.
pub record CallFits (d : Declarations) (class name : List ℕ) (m : Method) (classes : List (List ℕ)) (receiver : Value) (args : List Value) : Type 0 where
  pub has : HasMethod d class name m
  pub on : Fits d.interfaces classes (Named class) receiver
  pub args_fit : ArgumentsFit d.interfaces classes m.signature.params args

-- where a method's body begins
abbrev pub body_of : List ℕ → Method → Place
body_of class m = record { this = Some class; remote = m.remote; scope = parameters m.signature.params }

-- the bodies of the methods of declarations, within so much gas
abbrev pub bodies : Declarations → ℕ → Bodies
bodies d gas = bodies_of d.classes gas

-- Of all typed code of the own side that asks these batches alone: each run of it leads to such an end as its types say.
pub record OfTypedCode (d : Declarations) (batches : List Site) (Leads : (A : Type 0) → (A → Type 0) → Dialogue A → Type 0) : Type 0 where
  pub values : (p : Place) (e : Expr) (kind : Kind) (gas : ℕ) (l : Local) → HasKind d p e kind → Stands d p l
      → Leads (Outcome Value) (EndsIn d p l kind) (evaluates (bodies d gas) e l)
  pub lists : (p : Place) (es : Exprs) (kinds : List Placed) (gas : ℕ) (l : Local) → HaveKinds d p es kinds → Stands d p l
      → Leads (Outcome (List Value)) (EndsInAll d p l kinds) (evaluates_all (bodies d gas) es l)
  pub statements : (p : Place) (s : Stmt) (after : Scope) (gas : ℕ) (l : Local) → LeadsTo d p s after → Asks d batches p s → Stands d p l
      → Leads (Outcome (Unit {0})) (EndsAt d p l after) (performs (bodies d gas) gas s l)
  pub sequences : (p : Place) (ss : Stmts) (after : Scope) (gas : ℕ) (l : Local) → LeadTo d p ss after → AllAsk d batches p ss → Stands d p l
      → Leads (Outcome (Unit {0})) (EndsAt d p l after) (performs_all (bodies d gas) gas ss l)
  pub blocks : (p : Place) (ss : Stmts) (after : Scope) (gas : ℕ) (l : Local) → LeadTo d p ss after → AllAsk d batches p ss → Stands d p l
      → Leads (Outcome (Unit {0})) (EndsAt d p l p.scope) (block (performs_all (bodies d gas) gas ss) l)
  pub calls : (p : Place) (class name : List ℕ) (m : Method) (receiver : Value) (args : List Value) (at gas : ℕ) (l : Local)
      → CallFits d class name m (classes_of l.heap) receiver args → Stands d p l
      → Leads (Outcome Value) (EndsIn d p l (kind_of m.signature.result)) (call (bodies d gas) at receiver name args l)
  pub methods : (class name : List ℕ) (m : Method) (gas : ℕ) (l : Local) → HasMethod d class name m → FitsPlace d (body_of class m) l
      → Leads (Outcome Value) (Returns d (kind_of m.signature.result) (classes_of l.heap)) (runs (bodies d gas) gas m.body l)

-- Of all code in the batches of a program: the same. Remote objects and rows are in scope, too.
pub record OfBatchCode (d : Declarations) (types : ℕ → Option (Checked Kind)) (Leads : (A : Type 0) → (A → Type 0) → Dialogue A → Type 0) : Type 0 where
  pub values : (p : Place) (e : Expr) (kind : Kind) (gas : ℕ) (l : Local) → HasKind d p e kind → IsBatchExpr types (context d p) p.scope e → FitsPlace d p l
      → Leads (Outcome Value) (EndsIn d p l kind) (evaluates (bodies d gas) e l)
  pub lists : (p : Place) (es : Exprs) (kinds : List Placed) (gas : ℕ) (l : Local) → HaveKinds d p es kinds → AreBatchExprs types (context d p) p.scope es → FitsPlace d p l
      → Leads (Outcome (List Value)) (EndsInAll d p l kinds) (evaluates_all (bodies d gas) es l)
  pub statements : (p : Place) (s : Stmt) (after : Scope) (gas : ℕ) (l : Local) → LeadsTo d p s after → IsBatchStmt types (context d p) p.scope s → FitsPlace d p l
      → Leads (Outcome (Unit {0})) (EndsAt d p l after) (performs (bodies d gas) gas s l)
  pub sequences : (p : Place) (ss : Stmts) (after : Scope) (gas : ℕ) (l : Local) → LeadTo d p ss after → AreBatchStmts types (context d p) p.scope ss → FitsPlace d p l
      → Leads (Outcome (Unit {0})) (EndsAt d p l after) (performs_all (bodies d gas) gas ss l)
  pub blocks : (p : Place) (ss : Stmts) (after : Scope) (gas : ℕ) (l : Local) → LeadTo d p ss after → AreBatchStmts types (context d p) p.scope ss → FitsPlace d p l
      → Leads (Outcome (Unit {0})) (EndsAt d p l p.scope) (block (performs_all (bodies d gas) gas ss) l)

-- Typed code keeps what fits, at each place of the own side and in whatever surroundings, as long as their answers fit and
-- its batches end as statements do.
abbrev pub TypesKeep : Type 0
TypesKeep = (d : Declarations) → AreTyped d → (batches : List Site) → MethodsAsk batches d → OfTypedCode d batches (λ A P run. Keeps d (Own batches) P run)

-- So does the code of batches, as long as remote calls give values of their types too. It asks no batch.
abbrev pub BatchesKeep : Type 0
BatchesKeep = (d : Declarations) → AreTyped d → (types : ℕ → Option (Checked Kind)) → OfBatchCode d types (λ A P run. Keeps d (InBatch types) P run)

-- The code of a typed service asks nothing but whether turns over lists go on, and keeps what fits. No batch stands in it.
abbrev pub ServicesKeep : Type 0
ServicesKeep = (classes : List Class) → check_service classes ≡ Ok tt → AreFormed classes → OfTypedCode (of_service classes) [] (λ A P run. KeepsAlone P run)

-- So it ends in the surroundings of a service.
abbrev pub ServicesEnd : Type 0
ServicesEnd = (classes : List Class) → check_service classes ≡ Ok tt → AreFormed classes → OfTypedCode (of_service classes) [] (λ A P run. P (handle in_service run tt).0)
