-- A law of local code: it does the same where it stands in a batch and where it is replayed.
use Rattle.std.specs.Prelude.{Bool, ◌≡◌, ℕ, List, [], Option, Some, false}
use Rattle.rb_trees.specs.mirror.Code.{Expr, Exprs, Stmt, Stmts}
use Rattle.rb_trees.specs.mirror.Declarations.{Program}
use Rattle.rb_trees.specs.mirror.Services.{Service}
use Rattle.rb_meaning_types.specs.Kinds.{Kind, Named}
use Rattle.rb_meaning_types.specs.Violations.{Placed}
use Rattle.rb_meaning_types.specs.Declared.{Context, of_program}
use Rattle.rb_meaning_types.specs.Scopes as typed
use Rattle.rb_meaning_types.specs.Notes.{type_at}
use Rattle.rb_meaning_types.specs.Fits.{TableFits}
use Rattle.rb_meaning_code.specs.State.{Local}
use Rattle.rb_meaning_code.specs.Dialogue.{Run}
use Rattle.rb_meaning_code.specs.Calls.{Bodies}
use Rattle.rb_meaning_code.specs.Expressions.{evaluates, evaluates_all}
use Rattle.rb_meaning_code.specs.Statements.{performs, performs_all}
use Rattle.rb_meaning_code.specs.Bodies.{bodies_of}
use Rattle.rb_meaning_code.specs.ScriptRun.{Ground, Vars}
use Rattle.rb_meaning_flow.specs.Facts.{Facts, facts_of}
use Rattle.rb_meaning_flow.specs.Scopes.{Scope}
use Rattle.rb_meaning_flow.specs.Portable.{block_holds}
use Rattle.rb_meaning_flow.specs.Marks.{is_portable_call}
use Rattle.rb_meaning_flow.specs.Programs.{is_carried_at}
use Rattle.rb_meaning.specs.State.{Outside}
use Rattle.rb_meaning.specs.Unsplit.{in_batch, stands_remote}
use Rattle.rb_meaning.specs.RemoteExprs.{remote_in, all_remote_in, remote_of}
use Rattle.rb_meaning_split.specs.Refs.{Refs}
use Rattle.rb_meaning_split.specs.Cuts.{cut, cut_all, cut_stmt}
use Rattle.rb_law_types.specs.Ends.{Place, context, FitsPlace}
use Rattle.rb_law_types.specs.Asked.{InBatch}
use Rattle.rb_law_types.specs.Around.{HandlerFits}
use Rattle.rb_law_types.specs.Code.{AreTyped, HasKind, HaveKinds, LeadsTo, LeadTo, IsBatchExpr, AreBatchExprs, IsBatchStmt, AreBatchStmts}
use Rattle.rb_law_local.specs.Shown.{is_far, at_client, Fronts, LeftSeen, SameNames, FellSame}
use Rattle.rb_law_local.specs.Wanted.{AllWanted}
use Rattle.rb_law_local.specs.Parted.{Parted, AllParted, PartedStmt, PartedStmts}
use Rattle.rb_law_local.specs.Placed.{PlacedExpr, PlacedExprs, PlacedStmt, PlacedStmts, PlacedClasses}
use Rattle.rb_law_local.specs.Meets.{Meets}

-- the table of a service fits
abbrev pub HoldsTable : Service → Outside → Type 0
HoldsTable service s = TableFits service.classes service.root s.server.table

-- a position that isn't that of a part of a remote expression
abbrev pub IsLocalAt : Program → ℕ → Type 0
IsLocalAt p at = stands_remote p at ≡ false

-- such a position that isn't that of a carried loop either
abbrev pub IsPlainAt : Program → ℕ → Type 0
IsPlainAt p at = IsLocalAt p at × (is_carried_at p at ≡ false)

-- A typed program, in whose methods nothing is remote, on a service whose answers fit as long as its table does.
pub record FitsService (p : Program) (service : Service) : Type 0 where
  pub declared : AreTyped (of_program p)
  pub placed : PlacedClasses (IsPlainAt p) p.classes
  pub handler : HandlerFits (of_program p) (InBatch (type_at p)) (HoldsTable service) (in_batch p service)

-- Where a batch's code stands, what the script knows there, and how much gas code has.
pub record Stand : Type 0 where
  pub place : Place
  pub scope : Scope
  pub ground : Ground
  pub refs : Refs
  pub vars : Vars
  pub gas : ℕ

-- `this`, where there is one, is an object of the own side
abbrev pub IsNearThis : Program → Option (List ℕ) → Type 0
IsNearThis p this = (class : List ℕ) → this ≡ Some class → is_far (of_program p) (Named class) ≡ false

module _ (p : Program) (service : Service) (at : Stand) where
  abbrev pub x : Context
  x = context (of_program p) at.place

  abbrev pub ws : typed.Scope
  ws = at.place.scope

  abbrev pub f : Facts
  f = facts_of p

  abbrev pub code : Bodies
  code = bodies_of p.classes at.gas

  -- what a client takes as a whole there
  abbrev pub taken : Expr → Bool
  taken e = is_portable_call f at.scope e

  -- Local code that stands there, of an admitted batch: it is typed, its remote expressions stand as they should, and what else
  -- may fault stands at positions of local code, no carried loop among them.

  pub record IsLocalExpr (e : Expr) (k : Kind) : Type 0 where
    pub typed : HasKind (of_program p) at.place e k
    pub noted : IsBatchExpr (type_at p) x ws e
    pub parted : Parted f at.scope x ws e
    pub placed : PlacedExpr (IsPlainAt p) taken e

  pub record AreLocalExprs (es : Exprs) (ks : List Placed) : Type 0 where
    pub typed : HaveKinds (of_program p) at.place es ks
    pub noted : AreBatchExprs (type_at p) x ws es
    pub parted : AllParted f at.scope x ws es
    pub placed : PlacedExprs (IsPlainAt p) taken es

  pub record IsLocalStmt (s : Stmt) (after : typed.Scope) : Type 0 where
    pub typed : LeadsTo (of_program p) at.place s after
    pub noted : IsBatchStmt (type_at p) x ws s
    pub parted : PartedStmt f at.scope x ws s
    pub placed : PlacedStmt (IsPlainAt p) taken s

  pub record AreLocalStmts (ss : Stmts) (after : typed.Scope) : Type 0 where
    pub typed : LeadTo (of_program p) at.place ss after
    pub noted : AreBatchStmts (type_at p) x ws ss
    pub parted : PartedStmts f at.scope x ws ss
    pub placed : PlacedStmts (IsPlainAt p) taken ss

  -- A local state that fits there.
  abbrev pub FitsHere : Local → Type 0
  FitsHere l = FitsPlace (of_program p) at.place l

  -- that of the client
  abbrev pub client_of : Local → Local
  client_of l = at_client x ws l

  -- what a client takes there
  abbrev pub Wants : Local → List Expr → Type 0
  Wants l es = AllWanted p service at.ground at.refs at.vars (HoldsTable service) x ws l.names es

  abbrev pub MeetHere : {A : Type 0} → (A → Local → Local → Type 0) → (Local → Local → Type 0) → List Expr → ℕ → Run A → Run A → Type 0
  MeetHere Q F es n whole client = Meets p service at.ground at.refs at.vars at.gas (HoldsTable service) (IsLocalAt p) Q F es n whole client

  -- so do runs of expressions, which leave the names, and of statements that lead to a scope
  abbrev pub ExprsMeet : {A : Type 0} → Local → List Expr → ℕ → Run A → Run A → Type 0
  ExprsMeet l es n whole client = MeetHere (SameNames x ws l.names) (FellSame x ws l.names) es n whole client

  abbrev pub StmtsMeet : typed.Scope → List Expr → ℕ → Run (Unit {0}) → Run (Unit {0}) → Type 0
  StmtsMeet after es n whole client = MeetHere (LeftSeen x after) (Fronts x ws) es n whole client

  -- Expressions and statements do the same without their remote expressions, and blocks in which no remote operation stands do
  -- the same as they are.
  pub record LocalCodeMeets : Type 0 where
    pub values : (e : Expr) (k : Kind) (n : ℕ) (l : Local) → IsLocalExpr e k → FitsHere l → Wants l (remote_in f at.scope e)
        → ExprsMeet l (remote_in f at.scope e) n (evaluates code e l) (evaluates code (cut f at.scope n e) (client_of l))
    pub lists : (es : Exprs) (ks : List Placed) (n : ℕ) (l : Local) → AreLocalExprs es ks → FitsHere l → Wants l (all_remote_in f at.scope es)
        → ExprsMeet l (all_remote_in f at.scope es) n (evaluates_all code es l) (evaluates_all code (cut_all f at.scope n es) (client_of l))
    pub statements : (s : Stmt) (after : typed.Scope) (n : ℕ) (l : Local) → IsLocalStmt s after → FitsHere l → Wants l (remote_of f at.scope s)
        → StmtsMeet after (remote_of f at.scope s) n (performs code at.gas s l) (performs code at.gas (cut_stmt f at.scope n s) (client_of l))
    pub sequences : (ss : Stmts) (after : typed.Scope) (n : ℕ) (l : Local) → AreLocalStmts ss after → block_holds f ss ≡ false → FitsHere l
        → StmtsMeet after [] n (performs_all code at.gas ss l) (performs_all code at.gas ss (client_of l))

-- Local code does the same where it stands and where it is replayed.
abbrev pub LocalCodeDoesTheSame : Type 0
LocalCodeDoesTheSame = (p : Program) (service : Service) → FitsService p service → (at : Stand) → IsNearThis p at.place.this → LocalCodeMeets p service at
