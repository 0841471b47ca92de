-- The rules as steps of a state: what the judgement gives to the scope, and the notes that go with it.
use Rattle.std.specs.Prelude.{ℕ, List, [], ◌∷◌, ◌++◌, length, take, Bool, Option, Some, None, Ok, Err}
use Rattle.rb_trees.specs.mirror.Types.{TypeTree}
use Rattle.rb_trees.specs.mirror.Code.{Expr, Exprs, Stmt, Stmts}
use Rattle.rb_trees.specs.mirror.Declarations.{Param, Body, Method, Class, Program}
use Rattle.rb_trees.specs.Outcome.{◌>>=◌, ◌>>◌, must}
use Rattle.rb_meaning_types.specs.Kinds.{Kind, Bool as BoolKind, Text, kind_of, is_unit}
use Rattle.rb_meaning_types.specs.Violations.{Checked, Placed, MissingReturn, wanted}
use Rattle.rb_meaning_types.specs.Scopes.{Scope, with_variable, parameters}
use Rattle.rb_meaning_types.specs.Declared.{Declarations, Context}
use Rattle.rb_meaning_types.specs.Expressions as expressions
use Rattle.rb_meaning_types.specs.Statements as statements
use Rattle.rb_meaning_types.specs.Bodies as bodies
use Rattle.rb_meaning_types.specs.Declarations.{check_declarations}
use Rattle.rb_meaning_types.specs.Programs as programs
use Rattle.rb_meaning_types.specs.Notes as notes
use Rattle.rb_meaning_types.specs.Notes.{Note}

-- the variables in scope and the notes so far
pub record State : Type 0 where
  pub scope : Scope
  pub notes : List Note

-- a scope that was checked, with notes
abbrev pub with_notes : List Note → Checked Scope → Checked State
with_notes ns (Ok scope) = Ok (record { scope = scope; notes = ns })
with_notes ns (Err violation) = Err violation

-- what was found, and the state behind it
abbrev pub with_state : {A : Type 0} → State → Checked A → Checked (A × State)
with_state s (Ok a) = Ok (a, s)
with_state s (Err violation) = Err violation

-- a state, or other notes, behind a check that gives nothing
abbrev pub behind : {A : Type 0} → A → Checked (Unit {0}) → Checked A
behind s (Ok u) = Ok s
behind s (Err violation) = Err violation

-- one more note
abbrev pub note : ℕ → Kind → State → Checked State
note at kind s = Ok (record s { notes = s.notes ++ record { at = at; gives = Ok kind } ∷ [] })

-- an expression at its position
unfoldable pub expr : Context → Expr → State → Checked (Placed × State)
expr x e s = with_state (record s { notes = notes.noted x s.scope s.notes e }) (statements.placed x s.scope e)

-- an expression, without a note of its own
unfoldable pub kind : Context → Expr → State → Checked (Kind × State)
kind x e s = with_state (record s { notes = notes.parts_noted x s.scope s.notes e }) (expressions.type_of x s.scope e)

unfoldable pub exprs : Context → Exprs → State → Checked (List Placed × State)
exprs x es s = with_state (record s { notes = notes.all_noted x s.scope s.notes es }) (expressions.types_of x s.scope es)

-- one more variable
abbrev pub bind : List ℕ → Kind → Bool → State → Checked State
bind name kind fixed s = Ok (record s { scope = with_variable s.scope name kind fixed })

-- `val` and `var`, with an initialiser that was placed
unfoldable pub declare : ℕ → List ℕ → Bool → Placed → State → Checked State
declare at name fixed p s = with_notes s.notes (statements.declare s.scope at name fixed p)

-- the variable of a loop over what was placed
unfoldable pub open_loop : ℕ → List ℕ → Placed → State → Checked State
open_loop at name p s = with_notes s.notes (statements.loop_scope s.scope at name p)

-- the name of a fault
unfoldable pub open_catch : ℕ → List ℕ → State → Checked State
open_catch at name s = with_notes s.notes (statements.catch_scope s.scope at name)

-- the root of a batch
unfoldable pub open_batch : Context → ℕ → List ℕ → List ℕ → State → Checked State
open_batch x at interface root s = with_notes s.notes (statements.batch_scope x s.scope at interface root)

-- Statements, and statements in order: what the judgement gives to the scope, and their notes.
unfoldable pub stmt : Context → Stmt → State → Checked State
stmt x tree s = with_notes (notes.stmt_noted x s.scope s.notes tree) (statements.check_stmt x s.scope tree)

unfoldable pub stmts : Context → Stmts → State → Checked State
stmts x ss s = with_notes (notes.stmts_noted x s.scope s.notes ss) (statements.check_stmts x s.scope ss)

-- The kinds of statements, by the steps that they are made of.
unfoldable pub variable : Context → ℕ → List ℕ → Bool → Expr → State → Checked State
variable x at name fixed e s = expr x e s >>= λ p. declare at name fixed p.0 p.1

unfoldable pub assign : Context → ℕ → Expr → Expr → State → Checked State
assign x at a b s = expr x a s >>= λ p. expr x b p.1 >>= λ q. with_notes q.1.notes (statements.assign q.1.scope at a p.0 q.0)

unfoldable pub run : Context → Expr → State → Checked State
run x e s = expr x e s >>= λ p. Ok p.1

unfoldable pub print : Context → ℕ → Expr → State → Checked State
print x at e s = expr x e s >>= λ p. with_notes p.1.notes (statements.print x.declared p.1.scope at p.0)

unfoldable pub throw : Context → Expr → State → Checked State
throw x e s = expr x e s >>= λ p. behind p.1 (wanted Text p.0)

unfoldable pub condition : Context → Expr → State → Checked State
condition x e s = expr x e s >>= λ p. behind p.1 (wanted BoolKind p.0)

-- the scope of a loop's block
unfoldable pub open_turns : Context → ℕ → List ℕ → Expr → State → Checked State
open_turns x at name e s = expr x e s >>= λ p. open_loop at name p.0 p.1

-- a block's end: so many variables stay
abbrev pub ended : ℕ → State → Checked State
ended outer s = Ok (record s { scope = take outer s.scope })

-- a block's statements in the scope that was opened for it, then its end
unfoldable pub inside : Context → ℕ → Stmts → State → Checked State
inside x outer ss s = stmts x ss s >>= λ t. ended outer t

unfoldable pub block : Context → Stmts → State → Checked State
block x ss s = inside x (length s.scope) ss s

-- a `return`, or none
unfoldable pub returned : Context → ℕ → Kind → Option Expr → State → Checked State
returned x at kind (Some e) s = expr x e s >>= λ p. behind p.1 (bodies.return_fits kind p.0)
returned x at kind None s = behind s (must (is_unit kind) (MissingReturn at))

-- a body, in the scope in which it begins
unfoldable pub body : Context → ℕ → TypeTree → Body → State → Checked State
body x at kind b s = stmts x b.statements s >>= λ t. returned x at (kind_of kind) b.result t

-- the scope in which a method's body begins
abbrev pub begin : List Param → State → Checked State
begin params s = Ok (record s { scope = parameters params })

-- Of whole bodies the notes are left: those so far go before them.
unfoldable pub method : Declarations → List ℕ → Method → List Note → Checked (List Note)
method d class m ns = behind (notes.method_noted d class ns m) (bodies.check_method_body d class m)

unfoldable pub methods : Declarations → List ℕ → List Method → List Note → Checked (List Note)
methods d class ms ns = behind (notes.methods_noted d class ns ms) (bodies.check_method_bodies d class ms)

unfoldable pub classes : Declarations → List Class → List Note → Checked (List Note)
classes d cs ns = behind (notes.classes_noted d ns cs) (bodies.check_class_bodies d cs)

unfoldable pub main : Program → List Note → Checked (List Note)
main p ns = behind (notes.main_noted ns p) (programs.check_main p)

-- the declarations, then the bodies of all methods
abbrev pub declared : Declarations → Checked (List Note)
declared d = check_declarations d >> classes d d.classes []

-- a whole program
unfoldable pub program : Program → Checked (List Note)
program p = behind (notes.program_notes p) (programs.check_program p)
