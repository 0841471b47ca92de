-- What the trees of code mean, within so much gas.
use Rattle.std.specs.Prelude.{ℕ, suc, List, Bool, Result, Err, map}
use Rattle.rb_trees.specs.declared.values.Value.{Value, out-Value}
use Rattle.rb_trees.specs.declared.code.UnOp.{UnOp}
use Rattle.rb_trees.specs.declared.code.BinOp.{BinOp}
use Rattle.rb_trees.specs.declared.code.Expr as expr
use Rattle.rb_trees.specs.declared.code.Stmt as stmt
use Rattle.rb_trees.specs.declared.declarations.Class as class
use Rattle.rb_trees.specs.declared.declarations.Body as body
use Rattle.rb_trees.specs.declared.declarations.Method as method
use Rattle.rb_trees.specs.mirror.Code as code
use Rattle.rb_trees.specs.mirror.Code.{mirror_expr, mirror_exprs, mirror_stmt, mirror_stmts}
use Rattle.rb_trees.specs.declared.services.Object.{Object}
use Rattle.rb_trees.specs.declared.values.Fault.{Fault}
use Rattle.rb_trees.specs.mirror.Declarations.{Method, mirror_class, mirror_param, mirror_body}
use Rattle.rb_meaning_code.specs.Faults.{raises}
use Rattle.rb_meaning_code.specs.State.{Local, bound, spent}
use Rattle.rb_meaning_code.specs.Dialogue.{Taken, Invoke, Done, Ask, AskBatch, Run, seq, next, end}
use Rattle.rb_meaning_code.specs.Operators.{shown_value}
use Rattle.rb_meaning_code.specs.Objects.{constructed}
use Rattle.rb_meaning_code.specs.Calls.{Bodies, call, called_method, own_method, unit_due, call_fits, names_within, entered, left}
use Rattle.rb_meaning_code.specs.Expressions.{list_of, evaluates, evaluates_all}
use Rattle.rb_meaning_code.specs.Statements.{Effect, nothing, truth_of, by_truth, throws, performs, performs_all, closes, block, assignment, while_turns, turns, turns_over, list_turn, row_turn, handles, prints}
use Rattle.rb_meaning_code.specs.Bodies.{bodies_of, runs}
use Rattle.rb_engine.specs.declared.targets.Turns.{Turns}
use Rattle.rb_engine.specs.declared.targets.Turns.TheVariants as over

abbrev pub bodies : List class.Class → ℕ → Bodies
bodies classes gas = bodies_of (map mirror_class classes) gas

abbrev pub value_run : List class.Class → expr.Expr → ℕ → Local → Run Value
value_run classes e gas l = evaluates (bodies classes gas) (mirror_expr e) l

abbrev pub values_run : List class.Class → List expr.Expr → ℕ → Local → Run (List Value)
values_run classes es gas l = evaluates_all (bodies classes gas) (mirror_exprs es) l

abbrev pub stmt_run : List class.Class → stmt.Stmt → ℕ → Effect
stmt_run classes s gas l = performs (bodies classes gas) gas (mirror_stmt s) l

abbrev pub stmts_run : List class.Class → List stmt.Stmt → ℕ → Effect
stmts_run classes ss gas l = performs_all (bodies classes gas) gas (mirror_stmts ss) l

abbrev pub body_run : List class.Class → body.Body → ℕ → Local → Run Value
body_run classes b gas l = runs (bodies classes gas) gas (mirror_body b) l

abbrev pub call_run : List class.Class → ℕ → Value → List ℕ → List Value → ℕ → Local → Run Value
call_run classes at receiver name args gas l = call (bodies classes gas) at receiver name args l

-- a call of a method that was found: a unit of fuel, then the depth, then the body
abbrev pub found_run : List class.Class → ℕ → method.Method → Value → List Value → ℕ → Local → Run Value
found_run classes at m receiver args gas l =
    next (end l (raises at (unit_due l.fuel))) (λ u l1.
    next (end (spent l1) (raises at (call_fits l1.depth))) (λ w l2.
    seq ((bodies classes gas).run at (mirror_body m.body) (entered (names_within receiver (map mirror_param m.signature.params) args) l2)) (left l2)))

abbrev pub unary_run : List class.Class → ℕ → UnOp → expr.Expr → ℕ → Local → Run Value
unary_run classes at op a gas l = evaluates (bodies classes gas) (code.Unary at op (mirror_expr a)) l

abbrev pub binary_run : List class.Class → ℕ → BinOp → expr.Expr → expr.Expr → ℕ → Local → Run Value
binary_run classes at op a b gas l = evaluates (bodies classes gas) (code.Binary at op (mirror_expr a) (mirror_expr b)) l

abbrev pub field_run : List class.Class → ℕ → expr.Expr → List ℕ → ℕ → Local → Run Value
field_run classes at a name gas l = evaluates (bodies classes gas) (code.Field at (mirror_expr a) name) l

abbrev pub item_run : List class.Class → ℕ → expr.Expr → expr.Expr → ℕ → Local → Run Value
item_run classes at a b gas l = evaluates (bodies classes gas) (code.Index at (mirror_expr a) (mirror_expr b)) l

abbrev pub new_run : List class.Class → ℕ → List ℕ → List expr.Expr → ℕ → Local → Run Value
new_run classes at name args gas l = evaluates (bodies classes gas) (code.New at name (mirror_exprs args)) l

-- a list by its items, whatever their type
abbrev pub list_run : List class.Class → ℕ → List expr.Expr → ℕ → Local → Run Value
list_run classes at items gas l = next (values_run classes items gas l) (λ vs l1. end l1 (raises at (list_of vs)))

abbrev pub called_run : List class.Class → ℕ → expr.Expr → List ℕ → List expr.Expr → ℕ → Local → Run Value
called_run classes at receiver name args gas l = evaluates (bodies classes gas) (code.Call at (mirror_expr receiver) name (mirror_exprs args)) l

-- a `val` or `var`
abbrev pub binding_run : List class.Class → List ℕ → expr.Expr → ℕ → Effect
binding_run classes name e gas l = next (value_run classes e gas l) (λ v l1. nothing (bound name v l1))

-- an expression alone
abbrev pub alone_run : List class.Class → expr.Expr → ℕ → Effect
alone_run classes e gas l = next (value_run classes e gas l) (λ v l1. nothing l1)

abbrev pub print_run : List class.Class → ℕ → expr.Expr → ℕ → Effect
print_run classes at e gas l = next (value_run classes e gas l) (λ v l1. prints at (shown_value (out-Value v)) l1)

abbrev pub throw_run : List class.Class → ℕ → expr.Expr → ℕ → Effect
throw_run classes at e gas l = next (value_run classes e gas l) (λ v l1. end l1 (raises at (Err (throws (out-Value v)))))

abbrev pub assign_run : List class.Class → ℕ → expr.Expr → expr.Expr → ℕ → Effect
assign_run classes at left right gas l = assignment (bodies classes gas) at (mirror_expr left) (mirror_expr right) l

-- the statements of a block, after which the first names stay
abbrev pub scope_run : List class.Class → ℕ → List stmt.Stmt → ℕ → Effect
scope_run classes count ss gas l = seq (stmts_run classes ss gas l) (closes count)

-- the truth of a condition
abbrev pub truth_run : List class.Class → ℕ → expr.Expr → ℕ → Local → Run Bool
truth_run classes at condition gas l = next (value_run classes condition gas l) (λ v l1. end l1 (raises at (truth_of (out-Value v))))

abbrev pub if_run : List class.Class → ℕ → expr.Expr → List stmt.Stmt → List stmt.Stmt → ℕ → Effect
if_run classes at c a b gas l =
    next (value_run classes c gas l) (λ v l1. by_truth at v (block (stmts_run classes a gas)) (block (stmts_run classes b gas)) l1)

abbrev pub while_run : List class.Class → ℕ → expr.Expr → List stmt.Stmt → ℕ → Effect
while_run classes at condition ss gas l = while_turns (suc gas) at (value_run classes condition gas) (block (stmts_run classes ss gas)) l

abbrev pub for_run : List class.Class → ℕ → List ℕ → expr.Expr → List stmt.Stmt → ℕ → Effect
for_run classes at name e ss gas l = next (value_run classes e gas l) (λ v l1. turns at name (out-Value v) (stmts_run classes ss gas) l1)

-- a turn begins
abbrev pub begin_run : Turns → ℕ → ℕ → Effect
begin_run over.List at gas l = list_turn at l
begin_run over.Rows at gas l = row_turn at l

abbrev pub turns_run : List class.Class → Turns → ℕ → List ℕ → List Value → List stmt.Stmt → ℕ → Effect
turns_run classes over at name vs ss gas l = turns_over (begin_run over at gas) name vs (stmts_run classes ss gas) l

abbrev pub try_run : List class.Class → List stmt.Stmt → List ℕ → List stmt.Stmt → ℕ → Effect
try_run classes tried name handler gas l = seq (block (stmts_run classes tried gas) l) (handles name (stmts_run classes handler gas))

abbrev pub line_run : ℕ → Value → ℕ → Effect
line_run at v gas l = prints at (shown_value (out-Value v)) l

-- the method that is called on a receiver
abbrev pub method_called : List class.Class → List Object → Value → List ℕ → ℕ → Result Method Fault
method_called classes heap receiver name count = called_method (map mirror_class classes) heap (out-Value receiver) name count

-- the same where the receiver is an own object
abbrev pub own_method_called : List class.Class → List Object → ℕ → List ℕ → ℕ → Result Method Fault
own_method_called classes heap object name count = own_method (map mirror_class classes) heap object name count

-- a new object, and the heap with it
abbrev pub object_made : List class.Class → List Object → List ℕ → List Value → Result (Value × List Object) Fault
object_made classes heap name values = constructed (map mirror_class classes) heap name values

-- the value that a step of the script kept
abbrev pub taken_run : ℕ → ℕ → Local → Run Value
taken_run step gas l = Ask (Taken step) (end l)

-- a remote call whose receiver and arguments were evaluated
abbrev pub invoked_run : ℕ → Value → List ℕ → List Value → ℕ → Local → Run Value
invoked_run at target name args gas l = Ask (Invoke at target name args) (end l)

abbrev pub batch_run : ℕ → ℕ → Effect
batch_run at gas l = AskBatch at l Done
