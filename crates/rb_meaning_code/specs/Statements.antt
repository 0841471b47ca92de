-- What statements mean, whatever surrounds them. The gas bounds the turns of loops; enough is as much as the fuel.
use Rattle.std.specs.Prelude.{ℕ, zero, suc, List, [], ◌∷◌, length, cond, Bool, true, false, Option, None, Some, Result, Ok, Err}
use Rattle.rb_trees.specs.Named.{replaced}
use Rattle.rb_trees.specs.Outcome.{◌>>=◌}
use Rattle.rb_trees.specs.declared.values.Value.{Value, out-Value}
use Rattle.rb_trees.specs.declared.values.Value.TheOpen.{Value-F}
use Rattle.rb_trees.specs.declared.values.Value.TheVariants as value
use Rattle.rb_trees.specs.declared.values.Fault.{Fault}
use Rattle.rb_trees.specs.mirror.Code as code
use Rattle.rb_trees.specs.mirror.Code.{Expr, Stmt, Stmts}
use Rattle.rb_meaning_code.specs.Faults.{fuel_used, thrown, kind, raised, raises, caught_text, is_caught}
use Rattle.rb_meaning_code.specs.Operators.{shown_value}
use Rattle.rb_meaning_code.specs.State.{Names, Local, bound, closed, spent}
use Rattle.rb_meaning_code.specs.Dialogue.{Line, Turn, ListTurn, Done, Ask, AskBatch, Outcome, Gave, Faulted, Run, seq, next, gives, end, told}
use Rattle.rb_meaning_code.specs.Objects.{with_field_of}
use Rattle.rb_meaning_code.specs.Calls.{Bodies, unit_due}
use Rattle.rb_meaning_code.specs.Expressions.{value_of, evaluates}

-- what a run of statements does
abbrev pub Effect : Type 0
Effect = Local → Run (Unit {0})

abbrev pub nothing : Effect
nothing l = gives tt l

-- At the end of a block, by a fault too, its names go.
abbrev pub closes : ℕ → Outcome (Unit {0}) → Run (Unit {0})
closes count (Gave u l) = Done (Gave u (closed count l))
closes count (Faulted r l) = Done (Faulted r (closed count l))

-- a block: its statements, and then the names of before
abbrev pub block : Effect → Effect
block statements l = seq (statements l) (closes (length l.names))

-- the truth of a condition
abbrev pub truth_of : Value-F Value → Result Bool Fault
truth_of (Value-F.Bool b) = Ok b
truth_of _ = Err kind

abbrev pub either : Bool → Effect → Effect → Effect
either true a b l = a l
either false a b l = b l

-- goes by the truth of a value
abbrev pub by_truth : ℕ → Value → Effect → Effect → Effect
by_truth at v a b l = next (end l (raises at (truth_of (out-Value v)))) (λ holds l1. either holds a b l1)

-- a unit of fuel, which is due, and what follows
abbrev pub after_unit : ℕ → Effect → Effect
after_unit at go l = next (end l (raises at (unit_due l.fuel))) (λ u l1. go (spent l1))

-- The turns of a `while`: the condition, and where it is true a unit of fuel, the block, and so on.
abbrev pub while_turns : ℕ → ℕ → (Local → Run Value) → Effect → Effect
while_turns zero at condition body l = Done (Faulted (raised fuel_used at) l)
while_turns (suc gas) at condition body l =
    next (condition l) (λ v l1. by_truth at v (after_unit at (λ l2. next (body l2) (λ u l3. while_turns gas at condition body l3))) nothing l1)

-- the turns of a loop over values: how each begins, and then the block with the turn's name
abbrev pub turns_over : Effect → List ℕ → List Value → Effect → Effect
turns_over begins name [] statements l = nothing l
turns_over begins name (v ∷ vs) statements l =
    next (begins l) (λ u l1.
    next (block (λ l2. statements (bound name v l2)) l1) (λ w l3. turns_over begins name vs statements l3))

-- A turn over a list takes a unit of fuel, which is due, and then the surroundings are asked.
abbrev pub list_turn : ℕ → Effect
list_turn at l = after_unit at (λ l1. Ask (ListTurn at) (told l1)) l

-- A turn over rows: the surroundings are asked, and charge it.
abbrev pub row_turn : ℕ → Effect
row_turn at l = Ask (Turn at) (told l)

abbrev pub turns : ℕ → List ℕ → Value-F Value → Effect → Effect
turns at name (Value-F.List items) statements l = turns_over (list_turn at) name items statements l
turns at name (Value-F.Rows rows) statements l = turns_over (row_turn at) name rows statements l
turns at name _ statements l = Done (Faulted (raised kind at) l)

-- the line that `print` shows
abbrev pub prints : ℕ → Option (List ℕ) → Effect
prints at (Some bytes) l = Ask (Line at bytes) (told l)
prints at None l = Done (Faulted (raised kind at) l)

-- the fault that `throw` ends by
abbrev pub throws : Value-F Value → Fault
throws (Value-F.Text text) = thrown text
throws _ = kind

-- where a block is tried: its fault, where it is caught, is bound to a name for the block that handles it
abbrev pub handles : List ℕ → Effect → Outcome (Unit {0}) → Run (Unit {0})
handles name handler (Gave u l) = gives u l
handles name handler (Faulted r l) =
    cond (is_caught r) (block (λ l1. handler (bound name (value.Text (caught_text r.fault)) l1)) l) (Done (Faulted r l))

-- the names where one of them, which has to be there, has another value
abbrev pub assigned : Names → List ℕ → Value → Result Names Fault
assigned names name v = value_of names name >>= λ old. Ok (replaced names name v)

abbrev pub assigns : ℕ → List ℕ → Value → Effect
assigns at name v l = next (end l (raises at (assigned l.names name v))) (λ names l1. nothing (record l1 { names = names }))

abbrev pub writes : ℕ → Value → List ℕ → Value → Effect
writes at object name v l = next (end l (raises at (with_field_of l.heap (out-Value object) name v))) (λ heap l1. nothing (record l1 { heap = heap }))

-- An assignment, by its left side: a name, a field, or nothing that can be assigned.
abbrev pub assignment : Bodies → ℕ → Expr → Expr → Effect
assignment bodies at (code.Name place name) e l = next (evaluates bodies e l) (λ v l1. assigns place name v l1)
assignment bodies at (code.Field place a name) e l =
    next (evaluates bodies a l) (λ object l1. next (evaluates bodies e l1) (λ v l2. writes place object name v l2))
assignment bodies at _ e l = Done (Faulted (raised kind at) l)

abbrev mutual
  -- the effect of a statement
  pub performs : Bodies → ℕ → Stmt → Effect
  performs bodies gas (code.Val at name e) l = next (evaluates bodies e l) (λ v l1. nothing (bound name v l1))
  performs bodies gas (code.Var at name e) l = next (evaluates bodies e l) (λ v l1. nothing (bound name v l1))
  performs bodies gas (code.Assign at left right) l = assignment bodies at left right l
  performs bodies gas (code.Run at e) l = next (evaluates bodies e l) (λ v l1. nothing l1)
  performs bodies gas (code.Print at e) l = next (evaluates bodies e l) (λ v l1. prints at (shown_value (out-Value v)) l1)
  performs bodies gas (code.Throw at e) l = next (evaluates bodies e l) (λ v l1. Done (Faulted (raised (throws (out-Value v)) at) l1))
  performs bodies gas (code.If at c a b) l =
      next (evaluates bodies c l) (λ v l1. by_truth at v (block (performs_all bodies gas a)) (block (performs_all bodies gas b)) l1)
  performs bodies gas (code.While at c a) l = while_turns (suc gas) at (evaluates bodies c) (block (performs_all bodies gas a)) l
  performs bodies gas (code.For at name e a) l = next (evaluates bodies e l) (λ v l1. turns at name (out-Value v) (performs_all bodies gas a) l1)
  performs bodies gas (code.Try at a name b) l = seq (block (performs_all bodies gas a) l) (handles name (performs_all bodies gas b))
  performs bodies gas (code.Batch at interface root body) l = AskBatch at l Done

  -- the effects of statements in order
  pub performs_all : Bodies → ℕ → Stmts → Effect
  performs_all bodies gas code.NoStmts l = nothing l
  performs_all bodies gas (code.MoreStmts s ss) l = next (performs bodies gas s l) (λ u l1. performs_all bodies gas ss l1)
