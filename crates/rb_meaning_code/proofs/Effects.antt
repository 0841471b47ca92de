-- What statements mean is alike within two gases, where the fuel reaches in both.
use Rattle.std.proofs.Common.{ℕ, zero, suc, ◌+◌, ◌<◌, ◌≤◌, arith, List, [], ◌∷◌, length, take}
use Rattle.std.specs.Prelude.{◌-◌, Bool, true, false, cond, Option, Some, None, Result, Ok, Err}
use Rattle.rb_trees.specs.declared.values.Value.{Value, out-Value}
use Rattle.rb_trees.specs.declared.values.Value.TheOpen.{Value-F}
use Rattle.rb_trees.specs.declared.values.Value.TheVariants as value
use Rattle.rb_trees.specs.declared.outcomes.Raised.{Raised}
use Rattle.rb_trees.specs.mirror.Code as code
use Rattle.rb_trees.specs.mirror.Code.{Expr, Stmt, Stmts}
use Rattle.rb_trees.specs.mirror.Declarations.{Class}
use Rattle.rb_meaning_code.specs.Faults.{kind, fuel_used, raised, caught_text, is_caught}
use Rattle.rb_meaning_code.specs.Operators.{shown_value}
use Rattle.rb_meaning_code.specs.State.{Local, bound, closed, spent}
use Rattle.rb_meaning_code.specs.Dialogue.{Line, Turn, ListTurn, Done, Ask, Outcome, Gave, Faulted, Run, next, told}
use Rattle.rb_meaning_code.specs.Objects.{with_field_of}
use Rattle.rb_meaning_code.specs.Calls.{unit_due}
use Rattle.rb_meaning_code.specs.Statements.{Effect, nothing, closes, block, truth_of, either, by_truth, after_unit, while_turns, turns_over, list_turn, row_turn, turns, prints, handles, assigned, assigns, writes, assignment, throws, performs, performs_all}
use Rattle.rb_meaning_code.specs.Bodies.{bodies_of}
use Rattle.rb_meaning_code.specs.Laws.{state_of}
use Rattle.rb_meaning_code.proofs.Alike.{Order, From, lends, over, gave, fell, earlier, after, then, ruled, asked}
use Rattle.rb_meaning_code.proofs.Heaps.{written_grows}
use Rattle.rb_meaning_code.proofs.Values.{Reach, one, both, reach_less, reach_in, reach_out, Gases, reach_on, has_unit, value_alike}

-- two functions from local states to runs are alike from each local state that two gases reach
pub record Each {A : Type 0} (Keeps : Local → Local → Type 0) (gas more : ℕ) (first second : Local → Run A) : Type 0 where
  pub from : (l : Local) → Reach gas more l.fuel → From Keeps l (first l) (second l)

-- blocks

closed_alike : {Keeps : Local → Local → Type 0} → Order Keeps → (count : ℕ) (o : Outcome (Unit {0})) → From Keeps (state_of o) (closes count o) (closes count o)
closed_alike order count (Gave u l) = over (Gave u (closed count l)) (order.names l (take count l.names))
closed_alike order count (Faulted r l) = over (Faulted r (closed count l)) (order.names l (take count l.names))

pub block_alike : {Keeps : Local → Local → Type 0} {gas more : ℕ} {first second : Effect} → Order Keeps → Each Keeps gas more first second
    → (l : Local) → Reach gas more l.fuel → From Keeps l (block first l) (block second l)
block_alike order f l r = after order (f.from l r) (λ o k. closed_alike order (length l.names) o)

told_alike : {Keeps : Local → Local → Type 0} → Order Keeps → (l : Local) (a : Result Value Raised) → From Keeps l (told l a) (told l a)
told_alike order l (Ok v) = gave order tt l
told_alike order l (Err r) = fell order r l

-- a name more
bound_alike : {Keeps : Local → Local → Type 0} → Order Keeps → (name : List ℕ) (v : Value) (l : Local) → From Keeps l (nothing (bound name v l)) (nothing (bound name v l))
bound_alike order name v l = earlier order (order.names l _) (gave order tt (bound name v l))

-- conditions and units of fuel

either_alike : {Keeps : Local → Local → Type 0} {l : Local} → (holds : Bool) (a b c d : Effect) → From Keeps l (a l) (c l) → From Keeps l (b l) (d l) → From Keeps l (either holds a b l) (either holds c d l)
either_alike true a b c d f g = f
either_alike false a b c d f g = g

truth_alike : {Keeps : Local → Local → Type 0} → Order Keeps → (at : ℕ) (v : Value) (l : Local) (a b c d : Effect) → From Keeps l (a l) (c l) → From Keeps l (b l) (d l)
    → From Keeps l (by_truth at v a b l) (by_truth at v c d l)
truth_alike order at v l a b c d f g = ruled order at (truth_of (out-Value v)) _ _ (λ holds is. either_alike holds a b c d f g)

unit_alike : {Keeps : Local → Local → Type 0} → Order Keeps → (at : ℕ) (l : Local) (first second : Effect) → (0 < l.fuel → From Keeps (spent l) (first (spent l)) (second (spent l)))
    → From Keeps l (after_unit at first l) (after_unit at second l)
unit_alike order at l first second f = ruled order at (unit_due l.fuel) _ _ (λ u due. earlier order (order.unit l) (f (has_unit l.fuel u due)))

-- loops

while_alike : {Keeps : Local → Local → Type 0} {gas more : ℕ} {condition condition' : Local → Run Value} {body body' : Effect} → Order Keeps → Each Keeps gas more condition condition' → Each Keeps gas more body body'
    → (turns turns' at : ℕ) (l : Local) → Reach gas more l.fuel → Reach turns turns' (l.fuel + 1) → From Keeps l (while_turns turns at condition body l) (while_turns turns' at condition' body' l)
while_alike order c b zero zero at l r t = fell order (raised fuel_used at) l
while_alike order c b zero (suc m) at l r (one same) = absurd (cc (same))
while_alike order c b zero (suc m) at l r (both low le) = absurd (omega arith)
while_alike order c b (suc n) zero at l r (one same) = absurd (cc (same))
while_alike order c b (suc n) zero at l r (both le low) = absurd (omega arith)
while_alike {condition = condition} {condition' = condition'} {body = body} {body' = body'} order c b (suc n) (suc m) at l r t =
    then order (c.from l r) (λ v l1 k.
    truth_alike order at v l1 _ _ _ _
    (unit_alike order at l1 (λ l2. next (body l2) (λ u l3. while_turns n at condition body l3)) (λ l2. next (body' l2) (λ u l3. while_turns m at condition' body' l3)) (λ due.
    then order (b.from (spent l1) (reach_on order (order.unit l1) (reach_on order k r))) (λ u l2 k2.
    let low : l2.fuel ≤ l1.fuel - 1 = order.fuel (spent l1) l2 k2 in
    let le : l1.fuel ≤ l.fuel = order.fuel l l1 k in
    while_alike order c b n m at l2 (reach_less _ _ l.fuel l2.fuel (omega arith) r) (reach_in n m (l.fuel + 1) (l2.fuel + 1) (omega arith) t))))
    (gave order tt l1))

named_alike : {Keeps : Local → Local → Type 0} {gas more : ℕ} {first second : Effect} → Order Keeps → Each Keeps gas more first second → (name : List ℕ) (v : Value) (l : Local) → Reach gas more l.fuel
    → From Keeps l (block (λ l1. first (bound name v l1)) l) (block (λ l1. second (bound name v l1)) l)
named_alike order f name v l r = block_alike order (record { from = λ l1 r1. earlier order (order.names l1 _) (f.from (bound name v l1) r1) }) l r

over_alike : {Keeps : Local → Local → Type 0} {gas more : ℕ} {begins first second : Effect} → Order Keeps → Each Keeps gas more begins begins → Each Keeps gas more first second
    → (name : List ℕ) (vs : List Value) (l : Local) → Reach gas more l.fuel → From Keeps l (turns_over begins name vs first l) (turns_over begins name vs second l)
over_alike order b f name [] l r = gave order tt l
over_alike order b f name (v ∷ vs) l r =
    then order (b.from l r) (λ u l1 k.
    let r1 = reach_on order k r in
    then order (named_alike order f name v l1 r1) (λ w l2 k2. over_alike order b f name vs l2 (reach_on order k2 r1)))

list_turn_alike : {Keeps : Local → Local → Type 0} {gas more : ℕ} → Order Keeps → (at : ℕ) → Each Keeps gas more (list_turn at) (list_turn at)
list_turn_alike order at = record { from = λ l r. unit_alike order at l (λ l1. Ask (ListTurn at) (told l1)) (λ l1. Ask (ListTurn at) (told l1)) (λ due. asked order (ListTurn at) (told_alike order (spent l))) }

row_turn_alike : {Keeps : Local → Local → Type 0} {gas more : ℕ} → Order Keeps → (at : ℕ) → Each Keeps gas more (row_turn at) (row_turn at)
row_turn_alike order at = record { from = λ l r. asked order (Turn at) (told_alike order l) }

turns_alike : {Keeps : Local → Local → Type 0} {gas more : ℕ} {first second : Effect} → Order Keeps → Each Keeps gas more first second
    → (at : ℕ) (name : List ℕ) (v : Value-F Value) (l : Local) → Reach gas more l.fuel → From Keeps l (turns at name v first l) (turns at name v second l)
turns_alike order f at name (Value-F.List items) l r = over_alike order (list_turn_alike order at) f name items l r
turns_alike order f at name (Value-F.Rows rows) l r = over_alike order (row_turn_alike order at) f name rows l r
turns_alike order f at name _ l r = fell order (raised kind at) l

-- other forms

prints_alike : {Keeps : Local → Local → Type 0} → Order Keeps → (at : ℕ) (shown : Option (List ℕ)) (l : Local) → From Keeps l (prints at shown l) (prints at shown l)
prints_alike order at (Some bytes) l = asked order (Line at bytes) (told_alike order l)
prints_alike order at None l = fell order (raised kind at) l

caught_alike : {Keeps : Local → Local → Type 0} {A : Type 0} {l : Local} → (caught : Bool) (a b c : Run A) → From Keeps l a b → From Keeps l c c → From Keeps l (cond caught a c) (cond caught b c)
caught_alike true a b c f g = f
caught_alike false a b c f g = g

handles_alike : {Keeps : Local → Local → Type 0} {gas more : ℕ} {first second : Effect} → Order Keeps → Each Keeps gas more first second
    → (name : List ℕ) (o : Outcome (Unit {0})) → Reach gas more (state_of o).fuel → From Keeps (state_of o) (handles name first o) (handles name second o)
handles_alike order f name (Gave u l) r = gave order u l
handles_alike order f name (Faulted fault l) r =
    caught_alike (is_caught fault) _ _ _ (named_alike order f name (value.Text (caught_text fault.fault)) l r) (fell order fault l)

assigns_alike : {Keeps : Local → Local → Type 0} → Order Keeps → (at : ℕ) (name : List ℕ) (v : Value) (l : Local) → From Keeps l (assigns at name v l) (assigns at name v l)
assigns_alike order at name v l = ruled order at (assigned l.names name v) _ _ (λ names is. over (Gave tt (record l { names = names })) (order.names l names))

writes_alike : {Keeps : Local → Local → Type 0} → Order Keeps → (at : ℕ) (object : Value) (name : List ℕ) (v : Value) (l : Local) → From Keeps l (writes at object name v l) (writes at object name v l)
writes_alike order at object name v l =
    ruled order at (with_field_of l.heap (out-Value object) name v) _ _ (λ heap is.
    over (Gave tt (record l { heap = heap })) (order.heap l heap (written_grows l.heap (out-Value object) name v heap is)))

assignment_alike : {Keeps : Local → Local → Type 0} {classes : List Class} {gas more : ℕ} → Gases Keeps classes gas more → (at : ℕ) (left right : Expr) (l : Local) → Reach gas more l.fuel
    → From Keeps l (assignment (bodies_of classes gas) at left right l) (assignment (bodies_of classes more) at left right l)
assignment_alike x at (code.Name place name) e l r = then x.order (value_alike x e l r) (λ v l1 k. assigns_alike x.order place name v l1)
assignment_alike x at (code.Field place a name) e l r =
    then x.order (value_alike x a l r) (λ object l1 k.
    then x.order (value_alike x e l1 (reach_on x.order k r)) (λ v l2 k2. writes_alike x.order place object name v l2))
assignment_alike x at _ e l r = fell x.order (raised kind at) l

-- statements

mutual
  pub stmt_alike : {Keeps : Local → Local → Type 0} {classes : List Class} {gas more : ℕ} → Gases Keeps classes gas more → (s : Stmt) (l : Local) → Reach gas more l.fuel
      → From Keeps l (performs (bodies_of classes gas) gas s l) (performs (bodies_of classes more) more s l)
  stmt_alike x (code.Val at name e) l r = then x.order (value_alike x e l r) (λ v l1 k. bound_alike x.order name v l1)
  stmt_alike x (code.Var at name e) l r = then x.order (value_alike x e l r) (λ v l1 k. bound_alike x.order name v l1)
  stmt_alike x (code.Assign at left right) l r = assignment_alike x at left right l r
  stmt_alike x (code.Run at e) l r = then x.order (value_alike x e l r) (λ v l1 k. gave x.order tt l1)
  stmt_alike x (code.Print at e) l r = then x.order (value_alike x e l r) (λ v l1 k. prints_alike x.order at (shown_value (out-Value v)) l1)
  stmt_alike x (code.Throw at e) l r = then x.order (value_alike x e l r) (λ v l1 k. fell x.order (raised (throws (out-Value v)) at) l1)
  stmt_alike x (code.If at c a b) l r =
      then x.order (value_alike x c l r) (λ v l1 k.
      let r1 = reach_on x.order k r in
      truth_alike x.order at v l1 _ _ _ _ (block_alike x.order (record { from = stmts_alike x a }) l1 r1) (block_alike x.order (record { from = stmts_alike x b }) l1 r1))
  stmt_alike x (code.While at c a) l r =
      while_alike x.order (record { from = value_alike x c }) (record { from = block_alike x.order (record { from = stmts_alike x a }) }) _ _ at l r (reach_out _ _ l.fuel r)
  stmt_alike x (code.For at name e a) l r =
      then x.order (value_alike x e l r) (λ v l1 k. turns_alike x.order (record { from = stmts_alike x a }) at name (out-Value v) l1 (reach_on x.order k r))
  stmt_alike x (code.Try at a name b) l r =
      after x.order (block_alike x.order (record { from = stmts_alike x a }) l r) (λ o k. handles_alike x.order (record { from = stmts_alike x b }) name o (reach_on x.order k r))
  stmt_alike x (code.Batch at interface root body) l r = record { alike = lends at l Done Done (λ o k. (over o k).alike) }

  pub stmts_alike : {Keeps : Local → Local → Type 0} {classes : List Class} {gas more : ℕ} → Gases Keeps classes gas more → (ss : Stmts) (l : Local) → Reach gas more l.fuel
      → From Keeps l (performs_all (bodies_of classes gas) gas ss l) (performs_all (bodies_of classes more) more ss l)
  stmts_alike x code.NoStmts l r = gave x.order tt l
  stmts_alike x (code.MoreStmts s ss) l r = then x.order (stmt_alike x s l r) (λ u l1 k. stmts_alike x ss l1 (reach_on x.order k r))
