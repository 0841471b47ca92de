-- Laws of class code: what every run of it keeps, and which gas is enough.
use Rattle.std.specs.Prelude.{◌≡◌, ◌≤◌, ℕ, List, map, Some, option_map, Result, slice_get}
use Rattle.rb_trees.specs.declared.values.Value.{Value}
use Rattle.rb_trees.specs.declared.outcomes.Raised.{Raised}
use Rattle.rb_trees.specs.declared.services.Object.{Object}
use Rattle.rb_trees.specs.mirror.Code.{Expr, Exprs, Stmt, Stmts}
use Rattle.rb_trees.specs.mirror.Declarations.{Body, Class}
use Rattle.rb_meaning_code.specs.State.{Local}
use Rattle.rb_meaning_code.specs.Dialogue.{Question, Outcome, Gave, Faulted, Dialogue, Done, Ask, AskBatch, Run, Handler, handle}
use Rattle.rb_meaning_code.specs.Calls.{call}
use Rattle.rb_meaning_code.specs.Expressions.{evaluates, evaluates_all}
use Rattle.rb_meaning_code.specs.Statements.{performs, performs_all, block}
use Rattle.rb_meaning_code.specs.Bodies.{bodies_of, runs}

-- what an object is, whatever its fields hold: its class, and the names of its fields in order
abbrev pub form : Object → List ℕ × List (List ℕ)
form o = (o.class, map (λ f. f.0) o.fields)

-- Each object of the first heap stands in the second under its number, of the same form.
abbrev pub Grows : List Object → List Object → Type 0
Grows before after = (number : ℕ) (o : Object) → slice_get before number ≡ Some o → option_map form (slice_get after number) ≡ Some (form o)

-- A local state as code may leave it: no more fuel than before, as many active calls, and a heap that has only grown.
pub record Later (before after : Local) : Type 0 where
  pub fuel : after.fuel ≤ before.fuel
  pub depth : after.depth ≡ before.depth
  pub heap : Grows before.heap after.heap

-- the local state that an outcome leaves
abbrev pub state_of : {A : Type 0} → Outcome A → Local
state_of (Gave a l) = l
state_of (Faulted r l) = l

-- The predicate holds of whatever the run ends by, whatever its questions are answered. A batch may end by anything
-- that leaves a later state than it was lent.
abbrev pub Leaves : {A : Type 0} → (A → Type 0) → Dialogue A → Type 0
Leaves P (Done a) = P a
Leaves P (Ask q go) = (a : Result Value Raised) → Leaves P (go a)
Leaves P (AskBatch at l go) = (o : Outcome (Unit {0})) → Later l (state_of o) → Leaves P (go o)

-- Two runs are the same: they ask the same, go on the same after each answer, and end by the same. Of a batch those
-- ends count that leave no more fuel than it was lent.
pub data SameRun {A : Type 0} : Dialogue A → Dialogue A → Type 0 where
  ends : (a : A) → SameRun (Done a) (Done a)
  asks : (q : Question) (go go' : Result Value Raised → Dialogue A) → ((a : Result Value Raised) → SameRun (go a) (go' a)) → SameRun (Ask q go) (Ask q go')
  lends : (at : ℕ) (l : Local) (go go' : Outcome (Unit {0}) → Dialogue A) → ((o : Outcome (Unit {0})) → (state_of o).fuel ≤ l.fuel → SameRun (go o) (go' o))
      → SameRun (AskBatch at l go) (AskBatch at l go')

-- what code means within a gas, from a local state
abbrev pub Meaning : Type 0 → Type 0
Meaning A = ℕ → Local → Run A

-- a fact of all code, whatever its tree and the classes around it
pub record OfCode (Fact : (A : Type 0) → Meaning A → Type 0) : Type 0 where
  pub values : (classes : List Class) (e : Expr) → Fact Value (λ gas l. evaluates (bodies_of classes gas) e l)
  pub lists : (classes : List Class) (es : Exprs) → Fact (List Value) (λ gas l. evaluates_all (bodies_of classes gas) es l)
  pub calls : (classes : List Class) (at : ℕ) (receiver : Value) (name : List ℕ) (args : List Value)
      → Fact Value (λ gas l. call (bodies_of classes gas) at receiver name args l)
  pub statements : (classes : List Class) (s : Stmt) → Fact (Unit {0}) (λ gas l. performs (bodies_of classes gas) gas s l)
  pub sequences : (classes : List Class) (ss : Stmts) → Fact (Unit {0}) (λ gas l. performs_all (bodies_of classes gas) gas ss l)
  pub blocks : (classes : List Class) (ss : Stmts) → Fact (Unit {0}) (λ gas l. block (performs_all (bodies_of classes gas) gas ss) l)
  pub bodies : (classes : List Class) (body : Body) → Fact Value (λ gas l. runs (bodies_of classes gas) gas body l)

-- Whatever the gas, it leaves only later local states, by a value and by a fault.
abbrev pub LeavesLater : (A : Type 0) → Meaning A → Type 0
LeavesLater A meaning = (gas : ℕ) (l : Local) → Leaves (λ o. Later l (state_of o)) (meaning gas l)

-- Within each gas that is at least the fuel, it is the same run.
abbrev pub SameWithinMoreGas : (A : Type 0) → Meaning A → Type 0
SameWithinMoreGas A meaning = (gas more : ℕ) (l : Local) → l.fuel ≤ gas → l.fuel ≤ more → SameRun (meaning gas l) (meaning more l)

-- The batches that the handler performs leave later local states than they were lent.
abbrev pub BatchesLeaveLater : {S : Type 0} → Handler S → Type 0
BatchesLeaveLater h = (s : _) (at : ℕ) (l : Local) → Later l (state_of (h.batch s at l).0)

-- The batches that the handler performs leave no more fuel than they were lent.
abbrev pub BatchesKeepFuel : {S : Type 0} → Handler S → Type 0
BatchesKeepFuel h = (s : _) (at : ℕ) (l : Local) → (state_of (h.batch s at l).0).fuel ≤ l.fuel

-- Under the handler it leaves only later local states.
abbrev pub HandledLater : {S : Type 0} → Handler S → (A : Type 0) → Meaning A → Type 0
HandledLater {S = S} h A meaning = (gas : ℕ) (l : Local) (s : S) → Later l (state_of (handle h (meaning gas l) s).0)

-- Under the handler it ends the same within each gas that is at least the fuel.
abbrev pub HandledSameWithinMoreGas : {S : Type 0} → Handler S → (A : Type 0) → Meaning A → Type 0
HandledSameWithinMoreGas {S = S} h A meaning = (gas more : ℕ) (l : Local) (s : S) → l.fuel ≤ gas → l.fuel ≤ more
    → handle h (meaning gas l) s ≡ handle h (meaning more l) s

-- A local state is later than itself.
abbrev pub IsReflexive : Type 0
IsReflexive = (l : Local) → Later l l

-- What is later than a later local state is later.
abbrev pub IsTransitive : Type 0
IsTransitive = (a b c : Local) → Later a b → Later b c → Later a c
