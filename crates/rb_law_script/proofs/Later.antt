-- The numbers of steps grow, and the fault of a node stands at a step of its own.
use Rattle.std.proofs.Common.{◌≡◌, ◌≤◌, refl, ap, arith, ℕ, suc, List, [], ◌∷◌, Bool, true, false, cond, Option, Some, None}
use Rattle.std.proofs.lemmas.Bool.{ne_eqb}
use Rattle.rb_trees.specs.declared.values.Value.{Value}
use Rattle.rb_trees.specs.declared.forests.NodeFault.{NodeFault}
use Rattle.rb_trees.specs.mirror.Code.{Expr, expr_at, Stmt, Stmts, Val, Run, If, For, NoStmts, MoreStmts}
use Rattle.rb_trees.specs.mirror.Declarations.{Program}
use Rattle.rb_trees.specs.mirror.Forests as forest
use Rattle.rb_trees.specs.mirror.Forests.{Node, Holds, Entry, NoEntries, MoreEntries}
use Rattle.rb_trees.specs.mirror.Scripts as script
use Rattle.rb_trees.specs.mirror.Scripts.{Steps, MoreSteps}
use Rattle.rb_meaning_code.specs.Remote.{Server, Reply, Got, Stopped, and_then}
use Rattle.rb_meaning_code.specs.ScriptRun as run
use Rattle.rb_meaning_code.specs.ScriptRun.{Ground, Vars, PlacedFault, Ran, in_front, with_entry, on_reply, kept, with_kept, condition, rows_of, goes_on, branched, chosen, Why, AllDone, InTurn, NoUnit, Turned, after_turns, turn_over, walked, run_steps}
use Rattle.rb_meaning_flow.specs.declared.forms.PlacedForm.{PlacedForm}
use Rattle.rb_meaning_flow.specs.declared.scopes.Role.{Role}
use Rattle.rb_meaning_flow.specs.Facts.{Facts, facts_of}
use Rattle.rb_meaning_flow.specs.Scopes.{Scope, with_variable}
use Rattle.rb_meaning_flow.specs.Forms.{placed_form}
use Rattle.rb_meaning_flow.specs.Sites.{scope_after}
use Rattle.rb_meaning.specs.RemoteExprs.{remote_of}
use Rattle.rb_meaning_split.specs.Refs.{Refs, with_var, list_number, sexpr}
use Rattle.rb_meaning_split.specs.Cuts.{counted}
use Rattle.rb_meaning_split.specs.Numbers.{step_after_as, step_after, steps_after, var_after, vars_after}
use Rattle.rb_meaning_split.specs.Steps.{refs_after, keeps_val, keeps, steps_as, block_steps}
use Rattle.rb_meaning_split.specs.Replay.{fault_at}
use Rattle.rb_law_script.proofs.Numbers.{le_same, le_suc, le_trans, suc_le}

pub counts : (es : List Expr) (n : ℕ) → n ≤ counted es n
counts [] n = le_same n
counts (e ∷ es) n = suc_le n (counted es (suc n)) (counts es (suc n))

module _ (f : Facts) where
  mutual
    grows_as : (form : PlacedForm) (vs : Scope) (s : Stmt) (n : ℕ) → n ≤ step_after_as f form vs s n
    grows_as PlacedForm.CarriedVal vs (Val at name e) n = le_suc n
    grows_as PlacedForm.CarriedIf vs (If at c a b) n =
        let first = steps_after f vs a (suc n) in
        le_trans n first (steps_after f vs b first) (suc_le n first (grows_block vs a (suc n))) (grows_block vs b first)
    grows_as PlacedForm.RowsLoop vs (For at name e a) n =
        let inner = with_variable vs name Role.Row at in
        suc_le n (steps_after f inner a (suc n)) (grows_block inner a (suc n))
    grows_as PlacedForm.CarriedLoop vs (For at name e a) n =
        let inner = with_variable vs name Role.Row at in
        suc_le n (steps_after f inner a (suc n)) (grows_block inner a (suc n))
    grows_as form vs s n = counts (remote_of f vs s) n

    pub grows_block : (vs : Scope) (ss : Stmts) (n : ℕ) → n ≤ steps_after f vs ss n
    grows_block vs NoStmts n = le_same n
    grows_block vs (MoreStmts s ss) n =
        let after = scope_after f [] vs s in
        le_trans n (step_after f vs s n) (steps_after f after ss (step_after f vs s n)) (grows_as (placed_form f vs s) vs s n) (grows_block after ss (step_after f vs s n))

-- the fault that a node itself holds
abbrev pub fault_in : Node → Option NodeFault
fault_in (Holds es f) = f

-- it stands at this step or a later one
abbrev pub Later : ℕ → Option NodeFault → Type 0
Later n None = Unit {0}
Later n (Some f) = n ≤ f.step

abbrev pub IsLater : ℕ → Ran → Type 0
IsLater n r = Later n (fault_in r.node)

abbrev pub AllLater : ℕ → (Vars → Server → Ran) → Type 0
AllLater n kr = (vars : Vars) (s : Server) → IsLater n (kr vars s)

pub later_up : (n m : ℕ) (f : Option NodeFault) → n ≤ m → Later m f → Later n f
later_up n m None h l = tt
later_up n m (Some f) h l = le_trans n m f.step h l

not_here : (n m : ℕ) → suc n ≤ m → m ≡ n → ⊥
not_here n m h e = omega (arith, h, e)

-- a node of later steps has no fault at this one
pub none_here : (n : ℕ) (node : Node) → Later (suc n) (fault_in node) → fault_at n node ≡ None
none_here n (Holds NoEntries None) l = refl
none_here n (Holds NoEntries (Some f)) l = ap (λ t. cond t (Some f) None) (ne_eqb f.step n (not_here n f.step l))
none_here n (Holds (MoreEntries e es) f) l = refl

pub later_front : (n : ℕ) (e : Entry) (node : Node) → Later n (fault_in node) → Later n (fault_in (in_front e node))
later_front n e (Holds es f) l = l

pub later_entry : (n : ℕ) (e : Entry) (r : Ran) → IsLater n r → IsLater n (with_entry e r)
later_entry n e r l = later_front n e r.node l

pub later_kept : (n : ℕ) (keep : Bool) (v : Value) (r : Ran) → IsLater n r → IsLater n (with_kept keep v r)
later_kept n true v r l = later_entry n (forest.Value v) r l
later_kept n false v r l = l

pub later_reply : {A : Type 0} (n m : ℕ) (r : Reply A) (k : A → Server → Ran) → n ≤ m → ((a : A) (s : Server) → IsLater m (k a s)) → IsLater n (on_reply n r k)
later_reply n m (Got a s) k h l = later_up n m (fault_in (k a s).node) h (l a s)
later_reply n m (Stopped at f s) k h l = le_same n

pub later_goes : (n : ℕ) (f : Option PlacedFault) (s : Server) (k : Server → Ran) → ((s : Server) → IsLater n (k s)) → IsLater n (goes_on f s k)
later_goes n None s k l = l s
later_goes n (Some f) s k l = tt

pub later_turns : (n m at : ℕ) (why : Why) (s : Server) (k : Server → Ran) → n ≤ m → ((s : Server) → IsLater m (k s)) → IsLater n (after_turns n at why s k)
later_turns n m at AllDone s k h l = later_up n m (fault_in (k s).node) h (l s)
later_turns n m at (InTurn f) s k h l = tt
later_turns n m at NoUnit s k h l = le_same n

pub later_walked : (n m at : ℕ) (t : Turned) (k : Server → Ran) → n ≤ m → ((s : Server) → IsLater m (k s)) → IsLater n (walked n at t k)
later_walked n m at t k h l = later_entry n (forest.Rows t.nodes) (after_turns n at t.why t.server k) (later_turns n m at t.why t.server k h l)

module _ (p : Program) (g : Ground) where
  abbrev f : Facts
  f = facts_of p

  abbrev runs : Steps → (Vars → Server → Ran) → Vars → Server → Ran
  runs sts kr vars s = run_steps g sts vars s kr

  later_keeps : (refs : Refs) (es : List Expr) (n : ℕ) (rest : Steps) (kr : Vars → Server → Ran) → AllLater (counted es n) (runs rest kr) → AllLater n (runs (keeps p refs n es rest) kr)
  later_keeps refs [] n rest kr l vars s = l vars s
  later_keeps refs (e ∷ es) n rest kr l vars s =
      later_reply n (suc n) (and_then (run.value_of g (expr_at e) vars (sexpr p refs e) s) (kept true (expr_at e))) (λ v s1. with_entry (forest.Value v) (run_steps g (keeps p refs (suc n) es rest) vars s1 kr)) (le_suc n)
      (λ v s1. later_entry (suc n) (forest.Value v) (run_steps g (keeps p refs (suc n) es rest) vars s1 kr) (later_keeps refs es (suc n) rest kr l vars s1))

  later_let : (n at m : ℕ) (keep : Bool) (e : script.SExpr) (rest : Steps) (kr : Vars → Server → Ran) → AllLater (suc n) (runs rest kr) → AllLater n (runs (MoreSteps (script.Let n at m keep e) rest) kr)
  later_let n at m keep e rest kr l vars s =
      later_reply n (suc n) (and_then (run.value_of g at vars e s) (kept keep at)) (λ v s1. with_kept keep v (run_steps g rest ((m, v) ∷ vars) s1 kr)) (le_suc n)
      (λ v s1. later_kept (suc n) keep v (run_steps g rest ((m, v) ∷ vars) s1 kr) (l ((m, v) ∷ vars) s1))

  later_do : (n k at : ℕ) (e : script.SExpr) (rest : Steps) (kr : Vars → Server → Ran) → n ≤ k → AllLater k (runs rest kr) → AllLater n (runs (MoreSteps (script.Do n at e) rest) kr)
  later_do n k at e rest kr h l vars s = later_reply n k (run.value_of g at vars e s) (λ v s1. run_steps g rest vars s1 kr) h (λ v s1. l vars s1)

  later_if : (n k at : ℕ) (e : script.SExpr) (a b rest : Steps) (kr : Vars → Server → Ran) → n ≤ k → AllLater k (runs rest kr) → AllLater n (runs (MoreSteps (script.If n at e a b) rest) kr)
  later_if n k at e a b rest kr h l vars s =
      later_reply n k (and_then (run.value_of g at vars e s) (condition at)) (λ holds s1. branched holds (chosen holds (run_steps g a vars s1 run.ended) (run_steps g b vars s1 run.ended)) (λ s2. run_steps g rest vars s2 kr)) h
      (λ holds s1. let r = chosen holds (run_steps g a vars s1 run.ended) (run_steps g b vars s1 run.ended) in
      later_entry k (forest.Branch holds r.node) (goes_on r.fault r.server (λ s2. run_steps g rest vars s2 kr)) (later_goes k r.fault r.server (λ s2. run_steps g rest vars s2 kr) (λ s2. l vars s2)))

  later_each : (n k at m : ℕ) (keep : Bool) (e : script.SExpr) (a rest : Steps) (kr : Vars → Server → Ran) → n ≤ k → AllLater k (runs rest kr) → AllLater n (runs (MoreSteps (script.Each n at m keep e a) rest) kr)
  later_each n k at m keep e a rest kr h l vars s =
      later_reply n n (and_then (run.value_of g at vars e s) (rows_of at))
      (λ rows s1. walked n at (run.turns (λ row s2. turn_over n at keep (λ s3. run_steps g a ((m, row) ∷ vars) s3 run.ended) row s2) rows s1) (λ s2. run_steps g rest vars s2 kr)) (le_same n)
      (λ rows s1. later_walked n k at (run.turns (λ row s2. turn_over n at keep (λ s3. run_steps g a ((m, row) ∷ vars) s3 run.ended) row s2) rows s1) (λ s2. run_steps g rest vars s2 kr) h (λ s2. l vars s2))

  later_over : (n k at m input : ℕ) (a rest : Steps) (kr : Vars → Server → Ran) → n ≤ k → AllLater k (runs rest kr) → AllLater n (runs (MoreSteps (script.Over n at m input a) rest) kr)
  later_over n k at m input a rest kr h l vars s =
      later_reply n n (run.items_of g at input s)
      (λ items s1. walked n at (run.turns (λ item s2. turn_over n at false (λ s3. run_steps g a ((m, item) ∷ vars) s3 run.ended) item s2) items s1) (λ s2. run_steps g rest vars s2 kr)) (le_same n)
      (λ items s1. later_walked n k at (run.turns (λ item s2. turn_over n at false (λ s3. run_steps g a ((m, item) ∷ vars) s3 run.ended) item s2) items s1) (λ s2. run_steps g rest vars s2 kr) h (λ s2. l vars s2))

  -- the steps of a statement, by its form, before those that follow
  later_as : (form : PlacedForm) (refs : Refs) (vs : Scope) (s : Stmt) (n m : ℕ) (rest : Steps) (kr : Vars → Server → Ran) → AllLater (step_after_as f form vs s n) (runs rest kr) → AllLater n (runs (steps_as p form refs vs n m s rest) kr)
  later_as PlacedForm.CarriedVal refs vs (Val at name e) n m rest kr l = later_let n at m (keeps_val p e) (sexpr p refs e) rest kr l
  later_as PlacedForm.CallAlone refs vs (Run at e) n m rest kr l = later_do n (counted (remote_of f vs (Run at e)) n) at (sexpr p refs e) rest kr (counts (remote_of f vs (Run at e)) n) l
  later_as PlacedForm.CarriedIf refs vs (If at c a b) n m rest kr l =
      let middle = steps_after f vs a (suc n) in
      later_if n (steps_after f vs b middle) at (sexpr p refs c) (block_steps p refs vs (suc n) m a) (block_steps p refs vs middle (vars_after f vs a m) b) rest kr (grows_as f PlacedForm.CarriedIf vs (If at c a b) n) l
  later_as PlacedForm.RowsLoop refs vs (For at name e a) n m rest kr l =
      let inner = with_variable vs name Role.Row at in
      later_each n (steps_after f inner a (suc n)) at m (f.items (expr_at e)) (sexpr p refs e) (block_steps p (with_var refs name m) inner (suc n) (suc m) a) rest kr (grows_as f PlacedForm.RowsLoop vs (For at name e a) n) l
  later_as PlacedForm.CarriedLoop refs vs (For at name e a) n m rest kr l =
      let inner = with_variable vs name Role.Row at in
      later_over n (steps_after f inner a (suc n)) at m (list_number refs e) (block_steps p (with_var refs name m) inner (suc n) (suc m) a) rest kr (grows_as f PlacedForm.CarriedLoop vs (For at name e a) n) l
  later_as form refs vs s n m rest kr l = later_keeps refs (remote_of f vs s) n rest kr l

  -- the steps of a block, and what follows it
  pub later_block : (refs : Refs) (vs : Scope) (ss : Stmts) (n m : ℕ) (kr : Vars → Server → Ran) → AllLater (steps_after f vs ss n) kr → AllLater n (runs (block_steps p refs vs n m ss) kr)
  later_block refs vs NoStmts n m kr l = l
  later_block refs vs (MoreStmts s ss) n m kr l =
      let after = scope_after f [] vs s in
      later_as (placed_form f vs s) refs vs s n m (block_steps p (refs_after p refs m vs s) after (step_after f vs s n) (var_after f vs s m) ss) kr
      (later_block (refs_after p refs m vs s) after ss (step_after f vs s n) (var_after f vs s m) kr l)
