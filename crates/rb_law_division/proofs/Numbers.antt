-- The numbers of steps and of variables grow, and no faster than the code.
use Rattle.std.proofs.Common.{◌≡◌, refl, ap, ℕ, suc, ◌+◌, ◌≤◌, ◌<◌, List, [], ◌∷◌, ◌++◌, Bool, true, false, cond, ◌&&◌, arith}
use Rattle.std.specs.List.{AllByRecursion}
use Rattle.rb_trees.specs.CodeSize.{steps_size}
use Rattle.rb_trees.specs.Validity.{steps_numbers}
use Rattle.rb_trees.specs.mirror.Code.{Expr, Lit, Name, This, Unary, Binary, Field, Call, Index, New, Items, Taken, Stmt, Stmts, Val, Run, If, For, NoStmts, MoreStmts}
use Rattle.rb_trees.specs.mirror.Declarations.{Program}
use Rattle.rb_trees.specs.mirror.Scripts as script
use Rattle.rb_trees.specs.mirror.Scripts.{Steps, NoSteps, MoreSteps}
use Rattle.rb_meaning_bytes.specs.formats.ScriptBytes.{count_steps}
use Rattle.rb_meaning_flow.specs.declared.forms.PlacedForm.{PlacedForm}
use Rattle.rb_meaning_flow.specs.declared.scopes.Role.{Role}
use Rattle.rb_meaning_flow.specs.Facts.{Facts, facts_of}
use Rattle.rb_meaning_flow.specs.Scopes.{Scope, with_variable}
use Rattle.rb_meaning_flow.specs.Portable.{portable}
use Rattle.rb_meaning_flow.specs.Marks.{is_portable_call}
use Rattle.rb_meaning_flow.specs.Forms.{placed_form}
use Rattle.rb_meaning_flow.specs.Sites.{scope_after}
use Rattle.rb_meaning.specs.RemoteExprs.{remote_in, all_remote_in, remote_of}
use Rattle.rb_meaning_split.specs.Cuts.{counted}
use Rattle.rb_meaning_split.specs.Refs.{Refs, with_var}
use Rattle.rb_meaning_split.specs.Numbers.{kept_after, step_after_as, step_after, steps_after, var_after_as, var_after, vars_after}
use Rattle.rb_meaning_split.specs.Steps.{refs_after, keeps, steps_as, block_steps}
use Rattle.rb_law_unsplit.proofs.Placed.{alone_calls}
use Rattle.rb_law_division.proofs.Lists.{all_both}

pub count_within : (ss : Steps) → count_steps ss ≤ steps_size ss
count_within NoSteps = omega arith
count_within (MoreSteps (script.Do id at e) ss) = omega (arith, count_within ss)
count_within (MoreSteps (script.Keep id at e) ss) = omega (arith, count_within ss)
count_within (MoreSteps (script.Let id at var keep e) ss) = omega (arith, count_within ss)
count_within (MoreSteps (script.If id at e a b) ss) = omega (arith, count_within ss)
count_within (MoreSteps (script.Each id at var keep e a) ss) = omega (arith, count_within ss)
count_within (MoreSteps (script.Over id at var input a) ss) = omega (arith, count_within ss)

-- all below a limit
abbrev pub Below : ℕ → List ℕ → Type 0
Below limit ns = AllByRecursion (λ i. i < limit) ns

never : (t : Bool) → (t && false) ≡ true → ⊥
never true h = cc h
never false h = cc h

counts : (es : List Expr) (n : ℕ) → n ≤ counted es n
counts [] n = omega arith
counts (e ∷ es) n = omega (arith, counts es (suc n))

module _ (x : Facts) where
  kept_grows : (scope : Scope) (s : Stmt) (n : ℕ) → n ≤ kept_after x scope s n
  kept_grows scope s n = counts (remote_of x scope s) n

  mutual
    grows : (form : PlacedForm) (scope : Scope) (s : Stmt) (n : ℕ) → n ≤ step_after_as x form scope s n
    grows PlacedForm.CarriedVal scope (Val at name e) n = omega arith
    grows PlacedForm.CarriedIf scope (If at c a b) n = omega (arith, grows_all scope a (suc n), grows_all scope b (steps_after x scope a (suc n)))
    grows PlacedForm.RowsLoop scope (For at name e a) n = omega (arith, grows_all (with_variable scope name Role.Row at) a (suc n))
    grows PlacedForm.CarriedLoop scope (For at name e a) n = omega (arith, grows_all (with_variable scope name Role.Row at) a (suc n))
    grows form scope s n = kept_grows scope s n

    pub grows_all : (scope : Scope) (ss : Stmts) (n : ℕ) → n ≤ steps_after x scope ss n
    grows_all scope NoStmts n = omega arith
    grows_all scope (MoreStmts s ss) n = omega (arith, grows (placed_form x scope s) scope s n, grows_all (scope_after x [] scope s) ss (step_after x scope s n))

  -- a portable expression that holds a call is its own remote expression
  pub whole_remote : (scope : Scope) (e : Expr) → is_portable_call x scope e ≡ true → remote_in x scope e ≡ e ∷ []
  whole_remote scope (Lit at value) h = absurd (cc h)
  whole_remote scope (Name at name) h = absurd (never (portable x scope (Name at name)) h)
  whole_remote scope (This at) h = absurd (cc h)
  whole_remote scope (Unary at op a) h = ap (λ (t : Bool). cond t (Unary at op a ∷ []) (remote_in x scope a)) h
  whole_remote scope (Binary at op a b) h = ap (λ (t : Bool). cond t (Binary at op a b ∷ []) (remote_in x scope a ++ remote_in x scope b)) h
  whole_remote scope (Field at a name) h = absurd (cc h)
  whole_remote scope (Call at a method args) h = ap (λ (t : Bool). cond t (Call at a method args ∷ []) (remote_in x scope a ++ all_remote_in x scope args)) h
  whole_remote scope (Index at a b) h = absurd (cc h)
  whole_remote scope (New at class args) h = absurd (cc h)
  whole_remote scope (Items at item items) h = absurd (cc h)
  whole_remote scope (Taken at step) h = absurd (cc h)

  -- it takes one step
  pub one_step : (scope : Scope) (at : ℕ) (e : Expr) (n : ℕ) → is_portable_call x scope e ≡ true → kept_after x scope (Run at e) n ≡ suc n
  one_step scope at e n h = ap (λ es. counted (es ++ []) n) (whole_remote scope e h)

-- ---- the code has room for its numbers

module _ (p : Program) where
  abbrev x : Facts
  x = facts_of p

  keeps_room : (refs : Refs) (es : List Expr) (n : ℕ) (rest : Steps) → counted es n + steps_size rest ≤ n + steps_size (keeps p refs n es rest)
  keeps_room refs [] n rest = omega arith
  keeps_room refs (e ∷ es) n rest = omega (arith, keeps_room refs es (suc n) rest)

  keeps_size : (refs : Refs) (es : List Expr) (n : ℕ) (rest : Steps) → steps_size rest ≤ steps_size (keeps p refs n es rest)
  keeps_size refs [] n rest = omega arith
  keeps_size refs (e ∷ es) n rest = omega (arith, keeps_size refs es (suc n) rest)

  -- the number behind some steps, and these steps, before others
  abbrev pub Room : ℕ → Steps → ℕ → Steps → Type 0
  Room n rest after ss = after + steps_size rest ≤ n + steps_size ss

  skip_room : (refs : Refs) (scope : Scope) (n : ℕ) (s : Stmt) (rest : Steps) → Room n rest (kept_after x scope s n) (keeps p refs n (remote_of x scope s) rest)
  skip_room refs scope n s rest = keeps_room refs (remote_of x scope s) n rest

  skip_vars : (refs : Refs) (scope : Scope) (n m : ℕ) (s : Stmt) (rest : Steps) → Room m rest m (keeps p refs n (remote_of x scope s) rest)
  skip_vars refs scope n m s rest = omega (arith, keeps_size refs (remote_of x scope s) n rest)

  mutual
    room : (form : PlacedForm) (refs : Refs) (scope : Scope) (n m : ℕ) (s : Stmt) (rest : Steps) → placed_form x scope s ≡ form → Room n rest (step_after_as x form scope s n) (steps_as p form refs scope n m s rest)
    room PlacedForm.CarriedVal refs scope n m (Val at name e) rest placing = omega arith
    room PlacedForm.CallAlone refs scope n m (Run at e) rest placing = omega (arith, one_step x scope at e n (alone_calls x scope at e placing))
    room PlacedForm.CarriedIf refs scope n m (If at c a b) rest placing =
        omega (arith, block_room refs scope (suc n) m a, block_room refs scope (steps_after x scope a (suc n)) (vars_after x scope a m) b)
    room PlacedForm.RowsLoop refs scope n m (For at name e a) rest placing =
        omega (arith, block_room (with_var refs name m) (with_variable scope name Role.Row at) (suc n) (suc m) a)
    room PlacedForm.CarriedLoop refs scope n m (For at name e a) rest placing =
        omega (arith, block_room (with_var refs name m) (with_variable scope name Role.Row at) (suc n) (suc m) a)
    room form refs scope n m s rest placing = skip_room refs scope n s rest

    pub block_room : (refs : Refs) (scope : Scope) (n m : ℕ) (ss : Stmts) → Room n NoSteps (steps_after x scope ss n) (block_steps p refs scope n m ss)
    block_room refs scope n m NoStmts = omega arith
    block_room refs scope n m (MoreStmts s ss) =
        let refs1 = refs_after p refs m scope s in
        let scope1 = scope_after x [] scope s in
        let n1 = step_after x scope s n in
        let m1 = var_after x scope s m in
        omega (arith, room (placed_form x scope s) refs scope n m s (block_steps p refs1 scope1 n1 m1 ss) refl, block_room refs1 scope1 n1 m1 ss)

  mutual
    var_room : (form : PlacedForm) (refs : Refs) (scope : Scope) (n m : ℕ) (s : Stmt) (rest : Steps) → Room m rest (var_after_as x form scope s m) (steps_as p form refs scope n m s rest)
    var_room PlacedForm.CarriedVal refs scope n m (Val at name e) rest = omega arith
    var_room PlacedForm.CallAlone refs scope n m (Run at e) rest = omega arith
    var_room PlacedForm.CarriedIf refs scope n m (If at c a b) rest =
        omega (arith, block_vars refs scope (suc n) m a, block_vars refs scope (steps_after x scope a (suc n)) (vars_after x scope a m) b)
    var_room PlacedForm.RowsLoop refs scope n m (For at name e a) rest =
        omega (arith, block_vars (with_var refs name m) (with_variable scope name Role.Row at) (suc n) (suc m) a)
    var_room PlacedForm.CarriedLoop refs scope n m (For at name e a) rest =
        omega (arith, block_vars (with_var refs name m) (with_variable scope name Role.Row at) (suc n) (suc m) a)
    var_room form refs scope n m s rest = skip_vars refs scope n m s rest

    pub block_vars : (refs : Refs) (scope : Scope) (n m : ℕ) (ss : Stmts) → Room m NoSteps (vars_after x scope ss m) (block_steps p refs scope n m ss)
    block_vars refs scope n m NoStmts = omega arith
    block_vars refs scope n m (MoreStmts s ss) =
        let refs1 = refs_after p refs m scope s in
        let scope1 = scope_after x [] scope s in
        let n1 = step_after x scope s n in
        let m1 = var_after x scope s m in
        omega (arith, var_room (placed_form x scope s) refs scope n m s (block_steps p refs1 scope1 n1 m1 ss), block_vars refs1 scope1 n1 m1 ss)

  -- ---- the numbers of steps are below the one that follows

  keeps_below : (refs : Refs) (es : List Expr) (n : ℕ) (rest : Steps) (limit : ℕ) → counted es n ≤ limit → Below limit (steps_numbers rest) → Below limit (steps_numbers (keeps p refs n es rest))
  keeps_below refs [] n rest limit l h = h
  keeps_below refs (e ∷ es) n rest limit l h = (omega (arith, counts es (suc n)), keeps_below refs es (suc n) rest limit l h)

  -- numbers below a limit, where the number behind the steps isn't above it
  abbrev Lower : ℕ → ℕ → Steps → Type 0
  Lower limit after ss = after ≤ limit → Below limit (steps_numbers ss)

  mutual
    below : (form : PlacedForm) (refs : Refs) (scope : Scope) (n m : ℕ) (s : Stmt) (rest : Steps) (limit : ℕ) → placed_form x scope s ≡ form → Below limit (steps_numbers rest)
        → Lower limit (step_after_as x form scope s n) (steps_as p form refs scope n m s rest)
    below PlacedForm.CarriedVal refs scope n m (Val at name e) rest limit placing h = λ l. (l, h)
    below PlacedForm.CallAlone refs scope n m (Run at e) rest limit placing h = λ l. (omega (arith, l, one_step x scope at e n (alone_calls x scope at e placing)), h)
    below PlacedForm.CarriedIf refs scope n m (If at c a b) rest limit placing h =
        let middle = steps_after x scope a (suc n) in
        let first = block_steps p refs scope (suc n) m a in
        let second = block_steps p refs scope middle (vars_after x scope a m) b in
        λ l. all_both (λ i. i < limit) (n ∷ steps_numbers first ++ steps_numbers second) (steps_numbers rest) (
          omega (arith, l, grows_all x scope a (suc n), grows_all x scope b middle),
          all_both (λ i. i < limit) (steps_numbers first) (steps_numbers second)
              (block_below refs scope (suc n) m a limit (omega (arith, l, grows_all x scope b middle))) (block_below refs scope middle (vars_after x scope a m) b limit l),
        ) h
    below PlacedForm.RowsLoop refs scope n m (For at name e a) rest limit placing h =
        let inner = with_variable scope name Role.Row at in
        let block = block_steps p (with_var refs name m) inner (suc n) (suc m) a in
        λ l. all_both (λ i. i < limit) (n ∷ steps_numbers block) (steps_numbers rest)
        (omega (arith, l, grows_all x inner a (suc n)), block_below (with_var refs name m) inner (suc n) (suc m) a limit l) h
    below PlacedForm.CarriedLoop refs scope n m (For at name e a) rest limit placing h =
        let inner = with_variable scope name Role.Row at in
        let block = block_steps p (with_var refs name m) inner (suc n) (suc m) a in
        λ l. all_both (λ i. i < limit) (n ∷ steps_numbers block) (steps_numbers rest)
        (omega (arith, l, grows_all x inner a (suc n)), block_below (with_var refs name m) inner (suc n) (suc m) a limit l) h
    below form refs scope n m s rest limit placing h = λ l. keeps_below refs (remote_of x scope s) n rest limit l h

    pub block_below : (refs : Refs) (scope : Scope) (n m : ℕ) (ss : Stmts) (limit : ℕ) → Lower limit (steps_after x scope ss n) (block_steps p refs scope n m ss)
    block_below refs scope n m NoStmts limit l = tt
    block_below refs scope n m (MoreStmts s ss) limit l =
        let refs1 = refs_after p refs m scope s in
        let scope1 = scope_after x [] scope s in
        let n1 = step_after x scope s n in
        let m1 = var_after x scope s m in
        below (placed_form x scope s) refs scope n m s (block_steps p refs1 scope1 n1 m1 ss) limit refl (block_below refs1 scope1 n1 m1 ss limit l) (omega (arith, grows_all x scope1 ss n1))
