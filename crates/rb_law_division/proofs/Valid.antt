-- The script of a batch is valid.
use Rattle.std.proofs.Common.{◌≡◌, refl, subst, ap, sym, ℕ, suc, ◌+◌, ◌≤◌, ◌<◌, List, [], ◌∷◌, ◌++◌, Bool, true, false, cond, not, ◌&&◌, ◌||◌, arith, nat_eq, Option, Some, None, option_map}
use Rattle.std.specs.List.{AllByRecursion}
use Rattle.std.specs.Str.{bytes_eq}
use Rattle.std.proofs.lemmas.Bool.{and_parts, le-ltb, lt-ltb, ne_eqb, eq-eqb}
use Rattle.rb_trees.specs.Named.{first_named, lookup}
use Rattle.rb_trees.specs.ScriptLimits.{most_blocks, most_exprs}
use Rattle.rb_trees.specs.Validity.{Inputs, has, when, unknown_input, input_refusals, list_refusals, nested_exprs, expr_refusals, exprs_refusals, whole_refusals, steps_numbers, repeated, nested_blocks, steps_refusals}
use Rattle.rb_trees.specs.declared.validity.ScriptRefusal.TheVariants.{UnknownVariable, UnknownInput, StepRepeated, TooDeep, WrongInput}
use Rattle.rb_trees.specs.declared.validity.ScriptRefusal.{ScriptRefusal}
use Rattle.rb_trees.specs.mirror.Code.{Expr, Exprs, Lit, Name, This, Unary, Binary, Field, Call, Index, New, Items, Taken, NoExprs, MoreExprs, Stmt, Stmts, Val, Run, If, For, NoStmts, MoreStmts}
use Rattle.rb_trees.specs.mirror.Declarations.{Program}
use Rattle.rb_trees.specs.mirror.Scripts.{SExpr, Steps}
use Rattle.rb_meaning_types.specs.Lawful.{expr_depth, exprs_depth, stmt_depth, stmts_depth}
use Rattle.rb_meaning_flow.specs.declared.forms.PlacedForm.{PlacedForm}
use Rattle.rb_meaning_flow.specs.declared.scopes.Role.{Role}
use Rattle.rb_meaning_flow.specs.Facts.{Facts, facts_of, is_remote}
use Rattle.rb_meaning_flow.specs.Scopes.{Scope, with_variable, role_of, is_portable_role}
use Rattle.rb_meaning_flow.specs.Portable.{portable, all_portable, is_constant_list}
use Rattle.rb_meaning_flow.specs.Forms.{placed_form}
use Rattle.rb_meaning_flow.specs.Sites.{scope_after}
use Rattle.rb_meaning.specs.RemoteExprs.{remote_of}
use Rattle.rb_meaning.specs.ConstantLists.{name_of}
use Rattle.rb_meaning_split.specs.Cuts.{counted}
use Rattle.rb_meaning_split.specs.Refs.{Ref, Root, Input, Var as Bound, Refs, with_var, ref_expr, input_number, list_number, sexpr, sexprs}
use Rattle.rb_meaning_split.specs.Inputs.{constants, used_as, used, used_in}
use Rattle.rb_meaning_split.specs.Numbers.{kept_after, step_after_as, step_after, steps_after, var_after, vars_after}
use Rattle.rb_meaning_split.specs.Steps.{refs_after_as, refs_after, keeps, steps_as, block_steps}
use Rattle.rb_law_unsplit.proofs.Placed.{alone_calls}
use Rattle.rb_law_division.proofs.Lists.{all_both, all_left, all_right, all_weaker, none_both}
use Rattle.rb_law_division.proofs.Carriable.{Whole, EachWhole, StmtCarriable, StmtsCarriable, remotes_whole}
use Rattle.rb_law_division.proofs.Used.{IsIn, AreIn}
use Rattle.rb_law_division.proofs.Calls.{Told, told_list, told_portable, Calls, calls_var, calls_more, calls_after}
use Rattle.rb_law_division.proofs.Travels.{ArePortable, TravelsAs, Travel}
use Rattle.rb_law_division.proofs.Numbers.{Below, grows_all, one_step, block_below}

-- ---- what the script calls its variables is there

or_as : (t a b : Bool) → (a ≡ true → b ≡ true) → (t || a) ≡ true → (t || b) ≡ true
or_as true a b f h = refl
or_as false a b f h = f h

or_right : (t a : Bool) → a ≡ true → (t || a) ≡ true
or_right true a h = refl
or_right false a h = h

has_append : (m : ℕ) (xs ys : List ℕ) → has m xs ≡ true → has m (xs ++ ys) ≡ true
has_append m [] ys h = absurd (cc h)
has_append m (x ∷ xs) ys h = or_as (nat_eq m x) (has m xs) (has m (xs ++ ys)) (λ g. has_append m xs ys g) h

has_last : (m : ℕ) (xs : List ℕ) → has m (xs ++ m ∷ []) ≡ true
has_last m [] = ap (λ (t : Bool). t || false) (eq-eqb m m refl)
has_last m (x ∷ xs) = or_right (nat_eq m x) (has m (xs ++ m ∷ [])) (has_last m xs)

has_below : (n : ℕ) (seen : List ℕ) → Below n seen → has n seen ≡ false
has_below n [] h = refl
has_below n (y ∷ ys) h = subst (λ (t : Bool). (t || has n ys) ≡ false) (sym (ne_eqb n y (λ e. omega (arith, h.0, e)))) (has_below n ys h.1)

-- where there are so many inputs
module _ (count : ℕ) where
  abbrev IsThere : List ℕ → Ref → Type 0
  IsThere bound Root = Unit {0}
  IsThere bound (Input n) = n < count
  IsThere bound (Bound m) = has m bound ≡ true

  abbrev pub AreThere : List ℕ → Refs → Type 0
  AreThere bound refs = AllByRecursion (λ r. IsThere bound r.1) refs

  abbrev MayBeThere : List ℕ → Option Ref → Type 0
  MayBeThere bound (Some r) = IsThere bound r
  MayBeThere bound None = Unit {0}

  found_there : (bound : List ℕ) (refs : Refs) (name : List ℕ) → AreThere bound refs → MayBeThere bound (lookup refs name)
  found_there bound [] name h = tt
  found_there bound (r ∷ rs) name h = by (bytes_eq r.0 name) (found_there bound rs name h.1)
    where
      by : (t : Bool) → MayBeThere bound (lookup rs name) → MayBeThere bound (option_map (λ n. n.1) (cond t (Some r) (first_named (λ n. n.0) rs name)))
      by true g = h.0
      by false g = g

  there_more : (bound more : List ℕ) (r : Ref) → IsThere bound r → IsThere (bound ++ more) r
  there_more bound more Root h = tt
  there_more bound more (Input n) h = h
  there_more bound more (Bound m) h = has_append m bound more h

  all_there_more : (bound more : List ℕ) (refs : Refs) → AreThere bound refs → AreThere (bound ++ more) refs
  all_there_more bound more refs h = all_weaker (λ r. IsThere bound r.1) (λ r. IsThere (bound ++ more) r.1) refs (λ r g. there_more bound more r.1 g) h

  one_there_more : (bound : List ℕ) (refs : Refs) (name : List ℕ) (m : ℕ) → AreThere bound refs → AreThere (bound ++ m ∷ []) (with_var refs name m)
  one_there_more bound refs name m h =
      all_both (λ r. IsThere (bound ++ m ∷ []) r.1) refs ((name, Bound m) ∷ []) (all_there_more bound (m ∷ []) refs h) (has_last m bound, tt)

  -- inputs of these names, of which the ones with these numbers are lists
  module _ (names : List (List ℕ)) (lists : List ℕ) where
    abbrev inputs : Inputs
    inputs = record { count = count; lists = lists }

    abbrev IsCalledIn : Scope → Refs → Type 0
    IsCalledIn vs refs = Calls names lists vs refs

    -- ---- expressions

    not_deep : (step depth : ℕ) → depth ≤ 256 → nested_exprs step depth ≡ []
    not_deep step depth h = ap (λ (t : Bool). when t (TooDeep step)) (le-ltb most_exprs depth h)

    -- there is an input of this number
    input_known : (step n : ℕ) → n < count → unknown_input inputs step n ≡ []
    input_known step n h = ap (λ (t : Bool). when (not t) (UnknownInput step)) (lt-ltb n count h)

    name_valid : (bound : List ℕ) (step depth : ℕ) (role : Role) (o : Option Ref) → is_portable_role role ≡ true → Told lists role o → MayBeThere bound o → depth ≤ 256 → expr_refusals inputs bound step depth (ref_expr o) ≡ []
    name_valid bound step depth role (Some Root) r c h d = not_deep step depth d
    name_valid bound step depth role (Some (Input n)) r c h d =
        none_both (nested_exprs step depth) (input_refusals inputs step n) (not_deep step depth d)
        (none_both (unknown_input inputs step n) (when (has n lists) (WrongInput step)) (input_known step n h) (ap (λ (t : Bool). when t (WrongInput step)) (told_portable (has n lists) role c r)))
    name_valid bound step depth role (Some (Bound m)) r c h d =
        none_both (nested_exprs step depth) (when (not (has m bound)) (UnknownVariable step)) (not_deep step depth d) (ap (λ (t : Bool). when (not t) (UnknownVariable step)) h)
    name_valid bound step depth role None r c h d = not_deep step depth d

    module _ (p : Program) where
      abbrev x : Facts
      x = facts_of p

      module _ (vs : Scope) (refs : Refs) (calls : IsCalledIn vs refs) (bound : List ℕ) (step : ℕ) (there : AreThere bound refs) where
        abbrev HasNone : ℕ → SExpr → Type 0
        HasNone depth e = expr_refusals inputs bound step depth e ≡ []

        mutual
          expr_valid : (e : Expr) (depth : ℕ) → portable x vs e ≡ true → depth + expr_depth e ≤ 257 → HasNone depth (sexpr p refs e)
          expr_valid (Lit at value) depth r d = not_deep step depth (omega (arith, d))
          expr_valid (Name at name) depth r d = name_valid bound step depth (role_of vs name) (lookup refs name) r (calls.told name) (found_there bound refs name there) (omega (arith, d))
          expr_valid (This at) depth r d = not_deep step depth (omega (arith, d))
          expr_valid (Unary at op a) depth r d =
              none_both (nested_exprs step depth) (expr_refusals inputs bound step (depth + 1) (sexpr p refs a)) (not_deep step depth (omega (arith, d))) (expr_valid a (depth + 1) r (omega (arith, d)))
          expr_valid (Binary at op a b) depth r d =
              let both = and_parts (portable x vs a) (portable x vs b) r in
              none_both (nested_exprs step depth ++ expr_refusals inputs bound step (depth + 1) (sexpr p refs a)) (expr_refusals inputs bound step (depth + 1) (sexpr p refs b))
              (none_both (nested_exprs step depth) (expr_refusals inputs bound step (depth + 1) (sexpr p refs a)) (not_deep step depth (omega (arith, d))) (expr_valid a (depth + 1) both.0 (omega (arith, d))))
              (expr_valid b (depth + 1) both.1 (omega (arith, d)))
          expr_valid (Call at a method args) depth r d =
              let whole = and_parts (is_remote x a && portable x vs a) (all_portable x vs args) r in
              let receiver = and_parts (is_remote x a) (portable x vs a) whole.0 in
              none_both (nested_exprs step depth ++ expr_refusals inputs bound step (depth + 1) (sexpr p refs a)) (exprs_refusals inputs bound step (depth + 1) (sexprs p refs args))
              (none_both (nested_exprs step depth) (expr_refusals inputs bound step (depth + 1) (sexpr p refs a)) (not_deep step depth (omega (arith, d))) (expr_valid a (depth + 1) receiver.1 (omega (arith, d))))
              (exprs_valid args (depth + 1) whole.1 (omega (arith, d)))
          expr_valid (Field at a name) depth r d = not_deep step depth (omega (arith, d))
          expr_valid (Index at a b) depth r d = not_deep step depth (omega (arith, d))
          expr_valid (New at class args) depth r d = not_deep step depth (omega (arith, d))
          expr_valid (Items at item items) depth r d = not_deep step depth (omega (arith, d))
          expr_valid (Taken at s) depth r d = not_deep step depth (omega (arith, d))

          exprs_valid : (es : Exprs) (depth : ℕ) → all_portable x vs es ≡ true → depth + exprs_depth es ≤ 257 → exprs_refusals inputs bound step depth (sexprs p refs es) ≡ []
          exprs_valid NoExprs depth r d = refl
          exprs_valid (MoreExprs e es) depth r d =
              let both = and_parts (portable x vs e) (all_portable x vs es) r in
              none_both (expr_refusals inputs bound step depth (sexpr p refs e)) (exprs_refusals inputs bound step depth (sexprs p refs es))
              (expr_valid e depth both.0 (omega (arith, d))) (exprs_valid es depth both.1 (omega (arith, d)))

        whole_valid : (e : Expr) → Whole e → portable x vs e ≡ true → whole_refusals inputs bound step (sexpr p refs e) ≡ []
        unfolding whole_refusals
        whole_valid e h r = expr_valid e 1 r (omega (arith, h.1))

      -- ---- steps

      not_repeated : (n : ℕ) (seen : List ℕ) → Below n seen → repeated n seen ≡ []
      not_repeated n seen h = ap (λ (t : Bool). when t (StepRepeated n)) (has_below n seen h)

      blocks_fit : (n depth : ℕ) → depth < 64 → nested_blocks n depth ≡ []
      blocks_fit n depth h = ap (λ (t : Bool). when (not t) (TooDeep n)) (lt-ltb depth most_blocks h)

      -- steps without refusals, in a block at a depth, behind steps of these numbers and under these variables
      abbrev Fine : ℕ → List ℕ → List ℕ → Steps → Type 0
      Fine depth seen bound ss = steps_refusals inputs depth seen bound ss ≡ []

      -- what follows, behind any steps below a number and under any variables with these names
      abbrev Onward : ℕ → ℕ → Refs → Steps → Type 0
      Onward depth n refs ss = (seen bound : List ℕ) → Below n seen → AreThere bound refs → Fine depth seen bound ss

      below_more : (n after : ℕ) (seen more : List ℕ) → n ≤ after → Below n seen → Below after more → Below after (seen ++ more)
      below_more n after seen more l h g = all_both (λ i. i < after) seen more (all_weaker (λ i. i < n) (λ i. i < after) seen (λ i k. omega (arith, k)) h) g

      -- a step with an expression alone
      one_fine : (n : ℕ) (vs : Scope) (refs : Refs) (e : Expr) (seen bound : List ℕ) → IsCalledIn vs refs → Whole e → portable x vs e ≡ true → Below n seen → AreThere bound refs → repeated n seen ++ whole_refusals inputs bound n (sexpr p refs e) ≡ []
      one_fine n vs refs e seen bound c w r b t = none_both (repeated n seen) (whole_refusals inputs bound n (sexpr p refs e)) (not_repeated n seen b) (whole_valid vs refs c bound n t e w r)

      -- a step with blocks
      block_step_fine : (n depth : ℕ) (vs : Scope) (refs : Refs) (e : Expr) (seen bound : List ℕ) → IsCalledIn vs refs → Whole e → portable x vs e ≡ true → depth < 64 → Below n seen → AreThere bound refs
          → repeated n seen ++ nested_blocks n depth ++ whole_refusals inputs bound n (sexpr p refs e) ≡ []
      block_step_fine n depth vs refs e seen bound c w r d b t =
          none_both (repeated n seen ++ nested_blocks n depth) (whole_refusals inputs bound n (sexpr p refs e))
          (none_both (repeated n seen) (nested_blocks n depth) (not_repeated n seen b) (blocks_fit n depth d)) (whole_valid vs refs c bound n t e w r)

      -- a step that goes over a list
      list_valid : (vs : Scope) (refs : Refs) (bound : List ℕ) (step : ℕ) (e : Expr) → IsCalledIn vs refs → AreThere bound refs → AreIn names (name_of e) → is_constant_list vs e ≡ true → list_refusals inputs step (list_number refs e) ≡ []
      list_valid vs refs bound step (Name at q) c t i l =
          let found = c.called q i.0 in
          let told = subst (Told lists (role_of vs q)) found.1 (c.told q) in
          subst (λ o. list_refusals inputs step (input_number o) ≡ []) (sym found.1)
          (none_both (unknown_input inputs step found.0) (when (not (has found.0 lists)) (WrongInput step)) (input_known step found.0 (subst (MayBeThere bound) found.1 (found_there bound refs q t)))
          (ap (λ (b : Bool). when (not b) (WrongInput step)) (told_list (has found.0 lists) (role_of vs q) told l)))
      list_valid vs refs bound step e c t i l = absurd (cc l)

      list_step_fine : (n depth : ℕ) (vs : Scope) (refs : Refs) (e : Expr) (seen bound : List ℕ) → IsCalledIn vs refs → AreIn names (name_of e) → is_constant_list vs e ≡ true → depth < 64 → Below n seen → AreThere bound refs
          → repeated n seen ++ nested_blocks n depth ++ list_refusals inputs n (list_number refs e) ≡ []
      list_step_fine n depth vs refs e seen bound c i l d b t =
          none_both (repeated n seen ++ nested_blocks n depth) (list_refusals inputs n (list_number refs e))
          (none_both (repeated n seen) (nested_blocks n depth) (not_repeated n seen b) (blocks_fit n depth d)) (list_valid vs refs bound n e c t i l)

      next_below : (n : ℕ) (seen : List ℕ) → Below n seen → Below (suc n) (seen ++ n ∷ [])
      next_below n seen h = below_more n (suc n) seen (n ∷ []) (omega arith) h (omega arith, tt)

      keeps_fine : (depth : ℕ) (vs : Scope) (refs : Refs) (es : List Expr) (n : ℕ) (rest : Steps) → IsCalledIn vs refs → EachWhole es → ArePortable x vs es → Onward depth (counted es n) refs rest → Onward depth n refs (keeps p refs n es rest)
      keeps_fine depth vs refs [] n rest c w r h = h
      keeps_fine depth vs refs (e ∷ es) n rest c w r h = λ seen bound b t.
          none_both (repeated n seen ++ whole_refusals inputs bound n (sexpr p refs e)) (steps_refusals inputs depth (seen ++ n ∷ []) (bound ++ []) (keeps p refs (suc n) es rest))
          (one_fine n vs refs e seen bound c w.0 r.0 b t)
          (keeps_fine depth vs refs es (suc n) rest c w.1 r.1 h (seen ++ n ∷ []) (bound ++ []) (next_below n seen b) (all_there_more bound [] refs t))

      skip_fine : (depth : ℕ) (refs : Refs) (scope : Scope) (n : ℕ) (s : Stmt) (rest : Steps) → IsCalledIn scope refs → StmtCarriable s → ArePortable x scope (remote_of x scope s) → Onward depth (kept_after x scope s n) refs rest
          → Onward depth n refs (keeps p refs n (remote_of x scope s) rest)
      skip_fine depth refs scope n s rest c w r h = keeps_fine depth scope refs (remote_of x scope s) n rest c (remotes_whole x scope s w) r h

      -- turns over rows or items, where the step itself has no refusal
      turns_fine : (depth : ℕ) (refs : Refs) (inner : Scope) (n m : ℕ) (name : List ℕ) (a : Stmts) (rest : Steps) (own : List ScriptRefusal) (seen bound : List ℕ) → repeated n seen ++ nested_blocks n depth ++ own ≡ []
          → Onward (depth + 1) (suc n) (with_var refs name m) (block_steps p (with_var refs name m) inner (suc n) (suc m) a) → Onward depth (steps_after x inner a (suc n)) refs rest → Below n seen → AreThere bound refs
          → (repeated n seen ++ nested_blocks n depth ++ own ++ steps_refusals inputs (depth + 1) (seen ++ n ∷ []) (bound ++ m ∷ []) (block_steps p (with_var refs name m) inner (suc n) (suc m) a))
          ++ steps_refusals inputs depth (seen ++ (n ∷ steps_numbers (block_steps p (with_var refs name m) inner (suc n) (suc m) a))) (bound ++ []) rest ≡ []
      turns_fine depth refs inner n m name a rest own seen bound fine block follows below t =
          let steps = block_steps p (with_var refs name m) inner (suc n) (suc m) a in
          let last = steps_after x inner a (suc n) in
          let numbers : Below last (n ∷ steps_numbers steps) = (omega (arith, grows_all x inner a (suc n)), block_below p (with_var refs name m) inner (suc n) (suc m) a last (omega arith)) in
          none_both (repeated n seen ++ nested_blocks n depth ++ own ++ steps_refusals inputs (depth + 1) (seen ++ n ∷ []) (bound ++ m ∷ []) steps)
          (steps_refusals inputs depth (seen ++ (n ∷ steps_numbers steps)) (bound ++ []) rest)
          (none_both (repeated n seen ++ nested_blocks n depth ++ own) (steps_refusals inputs (depth + 1) (seen ++ n ∷ []) (bound ++ m ∷ []) steps) fine
          (block (seen ++ n ∷ []) (bound ++ m ∷ []) (next_below n seen below) (one_there_more bound refs name m t)))
          (follows (seen ++ (n ∷ steps_numbers steps)) (bound ++ [])
          (below_more n last seen (n ∷ steps_numbers steps) (omega (arith, grows_all x inner a (suc n))) below numbers) (all_there_more bound [] refs t))

      mutual
        stmt_fine : (form : PlacedForm) (depth : ℕ) (refs : Refs) (scope : Scope) (n m : ℕ) (s : Stmt) (rest : Steps) → placed_form x scope s ≡ form → StmtCarriable s → depth + stmt_depth s ≤ 64
            → IsCalledIn scope refs → TravelsAs x form scope s → AreIn names (used_as x form scope s)
            → Onward depth (step_after_as x form scope s n) (refs_after_as p form refs m s) rest → Onward depth n refs (steps_as p form refs scope n m s rest)
        stmt_fine PlacedForm.CarriedVal depth refs scope n m (Val at name e) rest placing w d k r i h = λ seen bound b t.
            none_both (repeated n seen ++ whole_refusals inputs bound n (sexpr p refs e)) (steps_refusals inputs depth (seen ++ n ∷ []) (bound ++ m ∷ []) rest)
            (one_fine n scope refs e seen bound k w.1 r b t) (h (seen ++ n ∷ []) (bound ++ m ∷ []) (next_below n seen b) (one_there_more bound refs name m t))
        stmt_fine PlacedForm.CallAlone depth refs scope n m (Run at e) rest placing w d k r i h = λ seen bound b t.
            none_both (repeated n seen ++ whole_refusals inputs bound n (sexpr p refs e)) (steps_refusals inputs depth (seen ++ n ∷ []) (bound ++ []) rest)
            (one_fine n scope refs e seen bound k w.1 r b t)
            (h (seen ++ n ∷ []) (bound ++ []) (subst (λ k. Below k (seen ++ n ∷ [])) (sym (one_step x scope at e n (alone_calls x scope at e placing))) (next_below n seen b)) (all_there_more bound [] refs t))
        stmt_fine PlacedForm.CarriedIf depth refs scope n m (If at c a b) rest placing w d k r i h =
            let middle = steps_after x scope a (suc n) in
            let first = block_steps p refs scope (suc n) m a in
            let second = block_steps p refs scope middle (vars_after x scope a m) b in
            let last = steps_after x scope b middle in
            λ seen bound below t.
            let numbers : Below middle (n ∷ steps_numbers first) = (omega (arith, grows_all x scope a (suc n)), block_below p refs scope (suc n) m a middle (omega arith)) in
            none_both (repeated n seen ++ nested_blocks n depth ++ whole_refusals inputs bound n (sexpr p refs c)
            ++ steps_refusals inputs (depth + 1) (seen ++ n ∷ []) bound first ++ steps_refusals inputs (depth + 1) (seen ++ n ∷ steps_numbers first) bound second)
            (steps_refusals inputs depth (seen ++ (n ∷ steps_numbers first ++ steps_numbers second)) (bound ++ []) rest)
            (none_both (repeated n seen ++ nested_blocks n depth ++ whole_refusals inputs bound n (sexpr p refs c) ++ steps_refusals inputs (depth + 1) (seen ++ n ∷ []) bound first)
            (steps_refusals inputs (depth + 1) (seen ++ n ∷ steps_numbers first) bound second)
            (none_both (repeated n seen ++ nested_blocks n depth ++ whole_refusals inputs bound n (sexpr p refs c)) (steps_refusals inputs (depth + 1) (seen ++ n ∷ []) bound first)
            (block_step_fine n depth scope refs c seen bound k w.1 r.0 (omega (arith, d)) below t)
            (stmts_fine (depth + 1) refs scope (suc n) m a w.2 (omega (arith, d)) k r.1 (all_right (IsIn names) (constants scope c) (used_in x scope a) (all_left (IsIn names) (constants scope c ++ used_in x scope a) (used_in x scope b) i))
            (seen ++ n ∷ []) bound (next_below n seen below) t))
            (stmts_fine (depth + 1) refs scope middle (vars_after x scope a m) b w.3 (omega (arith, d)) k r.2 (all_right (IsIn names) (constants scope c ++ used_in x scope a) (used_in x scope b) i)
            (seen ++ n ∷ steps_numbers first) bound
            (below_more n middle seen (n ∷ steps_numbers first) (omega (arith, grows_all x scope a (suc n))) below numbers) t))
            (h (seen ++ (n ∷ steps_numbers first ++ steps_numbers second)) (bound ++ [])
            (below_more n last seen (n ∷ steps_numbers first ++ steps_numbers second) (omega (arith, grows_all x scope a (suc n), grows_all x scope b middle)) below
            (below_more middle last (n ∷ steps_numbers first) (steps_numbers second) (grows_all x scope b middle) numbers (block_below p refs scope middle (vars_after x scope a m) b last (omega arith))))
            (all_there_more bound [] refs t))
        stmt_fine PlacedForm.RowsLoop depth refs scope n m (For at name e a) rest placing w d k r i h =
            let inner = with_variable scope name Role.Row at in
            let block = stmts_fine (depth + 1) (with_var refs name m) inner (suc n) (suc m) a w.2 (omega (arith, d)) (calls_more names lists scope (with_var refs name m) name Role.Row at (calls_var names lists scope refs name m k)) r.1
            (all_right (IsIn names) (constants scope e) (used_in x inner a) i) in
            λ seen bound below t.
            turns_fine depth refs inner n m name a rest (whole_refusals inputs bound n (sexpr p refs e)) seen bound (block_step_fine n depth scope refs e seen bound k w.1 r.0 (omega (arith, d)) below t) block h below t
        stmt_fine PlacedForm.CarriedLoop depth refs scope n m (For at name e a) rest placing w d k r i h =
            let inner = with_variable scope name Role.Row at in
            let block = stmts_fine (depth + 1) (with_var refs name m) inner (suc n) (suc m) a w.2 (omega (arith, d)) (calls_more names lists scope (with_var refs name m) name Role.Row at (calls_var names lists scope refs name m k)) r.1
            (all_right (IsIn names) (name_of e) (used_in x inner a) i) in
            λ seen bound below t.
            turns_fine depth refs inner n m name a rest (list_refusals inputs n (list_number refs e)) seen bound
            (list_step_fine n depth scope refs e seen bound k (all_left (IsIn names) (name_of e) (used_in x inner a) i) r.0 (omega (arith, d)) below t) block h below t
        stmt_fine form depth refs scope n m s rest placing w d k r i h = skip_fine depth refs scope n s rest k w r h

        pub stmts_fine : (depth : ℕ) (refs : Refs) (scope : Scope) (n m : ℕ) (ss : Stmts) → StmtsCarriable ss → depth + stmts_depth ss ≤ 64
            → IsCalledIn scope refs → Travel x scope ss → AreIn names (used_in x scope ss) → Onward depth n refs (block_steps p refs scope n m ss)
        stmts_fine depth refs scope n m NoStmts w d k r i = λ seen bound b t. refl
        stmts_fine depth refs scope n m (MoreStmts s ss) w d k r i =
            let form = placed_form x scope s in
            let refs1 = refs_after p refs m scope s in
            let scope1 = scope_after x [] scope s in
            let n1 = step_after x scope s n in
            let m1 = var_after x scope s m in
            stmt_fine form depth refs scope n m s (block_steps p refs1 scope1 n1 m1 ss) refl w.0 (omega (arith, d)) k r.0 (all_left (IsIn names) (used x scope s) (used_in x scope1 ss) i)
            (stmts_fine depth refs1 scope1 n1 m1 ss w.1 (omega (arith, d)) (calls_after names lists p x form scope refs m s k) r.1 (all_right (IsIn names) (used x scope s) (used_in x scope1 ss) i))
