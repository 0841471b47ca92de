-- The walk through the script places of a program's batches notes their carried loops.
use Rattle.std.proofs.Common.{◌≡◌, ℕ, List, [], ◌∷◌, ◌++◌, map, Bool, true, false, cond, ◌&&◌, ◌||◌, refl, sym, ap, ◌∙◌, append_assoc}
use Rattle.std.proofs.lemmas.List.{append-nil}
use Rattle.std.proofs.lemmas.List.Concat.{flat_map-append}
use Rattle.std.specs.List.{flat_map}
use Rattle.rb_trees.specs.mirror.Code.{Stmt, Stmts, Val, Var, Assign, Run, Print, Throw, If, While, For, Try, Batch, NoStmts, MoreStmts, stmt_at}
use Rattle.rb_trees.specs.mirror.Declarations.{Program}
use Rattle.rb_meaning_flow.specs.declared.forms.PlacedForm.{PlacedForm}
use Rattle.rb_meaning_flow.specs.declared.scopes.Role.{Role}
use Rattle.rb_meaning_flow.specs.Facts.{Facts, facts_of, over_rows}
use Rattle.rb_meaning_flow.specs.Scopes.{Scope, with_variable}
use Rattle.rb_meaning_flow.specs.Portable.{portable, branches_hold, may_carry, has_far_turns}
use Rattle.rb_meaning_flow.specs.Sites.{Around, Branch, WhileTurn, Turn, InTry, InBatch, is_script_place, StmtSite, stmt_site, sites, block_sites, scope_after, turn_role}
use Rattle.rb_meaning_flow.specs.Marks.{is_portable_call}
use Rattle.rb_meaning_flow.specs.Forms.{placed_form, is_carried_form}
use Rattle.rb_meaning_flow.specs.Outermost.{Outermost, batch_sites, program_batches}
use Rattle.rb_meaning_flow.specs.Programs.{carried_loop, carried_loops}
use Rattle.rb_flow.specs.Begun.{begun, program_begun}
use Rattle.rb_flow.specs.Carried.{loop_noted, scope_noted, stmt_noted, block_noted, batches_noted}
use Rattle.rb_flow.proofs.Among.{program_collected}

-- the carried loops of some statements
abbrev loops_of : Facts → List StmtSite → List ℕ
loops_of x ss = flat_map (carried_loop x) ss

-- what isn't carried is not noted
here_none : (script : Bool) (at : ℕ) → cond (script && false) (at ∷ []) [] ≡ []
here_none true at = refl
here_none false at = refl

plain_form : (script is : Bool) (form : PlacedForm) (at : ℕ) → is_carried_form form ≡ false → cond (script && is_carried_form (cond is form PlacedForm.Plain)) (at ∷ []) [] ≡ []
plain_form script true form at e = ap (λ b. cond (script && b) (at ∷ []) []) e ∙ here_none script at
plain_form script false form at e = here_none script at

-- nor is what stands at no script place
beside : (script is : Bool) (at : ℕ) → script ≡ false → cond (script && is) (at ∷ []) [] ≡ []
beside true is at e = cc
beside false is at e = refl

one_beside : (x : Facts) (around : List Around) (scope : Scope) (s : Stmt) → is_script_place x around ≡ false → carried_loop x (stmt_site around scope s) ≡ []
one_beside x around scope s h = beside (is_script_place x around) (is_carried_form (placed_form x scope s)) (stmt_at s) h

off : (b c : Bool) → b ≡ false → (b && c) ≡ false
off true c e = cc
off false c e = refl

nothing_both : (as' bs : List ℕ) → as' ≡ [] → bs ≡ [] → as' ++ bs ≡ []
nothing_both as' bs e f = ap (λ zs. zs ++ bs) e ∙ f

two_blocks : (x : Facts) (here : List ℕ) (ss ts : List StmtSite) → here ≡ [] → loops_of x ss ≡ [] → loops_of x ts ≡ [] → here ++ loops_of x (ss ++ ts) ≡ []
two_blocks x here ss ts e f g = nothing_both here (loops_of x (ss ++ ts)) e (flat_map-append (carried_loop x) ss ts ∙ nothing_both (loops_of x ss) (loops_of x ts) f g)

-- where a block is no script place, there are no carried loops in it
mutual
  stmt_beside : (x : Facts) (around : List Around) (scope : Scope) (s : Stmt) → is_script_place x around ≡ false → loops_of x (sites x around scope s) ≡ []
  stmt_beside x around scope (Val at name e) h = nothing_both _ [] (one_beside x around scope (Val at name e) h) refl
  stmt_beside x around scope (Var at name e) h = nothing_both _ [] (one_beside x around scope (Var at name e) h) refl
  stmt_beside x around scope (Assign at a b) h = nothing_both _ [] (one_beside x around scope (Assign at a b) h) refl
  stmt_beside x around scope (Run at e) h = nothing_both _ [] (one_beside x around scope (Run at e) h) refl
  stmt_beside x around scope (Print at e) h = nothing_both _ [] (one_beside x around scope (Print at e) h) refl
  stmt_beside x around scope (Throw at e) h = nothing_both _ [] (one_beside x around scope (Throw at e) h) refl
  stmt_beside x around scope (If at c a b) h =
      let inner = Branch at scope c a b ∷ around in
      let inside = off (is_script_place x around) (branches_hold x a b) h in
      two_blocks x _ (block_sites x inner scope a) (block_sites x inner scope b) (one_beside x around scope (If at c a b) h)
      (block_beside x inner scope a inside) (block_beside x inner scope b inside)
  stmt_beside x around scope (While at c a) h =
      nothing_both _ _ (one_beside x around scope (While at c a) h) (block_beside x (WhileTurn at scope c ∷ around) scope a refl)
  stmt_beside x around scope (For at name e a) h =
      nothing_both _ _ (one_beside x around scope (For at name e a) h)
      (block_beside x (Turn at scope e a ∷ around) (with_variable scope name (turn_role x around scope e a) at) a (off (is_script_place x around) (has_far_turns x scope e a) h))
  stmt_beside x around scope (Try at a name b) h =
      let inner = InTry at scope a name b ∷ around in
      two_blocks x _ (block_sites x inner scope a) (block_sites x inner (with_variable scope name Role.Plain at) b) (one_beside x around scope (Try at a name b) h)
      (block_beside x inner scope a refl) (block_beside x inner (with_variable scope name Role.Plain at) b refl)
  stmt_beside x around scope (Batch at interface root a) h =
      nothing_both _ _ (one_beside x around scope (Batch at interface root a) h) (block_beside x (InBatch at ∷ around) (with_variable scope root Role.Plain at) a refl)

  block_beside : (x : Facts) (around : List Around) (scope : Scope) (ss : Stmts) → is_script_place x around ≡ false → loops_of x (block_sites x around scope ss) ≡ []
  block_beside x around scope NoStmts h = refl
  block_beside x around scope (MoreStmts s ss) h =
      two_blocks x [] (sites x around scope s) (block_sites x around (scope_after x around scope s) ss) refl
      (stmt_beside x around scope s h) (block_beside x around (scope_after x around scope s) ss h)

-- the loops so far, and none
none_more : (loops here : List ℕ) → here ≡ [] → loops ≡ loops ++ (here ++ [])
none_more loops here e = sym (append-nil loops) ∙ ap (λ zs. loops ++ (zs ++ [])) (sym e)

-- and none here and in a block
none_inside : (loops here inner : List ℕ) → here ≡ [] → inner ≡ [] → loops ≡ loops ++ (here ++ inner)
none_inside loops here inner e f = none_more loops here e ∙ ap (λ zs. loops ++ (here ++ zs)) (sym f)

-- an `if` with both its blocks
branch_case : (script holds : Bool) (at : ℕ) (loops : List ℕ) (noted : List ℕ → List ℕ) (inner : List ℕ) → script ≡ true
    → ((ls : List ℕ) → (script && holds) ≡ true → noted ls ≡ ls ++ inner) → ((script && holds) ≡ false → inner ≡ [])
    → cond holds (noted loops) loops ≡ loops ++ (cond (script && is_carried_form (cond holds PlacedForm.CarriedIf PlacedForm.Plain)) (at ∷ []) [] ++ inner)
branch_case true true at loops noted inner h f g = f loops refl
branch_case true false at loops noted inner h f g = none_inside loops [] inner refl (g refl)
branch_case false holds at loops noted inner h f g = cc

-- a loop with its block, whose variable has this role
turn_case : (script rows may : Bool) (at : ℕ) (loops : List ℕ) (noted : List ℕ → List ℕ) (inner : Role → List ℕ) → script ≡ true
    → ((ls : List ℕ) → (script && (rows || may)) ≡ true → noted ls ≡ ls ++ inner Role.Row) → ((r : Role) → (script && (rows || may)) ≡ false → inner r ≡ [])
    → cond (rows || may) (noted (loop_noted rows loops at)) loops
    ≡ loops ++ (cond (script && is_carried_form (cond rows PlacedForm.RowsLoop (cond may PlacedForm.CarriedLoop PlacedForm.Plain))) (at ∷ []) [] ++ inner (cond (rows || (script && may)) Role.Row Role.Plain))
turn_case true true may at loops noted inner h f g = f loops refl
turn_case true false true at loops noted inner h f g = f (loops ++ at ∷ []) refl ∙ append_assoc loops (at ∷ []) (inner Role.Row)
turn_case true false false at loops noted inner h f g = none_inside loops [] (inner Role.Plain) refl (g Role.Plain refl)
turn_case false rows may at loops noted inner h f g = cc

-- two blocks, one behind the other
both_noted : (x : Facts) (ls first second : List ℕ) (ss ts : List StmtSite) → first ≡ ls ++ loops_of x ss → second ≡ first ++ loops_of x ts → second ≡ ls ++ loops_of x (ss ++ ts)
both_noted x ls first second ss ts e f =
    f ∙ ap (λ zs. zs ++ loops_of x ts) e ∙ append_assoc ls (loops_of x ss) (loops_of x ts) ∙ ap (λ zs. ls ++ zs) (sym (flat_map-append (carried_loop x) ss ts))

after_noted : (x : Facts) (around : List Around) (scope : Scope) (s : Stmt) → is_script_place x around ≡ true → scope_noted x scope s ≡ scope_after x around scope s
after_noted x around scope (Val at name e) h = ap (λ b. with_variable scope name (cond (b && portable x scope e) Role.Carried Role.Plain) at) (sym h)
after_noted x around scope (Var at name e) h = refl
after_noted x around scope (Assign at a b) h = refl
after_noted x around scope (Run at e) h = refl
after_noted x around scope (Print at e) h = refl
after_noted x around scope (Throw at e) h = refl
after_noted x around scope (If at c a b) h = refl
after_noted x around scope (While at c a) h = refl
after_noted x around scope (For at name e a) h = refl
after_noted x around scope (Try at a name b) h = refl
after_noted x around scope (Batch at interface root a) h = refl

-- at a script place the walk notes the carried loops
mutual
  stmt_loops : (x : Facts) (around : List Around) (scope : Scope) (loops : List ℕ) (s : Stmt) → is_script_place x around ≡ true
      → stmt_noted x scope loops s ≡ loops ++ loops_of x (sites x around scope s)
  stmt_loops x around scope loops (Val at name e) h = none_more loops _ (plain_form (is_script_place x around) (portable x scope e) PlacedForm.CarriedVal at refl)
  stmt_loops x around scope loops (Var at name e) h = none_more loops _ (here_none (is_script_place x around) at)
  stmt_loops x around scope loops (Assign at a b) h = none_more loops _ (here_none (is_script_place x around) at)
  stmt_loops x around scope loops (Run at e) h = none_more loops _ (plain_form (is_script_place x around) (is_portable_call x scope e) PlacedForm.CallAlone at refl)
  stmt_loops x around scope loops (Print at e) h = none_more loops _ (here_none (is_script_place x around) at)
  stmt_loops x around scope loops (Throw at e) h = none_more loops _ (here_none (is_script_place x around) at)
  stmt_loops x around scope loops (If at c a b) h =
      let inner = Branch at scope c a b ∷ around in
      let as' = block_sites x inner scope a in
      let bs = block_sites x inner scope b in
      branch_case (is_script_place x around) (branches_hold x a b) at loops (λ ls. block_noted x scope (block_noted x scope ls a) b) (loops_of x (as' ++ bs)) h
      (λ ls is. both_noted x ls (block_noted x scope ls a) _ as' bs (block_loops x inner scope ls a is) (block_loops x inner scope (block_noted x scope ls a) b is))
      (λ isnt. two_blocks x [] as' bs refl (block_beside x inner scope a isnt) (block_beside x inner scope b isnt))
  stmt_loops x around scope loops (While at c a) h =
      none_inside loops _ _ (here_none (is_script_place x around) at) (block_beside x (WhileTurn at scope c ∷ around) scope a refl)
  stmt_loops x around scope loops (For at name e a) h =
      let inner = Turn at scope e a ∷ around in
      turn_case (is_script_place x around) (over_rows x e) (may_carry x scope e a) at loops (λ ls. block_noted x (with_variable scope name Role.Row at) ls a)
      (λ r. loops_of x (block_sites x inner (with_variable scope name r at) a)) h
      (λ ls is. block_loops x inner (with_variable scope name Role.Row at) ls a is) (λ r isnt. block_beside x inner (with_variable scope name r at) a isnt)
  stmt_loops x around scope loops (Try at a name b) h =
      let inner = InTry at scope a name b ∷ around in
      let as' = block_sites x inner scope a in
      let bs = block_sites x inner (with_variable scope name Role.Plain at) b in
      none_inside loops _ (loops_of x (as' ++ bs)) (here_none (is_script_place x around) at)
      (two_blocks x [] as' bs refl (block_beside x inner scope a refl) (block_beside x inner (with_variable scope name Role.Plain at) b refl))
  stmt_loops x around scope loops (Batch at interface root a) h =
      none_inside loops _ _ (here_none (is_script_place x around) at) (block_beside x (InBatch at ∷ around) (with_variable scope root Role.Plain at) a refl)

  block_loops : (x : Facts) (around : List Around) (scope : Scope) (loops : List ℕ) (ss : Stmts) → is_script_place x around ≡ true
      → block_noted x scope loops ss ≡ loops ++ loops_of x (block_sites x around scope ss)
  block_loops x around scope loops NoStmts h = sym (append-nil loops)
  block_loops x around scope loops (MoreStmts s ss) h =
      let then : Scope = scope_after x around scope s in
      both_noted x loops (stmt_noted x scope loops s) _ (sites x around scope s) (block_sites x around then ss) (stmt_loops x around scope loops s h)
      (ap (λ sc. block_noted x sc (stmt_noted x scope loops s) ss) (after_noted x around scope s h) ∙ block_loops x around then (stmt_noted x scope loops s) ss h)

batches_loops : (x : Facts) (loops : List ℕ) (bs : List Outermost) → batches_noted x loops (map begun bs) ≡ loops ++ flat_map (loops_of x) (map (batch_sites x) bs)
batches_loops x loops [] = sym (append-nil loops)
batches_loops x loops (b ∷ bs) =
    let own = (begun b).scope in
    batches_loops x (block_noted x own loops b.block) bs
    ∙ ap (λ zs. zs ++ flat_map (loops_of x) (map (batch_sites x) bs)) (block_loops x [] own loops b.block refl)
    ∙ append_assoc loops (loops_of x (batch_sites x b)) (flat_map (loops_of x) (map (batch_sites x) bs))

-- the loops that are noted in a program's batches are its carried loops
pub program_loops : (p : Program) → batches_noted (facts_of p) [] (program_begun (facts_of p) p) ≡ carried_loops p
program_loops p = let x = facts_of p in ap (batches_noted x []) (program_collected x p) ∙ batches_loops x [] (program_batches x p)
