-- Steps and parts that are joined.
use Rattle.std.proofs.Common.{◌≡◌, ℕ, suc, List, [], ◌∷◌, refl, ap, sym, ◌∙◌}
use Rattle.std.specs.Prelude.{Bool, true, false, cond}
use Rattle.rb_trees.specs.mirror.Code.{Expr, expr_at, Stmt, Val, Var, Assign, Run, Print, Throw, If, While, For, Try, Batch}
use Rattle.rb_trees.specs.mirror.Declarations.{Program}
use Rattle.rb_trees.specs.mirror.Scripts as script
use Rattle.rb_trees.specs.mirror.Scripts.{Step, Steps, NoSteps, MoreSteps}
use Rattle.rb_trees.specs.mirror.Remainders.{Parts, NoParts, MoreParts}
use Rattle.rb_meaning_flow.specs.declared.forms.PlacedForm.{PlacedForm}
use Rattle.rb_meaning_flow.specs.Facts.{facts_of, over_rows}
use Rattle.rb_meaning_flow.specs.Marks.{is_portable_call}
use Rattle.rb_meaning_flow.specs.Portable.{portable, branches_hold, may_carry}
use Rattle.rb_meaning_flow.specs.Scopes.{Scope}
use Rattle.rb_meaning.specs.RemoteExprs.{remote_of}
use Rattle.rb_meaning_split.specs.Cuts.{counted}
use Rattle.rb_meaning_split.specs.Refs.{Refs, sexpr}
use Rattle.rb_meaning_split.specs.Steps.{keeps, steps, steps_as}
use Rattle.rb_split.specs.Drafts.{Drafted, all_kept, joined, joined_parts}

pub joined_whole : (ss : Steps) → joined ss NoSteps ≡ ss
joined_whole NoSteps = refl
joined_whole (MoreSteps s ss) = ap (MoreSteps s) (joined_whole ss)

pub joined_assoc : (ss ts us : Steps) → joined (joined ss ts) us ≡ joined ss (joined ts us)
joined_assoc NoSteps ts us = refl
joined_assoc (MoreSteps s ss) ts us = ap (MoreSteps s) (joined_assoc ss ts us)

pub parts_whole : (qs : Parts) → joined_parts qs NoParts ≡ qs
parts_whole NoParts = refl
parts_whole (MoreParts q qs) = ap (MoreParts q) (parts_whole qs)

pub parts_assoc : (qs rs ts : Parts) → joined_parts (joined_parts qs rs) ts ≡ joined_parts qs (joined_parts rs ts)
parts_assoc NoParts rs ts = refl
parts_assoc (MoreParts q qs) rs ts = ap (MoreParts q) (parts_assoc qs rs ts)

-- what follows the steps that keep values
keeps_apart : (p : Program) (refs : Refs) (n : ℕ) (es : List Expr) (rest : Steps) → keeps p refs n es rest ≡ joined (keeps p refs n es NoSteps) rest
keeps_apart p refs n [] rest = refl
keeps_apart p refs n (e ∷ es) rest = ap (MoreSteps (script.Keep n (expr_at e) (sexpr p refs e))) (keeps_apart p refs (suc n) es rest)

-- whatever follows the steps of a statement of this form stands behind them
abbrev Apart : Program → Refs → Scope → (n m : ℕ) → Stmt → PlacedForm → Type 0
Apart p refs scope n m s form = (rest : Steps) → steps_as p form refs scope n m s rest ≡ joined (steps_as p form refs scope n m s NoSteps) rest

either : (form other : PlacedForm) (b : Bool) (p : Program) (refs : Refs) (scope : Scope) (n m : ℕ) (s : Stmt)
    → Apart p refs scope n m s form → Apart p refs scope n m s other → Apart p refs scope n m s (cond b form other)
either form other true p refs scope n m s h k = h
either form other false p refs scope n m s h k = k

-- what follows the steps of a statement
pub steps_apart : (p : Program) (refs : Refs) (scope : Scope) (n m : ℕ) (s : Stmt) (rest : Steps) → steps p refs scope n m s rest ≡ joined (steps p refs scope n m s NoSteps) rest
steps_apart p refs scope n m (Val at name e) rest =
    either PlacedForm.CarriedVal PlacedForm.Plain (portable (facts_of p) scope e) p refs scope n m (Val at name e) (λ _. refl) (keeps_apart p refs n (remote_of (facts_of p) scope (Val at name e))) rest
steps_apart p refs scope n m (Var at name e) rest = keeps_apart p refs n (remote_of (facts_of p) scope (Var at name e)) rest
steps_apart p refs scope n m (Assign at a b) rest = keeps_apart p refs n (remote_of (facts_of p) scope (Assign at a b)) rest
steps_apart p refs scope n m (Run at e) rest =
    either PlacedForm.CallAlone PlacedForm.Plain (is_portable_call (facts_of p) scope e) p refs scope n m (Run at e) (λ _. refl) (keeps_apart p refs n (remote_of (facts_of p) scope (Run at e))) rest
steps_apart p refs scope n m (Print at e) rest = keeps_apart p refs n (remote_of (facts_of p) scope (Print at e)) rest
steps_apart p refs scope n m (Throw at e) rest = keeps_apart p refs n (remote_of (facts_of p) scope (Throw at e)) rest
steps_apart p refs scope n m (If at c a b) rest =
    either PlacedForm.CarriedIf PlacedForm.Plain (branches_hold (facts_of p) a b) p refs scope n m (If at c a b) (λ _. refl) (keeps_apart p refs n (remote_of (facts_of p) scope (If at c a b))) rest
steps_apart p refs scope n m (While at c a) rest = keeps_apart p refs n (remote_of (facts_of p) scope (While at c a)) rest
steps_apart p refs scope n m (For at name e a) rest =
    either PlacedForm.RowsLoop (cond (may_carry (facts_of p) scope e a) PlacedForm.CarriedLoop PlacedForm.Plain) (over_rows (facts_of p) e) p refs scope n m (For at name e a) (λ _. refl)
    (either PlacedForm.CarriedLoop PlacedForm.Plain (may_carry (facts_of p) scope e a) p refs scope n m (For at name e a) (λ _. refl) (keeps_apart p refs n (remote_of (facts_of p) scope (For at name e a)))) rest
steps_apart p refs scope n m (Try at a name b) rest = keeps_apart p refs n (remote_of (facts_of p) scope (Try at a name b)) rest
steps_apart p refs scope n m (Batch at interface root a) rest = keeps_apart p refs n (remote_of (facts_of p) scope (Batch at interface root a)) rest

-- a draft of these parts
abbrev pub draft_of : Steps → Parts → ℕ → ℕ → Drafted
draft_of ss qs n m = record { steps = ss; parts = qs; step = n; var = m }

-- steps that keep values, behind those of a draft
pub kept_so : (p : Program) (refs : Refs) (ss : Steps) (qs : Parts) (n m : ℕ) (es : List Expr)
    → all_kept p refs (draft_of ss qs n m) es ≡ draft_of (joined ss (keeps p refs n es NoSteps)) qs (counted es n) m
kept_so p refs ss qs n m [] = ap (λ x. draft_of x qs n m) (sym (joined_whole ss))
kept_so p refs ss qs n m (e ∷ es) =
    let k = script.Keep n (expr_at e) (sexpr p refs e) in
    kept_so p refs (joined ss (MoreSteps k NoSteps)) qs (suc n) m es
    ∙ ap (λ x. draft_of x qs (counted es (suc n)) m) (joined_assoc ss (MoreSteps k NoSteps) (keeps p refs (suc n) es NoSteps))
