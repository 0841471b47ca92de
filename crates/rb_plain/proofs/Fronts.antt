-- Lists that only grow at their end.
use Rattle.std.proofs.Common.{◌≡◌, List, [], ◌∷◌, ◌++◌, take, length, refl, ap, ◌∙◌, arith}
use Rattle.std.proofs.lemmas.Grind.{common_steps}
use Rattle.std.proofs.lemmas.List.{take_all}
use Rattle.rb_trees.specs.mirror.Code.{Stmt, Val, Var, Assign, Run, Print, Throw, If, While, For, Try, Batch}
use Rattle.rb_meaning_flow.specs.Facts.{Facts}
use Rattle.rb_meaning_flow.specs.Scopes.{Scope}
use Rattle.rb_meaning_flow.specs.Sites.{scope_after}
use Rattle.rb_plain.specs.Walks.{Kept}

pub kept_front : {A : Type 0} (xs ys : List A) → take (length xs) (xs ++ ys) ≡ xs
kept_front [] ys = refl
kept_front (x ∷ xs) ys = ap (λ zs. x ∷ zs) (kept_front xs ys)

pub kept_same : {A : Type 0} (xs : List A) → Kept xs xs
kept_same xs = take_all (length xs) xs (omega arith)

-- what stays of what stays
pub kept_far : {A : Type 0} (xs ys zs : List A) → Kept xs ys → Kept ys zs → Kept xs zs
kept_far [] ys zs e f = refl
kept_far (x ∷ xs) [] zs e f = cc
kept_far (x ∷ xs) (y ∷ ys) [] e f = cc
kept_far (x ∷ xs) (y ∷ ys) (z ∷ zs) e f =
    let first : y ≡ x = cc in
    let second : z ≡ y = cc in
    let rest : take (length xs) ys ≡ xs = cc in
    let more : take (length ys) zs ≡ ys = cc in
    let deep = kept_far xs ys zs rest more in
    cc

pub kept_added : {A : Type 0} (xs ys more : List A) → ys ≡ xs ++ more → Kept xs ys
kept_added xs ys more e = ap (take (length xs)) e ∙ kept_front xs more

pub kept_opened : {A : Type 0} (xs ys zs more : List A) → ys ≡ xs ++ more → Kept ys zs → Kept xs zs
kept_opened xs ys zs more e h = kept_far xs ys zs (kept_added xs ys more e) h

-- the same where it didn't change
pub kept_equal : {A : Type 0} (xs ys : List A) → ys ≡ xs → Kept xs ys
kept_equal xs ys e = ap (take (length xs)) e ∙ kept_same xs

pub ruleset kept_rules = (kept_same, kept_equal, kept_added, common_steps)

-- a statement only adds to the scope
pub kept_after : (x : Facts) (scope : Scope) (s : Stmt) → Kept scope (scope_after x [] scope s)
kept_after x scope (Val at name e) = kept_front scope _
kept_after x scope (Var at name e) = kept_front scope _
kept_after x scope (Assign at a b) = kept_same scope
kept_after x scope (Run at e) = kept_same scope
kept_after x scope (Print at e) = kept_same scope
kept_after x scope (Throw at e) = kept_same scope
kept_after x scope (If at c a b) = kept_same scope
kept_after x scope (While at c a) = kept_same scope
kept_after x scope (For at name e a) = kept_same scope
kept_after x scope (Try at a name b) = kept_same scope
kept_after x scope (Batch at interface root a) = kept_same scope
