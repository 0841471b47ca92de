-- Lists that only grow at their ends.
use Rattle.std.proofs.Common.{◌≡◌, List, [], ◌∷◌, ◌++◌, take, length, refl, ap, ◌∙◌, arith}
use Rattle.std.proofs.lemmas.List.{take_all}
use Rattle.rb_trees.specs.mirror.Code.{Stmt, Val, Var, Assign, Run, Print, Throw, If, While, For, Try, Batch}
use Rattle.rb_meaning_flow.specs.Facts.{Facts}
use Rattle.rb_meaning_flow.specs.Scopes.{Scope}
use Rattle.rb_meaning_flow.specs.Sites.{scope_after}

pub take_front : {A : Type 0} (xs ys : List A) → take (length xs) (xs ++ ys) ≡ xs
take_front [] ys = refl
take_front (x ∷ xs) ys = ap (λ zs. x ∷ zs) (take_front xs ys)

pub take_whole : {A : Type 0} (xs : List A) → take (length xs) xs ≡ xs
take_whole xs = take_all (length xs) xs (omega arith)

-- a statement leaves the scope as it was, but for what it adds
pub kept_after : (x : Facts) (scope : Scope) (s : Stmt) → take (length scope) (scope_after x [] scope s) ≡ scope
kept_after x scope (Val at name e) = take_front scope _
kept_after x scope (Var at name e) = take_front scope _
kept_after x scope (Assign at a b) = take_whole scope
kept_after x scope (Run at e) = take_whole scope
kept_after x scope (Print at e) = take_whole scope
kept_after x scope (Throw at e) = take_whole scope
kept_after x scope (If at c a b) = take_whole scope
kept_after x scope (While at c a) = take_whole scope
kept_after x scope (For at name e a) = take_whole scope
kept_after x scope (Try at a name b) = take_whole scope
kept_after x scope (Batch at interface root a) = take_whole scope

-- what stays of what stays
pub take_kept : {A : Type 0} (xs ys zs : List A) → take (length xs) ys ≡ xs → take (length ys) zs ≡ ys → take (length xs) zs ≡ xs
take_kept [] ys zs e f = refl
take_kept (x ∷ xs) [] zs e f = cc
take_kept (x ∷ xs) (y ∷ ys) [] e f = cc
take_kept (x ∷ xs) (y ∷ ys) (z ∷ zs) e f =
    let first : y ≡ x = cc in
    let second : z ≡ y = cc in
    let rest : take (length xs) ys ≡ xs = cc in
    let more : take (length ys) zs ≡ ys = cc in
    let deep = take_kept xs ys zs rest more in
    cc

pub opened_kept : {A : Type 0} (xs ys zs more : List A) → ys ≡ xs ++ more → take (length ys) zs ≡ ys → take (length xs) zs ≡ xs
opened_kept xs ys zs more e h = take_kept xs ys zs (ap (take (length xs)) e ∙ take_front xs more) h
