-- A scope that only grows at its end.
use Rattle.std.proofs.Common.{◌≡◌, ℕ, ◌≤◌, List, ◌++◌, take, length, Bool, sym, ap, ◌∙◌, arith}
use Rattle.std.proofs.lemmas.List.{length-take, take-take}
use Rattle.std.proofs.Math.Seq.{take-length, take-append_seam}
use Rattle.rb_trees.specs.mirror.Code.{Stmt, Val, Var, Assign, Run, Print, Throw, If, While, For, Try, Batch}
use Rattle.rb_meaning_flow.specs.Facts.{Facts}
use Rattle.rb_meaning_flow.specs.Scopes.{Scope}
use Rattle.rb_meaning_flow.specs.Outermost.{outer_after}
use Rattle.rb_marks.specs.Passes.{scope_then}

pub take_front : {A : Type 0} (xs ys : List A) → take (length xs) (xs ++ ys) ≡ xs
take_front xs ys = take-append_seam xs ys

pub kept_then : (x : Facts) (assigned : List (List ℕ)) (script : Bool) (scope : Scope) (s : Stmt) → take (length scope) (scope_then x assigned script scope s) ≡ scope
kept_then x assigned script scope (Val at name e) = take_front scope _
kept_then x assigned script scope (Var at name e) = take_front scope _
kept_then x assigned script scope (Assign at a b) = take-length scope
kept_then x assigned script scope (Run at e) = take-length scope
kept_then x assigned script scope (Print at e) = take-length scope
kept_then x assigned script scope (Throw at e) = take-length scope
kept_then x assigned script scope (If at c a b) = take-length scope
kept_then x assigned script scope (While at c a) = take-length scope
kept_then x assigned script scope (For at name e a) = take-length scope
kept_then x assigned script scope (Try at a name b) = take-length scope
kept_then x assigned script scope (Batch at interface root a) = take-length scope

pub kept_outer : (x : Facts) (scope : Scope) (s : Stmt) → take (length scope) (outer_after x scope s) ≡ scope
kept_outer x scope (Val at name e) = take_front scope _
kept_outer x scope (Var at name e) = take_front scope _
kept_outer x scope (Assign at a b) = take-length scope
kept_outer x scope (Run at e) = take-length scope
kept_outer x scope (Print at e) = take-length scope
kept_outer x scope (Throw at e) = take-length scope
kept_outer x scope (If at c a b) = take-length scope
kept_outer x scope (While at c a) = take-length scope
kept_outer x scope (For at name e a) = take-length scope
kept_outer x scope (Try at a name b) = take-length scope
kept_outer x scope (Batch at interface root a) = take-length scope

-- what stands first in what stands first stands first
pub take_kept : {A : Type 0} (xs ys zs : List A) → take (length xs) ys ≡ xs → take (length ys) zs ≡ ys → take (length xs) zs ≡ xs
take_kept xs ys zs first second =
    let cut = ap length first in
    let small : length xs ≤ length ys = omega (arith, length-take (length xs) ys, cut) in
    sym (take-take (length xs) (length ys) zs small) ∙ ap (take (length xs)) second ∙ first

pub opened_kept : {A : Type 0} (xs ys zs more : List A) → ys ≡ xs ++ more → take (length ys) zs ≡ ys → take (length xs) zs ≡ xs
opened_kept xs ys zs more e h = take_kept xs ys zs (ap (take (length xs)) e ∙ take_front xs more) h
