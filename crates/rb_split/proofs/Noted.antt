-- How uses of inputs are noted.
use Rattle.std.proofs.Common.{◌≡◌, ℕ, List, [], ◌∷◌, ◌++◌, refl, ap, sym, ◌∙◌, append_assoc, append-nil}
use Rattle.std.specs.Prelude.{Bool, true, false, cond}
use Rattle.std.specs.Str.{bytes_eq}
use Rattle.rb_trees.proofs.mirror.Exprs.{exprs}
use Rattle.rb_trees.proofs.mirror.Stmts.{stmts}
use Rattle.rb_meaning_types.specs.Names.{is_new}
use Rattle.rb_meaning_split.specs.Inputs.{first_uses}
use Rattle.rb_split.specs.Uses.{noted, with_use}
use Rattle.rb_split.proofs.Fronts.{take_front, take_kept, kept_after}
use Rattle.std.proofs.lemmas.Grind.{common_steps}

pub noted-append : (uses xs ys : List (List ℕ)) → noted uses (xs ++ ys) ≡ noted (noted uses xs) ys
noted-append uses [] ys = refl
noted-append uses (x ∷ xs) ys = noted-append (with_use uses x) xs ys

-- whether a name is new among names, and one more at the end
new_behind : (name other : List ℕ) (uses : List (List ℕ)) → is_new other (uses ++ name ∷ []) ≡ cond (bytes_eq name other) false (is_new other uses)
new_behind name other [] = refl
new_behind name other (u ∷ uses) = ap (cond (bytes_eq u other) false) (new_behind name other uses) ∙ swapped (bytes_eq u other) (bytes_eq name other)
  where
    swapped : (b c : Bool) → cond b false (cond c false (is_new other uses)) ≡ cond c false (cond b false (is_new other uses))
    swapped true true = refl
    swapped true false = refl
    swapped false true = refl
    swapped false false = refl

-- one more name, which is noted where it is new
one_behind : (b : Bool) (before uses : List (List ℕ)) (x : List ℕ) (xs : List (List ℕ)) → is_new x before ≡ b → is_new x before ≡ is_new x uses
    → noted (uses ++ x ∷ []) xs ≡ (uses ++ x ∷ []) ++ first_uses (x ∷ before) xs → noted uses xs ≡ uses ++ first_uses before xs
    → noted (with_use uses x) xs ≡ uses ++ first_uses before (x ∷ xs)
one_behind true before uses x xs is same new old =
    ap (λ c. noted (cond c (uses ++ x ∷ []) uses) xs) (sym same ∙ is) ∙ new ∙ append_assoc uses (x ∷ []) (first_uses (x ∷ before) xs)
    ∙ ap (λ c. uses ++ cond c (x ∷ first_uses (x ∷ before) xs) (first_uses before xs)) (sym is)
one_behind false before uses x xs is same new old =
    ap (λ c. noted (cond c (uses ++ x ∷ []) uses) xs) (sym same ∙ is) ∙ old
    ∙ ap (λ c. uses ++ cond c (x ∷ first_uses (x ∷ before) xs) (first_uses before xs)) (sym is)

-- names that are noted come behind those before, each where it is used first
behind : (before uses names : List (List ℕ)) → ((name : List ℕ) → is_new name before ≡ is_new name uses) → noted uses names ≡ uses ++ first_uses before names
behind before uses [] h = sym (append-nil uses)
behind before uses (x ∷ xs) h =
    one_behind (is_new x before) before uses x xs refl (h x)
    (behind (x ∷ before) (uses ++ x ∷ []) xs (λ name. ap (cond (bytes_eq x name) false) (h name) ∙ sym (new_behind x name uses)))
    (behind before uses xs h)

-- names that are noted from none on
pub noted_first : (names : List (List ℕ)) → noted [] names ≡ first_uses [] names
noted_first names = behind [] [] names (λ name. refl)

pub ruleset use_rules = (exprs, stmts, noted-append, noted_first, append-nil, append_assoc, take_front, take_kept, kept_after, common_steps)
