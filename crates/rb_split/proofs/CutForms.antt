-- The equations that copies without remote expressions stand on.
use Rattle.std.proofs.Common.{◌≡◌, ℕ, suc, List, [], ◌∷◌, ◌++◌, refl, ap, sym, ◌∙◌}
use Rattle.std.specs.Prelude.{Bool, true, false, cond, ◌&&◌, IfOk, Result, Ok, Err}
use Rattle.rb_trees.specs.declared.code.Expr as tree
use Rattle.rb_trees.specs.mirror.Code.{Expr, Lit, Name, This, Unary, Binary, Field, Call, Index, New, Items, Taken, Exprs, NoExprs, MoreExprs, expr_at, mirror_expr, mirror_exprs}
use Rattle.rb_trees.proofs.mirror.Exprs.{exprs}
use Rattle.rb_trees.proofs.mirror.Stmts.{stmts}
use Rattle.rb_trees.proofs.mirror.Positions.{expr_at_tree}
use Rattle.rb_meaning_flow.specs.Facts.{Facts}
use Rattle.rb_meaning_flow.specs.Scopes.{Scope, role_of, is_portable_role}
use Rattle.rb_meaning_flow.specs.Marks.{is_portable_call}
use Rattle.rb_meaning_split.specs.Cuts.{counted, cut}
use Rattle.rb_split.specs.Cutting.{parts_cut}
use Rattle.rb_split.proofs.Remotes.{whole_found, parts_found}
use Rattle.std.proofs.lemmas.Grind.{common_steps}

whole_or_parts : (x : Facts) (scope : Scope) (n : ℕ) (e : Expr) → cut x scope n e ≡ cond (is_portable_call x scope e) (Taken (expr_at e) n) (parts_cut x scope n e)
whole_or_parts x scope n (Lit at v) = refl
whole_or_parts x scope n (Name at name) = name_or (is_portable_role (role_of scope name))
  where
    name_or : (b : Bool) → Name at name ≡ cond (b && false) (Taken at n) (Name at name)
    name_or true = refl
    name_or false = refl
whole_or_parts x scope n (This at) = refl
whole_or_parts x scope n (Unary at op a) = refl
whole_or_parts x scope n (Binary at op a b) = refl
whole_or_parts x scope n (Field at a name) = refl
whole_or_parts x scope n (Call at a method args) = refl
whole_or_parts x scope n (Index at a b) = refl
whole_or_parts x scope n (New at class args) = refl
whole_or_parts x scope n (Items at item items) = refl
whole_or_parts x scope n (Taken at step) = refl

pub whole_cut : (x : Facts) (scope : Scope) (n : ℕ) (e : Expr) → is_portable_call x scope e ≡ true → cut x scope n e ≡ Taken (expr_at e) n
whole_cut x scope n e h = whole_or_parts x scope n e ∙ ap (λ b. cond b (Taken (expr_at e) n) (parts_cut x scope n e)) h

pub only_parts_cut : (x : Facts) (scope : Scope) (n : ℕ) (e : Expr) → is_portable_call x scope e ≡ false → cut x scope n e ≡ parts_cut x scope n e
only_parts_cut x scope n e h = whole_or_parts x scope n e ∙ ap (λ b. cond b (Taken (expr_at e) n) (parts_cut x scope n e)) h

-- a remote expression that is taken
pub taken_so : {E : Type 0} (x : Facts) (scope : Scope) (n : ℕ) (e : tree.Expr) (r : Result tree.Expr E) → is_portable_call x scope (mirror_expr e) ≡ true
    → IfOk r (λ c. mirror_expr c ≡ Taken e.at n) → IfOk r (λ c. mirror_expr c ≡ cut x scope n (mirror_expr e))
taken_so x scope n e (Ok c) h t = t ∙ ap (λ a. Taken a n) (sym (expr_at_tree e)) ∙ sym (whole_cut x scope n (mirror_expr e) h)
taken_so x scope n e (Err w) h t = tt

-- numbers after some expressions, and then others
pub counted-append : (es fs : List Expr) (n : ℕ) → counted (es ++ fs) n ≡ counted fs (counted es n)
counted-append [] fs n = refl
counted-append (e ∷ es) fs n = counted-append es fs (suc n)

-- some expressions, and then others
abbrev pub exprs_joined : Exprs → Exprs → Exprs
exprs_joined NoExprs more = more
exprs_joined (MoreExprs e es) more = MoreExprs e (exprs_joined es more)

pub exprs_pushed : (es : List tree.Expr) (e : tree.Expr) (more : Exprs) → exprs_joined (mirror_exprs (es ++ e ∷ [])) more ≡ exprs_joined (mirror_exprs es) (MoreExprs (mirror_expr e) more)
exprs_pushed [] e more = refl
exprs_pushed (x ∷ es) e more = ap (MoreExprs (mirror_expr x)) (exprs_pushed es e more)

pub exprs_whole : (es : Exprs) → exprs_joined es NoExprs ≡ es
exprs_whole NoExprs = refl
exprs_whole (MoreExprs e es) = ap (MoreExprs e) (exprs_whole es)

pub ruleset cut_rules = (exprs, expr_at_tree, whole_found, parts_found, whole_cut, only_parts_cut, counted-append, exprs_pushed, exprs_whole, common_steps)

pub ruleset plain_rules = (stmts, expr_at_tree, common_steps)
