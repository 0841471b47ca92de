-- The equations that the search for remote expressions stands on.
use Rattle.std.proofs.Common.{◌≡◌, ℕ, suc, List, [], ◌∷◌, ◌++◌, refl, ap, sym, ◌∙◌, append_assoc, append-nil}
use Rattle.std.proofs.lemmas.List.{map-append}
use Rattle.std.specs.Prelude.{Bool, true, false, cond, ◌&&◌}
use Rattle.rb_trees.specs.mirror.Code.{Expr, Lit, Name, This, Unary, Binary, Field, Call, Index, New, Items, Taken}
use Rattle.rb_trees.proofs.mirror.Exprs.{exprs}
use Rattle.rb_trees.proofs.mirror.Stmts.{stmts}
use Rattle.rb_meaning_flow.specs.Facts.{Facts}
use Rattle.rb_meaning_flow.specs.Scopes.{Scope, role_of, is_portable_role}
use Rattle.rb_meaning_flow.specs.Marks.{is_portable_call}
use Rattle.rb_meaning.specs.RemoteExprs.{remote_in}
use Rattle.rb_split.specs.Cutting.{below}
use Rattle.std.proofs.lemmas.Grind.{common_steps}

and_false : (b : Bool) → (b && false) ≡ false
and_false true = refl
and_false false = refl

-- an expression is a remote one as a whole, or those in its parts are
pub whole_or_parts : (x : Facts) (scope : Scope) (e : Expr) → remote_in x scope e ≡ cond (is_portable_call x scope e) (e ∷ []) (below x scope e)
whole_or_parts x scope (Lit at v) = refl
whole_or_parts x scope (Name at name) = ap (λ b. cond b (Name at name ∷ []) []) (sym (and_false (is_portable_role (role_of scope name))))
whole_or_parts x scope (This at) = refl
whole_or_parts x scope (Unary at op a) = refl
whole_or_parts x scope (Binary at op a b) = refl
whole_or_parts x scope (Field at a name) = refl
whole_or_parts x scope (Call at a method args) = refl
whole_or_parts x scope (Index at a b) = refl
whole_or_parts x scope (New at class args) = refl
whole_or_parts x scope (Items at item items) = refl
whole_or_parts x scope (Taken at step) = refl

pub whole_found : (x : Facts) (scope : Scope) (e : Expr) → is_portable_call x scope e ≡ true → remote_in x scope e ≡ e ∷ []
whole_found x scope e h = whole_or_parts x scope e ∙ ap (λ b. cond b (e ∷ []) (below x scope e)) h

pub parts_found : (x : Facts) (scope : Scope) (e : Expr) → is_portable_call x scope e ≡ false → remote_in x scope e ≡ below x scope e
parts_found x scope e h = whole_or_parts x scope e ∙ ap (λ b. cond b (e ∷ []) (below x scope e)) h

pub ruleset remote_rules = (exprs, stmts, whole_found, parts_found, map-append, append_assoc, append-nil, common_steps)
