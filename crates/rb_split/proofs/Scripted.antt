-- The equations that expressions of a script stand on.
use Rattle.rb_trees.proofs.mirror.Exprs.{exprs}
use Rattle.rb_trees.proofs.mirror.SExprs.{sexprs}
use Rattle.std.proofs.Common.{◌≡◌, List, [], ◌∷◌, ◌++◌, refl, ap}
use Rattle.rb_trees.specs.declared.scripts.SExpr.{SExpr}
use Rattle.rb_trees.specs.mirror.Scripts.{SExprs, NoSExprs, MoreSExprs, mirror_sexpr, mirror_sexprs}
use Rattle.std.proofs.lemmas.Grind.{common_steps}

-- some expressions, and then others
abbrev pub sexprs_joined : SExprs → SExprs → SExprs
sexprs_joined NoSExprs more = more
sexprs_joined (MoreSExprs e es) more = MoreSExprs e (sexprs_joined es more)

pub sexprs_pushed : (es : List SExpr) (e : SExpr) (more : SExprs) → sexprs_joined (mirror_sexprs (es ++ e ∷ [])) more ≡ sexprs_joined (mirror_sexprs es) (MoreSExprs (mirror_sexpr e) more)
sexprs_pushed [] e more = refl
sexprs_pushed (x ∷ es) e more = ap (MoreSExprs (mirror_sexpr x)) (sexprs_pushed es e more)

pub sexprs_whole : (es : SExprs) → sexprs_joined es NoSExprs ≡ es
sexprs_whole NoSExprs = refl
sexprs_whole (MoreSExprs e es) = ap (MoreSExprs e) (sexprs_whole es)

pub ruleset script_rules = (exprs, sexprs, sexprs_pushed, sexprs_whole, common_steps)
