-- What is lent is what evaluation gives, at once and with nothing else changed.
use Rattle.std.proofs.Common.{◌≡◌, ap, List}
use Rattle.std.specs.Prelude.{Some, Ok}
use Rattle.rb_trees.specs.Outcome.{known}
use Rattle.rb_trees.specs.declared.values.Value.{Value}
use Rattle.rb_trees.specs.declared.code.Expr as expr
use Rattle.rb_trees.specs.declared.declarations.Class as class
use Rattle.rb_trees.specs.mirror.Code as code
use Rattle.rb_trees.specs.mirror.Code.{Expr, mirror_expr}
use Rattle.rb_meaning_code.specs.Faults.{kind, raises}
use Rattle.rb_meaning_code.specs.State.{Local}
use Rattle.rb_meaning_code.specs.Dialogue.{Surroundings, gives, end}
use Rattle.rb_meaning_code.specs.Calls.{Bodies}
use Rattle.rb_meaning_code.specs.Expressions.{evaluates}
use Rattle.rb_engine.specs.Code.{bodies, value_run}
use Rattle.rb_engine.specs.Lent.{lent_value}
use Rattle.rb_engine.specs.Meets.{Scene, Meets}
use Rattle.rb_engine.proofs.Runs.{at_run, ended}

lent_evaluates : (b : Bodies) (e : Expr) (l : Local) (v : Value) → lent_value l.names e ≡ Some v → evaluates b e l ≡ gives v l
lent_evaluates b (code.Lit at x) l v is = let same : x ≡ v = cc is in ap (λ y. gives y l) same
lent_evaluates b (code.Name at name) l v is = ap (λ o. end l (raises at (known kind o))) is
lent_evaluates b (code.This at) l v is = ap (λ o. end l (raises at (known kind o))) is
lent_evaluates b (code.Unary at op a) l v is = absurd (cc is)
lent_evaluates b (code.Binary at op a c) l v is = absurd (cc is)
lent_evaluates b (code.Field at a name) l v is = absurd (cc is)
lent_evaluates b (code.Call at a name es) l v is = absurd (cc is)
lent_evaluates b (code.Index at a c) l v is = absurd (cc is)
lent_evaluates b (code.New at name es) l v is = absurd (cc is)
lent_evaluates b (code.Items at item es) l v is = absurd (cc is)
lent_evaluates b (code.Taken at step) l v is = absurd (cc is)

pub lent_run : {W X : Type 0} {R : Surroundings W X} {s : Scene W} (classes : List class.Class) (e : expr.Expr) (v : Value)
    → lent_value s.local.names (mirror_expr e) ≡ Some v → Meets {X = X} R (λ gas. value_run classes e gas s.local) s (Ok v) s
lent_run {s = s} classes e v is = at_run (λ gas. lent_evaluates (bodies classes gas) (mirror_expr e) s.local v is) (ended v)
