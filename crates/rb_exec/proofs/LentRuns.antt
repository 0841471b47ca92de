-- What is lent is what evaluation gives, at once and with nothing else changed.
use Rattle.std.proofs.Common.{◌≡◌, ap}
use Rattle.std.specs.Prelude.{Some, Ok}
use Rattle.rb_trees.specs.Outcome.{known}
use Rattle.rb_trees.specs.declared.values.Value.{Value}
use Rattle.rb_trees.specs.declared.scripts.SExpr as tree
use Rattle.rb_trees.specs.mirror.Scripts as script
use Rattle.rb_trees.specs.mirror.Scripts.{SExpr, mirror_sexpr}
use Rattle.rb_meaning_code.specs.Faults.{kind}
use Rattle.rb_meaning_code.specs.Remote.{Server, Got, replies}
use Rattle.rb_engine.specs.Misses.{Replied}
use Rattle.rb_exec.specs.Lent.{lent_value}
use Rattle.rb_exec.specs.Stages.{scope_run, value_run}
use Rattle.rb_exec.specs.declared.expressions.Scope.{Scope}
use Rattle.rb_exec.proofs.Replies.{given}

lent_gives : (x : Scope) (e : SExpr) (s : Server) (v : Value) → lent_value x e ≡ Some v → scope_run x e s ≡ Got v s
lent_gives x (script.Lit w) s v is = let same : w ≡ v = cc is in ap (λ y. Got y s) same
lent_gives x (script.Input number) s v is = ap (λ o. replies x.site.at (known kind o) s) is
lent_gives x (script.Var number) s v is = ap (λ o. replies x.site.at (known kind o) s) is
lent_gives x script.Root s v is = absurd (cc is)
lent_gives x (script.Unary op place a) s v is = absurd (cc is)
lent_gives x (script.Binary op place a b) s v is = absurd (cc is)
lent_gives x (script.Call place kind method target args) s v is = absurd (cc is)

pub lent_run : (x : Scope) (e : tree.SExpr) (s : Server) (v : Value) → lent_value x (mirror_sexpr e) ≡ Some v → Replied (value_run x e s) (Ok v) s
lent_run x e s v is = given (lent_gives x (mirror_sexpr e) s v is)
