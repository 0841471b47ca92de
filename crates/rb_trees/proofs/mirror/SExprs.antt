-- What the mirror of each form of a script's expression is.
use Rattle.std.proofs.Common.{◌≡◌, ℕ, List, [], ◌∷◌, map, ap, sym, ◌∙◌, refl}
use Rattle.rb_trees.specs.declared.values.Value.{Value}
use Rattle.rb_trees.specs.declared.code.UnOp.{UnOp}
use Rattle.rb_trees.specs.declared.code.BinOp.{BinOp}
use Rattle.rb_trees.specs.declared.scripts.Operands.{Operands}
use Rattle.rb_trees.specs.declared.scripts.Invocation.{Invocation}
use Rattle.rb_trees.specs.declared.scripts.SExpr as tree
use Rattle.rb_trees.specs.declared.scripts.SExpr.TheVariants as form
use Rattle.rb_trees.specs.declared.scripts.SExpr.TheOpen.{SExpr-F}
use Rattle.rb_trees.specs.declared.scripts.SExpr.TheFolds.{fold-SExpr, fold-roll-SExpr}
use Rattle.rb_trees.specs.mirror.Scripts.{SExpr, Lit, Input, Var, Root, Unary, Binary, Call, MoreSExprs, sexprs_from, sexpr_step, mirror_sexpr, mirror_sexprs}

pub sexprs_lists : (ts : List tree.SExpr) → sexprs_from (map (fold-SExpr SExpr sexpr_step) ts) ≡ mirror_sexprs ts
unfolding mirror_sexpr
sexprs_lists [] = refl
sexprs_lists (t ∷ ts) = ap (MoreSExprs (mirror_sexpr t)) (sexprs_lists ts)

pub form_Lit : (value : Value) → mirror_sexpr (form.Lit value) ≡ Lit value
unfolding mirror_sexpr
form_Lit value = ap mirror_sexpr (sym (form.rolls-Lit value)) ∙ fold-roll-SExpr SExpr sexpr_step (SExpr-F.Lit value)

pub form_Input : (number : ℕ) → mirror_sexpr (form.Input number) ≡ Input number
unfolding mirror_sexpr
form_Input number = ap mirror_sexpr (sym (form.rolls-Input number)) ∙ fold-roll-SExpr SExpr sexpr_step (SExpr-F.Input number)

pub form_Var : (number : ℕ) → mirror_sexpr (form.Var number) ≡ Var number
unfolding mirror_sexpr
form_Var number = ap mirror_sexpr (sym (form.rolls-Var number)) ∙ fold-roll-SExpr SExpr sexpr_step (SExpr-F.Var number)

pub form_Root : mirror_sexpr form.Root ≡ Root
unfolding mirror_sexpr
form_Root = ap mirror_sexpr (sym form.rolls-Root) ∙ fold-roll-SExpr SExpr sexpr_step SExpr-F.Root

pub form_Unary : (op : UnOp) (at : ℕ) (a : tree.SExpr) → mirror_sexpr (form.Unary op at a) ≡ Unary op at (mirror_sexpr a)
unfolding mirror_sexpr
form_Unary op at a = ap mirror_sexpr (sym (form.rolls-Unary op at a)) ∙ fold-roll-SExpr SExpr sexpr_step (SExpr-F.Unary op at a)

pub form_Binary : (op : BinOp) (at : ℕ) (operands : Operands tree.SExpr) → mirror_sexpr (form.Binary op at operands) ≡ Binary op at (mirror_sexpr operands.left) (mirror_sexpr operands.right)
unfolding mirror_sexpr
form_Binary op at operands = ap mirror_sexpr (sym (form.rolls-Binary op at operands)) ∙ fold-roll-SExpr SExpr sexpr_step (SExpr-F.Binary op at operands)

pub form_Call : (at : ℕ) (kind : ℕ) (call : Invocation tree.SExpr) → mirror_sexpr (form.Call kind at call) ≡ Call at kind call.method (mirror_sexpr call.target) (mirror_sexprs call.args)
unfolding mirror_sexpr
form_Call at kind call = ap mirror_sexpr (sym (form.rolls-Call kind at call)) ∙ fold-roll-SExpr SExpr sexpr_step (SExpr-F.Call kind at call) ∙ ap (λ x. Call at kind call.method (mirror_sexpr call.target) x) (sexprs_lists call.args)

pub ruleset sexprs = (form_Lit, form_Input, form_Var, form_Root, form_Unary, form_Binary, form_Call)
