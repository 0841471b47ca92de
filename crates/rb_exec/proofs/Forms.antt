-- What the mirror of an expression or a step of a known form is, with its parts as the code reads them.
use Rattle.std.proofs.Common.{◌≡◌, ℕ, List, ap, ◌∙◌}
use Rattle.std.specs.Prelude.{Bool}
use Rattle.rb_trees.specs.declared.values.Value.{Value}
use Rattle.rb_trees.specs.declared.code.UnOp.{UnOp}
use Rattle.rb_trees.specs.declared.code.BinOp.{BinOp}
use Rattle.rb_trees.specs.declared.scripts.Operands.{Operands}
use Rattle.rb_trees.specs.declared.scripts.Invocation.{Invocation}
use Rattle.rb_trees.specs.declared.scripts.SExpr.{SExpr}
use Rattle.rb_trees.specs.declared.scripts.SExpr.TheVariants as sexpr
use Rattle.rb_trees.specs.declared.scripts.Step.{Step}
use Rattle.rb_trees.specs.declared.scripts.StepForm.TheVariants as form
use Rattle.rb_trees.specs.mirror.Scripts as script
use Rattle.rb_trees.specs.mirror.Scripts.{mirror_sexpr, mirror_sexprs, mirror_step, mirror_steps, mirror_step_form}
use Rattle.rb_trees.proofs.mirror.SExprs as sexprs
use Rattle.rb_trees.proofs.mirror.Steps as steps

pub lit_form : (t : SExpr) {v : Value} → t ≡ sexpr.Lit v → mirror_sexpr t ≡ script.Lit v
lit_form t {v = v} is = ap mirror_sexpr is ∙ sexprs.form_Lit v

pub input_form : (t : SExpr) {n : ℕ} → t ≡ sexpr.Input n → mirror_sexpr t ≡ script.Input n
input_form t {n = n} is = ap mirror_sexpr is ∙ sexprs.form_Input n

pub var_form : (t : SExpr) {n : ℕ} → t ≡ sexpr.Var n → mirror_sexpr t ≡ script.Var n
var_form t {n = n} is = ap mirror_sexpr is ∙ sexprs.form_Var n

pub root_form : (t : SExpr) → t ≡ sexpr.Root → mirror_sexpr t ≡ script.Root
root_form t is = ap mirror_sexpr is ∙ sexprs.form_Root

pub unary_form : (t : SExpr) {op : UnOp} {at : ℕ} (a : SExpr) → t ≡ sexpr.Unary op at a → mirror_sexpr t ≡ script.Unary op at (mirror_sexpr a)
unary_form t {op = op} {at = at} a is = ap mirror_sexpr is ∙ sexprs.form_Unary op at a

pub binary_form : (t : SExpr) {op : BinOp} {at : ℕ} (operands : Operands SExpr) → t ≡ sexpr.Binary op at operands
    → mirror_sexpr t ≡ script.Binary op at (mirror_sexpr operands.left) (mirror_sexpr operands.right)
binary_form t {op = op} {at = at} operands is = ap mirror_sexpr is ∙ sexprs.form_Binary op at operands

pub call_form : (t : SExpr) {at kind : ℕ} (call : Invocation SExpr) → t ≡ sexpr.Call kind at call
    → mirror_sexpr t ≡ script.Call at kind call.method (mirror_sexpr call.target) (mirror_sexprs call.args)
call_form t {at = at} {kind = kind} call is = ap mirror_sexpr is ∙ sexprs.form_Call at kind call

pub do_form : (t : Step) {e : SExpr} → t.form ≡ form.Do e → mirror_step t ≡ script.Do t.id t.at (mirror_sexpr e)
do_form t {e = e} is = steps.at_Step t ∙ ap (λ f. mirror_step_form f t.id t.at) is ∙ steps.form_Do e t.id t.at

pub keep_form : (t : Step) {e : SExpr} → t.form ≡ form.Keep e → mirror_step t ≡ script.Keep t.id t.at (mirror_sexpr e)
keep_form t {e = e} is = steps.at_Step t ∙ ap (λ f. mirror_step_form f t.id t.at) is ∙ steps.form_Keep e t.id t.at

pub let_form : (t : Step) {var : ℕ} {keep : Bool} {e : SExpr} → t.form ≡ form.Let var keep e → mirror_step t ≡ script.Let t.id t.at var keep (mirror_sexpr e)
let_form t {var = var} {keep = keep} {e = e} is = steps.at_Step t ∙ ap (λ f. mirror_step_form f t.id t.at) is ∙ steps.form_Let var keep e t.id t.at

pub if_form : (t : Step) {e : SExpr} (a b : List Step) → t.form ≡ form.If e a b → mirror_step t ≡ script.If t.id t.at (mirror_sexpr e) (mirror_steps a) (mirror_steps b)
if_form t {e = e} a b is = steps.at_Step t ∙ ap (λ f. mirror_step_form f t.id t.at) is ∙ steps.form_If e a b t.id t.at

pub each_form : (t : Step) {var : ℕ} {keep : Bool} {e : SExpr} (a : List Step) → t.form ≡ form.Each var keep e a
    → mirror_step t ≡ script.Each t.id t.at var keep (mirror_sexpr e) (mirror_steps a)
each_form t {var = var} {keep = keep} {e = e} a is = steps.at_Step t ∙ ap (λ f. mirror_step_form f t.id t.at) is ∙ steps.form_Each var keep e a t.id t.at

pub over_form : (t : Step) {var input : ℕ} (a : List Step) → t.form ≡ form.Over var input a → mirror_step t ≡ script.Over t.id t.at var input (mirror_steps a)
over_form t {var = var} {input = input} a is = steps.at_Step t ∙ ap (λ f. mirror_step_form f t.id t.at) is ∙ steps.form_Over var input a t.id t.at
