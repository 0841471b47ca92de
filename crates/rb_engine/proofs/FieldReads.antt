-- Bodies that only read a field of `this`.
use Rattle.std.proofs.Common.{◌≡◌, sym, ◌∙◌, ap, ℕ, List, []}
use Rattle.std.specs.Prelude.{Option, None, Some, IfSome}
use Rattle.std.specs.Option.{option_copied, option_map}
use Rattle.std.specs.Borrow.{Bor}
use Rattle.rb_trees.specs.Objects.{field_value}
use Rattle.rb_trees.specs.declared.values.Value.{Value}
use Rattle.rb_trees.specs.declared.services.Object.{Object}
use Rattle.rb_trees.specs.declared.code.Expr as expr
use Rattle.rb_trees.specs.declared.code.ExprForm.TheVariants as form
use Rattle.rb_trees.specs.declared.declarations.Body as body
use Rattle.rb_trees.specs.mirror.Code as code
use Rattle.rb_trees.specs.mirror.Code.{mirror_expr, mirror_stmts}
use Rattle.rb_trees.specs.mirror.Declarations.{mirror_body}
use Rattle.rb_engine.specs.Accessors.{GivesField}
use Rattle.rb_engine.proofs.Forms.{field_form, this_form}

-- a body whose result reads a field of `this` gives it where the object has it
pub field_found : (heap : List Object) (object : ℕ) (b : body.Body) (e receiver : expr.Expr) (name : List ℕ) (found : Option (Bor Value))
    → b.statements ≡ [] → b.result ≡ Some e → e.form ≡ form.Field receiver name → receiver.form ≡ form.This
    → option_copied found ≡ field_value heap object name → IfSome found (λ v. GivesField heap object (mirror_body b) v.now)
field_found heap object b e receiver name None empty result field this is = tt
field_found heap object b e receiver name (Some v) empty result field this is = record {
  at = e.at;
  this_at = receiver.at;
  name = name;
  nothing_before = ap mirror_stmts empty;
  result = ap (option_map mirror_expr) result ∙ ap Some (field_form e receiver field ∙ ap (λ r. code.Field e.at r name) (this_form receiver this));
  value = sym is;
}
