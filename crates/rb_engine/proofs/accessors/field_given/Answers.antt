use Rattle.std.proofs.Common.{rules, ◌≡◌, []}
use Rattle.rb_trees.specs.declared.code.ExprForm.TheVariants.{This}
use Rattle.rb_engine.proofs.FieldReads.{field_found}
use Rattle.rb_engine.proofs.accessors.field_given.Goals as goal

pub returns : goal.returns
returns c =
    let empty : c.args.body.now.statements ≡ [] = search rules in
    let this : c.in-Field.receiver.form ≡ This = rw (c.get.ensures) at c.in-This.is in
    field_found c.args.heap.now c.args.object c.args.body.now c.in-Some.result c.in-Field.receiver c.in-Field.name c.get_field.result
    empty c.in-Some.is c.in-Field.is this (rw (c.as_slice.ensures) at c.get_field.ensures)
