use Rattle.std.proofs.Common.{rules, sym, ap, ◌∙◌}
use Rattle.rb_trees.specs.declared.code.ExprForm.TheVariants.{Binary}
use Rattle.rb_engine.proofs.Additions.{sum_found}
use Rattle.rb_engine.proofs.sums.sum_onto.Goals as goal

pub returns-in-Some : goal.returns-in-Some
returns-in-Some c =
    sum_found c.args.frame.now c.args.right.now c.get.result.now c.get-in-Some.result.now c.in-Name.first c.args.name.now c.in-Some.place
    (rw (c.get.ensures, c.get-in-Some.ensures) (c.in-Binary.is ∙ ap (λ op. Binary op c.in-Binary.start c.in-Binary.end) c.in-Add.is))
    c.in-Name.is (search rules) (sym c.place_of.ensures ∙ c.in-Some.is)
