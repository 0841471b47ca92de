use Rattle.std.proofs.Common.{sym, ap, ◌∙◌, cond, Ok}
use Rattle.rb_meaning_bytes.specs.Fits.{passed}
use Rattle.rb_wire_forest.specs.ForestWalks.{walk_of}
use Rattle.rb_wire_forest.proofs.forest_fitting.end_turns.Goals as goal

pub returns-then-from : goal.returns-then-from
returns-then-from c es f around h = sym (ap (λ b. cond b (Ok (walk_of c.args.from es f)) (passed c.args.step (walk_of c.args.from es f))) c.if-from.true)

pub returns-else-from : goal.returns-else-from
returns-else-from c es f around h = c.pass.ensures es f around h ∙ sym (ap (λ b. cond b (Ok (walk_of c.args.from es f)) (passed c.args.step (walk_of c.args.from es f))) c.if-from.false)
