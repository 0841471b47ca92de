use Rattle.std.proofs.Common.{sym, ap, ◌∙◌, cond, Ok, Err}
use Rattle.rb_meaning_bytes.specs.Fits.{raised}
use Rattle.rb_wire_forest.specs.ForestWalks.{walk_of}
use Rattle.rb_wire_forest.proofs.forest_walk.miss.Goals as goal

pub returns-then-faults_at : goal.returns-then-faults_at
returns-then-faults_at c es f around h =
    ap (λ b. cond b (Ok (raised (walk_of c.args.from es f))) (Err c.args.step)) (sym (c.faults_at.ensures es f around h) ∙ c.if-faults_at.true)
    ∙ ap (λ w. Ok w) (sym (c.raise.ensures es f))

pub returns-else-faults_at : goal.returns-else-faults_at
returns-else-faults_at c es f around h =
    ap (λ b. cond b (Ok (raised (walk_of c.args.from es f))) (Err c.args.step)) (sym (c.faults_at.ensures es f around h) ∙ c.if-faults_at.false)
