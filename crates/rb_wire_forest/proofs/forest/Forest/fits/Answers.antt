use Rattle.std.proofs.Common.{sym, ap, ◌∙◌, cond, Ok, Err}
use Rattle.rb_trees.specs.mirror.Remainders.{mirror_parts}
use Rattle.rb_meaning_bytes.specs.Fits as meaning
use Rattle.rb_meaning_bytes.specs.Fits.{fits}
use Rattle.rb_wire_forest.specs.Opened.{root_of, opened}
use Rattle.rb_wire_forest.proofs.ForestTurned.{root_fits, root_unfit}
use Rattle.rb_wire_forest.proofs.forest.Forest.fits.Goals as goal

pub returns-then-leaves : goal.returns-then-leaves
returns-then-leaves c =
    ap (λ ps. fits (root_of c.args.self.now) (mirror_parts ps) c.args.lengths.now) (sym c.as_slice.ensures)
    ∙ root_fits c.args.lengths.now c.as_slice.result.now (root_of c.args.self.now) _ _ c.begin.result c.in-Ok.end c.leaves.result c.cursor-cursor.ensures c.begin.ensures c.in-Ok.ensures c.leaves.ensures
    ∙ ap (λ b. cond b (Err meaning.Extra) (Ok tt)) c.if-leaves.true

pub returns-else-leaves : goal.returns-else-leaves
returns-else-leaves c =
    ap (λ ps. fits (root_of c.args.self.now) (mirror_parts ps) c.args.lengths.now) (sym c.as_slice.ensures)
    ∙ root_fits c.args.lengths.now c.as_slice.result.now (root_of c.args.self.now) _ _ c.begin.result c.in-Ok.end c.leaves.result c.cursor-cursor.ensures c.begin.ensures c.in-Ok.ensures c.leaves.ensures
    ∙ ap (λ b. cond b (Err meaning.Extra) (Ok tt)) c.if-leaves.false

pub returns-in-Err : goal.returns-in-Err
returns-in-Err c =
    ap (λ ps. fits (root_of c.args.self.now) (mirror_parts ps) c.args.lengths.now) (sym c.as_slice.ensures)
    ∙ root_unfit c.args.lengths.now c.as_slice.result.now (root_of c.args.self.now) _ (opened c.read_parts.new.cursor) c.begin.result c.in-Err.step c.cursor-cursor.ensures c.begin.ensures c.in-Err.ensures
