use Rattle.std.proofs.Common.{◌||◌, ap, sym, ◌∙◌}
use Rattle.std.specs.BTreeSet.{contains}
use Rattle.std.specs.Ordering.{nat_cmp}
use Rattle.rb_flow.proofs.Positions.{any_at, any_last}
use Rattle.rb_flow.proofs.loops.index_loops.Goals as goal

pub loop-last-preserved : goal.loop-last-preserved
loop-last-preserved c = λ q.
    ap (λ b. b || any_at q c.pop.new.self.items) (c.in_ok-insert_position.ensures q)
    ∙ any_last c.pop.new.self.items c.in-Some.last q (contains nat_cmp c.loop-last.set q)
    ∙ ap (λ ns. contains nat_cmp c.loop-last.set q || any_at q ns) (sym c.in-Some.ensures.items)
    ∙ c.loop-last.invariant q
