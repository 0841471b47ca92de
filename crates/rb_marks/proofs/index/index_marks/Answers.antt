use Rattle.std.proofs.Common.{sym, ap, ◌∙◌}
use Rattle.std.specs.Ordering.{nat_cmp}
use Rattle.std.specs.BTreeMap.{get}
use Rattle.rb_marks.specs.Notes.{first_at}
use Rattle.rb_marks.proofs.Maps.{first_last}
use Rattle.rb_marks.proofs.index.index_marks.Goals as goal

pub loop-last-preserved : goal.loop-last-preserved
loop-last-preserved c = λ q.
    ap (λ o. first_at c.pop.new.self.items q o) (c.in_ok-insert_mark.ensures q)
    ∙ sym (first_last c.pop.new.self.items c.in-Some.last q (get nat_cmp c.loop-last.index q))
    ∙ ap (λ xs. first_at xs q (get nat_cmp c.loop-last.index q)) (sym c.in-Some.ensures.items)
    ∙ c.loop-last.invariant q
