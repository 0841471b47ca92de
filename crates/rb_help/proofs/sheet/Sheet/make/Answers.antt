use Rattle.std.proofs.Common.{◌≡◌, ◌+◌, ◌*◌, length, take, sym, ap, ◌∙◌, subst, arith}
use Rattle.std.specs.List.{count_by}
use Rattle.rb_help.specs.Headings.{AreCounted, begins_character}
use Rattle.rb_help.proofs.Counting.{counted_more, one_more}
use Rattle.rb_help.proofs.sheet.Sheet.make.Goals as goal

pub loop-k-preserved : goal.loop-k-preserved
loop-k-preserved c =
    let text = c.text-text.result.now in
    let count = c.count_on-count.result in
    let old = c.loop-k.counted.items in
    let stride : c.loop-k.k * 64 + 64 ≡ (c.loop-k.k + 1) * 64 = omega arith in
    let next : count ≡ count_by begins_character (take ((c.loop-k.k + 1) * 64) text) =
    c.count_on-count.ensures ∙ ap (λ at. count_by begins_character (take at text)) stride in
    let last : count ≡ count_by begins_character (take (length old * 64) text) =
    next ∙ ap (λ n. count_by begins_character (take (n * 64) text)) (sym c.loop-k.invariant.all) in
    record {
      counted = subst (λ ns. AreCounted text ns) (sym c.in_ok-push-2.ensures.items) (counted_more text old count c.loop-k.invariant.counted last);
      here = next;
      all = ap length c.in_ok-push-2.ensures.items ∙ one_more old count ∙ ap (λ n. n + 1) c.loop-k.invariant.all;
    }
