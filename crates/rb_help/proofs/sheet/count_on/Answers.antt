use Rattle.std.proofs.Common.{arith}
use Rattle.rb_help.proofs.Counting.{count_few, count_further}
use Rattle.rb_help.proofs.sheet.count_on.Goals as goal

pub overflow_add-result : goal.overflow_add-result
overflow_add-result c =
    let text = c.args.text.now in
    let sum = rw (← c.requires.counted, ← c.count_characters.ensures.count) at (count_further text c.args.from c.args.at c.requires.order) in
    let few = count_few text c.args.at c.requires.within in
    omega (arith, sum, few, c.ranges.at.fits)

pub returns : goal.returns
returns c = rw (c.requires.counted, c.count_characters.ensures.count) (count_further c.args.text.now c.args.from c.args.at c.requires.order)
