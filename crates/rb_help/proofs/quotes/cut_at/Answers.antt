use Rattle.rb_help.proofs.Parts.{part_of_line}
use Rattle.rb_help.proofs.quotes.cut_at.Goals as goal

pub returns-clause-part : goal.returns-clause-part
returns-clause-part c =
    part_of_line c.args.text.now c.args.at c.near_line-line.result.bytes.now c.near_line-line.result.offset c.cut_around.result c.near_line-line.ensures.near c.near_line-line.ensures.within c.cut_around.ensures.part
