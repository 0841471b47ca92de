use Rattle.std.proofs.Common.{arith}
use Rattle.rb_help.proofs.Ranges.{range_of_line}
use Rattle.rb_help.proofs.lines.line_within.Goals as goal

pub returns-clause-line : goal.returns-clause-line
returns-clause-line c =
    let start = rw c.split_at.ensures.front at c.start_of_last-start.ensures.start in
    let end = rw c.split_at.ensures.back at c.length_of_first.ensures.count in
    let range = range_of_line c.start_of_last-start.result c.args.place c.length_of_first.result c.args.source.now (omega arith) c.requires in
    cc
