use Rattle.std.proofs.Common.{◌≤◌, ◌-◌, ◌+◌, length, take, arith, length-take}
use Rattle.rb_meaning_bytes.specs.grammar.Symbols.{TheProgram}
use Rattle.rb_parse.proofs.Laws.{stops_within}
use Rattle.rb_parse.proofs.reading.cut.Goals as goal

pub behind-requires : goal.behind-requires
behind-requires c =
    let front = take (length c.args.tokens.now - c.args.left + 1) c.args.tokens.now in
    let s : c.in-Err-Unexpected.more ≤ length front = stops_within TheProgram c.args.source.now front c.in-Err-Unexpected.more (rw c.in-Err-Unexpected.field-0-is at c.in-Err-Unexpected.ensures) in
    let n = length-take (length c.args.tokens.now - c.args.left + 1) c.args.tokens.now in
    omega (arith, s, n)
