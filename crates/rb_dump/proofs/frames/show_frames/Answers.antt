-- Where all is shown, what was found is told of all.
use Rattle.std.proofs.Common.{◌≡◌, length, arith}
use Rattle.rb_dump.proofs.Told.{all_told}
use Rattle.rb_dump.proofs.frames.show_frames.Goals as goal

pub returns-clause-verdict : goal.returns-clause-verdict
returns-clause-verdict c =
    let walk = c.frames.walk in
    let at_end : walk.at ≡ length walk.bytes = omega (arith, c.at.ensures.at, c.at.ensures.within, c.len.ensures, c.frames-test.false) in
    all_told c.args.walk.now walk c.frames.verdict c.requires at_end c.frames.invariant.found
