use Rattle.rb_help.proofs.Quoting.{within-front}
use Rattle.rb_help.proofs.blocks.block.Goals as goal

pub returns : goal.returns
returns c apart =
    within-front c.args.sheet.now c.args.at c.in_ok-text.text c.as_slice.result.now c.extend_from_slice.new.self c.in_ok-text.ensures c.in_ok-extend_from_slice.ensures.ok
