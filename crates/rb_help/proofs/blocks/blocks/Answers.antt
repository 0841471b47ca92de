use Rattle.rb_help.proofs.Quoting.{quotes-go-on, quotes-end}
use Rattle.rb_help.proofs.blocks.blocks.Goals as goal

pub loop-number-preserved : goal.loop-number-preserved
loop-number-preserved c =
    quotes-go-on c.args.sheet.now c.args.ats.now c.loop-number.earlier c.loop-number.number c.loop-number.text c.as_slice-in-loop-number.result.now c.extend_from_slice.new.self c.loop-number-test.true c.loop-number.invariant (λ apart. rw c.as_slice-in-loop-number.ensures (c.in_ok-block.ensures apart)) c.in_ok-extend_from_slice.ensures.ok

pub returns : goal.returns
returns c =
    quotes-end c.args.sheet.now c.args.ats.now c.loop-number.earlier c.loop-number.number c.loop-number.text c.loop-number-test.false c.loop-number.invariant
