use Rattle.rb_split.specs.Drafts.{drafted}
use Rattle.rb_split.proofs.Walked.{written}
use Rattle.rb_split.proofs.walk.draft_carried.Goals as goal

pub returns : goal.returns
returns c =
    written c.add_step.result (drafted c.add_step.new.self) (drafted c.args.draft.now) c.in_ok-add_part.ensures c.in_ok-part.ensures c.in_ok-step.ensures
    c.in_ok-after.ensures c.in_ok-later.ensures c.add_step.ensures
