use Rattle.rb_meaning_frames.proofs.InOrder.{events_lead_on, histories_go_on, replies_go_on}
use Rattle.rb_meaning_frames.proofs.laws.histories_go_on.Goals as goal

pub returns-clause-events : goal.returns-clause-events
returns-clause-events c = events_lead_on

pub returns-clause-histories : goal.returns-clause-histories
returns-clause-histories c = histories_go_on

pub returns-clause-replies : goal.returns-clause-replies
returns-clause-replies c = replies_go_on
