-- What is told of the payload is told of the frame.
use Rattle.rb_dump.proofs.Told.{whole_leads}
use Rattle.rb_dump.proofs.frames.show_whole.Goals as goal

pub returns-clause-leads : goal.returns-clause-leads
returns-clause-leads c =
    whole_leads c.args.walk.now c.show_header.new.walk c.show_payload.new.walk c.args.kind c.args.size c.after-end.result c.message_of-message.result c.show_payload.result
    c.requires c.message_of-message.ensures c.in_ok-show_header.ensures.bytes c.in_ok-show_header.ensures.at c.after-end.ensures
    c.show_payload.ensures.bytes c.show_payload.ensures.at c.show_payload.ensures.verdict
