-- What is told of the payload is told of the record.
use Rattle.rb_dump.proofs.Recorded.{record_leads}
use Rattle.rb_dump.proofs.journals.show_record.Goals as goal

pub returns-clause-leads : goal.returns-clause-leads
returns-clause-leads c =
    record_leads c.args.walk.now c.show_size.new.walk c.show_payload.new.walk c.args.size c.after-end.result c.show_payload.result c.requires.gate
    c.in_ok-show_size.ensures.bytes c.in_ok-show_size.ensures.at c.after-end.ensures
    c.show_payload.ensures.bytes c.show_payload.ensures.at c.show_payload.ensures.verdict
