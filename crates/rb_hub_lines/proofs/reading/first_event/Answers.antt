use Rattle.rb_hub_lines.proofs.LineTexts.{begins_no_line, begins_none, begins_so}
use Rattle.rb_hub_lines.proofs.reading.first_event.Goals as goal

pub returns-in_default : goal.returns-in_default
returns-in_default c = begins_no_line c.args.text.now c.in_default.ensures

pub returns-in-None : goal.returns-in-None
returns-in-None c = begins_none c.args.text.now c.in-Some.words.now c.in-Some.rest.now c.in-Some.ensures (rw c.in-None.is at c.in_ok-event.ensures)
