use Rattle.rb_hub_lines.proofs.LineTexts.{one_reading}
use Rattle.rb_hub_lines.proofs.texts.event_lines_have_one_reading.Goals as goal

pub returns : goal.returns
returns c = one_reading
