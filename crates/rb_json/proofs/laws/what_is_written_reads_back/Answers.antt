use Rattle.rb_json.proofs.Back.{request_back}
use Rattle.rb_json.proofs.laws.what_is_written_reads_back.Goals as goal

pub returns : goal.returns
returns c x h = request_back x h
