use Rattle.rb_meaning_frames.proofs.Divided.{divided_once}
use Rattle.rb_meaning_frames.proofs.laws.each_stream_is_divided_once.Goals as goal

pub returns : goal.returns
returns c = divided_once
