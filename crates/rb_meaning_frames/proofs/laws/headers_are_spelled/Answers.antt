use Rattle.rb_meaning_frames.proofs.Headers.{spelled}
use Rattle.rb_meaning_frames.proofs.Fronts.{whole}
use Rattle.rb_meaning_frames.proofs.laws.headers_are_spelled.Goals as goal

pub returns-clause-headers : goal.returns-clause-headers
returns-clause-headers c = spelled

pub returns-clause-frames : goal.returns-clause-frames
returns-clause-frames c = whole
