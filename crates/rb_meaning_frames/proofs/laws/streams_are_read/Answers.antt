use Rattle.rb_meaning_frames.proofs.Reading.{streams_are_read, fronts_are_read, requests_stay}
use Rattle.rb_meaning_frames.proofs.laws.streams_are_read.Goals as goal

pub returns-clause-streams : goal.returns-clause-streams
returns-clause-streams c = streams_are_read

pub returns-clause-fronts : goal.returns-clause-fronts
returns-clause-fronts c = fronts_are_read

pub returns-clause-stay : goal.returns-clause-stay
returns-clause-stay c = requests_stay
