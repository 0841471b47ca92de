use Rattle.rb_meaning_frames.proofs.Divided.{cut_anywhere, stays_broken}
use Rattle.rb_meaning_frames.proofs.laws.streams_are_cut_anywhere.Goals as goal

pub returns-clause-cut : goal.returns-clause-cut
returns-clause-cut c = cut_anywhere

pub returns-clause-broken : goal.returns-clause-broken
returns-clause-broken c = stays_broken
