-- Those that wait still are among those that waited.
use Rattle.rb_session.proofs.Waiting.{still_whole}
use Rattle.rb_session.proofs.memory_dial.MemoryDial.take.Goals as goal

pub invariant_of-self : goal.invariant_of-self
invariant_of-self g c =
    (c.self.invariant.0, still_whole g.X.Link.faults _ _ c.args.place c.remove-link.ensures.by_index.2 c.self.invariant.1)
