-- The link that was taken is the one at the place.
use Rattle.std.proofs.Common.{◌∙◌, ap}
use Rattle.rb_session.proofs.Waiting.{takes_it}
use Rattle.rb_session.proofs.memory_dial.MemoryDialDial.dial.Goals as goal

pub returns-clause-takes : goal.returns-clause-takes
returns-clause-takes g c =
    let same = ap (λ d. d.waiting) c.in_ok-let_out.ensures.ok ∙ ap (λ d. d.waiting) c.self.view_is in
    takes_it c.args.self.now c.args.target.now c.in-Some.place c.take.result c.let_out.new.self.waiting c.in-Some.ensures same c.take.ensures.link
