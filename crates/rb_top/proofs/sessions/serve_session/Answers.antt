use Rattle.rb_base.specs.Devices.{device}
use Rattle.rb_base.specs.Listening.{ends_of}
use Rattle.rb_top.proofs.Serving.{came_back_so}
use Rattle.rb_top.proofs.sessions.serve_session.Goals as goal

pub returns-clause-serves : goal.returns-clause-serves
returns-clause-serves g c =
    let last = ends_of (device g.N.S.Source.told g.N.S.Source.faults) (device g.N.K.Sink.told g.N.K.Sink.faults) c.serve_hub-answer.new.source c.serve_hub-answer.new.sink in
    record {
      last = last;
      serves = record { serves = c.serve_hub-answer.ensures.serves; stops = c.serve_hub-answer.ensures.stops; answers = c.serve_hub-answer.ensures.answers };
      back = came_back_so last (device g.N.Listen.told g.N.Listen.faults c.args.listen.now) (g.N.Listen.told c.back.new.self) (g.N.Listen.faults c.back.new.self) c.back.ensures.after c.back.ensures.faults;
    }
