use Rattle.rb_top.specs.Scene.{outside}
use Rattle.rb_top.specs.Words.{texts, wanted}
use Rattle.rb_top.proofs.Completed.{completed}
use Rattle.rb_top.proofs.Complete.{said_as, said_nothing}
use Rattle.rb_top.proofs.command.top.Goals as goal

pub returns-in-Some-clause-answer : goal.returns-in-Some-clause-answer
returns-in-Some-clause-answer g c = said_as g.D.L.Link g.T.D.Disk _ _ c.carry_out.result _ _ c.in-Some.ensures c.carry_out.ensures

pub returns-in-None-clause-answer : goal.returns-in-None-clause-answer
returns-in-None-clause-answer g c = said_nothing g.D.L.Link g.T.D.Disk (wanted (texts c.args.words.now)) c.say.result _ _ c.in-None.ensures c.say.ensures

pub returns-in-Some-clause-complete : goal.returns-in-Some-clause-complete
returns-in-Some-clause-complete g c =
    completed g.D.L.Link g.T.D.Disk c.sources_have_one_outcome.ensures c.sources_have_one_outcome_as_services.ensures c.event_lines_have_one_reading.ensures
    (record { is_journal = c.one_reading.ensures.is_journal; is_whole = c.one_reading.ensures.is_whole }) (wanted (texts c.args.words.now)) c.carry_out.result _ _
    (said_as g.D.L.Link g.T.D.Disk _ _ c.carry_out.result _ _ c.in-Some.ensures c.carry_out.ensures)

pub returns-in-None-clause-complete : goal.returns-in-None-clause-complete
returns-in-None-clause-complete g c =
    let before = outside g.F.Files g.W.Sink g.D.Dial g.N.Listen g.T.Stores c.args.files.now c.args.out.now c.args.dial.now c.args.listen.now c.args.stores.now in
    completed g.D.L.Link g.T.D.Disk c.sources_have_one_outcome.ensures c.sources_have_one_outcome_as_services.ensures c.event_lines_have_one_reading.ensures
    (record { is_journal = c.one_reading.ensures.is_journal; is_whole = c.one_reading.ensures.is_whole }) (wanted (texts c.args.words.now)) c.say.result before _
    (said_nothing g.D.L.Link g.T.D.Disk (wanted (texts c.args.words.now)) c.say.result before _ c.in-None.ensures c.say.ensures)
