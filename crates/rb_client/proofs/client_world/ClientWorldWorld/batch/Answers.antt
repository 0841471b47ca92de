use Rattle.std.proofs.Common.{sym, ap, ◌∙◌}
use Rattle.std.specs.Option.{option_copied}
use Rattle.rb_trees.specs.mirror.Declarations.{mirror_program}
use Rattle.rb_engine.specs.Locals.{local}
use Rattle.rb_client.proofs.ClientAnswers.{batch_found, batch_missing}
use Rattle.rb_client.proofs.Divided.{found_counted, found_sent}
use Rattle.rb_client.proofs.client_world.ClientWorldWorld.batch.Goals as goal

pub perform-requires-clause-sent : goal.perform-requires-clause-sent
perform-requires-clause-sent g c =
    found_sent c.args.self.now.plan.now.splits c.args.at c.in-Some.split.now c.find.ensures.divided.sent
    (sym c.find.ensures.found ∙ ap option_copied c.in-Some.is)

pub perform-requires-clause-counted : goal.perform-requires-clause-counted
perform-requires-clause-counted g c =
    found_counted (mirror_program c.args.self.now.plan.now.program) c.args.self.now.plan.now.splits c.args.at c.in-Some.split.now c.find.ensures.divided.divided
    (sym c.find.ensures.found ∙ ap option_copied c.in-Some.is)

pub returns-in-Some-clause-performs : goal.returns-in-Some-clause-performs
returns-in-Some-clause-performs g c =
    batch_found g.L.Link g.W.Sink c.args.self.now c.perform.new.world c.args.at (local c.args.frame.now c.args.state.now) (local c.perform.new.frame c.perform.new.state) c.perform.result c.in-Some.split.now c.find.ensures.divided
    (sym c.find.ensures.found ∙ ap option_copied c.in-Some.is) c.perform.ensures.performs

pub returns-in-None-clause-performs : goal.returns-in-None-clause-performs
returns-in-None-clause-performs g c =
    batch_missing g.L.Link g.W.Sink c.args.self.now c.args.at (local c.args.frame.now c.args.state.now) c.refuse.result c.find.ensures.divided
    (sym c.find.ensures.found ∙ ap option_copied c.in-None.is) c.refuse.ensures
