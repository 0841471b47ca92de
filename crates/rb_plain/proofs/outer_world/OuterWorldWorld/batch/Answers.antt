use Rattle.std.proofs.Common.{Ok, sym, ap, ◌∙◌}
use Rattle.std.specs.Option.{option_copied, option_map}
use Rattle.rb_meaning_code.specs.Dialogue.{Faulted}
use Rattle.rb_engine.specs.Locals.{local}
use Rattle.rb_plain.proofs.Asked.{batch_asked, rootless}
use Rattle.rb_plain.proofs.outer_world.OuterWorldWorld.batch.Goals as goal

pub returns-in-Some-root_of-clause-performs : goal.returns-in-Some-root_of-clause-performs
returns-in-Some-root_of-clause-performs g c =
    batch_asked g.W.Sink c.args.self.now c.perform_found.new.world c.args.at (local c.args.frame.now c.args.state.now) (local c.perform_found.new.frame c.perform_found.new.state) c.in-Some.batch.now (c.in-Some-root_of.root.0.now, c.in-Some-root_of.root.1)
    c.perform_found.result (sym c.find.ensures ∙ ap option_copied c.in-Some.is) (sym c.root_of.ensures ∙ ap (option_map (λ v. (v.0.now, v.1))) c.in-Some-root_of.is) c.perform_found.ensures.performs

pub returns-in-None-clause-performs : goal.returns-in-None-clause-performs
returns-in-None-clause-performs g c =
    rootless g.W.Sink c.args.self.now c.args.self.now c.args.at (local c.args.frame.now c.args.state.now) c.in-Some.batch.now (Ok (Faulted c.refuse-in-None.result (local c.args.frame.now c.args.state.now)))
    (sym c.find.ensures ∙ ap option_copied c.in-Some.is) (sym c.root_of.ensures ∙ ap (option_map (λ v. (v.0.now, v.1))) c.in-None.is)
