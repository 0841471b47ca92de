use Rattle.rb_flow.proofs.Steps.{walk_on, walk_ends}
use Rattle.rb_flow.proofs.chain.walk.Goals as goal

pub back-preserved : goal.back-preserved
back-preserved c = walk_on c.args.writers.now c.args.search.now.levels.items c.args.positions.now.items c.back.positions.items c.push-in-back.new.self.items c.args.from c.back.here c.step_back-here.result
    c.back.invariant c.step_back-here.ensures.stands c.step_back-here.ensures.way c.in_ok-push-2.ensures.items

pub returns : goal.returns
returns c = walk_ends c.args.writers.now c.args.search.now.levels.items c.args.positions.now.items c.back.positions.items c.push-2.new.self.items c.args.from c.back.here c.source_of-source.result
    c.back.invariant c.source_of-source.ensures c.in_ok-push-3.ensures.items
