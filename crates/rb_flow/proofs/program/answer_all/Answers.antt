use Rattle.std.proofs.Common.{map, sym, subst}
use Rattle.rb_flow.specs.Begun.{begun_of}
use Rattle.rb_flow.specs.Program.{TakenSo}
use Rattle.rb_flow.specs.Views.{facts}
use Rattle.rb_flow.proofs.Among.{pop_taken, last_differs, one_taken}
use Rattle.rb_flow.proofs.program.answer_all.Goals as goal

pub answer_one-requires : goal.answer_one-requires
answer_one-requires c =
    let all = map begun_of c.args.batches.items in
    last_differs (facts c.args.x.now) all (map begun_of c.pop.new.self.items) (begun_of c.in-Some.last) c.loop-last.first
    (pop_taken (facts c.args.x.now) all c.loop-last.first c.loop-last.rest.items c.pop.new.self.items c.in-Some.last c.in-Some.ensures.items c.loop-last.invariant) c.requires

pub loop-last-preserved : goal.loop-last-preserved
loop-last-preserved c =
    let all = map begun_of c.args.batches.items in
    subst (TakenSo (facts c.args.x.now) all (map begun_of c.pop.new.self.items)) (sym c.with_answer-first.ensures)
    (one_taken (facts c.args.x.now) all (map begun_of c.pop.new.self.items) (begun_of c.in-Some.last) c.loop-last.first c.in_ok-found.found
    (pop_taken (facts c.args.x.now) all c.loop-last.first c.loop-last.rest.items c.pop.new.self.items c.in-Some.last c.in-Some.ensures.items c.loop-last.invariant)
    c.in_ok-found.ensures)
