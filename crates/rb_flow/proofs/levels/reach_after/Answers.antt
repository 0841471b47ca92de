use Rattle.std.proofs.Common.{◌≡◌, Some, None, slice_get, sym, ap, arith}
use Rattle.std.proofs.lemmas.Grind.{common_steps}
use Rattle.std.proofs.lemmas.Option.{gets}
use Rattle.rb_flow.specs.Levels.{bucket, expanded, read_after}
use Rattle.rb_flow.proofs.Served.{served_after}
use Rattle.rb_flow.proofs.levels.reach_after.Goals as goal

pub returns-in_ok-reach-in-Some-clause-reached : goal.returns-in_ok-reach-in-Some-clause-reached
returns-in_ok-reach-in-Some-clause-reached c =
    let at : slice_get c.args.writers.now c.args.place ≡ Some c.in-Some.writer.now = grind (arith, common_steps, gets) in
    (served_after (bucket c.args.readers.now) (bucket c.take_readers-places.new.readers) c.args.writers.now c.args.place c.in-Some.writer.now c.args.level c.take_readers-places.result c.as_slice.result.now
    (record { levels = c.args.levels.now.items; next = c.args.next.now.items }) (record { levels = c.reach.new.levels.items; next = c.reach.new.next.items })
    at c.requires.positive c.requires.serves c.take_readers-places.ensures.places c.take_readers-places.ensures.after c.as_slice.ensures c.in_ok-reach-in-Some.ensures).0

pub returns-in_ok-reach-in-Some-clause-serves : goal.returns-in_ok-reach-in-Some-clause-serves
returns-in_ok-reach-in-Some-clause-serves c =
    let at : slice_get c.args.writers.now c.args.place ≡ Some c.in-Some.writer.now = grind (arith, common_steps, gets) in
    (served_after (bucket c.args.readers.now) (bucket c.take_readers-places.new.readers) c.args.writers.now c.args.place c.in-Some.writer.now c.args.level c.take_readers-places.result c.as_slice.result.now
    (record { levels = c.args.levels.now.items; next = c.args.next.now.items }) (record { levels = c.reach.new.levels.items; next = c.reach.new.next.items })
    at c.requires.positive c.requires.serves c.take_readers-places.ensures.places c.take_readers-places.ensures.after c.as_slice.ensures c.in_ok-reach-in-Some.ensures).1

pub returns-in-None-clause-reached : goal.returns-in-None-clause-reached
returns-in-None-clause-reached c =
    let at : slice_get c.args.writers.now c.args.place ≡ None = grind (arith, common_steps, gets) in
    ap (λ o. expanded c.args.level (read_after c.args.writers.now o) (record { levels = c.args.levels.now.items; next = c.args.next.now.items })) (sym at)
