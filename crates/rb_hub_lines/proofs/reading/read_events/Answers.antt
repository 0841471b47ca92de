use Rattle.std.proofs.Common.{map, ap, arith, subst, sym}
use Rattle.std.proofs.lemmas.Bool.Decides.{nat_tests}
use Rattle.std.proofs.lemmas.List.{length-map}
use Rattle.rb_hub_lines.specs.Lines.{event_words}
use Rattle.rb_hub.specs.Serial.{as_event}
use Rattle.rb_hub_lines.proofs.LineTexts.{SoFar, all_read, breaks_so, event_more, none_so_far, shorter}
use Rattle.rb_hub_lines.proofs.reading.read_events.Goals as goal

pub loop-rest-init : goal.loop-rest-init
loop-rest-init c = subst (λ es. SoFar c.args.text.now c.args.text.now (map as_event es)) (sym c.new-events.ensures.items) (none_so_far c.args.text.now)

pub loop-rest-smaller : goal.loop-rest-smaller
loop-rest-smaller c =
    let first = rw c.in-Some.is at c.in_ok-event.ensures in
    shorter c.loop-rest.rest.now (event_words (as_event c.in-Some.event)) c.in-Some.behind.now first.1

pub loop-rest-preserved : goal.loop-rest-preserved
loop-rest-preserved c =
    let first = rw c.in-Some.is at c.in_ok-event.ensures in
    event_more c.args.text.now c.loop-rest.rest.now c.in-Some.behind.now c.loop-rest.events.items c.add_event.new.events.items c.in-Some.event c.loop-rest.invariant first.0 first.1 c.in_ok-add_event-in-Some.ensures

pub returns-in-None : goal.returns-in-None
returns-in-None c = breaks_so c.args.text.now c.loop-rest.rest.now (map as_event c.loop-rest.events.items) _ c.loop-rest.invariant (grind (arith, nat_tests)) (rw c.in-None.is at c.in_ok-event.ensures) (omega (arith, c.len.ensures, c.loop-rest.events.ok, length-map c.loop-rest.events.items as_event))

pub returns : goal.returns
returns c = all_read c.args.text.now c.loop-rest.rest.now (map as_event c.loop-rest.events.items) c.loop-rest.invariant (grind (arith, nat_tests))
