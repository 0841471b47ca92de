-- The turns of the loop of `tokens`.
use Rattle.std.proofs.Common.{◌+◌, length, ap, arith, length-drop}
use Rattle.std.proofs.lemmas.Bool.Decides.{nat_tests}
use Rattle.rb_lex.proofs.Turns.{skip_turn, take_turn, large_turn, long_turn, open_turn, bad_turn, last_turn}
use Rattle.rb_lex.proofs.lexing.tokens.Goals as goal

pub loop-rest-preserved-in-Skip : goal.loop-rest-preserved-in-Skip
loop-rest-preserved-in-Skip c =
    let rest = c.loop-rest.rest.now in
    let l = ap length c.after-rest.ensures in (
      skip_turn c.args.text.now rest c.loop-rest.minus c.loop-rest.list c.loop-rest.invariant.0 c.loop-rest.invariant.1 (grind (arith, nat_tests)) c.in-Skip.n c.in-Skip.ensures.within c.in-Skip.ensures.value _ c.after-rest.ensures,
      omega (arith, length-drop (c.in-Skip.n + 1) rest),
    )

pub loop-rest-preserved : goal.loop-rest-preserved
loop-rest-preserved c =
    let rest = c.loop-rest.rest.now in
    let l = ap length c.after-rest-in-Take.ensures in (
      take_turn c.args.text.now rest c.loop-rest.minus c.loop-rest.list c.loop-rest.invariant.0 c.loop-rest.invariant.1 (grind (arith, nat_tests)) c.in-Take.kind c.in-Take.n c.in-Take.ensures.within c.in-Take.ensures.value _ c.after-rest-in-Take.ensures _ c.is_minus-minus.ensures _ c.in_ok-push-in-Take.ensures.ok,
      omega (arith, length-drop (c.in-Take.n + 1) rest),
    )

pub returns-in-Large : goal.returns-in-Large
returns-in-Large c =
    large_turn c.args.text.now c.loop-rest.rest.now c.loop-rest.minus c.loop-rest.list c.loop-rest.invariant.0 c.loop-rest.invariant.1 (grind (arith, nat_tests)) c.in-Large.ensures.value

pub returns-in-Long : goal.returns-in-Long
returns-in-Long c =
    long_turn c.args.text.now c.loop-rest.rest.now c.loop-rest.minus c.loop-rest.list c.loop-rest.invariant.0 c.loop-rest.invariant.1 (grind (arith, nat_tests)) c.in-Long.ensures.value

pub returns-in-Open : goal.returns-in-Open
returns-in-Open c =
    open_turn c.args.text.now c.loop-rest.rest.now c.loop-rest.minus c.loop-rest.list c.loop-rest.invariant.0 c.loop-rest.invariant.1 (grind (arith, nat_tests)) c.in-Open.ensures.value

pub returns-in-Bad : goal.returns-in-Bad
returns-in-Bad c =
    bad_turn c.args.text.now c.loop-rest.rest.now c.loop-rest.minus c.loop-rest.list c.loop-rest.invariant.0 c.loop-rest.invariant.1 (grind (arith, nat_tests)) c.in-Bad.n c.in-Bad.ensures.value

pub returns : goal.returns
returns c = last_turn c.args.text.now c.loop-rest.rest.now c.loop-rest.minus c.loop-rest.list c.loop-rest.invariant.0 (grind (arith, nat_tests))
