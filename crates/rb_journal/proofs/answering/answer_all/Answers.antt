use Rattle.std.proofs.Common.{◌≡◌, ◌+◌, ◌∙◌, ℕ, List, [], ◌∷◌, ◌++◌, take, take_all, ap, sym, subst, arith}
use Rattle.std.proofs.lemmas.List.{take_more}
use Rattle.rb_journal.specs.Keeping.{AnswersKept, AnswersAll}
use Rattle.rb_journal.proofs.AnsweredRuns.{extended, stops_after, leaves_answered, leaves_at_stop, keeps_accepted}
use Rattle.rb_journal.proofs.answering.answer_all.Goals as goal

pub returns-in-Err-clause-stops : goal.returns-in-Err-clause-stops
returns-in-Err-clause-stops g c =
    let vs = c.args.requests.now in
    let i = c.loop-request.request-index in
    let v = c.request-item.result in
    let next : take (i + 1) vs ≡ take i vs ++ v ∷ [] = take_more vs i v c.loop-request-test.true ∙ ap (λ (w : List ℕ). take i vs ++ w ∷ []) (sym c.request-item.is) in
    stops_after g.D.Disk.told g.D.Disk.faults vs i c.loop-request.answered c.args.kept.now c.loop-request.kept c.answer_one.new.self c.as_slice.result.now v c.in-Err.stop
    c.loop-request.invariant.counted next c.as_slice.ensures c.loop-request.invariant.answers c.in-Err.ensures.stop

pub returns-in-Err-clause-any_moment : goal.returns-in-Err-clause-any_moment
returns-in-Err-clause-any_moment g c = λ payloads k n le.
    let vs = c.args.requests.now in
    let i = c.loop-request.request-index in
    let v = c.request-item.result in
    let next : take (i + 1) vs ≡ take i vs ++ v ∷ [] = take_more vs i v c.loop-request-test.true ∙ ap (λ (w : List ℕ). take i vs ++ w ∷ []) (sym c.request-item.is) in
    leaves_at_stop g.D.Disk.told g.D.Disk.faults vs c.loop-request.answered c.in-Err.stop c.args.kept.now c.answer_one.new.self payloads k
    (stops_after g.D.Disk.told g.D.Disk.faults vs i c.loop-request.answered c.args.kept.now c.loop-request.kept c.answer_one.new.self c.as_slice.result.now v c.in-Err.stop
    c.loop-request.invariant.counted next c.as_slice.ensures c.loop-request.invariant.answers c.in-Err.ensures.stop) n le

pub loop-request-preserved : goal.loop-request-preserved
loop-request-preserved g c =
    let told = g.D.Disk.told in
    let faults = g.D.Disk.faults in
    let vs = c.args.requests.now in
    let i = c.loop-request.request-index in
    let v = c.request-item.result in
    let next : take (i + 1) vs ≡ take i vs ++ v ∷ [] = take_more vs i v c.loop-request-test.true ∙ ap (λ (w : List ℕ). take i vs ++ w ∷ []) (sym c.request-item.is) in
    let step : AnswersKept told faults c.loop-request.kept v c.answer_one.new.self =
    subst (λ (r : List ℕ). AnswersKept told faults c.loop-request.kept r c.answer_one.new.self) c.as_slice.ensures c.in-Ok.ensures.kept in
    record {
      counted = omega (arith, c.loop-request.invariant.counted);
      answers = subst (λ (rs : List (List ℕ)). AnswersAll told faults c.args.kept.now rs c.answer_one.new.self) (sym next)
          (extended told faults (take i vs) c.args.kept.now c.loop-request.kept c.answer_one.new.self v c.loop-request.invariant.answers step);
      ready = c.in-Ok.ensures.ready;
      service = c.in-Ok.ensures.service ∙ c.loop-request.invariant.service;
    }

pub returns-clause-keeps : goal.returns-clause-keeps
returns-clause-keeps g c =
    let vs = c.args.requests.now in
    let all = subst (λ (rs : List (List ℕ)). AnswersAll g.D.Disk.told g.D.Disk.faults c.args.kept.now rs c.loop-request.kept)
    (take_all c.loop-request.request-index vs (omega (arith, c.loop-request-test.false))) c.loop-request.invariant.answers in
    keeps_accepted g.D.Disk.told g.D.Disk.faults vs c.args.kept.now c.loop-request.kept all

pub returns-clause-any_moment : goal.returns-clause-any_moment
returns-clause-any_moment g c = λ payloads k n le.
    let vs = c.args.requests.now in
    let all = subst (λ (rs : List (List ℕ)). AnswersAll g.D.Disk.told g.D.Disk.faults c.args.kept.now rs c.loop-request.kept)
    (take_all c.loop-request.request-index vs (omega (arith, c.loop-request-test.false))) c.loop-request.invariant.answers in
    leaves_answered g.D.Disk.told g.D.Disk.faults vs c.args.kept.now c.loop-request.kept payloads k all n
