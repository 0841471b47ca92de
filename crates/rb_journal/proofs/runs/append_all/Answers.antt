use Rattle.std.proofs.Common.{◌≡◌, ◌+◌, ◌∙◌, ℕ, List, [], ◌∷◌, ◌++◌, take, ap, sym, subst, append_assoc}
use Rattle.std.proofs.lemmas.List.{append-nil, take_more}
use Rattle.rb_journal.specs.Appends.{IsBeforeOrAfter}
use Rattle.rb_journal.specs.Journals.{Keeps, IsFrontOf}
use Rattle.rb_journal.proofs.RunSteps.{no_run, crashes_then, crashes_weaker, append_in_run}
use Rattle.rb_journal.proofs.runs.append_all.Goals as goal

pub loop-payload-init : goal.loop-payload-init
loop-payload-init g c = record {
  kept = λ before k. subst (λ (ps : List (List ℕ)). Keeps g.D.Disk.told c.args.journal.now ps) (sym (append-nil before)) k;
  any_moment = λ before k. no_run g.D.Disk.told c.args.journal.now before c.args.payloads.now k;
}

pub returns-in_err-append-clause-any_moment : goal.returns-in_err-append-clause-any_moment
returns-in_err-append-clause-any_moment g c = λ before k.
    let told = g.D.Disk.told in
    let vs = c.args.payloads.now in
    let i = c.loop-payload.payload-index in
    let v = c.payload-item.result in
    let first = before ++ take i vs in
    let take_is : take (i + 1) vs ≡ take i vs ++ v ∷ [] = take_more vs i v c.loop-payload-test.true ∙ ap (λ (w : List ℕ). take i vs ++ w ∷ []) (sym c.payload-item.is) in
    crashes_then (told c.args.journal.now.disk) (told c.loop-payload.journal.disk) (told c.append.new.self.disk) (IsFrontOf before vs)
    (c.loop-payload.invariant.any_moment before k)
    (crashes_weaker (told c.loop-payload.journal.disk) (told c.append.new.self.disk) (IsBeforeOrAfter first c.as_slice.result.now) (IsFrontOf before vs)
    (λ image h. append_in_run before vs i v image c.loop-payload-test.true take_is (subst (λ (p : List ℕ). IsBeforeOrAfter first p image) c.as_slice.ensures h))
    (c.in_err-append.ensures.any_moment first (c.loop-payload.invariant.kept before k)))

pub loop-payload-preserved : goal.loop-payload-preserved
loop-payload-preserved g c =
    let told = g.D.Disk.told in
    let vs = c.args.payloads.now in
    let i = c.loop-payload.payload-index in
    let v = c.payload-item.result in
    let take_is : take (i + 1) vs ≡ take i vs ++ v ∷ [] = take_more vs i v c.loop-payload-test.true ∙ ap (λ (w : List ℕ). take i vs ++ w ∷ []) (sym c.payload-item.is) in
    record {
      kept = λ before k.
          let first = before ++ take i vs in
          let more : first ++ c.as_slice.result.now ∷ [] ≡ before ++ take (i + 1) vs =
          ap (λ (p : List ℕ). first ++ p ∷ []) c.as_slice.ensures ∙ append_assoc before (take i vs) (v ∷ [])
          ∙ ap (λ (l : List (List ℕ)). before ++ l) (sym take_is) in
          subst (λ (ps : List (List ℕ)). Keeps told c.append.new.self ps) more (c.in_ok-append.ensures.kept first (c.loop-payload.invariant.kept before k));
      any_moment = λ before k.
          let first = before ++ take i vs in
          crashes_then (told c.args.journal.now.disk) (told c.loop-payload.journal.disk) (told c.append.new.self.disk) (IsFrontOf before vs)
          (c.loop-payload.invariant.any_moment before k)
          (crashes_weaker (told c.loop-payload.journal.disk) (told c.append.new.self.disk) (IsBeforeOrAfter first c.as_slice.result.now) (IsFrontOf before vs)
          (λ image h. append_in_run before vs i v image c.loop-payload-test.true take_is (subst (λ (p : List ℕ). IsBeforeOrAfter first p image) c.as_slice.ensures h))
          (c.in_ok-append.ensures.any_moment first (c.loop-payload.invariant.kept before k)));
    }
