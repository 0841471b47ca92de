-- Runs that surroundings lead.
use Rattle.std.proofs.Common.{◌≡◌, inl, inr, refl, sym, subst}
use Rattle.std.specs.Prelude.{Result, Ok, Err}
use Rattle.rb_meaning_code.specs.Dialogue.{Dialogue, Done, Ask, AskBatch, Surroundings, Follows, Handler, handle}
use Rattle.rb_meaning_code.specs.Laws.{Leaves, SameRun, ends, asks, lends, OfCode}
use Rattle.rb_meaning_code.specs.Led.{LedBatchesLeaveLater, LedBatchesKeepFuel, LedLater, LedSameWithinMoreGas, Agrees, AnswersAs, Passes, here, answered, performed, EndsAsHandled, IsCutAsHandled, RestsEndAsWhole}
use Rattle.rb_meaning_code.proofs.OfCode.{so, code_leaves_later, same_within}

-- what holds of whatever a run ends by holds of what it is led to
pub led_leaves : {W X A : Type 0} (R : Surroundings W X) (P : A → Type 0) → LedBatchesLeaveLater R → (d : Dialogue A) (a : A) (w w' : W) → Leaves P d → Follows R d w (Ok a) w' → P a
led_leaves R P later (Done b) a w w' leaves led = let same : b ≡ a = cc (led.0) in subst P same leaves
led_leaves R P later (Ask q go) a w w' leaves (inl (b, mid, e, led)) = led_leaves R P later (go b) a mid w' (leaves b) led
led_leaves R P later (Ask q go) a w w' leaves (inr (x, e, is)) = absurd (cc (is))
led_leaves R P later (AskBatch at l go) a w w' leaves (inl (o, mid, e, led)) = led_leaves R P later (go o) a mid w' (leaves o (later w mid at l o e)) led
led_leaves R P later (AskBatch at l go) a w w' leaves (inr (x, e, is)) = absurd (cc (is))

-- runs that are the same are led the same
pub led_same : {W X A : Type 0} {d e : Dialogue A} (R : Surroundings W X) → LedBatchesKeepFuel R → (r : Result A X) (w w' : W) → SameRun d e → Follows R d w r w' → Follows R e w r w'
led_same R kept r w w' (ends a) led = led
led_same R kept r w w' (asks q go go' same) (inl (a, mid, e, led)) = inl (a, mid, e, led_same R kept r mid w' (same a) led)
led_same R kept r w w' (asks q go go' same) (inr cut) = inr cut
led_same R kept r w w' (lends at l go go' same) (inl (o, mid, e, led)) = inl (o, mid, e, led_same R kept r mid w' (same o (kept w mid at l o e)) led)
led_same R kept r w w' (lends at l go go' same) (inr cut) = inr cut

pub led_later : {W X : Type 0} (R : Surroundings W X) → LedBatchesLeaveLater R → OfCode (LedLater R)
led_later R lawful = so (λ A meaning law gas l o w w' led. led_leaves R _ lawful (meaning gas l) o w w' (law gas l) led) code_leaves_later

pub led_the_same : {W X : Type 0} (R : Surroundings W X) → LedBatchesKeepFuel R → OfCode (LedSameWithinMoreGas R)
led_the_same R kept = so (λ A meaning law gas more l r w w' enough too led. led_same R kept r w w' (law gas more l enough too) led) same_within

-- where a handler answers as the surroundings do

pub ends_as_handled : {W X S A : Type 0} (Sees : W → S → Type 0) (R : Surroundings W X) (h : Handler S) → AnswersAs Sees R h → (d : Dialogue A) → EndsAsHandled Sees R h d
ends_as_handled Sees R h tells (Done b) w w' s a sees led = (cc (led.0), subst (λ v. Sees v s) (sym led.1) sees)
ends_as_handled Sees R h tells (Ask q go) w w' s a sees (inl (b, mid, e, led)) =
    let same = tells.questions w mid s q b sees e in
    subst (λ x. Agrees Sees a w' (handle h (go x) (h.answer s q).1)) same.0 (ends_as_handled Sees R h tells (go b) mid w' (h.answer s q).1 a same.1 led)
ends_as_handled Sees R h tells (Ask q go) w w' s a sees (inr (x, e, is)) = absurd (cc (is))
ends_as_handled Sees R h tells (AskBatch at l go) w w' s a sees (inl (o, mid, e, led)) =
    let same = tells.batches w mid s at l o sees e in
    subst (λ x. Agrees Sees a w' (handle h (go x) (h.batch s at l).1)) same.0 (ends_as_handled Sees R h tells (go o) mid w' (h.batch s at l).1 a same.1 led)
ends_as_handled Sees R h tells (AskBatch at l go) w w' s a sees (inr (x, e, is)) = absurd (cc (is))

pub is_cut_as_handled : {W X S A : Type 0} (Sees : W → S → Type 0) (R : Surroundings W X) (h : Handler S) → AnswersAs Sees R h → (d : Dialogue A) → IsCutAsHandled Sees R h d
is_cut_as_handled Sees R h tells (Done b) w w' s x sees led = absurd (cc (led.0))
is_cut_as_handled Sees R h tells (Ask q go) w w' s x sees (inl (b, mid, e, led)) =
    let same = tells.questions w mid s q b sees e in
    let later = is_cut_as_handled Sees R h tells (go b) mid w' (h.answer s q).1 x same.1 led in
    let passes = subst (λ y. Passes h (go y) (h.answer s q).1 later.rest later.state) same.0 later.passes in
    record { rest = later.rest; state = later.state; before = later.before; passes = answered q go s later.state later.rest passes; seen = later.seen; cut = later.cut }
is_cut_as_handled Sees R h tells (Ask q go) w w' s x sees (inr (y, e, is)) =
    let same : y ≡ x = cc (is) in
    record { rest = Ask q go; state = s; before = w; passes = here (Ask q go) s; seen = sees; cut = subst (λ z. R.answers w q (Err z) w') same e }
is_cut_as_handled Sees R h tells (AskBatch at l go) w w' s x sees (inl (o, mid, e, led)) =
    let same = tells.batches w mid s at l o sees e in
    let later = is_cut_as_handled Sees R h tells (go o) mid w' (h.batch s at l).1 x same.1 led in
    let passes = subst (λ y. Passes h (go y) (h.batch s at l).1 later.rest later.state) same.0 later.passes in
    record { rest = later.rest; state = later.state; before = later.before; passes = performed at l go s later.state later.rest passes; seen = later.seen; cut = later.cut }
is_cut_as_handled Sees R h tells (AskBatch at l go) w w' s x sees (inr (y, e, is)) =
    let same : y ≡ x = cc (is) in
    record { rest = AskBatch at l go; state = s; before = w; passes = here (AskBatch at l go) s; seen = sees; cut = subst (λ z. R.performs w at l (Err z) w') same e }

pub rest_ends_as_whole : {S A : Type 0} → RestsEndAsWhole S A
rest_ends_as_whole h _ _ _ _ (here d s) = refl
rest_ends_as_whole h _ _ _ _ (answered q go s s' rest p) = rest_ends_as_whole h _ rest _ s' p
rest_ends_as_whole h _ _ _ _ (performed at l go s s' rest p) = rest_ends_as_whole h _ rest _ s' p
