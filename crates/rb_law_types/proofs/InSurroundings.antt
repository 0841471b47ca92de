-- Typed code in surroundings whose answers fit.
use Rattle.std.proofs.Common.{◌≡◌, sym, subst, inl, inr, ℕ, Option}
use Rattle.rb_meaning_types.specs.Kinds.{Kind}
use Rattle.rb_meaning_types.specs.Violations.{Checked}
use Rattle.rb_meaning_types.specs.Declared.{Declarations}
use Rattle.rb_meaning_code.specs.Dialogue.{Dialogue, Done, Ask, AskBatch, Surroundings, Handler}
use Rattle.rb_law_types.specs.Asked.{Side, Keeps}
use Rattle.rb_law_types.specs.Code.{OfBatchCode}
use Rattle.rb_law_types.specs.Around.{HandlerFits, SurroundingsFit, EndsHandled, EndsLed, TypesKeepHandled, BatchesKeepHandled, TypesKeepLed, BatchesKeepLed}
use Rattle.rb_law_types.proofs.Bodies.{types_keep, batches_keep}
use Rattle.rb_law_types.proofs.Services.{so}

pub handled : {S A : Type 0} (d : Declarations) (side : Side) (Holds : S → Type 0) (h : Handler S) → HandlerFits d side Holds h → (P : A → Type 0) (run : Dialogue A) → Keeps d side P run → EndsHandled Holds h A P run
handled d side Holds h fits P (Done a) k s holds = (k, holds)
handled d side Holds h fits P (Ask q go) k s holds =
    handled d side Holds h fits P (go (h.answer s q).0) (k.1 (h.answer s q).0 (fits.answers s q holds k.0)) (h.answer s q).1 (fits.answered s q holds k.0)
handled d side Holds h fits P (AskBatch at l go) k s holds =
    handled d side Holds h fits P (go (h.batch s at l).0) (k.2 (h.batch s at l).0 (fits.batches s at l k.0 holds k.1)) (h.batch s at l).1 (fits.performed s at l k.0 holds k.1)

led : {W X A : Type 0} (d : Declarations) (side : Side) (Holds : W → Type 0) (R : Surroundings W X) → SurroundingsFit d side Holds R → (P : A → Type 0) (run : Dialogue A) → Keeps d side P run → EndsLed Holds R A P run
led d side Holds R fits P (Done b) k w w' a holds follows = let same : b ≡ a = cc (follows.0) in (subst P same k, subst Holds (sym follows.1) holds)
led d side Holds R fits P (Ask q go) k w w' a holds (inl (b, mid, e, follows)) =
    led d side Holds R fits P (go b) (k.1 b (fits.answers w mid q b holds k.0 e)) mid w' a (fits.answered w mid q b holds k.0 e) follows
led d side Holds R fits P (Ask q go) k w w' a holds (inr (x, e, is)) = absurd (cc (is))
led d side Holds R fits P (AskBatch at l go) k w w' a holds (inl (o, mid, e, follows)) =
    led d side Holds R fits P (go o) (k.2 o (fits.batches w mid at l k.0 o holds k.1 e)) mid w' a (fits.performed w mid at l k.0 o holds k.1 e) follows
led d side Holds R fits P (AskBatch at l go) k w w' a holds (inr (x, e, is)) = absurd (cc (is))

so_in_batches : {d : Declarations} {types : ℕ → Option (Checked Kind)} {Leads Other : (A : Type 0) → (A → Type 0) → Dialogue A → Type 0} → ((A : Type 0) (P : A → Type 0) (run : Dialogue A) → Leads A P run → Other A P run)
    → OfBatchCode d types Leads → OfBatchCode d types Other
so_in_batches f all = record {
  values = λ p e k gas l t n fits. f _ _ _ (all.values p e k gas l t n fits);
  lists = λ p es ks gas l t n fits. f _ _ _ (all.lists p es ks gas l t n fits);
  statements = λ p s after gas l t n fits. f _ _ _ (all.statements p s after gas l t n fits);
  sequences = λ p ss after gas l t n fits. f _ _ _ (all.sequences p ss after gas l t n fits);
  blocks = λ p ss after gas l t n fits. f _ _ _ (all.blocks p ss after gas l t n fits);
}

pub types_keep_handled : {S : Type 0} (Holds : S → Type 0) → TypesKeepHandled Holds
types_keep_handled Holds d typed batches asks h fits = so (λ A P run. handled d _ Holds h fits P run) (types_keep d typed batches asks)

pub batches_keep_handled : {S : Type 0} (Holds : S → Type 0) → BatchesKeepHandled Holds
batches_keep_handled Holds d typed types h fits = so_in_batches (λ A P run. handled d _ Holds h fits P run) (batches_keep d typed types)

pub types_keep_led : {W X : Type 0} (Holds : W → Type 0) (R : Surroundings W X) → TypesKeepLed Holds R
types_keep_led Holds R d typed batches asks fits = so (λ A P run. led d _ Holds R fits P run) (types_keep d typed batches asks)

pub batches_keep_led : {W X : Type 0} (Holds : W → Type 0) (R : Surroundings W X) → BatchesKeepLed Holds R
batches_keep_led Holds R d typed types fits = so_in_batches (λ A P run. led d _ Holds R fits P run) (batches_keep d typed types)
