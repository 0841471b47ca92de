-- What two runs that are alike say of one run, of a run that a handler answers, and of one that surroundings lead.
use Rattle.std.proofs.Common.{◌≡◌, refl}
use Rattle.rb_meaning_code.specs.Dialogue.{Dialogue, Done, Ask, AskBatch, Handler, handle}
use Rattle.rb_meaning_code.specs.Laws.{Later, Leaves, SameRun, ends, asks, lends, BatchesLeaveLater, BatchesKeepFuel}
use Rattle.rb_meaning_code.proofs.Alike as alike
use Rattle.rb_meaning_code.proofs.Alike.{Alike}
use Rattle.rb_meaning_code.proofs.Orders.{KeepsFuel}

pub leaves : {A : Type 0} {P : A → Type 0} {d e : Dialogue A} → Alike Later P d e → Leaves P d
leaves (alike.ends a p) = p
leaves (alike.asks q go go' h) = λ a. leaves (h a)
leaves (alike.lends at l go go' h) = λ o later. leaves (h o later)

pub same_run : {A : Type 0} {P : A → Type 0} {d e : Dialogue A} → Alike KeepsFuel P d e → SameRun d e
same_run (alike.ends a p) = ends a
same_run (alike.asks q go go' h) = asks q go go' (λ a. same_run (h a))
same_run (alike.lends at l go go' h) = lends at l go go' (λ o kept. same_run (h o kept))

-- under a handler

pub handled_leaves : {S A : Type 0} (h : Handler S) (P : A → Type 0) → BatchesLeaveLater h → (d : Dialogue A) (s : S) → Leaves P d → P (handle h d s).0
handled_leaves h P later (Done a) s leaves = leaves
handled_leaves h P later (Ask q go) s leaves = handled_leaves h P later (go (h.answer s q).0) (h.answer s q).1 (leaves (h.answer s q).0)
handled_leaves h P later (AskBatch at l go) s leaves = handled_leaves h P later (go (h.batch s at l).0) (h.batch s at l).1 (leaves (h.batch s at l).0 (later s at l))

pub handled_same : {S A : Type 0} {d e : Dialogue A} (h : Handler S) → BatchesKeepFuel h → (s : S) → SameRun d e → handle h d s ≡ handle h e s
handled_same h kept s (ends a) = refl
handled_same h kept s (asks q go go' same) = handled_same h kept (h.answer s q).1 (same (h.answer s q).0)
handled_same h kept s (lends at l go go' same) = handled_same h kept (h.batch s at l).1 (same (h.batch s at l).0 (kept s at l))
