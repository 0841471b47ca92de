-- The code of a typed service asks nothing but whether turns over lists go on.
use Rattle.std.proofs.Common.{◌≡◌, refl, arith, List, [], Ok}
use Rattle.rb_trees.specs.declared.values.Value.TheVariants as value
use Rattle.rb_trees.specs.mirror.Declarations.{Class}
use Rattle.rb_meaning_types.specs.Declared.{Declarations, of_service}
use Rattle.rb_meaning_types.specs.Bodies.{check_class_bodies}
use Rattle.rb_meaning_types.specs.Declarations.{check_declarations}
use Rattle.rb_meaning_types.specs.Programs.{check_service}
use Rattle.rb_meaning_code.specs.Dialogue.{Line, Taken, Invoke, Turn, ListTurn, Dialogue, Done, Ask, AskBatch, handle}
use Rattle.rb_meaning_code.specs.Bodies.{in_service}
use Rattle.rb_law_types.specs.Formed.{AreFormed}
use Rattle.rb_law_types.specs.Asked.{Site, Own, Keeps, KeepsAlone}
use Rattle.rb_law_types.specs.Batches.{MethodsAsk}
use Rattle.rb_law_types.specs.Code.{AreTyped, OfTypedCode, ServicesKeep, ServicesEnd}
use Rattle.rb_law_types.proofs.Checks.{then_ok}
use Rattle.rb_law_types.proofs.Bodies.{types_keep}

-- what follows from a fact of all typed code
pub so : {d : Declarations} {batches : List Site} {Leads Other : (A : Type 0) → (A → Type 0) → Dialogue A → Type 0} → ((A : Type 0) (P : A → Type 0) (run : Dialogue A) → Leads A P run → Other A P run) → OfTypedCode d batches Leads → OfTypedCode d batches Other
so f all = record {
  values = λ p e k gas l t stands. f _ _ _ (all.values p e k gas l t stands);
  lists = λ p es ks gas l t stands. f _ _ _ (all.lists p es ks gas l t stands);
  statements = λ p s after gas l t b stands. f _ _ _ (all.statements p s after gas l t b stands);
  sequences = λ p ss after gas l t b stands. f _ _ _ (all.sequences p ss after gas l t b stands);
  blocks = λ p ss after gas l t b stands. f _ _ _ (all.blocks p ss after gas l t b stands);
  calls = λ p class name m receiver args at gas l c stands. f _ _ _ (all.calls p class name m receiver args at gas l c stands);
  methods = λ class name m gas l has fits. f _ _ _ (all.methods class name m gas l has fits);
}

alone : {A : Type 0} (classes : List Class) (P : A → Type 0) (run : Dialogue A) → Keeps (of_service classes) (Own []) P run → KeepsAlone P run
alone classes P (Done a) h = h
alone classes P (Ask (ListTurn at) go) h = alone classes P (go (Ok value.Unit)) (h.1 (Ok value.Unit) tt)
alone classes P (Ask (Line at bytes) go) h = absurd (cc (h.0))
alone classes P (Ask (Taken step) go) h = absurd h.0
alone classes P (Ask (Invoke at target method args) go) h = absurd h.0
alone classes P (Ask (Turn at) go) h = absurd h.0
alone classes P (AskBatch at l go) h = absurd (omega (arith, h.1.may.1))

handled : {A : Type 0} (P : A → Type 0) (run : Dialogue A) → KeepsAlone P run → P (handle in_service run tt).0
handled P (Done a) h = h
handled P (Ask (ListTurn at) go) h = handled P (go (Ok value.Unit)) h
handled P (Ask (Line at bytes) go) h = absurd h
handled P (Ask (Taken step) go) h = absurd h
handled P (Ask (Invoke at target method args) go) h = absurd h
handled P (Ask (Turn at) go) h = absurd h
handled P (AskBatch at l go) h = absurd h

service_typed : (classes : List Class) → check_service classes ≡ Ok tt → AreFormed classes → AreTyped (of_service classes)
service_typed classes h formed =
    let s = then_ok (check_declarations (of_service classes)) (check_class_bodies (of_service classes) classes) tt h in
    record { declared = s.0; bodies = s.1; formed = formed; alone = λ e. refl }

-- no batch stands in a service
none : (classes : List Class) → MethodsAsk [] (of_service classes)
none classes class name m has holds = absurd (cc (holds.of_program))

pub services_keep : ServicesKeep
services_keep classes h formed = so (λ A P run. alone classes P run) (types_keep (of_service classes) (service_typed classes h formed) [] (none classes))

pub services_end : ServicesEnd
services_end classes h formed = so (λ A P run. handled P run) (services_keep classes h formed)
