-- The laws, for all code.
use Rattle.std.proofs.Common.{refl, ℕ}
use Rattle.rb_meaning_code.specs.State.{Local}
use Rattle.rb_meaning_code.specs.Dialogue.{Handler}
use Rattle.rb_meaning_code.specs.Laws.{Meaning, OfCode, LeavesLater, SameWithinMoreGas, BatchesLeaveLater, BatchesKeepFuel, HandledLater, HandledSameWithinMoreGas}
use Rattle.rb_meaning_code.proofs.Alike.{Order, From}
use Rattle.rb_meaning_code.proofs.Values.{Reach, one, both, value_alike, values_alike, call_alike}
use Rattle.rb_meaning_code.proofs.Effects.{stmt_alike, stmts_alike, block_alike}
use Rattle.rb_meaning_code.proofs.Within.{within, runs_alike}
use Rattle.rb_meaning_code.proofs.Orders.{later, keeps_fuel}
use Rattle.rb_meaning_code.proofs.Runs.{leaves, same_run, handled_leaves, handled_same}

-- it is alike within two gases that reach
abbrev AlikeWithin : (Local → Local → Type 0) → (A : Type 0) → Meaning A → Type 0
AlikeWithin Keeps A meaning = (gas more : ℕ) (l : Local) → Reach gas more l.fuel → From Keeps l (meaning gas l) (meaning more l)

all_alike : {Keeps : Local → Local → Type 0} → Order Keeps → OfCode (AlikeWithin Keeps)
all_alike order = record {
  values = λ classes e gas more. value_alike (within order classes gas more) e;
  lists = λ classes es gas more. values_alike (within order classes gas more) es;
  calls = λ classes at receiver name args gas more. call_alike (within order classes gas more) at receiver name args;
  statements = λ classes s gas more. stmt_alike (within order classes gas more) s;
  sequences = λ classes ss gas more. stmts_alike (within order classes gas more) ss;
  blocks = λ classes ss gas more. block_alike order (record { from = stmts_alike (within order classes gas more) ss });
  bodies = λ classes body gas more. runs_alike (within order classes gas more) body;
}

-- what follows from a fact of all code
pub so : {Fact Other : (A : Type 0) → Meaning A → Type 0} → ((A : Type 0) (meaning : Meaning A) → Fact A meaning → Other A meaning) → OfCode Fact → OfCode Other
so f all = record {
  values = λ classes e. f _ _ (all.values classes e);
  lists = λ classes es. f _ _ (all.lists classes es);
  calls = λ classes at receiver name args. f _ _ (all.calls classes at receiver name args);
  statements = λ classes s. f _ _ (all.statements classes s);
  sequences = λ classes ss. f _ _ (all.sequences classes ss);
  blocks = λ classes ss. f _ _ (all.blocks classes ss);
  bodies = λ classes body. f _ _ (all.bodies classes body);
}

pub code_leaves_later : OfCode LeavesLater
code_leaves_later = so (λ A meaning alike gas l. leaves (alike gas gas l (one refl)).alike) (all_alike later)

pub same_within : OfCode SameWithinMoreGas
same_within = so (λ A meaning alike gas more l enough too. same_run (alike gas more l (both enough too)).alike) (all_alike keeps_fuel)

pub handled_later : {S : Type 0} (h : Handler S) → BatchesLeaveLater h → OfCode (HandledLater h)
handled_later h lawful = so (λ A meaning law gas l s. handled_leaves h _ lawful (meaning gas l) s (law gas l)) code_leaves_later

pub handled_the_same : {S : Type 0} (h : Handler S) → BatchesKeepFuel h → OfCode (HandledSameWithinMoreGas h)
handled_the_same h kept = so (λ A meaning law gas more l s enough too. handled_same h kept s (law gas more l enough too)) same_within
