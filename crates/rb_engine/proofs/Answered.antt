-- What is answered to a remote call, as the reply of an expression.
use Rattle.std.proofs.Common.{◌≡◌, inl, inr, sym, subst, ℕ}
use Rattle.std.specs.Prelude.{Result, Ok, Err}
use Rattle.rb_trees.specs.declared.values.Value.{Value}
use Rattle.rb_trees.specs.declared.outcomes.Raised.{Raised}
use Rattle.rb_trees.specs.declared.want.Memory.{Memory}
use Rattle.rb_engine.specs.Remote.{RepliesAt}
use Rattle.rb_meaning_code.specs.Remote.{Server, Reply}
use Rattle.rb_engine.specs.Misses.{MissesBy, Replied}
use Rattle.rb_engine.specs.declared.misses.Miss.{Miss}

pub value_answered : {m : Reply Value} {r : Result (Result Value Raised) Memory} {v : Value} {s : Server} (at : ℕ) → RepliesAt at m r s → r ≡ Ok (Ok v) → Replied m (Ok v) s
value_answered {m = m} {s = s} at h is = record { means = subst (λ x. RepliesAt at m x s) is h }

pub fault_answered : {m : Reply Value} {r : Result (Result Value Raised) Memory} {f : Raised} {s : Server} (at : ℕ) (h : Miss) → RepliesAt at m r s → r ≡ Ok (Err f) → MissesBy at f.fault h → Replied m (Err h) s
fault_answered {m = m} {s = s} at h answers is (inl e) = subst (λ x. Replied m (Err x) s) (sym e) (record { means = (subst (λ x. RepliesAt at m x s) is answers).0 })
fault_answered {m = m} {s = s} at h answers is (inr e) = subst (λ x. Replied m (Err x) s) (sym e) (record { means = tt })
