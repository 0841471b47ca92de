-- What a listener tells.
use Rattle.std.specs.Prelude.{◌≡◌, ◌==◌, ℕ, ◌+◌, ◌-◌, Bool, true, false, cond, List, [], ◌∷◌, ◌++◌, Option, None, Some, unwrap_or, Result, Ok, Err}
use Rattle.std.specs.List.{list_any}
use Rattle.rb_base.specs.Counts.{risen}
use Rattle.rb_base.specs.Devices.{Device}
use Rattle.rb_base.specs.declared.listens.Coming.{Coming}
use Rattle.rb_base.specs.declared.listens.ListenStop.{ListenStop}
use Rattle.rb_base.specs.declared.listens.ListenStop.TheVariants.{Failed, Memory}

-- a session that came back, with what its two ends tell then
pub record Back : Type 0 where
  pub source : Device (List ℕ)
  pub sink : Device (List ℕ)

-- The sessions of each address that there is; those of the address that was started which are still to come; how many are
-- out; those that came back, in that order; the number of calls so far, and the numbers of those that fail, from 1. A `back`
-- isn't among these calls.
pub record Listening : Type 0 where
  pub addresses : List ℕ → Option (List Coming)
  pub coming : List Coming
  pub out : ℕ
  pub back : List Back
  pub calls : ℕ
  pub failing : List ℕ

-- whether the next call is one of those that fail
abbrev pub call_fails : Listening → Bool
call_fails l = list_any (λ n. n == risen l.calls) l.failing

abbrev pub called : Listening → Listening
called l = record l { calls = risen l.calls }

-- the sessions that come where the address is started, or None where the call fails: it is listed, or the address isn't there
abbrev pub started : Listening → List ℕ → Option (List Coming)
started l address = cond (call_fails l) None (l.addresses address)

-- the listener after an address was to be started
abbrev pub after_start : List ℕ → Listening → Listening
after_start address l = record l { calls = risen l.calls; coming = unwrap_or (started l address) l.coming }

-- the count of faults after a call
abbrev pub faults_after : {A : Type 0} → Result A ListenStop → ℕ → ℕ
faults_after (Err Failed) faults = risen faults
faults_after answer faults = faults

abbrev pub risen_on_err : {A E : Type 0} → Result A E → ℕ → ℕ
risen_on_err (Ok a) faults = faults
risen_on_err (Err e) faults = risen faults

-- a source and a sink of a new session
abbrev pub new_ends : List ℕ → Back
new_ends bytes = record {
  source = record { told = Some bytes; faults = 0 };
  sink = record { told = Some []; faults = 0 };
}

-- The first of the sessions that come is out, with new ends.
pub record GivesFirst (ends : Back) (before after : Listening) : Type 0 where
  pub first : Coming
  pub was_first : before.coming ≡ first ∷ after.coming
  pub ends_are : ends ≡ new_ends first.bytes
  pub is : after ≡ record (called before) { coming = after.coming; out = before.out + 1 }

-- What the next call gives: a session, or None where none comes. It fails exactly where it is listed, and want of memory
-- leaves the sessions as they were.
abbrev pub Gives : Result (Option Back) ListenStop → Listening → Listening → Type 0
Gives (Ok (Some ends)) before after = (call_fails before ≡ false) × GivesFirst ends before after
Gives (Ok None) before after = (call_fails before ≡ false) × (before.coming ≡ []) × (after ≡ called before)
Gives (Err Failed) before after = (call_fails before ≡ true) × (after ≡ called before)
Gives (Err Memory) before after = after ≡ called before

-- The same where the listener tells. Whether it does is kept.
abbrev pub GivesWhereTold : Result (Option Back) ListenStop → Option Listening → Option Listening → Type 0
GivesWhereTold answer (Some before) (Some after) = Gives answer before after
GivesWhereTold answer None None = Unit {0}
GivesWhereTold answer told other = ⊥

-- the two ends of a session, as contracts see them
abbrev pub ends_of : {S K : Type 0} → (S → Device (List ℕ)) → (K → Device (List ℕ)) → S → K → Back
ends_of source_of sink_of source sink = record { source = source_of source; sink = sink_of sink }

abbrev pub seen : {S K : Type 0} → (S → Device (List ℕ)) → (K → Device (List ℕ)) → Result (Option (S × K)) ListenStop → Result (Option Back) ListenStop
seen source_of sink_of (Ok (Some pair)) = Ok (Some (ends_of source_of sink_of pair.0 pair.1))
seen source_of sink_of (Ok None) = Ok None
seen source_of sink_of (Err stop) = Err stop

-- No call of a new session has failed.
abbrev pub IsFresh : Result (Option Back) ListenStop → Type 0
IsFresh (Ok (Some ends)) = (ends.source.faults ≡ 0) × (ends.sink.faults ≡ 0)
IsFresh answer = Unit {0}

-- the listener after a session came back
abbrev pub with_back : Back → Listening → Listening
with_back ends l = record l { out = l.out - 1; back = l.back ++ ends ∷ [] }
