-- What the code of a batch is answered fits, and the table keeps fitting.
use Rattle.std.proofs.Common.{◌≡◌, ap, subst, arith, ℕ, zero, suc, ◌-◌, List, [], length, All, Bool as Truth, true, false, Option, Some, None, Ok}
use Rattle.rb_trees.specs.declared.values.Value.{Value}
use Rattle.rb_trees.specs.declared.values.Value.TheOpen.{Value-F}
use Rattle.rb_trees.specs.declared.values.Value.TheVariants as value
use Rattle.rb_trees.specs.declared.values.Value.TheViews.{out-Value}
use Rattle.rb_trees.specs.declared.values.Fault.{Fault}
use Rattle.rb_trees.specs.mirror.Declarations.{Program}
use Rattle.rb_trees.specs.mirror.Services.{Service}
use Rattle.rb_meaning_types.specs.Kinds.{Kind}
use Rattle.rb_meaning_types.specs.Violations.{Checked}
use Rattle.rb_meaning_types.specs.Declared.{Declarations, of_program}
use Rattle.rb_meaning_types.specs.Notes.{type_at}
use Rattle.rb_meaning_types.specs.Programs.{check_service}
use Rattle.rb_meaning_types.specs.Fits.{IsRemoteValue, Fits, TableFits}
use Rattle.rb_meaning_code.specs.Dialogue.{Question, Line, Taken, Invoke, Turn, ListTurn}
use Rattle.rb_meaning_code.specs.Calls.{unit_due}
use Rattle.rb_meaning_code.specs.Remote.{Server, Reply, Got, Stopped, and_then, replies, remote_object, invoke}
use Rattle.rb_meaning_flow.specs.Programs.{is_carried_at}
use Rattle.rb_meaning.specs.State.{Outside}
use Rattle.rb_meaning_types.specs.CallKinds.{kind_number, kind_noted, call_kind}
use Rattle.rb_meaning.specs.RemoteAnswers.{answer_of, unit_of}
use Rattle.rb_meaning.specs.Unsplit.{with_answer, list_turn, answers_in_batch, in_batch}
use Rattle.rb_law_types.specs.Kept.{IsBounded, IsOwnFault}
use Rattle.rb_law_types.specs.Formed.{AreFormed}
use Rattle.rb_law_types.specs.Own.{IsFarKind}
use Rattle.rb_law_types.specs.Asked.{Side, InBatch, IsAsked, AnswerGives, IsAnswer}
use Rattle.rb_law_types.specs.Around.{HandlerFits}
use Rattle.rb_law_types.specs.Remote.{IsOfKind, IsCallFault, ReplyKeeps, CallsKeep}
use Rattle.rb_law_types.proofs.Faults.{plain_own}
use Rattle.rb_law_unsplit.proofs.OfKinds.{kind_fits}

-- a fault of a call on a remote object isn't Kind
remote_there : (w : Value-F Value) → IsRemoteValue w → remote_object w ≡ None → ⊥
remote_there (Value-F.Remote object) h e = absurd (cc (e))
remote_there Value-F.Unit h e = absurd h
remote_there _ h e = absurd h

pub call_fault : (at : ℕ) (w : Value-F Value) (place : ℕ) (f : Fault) → IsRemoteValue w → IsCallFault at w place f → IsOwnFault f
call_fault at w place f remote h = record {
  least = h.fault.least;
  most = omega (arith, h.fault.most);
  not_kind = λ e. remote_there w remote (h.kind e);
  text = h.fault.text;
  plain = h.fault.plain;
}

-- what a reply gives is so, and the table that it leaves fits
abbrev pub Fine : {A : Type 0} → Service → (A → Type 0) → Reply A → Type 0
Fine service P (Got a s) = P a × TableFits service.classes service.root s.table
Fine service P (Stopped at f s) = IsOwnFault f × TableFits service.classes service.root s.table

-- a unit of remote fuel
pub unit_fine : (service : Service) (at : ℕ) (s : Server) → TableFits service.classes service.root s.table → Fine service (λ (v : Value). Unit {0}) (unit_of at s)
unit_fine service at s h = by s.fuel
  where
    by : (fuel : ℕ) → Fine service (λ (v : Value). Unit {0}) (and_then (replies at (unit_due fuel) s) (λ u s1. Got value.Unit (record s1 { fuel = s1.fuel - 1 })))
    by zero = (plain_own 7 (omega arith) (omega arith), h)
    by (suc left) = (tt, h)

module _ (calls : CallsKeep) (p : Program) (service : Service) (typed : check_service service.classes ≡ Ok tt) (formed : AreFormed service.classes) where
  abbrev types : ℕ → Option (Checked Kind)
  types = type_at p

  abbrev d : Declarations
  d = of_program p

  -- a remote call of a type that is noted
  pub invoke_fine : (at : ℕ) (target : Value) (method : List ℕ) (args : List Value) (s : Server) (k : Kind) → IsRemoteValue (out-Value target) → All IsBounded args → types at ≡ Some (Ok k) → IsFarKind p.interfaces k
      → TableFits service.classes service.root s.table → Fine service (Fits p.interfaces [] k) (invoke service.classes at (call_kind p at) (out-Value target) method args s)
  invoke_fine at target method args s k remote bounded noted far fits =
      by (invoke service.classes at (call_kind p at) (out-Value target) method args s) (calls service.classes typed formed service.root at (call_kind p at) (out-Value target) method args s fits bounded)
    where
      number : call_kind p at ≡ kind_number k
      number = ap kind_noted noted

      by : (r : Reply Value) → ReplyKeeps service.classes service.root s.table (IsOfKind (call_kind p at)) (IsCallFault at (out-Value target)) r → Fine service (Fits p.interfaces [] k) r
      by (Got v s1) h = (kind_fits p.interfaces k (length s1.table) v far (subst (λ n. IsOfKind n (length s1.table) v) number h.0), h.1.fits)
      by (Stopped place f s1) h = (call_fault at (out-Value target) place f remote h.0, h.1.fits)

  abbrev Holds : Outside → Type 0
  Holds s = TableFits service.classes service.root s.server.table

  abbrev side : Side
  side = InBatch types

  call_answer : (s : Outside) (at : ℕ) (target : Value) (method : List ℕ) (args : List Value) (k : Kind) → types at ≡ Some (Ok k) → (r : Reply Value) → Fine service (Fits p.interfaces [] k) r
      → IsAnswer d side (Invoke at target method args) (with_answer s (answer_of r)).0
  call_answer s at target method args k noted (Got v s1) h = λ m e. let same : k ≡ m = cc (noted, e) in subst (λ n. Fits p.interfaces [] n v) same h.0
  call_answer s at target method args k noted (Stopped place f s1) h = h.0

  left_table : (P : Value → Type 0) (s : Outside) (r : Reply Value) → Fine service P r → Holds (with_answer s (answer_of r)).1
  left_table P s (Got v s1) h = h.1
  left_table P s (Stopped place f s1) h = h.1

  turn_answer : (s : Outside) (q : Question) (r : Reply Value) → ((v : Value) → AnswerGives d side q v) → Fine service (λ (v : Value). Unit {0}) r → IsAnswer d side q (with_answer s (answer_of r)).0
  turn_answer s q (Got v s1) gives h = gives v
  turn_answer s q (Stopped place f s1) gives h = h.0

  answers : (s : Outside) (q : Question) → Holds s → IsAsked d side q → IsAnswer d side q (answers_in_batch p service s q).0
  answers s (Line at bytes) h asked = tt
  answers s (ListTurn at) h asked = by (is_carried_at p at)
    where
      by : (t : Truth) → IsAnswer d side (ListTurn at) (list_turn t at s).0
      by true = turn_answer s (ListTurn at) (unit_of at s.server) (λ v. tt) (unit_fine service at s.server h)
      by false = tt
  answers s (Taken step) h asked = absurd asked
  answers s (Invoke at target method args) h asked =
      call_answer s at target method args asked.kind asked.noted (invoke service.classes at (call_kind p at) (out-Value target) method args s.server)
      (invoke_fine at target method args s.server asked.kind asked.on asked.bounded asked.noted asked.far h)
  answers s (Turn at) h asked = turn_answer s (Turn at) (unit_of at s.server) (λ v. tt) (unit_fine service at s.server h)

  answered : (s : Outside) (q : Question) → Holds s → IsAsked d side q → Holds (answers_in_batch p service s q).1
  answered s (Line at bytes) h asked = h
  answered s (ListTurn at) h asked = by (is_carried_at p at)
    where
      by : (t : Truth) → Holds (list_turn t at s).1
      by true = left_table (λ (v : Value). Unit {0}) s (unit_of at s.server) (unit_fine service at s.server h)
      by false = h
  answered s (Taken step) h asked = absurd asked
  answered s (Invoke at target method args) h asked =
      left_table (Fits p.interfaces [] asked.kind) s (invoke service.classes at (call_kind p at) (out-Value target) method args s.server)
      (invoke_fine at target method args s.server asked.kind asked.on asked.bounded asked.noted asked.far h)
  answered s (Turn at) h asked = left_table (λ (v : Value). Unit {0}) s (unit_of at s.server) (unit_fine service at s.server h)

  pub batch_handler_fits : HandlerFits d side Holds (in_batch p service)
  batch_handler_fits = record {
    answers = answers;
    answered = answered;
    batches = λ s at l b h asked. absurd asked.may;
    performed = λ s at l b h asked. absurd asked.may;
  }
