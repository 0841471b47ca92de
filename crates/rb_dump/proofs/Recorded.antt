-- What is told of the records of a journal, one after the other.
use Rattle.std.proofs.Common.{◌≡◌, ◌+◌, ◌-◌, ℕ, List, [], ◌∷◌, ◌++◌, take, drop, ap, sym, ◌∙◌, subst, arith, drop-drop}
use Rattle.std.specs.Prelude.{Result, Ok, Err, IfOk, OnOk}
use Rattle.rb_meaning_bytes.specs.formats.Fields.{content}
use Rattle.rb_trees.specs.declared.want.Memory.{Memory}
use Rattle.rb_dump.specs.declared.fields.Message.TheVariants.{Script}
use Rattle.rb_dump.specs.declared.journals.Gate.TheVariants.{Open, Closed, Bad}
use Rattle.rb_dump.specs.declared.verdicts.Verdict.{Verdict}
use Rattle.rb_dump.specs.declared.verdicts.Verdict.TheVariants.{Whole, BadRecord}
use Rattle.rb_dump.specs.Journals.{head, TellsRecords, no_gate, no_record, closed, one_more, TellsJournal, is_journal, IsGate}
use Rattle.rb_dump.specs.Leads.{Leads}
use Rattle.rb_dump.specs.Pieces.{Shown}
use Rattle.rb_dump.specs.Verdicts.{Judges, first}
use Rattle.rb_dump.proofs.Led.{first_whole, none_yet, leads_on}

pub records_none_yet : (s : Shown) → Leads TellsRecords s s Whole
records_none_yet s = none_yet TellsRecords s

pub records_lead_on : (before between after : Shown) (u v : Verdict) → Leads TellsRecords before between u → Leads TellsRecords between after v
    → Leads TellsRecords before after (first u v)
records_lead_on before between after u v h k = leads_on TellsRecords before between after u v h k

-- ---- the last gate

closed_told : (at : ℕ) (bytes : List ℕ) → IsGate bytes Closed → TellsRecords at bytes Whole
closed_told at [] h = absurd h
closed_told at (gate ∷ behind) h = closed at gate behind h

bad_told : (at : ℕ) (bytes : List ℕ) → IsGate bytes Bad → TellsRecords at bytes (BadRecord at)
bad_told at [] h = no_gate at
bad_told at (gate ∷ behind) h = subst (λ g. TellsRecords at (g ∷ behind) (BadRecord at)) (sym h.0) (no_record at behind h.1)

pub ends_closed : (before after : Shown) (v : Verdict) → Leads TellsRecords before after v → IsGate (drop after.at after.bytes) Closed
    → TellsRecords before.at (drop before.at before.bytes) v
ends_closed before after v h gate =
    subst (λ w. TellsRecords before.at (drop before.at before.bytes) w) (first_whole v) (h Whole (closed_told after.at (drop after.at after.bytes) gate))

pub ends_bad : (before after : Shown) (v : Verdict) → Leads TellsRecords before after v → IsGate (drop after.at after.bytes) Bad
    → TellsRecords before.at (drop before.at before.bytes) (first v (BadRecord after.at))
ends_bad before after v h gate = h (BadRecord after.at) (bad_told after.at (drop after.at after.bytes) gate)

pub ruleset so_far = (records_none_yet, records_lead_on, ends_closed, ends_bad)

-- ---- a record

record_told : (at : ℕ) (left : List ℕ) (size : ℕ) (found later : Verdict) → IsGate left (Open size) → Judges Script (at + 5) (take size (drop 5 left)) found
    → TellsRecords (at + 5 + size) (drop (5 + size) left) later → TellsRecords at left (first found later)
unfolding content
record_told at [] size found later h judged told = absurd h
record_told at (gate ∷ behind) size found later h judged told =
    let n = h.2 in
    let payload = subst (λ m. Judges Script (at + 5) (take m (drop 4 behind)) found) n (subst (λ l. Judges Script (at + 5) (take size l) found) (sym (drop-drop 4 1 (gate ∷ behind))) judged) in
    let five : drop (5 + size) (gate ∷ behind) ≡ drop (4 + size) behind = ap (λ k. drop k (gate ∷ behind)) (omega arith) ∙ sym (drop-drop (4 + size) 1 (gate ∷ behind)) in
    let rest = subst (λ m. TellsRecords (at + 5 + m) (drop (4 + m) behind) later) n (subst (λ l. TellsRecords (at + 5 + size) l later) five told) in
    subst (λ g. TellsRecords at (g ∷ behind) (first found later)) (sym h.0) (one_more at behind found later h.1 payload rest)

record_found : (before after : Shown) (size : ℕ) (found : Verdict) → IsGate (drop before.at before.bytes) (Open size) → after.bytes ≡ before.bytes
    → after.at ≡ before.at + 5 + size → Judges Script (before.at + 5) (take size (drop (before.at + 5) before.bytes)) found → Leads TellsRecords before after found
record_found before after size found gate same ends judged later told =
    let left = drop before.at before.bytes in
    let rest : drop after.at after.bytes ≡ drop (5 + size) left =
    ap (λ l. drop after.at l) same ∙ ap (λ n. drop n before.bytes) (omega arith) ∙ sym (drop-drop (5 + size) before.at before.bytes) in
    let others = subst (λ n. TellsRecords n (drop (5 + size) left) later) ends (subst (λ l. TellsRecords after.at l later) rest told) in
    let here = subst (λ l. Judges Script (before.at + 5) (take size l) found) (sym (drop-drop 5 before.at before.bytes)) judged in
    record_told before.at left size found later gate here others

pub record_leads : (before between after : Shown) (size end : ℕ) (result : Result Verdict Memory) → IsGate (drop before.at before.bytes) (Open size)
    → between.bytes ≡ before.bytes → between.at ≡ before.at + 5 → end ≡ between.at + size → after.bytes ≡ between.bytes → OnOk result (after.at ≡ end)
    → IfOk result (Judges Script between.at (take (end - between.at) (drop between.at between.bytes))) → IfOk result (Leads TellsRecords before after)
record_leads before between after size end (Err e) gate same begins ends kept at_end judged = tt
record_leads before between after size end (Ok found) gate same begins ends kept at_end judged =
    let long : end - between.at ≡ size = omega arith in
    let of_size = subst (λ n. Judges Script between.at (take n (drop between.at between.bytes)) found) long judged in
    let of_bytes = subst (λ l. Judges Script between.at (take size (drop between.at l)) found) same of_size in
    let here = subst (λ n. Judges Script n (take size (drop n before.bytes)) found) begins of_bytes in
    record_found before after size found gate (kept ∙ same) (omega arith) here

-- ---- all bytes

pub journal_told : (bytes : List ℕ) (gate : ℕ) (behind : List ℕ) (at : ℕ) (result : Result Verdict Memory) → bytes ≡ head ++ gate ∷ behind → at ≡ 4
    → IfOk result (TellsRecords at (drop at bytes)) → IfOk result (TellsJournal bytes)
journal_told bytes gate behind at (Err e) is four told = tt
journal_told bytes gate behind at (Ok found) is four told =
    let records = subst (λ l. TellsRecords 4 (drop 4 l) found) is (subst (λ n. TellsRecords n (drop n bytes) found) four told) in
    subst (λ l. TellsJournal l found) (sym is) (is_journal gate behind found records)
