-- What is told of frames, one after the other.
use Rattle.std.proofs.Common.{◌≡◌, ◌+◌, ◌-◌, ◌≤◌, ℕ, true, List, [], ◌++◌, length, take, drop, get_or, ap, sym, ◌∙◌, subst, arith, length-take, length-drop, drop-drop}
use Rattle.std.specs.Prelude.{Result, Ok, Err, IfOk, OnOk}
use Rattle.std.proofs.Math.ListN.{drop_of_length-le}
use Rattle.rb_meaning_bytes.specs.formats.Fields.{IsBytes}
use Rattle.rb_meaning.specs.Replies.{header_length, announced}
use Rattle.rb_meaning_frames.specs.Frames.{frame_bytes, is_kind, may_stand, IsRightBefore}
use Rattle.rb_meaning_frames.specs.Laws.{FramesAreWhole}
use Rattle.rb_trees.specs.declared.want.Memory.{Memory}
use Rattle.rb_dump.specs.declared.fields.Message.{Message}
use Rattle.rb_dump.specs.declared.verdicts.Verdict.{Verdict}
use Rattle.rb_dump.specs.declared.verdicts.Verdict.TheVariants.{Whole}
use Rattle.rb_dump.specs.Pieces.{Shown}
use Rattle.rb_dump.specs.Leads.{Leads}
use Rattle.rb_dump.specs.Streams.{message_of, Tells, no_more, one_more, IsWhole}
use Rattle.rb_dump.specs.Verdicts.{Judges, first}
use Rattle.rb_dump.proofs.Led.{first_whole, none_yet, leads_on}

-- ---- what was found so far

pub frames_none_yet : (s : Shown) → Leads Tells s s Whole
frames_none_yet s = none_yet Tells s

pub frames_lead_on : (before between after : Shown) (u v : Verdict) → Leads Tells before between u → Leads Tells between after v
    → Leads Tells before after (first u v)
frames_lead_on before between after u v h k = leads_on Tells before between after u v h k

pub ruleset so_far = (frames_none_yet, frames_lead_on)

pub all_told : (before after : Shown) (v : Verdict) → before.at ≡ 0 → after.at ≡ length after.bytes → Leads Tells before after v → Tells 0 before.bytes v
all_told before after v begins ends h =
    let none : drop after.at after.bytes ≡ [] = drop_of_length-le after.bytes (omega arith) in
    let told : Tells after.at (drop after.at after.bytes) Whole = subst (λ l. Tells after.at l Whole) (sym none) (no_more after.at) in
    let all = subst (λ n. Tells n (drop n before.bytes) (first v Whole)) begins (h Whole told) in
    subst (λ w. Tells 0 before.bytes w) (first_whole v) all

-- ---- what is found next

frame_leads : (before after : Shown) (kind size : ℕ) (found : Verdict) → IsWhole (drop before.at before.bytes) kind size → after.bytes ≡ before.bytes
    → after.at ≡ before.at + header_length + size
    → Judges (message_of kind) (before.at + header_length) (take size (drop (before.at + header_length) before.bytes)) found → Leads Tells before after found
frame_leads before after kind size found whole same ends judged later told =
    let left = drop before.at before.bytes in
    let payload = take size (drop header_length left) in
    let behind = drop (header_length + size) left in
    let there = whole.there in
    let long : length payload ≡ size = omega (arith, length-take size (drop header_length left), length-drop header_length left) in
    let rest : drop after.at after.bytes ≡ behind =
    ap (λ l. drop after.at l) same ∙ ap (λ n. drop n before.bytes) (omega arith) ∙ sym (drop-drop (header_length + size) before.at before.bytes) in
    let at_end : after.at ≡ before.at + header_length + length payload = omega arith in
    let others : Tells (before.at + header_length + length payload) behind later = subst (λ n. Tells n behind later) at_end (subst (λ l. Tells after.at l later) rest told) in
    let here : Judges (message_of kind) (before.at + header_length) payload found =
    subst (λ l. Judges (message_of kind) (before.at + header_length) (take size l) found) (sym (drop-drop header_length before.at before.bytes)) judged in
    let all = one_more before.at kind payload behind found later whole.kind_is here others in
    subst (λ l. Tells before.at l (first found later)) (sym whole.is) all

-- a whole frame, whose payload was shown
pub whole_leads : (before between after : Shown) (kind size end : ℕ) (message : Message) (result : Result Verdict Memory) → IsWhole (drop before.at before.bytes) kind size
    → message ≡ message_of kind → between.bytes ≡ before.bytes → between.at ≡ before.at + header_length → end ≡ between.at + size
    → after.bytes ≡ between.bytes → OnOk result (after.at ≡ end)
    → IfOk result (Judges message between.at (take (end - between.at) (drop between.at between.bytes))) → IfOk result (Leads Tells before after)
whole_leads before between after kind size end message (Err e) whole of_kind same begins ends kept at_end judged = tt
whole_leads before between after kind size end message (Ok found) whole of_kind same begins ends kept at_end judged =
    let first_kind = subst (λ m. Judges m between.at (take (end - between.at) (drop between.at between.bytes)) found) of_kind judged in
    let long : end - between.at ≡ size = omega arith in
    let of_size = subst (λ n. Judges (message_of kind) between.at (take n (drop between.at between.bytes)) found) long first_kind in
    let of_bytes = subst (λ l. Judges (message_of kind) between.at (take size (drop between.at l)) found) same of_size in
    let here = subst (λ n. Judges (message_of kind) n (take size (drop n before.bytes)) found) begins of_bytes in
    frame_leads before after kind size found whole (kept ∙ same) (omega arith) here

-- ---- what stands at the front

right_less : (k n : ℕ) (bytes : List ℕ) → k ≤ n → IsRightBefore is_kind n bytes → IsRightBefore is_kind k bytes
right_less k n bytes le right i lt = right i (omega arith)

pub whole_front : FramesAreWhole → (bytes : List ℕ) (kind size : ℕ) → IsBytes bytes → IsRightBefore is_kind (length bytes) bytes → get_or bytes 2 0 ≡ kind
    → announced bytes ≡ size → header_length + size ≤ length bytes → IsWhole bytes kind size
whole_front frames bytes kind size bb right third said long =
    let there : header_length + announced bytes ≤ length bytes = omega arith in
    let is = frames is_kind bytes bb there (right_less 3 (length bytes) bytes (omega arith) right) in
    let of_kind : may_stand is_kind 2 (get_or bytes 2 0) ≡ true = right 2 (omega arith) in
    record {
      kind_is = subst (λ k. is_kind k ≡ true) third of_kind;
      there = long;
      is = subst (λ n. bytes ≡ frame_bytes kind (take n (drop header_length bytes)) ++ drop (header_length + n) bytes) said
          (subst (λ k. bytes ≡ frame_bytes k (take (announced bytes) (drop header_length bytes)) ++ drop (header_length + announced bytes) bytes) third is);
    }
