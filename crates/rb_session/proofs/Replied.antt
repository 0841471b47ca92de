-- A whole frame of a reply is the reply.
use Rattle.std.proofs.Common.{◌≡◌, ◌+◌, inl, inr, refl, ap, sym, ◌∙◌, subst, ℕ, zero, suc, true, List, ◌++◌, take, drop, get_or, append-nil, arith, length-drop}
use Rattle.std.specs.Prelude.{◌==◌, ◌||◌}
use Rattle.std.proofs.lemmas.List.{take_all, drop_all}
use Rattle.std.proofs.lemmas.Bool.Decides.{nat_tests}
use Rattle.rb_meaning_bytes.specs.formats.Fields.{IsBytes}
use Rattle.rb_meaning.specs.Answers.{forest_kind, refusal_kind}
use Rattle.rb_meaning.specs.Replies.{header_length, announced}
use Rattle.rb_meaning_frames.specs.Frames.{frame_bytes}
use Rattle.rb_meaning_frames.specs.Laws.{FramesAreWhole}
use Rattle.rb_base.specs.Devices.{Device}
use Rattle.rb_base.specs.Sources.{before_giving}
use Rattle.rb_base.specs.Links.{IsReplyKind}
use Rattle.rb_base.specs.declared.links.Reply.{Reply}
use Rattle.rb_session.specs.Fronts.{is_between}
use Rattle.rb_session.specs.Receiving.{TakesWhole, TakesReply}
use Rattle.rb_session.proofs.Steps.{right_frame}

reply_kind : (kind : ℕ) → (kind == forest_kind) || (kind == refusal_kind) ≡ true → IsReplyKind kind
reply_kind zero h = absurd (cc h)
reply_kind (suc zero) h = absurd (cc h)
reply_kind (suc (suc zero)) h = inl refl
reply_kind (suc (suc (suc zero))) h = inr refl
reply_kind (suc (suc (suc (suc n)))) h = absurd (grind (arith, nat_tests))

-- the frame of the bytes behind the header
framed : FramesAreWhole → (bytes : List ℕ) (first last : Device (List ℕ)) → IsBytes bytes → TakesWhole bytes first last
    → bytes ≡ frame_bytes (get_or bytes 2 0) (drop header_length bytes)
framed law bytes first last are h =
    let header = h.header in
    let whole = h.whole in
    law (is_between 2 3) bytes are (omega arith) (right_frame 3 bytes (λ i less. h.taken.right i (omega arith)))
    ∙ ap (λ rest. frame_bytes (get_or bytes 2 0) (take (announced bytes) (drop header_length bytes)) ++ rest) (drop_all (header_length + announced bytes) bytes (omega arith))
    ∙ append-nil (frame_bytes (get_or bytes 2 0) (take (announced bytes) (drop header_length bytes)))
    ∙ ap (frame_bytes (get_or bytes 2 0)) (take_all (announced bytes) (drop header_length bytes) (omega (arith, length-drop header_length bytes)))

pub replies : FramesAreWhole → (bytes : List ℕ) (first last : Device (List ℕ)) (reply : Reply) → IsBytes bytes → TakesWhole bytes first last
    → reply.kind ≡ get_or bytes 2 0 → reply.payload.items ≡ drop header_length bytes → TakesReply reply first last
replies law bytes first last reply are h kind payload =
    let header = h.header in
    record {
      given = h.taken.given ∙ ap (λ xs. before_giving xs last) (framed law bytes first last are h
          ∙ ap (λ k. frame_bytes k (drop header_length bytes)) (sym kind) ∙ ap (frame_bytes reply.kind) (sym payload));
      kind_is = subst IsReplyKind (sym kind) (reply_kind (get_or bytes 2 0) (h.taken.right 2 (omega arith)));
    }
