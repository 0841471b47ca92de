-- The frame that comes first is taken apart.
use Rattle.std.proofs.Common.{◌≡◌, ◌≤◌, ap, sym, subst, length}
use Rattle.std.specs.Prelude.{slice_get}
use Rattle.rb_meaning.specs.Replies.{header_length}
use Rattle.rb_meaning_frames.specs.Frames.{frame_bytes}
use Rattle.rb_hub.proofs.Asked.{long_enough, parts_so}
use Rattle.rb_hub.proofs.asking.first_reply.Goals as goal

pub reply_of-requires : goal.reply_of-requires
reply_of-requires c =
    let h = c.requires.2 in
    let whole : c.as_slice.result.now ≡ frame_bytes c.requires.0 c.requires.1 =
    cc (c.as_slice.ensures, c.in-Some-Reply.field-0-is, c.in-Some-Reply.frame-is, c.in-Some-Reply.ensures.value, ap (λ os. slice_get os 0) h.is) in
    subst (λ x. header_length ≤ length x) (sym whole) (long_enough c.requires.0 c.requires.1)

pub returns : goal.returns
returns c kind reply h =
    let whole : c.as_slice.result.now ≡ frame_bytes kind reply =
    cc (c.as_slice.ensures, c.in-Some-Reply.field-0-is, c.in-Some-Reply.frame-is, c.in-Some-Reply.ensures.value, ap (λ os. slice_get os 0) h.is) in
    parts_so c.reply_of.result c.as_slice.result.now kind reply whole c.reply_of.ensures.kind c.reply_of.ensures.payload
