-- What was taken is the frame of the reply.
use Rattle.std.proofs.Common.{◌∙◌, ap, subst, get_or}
use Rattle.rb_meaning_bytes.specs.formats.Fields.{IsBytes}
use Rattle.rb_session.proofs.Replied.{replies}
use Rattle.rb_session.proofs.receiving.receive.Goals as goal

pub returns : goal.returns
returns g c =
    replies c.headers_are_spelled.ensures.frames c.in_ok-taken.taken.items _ _ _ (subst IsBytes c.as_slice.ensures c.kind_of-kind.ensures.bytes) c.in_ok-taken.ensures.whole
    (c.kind_of-kind.ensures.kind ∙ ap (λ xs. get_or xs 2 0) c.as_slice.ensures) c.advance.ensures.items
