-- A whole frame is as long as its header announces.
use Rattle.std.proofs.Common.{◌≤◌, ◌+◌, length, get_or, refl, sym, subst, arith}
use mir.Facts.{Fits-lt-pow}
use Rattle.rb_meaning.specs.Replies.{header_length, announced}
use Rattle.rb_dump.specs.Streams.{IsWhole}
use Rattle.rb_dump.proofs.Told.{whole_front}
use Rattle.rb_dump.proofs.frames.right_front.Goals as goal

pub returns : goal.returns
returns c =
    let bytes = c.args.bytes.now in
    let same = c.announced-size.ensures in
    let long : header_length + announced bytes ≤ length bytes = omega (arith, same) in
    subst (λ n. IsWhole bytes (get_or bytes 2 0) n) (sym same)
    (whole_front c.headers_are_spelled.ensures.frames bytes (get_or bytes 2 0) (announced bytes) (λ i. Fits-lt-pow (c.type_inv.bytes i)) c.requires.right refl refl long)
