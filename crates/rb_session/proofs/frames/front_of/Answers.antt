-- A whole frame is as long as its header announces.
use Rattle.std.proofs.Common.{◌≤◌, ◌+◌, length, sym, subst, arith}
use mir.Facts.{Fits-lt-pow}
use Rattle.rb_meaning.specs.Answers.{longest_request}
use Rattle.rb_meaning.specs.Replies.{header_length, announced}
use Rattle.rb_session.specs.Fronts.{IsWhole}
use Rattle.rb_session.proofs.Framed.{whole_frame}
use Rattle.rb_session.proofs.frames.front_of.Goals as goal

pub returns-else-bytes-size : goal.returns-else-bytes-size
returns-else-bytes-size c =
    let bytes = c.args.bytes.now in
    let same = c.announced-size.ensures in
    let fits : announced bytes ≤ longest_request = omega (arith, same) in
    let long : header_length + announced bytes ≤ length bytes = omega (arith, same) in
    subst (λ n. IsWhole bytes n) (sym same) (whole_frame c.headers_are_spelled.ensures.frames bytes (λ i. Fits-lt-pow (c.type_inv.bytes i)) c.in-None.ensures fits long)
