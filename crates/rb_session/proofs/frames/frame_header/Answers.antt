-- The header is that of its third byte and of the length that it announces.
use Rattle.rb_session.proofs.Framed.{whole_header}
use Rattle.rb_session.proofs.frames.frame_header.Goals as goal

pub returns-in-None-clause-ok : goal.returns-in-None-clause-ok
returns-in-None-clause-ok c =
    whole_header c.headers_are_spelled.ensures.headers c.args.header.now c.announced.result c.fits-header c.told-header c.in-None.ensures c.announced.ensures
