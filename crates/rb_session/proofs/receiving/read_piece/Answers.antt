-- The buffer keeps its bytes, and a front of what was read behind them.
use Rattle.std.proofs.Common.{arith}
use Rattle.rb_session.proofs.Pieces.{gains}
use Rattle.rb_session.proofs.receiving.read_piece.Goals as goal

pub returns-in-Ok-clause-reads : goal.returns-in-Ok-clause-reads
returns-in-Ok-clause-reads g c =
    gains _ _ _ c.min.result _ _ _ _ _ _ _ _ _ c.len-before.ensures.value (omega arith) c.in_ok-make_room.ensures.ok c.as_mut_slice.ensures.value c.read.auto.into
    c.in-Ok.ensures.within c.truncate.ensures.items c.in-Ok.ensures.after
