-- The ends of the first session that comes.
use Rattle.std.proofs.Common.{arith}
use Rattle.std.proofs.lemmas.Grind.{common_steps}
use Rattle.rb_base.proofs.memory_listen.MemoryListenListen.next.Goals as goal

pub returns : goal.returns
returns c = record {
  gives = (
    grind (arith, common_steps),
    record {
      first = c.in-Some.session.now;
      was_first = grind (arith, common_steps);
      ends_are = grind (arith, common_steps);
      is = grind (arith, common_steps);
    },
  );
}
