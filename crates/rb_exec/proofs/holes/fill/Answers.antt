-- The bytes that were lent, with the count over them.
use Rattle.rb_exec.proofs.Patched.{filled_back}
use Rattle.rb_exec.proofs.holes.fill.Goals as goal

pub returns : goal.returns
returns c = filled_back c.args.at c.args.count c.args.bytes.now.items _ _ c.as_mut_slice.ensures.value c.put_over.ensures c.requires
