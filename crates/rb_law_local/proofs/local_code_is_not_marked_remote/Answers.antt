-- By the marks, expression by expression.
use Rattle.rb_law_local.proofs.Marked.{admitted_are_placed}
use Rattle.rb_law_local.proofs.local_code_is_not_marked_remote.Goals as goal

pub returns : goal.returns
returns c = admitted_are_placed
