-- All typed code.
use Rattle.rb_law_types.proofs.Bodies.{types_keep}
use Rattle.rb_law_types.proofs.code.typed_code_keeps_types.Goals as goal

pub returns : goal.returns
returns c = types_keep
