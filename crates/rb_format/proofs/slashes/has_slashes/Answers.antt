use Rattle.std.proofs.Common.{sym, ◌∙◌}
use Rattle.rb_format.proofs.Found.{found}
use Rattle.rb_format.proofs.slashes.has_slashes.Goals as goal

pub returns : goal.returns
returns c =
    let parts = found c.args.text.now _ c.find.result c.find.ensures in
    (λ is. parts.0 (sym c.is_some.ensures ∙ is), λ has. c.is_some.ensures ∙ parts.1 has)
