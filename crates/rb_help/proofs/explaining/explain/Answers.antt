use Rattle.std.proofs.Common.{ap, subst, ◌∙◌}
use Rattle.rb_help.specs.Headings.{named}
use Rattle.rb_help.specs.Positions.{positions_of}
use Rattle.rb_help.specs.Quotes.{Quotes}
use Rattle.rb_help.proofs.Quoting.{quotes-whole}
use Rattle.rb_help.proofs.explaining.explain.Goals as goal

pub returns : goal.returns
returns c =
    let sheet = c.in_ok-sheet.ensures ∙ ap (λ text. named c.args.name.now text) c.in_ok-places.ensures in
    quotes-whole (named c.args.name.now c.args.source.now) c.as_slice.result.now (positions_of c.args.trouble.now) c.in_ok-text.text c.as_slice-2.result.now c.extend_from_slice.new.self (c.as_slice.ensures ∙ c.in_ok-ats.ensures) c.in_ok-extend_from_slice.ensures.ok (subst (λ s. Quotes s c.as_slice.result.now c.in_ok-text.text) sheet c.in_ok-text.ensures)
