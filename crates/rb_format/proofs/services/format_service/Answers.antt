use Rattle.std.proofs.Common.{◌≡◌, true, false, sym, ◌∙◌, rules}
use Rattle.std.proofs.lemmas.Bool.{false≢true}
use Rattle.rb_format.proofs.ServiceLaws.{printed_lays_out, woven_lays_out}
use Rattle.rb_format.proofs.services.format_service.Goals as goal

pub returns-then-not-has_slashes-clause-laid_out : goal.returns-then-not-has_slashes-clause-laid_out
returns-then-not-has_slashes-clause-laid_out c =
    let none : c.has_slashes.result ≡ false = search rules in
    printed_lays_out c.printed_tables_read_back.ensures c.read_services_have_read_classes.ensures c.args.source.now c.in_ok-printed.printed
    (λ has. absurd (false≢true (sym none ∙ c.has_slashes.ensures.1 has))) c.in_ok-printed.ensures.printed

pub returns-then-branch-clause-laid_out : goal.returns-then-branch-clause-laid_out
returns-then-branch-clause-laid_out c =
    let has : c.has_slashes.result ≡ true = search rules in
    woven_lays_out c.printed_tables_read_back.ensures c.read_services_have_read_classes.ensures c.sources_have_one_outcome_as_services.ensures
    c.args.source.now c.in_ok-woven.woven c.in_ok-printed.printed
    (c.has_slashes.ensures.0 has) c.in_ok-printed.ensures.printed
    (rw (c.as_slice-then-placed.ensures, c.as_slice-then-placed-2.ensures) at (c.in_ok-prints_as.ensures c.if-branch.true))
    (rw (c.as_slice-3.ensures, c.as_slice-4.ensures) at (c.is_woven-placed.ensures c.if-placed.true))
