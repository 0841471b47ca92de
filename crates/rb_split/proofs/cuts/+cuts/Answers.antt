use Rattle.std.proofs.Common.{sym, ◌∙◌}
use Rattle.rb_split.proofs.CutForms.{taken_so}
use Rattle.rb_split.proofs.cuts.+cuts.Goals as goal

pub cut-returns-then-is_portable_call-clause-cut : goal.cut-returns-then-is_portable_call-clause-cut
cut-returns-then-is_portable_call-clause-cut t c =
    taken_so _ _ _ c.args.e.now c.taken.result (sym c.is_portable_call.ensures ∙ c.if-is_portable_call.true) c.taken.ensures.taken
