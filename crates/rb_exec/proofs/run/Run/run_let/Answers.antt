-- The value, what is asked of it, its entry, and its binding.
use Rattle.std.proofs.Common.{rules}
use Rattle.std.specs.Option.{option_copied}
use Rattle.rb_exec.proofs.Done.{as_step, on_value, on_rule, on_fault, want, kept_value, bound_kept}
use Rattle.rb_exec.proofs.Entries.{adds_keeps}
use Rattle.rb_exec.proofs.run.Run.run_let.Goals as goal

pub returns-in_err-value : goal.returns-in_err-value
returns-in_err-value c = as_step (λ go. kept_value c.args.site.id c.args.site.at c.args.keep _ _) (on_fault _ c.value.ensures c.in_err-value.was (search rules))

pub returns-in_err-ruled : goal.returns-in_err-ruled
returns-in_err-ruled c =
    as_step (λ go. kept_value c.args.site.id c.args.site.at c.args.keep _ _)
    (on_value _ c.value.ensures c.in_ok-value.was (on_fault _ (on_rule _ _ _ c.may_keep.ensures c.ruled.ensures) c.in_err-ruled.was (search rules)))

pub returns-in_err-put_first : goal.returns-in_err-put_first
returns-in_err-put_first c = want (search rules) c.in_err-put_first.ensures.err

pub returns-in_err-bind : goal.returns-in_err-bind
returns-in_err-bind c = want (search rules) (adds_keeps c.in_ok-put_first.ensures.ok)

pub returns : goal.returns
returns c =
    as_step (λ go. kept_value c.args.site.id c.args.site.at c.args.keep _ _)
    (on_value _ c.value.ensures c.in_ok-value.was
    (on_value _ (on_rule _ _ _ c.may_keep.ensures c.ruled.ensures) c.in_ok-ruled.was
    (bound_kept c.args.keep c.args.variable c.in_ok-value.value (option_copied c.if_kept-kept.result) c.if_kept-kept.ensures c.in_ok-put_first.ensures.ok c.in_ok-bind.ensures.bound)))
