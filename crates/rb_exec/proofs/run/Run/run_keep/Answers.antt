-- The value, what is asked of it, and its entry.
use Rattle.std.proofs.Common.{rules}
use Rattle.std.specs.Prelude.{true}
use Rattle.rb_exec.proofs.Done.{as_step, on_value, on_rule, on_fault, want, kept_value, added_value}
use Rattle.rb_exec.proofs.run.Run.run_keep.Goals as goal

pub returns-in_err-value : goal.returns-in_err-value
returns-in_err-value c = as_step (λ go. kept_value c.args.site.id c.args.site.at true _ _) (on_fault _ c.value.ensures c.in_err-value.was (search rules))

pub returns-in_err-ruled : goal.returns-in_err-ruled
returns-in_err-ruled c =
    as_step (λ go. kept_value c.args.site.id c.args.site.at true _ _)
    (on_value _ c.value.ensures c.in_ok-value.was (on_fault _ (on_rule _ _ _ c.may_keep.ensures c.ruled.ensures) c.in_err-ruled.was (search rules)))

pub returns-in_err-put_entry : goal.returns-in_err-put_entry
returns-in_err-put_entry c = want (search rules) c.in_err-put_entry.ensures.err

pub returns : goal.returns
returns c =
    as_step (λ go. kept_value c.args.site.id c.args.site.at true _ _)
    (on_value _ c.value.ensures c.in_ok-value.was
    (on_value _ (on_rule _ _ _ c.may_keep.ensures c.ruled.ensures) c.in_ok-ruled.was (added_value c.in_ok-value.value c.in_ok-put_entry.ensures.ok)))
