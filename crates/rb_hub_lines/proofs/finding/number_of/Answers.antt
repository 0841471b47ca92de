use Rattle.std.proofs.Common.{ap, arith, ◌∙◌}
use Rattle.std.specs.Result.{result_ok}
use Rattle.std.proofs.lemmas.Result.{Ok-from_Ok_iff}
use Rattle.rb_hub_lines.proofs.Found.{number_found}
use Rattle.rb_hub_lines.proofs.finding.number_of.Goals as goal

pub returns : goal.returns
returns c = number_found c.args.word.now c.ok.result c.capped_value.result _ c.capped_value.ensures (omega arith) (λ few. c.ok.ensures.value ∙ ap result_ok (Ok-from_Ok_iff c.try_from.result _ _ c.try_from.ensures few))
