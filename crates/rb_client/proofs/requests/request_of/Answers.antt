use Rattle.std.proofs.Common.{rules, sym, ap, subst, ◌∙◌}
use Rattle.rb_trees.specs.mirror.Scripts.{mirror_script}
use Rattle.rb_meaning_split.specs.Client.{input_values}
use Rattle.rb_client.specs.Requests.{AreFor}
use Rattle.rb_client.proofs.Requested.{are_inputs}
use Rattle.rb_client.proofs.requests.request_of.Goals as goal

pub encode_script-requires-clause-inputs : goal.encode_script-requires-clause-inputs
encode_script-requires-clause-inputs c =
    are_inputs (mirror_script c.args.split.now.script) c.as_slice-4.result.now c.args.split.now.inputs c.args.frame.now
    (c.as_slice-4.ensures ∙ c.in_ok-values.ensures ∙ ap (λ xs. input_values xs c.args.frame.now) c.as_slice.ensures) c.requires.counted c.requires.few
    (subst (λ lists. AreFor 0 lists c.as_slice-4.result.now) c.as_slice-3.ensures
    (subst (AreFor 0 c.as_slice-3.result.now) (c.as_slice-2.ensures ∙ sym c.as_slice-4.ensures) (c.are_inputs.ensures (search rules))))
