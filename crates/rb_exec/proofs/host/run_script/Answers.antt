-- The forest that was appended is read back.
use Rattle.std.proofs.Common.{ap, ◌∙◌, ◌++◌}
use Rattle.rb_trees.specs.declared.versions.Version.TheVariants.{Two}
use Rattle.rb_exec.specs.Hosts.{forest_of, script_run}
use Rattle.rb_exec.proofs.ReadBack.{read_back}
use Rattle.rb_exec.proofs.host.run_script.Goals as goal

pub returns-in-Ok-clause-node : goal.returns-in-Ok-clause-node
returns-in-Ok-clause-node c =
    read_back Two (c.each_forest_has_one_spelling.ensures Two) (c.forests_have_a_version.ensures.spelled Two)
    (script_run c.args.host.now c.args.script.now c.args.inputs.now).node c.as_slice.result.now c.in-Ok.node c.requires
    (c.as_slice.ensures ∙ c.in_ok-run_into.ensures.forest ∙ ap (λ xs. xs ++ forest_of Two c.args.host.now c.args.script.now c.args.inputs.now) c.new-bytes.ensures) c.in-Ok.ensures.only
