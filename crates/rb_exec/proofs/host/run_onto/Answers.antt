-- The body of the script is run with the fuel of a batch.
use Rattle.std.proofs.Common.{sym, ap, ◌∙◌, ◌++◌, take}
use Rattle.rb_meaning_bytes.specs.formats.ForestBytes.{forest_bytes}
use Rattle.rb_wire_fields.proofs.Kept.{take_kept}
use Rattle.rb_exec.proofs.Hosted.{host_run}
use Rattle.rb_exec.proofs.host.run_onto.Goals as goal

pub returns-clause-forest : goal.returns-clause-forest
returns-clause-forest c =
    c.in_default.ensures.forest
    ∙ ap (λ r. c.args.bytes.now.items ++ forest_bytes c.args.version r.node)
    (host_run c.args.host.now c.args.script.now c.args.inputs.now c.host.inside.code c.host.inside.root c.host.inside.server.table c.refuel.new.self (sym c.host.view_is) c.refuel.ensures)

pub returns-clause-table : goal.returns-clause-table
returns-clause-table c =
    ap (λ s. s.table) c.in_default.ensures.server
    ∙ ap (λ r. r.server.table)
    (host_run c.args.host.now c.args.script.now c.args.inputs.now c.host.inside.code c.host.inside.root c.host.inside.server.table c.refuel.new.self (sym c.host.view_is) c.refuel.ensures)

pub returns-in-Err-clause-unchanged : goal.returns-in-Err-clause-unchanged
returns-in-Err-clause-unchanged c =
    c.truncate.ensures.items ∙ ap (λ n. take n c.run_body.new.bytes.items) c.len-len.ensures.value ∙ take_kept _ _ c.in-Err.ensures.kept
