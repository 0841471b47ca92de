-- The node of a script that was sent has a spelling, which was appended, and the host stays typed.
use Rattle.std.proofs.Common.{ap, ◌∙◌, ◌++◌}
use Rattle.rb_meaning_bytes.specs.formats.ForestBytes.{forest_bytes}
use Rattle.rb_session.specs.Readings.{Request, sent_of, request}
use Rattle.rb_session.proofs.Sent.{node_appended, stays_typed, as_lent, performs_so}
use Rattle.rb_session.proofs.answers.perform.Goals as goal

pub returns-clause-performs : goal.returns-clause-performs
returns-clause-performs c =
    let r : Request = request c.ready.inside.version c.ready.inside.script c.ready.inside.inputs in
    let lent = as_lent c.args.host.now r c.as_slice-inputs.result.now c.as_slice-inputs.ensures in
    performs_so c.args.host.now c.run_onto.new.host r c.args.ready c.args.reply.now.items c.run_onto.new.bytes.items c.ready.view_is
    (record {
      gains = node_appended c.scripts_keep_tables.ensures c.lawful_code_is_formed.ensures.classes c.each_forest_has_one_spelling.ensures c.args.host.now (sent_of r)
          c.args.reply.now.items c.run_onto.new.bytes.items c.requires c.ready.invariant
          (c.in_ok-run_onto.ensures.forest ∙ ap (λ x. c.args.reply.now.items ++ forest_bytes r.version x.node) lent);
      table = c.in_ok-run_onto.ensures.table ∙ ap (λ x. x.server.table) lent;
    })

pub returns-clause-typed : goal.returns-clause-typed
returns-clause-typed c =
    let r : Request = request c.ready.inside.version c.ready.inside.script c.ready.inside.inputs in
    let lent = as_lent c.args.host.now r c.as_slice-inputs.result.now c.as_slice-inputs.ensures in
    stays_typed c.scripts_keep_tables.ensures c.lawful_code_is_formed.ensures.classes c.args.host.now c.run_onto.new.host (sent_of r)
    c.requires c.ready.invariant c.in_ok-run_onto.ensures.service (c.in_ok-run_onto.ensures.table ∙ ap (λ x. x.server.table) lent)
