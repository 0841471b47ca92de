use mir.Facts.{Fits-lt-pow}
use Rattle.rb_json.proofs.Replied.{if_so, spells_so, node_so}
use Rattle.rb_json.proofs.answers.node_of.Goals as goal

pub read_forest-requires : goal.read_forest-requires
read_forest-requires c =
    spells_so c.script_payloads_mean_one_thing.ensures.alone c.forests_have_a_version.ensures.spelled c.args.host.now c.answer.new.host c.args.payload.now c.new-reply.result.items
    c.answer.new.reply.items c.as_slice.result.now c.in_ok-answer.field-0 (λ i. Fits-lt-pow (c.type_inv.payload i)) c.requires.valid c.new-reply.ensures.items c.as_slice.ensures
    c.in_ok-answer.ensures.replies

pub returns-clause-node : goal.returns-clause-node
returns-clause-node c =
    if_so _ _ c.read_forest.result
    (λ root only. node_so c.script_payloads_mean_one_thing.ensures.alone c.forests_have_a_version.ensures.spelled c.args.host.now c.answer.new.host c.args.payload.now c.new-reply.result.items
    c.answer.new.reply.items c.as_slice.result.now c.in_ok-answer.field-0 root (λ i. Fits-lt-pow (c.type_inv.payload i)) c.new-reply.ensures.items c.as_slice.ensures
    c.in_ok-answer.ensures.replies only) c.read_forest.ensures
