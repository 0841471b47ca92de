-- By the laws that the body names.
use Rattle.rb_law_division.proofs.Nodes.{nodes_fit}
use Rattle.rb_law_division.proofs.nodes_of_scripts_fit.Goals as goal

pub returns : goal.returns
returns c = nodes_fit
    (record {
      one = c.operators_keep_types.ensures.one;
      two = c.operators_keep_types.ensures.two;
      left = c.operators_keep_types.ensures.left;
      calls = c.remote_calls_keep_tables.ensures;
      sent = c.remote_calls_are_typed.ensures.sent;
      given = c.remote_calls_are_typed.ensures.given;
    })
    c.conditions_have_truths.ensures c.lawful_code_is_formed.ensures.exprs c.lawful_code_is_formed.ensures.stmts c.lawful_code_is_formed.ensures.classes c.typed_code_keeps_types.ensures
    c.admitted_programs_send_only_portable_parts.ensures c.lawful_programs_are_noted.ensures
