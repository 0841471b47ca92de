-- By the laws that the body names.
use Rattle.rb_law_script.proofs.Law.{scripts_perform}
use Rattle.rb_law_script.proofs.scripts_perform_remote_parts.Goals as goal

pub returns : goal.returns
returns c = scripts_perform
    (record {
      one = c.operators_keep_types.ensures.one;
      two = c.operators_keep_types.ensures.two;
      left = c.operators_keep_types.ensures.left;
      calls = c.remote_calls_keep_tables.ensures;
      sent = c.remote_calls_are_typed.ensures.sent;
      given = c.remote_calls_are_typed.ensures.given;
    })
    c.lawful_code_is_formed.ensures.stmts c.lawful_code_is_formed.ensures.classes c.admitted_programs_send_only_portable_parts.ensures c.lawful_programs_are_noted.ensures
