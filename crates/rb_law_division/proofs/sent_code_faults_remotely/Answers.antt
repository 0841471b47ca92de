-- By the laws that the body names.
use Rattle.rb_law_division.proofs.RemoteFaults.{sent_remote}
use Rattle.rb_law_division.proofs.sent_code_faults_remotely.Goals as goal

pub returns : goal.returns
returns c = sent_remote
    (record {
      one = c.operators_keep_types.ensures.one;
      two = c.operators_keep_types.ensures.two;
      left = c.operators_keep_types.ensures.left;
      calls = c.remote_calls_keep_tables.ensures;
      sent = c.remote_calls_are_typed.ensures.sent;
      given = c.remote_calls_are_typed.ensures.given;
    })
    c.lawful_code_is_formed.ensures.classes c.each_expression_has_its_mark.ensures.there
