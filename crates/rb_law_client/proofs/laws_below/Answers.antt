-- Each law is one of a crate below.
use Rattle.rb_law_client.proofs.laws_below.Goals as goal

pub returns : goal.returns
returns c = record {
  one = c.operators_keep_types.ensures.one;
  two = c.operators_keep_types.ensures.two;
  left = c.operators_keep_types.ensures.left;
  conditions = c.conditions_have_truths.ensures;
  calls = c.remote_calls_keep_tables.ensures;
  bounded = c.remote_calls_are_typed.ensures.sent;
  given = c.remote_calls_are_typed.ensures.given;
  types_keep = c.typed_code_keeps_types.ensures;
  exprs_formed = c.lawful_code_is_formed.ensures.exprs;
  stmts_formed = c.lawful_code_is_formed.ensures.stmts;
  classes_formed = c.lawful_code_is_formed.ensures.classes;
  sends = c.admitted_programs_send_only_portable_parts.ensures;
  notes = c.lawful_programs_are_noted.ensures;
  marks = c.each_expression_has_its_mark.ensures.there;
  elsewhere = c.each_expression_has_its_mark.ensures.elsewhere;
  loops = c.carried_loops_stand_at_their_positions.ensures;
  parted = c.remote_expressions_stand_as_they_should.ensures;
  placed = c.local_code_is_not_marked_remote.ensures;
  local = c.local_code_does_the_same.ensures;
  batches = c.scopes_of_batches_are_known.ensures.batches;
  turns = c.scopes_of_batches_are_known.ensures.turns;
  types = c.scopes_of_batches_are_known.ensures.types;
  sent = c.sent_expressions_are_remote.ensures;
  faults = c.sent_code_faults_remotely.ensures;
  scripts = c.scripts_perform_remote_parts.ensures;
}
