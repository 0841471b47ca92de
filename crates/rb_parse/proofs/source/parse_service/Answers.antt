use Rattle.std.proofs.Common.{sym, subst}
use Rattle.rb_trees.specs.mirror.Services.{mirror_service_text}
use Rattle.rb_trees.specs.Outcome.{Refused}
use Rattle.rb_trees.specs.Reading.{read_refusal}
use Rattle.rb_meaning_bytes.specs.tokens.Texts.{IsTokens}
use Rattle.rb_meaning_bytes.specs.grammar.Symbols.{TheService}
use Rattle.rb_meaning_bytes.specs.grammar.Sources.{ReadService}
use Rattle.rb_parse.proofs.Joins.{fault_told, tokens_told, lawful_service_answer, room_answer}
use Rattle.rb_parse.proofs.source.parse_service.Goals as goal

pub returns-in-Ok-clause-read : goal.returns-in-Ok-clause-read
returns-in-Ok-clause-read c = tokens_told TheService mirror_service_text c.args.source.now _ _ (subst (IsTokens c.args.source.now) (sym c.as_slice.ensures) c.in-Ok.ensures.told) c.parse_service_tokens.ensures.read

pub returns-in-Err : goal.returns-in-Err
returns-in-Err c = record {
  read = subst (λ e. Refused (ReadService c.args.source.now) (read_refusal e)) (sym c.refused.ensures) (fault_told TheService c.args.source.now c.in-Err.fault c.in-Err.ensures.told);
  lawful = tt;
  room = tt;
}

pub returns-in-Ok-clause-lawful : goal.returns-in-Ok-clause-lawful
returns-in-Ok-clause-lawful c = lawful_service_answer c.args.source.now _ _ (subst (IsTokens c.args.source.now) (sym c.as_slice.ensures) c.in-Ok.ensures.told) c.parse_service_tokens.ensures.read

pub returns-in-Ok-clause-room : goal.returns-in-Ok-clause-room
returns-in-Ok-clause-room c = room_answer c.args.source.now _ _ (subst (IsTokens c.args.source.now) (sym c.as_slice.ensures) c.in-Ok.ensures.told) c.parse_service_tokens.ensures.read
