use Rattle.std.proofs.Common.{sym, subst}
use Rattle.rb_trees.specs.mirror.Declarations.{mirror_program}
use Rattle.rb_trees.specs.Outcome.{Refused}
use Rattle.rb_trees.specs.Reading.{read_refusal}
use Rattle.rb_meaning_bytes.specs.tokens.Texts.{IsTokens}
use Rattle.rb_meaning_bytes.specs.grammar.Symbols.{TheProgram}
use Rattle.rb_meaning_bytes.specs.grammar.Sources.{ReadSource}
use Rattle.rb_parse.proofs.Joins.{fault_told, tokens_told, lawful_answer}
use Rattle.rb_parse.proofs.source.parse_program.Goals as goal

pub returns-in-Ok-clause-read : goal.returns-in-Ok-clause-read
returns-in-Ok-clause-read c = tokens_told TheProgram mirror_program c.args.source.now _ _ (subst (IsTokens c.args.source.now) (sym c.as_slice.ensures) c.in-Ok.ensures.told) c.parse_tokens.ensures.read

pub returns-in-Err : goal.returns-in-Err
returns-in-Err c = record {
  read = subst (λ e. Refused (ReadSource c.args.source.now) (read_refusal e)) (sym c.refused.ensures) (fault_told TheProgram c.args.source.now c.in-Err.fault c.in-Err.ensures.told);
  lawful = tt;
}

pub returns-in-Ok-clause-lawful : goal.returns-in-Ok-clause-lawful
returns-in-Ok-clause-lawful c = lawful_answer c.args.source.now _ _ (subst (IsTokens c.args.source.now) (sym c.as_slice.ensures) c.in-Ok.ensures.told) c.parse_tokens.ensures.read
