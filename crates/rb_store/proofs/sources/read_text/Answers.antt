use Rattle.std.proofs.Common.{subst}
use Rattle.rb_trees.specs.Outcome.{Refused}
use Rattle.rb_trees.specs.Reading.{read_refusal}
use Rattle.rb_meaning_bytes.specs.grammar.Sources.{ReadService}
use Rattle.rb_meaning.specs.ServiceSources.{unread}
use Rattle.rb_store.proofs.sources.read_text.Goals as goal

pub returns-in-Err-Lex-clause-read : goal.returns-in-Err-Lex-clause-read
returns-in-Err-Lex-clause-read c = unread (subst (λ e. Refused (ReadService c.args.source.now) (read_refusal e)) c.in-Err-Lex.field-0-is c.in-Err-Lex.ensures.read)

pub returns-in-Err-Unexpected-clause-read : goal.returns-in-Err-Unexpected-clause-read
returns-in-Err-Unexpected-clause-read c = unread (subst (λ e. Refused (ReadService c.args.source.now) (read_refusal e)) c.in-Err-Unexpected.field-0-is c.in-Err-Unexpected.ensures.read)

pub returns-in-Err-TooNested-clause-read : goal.returns-in-Err-TooNested-clause-read
returns-in-Err-TooNested-clause-read c = unread (subst (λ e. Refused (ReadService c.args.source.now) (read_refusal e)) c.in-Err-TooNested.field-0-is c.in-Err-TooNested.ensures.read)
