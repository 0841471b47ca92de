-- What `lex` answers.
use Rattle.std.proofs.Common.{subst, sym, Err}
use Rattle.rb_trees.specs.declared.reading.LexError.TheVariants.{NotUtf8, TooLong}
use Rattle.rb_meaning_bytes.specs.tokens.Texts.{IsRefusal, too_long, not_utf8}
use Rattle.rb_lex.proofs.Places.{told, given, all_told}
use Rattle.rb_lex.proofs.lexing.lex.Goals as goal

pub returns-then-source-gt-LONGEST_TEXT-clause-told : goal.returns-then-source-gt-LONGEST_TEXT-clause-told
returns-then-source-gt-LONGEST_TEXT-clause-told c = too_long c.if-source-gt-LONGEST_TEXT.true

pub returns-then-source-gt-LONGEST_TEXT-clause-only : goal.returns-then-source-gt-LONGEST_TEXT-clause-only
returns-then-source-gt-LONGEST_TEXT-clause-only c = given c.args.source.now (Err (TooLong 1048576)) (too_long c.if-source-gt-LONGEST_TEXT.true)

pub returns-in-Ok-clause-told : goal.returns-in-Ok-clause-told
returns-in-Ok-clause-told c = told c.args.source.now c.tokens.result c.if-source-gt-LONGEST_TEXT.false c.in-Ok.ensures.cases.1 c.tokens.ensures

pub returns-in-Ok-clause-only : goal.returns-in-Ok-clause-only
returns-in-Ok-clause-only c = given c.args.source.now c.tokens.result
    (told c.args.source.now c.tokens.result c.if-source-gt-LONGEST_TEXT.false c.in-Ok.ensures.cases.1 c.tokens.ensures)

pub returns-in-Ok-clause-each_token : goal.returns-in-Ok-clause-each_token
returns-in-Ok-clause-each_token c = all_told c.args.source.now c.tokens.result
    (told c.args.source.now c.tokens.result c.if-source-gt-LONGEST_TEXT.false c.in-Ok.ensures.cases.1 c.tokens.ensures)

pub returns-in-Err-clause-told : goal.returns-in-Err-clause-told
returns-in-Err-clause-told c = subst (λ at. IsRefusal c.args.source.now (NotUtf8 at)) (sym c.valid_up_to.ensures) (not_utf8 _ c.if-source-gt-LONGEST_TEXT.false c.in-Err.ensures.cases.1)

pub returns-in-Err-clause-only : goal.returns-in-Err-clause-only
returns-in-Err-clause-only c = given c.args.source.now (Err (NotUtf8 c.valid_up_to.result))
    (subst (λ at. IsRefusal c.args.source.now (NotUtf8 at)) (sym c.valid_up_to.ensures) (not_utf8 _ c.if-source-gt-LONGEST_TEXT.false c.in-Err.ensures.cases.1))
