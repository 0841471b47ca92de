use Rattle.std.proofs.Common.{◌∙◌, ◌+◌, ◌++◌, ap, refl, take, arith}
use Rattle.rb_meaning_bytes.specs.tokens.Texts.{longest_text}
use Rattle.rb_top.proofs.WholeTexts.{read_whole, read_front}
use Rattle.rb_top.proofs.loading.load_text.Goals as goal

pub returns-then-len-gt-LONGEST_TEXT : goal.returns-then-len-gt-LONGEST_TEXT
returns-then-len-gt-LONGEST_TEXT g c =
    let found = c.in-Ok.ensures.read in
    let e = found.2 ∙ ap (λ l. l ++ take (longest_text + 1) found.0) c.new-text.ensures.items in
    let i = c.if-len-gt-LONGEST_TEXT.true in
    let l = c.len.ensures.value in
    ((found.0, found.1, read_front longest_text refl found.0 c.read.new.into.items e (omega arith)), c.in-Ok.ensures.after)

pub returns : goal.returns
returns g c =
    let found = c.in-Ok.ensures.read in
    let e = found.2 ∙ ap (λ l. l ++ take (longest_text + 1) found.0) c.new-text.ensures.items in
    let i = c.if-len-gt-LONGEST_TEXT.false in
    let l = c.len.ensures.value in
    ((read_whole longest_text _ c.args.name.now found.0 c.read.new.into.items found.1 e (omega arith), omega arith), c.in-Ok.ensures.after)
