use Rattle.rb_meaning_bytes.proofs.formats.CodeSizes.{block_sized}
use Rattle.rb_meaning_bytes.proofs.laws.the_code_has_its_size.Goals as goal

pub returns : goal.returns
returns c code h = block_sized code h
