use Rattle.rb_meaning_bytes.specs.grammar.Symbols.{TheProgram}
use Rattle.rb_parse.proofs.Prefixes.{one_tree}
use Rattle.rb_parse.proofs.reading.tokens_derive_one_program.Goals as goal

pub returns : goal.returns
returns c = λ source tokens one other h k. one_tree TheProgram source tokens one other h k
