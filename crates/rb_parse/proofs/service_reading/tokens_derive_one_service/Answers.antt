use Rattle.rb_meaning_bytes.specs.grammar.Symbols.{TheService}
use Rattle.rb_parse.proofs.Prefixes.{one_tree}
use Rattle.rb_parse.proofs.service_reading.tokens_derive_one_service.Goals as goal

pub returns : goal.returns
returns c = λ source tokens one other h k. one_tree TheService source tokens one other h k
