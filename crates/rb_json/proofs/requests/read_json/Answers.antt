use Rattle.std.proofs.Common.{◌≡◌}
use Rattle.rb_json.proofs.Whole.{read_so, none_so}
use Rattle.rb_json.proofs.requests.read_json.Goals as goal

pub returns-in-Ok-clause-reads : goal.returns-in-Ok-clause-reads
returns-in-Ok-clause-reads c = read_so _ _ c.in-Ok.ensures.ok.0 c.in-Ok.ensures.ok.1

pub returns-in-Syntax-clause-reads : goal.returns-in-Syntax-clause-reads
returns-in-Syntax-clause-reads c = none_so _ (c.in-Err.ensures.err (λ m. let e = c.in-Syntax.ensures.memory.1 m in absurd cc))

pub returns-in-Eof-clause-reads : goal.returns-in-Eof-clause-reads
returns-in-Eof-clause-reads c = none_so _ (c.in-Err.ensures.err (λ m. let e = c.in-Eof.ensures.memory.1 m in absurd cc))
