use Rattle.std.proofs.Common.{◌≡◌, Some, None, sym, ap, ◌∙◌, subst, rules}
use Rattle.std.specs.Option.{IsSome}
use Rattle.rb_flow.specs.Origins.{least_of}
use Rattle.rb_flow.proofs.Steps.{read_at, source_there, source_way}
use Rattle.rb_flow.proofs.chain.source_of.Goals as goal

pub unwrap-requires : goal.unwrap-requires
unwrap-requires c =
    let is = read_at c.args.writers.now c.args.here.place c.requires.stands.writer c.index-writers-here.result c.requires.stands.is c.index-writers-here.is in
    let some = source_there c.args.writers.now c.args.search.now.levels.items _ c.args.here c.index-writers-here.result c.requires.guides c.requires.stands is c.requires.first in
    let e : c.least_of.result ≡ Some some.0 = c.least_of.ensures ∙ ap (λ xs. least_of xs None) c.as_slice.ensures ∙ some.1 in
    subst IsSome (sym e) (search rules)

pub returns : goal.returns
returns c =
    let is = read_at c.args.writers.now c.args.here.place c.requires.stands.writer c.index-writers-here.result c.requires.stands.is c.index-writers-here.is in
    source_way c.args.writers.now c.args.here c.index-writers-here.result c.unwrap.result is c.requires.first
    (ap (λ xs. least_of xs None) (sym c.as_slice.ensures) ∙ sym c.least_of.ensures ∙ c.unwrap.ensures)
