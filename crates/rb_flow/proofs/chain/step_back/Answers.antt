use Rattle.std.proofs.Common.{◌≡◌, Some, None, nat_eq, sym, ap, ◌∙◌, subst, rules}
use Rattle.std.specs.Option.{IsSome}
use Rattle.std.specs.HashMap.{get}
use Rattle.rb_flow.specs.Origins.{first_of}
use Rattle.rb_flow.proofs.Law.{step_lower}
use Rattle.rb_flow.proofs.Steps.{read_at, step_there, step_way, found_stands}
use Rattle.rb_flow.proofs.chain.step_back.Goals as goal

pub unwrap-requires : goal.unwrap-requires
unwrap-requires c =
    let is = read_at c.args.writers.now c.args.here.place c.requires.stands.writer c.index-writers-here.result c.requires.stands.is c.index-writers-here.is in
    let some = step_there c.args.writers.now c.args.search.now.levels.items (get nat_eq c.args.search.now.origins) c.args.here c.index-writers-here.result c.requires.guides c.requires.stands is c.requires.further in
    let e : c.first_of.result ≡ Some some.0 = c.first_of.ensures ∙ ap (λ xs. first_of (get nat_eq c.args.search.now.origins) xs None) c.as_slice.ensures ∙ some.1 in
    subst IsSome (sym e) (search rules)

pub returns-clause-stands : goal.returns-clause-stands
returns-clause-stands c =
    found_stands c.args.writers.now c.args.search.now.levels.items (get nat_eq c.args.search.now.origins) c.as_slice.result.now c.unwrap.result c.requires.guides (sym c.first_of.ensures ∙ c.unwrap.ensures)

pub returns-clause-lower : goal.returns-clause-lower
returns-clause-lower c =
    let is = read_at c.args.writers.now c.args.here.place c.requires.stands.writer c.index-writers-here.result c.requires.stands.is c.index-writers-here.is in
    step_lower c.args.writers.now c.args.search.now.levels.items (get nat_eq c.args.search.now.origins) c.args.here c.unwrap.result c.index-writers-here.result c.requires.guides is c.requires.stands.level c.requires.further
    (ap (λ xs. first_of (get nat_eq c.args.search.now.origins) xs None) (sym c.as_slice.ensures) ∙ sym c.first_of.ensures ∙ c.unwrap.ensures)

pub returns-clause-way : goal.returns-clause-way
returns-clause-way c =
    let is = read_at c.args.writers.now c.args.here.place c.requires.stands.writer c.index-writers-here.result c.requires.stands.is c.index-writers-here.is in
    step_way c.args.writers.now c.args.search.now.levels.items (get nat_eq c.args.search.now.origins) c.args.here c.index-writers-here.result c.unwrap.result c.requires.differ c.requires.guides c.requires.stands is c.requires.further
    (ap (λ xs. first_of (get nat_eq c.args.search.now.origins) xs None) (sym c.as_slice.ensures) ∙ sym c.first_of.ensures ∙ c.unwrap.ensures)
