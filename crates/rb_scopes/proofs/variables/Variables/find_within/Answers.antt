use Rattle.std.proofs.Common.{rules, ◌≡◌, take, ◌<◌, ◌≤◌, ℕ, List, Some, sym, arith}
use Rattle.std.specs.Option.{option_copied}
use Rattle.rb_names.specs.Guesses.{first_place}
use Rattle.rb_scopes.proofs.Placed.{names_of, outside}
use Rattle.rb_scopes.proofs.variables.Variables.find_within.Goals as goal

pub returns-else-place-count : goal.returns-else-place-count
returns-else-place-count c =
    let no = c.if-place-count.false in
    let placed : first_place c.args.name.now (names_of c.args.self.now) ≡ Some c.in-Some.place = search rules in
    let past : c.args.count ≤ c.in-Some.place = omega arith in
    sym (outside c.args.self.now c.args.name.now c.in-Some.place c.args.count placed past)
