use Rattle.std.proofs.Common.{rules, ◌≡◌, Some, None, ◌+◌, ◌<◌, ◌≤◌, length, take, sym}
use Rattle.rb_names.specs.Guesses.{first_place as place_named}
use Rattle.rb_engine.specs.Places.{first_place}
use Rattle.rb_engine.proofs.Indexed.{place_after, place_within}
use Rattle.rb_engine.proofs.later.Later.place_of.Goals as goal

pub overflow_add-result : goal.overflow_add-result
overflow_add-result c =
    let found : place_named c.args.name.now c.args.self.now.names ≡ Some c.in-Some-find.place = search rules in
    let many : c.args.self.now.first ≤ length c.args.names.now = search rules in
    let within : c.args.self.now.first + c.in-Some-find.place < length c.args.names.now = place_within c.args.self.now.first c.args.names.now c.args.self.now.names c.args.name.now c.in-Some-find.place c.requires found many in
    search rules

pub returns-in-Some-find : goal.returns-in-Some-find
returns-in-Some-find c =
    let before : first_place (take c.args.self.now.first c.args.names.now) c.args.name.now ≡ None = search rules in
    let found : place_named c.args.name.now c.args.self.now.names ≡ Some c.in-Some-find.place = search rules in
    sym (place_after c.args.self.now.first c.args.names.now c.args.name.now c.args.self.now.names (Some c.in-Some-find.place) before c.requires found)

pub returns-in-None-find : goal.returns-in-None-find
returns-in-None-find c =
    let before : first_place (take c.args.self.now.first c.args.names.now) c.args.name.now ≡ None = search rules in
    let found : place_named c.args.name.now c.args.self.now.names ≡ None = search rules in
    sym (place_after c.args.self.now.first c.args.names.now c.args.name.now c.args.self.now.names None before c.requires found)
