use Rattle.std.proofs.Common.{rules, ◌≡◌, ◌+◌, length, map, take, refl, ap, ◌∙◌}
use Rattle.std.specs.Prelude.{slice_set}
use Rattle.rb_trees.specs.mirror.Declarations.{mirror_param}
use Rattle.rb_meaning_code.specs.Calls.{names_within}
use Rattle.rb_meaning_code.specs.State.{this_name}
use Rattle.rb_engine.specs.Slots.{renamed}
use Rattle.rb_engine.proofs.Slotted.{framed}
use Rattle.rb_engine.proofs.args.Args.into_frame.Goals as goal

pub returns : goal.returns
returns c =
    let named : c.name_slots.new.slots ≡ renamed (map mirror_param c.args.params.now) c.self.inside.slots = search rules in
    let first : c.set_first.new.slots ≡ slice_set c.name_slots.new.slots 0 (this_name, c.args.receiver.now) = search rules in
    let kept : c.of-2.result ≡ take (length c.args.params.now + 1) c.set_first.new.slots = search rules in
    kept ∙ ap (take (length c.args.params.now + 1)) first ∙ framed c.args.receiver.now c.args.params.now c.self.inside.slots c.name_slots.new.slots (length c.args.params.now + 1) c.self.invariant named refl
    ∙ ap (names_within c.args.receiver.now (map mirror_param c.args.params.now)) c.self.view_is
