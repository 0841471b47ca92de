use Rattle.std.proofs.Common.{is_some, ◌∙◌, ap}
use Rattle.rb_wire_forest.specs.Opens.{all_open}
use Rattle.rb_wire_forest.specs.Opened.{opened, root_of, or_none}
use Rattle.rb_wire_forest.proofs.Scanned.{no_version, no_number, root_open}
use Rattle.rb_wire_forest.proofs.forest.Forest.cursor.Goals as goal

pub unreachable-requires : goal.unreachable-requires
unreachable-requires c = no_version c.args.self.now.payload.now _ c.in_default.ensures c.args.self.now.whole

pub unreachable-requires-in_default-number : goal.unreachable-requires-in_default-number
unreachable-requires-in_default-number c = no_number c.args.self.now.payload.now c.in-Ok.version c.in-Ok.behind.now _ c.in-Ok.ensures c.in_default-number.ensures c.args.self.now.whole

pub invariant_of-result-clause-whole : goal.invariant_of-result-clause-whole
invariant_of-result-clause-whole c = ap is_some (ap (λ fs. all_open c.in-Ok.version fs c.in-Ok-number.rest.now) c.root_frames.ensures.root ∙ root_open c.args.self.now.payload.now c.in-Ok.version c.in-Ok.behind.now c.in-Ok-number.entries c.in-Ok-number.rest.now c.in-Ok.ensures c.in-Ok-number.ensures c.args.self.now.whole)

pub returns : goal.returns
unfolding opened root_of
returns c = ap or_none (ap (λ fs. all_open c.in-Ok.version fs c.in-Ok-number.rest.now) c.root_frames.ensures.root ∙ root_open c.args.self.now.payload.now c.in-Ok.version c.in-Ok.behind.now c.in-Ok-number.entries c.in-Ok-number.rest.now c.in-Ok.ensures c.in-Ok-number.ensures c.args.self.now.whole)
