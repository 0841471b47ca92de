-- What stays of a machine.
use Rattle.std.proofs.Common.{◌≡◌, refl, ap, ◌∙◌, map}
use Rattle.rb_trees.specs.mirror.Declarations.{mirror_class}
use Rattle.rb_engine.specs.Machines.{Keeps}
use Rattle.rb_engine.specs.declared.machine.Machine.{Machine}
use Rattle.rb_engine.proofs.Weight.{room}

pub kept_itself : {W : Type 0} {m : Machine W} → Keeps m m
kept_itself = record { code = refl; state = refl; world = refl }

pub kept_on : {W : Type 0} {a b c : Machine W} → Keeps a b → Keeps b c → Keeps a c
kept_on h k = record { code = k.code ∙ h.code; state = k.state ∙ h.state; world = k.world ∙ h.world }

-- What is left of the weight stays where so many calls are active as before.
pub room_kept : {W : Type 0} {a b : Machine W} → Keeps a b → b.state.now.depth ≡ a.state.now.depth
    → room (map mirror_class b.code.now) b.state.now.depth ≡ room (map mirror_class a.code.now) a.state.now.depth
room_kept {a = a} {b = b} h e = ap (λ k. room (map mirror_class k.now) b.state.now.depth) h.code ∙ ap (room (map mirror_class a.code.now)) e
