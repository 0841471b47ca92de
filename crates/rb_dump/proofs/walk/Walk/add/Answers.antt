-- A piece more.
use Rattle.std.proofs.Common.{◌+◌, ◌≤◌, length, refl, sym, subst, arith}
use Rattle.rb_dump.specs.Pieces.{Shown}
use Rattle.rb_dump.proofs.Tiled.{one_more}
use Rattle.rb_dump.proofs.walk.Walk.add.Goals as goal

pub invariant_of-self-2 : goal.invariant_of-self-2
invariant_of-self-2 c =
    let within = subst (λ (s : Shown). s.at + c.args.count ≤ length s.bytes) (sym c.self.view_is) c.requires.within in
    let tiled = one_more 0 _ _ (record { depth = c.args.depth; start = c.self.inside.at; end = c.self.inside.at + c.args.count; what = c.args.what }) c.self.invariant.0 refl (omega arith) in
    (rw c.in_ok-push.ensures.ok tiled, within)
