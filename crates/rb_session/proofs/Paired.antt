-- A history of pairs, as links tell it.
use Rattle.std.proofs.Common.{◌≡◌, ℕ, List, [], ◌∷◌, ◌++◌, refl, ap}
use Rattle.rb_base.specs.Links.{pair_of}
use Rattle.rb_base.specs.declared.links.Reply.{Reply}
use Rattle.rb_session.specs.FrameLinks.{all_paired}

pub one_more_paired : (ps : List (List ℕ × Reply)) (request : List ℕ) (reply : Reply)
    → all_paired (ps ++ (request, reply) ∷ []) ≡ all_paired ps ++ pair_of request reply ∷ []
one_more_paired [] request reply = refl
one_more_paired (p ∷ ps) request reply = ap (λ qs. pair_of p.0 p.1 ∷ qs) (one_more_paired ps request reply)
