-- What was found of a list of expressions, with that of the expressions before it.
use Rattle.std.proofs.Common.{◌≡◌, List, [], ◌∷◌, ◌++◌, Ok, Err, refl, ap}
use Rattle.rb_meaning_types.specs.Violations.{Violation, Checked, Placed}
use Rattle.rb_types.specs.Steps.{State}
use Rattle.rb_types.proofs.ExprSteps.{with_head}

abbrev pub with_front : List Placed → Checked (List Placed × State) → Checked (List Placed × State)
with_front [] rest = rest
with_front (p ∷ ps) rest = with_head p (with_front ps rest)

pub front_more : (ps : List Placed) (p : Placed) (rest : Checked (List Placed × State)) → with_front (ps ++ p ∷ []) rest ≡ with_front ps (with_head p rest)
front_more [] p rest = refl
front_more (q ∷ ps) p rest = ap (with_head q) (front_more ps p rest)

pub front_none : (ps : List Placed) (s : State) → with_front ps (Ok ([], s)) ≡ Ok (ps, s)
front_none [] s = refl
front_none (p ∷ ps) s = ap (with_head p) (front_none ps s)

pub front_fails : (ps : List Placed) (violation : Violation) → with_front ps (Err violation) ≡ Err violation
front_fails [] violation = refl
front_fails (p ∷ ps) violation = ap (with_head p) (front_fails ps violation)

pub ruleset rows = (front_more, front_none, front_fails)
