-- Targets, and lists in which something stands under each.
use Rattle.std.specs.Prelude.{Bool, false, List, [], ◌∷◌, Option, None, Some, cond}
use Rattle.std.specs.Str.{bytes_eq}
use Rattle.rb_session.specs.declared.targets.Target.{Target}
use Rattle.rb_session.specs.declared.targets.Target.TheVariants.{Address, Child}

-- whether two targets are of one kind with one word
abbrev pub same_target : Target → Target → Bool
same_target (Address a) (Address b) = bytes_eq a b
same_target (Child a) (Child b) = bytes_eq a b
same_target _ _ = false

-- the first that stands under a target
abbrev pub first_under : {L : Type 0} → Target → List (Target × L) → Option L
first_under t [] = None
first_under t (p ∷ ps) = cond (same_target p.0 t) (Some p.1) (first_under t ps)

-- the list without the first that stands under a target
abbrev pub without_first : {L : Type 0} → Target → List (Target × L) → List (Target × L)
without_first t [] = []
without_first t (p ∷ ps) = cond (same_target p.0 t) ps (p ∷ without_first t ps)
