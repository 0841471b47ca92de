-- Links that wait, as the links that are dialled.
use Rattle.std.proofs.Common.{◌≡◌, refl, ap, sym, ◌∙◌, subst, ℕ, ◌+◌, Bool, true, false, List, [], ◌∷◌, ◌++◌, take, drop, get_or}
use Rattle.std.specs.Prelude.{◌==◌, Option, Some, None, option_map, cond, map}
use Rattle.std.specs.List.{list_any}
use Rattle.std.proofs.lemmas.List.Elements.{All-append, All-take, All-drop}
use Rattle.rb_base.specs.Counts.{risen}
use Rattle.rb_session.specs.Targets.{same_target, first_under, without_first}
use Rattle.rb_session.specs.Places.{StandsAt}
use Rattle.rb_session.specs.Dials.{next_link}
use Rattle.rb_session.specs.MemoryDials.{DialInMemory, AreWhole, as_dialled, dialling_of, TakesAt, IsNext}
use Rattle.rb_session.specs.declared.targets.Target.{Target}
use Rattle.rb_session.specs.declared.any_link.AnyLink.TheVariants.{Dialled}

first_or : {X : Type 0} (b : Bool) (x : X) (rest : Option X) → cond b (Some (Dialled x)) (option_map (λ (y : X). Dialled y) rest) ≡ option_map (λ (y : X). Dialled y) (cond b (Some x) rest)
first_or true x rest = refl
first_or false x rest = refl

first_dialled : {X : Type 0} (t : Target) (ps : List (Target × X)) → first_under t (map as_dialled ps) ≡ option_map (λ (y : X). Dialled y) (first_under t ps)
first_dialled t [] = refl
first_dialled t (p ∷ ps) =
    ap (λ o. cond (same_target p.0 t) (Some (Dialled p.1)) o) (first_dialled t ps) ∙ first_or (same_target p.0 t) p.1 (first_under t ps)

rest_or : {X : Type 0} (b : Bool) (p : Target × X) (ps rest : List (Target × X)) → cond b (map as_dialled ps) (as_dialled p ∷ map as_dialled rest) ≡ map as_dialled (cond b ps (p ∷ rest))
rest_or true p ps rest = refl
rest_or false p ps rest = refl

rest_dialled : {X : Type 0} (t : Target) (ps : List (Target × X)) → without_first t (map as_dialled ps) ≡ map as_dialled (without_first t ps)
rest_dialled t [] = refl
rest_dialled t (p ∷ ps) =
    ap (λ r. cond (same_target p.0 t) (map as_dialled ps) (as_dialled p ∷ r)) (rest_dialled t ps) ∙ rest_or (same_target p.0 t) p ps (without_first t ps)

pub none_is_next : {X : Type 0} (d : DialInMemory X) (t : Target) → list_any (λ n. n == risen d.made) d.failing ≡ true → IsNext d t None
none_is_next d t listed = ap (λ b. cond b None (first_under t (map as_dialled d.waiting))) listed

unlisted_next : {X : Type 0} (d : DialInMemory X) (t : Target) → list_any (λ n. n == risen d.made) d.failing ≡ false → next_link (dialling_of d) t ≡ option_map (λ (y : X). Dialled y) (first_under t d.waiting)
unlisted_next d t unlisted = ap (λ b. cond b None (first_under t (map as_dialled d.waiting))) unlisted ∙ first_dialled t d.waiting

pub is_next : {X : Type 0} (d : DialInMemory X) (t : Target) (place : Option ℕ) → list_any (λ n. n == risen d.made) d.failing ≡ false → StandsAt t d.waiting place → IsNext d t place
is_next d t None unlisted h = unlisted_next d t unlisted ∙ ap (option_map (λ y. Dialled y)) h
is_next {X} d t (Some place) unlisted h = record {
  within = h.within;
  is = λ p. unlisted_next d t unlisted ∙ ap (option_map (λ (y : X). Dialled y)) (h.is p);
  rest = rest_dialled t d.waiting ∙ ap (map as_dialled) h.rest;
}

pub takes_it : {X : Type 0} (d : DialInMemory X) (t : Target) (place : ℕ) (link : X) (ws : List (Target × X)) → TakesAt d t place → ws ≡ d.waiting
    → ((p : Target × X) → link ≡ (get_or ws place p).1) → next_link (dialling_of d) t ≡ Some (Dialled link)
takes_it {X} d t place link ws h same is =
    h.is (t, link) ∙ ap (λ (qs : List (Target × X)). Some (Dialled (get_or {A = Target × X} qs place (t, link)).1)) (sym same) ∙ ap (λ (x : X). Some (Dialled x)) (sym (is (t, link)))

pub still_whole : {X : Type 0} (faults : X → ℕ) (all new : List (Target × X)) (place : ℕ) → new ≡ take place all ++ drop (place + 1) all
    → AreWhole faults all → AreWhole faults new
still_whole {X} faults all new place is h =
    subst (AreWhole faults) (sym is) (All-append (λ (p : Target × X). faults p.1 ≡ 0) (take place all) (drop (place + 1) all)
    (All-take (λ (p : Target × X). faults p.1 ≡ 0) place all h) (All-drop (λ (p : Target × X). faults p.1 ≡ 0) (place + 1) all h))
