-- Wrong arguments and wrong items are the violations that are computed.
use Rattle.std.proofs.Common.{◌≡◌, ℕ, suc, List, [], ◌∷◌, map, length, true, false, nat_eq, Ok, Err, refl, ap, sym, subst, ◌∙◌, arith}
use Rattle.std.proofs.lemmas.Bool.Decides.{nat_tests}
use Rattle.rb_trees.specs.mirror.Code.{Exprs, NoExprs, MoreExprs, expr_at}
use Rattle.rb_trees.specs.mirror.Declarations.{Param}
use Rattle.rb_meaning_types.specs.Kinds.{Kind, kind_of}
use Rattle.rb_meaning_types.specs.Violations.{Violation, Checked, Placed, WrongCount, wanted}
use Rattle.rb_trees.specs.Outcome.{◌>>◌, must}
use Rattle.rb_meaning_types.specs.Scopes.{Scope}
use Rattle.rb_meaning_types.specs.Declared.{Context}
use Rattle.rb_meaning_types.specs.Members.{arguments_wanted, arguments_fit}
use Rattle.rb_meaning_types.specs.Expressions.{all_wanted}
use Rattle.rb_typing_rules.specs.Rules.{HaveTypes, kinds_of, none, more}
use Rattle.rb_typing_rules.specs.BrokenCode.{Misfit, misfit, misfit_later, Unfit, number, wrong_type}
use Rattle.rb_typing_rules.proofs.Steps.{wanted_so}
use Rattle.rb_typing_rules.proofs.Groups.{fit_ok}
use Rattle.rb_typing_rules.proofs.Exprs.{placed_at}
use Rattle.rb_typing_rules.proofs.Parts.{placed_as, placed_count}
use Rattle.rb_typing_rules.proofs.Stops.{Stops, passes, weaker, then_stops, must_stops, wanted_stops, in_order, wanted_not, undecided}

-- each of some expressions has the type that is wanted of it
abbrev pub each_wanted : List Kind → List Placed → Checked (Unit {0})
each_wanted [] ps = Ok tt
each_wanted (kind ∷ kinds) [] = Ok tt
each_wanted (kind ∷ kinds) (p ∷ ps) = wanted kind p >> each_wanted kinds ps

arguments_each : (params : List Param) (ps : List Placed) → arguments_wanted params ps ≡ each_wanted (kinds_of params) ps
arguments_each [] ps = refl
arguments_each (a ∷ params) [] = refl
arguments_each (a ∷ params) (p ∷ ps) = ap (λ r. wanted (kind_of a.kind) p >> r) (arguments_each params ps)

pub items_each : (item : Kind) (es : Exprs) (kinds : List Kind) → all_wanted item (placed_as es kinds) ≡ each_wanted (map (λ k. item) kinds) (placed_as es kinds)
items_each item NoExprs [] = refl
items_each item NoExprs (kind ∷ kinds) = refl
items_each item (MoreExprs e es) [] = refl
items_each item (MoreExprs e es) (kind ∷ kinds) = ap (λ r. wanted item (placed_at (expr_at e) kind) >> r) (items_each item es kinds)

pub misfit_stops : (wants : List Kind) (es : Exprs) (kinds : List Kind) → Stops (Misfit wants es kinds) (each_wanted wants (placed_as es kinds))
misfit_stops [] es kinds = passes _ tt
misfit_stops (want ∷ wants) NoExprs kinds = passes _ tt
misfit_stops (want ∷ wants) (MoreExprs e es) [] = passes _ tt
misfit_stops (want ∷ wants) (MoreExprs e es) (kind ∷ kinds) =
    wanted_stops _ want (placed_at (expr_at e) kind) (each_wanted wants (placed_as es kinds)) (λ d. misfit want kind wants kinds e es d)
    (λ same. weaker _ _ (each_wanted wants (placed_as es kinds))
    (λ v m. subst (λ k. Misfit (want ∷ wants) (MoreExprs e es) (k ∷ kinds) v) same (misfit_later want wants kinds e es v m)) (misfit_stops wants es kinds))

pub so_misfit : (wants : List Kind) (es : Exprs) (kinds : List Kind) (v : Violation) → Misfit wants es kinds v → each_wanted wants (placed_as es kinds) ≡ Err v
so_misfit _ _ _ _ (misfit want kind wants kinds e es differ) = rw (wanted_not want (placed_at (expr_at e) kind) differ) refl
so_misfit _ _ _ _ (misfit_later want wants kinds e es v m) = rw (wanted_so want (placed_at (expr_at e) want) refl) (so_misfit wants es kinds v m)

length_kinds : (ps : List Param) → length (kinds_of ps) ≡ length ps
length_kinds [] = refl
length_kinds (p ∷ ps) = ap suc (length_kinds ps)

length_placed : (x : Context) (scope : Scope) (es : Exprs) (kinds : List Kind) → HaveTypes x scope es kinds → length (placed_as es kinds) ≡ length kinds
length_placed x scope _ _ none = refl
length_placed x scope _ _ (more e es kind kinds first rest) = ap suc (length_placed x scope es kinds rest)

apart : (a b : ℕ) → nat_eq a b ≡ false → a ≡ b → ⊥
apart a b e same = grind (arith, nat_tests)

alike : (a b : ℕ) → nat_eq a b ≡ true → a ≡ b
alike a b e = grind (arith, nat_tests)

so_alike : (a b : ℕ) → a ≡ b → nat_eq a b ≡ true
so_alike a b e = grind (arith, nat_tests)

pub fit_stops : {B : Type 0} (x : Context) (scope : Scope) (Q : Violation → Type 0) (at : ℕ) (params : List Param) (es : Exprs) (kinds : List Kind) (t : Checked B)
    → HaveTypes x scope es kinds → ((v : Violation) → Unfit at (kinds_of params) es kinds v → Q v) → (kinds ≡ kinds_of params → Stops Q t)
    → Stops Q (arguments_fit at params (placed_as es kinds) >> t)
fit_stops x scope Q at params es kinds t typed unfit fit =
    let ps = placed_as es kinds in
    let test = nat_eq (length ps) (length params) in
    let here = length_placed x scope es kinds typed in
    let there = length_kinds params in
    in_order Q (must test (WrongCount at)) (arguments_wanted params ps) t
    (must_stops Q test (WrongCount at) (arguments_wanted params ps >> t)
    (λ e. unfit (WrongCount at) (number (λ same. apart (length ps) (length params) e (here ∙ same ∙ there))))
    (λ e. then_stops Q (arguments_wanted params ps) t
    (weaker _ Q (arguments_wanted params ps) (λ v m. unfit v (wrong_type v (sym here ∙ alike (length ps) (length params) e ∙ sym there) m))
    (subst (Stops (Misfit (kinds_of params) es kinds)) (sym (arguments_each params ps)) (misfit_stops (kinds_of params) es kinds)))
    (λ f. fit (sym (placed_count x scope es kinds typed) ∙ fit_ok at params ps (rw e f)))))

pub so_unfit : (x : Context) (scope : Scope) (at : ℕ) (params : List Param) (es : Exprs) (kinds : List Kind) (v : Violation) → HaveTypes x scope es kinds
    → Unfit at (kinds_of params) es kinds v → arguments_fit at params (placed_as es kinds) ≡ Err v
so_unfit x scope at params es kinds _ typed (number differ) =
    let ps = placed_as es kinds in
    rw (undecided (nat_eq (length ps) (length params)) (λ e. differ (sym (length_placed x scope es kinds typed) ∙ alike (length ps) (length params) e ∙ sym (length_kinds params)))) refl
so_unfit x scope at params es kinds _ typed (wrong_type v same m) =
    let ps = placed_as es kinds in
    rw (so_alike (length ps) (length params) (length_placed x scope es kinds typed ∙ same ∙ length_kinds params))
    (arguments_each params ps ∙ so_misfit (kinds_of params) es kinds v m)
