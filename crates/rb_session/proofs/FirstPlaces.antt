-- Looking for the first under a target.
use Rattle.std.proofs.Common.{◌≡◌, ◌<◌, ◌≤◌, ◌+◌, refl, ap, sym, ◌∙◌, ℕ, List, [], ◌∷◌, ◌++◌, length, get_or, take, drop, append_assoc, add-one}
use Rattle.std.specs.Prelude.{true, false, Some, None, cond}
use Rattle.std.proofs.lemmas.List.{drop_more, get_or_default}
use Rattle.std.proofs.Math.ListN.{drop_of_length-le}
use Rattle.std.proofs.Math.Seq.{take-suc}
use Rattle.rb_session.specs.Targets.{same_target, first_under, without_first}
use Rattle.rb_session.specs.Places.{IsPlace}
use Rattle.rb_session.specs.declared.targets.Target.{Target}

-- None stands under the target before this place.
pub record LiesBehind {L : Type 0} (t : Target) (pairs : List (Target × L)) (place : ℕ) : Type 0 where
  pub first : first_under t pairs ≡ first_under t (drop place pairs)
  pub rest : without_first t pairs ≡ take place pairs ++ without_first t (drop place pairs)

step_first : {L : Type 0} (t : Target) (p : Target × L) (ps : List (Target × L)) → same_target p.0 t ≡ false → first_under t (p ∷ ps) ≡ first_under t ps
step_first t p ps h = ap (λ b. cond b (Some p.1) (first_under t ps)) h

step_rest : {L : Type 0} (t : Target) (p : Target × L) (ps : List (Target × L)) → same_target p.0 t ≡ false → without_first t (p ∷ ps) ≡ p ∷ without_first t ps
step_rest t p ps h = ap (λ b. cond b ps (p ∷ without_first t ps)) h

take_more : {L : Type 0} (pairs : List (Target × L)) (place : ℕ) (d : Target × L) → place < length pairs
    → take (place + 1) pairs ≡ take place pairs ++ get_or pairs place d ∷ []
take_more pairs place d within = ap (λ n. take n pairs) (add-one place) ∙ take-suc pairs place d within

pub begins : {L : Type 0} (t : Target) (pairs : List (Target × L)) → LiesBehind t pairs 0
begins t pairs = record { first = refl; rest = refl }

pub goes_on : {L : Type 0} (t : Target) (pairs : List (Target × L)) (place : ℕ) (d : Target × L) → place < length pairs
    → same_target (get_or pairs place d).0 t ≡ false → LiesBehind t pairs place → LiesBehind t pairs (place + 1)
goes_on t pairs place d within other h =
    let next = drop_more pairs place d within in
    let others = drop (place + 1) pairs in
    record {
      first = h.first ∙ ap (first_under t) next ∙ step_first t (get_or pairs place d) others other;
      rest = h.rest ∙ ap (λ ps. take place pairs ++ without_first t ps) next
          ∙ ap (λ ps. take place pairs ++ ps) (step_rest t (get_or pairs place d) others other)
          ∙ sym (append_assoc (take place pairs) (get_or pairs place d ∷ []) (without_first t others))
          ∙ ap (λ ps. ps ++ without_first t others) (sym (take_more pairs place d within));
    }

pub stands : {L : Type 0} (t : Target) (pairs : List (Target × L)) (place : ℕ) (d : Target × L) → place < length pairs
    → same_target (get_or pairs place d).0 t ≡ true → LiesBehind t pairs place → IsPlace t pairs place
stands {L} t pairs place d within same h =
    let p = get_or pairs place d in
    let next = drop_more pairs place d within in
    let others = drop (place + 1) pairs in
    record {
      within = within;
      is = λ e. h.first ∙ ap (first_under t) next ∙ ap (λ b. cond b (Some p.1) (first_under t others)) same
          ∙ ap (λ (x : Target × L). Some x.1) (get_or_default pairs place d e within);
      rest = h.rest ∙ ap (λ ps. take place pairs ++ without_first t ps) next
          ∙ ap (λ b. take place pairs ++ cond b others (p ∷ without_first t others)) same;
    }

pub none_stands : {L : Type 0} (t : Target) (pairs : List (Target × L)) (place : ℕ) → length pairs ≤ place → LiesBehind t pairs place → first_under t pairs ≡ None
none_stands t pairs place past h = h.first ∙ ap (first_under t) (drop_of_length-le pairs past)
