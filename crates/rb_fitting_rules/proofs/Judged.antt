-- What is judged of a walk, by what the rules decide.
use Rattle.std.proofs.Common.{◌≡◌, ◌⊎◌, inl, inr, ℕ, List, Bool, true, false, Result, Ok, Err, refl, subst}
use Rattle.rb_trees.specs.mirror.Forests.{Node}
use Rattle.rb_trees.specs.mirror.Remainders.{Parts}
use Rattle.rb_meaning_bytes.specs.Fits.{Walk, begun, leaves, parts_read, judged, Unfit, At, Extra, fits}
use Rattle.rb_fitting_rules.specs.Rules.{End, IsFit}
use Rattle.rb_fitting_rules.specs.Misfits.{Served, Misfit, FirstUnfit}
use Rattle.rb_fitting_rules.specs.Agree.{HasOneOutcome}
use Rattle.rb_fitting_rules.proofs.Steps.{Came}
use Rattle.rb_fitting_rules.proofs.Decided.{Decided, serves, misses, decide_parts}
use Rattle.rb_fitting_rules.proofs.Walked.{node_came}
use Rattle.rb_fitting_rules.proofs.Missed.{node_missed}
use Rattle.rb_fitting_rules.proofs.Clean.{clean_fits, fits_clean}

abbrev outcome_of : Bool → Result (Unit {0}) Unfit
outcome_of true = Err Extra
outcome_of false = Ok tt

walk_judged : (w : Walk) (left : Bool) → leaves w ≡ left → judged (Ok w) ≡ outcome_of left
walk_judged w true e = rw e refl
walk_judged w false e = rw e refl

came_judged : (r : Result Walk ℕ) (end : End) (left : Bool) → Came r end left → judged r ≡ outcome_of left
came_judged r end left c = rw c.is (walk_judged c.walk left c.over)

module _ (lengths : List ℕ) where
  -- where parts are served, what is judged tells whether something is left over
  served_judged : (n : Node) (ps : Parts) (end : End) (left : Bool) → Served lengths ps n end left → fits n ps lengths ≡ outcome_of left
  unfolding fits
  served_judged n ps end left s = came_judged (parts_read lengths ps (begun n false)) end left (node_came lengths ps n end left s false)

  missed_judged : (n : Node) (ps : Parts) (wrong : ℕ) → Misfit lengths ps n wrong → fits n ps lengths ≡ Err (At wrong)
  unfolding fits
  missed_judged n ps wrong m = rw (node_missed lengths ps n wrong m false) refl

  pub fit_judged : (n : Node) (ps : Parts) → IsFit lengths n ps → fits n ps lengths ≡ Ok tt
  fit_judged n ps t = served_judged n ps t.0 false (fits_clean lengths ps n t.0 t.1)

  pub unfit_judged : (n : Node) (ps : Parts) (wrong : Unfit) → FirstUnfit lengths n ps wrong → fits n ps lengths ≡ Err wrong
  unfit_judged n ps (At step) m = missed_judged n ps step m
  unfit_judged n ps Extra s = served_judged n ps s.0 true s.1

  decided_fit : (n : Node) (ps : Parts) → Decided lengths ps n → fits n ps lengths ≡ Ok tt → IsFit lengths n ps
  decided_fit n ps (serves end true s) e = absurd (let f = served_judged n ps end true s in cc)
  decided_fit n ps (serves end false s) e = (end, clean_fits lengths ps n end false s refl)
  decided_fit n ps (misses wrong m) e = absurd (let f = missed_judged n ps wrong m in cc)

  pub judged_fit : (n : Node) (ps : Parts) → fits n ps lengths ≡ Ok tt → IsFit lengths n ps
  judged_fit n ps e = decided_fit n ps (decide_parts lengths ps n) e

  decided_unfit : (n : Node) (ps : Parts) (wrong : Unfit) → Decided lengths ps n → fits n ps lengths ≡ Err wrong → FirstUnfit lengths n ps wrong
  decided_unfit n ps wrong (serves end true s) e =
      let same : Extra ≡ wrong = (let f = served_judged n ps end true s in cc) in subst (FirstUnfit lengths n ps) same (end, s)
  decided_unfit n ps wrong (serves end false s) e = absurd (let f = served_judged n ps end false s in cc)
  decided_unfit n ps wrong (misses step m) e =
      let same : At step ≡ wrong = (let f = missed_judged n ps step m in cc) in subst (FirstUnfit lengths n ps) same m

  pub judged_unfit : (n : Node) (ps : Parts) (wrong : Unfit) → fits n ps lengths ≡ Err wrong → FirstUnfit lengths n ps wrong
  judged_unfit n ps wrong e = decided_unfit n ps wrong (decide_parts lengths ps n) e

  either : (n : Node) (ps : Parts) (r : Result (Unit {0}) Unfit) → fits n ps lengths ≡ r → IsFit lengths n ps ⊎ ((wrong : Unfit) × FirstUnfit lengths n ps wrong)
  either n ps (Ok u) e = inl (judged_fit n ps e)
  either n ps (Err wrong) e = inr (wrong, judged_unfit n ps wrong e)

  pub outcome : (n : Node) (ps : Parts) → HasOneOutcome lengths n ps
  outcome n ps = (
    either n ps (fits n ps lengths) refl,
    λ wrong t u. let e = fit_judged n ps t in let f = unfit_judged n ps wrong u in cc,
    λ wrong other u v. let e = unfit_judged n ps wrong u in let f = unfit_judged n ps other v in cc,
  )
