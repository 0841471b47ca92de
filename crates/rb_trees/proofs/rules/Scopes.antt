-- What a scope knows, one equation a form.
use Rattle.std.proofs.Common.{◌≡◌, ℕ, List, [], ◌∷◌, ◌++◌, ◌||◌, Bor, refl, ap, sym, ◌∙◌, arith}
use Rattle.std.proofs.lemmas.Grind.{common_steps}
use Rattle.rb_trees.specs.declared.scripts.Step.{Step}
use Rattle.rb_trees.specs.declared.validity.Around.{Around}
use Rattle.rb_trees.specs.declared.validity.Around.TheVariants as s
use Rattle.rb_trees.specs.declared.validity.Around.TheOpen.{Around-F}
use Rattle.rb_trees.specs.declared.validity.Around.TheFolds.{fold-roll-Around}
use Rattle.rb_trees.specs.mirror.Scripts.{mirror_steps}
use Rattle.rb_trees.specs.Validity.{has, steps_numbers, steps_lets}
use Rattle.rb_trees.specs.Scopes.{seen, seen_step, bound, bound_step}
use Rattle.rb_trees.proofs.mirror.Steps.{steps}

pub has-append : (x : ℕ) (xs ys : List ℕ) → has x (xs ++ ys) ≡ (has x xs || has x ys)
has-append x [] ys = refl
has-append x (y ∷ xs) ys = grind (arith, has-append x xs ys)

pub seen_Root : seen s.Root ≡ []
seen_Root = ap seen (sym s.rolls-Root) ∙ fold-roll-Around (List ℕ) seen_step Around-F.Root

pub bound_Root : bound s.Root ≡ []
bound_Root = ap bound (sym s.rolls-Root) ∙ fold-roll-Around (List ℕ) bound_step Around-F.Root

pub seen_Row : (var : ℕ) (outer : Bor Around) → seen (s.Row var outer) ≡ seen outer.now
seen_Row var outer = ap seen (sym (s.rolls-Row var outer)) ∙ fold-roll-Around (List ℕ) seen_step (Around-F.Row var outer)

pub bound_Row : (var : ℕ) (outer : Bor Around) → bound (s.Row var outer) ≡ bound outer.now ++ var ∷ []
bound_Row var outer = ap bound (sym (s.rolls-Row var outer)) ∙ fold-roll-Around (List ℕ) bound_step (Around-F.Row var outer)

pub seen_Step : (id : ℕ) (outer : Bor Around) → seen (s.Step id outer) ≡ seen outer.now ++ id ∷ []
seen_Step id outer = ap seen (sym (s.rolls-Step id outer)) ∙ fold-roll-Around (List ℕ) seen_step (Around-F.Step id outer)

pub bound_Step : (id : ℕ) (outer : Bor Around) → bound (s.Step id outer) ≡ bound outer.now
bound_Step id outer = ap bound (sym (s.rolls-Step id outer)) ∙ fold-roll-Around (List ℕ) bound_step (Around-F.Step id outer)

pub seen_Block : (steps : Bor (List Step)) (outer : Bor Around) → seen (s.Block steps outer) ≡ seen outer.now ++ steps_numbers (mirror_steps steps.now)
seen_Block steps outer = ap seen (sym (s.rolls-Block steps outer)) ∙ fold-roll-Around (List ℕ) seen_step (Around-F.Block steps outer)

pub bound_Block : (steps : Bor (List Step)) (outer : Bor Around) → bound (s.Block steps outer) ≡ bound outer.now ++ steps_lets (mirror_steps steps.now)
bound_Block steps outer = ap bound (sym (s.rolls-Block steps outer)) ∙ fold-roll-Around (List ℕ) bound_step (Around-F.Block steps outer)

pub seen_Closed : (steps : Bor (List Step)) (outer : Bor Around) → seen (s.Closed steps outer) ≡ seen outer.now ++ steps_numbers (mirror_steps steps.now)
seen_Closed steps outer = ap seen (sym (s.rolls-Closed steps outer)) ∙ fold-roll-Around (List ℕ) seen_step (Around-F.Closed steps outer)

pub bound_Closed : (steps : Bor (List Step)) (outer : Bor Around) → bound (s.Closed steps outer) ≡ bound outer.now
bound_Closed steps outer = ap bound (sym (s.rolls-Closed steps outer)) ∙ fold-roll-Around (List ℕ) bound_step (Around-F.Closed steps outer)

pub ruleset members = (has-append, steps, common_steps)

pub ruleset scopes = (seen_Root, seen_Row, seen_Step, seen_Block, seen_Closed, bound_Root, bound_Row, bound_Step, bound_Block, bound_Closed, has-append, common_steps)
