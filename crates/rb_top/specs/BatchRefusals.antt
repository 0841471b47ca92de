-- How the refusal of a batch is shown: its number, its name, its positions, and how much of something there is too much of.
use Rattle.std.specs.Prelude.{ℕ, List, [], ◌∷◌, ◌++◌, codes}
use Rattle.std.specs.List.{flat_map}
use Rattle.std.specs.Fmt.{decimal}
use Rattle.rb_trees.specs.declared.refusals.Refusal.{Refusal}
use Rattle.rb_trees.specs.declared.refusals.Refusal.TheVariants as refusals
use Rattle.rb_top.specs.Refusals.{place_in}

-- the refusals, by their numbers from 1
abbrev pub batch_heading : Refusal → List ℕ
batch_heading (refusals.Flow chain) = codes "refused 1 Flow"
batch_heading (refusals.NotConstant at) = codes "refused 2 NotConstant"
batch_heading (refusals.UnderLocalCondition condition operation) = codes "refused 3 UnderLocalCondition"
batch_heading (refusals.Escapes at) = codes "refused 4 Escapes"
batch_heading (refusals.BatchInside at) = codes "refused 5 BatchInside"
batch_heading (refusals.InTry at) = codes "refused 6 InTry"
batch_heading (refusals.RemoteVar at) = codes "refused 7 RemoteVar"
batch_heading (refusals.TooManyInputs batch count) = codes "refused 8 TooManyInputs"
batch_heading (refusals.ScriptTooLarge batch bytes) = codes "refused 9 ScriptTooLarge"

-- the positions that say where: of a flow its chain, under a condition the condition and the operation
abbrev pub positions : Refusal → List ℕ
positions (refusals.Flow chain) = chain
positions (refusals.NotConstant at) = at ∷ []
positions (refusals.UnderLocalCondition condition operation) = condition ∷ operation ∷ []
positions (refusals.Escapes at) = at ∷ []
positions (refusals.BatchInside at) = at ∷ []
positions (refusals.InTry at) = at ∷ []
positions (refusals.RemoteVar at) = at ∷ []
positions (refusals.TooManyInputs batch count) = batch ∷ []
positions (refusals.ScriptTooLarge batch bytes) = batch ∷ []

-- how many inputs or bytes there are, where that is what is refused
abbrev pub amount : Refusal → List ℕ
amount (refusals.Flow chain) = []
amount (refusals.NotConstant at) = []
amount (refusals.UnderLocalCondition condition operation) = []
amount (refusals.Escapes at) = []
amount (refusals.BatchInside at) = []
amount (refusals.InTry at) = []
amount (refusals.RemoteVar at) = []
amount (refusals.TooManyInputs batch count) = codes " " ++ decimal count
amount (refusals.ScriptTooLarge batch bytes) = codes " " ++ decimal bytes

-- the line and the column of a position, behind a space
abbrev pub spaced_place : List ℕ → ℕ → List ℕ
spaced_place text at = codes " " ++ place_in text at

abbrev pub spaced_places : List ℕ → List ℕ → List ℕ
spaced_places text ps = flat_map (spaced_place text) ps

-- the refusal of a batch in its program's text, without its line feed
abbrev pub shown_batch_refusal : List ℕ → Refusal → List ℕ
shown_batch_refusal text refusal = batch_heading refusal ++ (spaced_places text (positions refusal) ++ amount refusal)
