-- How an answer stands to the division of a batch.
use Rattle.std.specs.Prelude.{◌≡◌, ℕ, List, map, Option, Some, None, Result}
use Rattle.rb_trees.specs.Outcome.{Gives}
use Rattle.rb_trees.specs.declared.refusals.Refusal.{Refusal}
use Rattle.rb_trees.specs.declared.remainders.Split.{Split}
use Rattle.rb_trees.specs.mirror.Declarations.{Program}
use Rattle.rb_trees.specs.mirror.Remainders.{mirror_parts}
use Rattle.rb_trees.specs.mirror.Scripts.{mirror_script}
use Rattle.rb_meaning_flow.specs.Outermost.{Outermost}
use Rattle.rb_meaning_split.specs.Division.{Division, divided, divided_all, divisions}
use Rattle.rb_flow.specs.Begun.{Begun, begun}
use Rattle.rb_split.specs.Numbers.{batch_of}
use Rattle.rb_split.specs.declared.stops.SplitStop.{SplitStop}
use Rattle.rb_split.specs.declared.stops.SplitStop.TheVariants as stops

-- a division as the definition has it
abbrev pub seen : Split → Division
seen s = record { at = s.at; inputs = s.inputs; script = mirror_script s.script; remainder = mirror_parts s.remainder }

-- why a batch isn't divided, as the refusal that is told
abbrev pub refusal_of : SplitStop → Option Refusal
refusal_of (stops.Refused r) = Some r
refusal_of stops.Memory = None

-- the answer is the division of a batch that begins so, or its refusal
abbrev pub DividesBegun : Program → Begun → Result Split SplitStop → Type 0
DividesBegun p first result = (b : Outermost) → first ≡ begun b → Gives seen refusal_of result (divided p b)

-- the answer is the divisions of batches that begin so, or the first refusal
abbrev pub DividesAllBegun : Program → List Begun → Result (List Split) SplitStop → Type 0
DividesAllBegun p firsts result = (bs : List Outermost) → firsts ≡ map begun bs → Gives (λ ss. map seen ss) refusal_of result (divided_all p bs)

-- the answer is the division of the batch of a number, or its refusal
abbrev pub DividesBatch : Program → ℕ → Result Split SplitStop → Type 0
DividesBatch p number result = (b : Outermost) → batch_of p number ≡ Some b → Gives seen refusal_of result (divided p b)

-- the answer is the divisions of all batches, or the first refusal
abbrev pub DividesAll : Program → Result (List Split) SplitStop → Type 0
DividesAll p result = Gives (λ ss. map seen ss) refusal_of result (divisions p)
