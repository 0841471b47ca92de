-- The answer for a batch, and how it is decided from what was found.
use Rattle.std.specs.Prelude.{◌≡◌, ℕ, List, [], Bool, true, false, nat_lt, Option, Some, None}
use Rattle.std.specs.List.{Contains}
use Rattle.rb_trees.specs.declared.flows.Writer.{Writer}
use Rattle.rb_trees.specs.declared.flows.BadPart.{BadPart}
use Rattle.rb_trees.specs.declared.refusals.Refusal.{Refusal}
use Rattle.rb_trees.specs.declared.refusals.Refusal.TheVariants.{Flow, NotConstant}
use Rattle.rb_meaning_flow.specs.Facts.{Facts}
use Rattle.rb_meaning_flow.specs.Sites.{StmtSite}
use Rattle.rb_meaning_flow.specs.Chains.{IsChain, IsLeastChain, PositionsDiffer}
use Rattle.rb_meaning_flow.specs.Flow.{writers, bad_parts}
use Rattle.rb_meaning_flow.specs.Refusals.{IsRefusal, IsBefore, place}
use Rattle.rb_flow.specs.declared.findings.Findings.{Findings}
use Rattle.rb_flow.specs.declared.standing.Standing.{Standing}
use Rattle.rb_flow.specs.Readings.{nothing}
use Rattle.rb_flow.specs.Sited.{all_seen}

-- no two writers of a batch stand at one position, and no two bad parts
pub record SitesDiffer (x : Facts) (ss : List StmtSite) : Type 0 where
  pub writers : PositionsDiffer (writers x ss)
  pub parts : (u v : BadPart) → Contains (bad_parts x ss) u → Contains (bad_parts x ss) v → u.at ≡ v.at → u ≡ v

-- the answer for a batch: a refusal before which there is none, or none where it has no refusal at all
abbrev pub IsBatchAnswer : Facts → List StmtSite → Option Refusal → Type 0
IsBatchAnswer x ss None = (r : Refusal) → IsRefusal x ss r → ⊥
IsBatchAnswer x ss (Some r) = IsRefusal x ss r × ((other : Refusal) → IsRefusal x ss other → IsBefore other r → ⊥)

-- the refusal of a bad part: the least chain to it, or that there is none
abbrev pub IsFlowRefusal : List Writer → BadPart → Refusal → Type 0
IsFlowRefusal ws u (Flow chain) = IsLeastChain ws u chain
IsFlowRefusal ws u (NotConstant at) = (u.at ≡ at) × ((chain : List ℕ) → IsChain ws u chain → ⊥)
IsFlowRefusal ws u _ = ⊥

-- whether a refusal stands before a position
abbrev pub stands_before : Option Refusal → ℕ → Bool
stands_before None at = false
stands_before (Some r) at = nat_lt (place r) at

-- the first refusal is the answer where it stands before the bad part, else that of the bad part
abbrev pub IsDecidedAt : Bool → Option Refusal → List Writer → BadPart → Option Refusal → Type 0
IsDecidedAt true first ws u answer = answer ≡ first
IsDecidedAt false first ws u answer = (r : Refusal) × (answer ≡ Some r) × IsFlowRefusal ws u r

abbrev pub IsDecided : Option Refusal → List Writer → Option BadPart → Option Refusal → Type 0
IsDecided first ws None answer = answer ≡ first
IsDecided first ws (Some u) answer = IsDecidedAt (stands_before first u.at) first ws u answer

-- what stands around the statements of a batch itself: nothing
abbrev pub outermost_standing : Standing
outermost_standing = record { script = true; condition = None; tried = false; around = nothing }

-- before anything is found
abbrev pub no_findings : Findings
no_findings = record { first = None; writers = []; part = None }

-- what is found in a batch
abbrev pub batch_found : Facts → List StmtSite → Findings
batch_found x ss = all_seen x ss no_findings
