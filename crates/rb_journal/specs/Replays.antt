-- Payloads that are performed once more on a host.
use Rattle.std.specs.Prelude.{◌≡◌, ℕ, Bool, true, false, List, [], ◌∷◌, ◌++◌, ◌+◌, length, drop, Ok}
use Rattle.rb_trees.specs.declared.services.Object.{Object}
use Rattle.rb_trees.specs.mirror.Services.{Service, mirror_service}
use Rattle.rb_meaning_bytes.specs.formats.Messages.{Sent}
use Rattle.rb_meaning_bytes.specs.formats.ScriptPayloads.{Means}
use Rattle.rb_meaning.specs.Answers.{performed}
use Rattle.rb_exec.specs.Hosted.{Hosted}
use Rattle.rb_journal.specs.Form.{IsAccepted, ArePayloads, before_gate, StandsFor}

-- The payload spells a valid script with the values of its inputs, and the table is what it leaves.
abbrev pub LeavesTable : Service → List Object → List ℕ → List Object → Type 0
LeavesTable service table payload after = (x : Sent) × Means payload (Ok x) × (after ≡ (performed service table x).server.table)

-- Each of the payloads does so, in order, on the table that the one before it left.
abbrev pub LeaveTable : Service → List Object → List (List ℕ) → List Object → Type 0
LeaveTable service table [] after = after ≡ table
LeaveTable service table (payload ∷ payloads) after =
    (between : List Object) × LeavesTable service table payload between × LeaveTable service between payloads after

-- A host performed the payload.
abbrev pub Replays : Hosted → List ℕ → Hosted → Type 0
Replays before payload after = LeavesTable (mirror_service before.service) before.table payload after.table

-- A host performed the payloads in order.
abbrev pub ReplaysAll : Hosted → List (List ℕ) → Hosted → Type 0
ReplaysAll before payloads after = LeaveTable (mirror_service before.service) before.table payloads after.table

-- A host performed the payload; or the payload isn't accepted.
abbrev pub Tries : Bool → Hosted → List ℕ → Hosted → Type 0
Tries true before payload after = Replays before payload after
Tries false before payload after = IsAccepted payload → ⊥

-- Behind the records of some payloads, so many, that gate stands at that offset; and the host performed them in order.
pub record Passes (bytes : List ℕ) (count gate at : ℕ) (before after : Hosted) : Type 0 where
  pub payloads : List (List ℕ)
  pub fit : ArePayloads payloads
  pub count_is : length payloads ≡ count
  pub at_is : at ≡ length (before_gate payloads)
  pub is : bytes ≡ before_gate payloads ++ gate ∷ drop (at + 1) bytes
  pub performed : ReplaysAll before payloads after

-- The bytes stand for some payloads, behind which the gate has that offset; and the host performed them in order.
pub record Reopens (bytes : List ℕ) (gate : ℕ) (before after : Hosted) : Type 0 where
  pub payloads : List (List ℕ)
  pub stands : StandsFor bytes payloads
  pub gate_is : gate ≡ length (before_gate payloads)
  pub performed : ReplaysAll before payloads after
