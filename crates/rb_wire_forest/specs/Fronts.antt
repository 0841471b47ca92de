-- What stands at the front of an entry.
use Rattle.std.specs.Prelude.{◌≡◌, ℕ, List, Bool, cond, nat_eq, Option, None, Some, Ok}
use Rattle.std.specs.Borrow.{Bor}
use Rattle.rb_trees.specs.declared.values.Value.{Value}
use Rattle.rb_trees.specs.declared.versions.Version.{Version}
use Rattle.rb_trees.specs.declared.forests.NodeFault.{NodeFault}
use Rattle.rb_meaning_bytes.specs.formats.Fields.{Byte, Number, Truth}
use Rattle.rb_meaning_bytes.specs.formats.Reading.{look, read}
use Rattle.rb_meaning_bytes.specs.formats.Values as format
use Rattle.rb_meaning_bytes.specs.formats.Forests.{end}
use Rattle.rb_meaning_bytes.specs.Fits.{step_of}
use Rattle.rb_wire_fields.specs.Items.{value_seen}
use Rattle.rb_wire_forest.specs.Opens.{on_read}
use Rattle.rb_wire_forest.specs.declared.heads.Head as code
use Rattle.rb_wire_forest.specs.declared.heads.Head.TheVariants as heads
use Rattle.rb_wire_forest.specs.declared.heads.LentFault.{LentFault}

-- a value, which is the whole entry; a branch and how many entries its node has; a Rows and how many nodes it has
pub data Head : Type 0 where
  ValueHead : (value : Value) → Head
  BranchHead : (taken : Bool) (entries : ℕ) → Head
  RowsHead : (nodes : ℕ) → Head

abbrev pub and_rest : Head → List ℕ → Option (Head × List ℕ)
and_rest h rest = Some (h, rest)

abbrev pub value_at : Version → List ℕ → Option (Head × List ℕ)
value_at version bytes = on_read (read (format.value version) bytes) (λ v rest. and_rest (ValueHead v) rest)

abbrev pub branch_at : List ℕ → Option (Head × List ℕ)
branch_at bytes = on_read (look Truth bytes) (λ taken rest. on_read (look Number rest) (λ count rest. and_rest (BranchHead taken count) rest))

abbrev pub rows_at : List ℕ → Option (Head × List ℕ)
rows_at bytes = on_read (look Number bytes) (λ count rest. and_rest (RowsHead count) rest)

abbrev pub head_by : Version → ℕ → List ℕ → Option (Head × List ℕ)
head_by version tag rest = cond (nat_eq tag 0x31) (value_at version rest) (cond (nat_eq tag 0x32) (branch_at rest) (cond (nat_eq tag 0x33) (rows_at rest) None))

-- the front of the entry that stands first, and the bytes after it
unfoldable pub head : Version → List ℕ → Option (Head × List ℕ)
head version bytes = on_read (look Byte bytes) (λ tag rest. head_by version tag rest)

-- as the code has it
abbrev pub seen_head : code.Head → Head
seen_head (heads.Value item) = ValueHead (value_seen item)
seen_head (heads.Branch taken count) = BranchHead taken count
seen_head (heads.Rows count) = RowsHead count

abbrev pub seen : code.Head × Bor (List ℕ) → Head × List ℕ
seen x = (seen_head x.0, x.1.now)

abbrev pub fault_seen : LentFault → NodeFault
fault_seen f = record { step = f.step; at = f.at; fault = record { code = f.code; text = f.text.now } }

abbrev pub end_seen : Option LentFault → Option NodeFault
end_seen None = None
end_seen (Some f) = Some (fault_seen f)

-- Where a node's end stands first, this is the step of its fault.
abbrev pub EndsAt : Version → List ℕ → Option ℕ → Type 0
EndsAt version bytes step = (f : Option NodeFault) (rest : List ℕ) → read (end version) bytes ≡ Ok (f, rest) → step ≡ step_of f
