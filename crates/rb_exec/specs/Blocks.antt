-- How steps and blocks, as the code runs them, stand to what they mean.
use Rattle.std.specs.Prelude.{◌≡◌, ℕ, List, ◌++◌, length, Bool, true, false, is_some, Option, None, Some, Result, Ok, Err, MatchResult}
use Rattle.rb_trees.specs.declared.values.Value.{Value}
use Rattle.rb_trees.specs.declared.values.Fault.{Fault}
use Rattle.rb_trees.specs.declared.versions.Version.{Version}
use Rattle.rb_trees.specs.mirror.Forests as forest
use Rattle.rb_trees.specs.mirror.Forests.{Node, Holds, Entries, NoEntries, MoreEntries}
use Rattle.rb_meaning_bytes.specs.formats.ForestBytes.{end_bytes, node_bytes}
use Rattle.rb_meaning_code.specs.Faults.{fuel_used}
use Rattle.rb_meaning_code.specs.Remote.{Server}
use Rattle.rb_meaning_code.specs.ScriptRun.{Vars, PlacedFault, Ran, Turned, Why, AllDone, InTurn, NoUnit, with_entry, stopped, halted}
use Rattle.rb_wire_fields.specs.Buffers.{Keeps}
use Rattle.rb_exec.specs.Stages.{Rest, Meaning, Course}
use Rattle.rb_exec.specs.Ends.{StopsBy, UnlessMemory}
use Rattle.rb_exec.specs.Written.{Written, written, AddsNodes, Gains}
use Rattle.rb_exec.specs.declared.run.Run.{Run}
use Rattle.rb_exec.specs.declared.ends.Stop.{Stop}
use Rattle.rb_exec.specs.declared.ends.Stop.TheVariants as stop
use Rattle.rb_exec.specs.declared.turns.TurnsEnd.{TurnsEnd}
use Rattle.rb_exec.specs.declared.turns.TurnsEnd.TheVariants as ends

-- with entries before the others
abbrev pub with_entries : Entries → Ran → Ran
with_entries NoEntries r = r
with_entries (MoreEntries e es) r = with_entry e (with_entries es r)

-- Bindings were only added.
abbrev pub Extends : Vars → Vars → Type 0
Extends before after = (more : Vars) × (after ≡ more ++ before)

-- unless memory ran out
abbrev pub Binds : Result (Unit {0}) Stop → Vars → Vars → Type 0
Binds (Ok u) before after = Extends before after
Binds (Err (stop.Fault f)) before after = Extends before after
Binds (Err stop.Within) before after = Extends before after
Binds (Err stop.Memory) before after = Unit {0}

-- where entries are written in a version
module _ {version : Version} where
  -- What steps did, whatever follows them: they gave entries and went on; or a fault of their node stopped them, or one
  -- that stands within their last entry. For want of memory the buffer kept its bytes.
  abbrev pub Does : Meaning → Written version → Result (Unit {0}) Stop → Written version → Vars → Server → Type 0
  Does meaning before (Ok u) after vars s = Gains before after (λ es. (go : Rest) → meaning go ≡ with_entries es (go vars s))
  Does meaning before (Err (stop.Fault f)) after vars s =
      Gains before after (λ es. (go : Rest) → meaning go ≡ with_entries es (stopped f.step f.at f.fault s))
  Does meaning before (Err stop.Within) after vars s =
      Gains before after (λ es. (f : PlacedFault) × ((go : Rest) → meaning go ≡ with_entries es (halted f s)))
  Does meaning before (Err stop.Memory) after vars s = Keeps before.bytes after.bytes

  -- what running steps ensures: what they did, and that they only bound variables
  pub record Did (meaning : Meaning) (before : Written version) (old : Vars) (result : Result (Unit {0}) Stop) (after : Written version) (new : Vars) (server : Server) : Type 0 where
    pub does : Does meaning before result after new server
    pub binds : Binds result old new

-- the same of a run that performs them and writes their entries in a version, with a count of them
abbrev pub Runs : Version → Course → ℕ → Run → Result (Unit {0}) Stop → ℕ → Run → Type 0
Runs version course count old result counted new =
    let before = written version old.bytes.items count in
    Did (course old.variables old.server) before old.variables result (written version new.bytes.items counted) new.variables new.server

-- the same of a step without an entry, whatever is counted
abbrev pub RunsQuietly : Version → Course → Run → Result (Unit {0}) Stop → Run → Type 0
RunsQuietly version course old result new = (count : ℕ) → Runs version course count old result count new

-- The bindings that are older than so many are left.
abbrev pub Closes : ℕ → Vars → Vars → Type 0
Closes count old new = (more rest : Vars) → old ≡ more ++ rest → count ≡ length rest → new ≡ rest

-- A block was performed: the buffer has gained its node in a version, this tells whether a fault stopped it, and the server
-- is the one after it.
pub record WroteNode (version : Version) (meant : Ran) (old : List ℕ) (stopped : Bool) (new : List ℕ) (server : Server) : Type 0 where
  pub bytes : new ≡ old ++ node_bytes version meant.node
  pub stopped_so : stopped ≡ is_some meant.fault
  pub server_so : server ≡ meant.server

abbrev pub end_of : Why → TurnsEnd
end_of AllDone = ends.AllDone
end_of (InTurn f) = ends.InTurn
end_of NoUnit = ends.NoUnit

-- Turns were performed: the buffer has gained their nodes, this tells why they ended, and the server is the one after them.
pub record WroteTurns {version : Version} (meant : Turned) (before : Written version) (end : TurnsEnd) (after : Written version) (server : Server) : Type 0 where
  pub adds : AddsNodes meant.nodes before after
  pub end_so : end ≡ end_of meant.why
  pub server_so : server ≡ meant.server

-- what a run ensures that performs a block and writes its node in a version
abbrev pub RunsBlock : Version → (Vars → Server → Ran) → Run → Result Bool Stop → Run → Type 0
RunsBlock version meant old result new =
    UnlessMemory result (λ stopped. WroteNode version (meant old.variables old.server) old.bytes.items stopped new.bytes.items new.server)

-- what a run ensures that performs turns, with a count of their nodes
abbrev pub RunsTurns : Version → (Vars → Server → Turned) → ℕ → Run → Result TurnsEnd Stop → ℕ → Run → Type 0
RunsTurns version meant count old result counted new =
    let before = written version old.bytes.items count in
    UnlessMemory result (λ end. WroteTurns (meant old.variables old.server) before end (written version new.bytes.items counted) new.server)

-- the node that has a fault as its only content
abbrev pub faulted_node : ℕ → ℕ → Fault → Node
faulted_node step at fault = Holds NoEntries (Some (record { step = step; at = at; fault = fault }))

-- the entry of a value alone
abbrev pub one_value : Value → Entries
one_value v = MoreEntries (forest.Value v) NoEntries

-- the entry of a value, where there is one
abbrev pub first_entries : Option Value → Entries
first_entries None = NoEntries
first_entries (Some v) = one_value v

-- What stands behind the entries of a node whose steps ended so, and whether a fault stopped them.
abbrev pub Ended : Version → Result (Unit {0}) Stop → List ℕ → Bool → List ℕ → Type 0
Ended version (Ok u) old halts new = (halts ≡ false) × (new ≡ old ++ end_bytes version None)
Ended version (Err (stop.Fault f)) old halts new = (halts ≡ true) × (new ≡ old ++ end_bytes version (Some f))
Ended version (Err stop.Within) old halts new = (halts ≡ true) × (new ≡ old ++ end_bytes version None)
Ended version (Err stop.Memory) old halts new = ⊥

-- how the steps go on after turns, where only a fault may want memory
abbrev pub EndsTurns : ℕ → ℕ → TurnsEnd → Result (Unit {0}) Stop → Type 0
EndsTurns id at ends.AllDone result = result ≡ Ok tt
EndsTurns id at ends.InTurn result = result ≡ Err stop.Within
EndsTurns id at ends.NoUnit result = MatchResult result (λ a. ⊥) (StopsBy (record { step = id; at = at; fault = fuel_used }))
