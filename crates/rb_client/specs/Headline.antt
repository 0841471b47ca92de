-- The headline: over an honest link a client's run is what its program means on the server behind the link, on the tables that its
-- batches find there.
use Rattle.std.specs.Prelude.{◌≡◌, ◌⊎◌, ℕ, List, [], ◌∷◌, ◌++◌, map, false, Option, Some, Result, Ok, Err}
use Rattle.rb_trees.specs.declared.outcomes.Raised.{Raised}
use Rattle.rb_trees.specs.declared.outcomes.Run.{Run}
use Rattle.rb_trees.specs.declared.values.Value.{Value}
use Rattle.rb_trees.specs.declared.services.Object.{Object}
use Rattle.rb_trees.specs.mirror.Declarations.{Program}
use Rattle.rb_trees.specs.mirror.Services.{Service}
use Rattle.rb_meaning_code.specs.Dialogue as ask
use Rattle.rb_meaning_code.specs.Dialogue.{Outcome, Dialogue, Ask, AskBatch}
use Rattle.rb_meaning_code.specs.State.{Local}
use Rattle.rb_meaning.specs.ConstantLists.{takes_too_many}
use Rattle.rb_meaning.specs.Links.{Behind}
use Rattle.rb_meaning.specs.Meaning.{Around, Meaning, at_batch, meaning_with}
use Rattle.rb_meaning.specs.Others.{Others, becomes}
use Rattle.rb_meaning.specs.Shown.{exchanges, line, shown_events}
use Rattle.rb_meaning.specs.State.{Event}
use Rattle.rb_meaning.specs.Unsplit.{batch_at, performs_batch, server_after}
use Rattle.rb_meaning_flow.specs.Outermost.{Outermost}
use Rattle.rb_law_script.specs.Remote.{remote_part}
use Rattle.rb_law_client.specs.Reached.{ProgramComesTo}
use Rattle.rb_base.specs.Devices.{failed}
use Rattle.rb_base.specs.Links.{Finds, FindsFitting, FindsStanding}
use Rattle.rb_base.specs.Sinks.{with_bytes, WrotePrefix}
use Rattle.rb_client.specs.Runs.{FailsWithin}
use Rattle.rb_client.specs.Scenes.{Scene}
use Rattle.rb_client.specs.Servers.{IsServer}
use Rattle.rb_client.specs.declared.stops.RunStop.{RunStop}
use Rattle.rb_client.specs.declared.stops.RunStop.TheVariants as stops

-- what a program means on a server where others do this
abbrev pub meant_on : Program → ℕ → Behind → List Others → Meaning
meant_on p fuel b others = meaning_with p b.service b.table others fuel

-- The run ended as the program means, with one exchange for each batch that it begins; its lines were written, and the tables that
-- its batches find and leave are those that the server noted, the last of which stands.
pub record MeansProgram (p : Program) (fuel : ℕ) (b : Behind) (others : List Others) (run : Run) (before after : Scene) : Type 0 where
  pub ending_so : run.ending ≡ (meant_on p fuel b others).ending
  pub exchanges_so : run.exchanges ≡ exchanges (meant_on p fuel b others).events
  pub written : after.out ≡ with_bytes before.out (shown_events (meant_on p fuel b others).events)
  pub server_so : let m = meant_on p fuel b others in IsServer after.server b m.found m.left m.table

-- the table that the whole remote part of a batch leaves
abbrev pub table_behind : Program → Service → Outermost → Local → List Object → List Object
table_behind p service o l table = (server_after (remote_part p service o l table)).table

-- The server has noted what the program's batches found and left, and has this table.
abbrev pub StandsAt : Behind → Around → List Object → Scene → Type 0
StandsAt b a table after = IsServer after.server b a.found a.left table

-- The request of a batch was lost. It found a table that may be found there, and the server has that table, or the one that the
-- batch's remote part leaves of it.
pub record LosesRequest (Found : Finds) (p : Program) (b : Behind) (o : Outermost) (l : Local) (a : Around) (after : Scene) : Type 0 where
  pub table : List Object
  pub found : Found (record b { table = a.outside.server.table }) table
  pub stands : StandsAt b a table after ⊎ StandsAt b a (table_behind p b.service o l table) after

-- The exchange after so many failed, in a batch that the program begins. The lines are those that it means to show before that
-- batch.
pub record LosesBatch (Found : Finds) (p : Program) (fuel : ℕ) (b : Behind) (others : List Others) (k : ℕ) (before after : Scene) : Type 0 where
  pub at : ℕ
  pub local : Local
  pub go : Outcome (Unit {0}) → Dialogue (Outcome (Option Value))
  pub around : Around
  pub batch : Outermost
  pub comes : ProgramComesTo p b.service b.table others fuel (AskBatch at local go) around
  pub stands : batch_at p at ≡ Some batch
  pub begins : takes_too_many p batch local.names ≡ false
  pub count : k ≡ exchanges around.outside.events
  pub written : after.out ≡ with_bytes before.out (shown_events around.outside.events)
  pub loses : LosesRequest Found p b batch local around after

-- A write failed in a line that the program comes to. The server has the table of then.
pub record LosesAtLine (p : Program) (fuel : ℕ) (b : Behind) (others : List Others) (before after : Scene) : Type 0 where
  pub at : ℕ
  pub bytes : List ℕ
  pub go : Result Value Raised → Dialogue (Outcome (Option Value))
  pub around : Around
  pub comes : ProgramComesTo p b.service b.table others fuel (Ask (ask.Line at bytes) go) around
  pub written : FailsWithin before.out after.out around.outside.events (line bytes)
  pub stands : StandsAt b around around.outside.server.table after

-- A write failed within the own events of a batch that the program comes to and begins. The server has noted the table that the
-- batch found, and has the one that its whole remote part leaves.
pub record LosesInBatch (p : Program) (fuel : ℕ) (b : Behind) (others : List Others) (before after : Scene) : Type 0 where
  pub at : ℕ
  pub local : Local
  pub go : Outcome (Unit {0}) → Dialogue (Outcome (Option Value))
  pub around : Around
  pub batch : Outermost
  pub own : List Event
  pub comes : ProgramComesTo p b.service b.table others fuel (AskBatch at local go) around
  pub stands : batch_at p at ≡ Some batch
  pub begins : takes_too_many p batch local.names ≡ false
  pub own_so : (performs_batch p b.service batch local (at_batch around)).1.events ≡ around.outside.events ++ own
  pub written : FailsWithin before.out after.out around.outside.events (shown_events own)
  pub served : let found = (at_batch around).server.table in
      let left = table_behind p b.service batch local found in
      IsServer after.server b (around.found ++ found ∷ []) (around.left ++ left ∷ []) left

-- A write failed, at a line or in a batch. So a front of the lines that the program means to show was written.
pub record LosesLines (p : Program) (fuel : ℕ) (b : Behind) (others : List Others) (before after : Scene) : Type 0 where
  pub place : LosesAtLine p fuel b others before after ⊎ LosesInBatch p fuel b others before after
  pub written : WrotePrefix (failed before.out) after.out (shown_events (meant_on p fuel b others).events)

-- How a run ends that began on this server: as the program means there where others do this, unless an exchange or a write failed. No
-- reply is refused. Nothing is said after want of memory.
abbrev pub EndsAsMeant : Finds → Program → ℕ → Behind → List Others → Result Run RunStop → Scene → Scene → Type 0
EndsAsMeant Found p fuel b others (Ok run) before after = MeansProgram p fuel b others run before after
EndsAsMeant Found p fuel b others (Err (stops.LinkFault k)) before after = LosesBatch Found p fuel b others k before after
EndsAsMeant Found p fuel b others (Err (stops.BadReply k why kind bytes)) before after = ⊥
EndsAsMeant Found p fuel b others (Err stops.WriteFault) before after = LosesLines p fuel b others before after
EndsAsMeant Found p fuel b others (Err stops.Memory) before after = Unit {0}

-- So it is over an honest link, which tells its server, where the batches find some tables. They are those that the server notes.
abbrev pub MeansWhereHonest : Program → ℕ → Result Run RunStop → Scene → Scene → Type 0
MeansWhereHonest p fuel result before after = before.honest → (b : Behind) → before.server ≡ Some b
    → (finds : List (List Object)) × EndsAsMeant FindsFitting p fuel b (map becomes finds) result before after

-- Over one that is quiet, too, nobody else changes the table.
abbrev pub MeansWhereQuiet : Program → ℕ → Result Run RunStop → Scene → Scene → Type 0
MeansWhereQuiet p fuel result before after = before.honest → before.quiet → (b : Behind) → before.server ≡ Some b
    → EndsAsMeant FindsStanding p fuel b [] result before after
