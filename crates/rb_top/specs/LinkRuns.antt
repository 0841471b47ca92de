-- Runs of a program over a link: what is exchanged over it, what it leaves, and what is said behind the lines.
use Rattle.std.specs.Prelude.{◌≡◌, ℕ, List, [], true, Option, Some, unwrap_or, Result, Ok, Err}
use Rattle.rb_trees.specs.declared.outcomes.Run.{Run}
use Rattle.rb_trees.specs.mirror.Declarations.{Program}
use Rattle.rb_meaning.specs.Links.{Behind, Told, pairs_told, server_told}
use Rattle.rb_meaning.specs.Shown.{line}
use Rattle.rb_base.specs.Devices.{Device}
use Rattle.rb_base.specs.declared.links.Link as links
use Rattle.rb_client.specs.Headline.{MeansWhereHonest, MeansWhereQuiet}
use Rattle.rb_client.specs.Runs.{FailsAsListed, RunsOver}
use Rattle.rb_client.specs.Scenes as scenes
use Rattle.rb_client.specs.declared.stops.RunStop.{RunStop}
use Rattle.rb_client.specs.declared.stops.RunStop.TheVariants as stops
use Rattle.rb_top.specs.BadReplies.{shown_bad_reply, shown_link_fault}
use Rattle.rb_top.specs.Ends.{Ends}
use Rattle.rb_top.specs.Printing.{counted_end_text, end_text, end_text_in, run_end_text}
use Rattle.rb_top.specs.Runs.{Served, ended_status}
use Rattle.rb_top.specs.declared.status.Status.{Status}
use Rattle.rb_top.specs.declared.status.Status.TheVariants.{LinkFault, BadReply, WriteFault, Memory}
use Rattle.rb_top.specs.declared.words.Way.{Way}

-- a link and an output, as a client's run has them
abbrev pub over : {L : Type 0} → links.Ghosts L → L → Device (List ℕ) → scenes.Scene
over g link out = record {
  pairs = pairs_told (g.told link);
  server = server_told (g.told link);
  faults = g.faults link;
  lends = g.lends link;
  honest = g.honest link;
  quiet = g.quiet link;
  out = out;
}

-- the service behind a link, with its table
abbrev pub served_by : Behind → Served
served_by b = (b.service, b.table)

-- a server of the service, with its table, with which nothing was exchanged yet, and of whose exchanges none fails
abbrev pub new_server : Served → Behind
new_server served = record { service = served.0; table = served.1; found = []; left = []; made = 0; failing = [] }

-- The link leads to a new server of the service, with its table: it tells that server and no pair yet, it is honest and quiet, it
-- lends its server's table, and no fault was counted over it.
pub record IsNew {L : Type 0} (g : links.Ghosts L) (served : Served) (link : L) : Type 0 where
  pub tells : g.told link ≡ Some (record { pairs = []; server = Some (new_server served) })
  pub whole : g.faults link ≡ 0
  pub lends : g.lends link ≡ true
  pub honest : g.honest link
  pub quiet : g.quiet link

-- the server that a link tells; where it tells none, one of no classes
abbrev pub behind_of : Option Told → Behind
behind_of told = unwrap_or (server_told told) (new_server (record { classes = []; root = 0 }, []))

-- what a command says behind the lines of a run that ended, by the link that the run left
abbrev pub Closing : Type 0 → Type 0
Closing L = L → Run → List ℕ

-- how the run ended, and how often it exchanged
abbrev pub run_end : {L : Type 0} → List ℕ → Closing L
run_end text left run = run_end_text text run.ending run.exchanges

-- the same, and the table that the link's server has then
abbrev pub run_end_with_table : {L : Type 0} → links.Ghosts L → List ℕ → Closing L
run_end_with_table g text left run = end_text text run.ending run.exchanges (behind_of (g.told left)).table

-- the same, and how many objects that table has, in place of it
abbrev pub run_end_with_count : {L : Type 0} → links.Ghosts L → List ℕ → Closing L
run_end_with_count g text left run = counted_end_text text run.ending run.exchanges (behind_of (g.told left)).table

-- what is said of a run in some way
abbrev pub run_end_in : {L : Type 0} → links.Ghosts L → Way → List ℕ → Closing L
run_end_in g way text left run = end_text_in way text run.ending run.exchanges (behind_of (g.told left)).table

-- What is said behind the lines of a run that was cut off. After a write fault that is nothing, and of want of memory nothing is said
-- here.
abbrev pub SaysStop : RunStop → Status → Device (List ℕ) → Device (List ℕ) → Type 0
SaysStop (stops.LinkFault k) result before after = Ends (LinkFault k) (line (shown_link_fault k)) result before after
SaysStop (stops.BadReply done why kind bytes) result before after = Ends (BadReply done why kind bytes) (line (shown_bad_reply done why)) result before after
SaysStop stops.WriteFault result before after = (result ≡ WriteFault) × (after ≡ before)
SaysStop stops.Memory result before after = result ≡ Memory

-- What is said behind the lines of a run, by how it was answered.
abbrev pub SaysRun : (Run → List ℕ) → Result Run RunStop → Status → Device (List ℕ) → Device (List ℕ) → Type 0
SaysRun closing (Ok run) result before after = Ends (ended_status run.ending) (closing run) result before after
SaysRun closing (Err stop) result before after = SaysStop stop result before after

-- A program was run over a link, which is left so: the client's run was answered so, with these lines, and then that was said.
pub record RunsOverLink {L : Type 0} (g : links.Ghosts L) (closing : Closing L) (p : Program) (fuel : ℕ) (link left : L) (result : Status) (before after : Device (List ℕ)) : Type 0 where
  pub answer : Result Run RunStop
  pub lines : Device (List ℕ)
  pub runs : RunsOver p fuel answer (over g link before) (over g left lines)
  pub lists : FailsAsListed answer (over g link before) (over g left lines)
  pub means : MeansWhereHonest p fuel answer (over g link before) (over g left lines)
  pub means_alone : MeansWhereQuiet p fuel answer (over g link before) (over g left lines)
  pub says : SaysRun (closing left) answer result lines after
