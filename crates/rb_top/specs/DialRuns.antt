-- Runs of a program over a link that a Dial gave, which comes back to it.
use Rattle.std.specs.Prelude.{◌≡◌, ◌⊎◌, ℕ, List, option_map, Ok, Err, codes}
use Rattle.rb_trees.specs.mirror.Declarations.{Program}
use Rattle.rb_meaning.specs.Shown.{line}
use Rattle.rb_base.specs.Devices.{Device}
use Rattle.rb_base.specs.declared.links.Link as links
use Rattle.rb_session.specs.Dials.{DialSeen, IsDialled, TakesNext, after_back, after_dial, one_more_out}
use Rattle.rb_session.specs.declared.dials.DialStop.TheVariants as stops
use Rattle.rb_session.specs.declared.targets.Target.{Target}
use Rattle.rb_top.specs.Ends.{Ends}
use Rattle.rb_top.specs.LinkRuns.{Closing, IsNew, RunsOverLink, run_end}
use Rattle.rb_top.specs.Runs.{Served}
use Rattle.rb_top.specs.declared.status.Status.{Status}
use Rattle.rb_top.specs.declared.status.Status.TheVariants.{DialFault, Memory}

-- the Dial after a link in memory was taken as one of its own, and came back so
abbrev pub around_and_back : {L : Type 0} → links.Ghosts L → L → DialSeen L → DialSeen L
around_and_back g link d = after_back g link (record d { told = option_map one_more_out d.told })

-- A program was run over a link to a new server of the service, with its table. What closes the run was said after its lines, and the
-- link came back. Where memory ran out before there was a link, nothing was printed.
pub data RunsInMemory {L : Type 0} (g : links.Ghosts L) (closing : Closing L) (p : Program) (fuel : ℕ) (served : Served) (result : Status) (dial after_it : DialSeen L) (before after : Device (List ℕ)) : Type 0 where
  ran_in_memory : (link left : L) → IsNew g served link → RunsOverLink g closing p fuel link left result before after
      → after_it ≡ around_and_back g left dial → RunsInMemory g closing p fuel served result dial after_it before after
  starved_for_link : result ≡ Memory → after_it ≡ dial → after ≡ before → RunsInMemory g closing p fuel served result dial after_it before after

-- No link was had: memory was wanting before the Dial was asked, or in it.
abbrev pub HadNone : {L : Type 0} → Target → DialSeen L → DialSeen L → Type 0
HadNone target dial after_it = (after_it ≡ dial) ⊎ (after_it ≡ after_dial target (Err stops.Memory) dial)

-- A target was dialled, and a program was run over its link, which came back; no other was dialled. Or it can't be dialled, and that
-- was said.
pub data Dials {L : Type 0} (g : links.Ghosts L) (text : List ℕ) (p : Program) (fuel : ℕ) (target : Target) (result : Status) (dial after_it : DialSeen L) (before after : Device (List ℕ)) : Type 0 where
  ran_over_link : (link left : L) → TakesNext target (Ok link) dial.told → IsDialled g link → RunsOverLink g (run_end text) p fuel link left result before after
      → after_it ≡ after_back g left (after_dial target (Ok link) dial) → Dials g text p fuel target result dial after_it before after
  not_dialled : TakesNext target (Err stops.Failed) dial.told → Ends DialFault (line (codes "dial fault")) result before after
      → after_it ≡ after_dial target (Err stops.Failed) dial → Dials g text p fuel target result dial after_it before after
  starved_dialling : result ≡ Memory → HadNone target dial after_it → after ≡ before → Dials g text p fuel target result dial after_it before after
