-- A run of a program on a service and its table.
use Rattle.std.specs.Prelude.{◌≡◌, ℕ, List, ◌++◌, Result}
use Rattle.rb_trees.specs.mirror.Declarations.{Program}
use Rattle.rb_trees.specs.declared.services.Service as service
use Rattle.rb_trees.specs.mirror.Services.{Service, mirror_service}
use Rattle.rb_trees.specs.declared.services.Object.{Object}
use Rattle.rb_trees.specs.declared.outcomes.Ending.{Ending}
use Rattle.rb_trees.specs.declared.outcomes.Ending.TheVariants as endings
use Rattle.rb_meaning.specs.Meaning.{Meaning, meaning}
use Rattle.rb_meaning.specs.Shown.{exchanges, shown, shown_events}
use Rattle.rb_base.specs.Devices.{Device}
use Rattle.rb_top.specs.Printing.{PrintsUnlessStarved, objects_line, run_end_text}
use Rattle.rb_top.specs.Sources.{accepted_program}
use Rattle.rb_top.specs.declared.printing.PrintStop.{PrintStop}
use Rattle.rb_top.specs.declared.source.Accepted.{Accepted}
use Rattle.rb_top.specs.declared.status.Status.{Status}
use Rattle.rb_top.specs.declared.status.Status.TheVariants.{Done, Faulted}

-- what a program shows by its meaning, but for the table
abbrev pub shown_lines : List ℕ → Meaning → List ℕ
shown_lines source m = shown_events m.events ++ run_end_text source m.ending (exchanges m.events)

-- a service, and the table of its objects
abbrev pub Served : Type 0
Served = Service × List Object

-- a service as it was read, with its table
abbrev pub served_on : service.Service → List Object → Served
served_on s table = (mirror_service s, table)

-- what the program shows by its meaning on the service, its table and a fuel
abbrev pub run_text : List ℕ → ℕ → Program → Served → List ℕ
run_text source fuel p served = shown source (meaning p served.0 served.1 fuel)

-- the same, with how many objects the table has in its place
abbrev pub counted_text : List ℕ → ℕ → Program → Served → List ℕ
counted_text source fuel p served =
    let m = meaning p served.0 served.1 fuel in shown_lines source m ++ objects_line m.table

-- the status of how a program ended
abbrev pub ended_status : Ending → Status
ended_status (endings.Done v) = Done
ended_status (endings.Faulted fault at) = Faulted fault at

-- the status of the program's meaning on the service, its table and a fuel
abbrev pub run_status : ℕ → Program → Served → Status
run_status fuel p served = ended_status (meaning p served.0 served.1 fuel).ending

-- What the program shows on the service was printed, and how it ended was answered. Of want of memory nothing is said.
abbrev pub PrintsRun : List ℕ → ℕ → Program → Served → Result Status PrintStop → Device (List ℕ) → Device (List ℕ) → Type 0
PrintsRun text fuel p served = PrintsUnlessStarved (λ status. status ≡ run_status fuel p served) (run_text text fuel p served)

-- the same of an accepted program
abbrev pub PrintsRunOf : Accepted → ℕ → Served → Result Status PrintStop → Device (List ℕ) → Device (List ℕ) → Type 0
PrintsRunOf x fuel served = PrintsRun x.text.now fuel (accepted_program x) served
