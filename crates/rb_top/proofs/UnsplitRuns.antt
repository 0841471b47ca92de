-- A run of a program as it stands, by the code of its service's classes, prints what the program means on that service.
use Rattle.std.proofs.Common.{◌≡◌, ℕ, List, [], map, Result, Ok, Err, subst}
use Rattle.rb_trees.specs.declared.declarations.Class as class
use Rattle.rb_trees.specs.declared.outcomes.Run.{Run}
use Rattle.rb_trees.specs.declared.services.Change.{Change}
use Rattle.rb_trees.specs.declared.services.Object.{Object}
use Rattle.rb_trees.specs.declared.services.Service as service
use Rattle.rb_trees.specs.mirror.Declarations.{Program}
use Rattle.rb_trees.specs.mirror.Services.{mirror_service}
use Rattle.rb_meaning.specs.Changes.{all_changed}
use Rattle.rb_meaning.specs.Meaning.{Meaning, meaning_with}
use Rattle.rb_meaning.specs.Shown.{shown_events}
use Rattle.rb_base.specs.Devices.{Device}
use Rattle.rb_plain.specs.declared.run.PlainStop.{PlainStop}
use Rattle.rb_plain.specs.declared.run.PlainStop.TheVariants as plain
use Rattle.rb_plain.specs.Unsplit.{WritesUnlessStarved}
use Rattle.rb_top.specs.Printing.{PrintsAnswering, stop_of, end_text}
use Rattle.rb_top.specs.Runs.{ended_status, PrintsRun}
use Rattle.rb_top.specs.declared.printing.PrintStop.{PrintStop}
use Rattle.rb_top.specs.declared.printing.PrintStop.TheVariants as print
use Rattle.rb_top.specs.declared.status.Status.{Status}
use Rattle.rb_top.proofs.RunEnds.{RunsMeaning, lines_cut, run_told}

-- the meaning on a service, by the code of its classes, where others make these changes; nobody makes any
abbrev pub meant_by : Program → List class.Class → ℕ → List Object → List (List Change) → ℕ → Meaning
meant_by p classes root table others fuel =
    meaning_with p (mirror_service (record { classes = classes; root = root })) table (map all_changed others) fuel

-- the run was cut off
pub run_cut : (text : List ℕ) (fuel : ℕ) (p : Program) (s : service.Service) (classes : List class.Class) (table : List Object) (others : List (List Change)) (stop : PlainStop) (before after : Device (List ℕ)) → classes ≡ s.classes → others ≡ []
    → WritesUnlessStarved {A = Unit {0}} (shown_events (meant_by p classes s.root table others fuel).events) (Err stop) before after
    → PrintsRun text fuel p (mirror_service s, table) (Err (stop_of stop)) before after
run_cut text fuel p s classes table others plain.Memory before after e none h = tt
run_cut text fuel p s classes table others plain.WriteFault before after e none h =
    lines_cut text (meant_by p s.classes s.root table [] fuel) table print.WriteFault before after
    (subst (λ os. RunsMeaning (meant_by p s.classes s.root table os fuel) table (Err print.WriteFault) before after) none
    (subst (λ cs. RunsMeaning (meant_by p cs s.root table others fuel) table (Err print.WriteFault) before after) e h))

-- it ended, and that was printed
pub run_ended : (text : List ℕ) (fuel : ℕ) (p : Program) (s : service.Service) (classes : List class.Class) (table : List Object) (others : List (List Change)) (run : Run) (left : List Object) (r : Result Status PrintStop) (before mid after : Device (List ℕ)) → classes ≡ s.classes → others ≡ []
    → RunsMeaning (meant_by p classes s.root table others fuel) left (Ok run) before mid → PrintsAnswering (ended_status run.ending) (end_text text run.ending run.exchanges left) r mid after
    → PrintsRun text fuel p (mirror_service s, table) r before after
run_ended text fuel p s classes table others run left r before mid after e none h printed =
    run_told text (meant_by p s.classes s.root table [] fuel) run left r before mid after
    (subst (λ os. RunsMeaning (meant_by p s.classes s.root table os fuel) left (Ok run) before mid) none
    (subst (λ cs. RunsMeaning (meant_by p cs s.root table others fuel) left (Ok run) before mid) e h)) printed
