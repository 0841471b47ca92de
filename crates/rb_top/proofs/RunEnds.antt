-- The lines of a run and what follows them are what the program means to show.
use Rattle.std.proofs.Common.{◌≡◌, ℕ, List, ◌++◌, Result, Ok, Err, codes, ap, sym, ◌∙◌, subst, append_assoc}
use Rattle.std.specs.Fmt.{decimal}
use Rattle.rb_trees.specs.declared.outcomes.Run.{Run}
use Rattle.rb_trees.specs.declared.services.Object.{Object}
use Rattle.rb_meaning.specs.Meaning.{Meaning}
use Rattle.rb_meaning.specs.Shown.{line, exchanges, shown, shown_ending, shown_events, shown_table}
use Rattle.rb_base.specs.Devices.{Device, failed}
use Rattle.rb_base.specs.Sinks.{with_bytes, WrotePrefix}
use Rattle.rb_base.proofs.Pieces.{both_whole}
use Rattle.rb_plain.specs.Unsplit.{Leaves}
use Rattle.rb_top.specs.Printing.{PrintsAnswering, PrintsUnlessStarved, end_text, end_text_in, objects_line, run_end_text}
use Rattle.rb_top.specs.Runs.{ended_status, shown_lines}
use Rattle.rb_top.specs.declared.printing.PrintStop.{PrintStop}
use Rattle.rb_top.specs.declared.printing.PrintStop.TheVariants as print
use Rattle.rb_top.specs.declared.status.Status.{Status}
use Rattle.rb_top.specs.declared.words.Way.{Way}
use Rattle.rb_top.specs.declared.words.Way.TheVariants as ways
use Rattle.rb_top.proofs.Printed.{stops_first, stops_next}

-- what follows the lines of a meaning
abbrev pub ending_text : List ℕ → Meaning → List ℕ
ending_text text m = end_text text m.ending (exchanges m.events) m.table

pub shown_so : (text : List ℕ) (m : Meaning) → shown text m ≡ shown_events m.events ++ ending_text text m
shown_so text m =
    let lines = shown_events m.events in
    let ended = line (shown_ending text m.ending) in
    let count = line (codes "exchanges " ++ decimal (exchanges m.events)) in
    let left = shown_table 0 m.table in
    ap (λ t. t ++ left) (append_assoc lines ended count) ∙ append_assoc lines (ended ++ count) left

-- and in some way of a run
abbrev pub ending_text_in : Way → List ℕ → Meaning → List ℕ
ending_text_in way text m = end_text_in way text m.ending (exchanges m.events) m.table

pub counted_so : (text : List ℕ) (m : Meaning) → shown_lines text m ++ objects_line m.table ≡ shown_events m.events ++ ending_text_in ways.Trial text m
counted_so text m = append_assoc (shown_events m.events) (run_end_text text m.ending (exchanges m.events)) (objects_line m.table)

-- What a meaning shows was printed, and how it ends was answered. Of want of memory nothing is said.
abbrev pub PrintsMeaning : List ℕ → Meaning → Result Status PrintStop → Device (List ℕ) → Device (List ℕ) → Type 0
PrintsMeaning text m = PrintsUnlessStarved (λ status. status ≡ ended_status m.ending) (shown text m)

-- A run printed the lines of a meaning, and left what it leaves. Of want of memory nothing is said.
abbrev pub RunsMeaning : Meaning → List Object → Result Run PrintStop → Device (List ℕ) → Device (List ℕ) → Type 0
RunsMeaning m table = PrintsUnlessStarved (λ run. Leaves m run table) (shown_events m.events)

-- a run that was cut off
pub lines_cut : (text : List ℕ) (m : Meaning) (table : List Object) (stop : PrintStop) (before after : Device (List ℕ)) → RunsMeaning m table (Err stop) before after → PrintsMeaning text m (Err stop) before after
lines_cut text m table print.Memory before after h = tt
lines_cut text m table print.WriteFault before after h =
    subst (λ t. WrotePrefix (failed before) after t) (sym (shown_so text m)) (stops_first print.WriteFault before after (shown_events m.events) (ending_text text m) h)

-- what follows the lines is that of the meaning
follows : (text : List ℕ) (m : Meaning) (run : Run) (table : List Object) → Leaves m run table → end_text text run.ending run.exchanges table ≡ ending_text text m
follows text m run table l =
    ap (λ x. end_text text x run.exchanges table) l.ending_so ∙ ap (λ n. end_text text m.ending n table) l.exchanges_so ∙ ap (end_text text m.ending (exchanges m.events)) l.table_so

-- a run whose lines were printed, and then what follows them
pub run_told : (text : List ℕ) (m : Meaning) (run : Run) (table : List Object) (r : Result Status PrintStop) (before mid after : Device (List ℕ)) → RunsMeaning m table (Ok run) before mid
    → PrintsAnswering (ended_status run.ending) (end_text text run.ending run.exchanges table) r mid after → PrintsMeaning text m r before after
run_told text m run table (Ok status) before mid after h printed = (
  printed.0 ∙ ap ended_status h.0.ending_so,
  both_whole before mid after (shown_events m.events) (ending_text text m) h.1 (printed.1 ∙ ap (with_bytes mid) (follows text m run table h.0))
      ∙ ap (with_bytes before) (sym (shown_so text m)),
)
run_told text m run table (Err print.WriteFault) before mid after h printed =
    subst (λ t. WrotePrefix (failed before) after t) (sym (shown_so text m))
    (stops_next print.WriteFault before mid after (shown_events m.events) (ending_text text m) h.1 (subst (WrotePrefix (failed mid) after) (follows text m run table h.0) printed))
run_told text m run table (Err print.Memory) before mid after h printed = tt
