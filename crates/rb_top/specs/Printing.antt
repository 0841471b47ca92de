-- What a call that prints leaves of the output.
use Rattle.std.specs.Prelude.{◌≡◌, ℕ, suc, List, ◌++◌, Result, Ok, Err, codes, length, min}
use Rattle.std.specs.Fmt.{decimal}
use Rattle.std.specs.List.{position_or_len}
use Rattle.rb_trees.specs.declared.services.Object.{Object}
use Rattle.rb_trees.specs.declared.outcomes.Ending.{Ending}
use Rattle.rb_meaning.specs.Place.{is_line_feed}
use Rattle.rb_meaning.specs.Shown.{line, shown_ending, shown_table}
use Rattle.rb_base.specs.Devices.{Device, failed}
use Rattle.rb_base.specs.Sinks.{with_bytes, WrotePrefix}
use Rattle.rb_plain.specs.declared.run.PlainStop.{PlainStop}
use Rattle.rb_plain.specs.declared.run.PlainStop.TheVariants as plain
use Rattle.rb_top.specs.declared.printing.PrintStop.{PrintStop}
use Rattle.rb_top.specs.declared.printing.PrintStop.TheVariants.{WriteFault, Memory}
use Rattle.rb_top.specs.declared.status.Status.{Status}
use Rattle.rb_top.specs.declared.status.Status.TheVariants as statuses
use Rattle.rb_top.specs.declared.words.Way.{Way}
use Rattle.rb_top.specs.declared.words.Way.TheVariants.{Trial}

-- how many bytes the first line of a text has: those up to its first line feed, and that; or all where there is none
abbrev pub first_line_length : List ℕ → ℕ
first_line_length text = min (length text) (suc (position_or_len is_line_feed text))

-- how a run that was cut off stops the printing of it
abbrev pub stop_of : PlainStop → PrintStop
stop_of plain.WriteFault = WriteFault
stop_of plain.Memory = Memory

-- the status where not all was printed
abbrev pub stopped_status : PrintStop → Status
stopped_status WriteFault = statuses.WriteFault
stopped_status Memory = statuses.Memory

-- the output with one fault more where a write failed, and with none where memory was wanting
abbrev pub stopped : PrintStop → Device (List ℕ) → Device (List ℕ)
stopped WriteFault out = failed out
stopped Memory out = out

-- All of the text was printed; or a front of it, and the output stopped so.
abbrev pub Prints : {A : Type 0} → List ℕ → Result A PrintStop → Device (List ℕ) → Device (List ℕ) → Type 0
Prints text (Ok a) before after = after ≡ with_bytes before text
Prints text (Err stop) before after = WrotePrefix (stopped stop before) after text

-- The same, and what is answered is what is wanted.
abbrev pub PrintsAnswering : {A : Type 0} → A → List ℕ → Result A PrintStop → Device (List ℕ) → Device (List ℕ) → Type 0
PrintsAnswering wanted text (Ok a) before after = (a ≡ wanted) × (after ≡ with_bytes before text)
PrintsAnswering wanted text (Err stop) before after = WrotePrefix (stopped stop before) after text

-- The whole text was printed, and what is answered is such; or a front of it, and a write failed. Of want of memory nothing is
-- said.
abbrev pub PrintsUnlessStarved : {A : Type 0} → (A → Type 0) → List ℕ → Result A PrintStop → Device (List ℕ) → Device (List ℕ) → Type 0
PrintsUnlessStarved IsSuch text (Ok a) before after = IsSuch a × (after ≡ with_bytes before text)
PrintsUnlessStarved IsSuch text (Err WriteFault) before after = WrotePrefix (failed before) after text
PrintsUnlessStarved IsSuch text (Err Memory) before after = Unit {0}

-- what follows the lines of a run: how it ended, and how often it exchanged
abbrev pub run_end_text : List ℕ → Ending → ℕ → List ℕ
run_end_text source ending count = line (shown_ending source ending) ++ line (codes "exchanges " ++ decimal count)

-- the same, and the table
abbrev pub end_text : List ℕ → Ending → ℕ → List Object → List ℕ
end_text source ending count table = run_end_text source ending count ++ shown_table 0 table

-- the line that says how many objects a table has
abbrev pub objects_line : List Object → List ℕ
objects_line table = line (codes "objects " ++ decimal (length table))

-- the same as `end_text`, and that line in place of the table
abbrev pub counted_end_text : List ℕ → Ending → ℕ → List Object → List ℕ
counted_end_text source ending count table = run_end_text source ending count ++ objects_line table

-- what follows the lines of a run in some way that left a table
abbrev pub end_text_in : Way → List ℕ → Ending → ℕ → List Object → List ℕ
end_text_in Trial source ending count table = counted_end_text source ending count table
end_text_in way source ending count table = end_text source ending count table
