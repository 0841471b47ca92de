-- How a call that prints a text ends.
use Rattle.std.proofs.Common.{◌≡◌, ℕ, List, true, false, Option, None, Some, Result, Ok, Err, ◌∙◌, refl, subst, inl, inr}
use Rattle.std.specs.Option.{is_none}
use Rattle.rb_trees.specs.mirror.Declarations.{Program}
use Rattle.rb_base.specs.Devices.{Device}
use Rattle.rb_top.specs.declared.loading.TextStop.{TextStop}
use Rattle.rb_top.specs.declared.loading.TextStop.TheVariants as stops
use Rattle.rb_top.specs.declared.printing.PrintStop.{PrintStop}
use Rattle.rb_top.specs.declared.printing.PrintStop.TheVariants as print
use Rattle.rb_top.specs.declared.status.Status.{Status}
use Rattle.rb_top.specs.declared.status.Status.TheVariants.{Memory}
use Rattle.rb_top.specs.Printing.{Prints}
use Rattle.rb_top.specs.Runs.{Served, PrintsRun}
use Rattle.rb_top.specs.Answers.{EndsRun}
use Rattle.rb_top.specs.Ends.{Ends, whole, cut, starved, fault_line, too_long_line}
use Rattle.rb_top.specs.Commands.{run_answer, status_after, EndsUnread, EndsWith}
use Rattle.rb_top.proofs.Printed.{wrote_none}

pub ends_by : {A : Type 0} (status : Status) (text : List ℕ) (before after : Device (List ℕ)) (r : Result A PrintStop) (result : Status) → result ≡ status_after status r → Prints text r before after → Ends status text result before after
ends_by status text before after (Ok done) result e p = whole e p
ends_by status text before after (Err print.WriteFault) result e p = cut e p
ends_by status text before after (Err print.Memory) result e p = starved e p

pub run_ended : (text : List ℕ) (p : Program) (fuel : ℕ) (served : Served) (r : Result Status PrintStop) (result : Status) (before after : Device (List ℕ)) → result ≡ run_answer r → PrintsRun text fuel p served r before after → EndsRun text p fuel served result before after
run_ended text p fuel served (Ok status) result before after e printed = inl (whole (e ∙ printed.0) printed.1)
run_ended text p fuel served (Err print.WriteFault) result before after e printed = inl (cut e printed)
run_ended text p fuel served (Err print.Memory) result before after e printed = inr e

-- without memory nothing is printed
pub starved_at_once : (status : Status) (text : List ℕ) (before : Device (List ℕ)) → Ends status text Memory before before
starved_at_once status text before = starved refl (wrote_none before text)

-- without memory for the file's name nothing is said
pub starved_unread : (stop : TextStop) (name : List ℕ) (before : Device (List ℕ)) → EndsUnread stop name Memory before before
starved_unread stops.FileFault name before = starved_at_once _ (fault_line name) before
starved_unread stops.TooLong name before = starved_at_once _ (too_long_line name) before
starved_unread stops.Memory name before = (refl, refl)

-- without memory for the line a refusal isn't said
pub starved_line : {D : Type 0} (refusal : Option D) (status : Status) (text : List ℕ) (before : Device (List ℕ)) → EndsWith refusal status text Memory before before
starved_line None status text before = (refl, refl)
starved_line (Some refusal) status text before = starved_at_once status text before

-- memory was wanting already
pub starved_before : {D : Type 0} (refusal : Option D) (status : Status) (text : List ℕ) (before : Device (List ℕ)) → is_none refusal ≡ true → EndsWith refusal status text Memory before before
starved_before None status text before n = (refl, refl)
starved_before (Some refusal) status text before n = absurd (cc)

-- a refusal was said
pub said_line : {D : Type 0} (refusal : Option D) (status : Status) (text shown : List ℕ) (result : Status) (before after : Device (List ℕ)) → is_none refusal ≡ false → shown ≡ text → Ends status shown result before after → EndsWith refusal status text result before after
said_line None status text shown result before after n s e = absurd (cc)
said_line (Some refusal) status text shown result before after n s e = subst (λ t. Ends status t result before after) s e
