-- What a trial answers, by what is answered over files that hold its texts.
use Rattle.std.proofs.Common.{◌≡◌, ◌⊎◌, ℕ, List, Some, inl, inr, subst}
use Rattle.rb_trees.specs.mirror.Declarations.{Program}
use Rattle.rb_base.specs.Devices.{Device}
use Rattle.rb_base.specs.Directories.{Directory, FilesInMemory, directory_of}
use Rattle.rb_base.specs.declared.links.Link as links
use Rattle.rb_session.specs.Dials.{DialSeen}
use Rattle.rb_top.specs.Answers.{RunsBy, SaysOfProgram, Tries, tried}
use Rattle.rb_top.specs.DialRuns.{RunsInMemory}
use Rattle.rb_top.specs.LinkRuns.{run_end_in}
use Rattle.rb_top.specs.Runs.{Served}
use Rattle.rb_top.specs.Scene.{Scene}
use Rattle.rb_top.specs.Trials.{asked_in_trial, trial_in_memory}
use Rattle.rb_top.specs.Words.{Asked}
use Rattle.rb_top.specs.declared.status.Status.{Status}
use Rattle.rb_top.specs.declared.words.Way.{Way}
use Rattle.rb_top.specs.declared.words.Way.TheVariants as ways

-- files in memory and an output
abbrev over_memory : FilesInMemory → Device (List ℕ) → Scene
over_memory files out = record { files = record { told = Some (directory_of files); faults = files.faults }; out = out }

pub tried_over : {L : Type 0} (g : links.Ghosts L) (n : ℕ) (files : FilesInMemory) (a : Asked) (result : Status) (dial dial' : DialSeen L) (before after : Device (List ℕ)) (left : Device Directory) → files ≡ trial_in_memory n → a ≡ asked_in_trial
    → SaysOfProgram g a result dial dial' (over_memory files before) (record { files = left; out = after }) → Tries g n result dial dial' before after
tried_over g n files a result dial dial' before after left f e said =
    let asked = subst (λ b. SaysOfProgram g b result dial dial' (over_memory files before) (record { files = left; out = after })) e said in
    tried left (subst (λ fs. SaysOfProgram g asked_in_trial result dial dial' (over_memory fs before) (record { files = left; out = after })) f asked)

-- a run over a link in memory, by what is said at its end
pub run_in_memory : {L : Type 0} (g : links.Ghosts L) (way : Way) (s text : List ℕ) (p : Program) (fuel : ℕ) (served : Served) (result : Status) (dial dial' : DialSeen L) (before after : Device (List ℕ)) → (way ≡ ways.Both) ⊎ (way ≡ ways.Trial)
    → RunsInMemory g (run_end_in g way text) p fuel served result dial dial' before after → RunsBy g way s text p fuel served result dial dial' before after
run_in_memory g ways.Both s text p fuel served result dial dial' before after is r = r
run_in_memory g ways.Trial s text p fuel served result dial dial' before after is r = r
run_in_memory g ways.Unsplit s text p fuel served result dial dial' before after (inl is) r = absurd cc
run_in_memory g ways.Unsplit s text p fuel served result dial dial' before after (inr is) r = absurd cc
run_in_memory g ways.Pair s text p fuel served result dial dial' before after (inl is) r = absurd cc
run_in_memory g ways.Pair s text p fuel served result dial dial' before after (inr is) r = absurd cc
