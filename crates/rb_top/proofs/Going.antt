-- How what is asked of a program goes on, once it was read.
use Rattle.std.proofs.Common.{◌≡◌, ℕ, List, Ok, Err, ap, ◌∙◌, refl, subst}
use Rattle.rb_trees.specs.declared.refusals.Refusal.{Refusal}
use Rattle.rb_trees.specs.mirror.Declarations.{Program}
use Rattle.rb_meaning.specs.Shown.{line}
use Rattle.rb_meaning_flow.specs.Programs.{IsAnswerOf}
use Rattle.rb_meaning_split.specs.Division.{Division, divisions}
use Rattle.rb_base.specs.Devices.{Device}
use Rattle.rb_base.specs.Directories.{Directory, read_once}
use Rattle.rb_base.specs.declared.links.Link as links
use Rattle.rb_flow.specs.Program.{HasNoRefusal}
use Rattle.rb_session.specs.Dials.{DialSeen}
use Rattle.rb_top.specs.Answers.{Goes, RunsBy, SaysOfProgram, no_program, goes, ran}
use Rattle.rb_top.specs.BatchRefusals.{shown_batch_refusal}
use Rattle.rb_top.specs.Commands.{EndsBatchRefused, GoesOnAdmitted, GoesOnTyped}
use Rattle.rb_top.specs.Loads.{HoldsText}
use Rattle.rb_top.specs.Runs.{Served}
use Rattle.rb_top.specs.Scene.{Scene, once_read}
use Rattle.rb_top.specs.Sources.{text_of, program_of}
use Rattle.rb_top.specs.Texts.{IsService}
use Rattle.rb_top.specs.Unusable.{NoProgram, TellsNoProgram, not_admitted, not_divided}
use Rattle.rb_top.specs.Words.{Asked, Run, program_name}
use Rattle.rb_top.specs.declared.source.Source.{Source}
use Rattle.rb_top.specs.declared.status.Status.{Status}
use Rattle.rb_top.specs.declared.status.Status.TheVariants.{BatchRefused, Memory}
use Rattle.rb_top.specs.declared.words.Way.{Way}
use Rattle.rb_top.proofs.Telling.{tells, starves}

-- the scene before, with the files before the program was read
abbrev at_first : Scene → Device Directory → Scene
at_first before first = record before { files = first }

-- the scene in which the program was read is that after the read
read_then : (before : Scene) (first : Device Directory) → before.files ≡ read_once first → before ≡ once_read (at_first before first)
read_then before first b = ap (λ d. record { files = d; out = before.out }) b

module _ {L : Type 0} (g : links.Ghosts L) where
  -- where there is no accepted program, of which the name is told
  pub tells_of : (a : Asked) (name : List ℕ) (result : Status) (dial : DialSeen L) (before after : Scene) → name ≡ program_name a → TellsNoProgram name result before after → SaysOfProgram g a result dial dial before after
  tells_of a name result dial before after e t = no_program (subst (λ n. TellsNoProgram n result before after) e t) refl

  -- a run on a service that was loaded
  pub ran_loaded : (text : List ℕ) (program : Program) (way : Way) (name s other : List ℕ) (fuel : ℕ) (served : Served) (result : Status) (dial dial' : DialSeen L) (before mid : Scene) (out : Device (List ℕ)) → HoldsText before.files.told s other → IsService other served
      → mid ≡ record before { files = read_once before.files } → RunsBy g way s text program fuel served result dial dial' mid.out out → Goes g text program result dial dial' before (record { files = mid.files; out = out }) (Run way name s fuel)
  ran_loaded text program way name s other fuel served result dial dial' before mid out h i e r =
      ran way name s other fuel served h.0 i (subst (λ o. RunsBy g way s text program fuel served result dial dial' o out) (ap (λ x. x.out) e) r) (ap (λ x. x.files) e)

  -- the rest, where the program is admitted
  pub goes_admitted : (source : Source) (a : Asked) (result : Status) (dial dial' : DialSeen L) (before after : Scene) (text : List ℕ) (program : Program) → text ≡ text_of source → program ≡ program_of source → HasNoRefusal (program_of source)
      → GoesOnAdmitted g text program a result dial dial' before after → GoesOnTyped g source a result dial dial' before after
  goes_admitted source a result dial dial' before after text program t p none on = λ first b h.
      subst (λ x. GoesOnAdmitted g x (program_of source) a result dial dial' before after) t (subst (λ q. GoesOnAdmitted g text q a result dial dial' before after) p on) first b h none

  -- where its batches are divided
  pub goes_divided : (text : List ℕ) (program : Program) (ds : List Division) (a : Asked) (result : Status) (dial dial' : DialSeen L) (before after : Scene) → divisions program ≡ Ok ds → Goes g text program result dial dial' before after a → GoesOnAdmitted g text program a result dial dial' before after
  goes_divided text program ds a result dial dial' before after d on = λ first b h none.
      goes text program (record { finds = h.finds; is = record { read = h.read; typed = h.typed; admitted = none; divided = (ds, d) } })
      (subst (λ s. Goes g text program result dial dial' s after a) (read_then before first b) on)

  -- where one is refused by the division
  pub goes_undivided : (text : List ℕ) (program : Program) (a : Asked) (refusal : Refusal) (result : Status) (dial : DialSeen L) (before after : Scene) → divisions program ≡ Err refusal → EndsBatchRefused text refusal result before.out after.out → after.files ≡ before.files → GoesOnAdmitted g text program a result dial dial before after
  goes_undivided text program a refusal result dial before after d e f = λ first b h none.
      no_program
      (tells (NoProgram first (program_name a)) (BatchRefused refusal) result (line (shown_batch_refusal text refusal)) (read_once first) (at_first before first) after
      (not_divided text program refusal h.finds (record { read = h.read; typed = h.typed; admitted = none; refused = d })) (f ∙ b) e)
      refl

  -- and where memory is wanting for it
  pub goes_undecided : (text : List ℕ) (program : Program) (a : Asked) (dial : DialSeen L) (before : Scene) → GoesOnAdmitted g text program a Memory dial dial before before
  goes_undecided text program a dial before = λ first b h none. no_program (starves (NoProgram first (program_name a)) Memory (at_first before first) before 1 (refl, refl) b) refl

  -- where it is refused
  pub goes_refused : (source : Source) (a : Asked) (refusal : Refusal) (result : Status) (dial : DialSeen L) (before after : Scene) → IsAnswerOf (program_of source) refusal → EndsBatchRefused (text_of source) refusal result before.out after.out → after.files ≡ before.files → GoesOnTyped g source a result dial dial before after
  goes_refused source a refusal result dial before after is e f = λ first b h.
      no_program
      (tells (NoProgram first (program_name a)) (BatchRefused refusal) result (line (shown_batch_refusal (text_of source) refusal)) (read_once first) (at_first before first) after
      (not_admitted (text_of source) (program_of source) refusal h.finds (record { read = h.read; typed = h.typed; refused = is })) (f ∙ b) e)
      refl

  -- and where memory is wanting before that is known
  pub goes_starved : (source : Source) (a : Asked) (dial : DialSeen L) (before : Scene) → GoesOnTyped g source a Memory dial dial before before
  goes_starved source a dial before = λ first b h. no_program (starves (NoProgram first (program_name a)) Memory (at_first before first) before 1 (refl, refl) b) refl

  -- what is said over the scene in the middle with the files before is said over the one before
  pub says_from : (a : Asked) (result : Status) (dial dial' : DialSeen L) (before middle after : Scene) → middle ≡ record before { files = read_once before.files }
      → SaysOfProgram g a result dial dial' (record middle { files = before.files }) after → SaysOfProgram g a result dial dial' before after
  says_from a result dial dial' before middle after m h = subst (λ s. SaysOfProgram g a result dial dial' (record s { files = before.files }) after) m h
