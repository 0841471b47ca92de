-- What is answered where the outside tells all that a command needs.
use Rattle.std.proofs.Common.{◌≡◌, ◌⊎◌, ℕ, List, [], Option, None, Some, Ok, Err, codes, ap, sym, ◌∙◌, refl, subst, inl, inr}
use Rattle.rb_trees.specs.mirror.Declarations.{Program}
use Rattle.rb_meaning.specs.Links.{Behind, server_told}
use Rattle.rb_meaning.specs.Shown.{line}
use Rattle.rb_meaning_split.specs.Division.{Division, divisions}
use Rattle.rb_shown.specs.Views.{shown_divisions}
use Rattle.rb_base.specs.Devices.{Device}
use Rattle.rb_base.specs.Directories.{Directory}
use Rattle.rb_base.specs.declared.links.Link as links
use Rattle.rb_disk.specs.declared.disk.Disk as disks
use Rattle.rb_session.specs.Dials.{DialSeen, TakesNext, next_link}
use Rattle.rb_session.specs.declared.dials.DialStop.TheVariants as dials
use Rattle.rb_session.specs.declared.targets.Target.{Target}
use Rattle.rb_session.specs.declared.targets.Target.TheVariants as targets
use Rattle.rb_top.specs.Answers as answers
use Rattle.rb_top.specs.Answers.{EndsRun, Goes, RunsBy, SaysOfProgram, Says, Tries}
use Rattle.rb_top.specs.Completeness.{CallsTold, ChecksTold, DialsHonest, EndsFar, IsNear, EndsCounted, PairsTold, RunsTold, SplitsTold, ToldAccepted, ToldRun, ToldService, TrialsTold}
use Rattle.rb_top.specs.DialRuns.{Dials, RunsInMemory, not_dialled, ran_in_memory, ran_over_link, starved_dialling, starved_for_link}
use Rattle.rb_top.specs.Ends as ends
use Rattle.rb_top.specs.Ends.{Ends, Tells}
use Rattle.rb_top.specs.LinkRuns.{run_end_with_count, run_end_with_table}
use Rattle.rb_top.specs.Runs.{Served}
use Rattle.rb_top.specs.Scene.{Scene, Outside, once_read}
use Rattle.rb_top.specs.Texts.{IsProgram, IsService}
use Rattle.rb_top.specs.Trials.{asked_in_trial, trial_files, trial_program, trial_service}
use Rattle.rb_top.specs.Unusable.{NoProgram, NoService}
use Rattle.rb_top.specs.Words.{Asked, Check, Split, Run, Call, Trial, Wanted, OfProgram, default_fuel, program_name}
use Rattle.rb_top.specs.declared.status.Status.{Status}
use Rattle.rb_top.specs.declared.status.Status.TheVariants.{Done, Memory, Words}
use Rattle.rb_top.specs.declared.words.Way.{Way}
use Rattle.rb_top.specs.declared.words.Way.TheVariants as ways
use Rattle.rb_top.proofs.Ended.{starved_at_once}
use Rattle.rb_top.proofs.LinkRuns.{ends_counted, ends_far, ends_near}
use Rattle.rb_top.proofs.Usable.{OneService, OneSource, accepted_is_usable, found_is_told, held_is_told, service_is_usable}

-- what can't be told wasn't: memory was wanting, and nothing was said
pub only_starved : (Is : ends.Said) (result : Status) (before after : Scene) → ((status : Status) (text : List ℕ) (left : Device Directory) → Is status text left → ⊥) → Tells Is result before after → (result ≡ Memory) × (after.out ≡ before.out)
only_starved Is result before after none (ends.said status text is e) = absurd (none status text after.files is)
only_starved Is result before after none (ends.starved_first count r f) = (r, ap (λ s. s.out) f)

pub ends_starved : (status : Status) (text : List ℕ) (result : Status) (before after : Device (List ℕ)) → (result ≡ Memory) × (after ≡ before) → Ends status text result before after
ends_starved status text result before after s =
    subst (λ r. Ends status text r before after) (sym s.0) (subst (Ends status text Memory before) (sym s.1) (starved_at_once status text before))

-- a program is divided in one way
one_division : (p : Program) (es ds : List Division) → divisions p ≡ Ok es → divisions p ≡ Ok ds → es ≡ ds
one_division p es ds d v =
    let both : Ok es ≡ Ok ds = sym d ∙ v in
    cc both

-- the name of the service's file, where one is asked for
abbrev service_of : Asked → List ℕ
service_of (Run way p s fuel) = s
service_of a = []

module _ {L D : Type 0} (g : links.Ghosts L) (d : disks.Ghosts D) where
  -- What is said of a program that is told: memory was wanting before anything was said, or what was asked of it went on.
  of_told : OneSource → (a : Asked) (text : List ℕ) (program : Program) (result : Status) (dial dial' : DialSeen L) (before after : Scene) → ToldAccepted before.files.told (program_name a) text program → SaysOfProgram g a result dial dial' before after
      → ((result ≡ Memory) × (after.out ≡ before.out)) ⊎ Goes g text program result dial dial' (once_read before) after a
  of_told one a text program result dial dial' before after t (answers.no_program tells same) =
      inl (only_starved (NoProgram before.files (program_name a)) result before after (accepted_is_usable one before.files (program_name a) text program t) tells)
  of_told one a text program result dial dial' before after t (answers.goes found other holds on) =
      let is = held_is_told one before.files.told (program_name a) text found program other t holds in
      inr (subst (λ x. Goes g x program result dial dial' (once_read before) after a) is.0 (subst (λ q. Goes g found q result dial dial' (once_read before) after a) is.1 on))

  -- what is said of what was understood is said of the words
  pub said_as : (understood wanted : Option Wanted) (result : Status) (before after : Outside L) → understood ≡ wanted → Says g d understood result before after → Says g d wanted result before after
  said_as understood wanted result before after e h = subst (λ w. Says g d w result before after) e h

  -- the words weren't understood
  pub said_nothing : (wanted : Option Wanted) (result : Status) (before : Outside L) (out : Device (List ℕ)) → None ≡ wanted → Ends Words (line (codes "words not understood")) result before.scene.out out
      → Says g d wanted result before (record before { scene = record before.scene { out = out } })
  said_nothing wanted result before out n e = subst (λ w. Says g d w result before (record before { scene = record before.scene { out = out } })) n (e, refl)

  -- what is said of a program where it is wanted
  of_wanted : (a : Asked) (wanted : Option Wanted) (result : Status) (before after : Outside L) → wanted ≡ Some (OfProgram a) → Says g d wanted result before after → SaysOfProgram g a result before.dial after.dial before.scene after.scene
  of_wanted a wanted result before after w said = (subst (λ x. Says g d x result before after) w said).0

  -- `check P`
  went_checked : (text : List ℕ) (program : Program) (p : List ℕ) (a : Asked) (result : Status) (dial dial' : DialSeen L) (before after : Scene) → a ≡ Check p → Goes g text program result dial dial' before after a → Ends Done (line (codes "accepted")) result before.out after.out
  went_checked text program p a result dial dial' before after w (answers.checked name e same f) = e
  went_checked text program p a result dial dial' before after w (answers.viewed name ds d e same f) = absurd (cc w)
  went_checked text program p a result dial dial' before after w (answers.called address name fuel d f) = absurd (cc w)
  went_checked text program p a result dial dial' before after w (answers.no_service way name s fuel t same) = absurd (cc w)
  went_checked text program p a result dial dial' before after w (answers.ran way name s other fuel served f i r e) = absurd (cc w)

  pub checks_told : OneSource → (wanted : Option Wanted) (result : Status) (before after : Outside L) → Says g d wanted result before after → ChecksTold wanted result before.scene after.scene
  checks_told one wanted result before after said = λ p text program w t.
      by_case p text program (of_told one (Check p) text program result before.dial after.dial before.scene after.scene t (of_wanted (Check p) wanted result before after w said))
    where
      by_case : (p text : List ℕ) (program : Program) → ((result ≡ Memory) × (after.scene.out ≡ before.scene.out)) ⊎ Goes g text program result before.dial after.dial (once_read before.scene) after.scene (Check p)
          → Ends Done (line (codes "accepted")) result before.scene.out after.scene.out
      by_case p text program (inl s) = ends_starved Done (line (codes "accepted")) result before.scene.out after.scene.out s
      by_case p text program (inr on) = went_checked text program p (Check p) result before.dial after.dial (once_read before.scene) after.scene refl on

  -- `split P`
  went_viewed : (text : List ℕ) (program : Program) (ds : List Division) (p : List ℕ) (a : Asked) (result : Status) (dial dial' : DialSeen L) (before after : Scene) → divisions program ≡ Ok ds → a ≡ Split p → Goes g text program result dial dial' before after a → Ends Done (shown_divisions text ds) result before.out after.out
  went_viewed text program ds p a result dial dial' before after v w (answers.checked name e same f) = absurd (cc w)
  went_viewed text program ds p a result dial dial' before after v w (answers.viewed name es d e same f) =
      subst (λ xs. Ends Done (shown_divisions text xs) result before.out after.out) (one_division program es ds d v) e
  went_viewed text program ds p a result dial dial' before after v w (answers.called address name fuel d f) = absurd (cc w)
  went_viewed text program ds p a result dial dial' before after v w (answers.no_service way name s fuel t same) = absurd (cc w)
  went_viewed text program ds p a result dial dial' before after v w (answers.ran way name s other fuel served f i r e) = absurd (cc w)

  pub splits_told : OneSource → (wanted : Option Wanted) (result : Status) (before after : Outside L) → Says g d wanted result before after → SplitsTold wanted result before.scene after.scene
  splits_told one wanted result before after said = λ p text program ds w t v.
      by_case p text program ds v (of_told one (Split p) text program result before.dial after.dial before.scene after.scene t (of_wanted (Split p) wanted result before after w said))
    where
      by_case : (p text : List ℕ) (program : Program) (ds : List Division) → divisions program ≡ Ok ds → ((result ≡ Memory) × (after.scene.out ≡ before.scene.out)) ⊎ Goes g text program result before.dial after.dial (once_read before.scene) after.scene (Split p)
          → Ends Done (shown_divisions text ds) result before.scene.out after.scene.out
      by_case p text program ds v (inl s) = ends_starved Done (shown_divisions text ds) result before.scene.out after.scene.out s
      by_case p text program ds v (inr on) = went_viewed text program ds p (Split p) result before.dial after.dial (once_read before.scene) after.scene v refl on

  -- what was run over a link to an address, as is asked
  abbrev CallsAs : List ℕ → Program → Status → DialSeen L → DialSeen L → Scene → Scene → Asked → Type 0
  CallsAs text program result dial dial' before after (Call address name fuel) = Dials g text program fuel (targets.Address address) result dial dial' before.out after.out
  CallsAs text program result dial dial' before after a = Unit {0}

  -- what was run as is asked, on a service
  abbrev RunsAs : List ℕ → Program → Status → DialSeen L → DialSeen L → Scene → Scene → Served → Asked → Type 0
  RunsAs text program result dial dial' before after x (Run way name s fuel) = RunsBy g way s text program fuel x result dial dial' before.out after.out
  RunsAs text program result dial dial' before after x a = Unit {0}

  -- What was run on a service that is told: memory was wanting before anything was said, or it was run there.
  went_run : OneService → (text : List ℕ) (program : Program) (way : Way) (p s other : List ℕ) (fuel : ℕ) (served : Served) (a : Asked) (result : Status) (dial dial' : DialSeen L) (before after : Scene) → a ≡ Run way p s fuel → ToldService before.files.told s other served
      → Goes g text program result dial dial' before after a → ((result ≡ Memory) × (after.out ≡ before.out)) ⊎ RunsBy g way s text program fuel served result dial dial' before.out after.out
  went_run one text program way p s other fuel served a result dial dial' before after w t (answers.checked name e same f) = absurd (cc w)
  went_run one text program way p s other fuel served a result dial dial' before after w t (answers.viewed name ds d e same f) = absurd (cc w)
  went_run one text program way p s other fuel served a result dial dial' before after w t (answers.called address name fuel' d f) = absurd (cc w)
  went_run one text program way p s other fuel served a result dial dial' before after w t (answers.no_service way' name s' fuel' tells same) =
      inl (only_starved (NoService before.files s') result before after (subst (λ n. (status : Status) (shown : List ℕ) (left : Device Directory) → NoService before.files n status shown left → ⊥) (sym (ap service_of w)) (service_is_usable one before.files s other served t)) tells)
  went_run one text program way p s other fuel served a result dial dial' before after w t (answers.ran way' name s' found fuel' served' f i r e) =
      let here = subst (λ n. ToldService before.files.told n other served) (sym (ap service_of w)) t in
      let is = found_is_told one before.files.told s' other found served served' here f i in
      inr (subst (λ x. RunsBy g way s text program fuel x result dial dial' before.out after.out) is (subst (RunsAs text program result dial dial' before after served') w r))

  -- `both P S FUEL` and `unsplit P S FUEL`
  in_memory : (text : List ℕ) (p : Program) (fuel : ℕ) (served : Served) (result : Status) (dial dial' : DialSeen L) (before after : Device (List ℕ)) → RunsInMemory g (run_end_with_table g text) p fuel served result dial dial' before after → EndsRun text p fuel served result before after
  in_memory text p fuel served result dial dial' before after (ran_in_memory link left new run back) = ends_near g text p fuel served link left result before after new run
  in_memory text p fuel served result dial dial' before after (starved_for_link r d o) = inr r

  run_near : (way : Way) (s text : List ℕ) (p : Program) (fuel : ℕ) (served : Served) (result : Status) (dial dial' : DialSeen L) (before after : Device (List ℕ)) → IsNear way → RunsBy g way s text p fuel served result dial dial' before after → EndsRun text p fuel served result before after
  run_near ways.Both s text p fuel served result dial dial' before after n r = in_memory text p fuel served result dial dial' before after r
  run_near ways.Unsplit s text p fuel served result dial dial' before after n r = r.0
  run_near ways.Pair s text p fuel served result dial dial' before after n r = absurd n
  run_near ways.Trial s text p fuel served result dial dial' before after n r = absurd n

  -- what was asked of a program and a service that are told: memory was wanting, or it was run
  run_told : OneSource → OneService → (wanted : Option Wanted) (result : Status) (before after : Outside L) → Says g d wanted result before after → (way : Way) (p s text other : List ℕ) (fuel : ℕ) (program : Program) (served : Served) → wanted ≡ Some (OfProgram (Run way p s fuel))
      → ToldRun before.scene.files.told p s text other program served → (result ≡ Memory) ⊎ RunsBy g way s text program fuel served result before.dial after.dial before.scene.out after.scene.out
  run_told one services wanted result before after said way p s text other fuel program served w t =
      first (of_told one (Run way p s fuel) text program result before.dial after.dial before.scene after.scene t.accepted (of_wanted (Run way p s fuel) wanted result before after w said))
    where
      then : ((result ≡ Memory) × (after.scene.out ≡ before.scene.out)) ⊎ RunsBy g way s text program fuel served result before.dial after.dial before.scene.out after.scene.out
          → (result ≡ Memory) ⊎ RunsBy g way s text program fuel served result before.dial after.dial before.scene.out after.scene.out
      then (inl x) = inl x.0
      then (inr r) = inr r

      first : ((result ≡ Memory) × (after.scene.out ≡ before.scene.out)) ⊎ Goes g text program result before.dial after.dial (once_read before.scene) after.scene (Run way p s fuel)
          → (result ≡ Memory) ⊎ RunsBy g way s text program fuel served result before.dial after.dial before.scene.out after.scene.out
      first (inl x) = inl x.0
      first (inr on) = then (went_run services text program way p s other fuel served (Run way p s fuel) result before.dial after.dial (once_read before.scene) after.scene refl t.service on)

  pub runs_told : OneSource → OneService → (wanted : Option Wanted) (result : Status) (before after : Outside L) → Says g d wanted result before after → RunsTold wanted result before.scene after.scene
  runs_told one services wanted result before after said = λ way p s text other fuel program served w near t.
      by_case way s text fuel program served near (run_told one services wanted result before after said way p s text other fuel program served w t)
    where
      by_case : (way : Way) (s text : List ℕ) (fuel : ℕ) (program : Program) (served : Served) → IsNear way → (result ≡ Memory) ⊎ RunsBy g way s text program fuel served result before.dial after.dial before.scene.out after.scene.out
          → EndsRun text program fuel served result before.scene.out after.scene.out
      by_case way s text fuel program served near (inl r) = inr r
      by_case way s text fuel program served near (inr r) = run_near way s text program fuel served result before.dial after.dial before.scene.out after.scene.out near r

  one_link : (a b : L) (o : Option L) → o ≡ Some a → o ≡ Some b → b ≡ a
  one_link a b o e f =
      let both = sym f ∙ e in
      cc both

  dialled_far : (text : List ℕ) (p : Program) (fuel : ℕ) (target : Target) (b : Behind) (result : Status) (dial dial' : DialSeen L) (before after : Device (List ℕ)) → DialsHonest g target p fuel b dial.told
      → Dials g text p fuel target result dial dial' before after → EndsFar text p fuel b result before after
  dialled_far text p fuel target b result dial dial' before after h (ran_over_link link left takes dialled run back) =
      let same = one_link h.link link (next_link h.dialling target) h.next (subst (TakesNext target (Ok link)) h.tells takes) in
      let tells = ap (λ l. server_told (g.told l)) same ∙ h.server in
      ends_far g text p fuel b link left result before after (subst g.honest (sym same) h.honest) h.none_fails tells run
  dialled_far text p fuel target b result dial dial' before after h (not_dialled takes said back) =
      absurd (cc (sym h.next ∙ subst (TakesNext target (Err dials.Failed)) h.tells takes))
  dialled_far text p fuel target b result dial dial' before after h (starved_dialling r had o) = inr r

  -- `run ADDRESS P FUEL`
  went_called : (text : List ℕ) (program : Program) (address p : List ℕ) (fuel : ℕ) (a : Asked) (result : Status) (dial dial' : DialSeen L) (before after : Scene) → a ≡ Call address p fuel → Goes g text program result dial dial' before after a
      → Dials g text program fuel (targets.Address address) result dial dial' before.out after.out
  went_called text program address p fuel a result dial dial' before after w (answers.checked name e same f) = absurd (cc w)
  went_called text program address p fuel a result dial dial' before after w (answers.viewed name ds d e same f) = absurd (cc w)
  went_called text program address p fuel a result dial dial' before after w (answers.called address' name fuel' d f) = subst (CallsAs text program result dial dial' before after) w d
  went_called text program address p fuel a result dial dial' before after w (answers.no_service way name s fuel' t same) = absurd (cc w)
  went_called text program address p fuel a result dial dial' before after w (answers.ran way name s other fuel' served f i r e) = absurd (cc w)

  pub calls_told : OneSource → (wanted : Option Wanted) (result : Status) (before after : Outside L) → Says g d wanted result before after → CallsTold g wanted result before after
  calls_told one wanted result before after said = λ address p text fuel program b w t h.
      by_case address p text fuel program b h (of_told one (Call address p fuel) text program result before.dial after.dial before.scene after.scene t (of_wanted (Call address p fuel) wanted result before after w said))
    where
      by_case : (address p text : List ℕ) (fuel : ℕ) (program : Program) (b : Behind) → DialsHonest g (targets.Address address) program fuel b before.dial.told
          → ((result ≡ Memory) × (after.scene.out ≡ before.scene.out)) ⊎ Goes g text program result before.dial after.dial (once_read before.scene) after.scene (Call address p fuel) → EndsFar text program fuel b result before.scene.out after.scene.out
      by_case address p text fuel program b h (inl s) = inr s.0
      by_case address p text fuel program b h (inr on) =
          dialled_far text program fuel (targets.Address address) b result before.dial after.dial before.scene.out after.scene.out h
          (went_called text program address p fuel (Call address p fuel) result before.dial after.dial (once_read before.scene) after.scene refl on)

  -- `pair P S FUEL`
  pub pairs_told : OneSource → OneService → (wanted : Option Wanted) (result : Status) (before after : Outside L) → Says g d wanted result before after → PairsTold g wanted result before after
  pairs_told one services wanted result before after said = λ p s text other fuel program served b w t h.
      by_case s text fuel program b h (run_told one services wanted result before after said ways.Pair p s text other fuel program served w t)
    where
      by_case : (s text : List ℕ) (fuel : ℕ) (program : Program) (b : Behind) → DialsHonest g (targets.Child s) program fuel b before.dial.told
          → (result ≡ Memory) ⊎ Dials g text program fuel (targets.Child s) result before.dial after.dial before.scene.out after.scene.out → EndsFar text program fuel b result before.scene.out after.scene.out
      by_case s text fuel program b h (inl r) = inr r
      by_case s text fuel program b h (inr d) = dialled_far text program fuel (targets.Child s) b result before.dial after.dial before.scene.out after.scene.out h d

  -- `trial N`
  counted : (text : List ℕ) (p : Program) (fuel : ℕ) (served : Served) (result : Status) (dial dial' : DialSeen L) (before after : Device (List ℕ)) → RunsInMemory g (run_end_with_count g text) p fuel served result dial dial' before after → EndsCounted text p fuel served result before after
  counted text p fuel served result dial dial' before after (ran_in_memory link left new run back) = ends_counted g text p fuel served link left result before after new run
  counted text p fuel served result dial dial' before after (starved_for_link r d o) = inr r

  -- the files of a trial tell its two texts
  told_in_trial : (n : ℕ) (program : Program) (served : Served) → IsProgram trial_program program → IsService (trial_service n) served
      → ToldRun (trial_files n).told (codes "p") (codes "s") trial_program (trial_service n) program served
  told_in_trial n program served p s = record { accepted = record { finds = refl; is = p }; service = record { finds = refl; is = s } }

  -- what was answered over files that tell an accepted program and a service
  went_tried : OneSource → OneService → (text other : List ℕ) (program : Program) (served : Served) (result : Status) (dial dial' : DialSeen L) (before after : Scene) → ToldRun before.files.told (codes "p") (codes "s") text other program served
      → SaysOfProgram g asked_in_trial result dial dial' before after → EndsCounted text program default_fuel served result before.out after.out
  went_tried one services text other program served result dial dial' before after t said = first (of_told one asked_in_trial text program result dial dial' before after t.accepted said)
    where
      then : ((result ≡ Memory) × (after.out ≡ before.out)) ⊎ RunsBy g ways.Trial (codes "s") text program default_fuel served result dial dial' before.out after.out → EndsCounted text program default_fuel served result before.out after.out
      then (inl x) = inr x.0
      then (inr r) = counted text program default_fuel served result dial dial' before.out after.out r

      first : ((result ≡ Memory) × (after.out ≡ before.out)) ⊎ Goes g text program result dial dial' (once_read before) after asked_in_trial → EndsCounted text program default_fuel served result before.out after.out
      first (inl x) = inr x.0
      first (inr on) = then (went_run services text program ways.Trial (codes "p") (codes "s") other default_fuel served asked_in_trial result dial dial' (once_read before) after refl t.service on)

  -- what a trial answered
  was_tried : (n : ℕ) (wanted : Option Wanted) (result : Status) (before after : Outside L) → wanted ≡ Some (Trial n) → Says g d wanted result before after → Tries g n result before.dial after.dial before.scene.out after.scene.out
  was_tried n wanted result before after w said = (subst (λ x. Says g d x result before after) w said).0

  pub trials_told : OneSource → OneService → (wanted : Option Wanted) (result : Status) (before after : Outside L) → Says g d wanted result before after → TrialsTold wanted result before.scene after.scene
  trials_told one services wanted result before after said = λ n program served w p s. by_case n program served p s (was_tried n wanted result before after w said)
    where
      by_case : (n : ℕ) (program : Program) (served : Served) → IsProgram trial_program program → IsService (trial_service n) served → Tries g n result before.dial after.dial before.scene.out after.scene.out
          → EndsCounted trial_program program default_fuel served result before.scene.out after.scene.out
      by_case n program served p s (answers.starved_for_texts r d o) = inr r
      by_case n program served p s (answers.tried left tries) =
          went_tried one services trial_program (trial_service n) program served result before.dial after.dial (record { files = trial_files n; out = before.scene.out }) (record { files = left; out = after.scene.out }) (told_in_trial n program served p s) tries
