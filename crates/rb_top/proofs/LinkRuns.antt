-- Runs over a link that is new and honest.
use Rattle.std.proofs.Common.{◌≡◌, ◌⊎◌, ℕ, zero, suc, List, [], ◌++◌, Bool, true, false, Option, None, Some, map, option_map, Result, Ok, Err, ap, sym, ◌∙◌, refl, subst, inl, inr, arith}
use Rattle.std.specs.Prelude.{◌==◌}
use Rattle.std.specs.List.{list_any}
use Rattle.rb_trees.specs.declared.outcomes.Run.{Run}
use Rattle.rb_trees.specs.declared.services.Object.{Object}
use Rattle.rb_trees.specs.mirror.Declarations.{Program}
use Rattle.rb_meaning.specs.Links.{Behind, Told, server_told}
use Rattle.rb_meaning.specs.Others.{Others, becomes}
use Rattle.rb_meaning.specs.Shown.{exchanges, shown_events}
use Rattle.rb_base.specs.Counts.{risen}
use Rattle.rb_base.specs.Devices.{Device, failed}
use Rattle.rb_base.specs.Links.{Finds, FindsFitting, FindsStanding, Lends}
use Rattle.rb_base.specs.Sinks.{WrotePrefix}
use Rattle.rb_base.specs.declared.links.Link as links
use Rattle.rb_base.proofs.Pieces.{prefix_front}
use Rattle.rb_client.specs.Headline.{EndsAsMeant, LosesBatch, MeansProgram, meant_on}
use Rattle.rb_client.specs.Runs.{FailsAsListed}
use Rattle.rb_client.specs.Servers.{FailsAfter, IsServer, fails_after, later}
use Rattle.rb_client.specs.declared.stops.RunStop.{RunStop}
use Rattle.rb_client.specs.declared.stops.RunStop.TheVariants as stops
use Rattle.rb_exec.specs.Hosted.{Hosted}
use Rattle.rb_session.specs.Answering.{IsTypedHost}
use Rattle.rb_session.specs.Dials.{Dialling, GoesOn, HasOneOut, one_more_out, told_after_dial}
use Rattle.rb_session.specs.declared.targets.Target.{Target}
use Rattle.rb_session.specs.MemoryLinks.{IsHonest, LinkInMemory, new_link, told_of}
use Rattle.rb_top.specs.Answers.{EndsRun}
use Rattle.rb_top.specs.Commands.{run_answer}
use Rattle.rb_top.specs.Completeness.{ComesToBatch, EndsCounted, EndsFar}
use Rattle.rb_top.specs.Ends as ends
use Rattle.rb_top.specs.Ends.{Ends}
use Rattle.rb_top.specs.LinkRuns.{IsNew, RunsOverLink, SaysRun, behind_of, new_server, over, run_end, run_end_in, run_end_with_count, run_end_with_table, served_by}
use Rattle.rb_top.specs.Printing.{PrintsAnswering, end_text_in, run_end_text}
use Rattle.rb_top.specs.Runs.{Served, ended_status, served_on}
use Rattle.rb_top.specs.declared.printing.PrintStop.{PrintStop}
use Rattle.rb_top.specs.declared.printing.PrintStop.TheVariants as print
use Rattle.rb_top.specs.declared.status.Status.{Status}
use Rattle.rb_top.specs.declared.status.Status.TheVariants.{Memory}
use Rattle.rb_top.proofs.Printed.{ends_behind}
use Rattle.rb_top.specs.declared.words.Way.{Way}
use Rattle.rb_top.specs.declared.words.Way.TheVariants as ways
use Rattle.rb_top.proofs.RunEnds.{counted_so, ending_text_in, shown_so}

-- the table that is lent is that of the server which the link tells
lent_table : (lends : Bool) (told : Option Told) (table : List Object) → lends ≡ true → Lends lends (server_told told) (Some table) → table ≡ (behind_of told).table
lent_table true told table e l = by_server (server_told told) refl l
  where
    some_one : (t u : List Object) → Some t ≡ Some u → t ≡ u
    some_one t u q = cc

    by_server : (x : Option Behind) → server_told told ≡ x → Lends true x (Some table) → table ≡ (behind_of told).table
    by_server None s l = absurd l
    by_server (Some b) s l = rw s (some_one table b.table l)
lent_table false told table e l = absurd (cc e)

pub none_lent : (lends : Bool) (x : Option Behind) → lends ≡ true → Lends lends x None → ⊥
none_lent true None e l = l
none_lent true (Some b) e l = absurd (cc l)
none_lent false x e l = absurd (cc e)

-- what was said behind the lines of a run that ended
said_so : (ended : Status) (text : List ℕ) (r : Result Status PrintStop) (result : Status) (before after : Device (List ℕ)) → result ≡ run_answer r → PrintsAnswering ended text r before after → Ends ended text result before after
said_so ended text (Ok status) result before after e h = ends.whole (e ∙ h.0) h.1
said_so ended text (Err print.WriteFault) result before after e h = ends.cut e h
said_so ended text (Err print.Memory) result before after e h = ends.starved e h

pub says_run : (text : List ℕ) (run : Run) (r : Result Status PrintStop) (result : Status) (before after : Device (List ℕ)) → result ≡ run_answer r → PrintsAnswering (ended_status run.ending) (run_end_text text run.ending run.exchanges) r before after
    → Ends (ended_status run.ending) (run_end_text text run.ending run.exchanges) result before after
says_run text run r result before after e h = said_so (ended_status run.ending) (run_end_text text run.ending run.exchanges) r result before after e h

-- no exchange is listed, however many there were
later_failing : (k : ℕ) (b : Behind) → (later k b).failing ≡ b.failing
later_failing zero b = refl
later_failing (suc k) b = later_failing k b

never_fails : (k : ℕ) (b : Behind) → b.failing ≡ [] → fails_after k b ≡ false
never_fails k b none = ap (list_any (λ n. n == risen (later k b).made)) (later_failing k b ∙ none)

-- the table that an honest run left
left_table : (told : Option Told) (before : Behind) (found left : List (List Object)) (table : List Object) → IsServer (server_told told) before found left table → (behind_of told).table ≡ table
left_table told before found left table h = by_server (server_told told) refl h
  where
    by_server : (x : Option Behind) → server_told told ≡ x → IsServer x before found left table → (behind_of told).table ≡ table
    by_server None e h = absurd h
    by_server (Some b) e h = rw e h.table_so

module _ {L : Type 0} (g : links.Ghosts L) where
  -- a link that lent its table does so still
  pub still_lends : (link left : L) → g.lends left ≡ g.lends link → g.lends link ≡ true → g.lends left ≡ true
  still_lends link left same lends = same ∙ lends

  -- what is said behind the lines of a run that ended over a link that lends its table, with the table that it lends
  pub says_with_table : (way : Way) (text : List ℕ) (left : L) (run : Run) (table : List Object) (r : Result Status PrintStop) (result : Status) (before after : Device (List ℕ)) → g.lends left ≡ true → Lends (g.lends left) (server_told (g.told left)) (Some table)
      → result ≡ run_answer r → PrintsAnswering (ended_status run.ending) (end_text_in way text run.ending run.exchanges table) r before after → SaysRun (run_end_in g way text left) (Ok run) result before after
  says_with_table way text left run table r result before after lends lent e h =
      let same = lent_table (g.lends left) (g.told left) table lends lent in
      subst (λ t. Ends (ended_status run.ending) (end_text_in way text run.ending run.exchanges t) result before after) same
      (said_so (ended_status run.ending) (end_text_in way text run.ending run.exchanges table) r result before after e h)

  -- A run over an honest link, of which no exchange fails, with what is said behind its lines where it ends as the program means.
  module _ (Found : Finds) (others : List Others) where
    as_meant : (closing : Run → List ℕ) (said : List ℕ) (p : Program) (fuel : ℕ) (b : Behind) (link left : L) (result : Status) (before lines after : Device (List ℕ)) (answer : Result Run RunStop)
        → ((run : Run) → MeansProgram p fuel b others run (over g link before) (over g left lines) → closing run ≡ said)
        → ((k : ℕ) → LosesBatch Found p fuel b others k (over g link before) (over g left lines) → fails_after k b ≡ false) → server_told (g.told link) ≡ Some b
        → EndsAsMeant Found p fuel b others answer (over g link before) (over g left lines) → FailsAsListed answer (over g link before) (over g left lines) → SaysRun closing answer result lines after
        → Ends (ended_status (meant_on p fuel b others).ending) (shown_events (meant_on p fuel b others).events ++ said) result before after ⊎ (result ≡ Memory)
    as_meant closing said p fuel b link left result before lines after (Ok run) closes none e means lists says =
        let m = meant_on p fuel b others in
        inl (subst (λ x. Ends (ended_status x) (shown_events m.events ++ said) result before after) means.ending_so
        (subst (λ t. Ends (ended_status run.ending) (shown_events m.events ++ t) result before after) (closes run means)
        (ends_behind (ended_status run.ending) (shown_events m.events) (closing run) result before lines after means.written says)))
    as_meant closing said p fuel b link left result before lines after (Err (stops.LinkFault k)) closes none e means lists says =
        let fails = subst (FailsAfter k) e lists.1 in
        let never = none k means in
        absurd (cc (sym fails ∙ never))
    as_meant closing said p fuel b link left result before lines after (Err (stops.BadReply k why kind bytes)) closes none e means lists says = absurd means
    as_meant closing said p fuel b link left result before lines after (Err stops.WriteFault) closes none e means lists says =
        let events = (meant_on p fuel b others).events in
        inl (ends.cut says.0 (prefix_front (failed before) after (shown_events events) said
        (subst (λ o. WrotePrefix (failed before) o (shown_events events)) (sym says.1) means.written)))
    as_meant closing said p fuel b link left result before lines after (Err stops.Memory) closes none e means lists says = inr says

  -- So it is over a link that was dialled.
  pub ends_far : (text : List ℕ) (p : Program) (fuel : ℕ) (b : Behind) (link left : L) (result : Status) (before after : Device (List ℕ)) → g.honest link → ((k : ℕ) → ComesToBatch p fuel (served_by b) k → fails_after k b ≡ false) → server_told (g.told link) ≡ Some b
      → RunsOverLink g (run_end text) p fuel link left result before after → EndsFar text p fuel b result before after
  ends_far text p fuel b link left result before after honest none e run =
      let meant = run.means honest b e in
      let finds = meant.0 in
      let others = map becomes finds in
      let m = meant_on p fuel b others in
      by finds (as_meant FindsFitting others (run_end {L = L} text left) (run_end_text text m.ending (exchanges m.events)) p fuel b link left result before run.lines after run.answer
      (λ r means. ap (λ x. run_end_text text x r.exchanges) means.ending_so ∙ ap (run_end_text text m.ending) means.exchanges_so)
      (λ k lost. none k (record { finds = finds; at = lost.at; local = lost.local; go = lost.go; around = lost.around; comes = lost.comes; count = lost.count }))
      e meant.1 run.lists run.says)
    where
      by : (finds : List (List Object)) → let m = meant_on p fuel b (map becomes finds) in Ends (ended_status m.ending) (shown_events m.events ++ run_end_text text m.ending (exchanges m.events)) result before after ⊎ (result ≡ Memory)
          → EndsFar text p fuel b result before after
      by finds (inl ended) = inl (finds, ended)
      by finds (inr starved) = inr starved

  -- And over one to a new server, with what is said of its table in some way.
  ends_new : (way : Way) (text : List ℕ) (p : Program) (fuel : ℕ) (served : Served) (link left : L) (result : Status) (before after : Device (List ℕ)) → IsNew g served link → RunsOverLink g (run_end_in g way text) p fuel link left result before after
      → let m = meant_on p fuel (new_server served) [] in Ends (ended_status m.ending) (shown_events m.events ++ ending_text_in way text m) result before after ⊎ (result ≡ Memory)
  ends_new way text p fuel served link left result before after new run =
      let b = new_server served in
      let m = meant_on p fuel b [] in
      let e = ap server_told new.tells in
      as_meant FindsStanding [] (run_end_in g way text left) (ending_text_in way text m) p fuel b link left result before run.lines after run.answer
      (λ r means. ap (λ x. end_text_in way text x r.exchanges (behind_of (g.told left)).table) means.ending_so ∙ ap (λ n. end_text_in way text m.ending n (behind_of (g.told left)).table) means.exchanges_so
      ∙ ap (end_text_in way text m.ending (exchanges m.events)) (left_table (g.told left) b m.found m.left m.table means.server_so))
      (λ k lost. never_fails k b refl) e (run.means_alone new.honest new.quiet b e) run.lists run.says

  pub ends_near : (text : List ℕ) (p : Program) (fuel : ℕ) (served : Served) (link left : L) (result : Status) (before after : Device (List ℕ)) → IsNew g served link → RunsOverLink g (run_end_with_table g text) p fuel link left result before after
      → EndsRun text p fuel served result before after
  ends_near text p fuel served link left result before after new run =
      let m = meant_on p fuel (new_server served) [] in
      subst (λ t. Ends (ended_status m.ending) t result before after ⊎ (result ≡ Memory)) (sym (shown_so text m)) (ends_new ways.Both text p fuel served link left result before after new run)

  pub ends_counted : (text : List ℕ) (p : Program) (fuel : ℕ) (served : Served) (link left : L) (result : Status) (before after : Device (List ℕ)) → IsNew g served link → RunsOverLink g (run_end_with_count g text) p fuel link left result before after
      → EndsCounted text p fuel served result before after
  ends_counted text p fuel served link left result before after new run =
      let m = meant_on p fuel (new_server served) [] in
      subst (λ t. Ends (ended_status m.ending) t result before after ⊎ (result ≡ Memory)) (sym (counted_so text m)) (ends_new ways.Trial text p fuel served link left result before after new run)

  -- a link in memory that was made one of a Dial's is new
  pub new_over : (host : Hosted) (inner : LinkInMemory) (link : L) → inner ≡ new_link host → IsTypedHost host → GoesOn g inner link → IsNew g (served_on host.service host.table) link
  new_over host inner link e typed on = record {
    tells = on.told ∙ ap (λ l. Some (told_of l)) e;
    whole = on.whole;
    lends = on.lends_its;
    quiet = on.quiet;
    honest = on.honest (subst (λ l. IsHonest l) (sym e) (record { fresh = refl; typed = typed }));
  }

-- a link is out, once one more is
pub one_is_out : {L : Type 0} (told : Option (Dialling L)) → HasOneOut (option_map one_more_out told)
one_is_out None = tt
one_is_out (Some d) = omega arith

-- a link is out, once it was dialled
pub dialled_is_out : {L : Type 0} (t : Target) (link : L) (told : Option (Dialling L)) → HasOneOut (option_map (told_after_dial t (Ok link)) told)
dialled_is_out t link None = tt
dialled_is_out t link (Some d) = omega arith
