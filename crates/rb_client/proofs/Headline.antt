-- Over an honest link what a run leaves is what its program means, on the tables that its batches find.
use Rattle.std.proofs.Common.{◌≡◌, ◌⊎◌, inl, inr, refl, sym, ap, ◌∙◌, subst, ℕ, List, [], ◌∷◌, ◌++◌, length, drop}
use Rattle.std.specs.Prelude.{false, Option, Some, Result, Ok, Err}
use Rattle.std.specs.List.{AllByRecursion}
use Rattle.rb_trees.specs.declared.outcomes.Raised.{Raised}
use Rattle.rb_trees.specs.declared.outcomes.Run as runs
use Rattle.rb_trees.specs.declared.services.Object.{Object}
use Rattle.rb_trees.specs.declared.values.Value.{Value}
use Rattle.rb_trees.specs.mirror.Declarations.{Program}
use Rattle.rb_trees.specs.mirror.Forests.{Node}
use Rattle.rb_meaning_bytes.specs.formats.Messages.{Sent}
use Rattle.rb_meaning_types.specs.Fits.{TableFits}
use Rattle.rb_meaning_types.specs.Lawful.{IsLawful}
use Rattle.rb_meaning_types.specs.Programs.{check_program}
use Rattle.rb_meaning_code.specs.Dialogue as ask
use Rattle.rb_meaning_code.specs.Dialogue.{Question, Outcome, Dialogue, Done, Ask, AskBatch, Handler}
use Rattle.rb_meaning_code.specs.Led.{Passes, here, answered, performed}
use Rattle.rb_meaning_code.specs.State.{Local}
use Rattle.rb_meaning.specs.ConstantLists.{takes_too_many}
use Rattle.rb_meaning.specs.Links.{Behind, IsTyped, TellsTyped}
use Rattle.rb_meaning.specs.Meaning.{Around, answers_around, around_of, at_batch, begins_or_faults, in_main, outside_of, performs_found}
use Rattle.rb_meaning.specs.Others.{Others, FoundThrough, found_table, last_table}
use Rattle.rb_meaning.specs.Shown.{exchanges, line, shown_events}
use Rattle.rb_meaning.specs.State.{Event, Outside}
use Rattle.rb_meaning.specs.Unsplit.{batch_at, performs_batch}
use Rattle.rb_meaning_flow.specs.Outermost.{Outermost}
use Rattle.rb_meaning_split.specs.Client.{Waiting, are_too_many, client, fits_batch, sent_for}
use Rattle.rb_meaning_split.specs.Division.{Division, division, divisions}
use Rattle.rb_law_division.specs.Fitting.{node_of}
use Rattle.rb_law_division.specs.Sendable.{HasPlaces}
use Rattle.rb_law_script.specs.Remote.{script_run}
use Rattle.rb_flow.specs.Program.{HasNoRefusal}
use Rattle.rb_law_unsplit.specs.Kept.{AllKeepFitting}
use Rattle.rb_law_client.specs.Answered.{EachAnswerFits}
use Rattle.rb_law_client.specs.Clients.{ClientsMeanWhatProgramsMean, ScriptsGive}
use Rattle.rb_law_client.specs.Dividing.{KeepsMeaning}
use Rattle.rb_law_client.specs.Reached.{CanBeExchanged, ComesAsFar, FrontsAreShown, ProgramComesTo, ProgramsComeAsFar, ReachedBatchesCanBeExchanged, main_run, with_nodes}
use Rattle.rb_base.specs.Devices.{failed}
use Rattle.rb_base.specs.Links.{Finds, FindsFitting, FindsStanding}
use Rattle.rb_base.specs.Sinks.{with_bytes, WrotePrefix}
use Rattle.rb_client.specs.Clients.{FailsToAnswer, Past, waiting}
use Rattle.rb_client.specs.Demands.{demand_of}
use Rattle.rb_client.specs.Headline.{EndsAsMeant, LosesBatch, LosesLines, MeansProgram, MeansWhereHonest, MeansWhereQuiet, StandsAt, meant_on, table_behind}
use Rattle.rb_client.specs.MainRuns.{ComesTo, EndsAt, Leaves, StopsWriting}
use Rattle.rb_client.specs.Remote.{ReachedPerformRemoteParts}
use Rattle.rb_client.specs.Runs.{FailsInBatch, FailsToWrite, FailsWithin, Ran, with_batch}
use Rattle.rb_client.specs.Scenes.{Scene}
use Rattle.rb_client.specs.Servers.{IsServer, PerformedAll}
use Rattle.rb_client.specs.Serving.{MayPerform, table_left}
use Rattle.rb_client.specs.declared.stops.BadReason.{BadReason}
use Rattle.rb_client.specs.declared.stops.RunStop.{RunStop}
use Rattle.rb_client.specs.declared.stops.RunStop.TheVariants as stops
use Rattle.rb_client.proofs.Events.{shown_append, shown_line}
use Rattle.rb_client.proofs.Fronts.{front_later, front_of_all}
use Rattle.rb_client.proofs.Given.{FoundLast, LastGives, all_last, found_last, last_gives, last_on}
use Rattle.rb_client.proofs.RunsOver.{client_comes, ran_so}
use Rattle.rb_client.proofs.Serving.{Served, served_as, served_of}
use Rattle.rb_client.proofs.Showing.{client_counted, passed_counted}
use Rattle.rb_client.proofs.Ways.{LostThere, Ways, fitting, lost_there, misfit_there, standing}

-- the laws that this stands on
pub record Laws : Type 0 where
  pub clients : ClientsMeanWhatProgramsMean
  pub far : ProgramsComeAsFar
  pub fronts : FrontsAreShown
  pub exchanged : ReachedBatchesCanBeExchanged
  pub remote : ReachedPerformRemoteParts
  pub answers : EachAnswerFits

abbrev Tables : Type 0
Tables = List (List Object)

-- what is passed is passed on
passes_on : {S A : Type 0} (h : Handler S) (a b c : Dialogue A) (s s1 s2 : S) → Passes h a s b s1 → Passes h b s1 c s2 → Passes h a s c s2
passes_on h _ _ c _ _ s2 (here d s) more = more
passes_on h _ b c _ s1 s2 (answered q go s _ _ p) more = answered q go s s2 c (passes_on h (go (h.answer s q).0) b c (h.answer s q).1 s1 s2 p more)
passes_on h _ b c _ s1 s2 (performed at l go s _ _ p) more = performed at l go s s2 c (passes_on h (go (h.batch s at l).0) b c (h.batch s at l).1 s1 s2 p more)

same_some : {A : Type 0} (o : Option A) (a b : A) → o ≡ Some a → o ≡ Some b → a ≡ b
same_some o a b e f = let both : Some a ≡ Some b = sym e ∙ f in cc both

module _ (laws : Laws) (p : Program) (lawful : IsLawful p) (checked : check_program p ≡ Ok tt) (none : HasNoRefusal p) (places : HasPlaces p) (ds : List Division) (divided : divisions p ≡ Ok ds)
    (fuel : ℕ) (before after : Scene) (b : Behind) (typed : IsTyped b.service b.table) (honest : before.honest) (is : before.server ≡ Some b) (Found : Finds) (ways : Ways before.honest before.quiet b Found) where
  abbrev Rest : Type 0
  Rest = Dialogue (Outcome (Option Value))

  abbrev ServedBy : Option Behind → List Sent → List Node → Type 0
  ServedBy told sent nodes = Served before.quiet b told sent nodes

  served : (told : Option Behind) (sent : List Sent) (nodes : List Node) → PerformedAll before.quiet before.server told sent nodes → ServedBy told sent nodes
  served told sent nodes h = served_of before.quiet b told sent nodes (subst (λ s. PerformedAll before.quiet s told sent nodes) is h)

  -- A run that ended.

  means_program : (run : runs.Run) (ran : Ran p fuel run before after) (t : ServedBy after.server (client p fuel ran.nodes).sent ran.nodes) → MeansProgram p fuel b (ways.others t.found) run before after
  means_program run ran t =
      let others = ways.others t.found in
      let told = after.server in
      let sent = (client p fuel ran.nodes).sent in
      let law = laws.clients p lawful checked none b.service b.table typed others (ways.keep told sent ran.nodes t) fuel in
      let m = law.1 t.found ran.nodes t.left t.given (ways.through told sent ran.nodes t) in
      let meant = meant_on p fuel b others in
      record {
        ending_so = ran.ending_so ∙ m.ending;
        exchanges_so = ran.exchanges_so ∙ sym (client_counted p fuel ran.nodes) ∙ ap exchanges m.events;
        written = ran.written ∙ ap (λ es. with_bytes before.out (shown_events es)) m.events;
        server_so = served_as told b t.found meant.found t.left meant.left (last_table b.table t.left) meant.table m.found_so m.left_so m.table t.is;
      }

  -- A run that was cut off where others did this.

  module _ (others : List Others) (keep : AllKeepFitting b.service others) where
    -- the program came to what a client came to
    far : (h : Past) (rest : Rest) (found left : Tables) → ComesTo p fuel h rest → ScriptsGive b.service found h.sent h.nodes left → FoundThrough others b.table found left
        → ComesAsFar p b.service b.table others fuel rest (waiting h []) found left
    far h rest found left comes given through = laws.far p lawful checked none b.service b.table typed others keep fuel h.nodes rest (waiting h []) found left (client_comes p fuel h rest comes) given through

    -- where it came stands a table that fits
    fits_there : (rest : Rest) (a : Around) → ProgramComesTo p b.service b.table others fuel rest a → TableFits b.service.classes b.service.root a.outside.server.table
    fits_there rest a comes = ((laws.answers p lawful checked none b.service b.table typed others keep fuel).main rest a comes).around.table

    -- a batch that it came to can be exchanged on a table that fits
    exchanged : (at : ℕ) (l : Local) (go : Outcome (Unit {0}) → Rest) (a : Around) → ProgramComesTo p b.service b.table others fuel (AskBatch at l go) a → (s : Outside) → TableFits b.service.classes b.service.root s.server.table
        → CanBeExchanged p b.service at l s
    exchanged at l go a comes s fits_so = laws.exchanged p lawful checked none places ds divided b.service b.table typed others keep fuel at l go a comes s fits_so

    -- the batch begins where its inputs don't have too many items
    begins_there : (at : ℕ) (l : Local) (go : Outcome (Unit {0}) → Rest) (o : Outermost) (a : Around) → ProgramComesTo p b.service b.table others fuel (AskBatch at l go) a → batch_at p at ≡ Some o → (s : Outside)
        → TableFits b.service.classes b.service.root s.server.table → takes_too_many p o l.names ≡ are_too_many (division p o) l
    begins_there at l go o a comes stands s fits_so =
        let x = exchanged at l go a comes s fits_so in
        subst (λ y. takes_too_many p y l.names ≡ are_too_many (division p y) l) (same_some (batch_at p at) x.batch o x.stands stands) x.limit

    -- the table that a batch's script leaves of one that fits
    left_behind : (at : ℕ) (l : Local) (go : Outcome (Unit {0}) → Rest) (o : Outermost) (a : Around) (found : List Object) → ProgramComesTo p b.service b.table others fuel (AskBatch at l go) a → batch_at p at ≡ Some o
        → TableFits b.service.classes b.service.root found → table_left b found (sent_for (division p o) l) ≡ table_behind p b.service o l found
    left_behind at l go o a found comes stands fits_so = ap (λ x. x.table) (laws.remote p lawful checked none b.service b.table typed others keep fuel at l go a comes o stands found fits_so).server

    -- where the program came has the tables that the server noted
    stands_there : (rest : Rest) (w : Waiting) (found left : Tables) (c : ComesAsFar p b.service b.table others fuel rest w found left) (told : Option Behind) (table : List Object) → IsServer told b found left table
        → IsServer told b c.around.found c.around.left table
    stands_there rest w found left c told table i = served_as told b found c.around.found left c.around.left table table (sym c.found_so) (sym c.left_so) refl i

    -- A write that failed.

    -- what was shown where the program came is a front of what it means to show
    front_of_meaning : (rest : Rest) (a : Around) (es : List Event) (piece : List ℕ) → ProgramComesTo p b.service b.table others fuel rest a → shown_events a.outside.events ≡ shown_events es ++ piece
        → FailsWithin before.out after.out es piece → WrotePrefix (failed before.out) after.out (shown_events (meant_on p fuel b others).events)
    front_of_meaning rest a es piece comes e f =
        let front = laws.fronts p b.service b.table others fuel rest a comes in
        let shown = a.outside.events in
        front_later before.out after.out shown (meant_on p fuel b others).events (front.more, front.is) (front_of_all before.out after.out es shown piece e f)

    -- the program goes on behind a line, and behind a batch
    line_passed : (at : ℕ) (bytes : List ℕ) (go : Result Value Raised → Rest) (a : Around) → ProgramComesTo p b.service b.table others fuel (Ask (ask.Line at bytes) go) a
        → let next = answers_around a (ask.Line at bytes) in ProgramComesTo p b.service b.table others fuel (go next.0) next.1
    line_passed at bytes go a comes =
        let q = ask.Line at bytes in
        let next = answers_around a q in
        passes_on (in_main p b.service) (main_run p fuel) (Ask q go) (go next.0) (around_of b.table others) a next.1 comes (answered q go a next.1 (go next.0) (here (go next.0) next.1))

    batch_passed : (at : ℕ) (l : Local) (go : Outcome (Unit {0}) → Rest) (a : Around) → ProgramComesTo p b.service b.table others fuel (AskBatch at l go) a
        → let next = performs_found p b.service (batch_at p at) at l a in ProgramComesTo p b.service b.table others fuel (go next.0) next.1
    batch_passed at l go a comes =
        let next = performs_found p b.service (batch_at p at) at l a in
        passes_on (in_main p b.service) (main_run p fuel) (AskBatch at l go) (go next.0) (around_of b.table others) a next.1 comes (performed at l go a next.1 (go next.0) (here (go next.0) next.1))

    in_line : (h : Past) (at : ℕ) (bytes : List ℕ) (go : Result Value Raised → Rest) → ComesTo p fuel h (Ask (ask.Line at bytes) go) → FailsToWrite p before after h.events (line bytes) h.sent h.nodes
        → (t : ServedBy after.server h.sent h.nodes) → FoundThrough others b.table t.found t.left → LosesLines p fuel b others before after
    in_line h at bytes go comes f t through =
        let rest = Ask (ask.Line at bytes) go in
        let c = far h rest t.found t.left comes t.given through in
        let a = c.around in
        let written = subst (λ es. FailsWithin before.out after.out es (line bytes)) (sym c.events) f.written in
        let next = answers_around a (ask.Line at bytes) in
        record {
          place = inl (record {
            at = at;
            bytes = bytes;
            go = go;
            around = a;
            comes = c.comes;
            written = written;
            stands = subst (IsServer after.server b a.found a.left) (sym c.table) (stands_there rest (waiting h []) t.found t.left c after.server (last_table b.table t.left) t.is);
          });
          written = front_of_meaning (go next.0) next.1 a.outside.events (line bytes) (line_passed at bytes go a c.comes) (shown_line a.outside.events bytes) written;
        }

    module _ (h : Past) (at : ℕ) (l : Local) (go : Outcome (Unit {0}) → Rest) (o : Outermost) (comes : ComesTo p fuel h (AskBatch at l go)) (stands : batch_at p at ≡ Some o)
        (f : FailsInBatch p before after (division p o) l (waiting h []) h.nodes) where
      abbrev own : Sent
      own = sent_for (division p o) l

      module _ (t : ServedBy after.server (h.sent ++ own ∷ []) (h.nodes ++ f.node ∷ [])) (through : FoundThrough others b.table t.found t.left) where
        last : LastGives b.service t.found h.sent h.nodes t.left own f.node
        last = last_gives b.service t.found h.sent h.nodes t.left own f.node t.given

        -- the table that the batch's script found, and the one that it left
        abbrev found : List Object
        found = last.table

        abbrev left : List Object
        left = table_left b found own

        fits_so : TableFits b.service.classes b.service.root found
        fits_so =
            let fitting = TableFits b.service.classes b.service.root in
            all_last fitting last.before found (subst (AllByRecursion fitting) last.found_so t.fitting)

        so_far : FoundLast others b.table last.before found last.behind
        so_far =
            found_last others b.table last.before found last.behind left
            (subst (λ fs. FoundThrough others b.table fs (last.behind ++ left ∷ [])) last.found_so (subst (FoundThrough others b.table t.found) last.left_so through))

        come : ComesAsFar p b.service b.table others fuel (AskBatch at l go) (waiting h []) last.before last.behind
        come = far h (AskBatch at l go) last.before last.behind comes last.given so_far.through

        abbrev a : Around
        a = come.around

        -- what is around the batch
        abbrev s : Outside
        s = at_batch a

        table_so : s.server.table ≡ found
        table_so = ap (λ os. found_table os a.outside.server.table) come.others_so ∙ ap (found_table (drop (length last.before) others)) come.table ∙ sym so_far.found_so

        there : TableFits b.service.classes b.service.root s.server.table
        there = subst (TableFits b.service.classes b.service.root) (sym table_so) fits_so

        keeps : KeepsMeaning p b.service o l s
        keeps =
            let x = exchanged at l go a come.comes s there in
            subst (λ y. KeepsMeaning p b.service y l s) (same_some (batch_at p at) x.batch o x.stands stands) x.keeps

        begins_so : takes_too_many p o l.names ≡ false
        begins_so = begins_there at l go o a come.comes stands s there ∙ f.begins

        own_so : (performs_batch p b.service o l s).1.events ≡ a.outside.events ++ f.own
        own_so =
            let d = division p o in
            let node_so : (script_run p b.service o l s.server.table).node ≡ f.node = ap (λ u. (script_run p b.service o l u).node) table_so ∙ last.node_so in
            sym keeps.events ∙ ap (λ es. with_batch p d l es (script_run p b.service o l s.server.table).node) come.events ∙ ap (with_batch p d l h.events) node_so ∙ f.own_so
            ∙ ap (λ es. es ++ f.own) (sym come.events)

        written_so : FailsWithin before.out after.out a.outside.events (shown_events f.own)
        written_so = subst (λ es. FailsWithin before.out after.out es (shown_events f.own)) (sym come.events) f.fails.written

        served_there : let behind = table_behind p b.service o l s.server.table in IsServer after.server b (a.found ++ s.server.table ∷ []) (a.left ++ behind ∷ []) behind
        served_there =
            let behind = table_behind p b.service o l s.server.table in
            let left_so : left ≡ behind = left_behind at l go o a found come.comes stands fits_so ∙ ap (table_behind p b.service o l) (sym table_so) in
            served_as after.server b t.found (a.found ++ s.server.table ∷ []) t.left (a.left ++ behind ∷ []) (last_table b.table t.left) behind
            (last.found_so ∙ ap (λ fs. fs ++ found ∷ []) (sym come.found_so) ∙ ap (λ u. a.found ++ u ∷ []) (sym table_so))
            (last.left_so ∙ ap (λ ls. ls ++ left ∷ []) (sym come.left_so) ∙ ap (λ u. a.left ++ u ∷ []) left_so)
            (ap (last_table b.table) last.left_so ∙ last_on b.table last.behind (left ∷ []) ∙ left_so) t.is

        in_batch : LosesLines p fuel b others before after
        in_batch =
            let next = performs_found p b.service (batch_at p at) at l a in
            let shows : shown_events next.1.outside.events ≡ shown_events a.outside.events ++ shown_events f.own =
            ap (λ y. shown_events (performs_found p b.service y at l a).1.outside.events) stands ∙ ap (λ t. shown_events (begins_or_faults t p b.service o l a).1.outside.events) begins_so
            ∙ ap shown_events own_so ∙ shown_append a.outside.events f.own in
            record {
              place = inr (record {
                at = at;
                local = l;
                go = go;
                around = a;
                batch = o;
                own = f.own;
                comes = come.comes;
                stands = stands;
                begins = begins_so;
                own_so = own_so;
                written = written_so;
                served = served_there;
              });
              written = front_of_meaning (go next.0) next.1 a.outside.events (shown_events f.own) (batch_passed at l go a come.comes) shows written_so;
            }

    -- A batch whose exchange gave no node.

    module _ (k : ℕ) (e : EndsAt p fuel (stops.LinkFault k) before after) (t : ServedBy e.stops_so.server e.past.sent e.past.nodes) (through : FoundThrough others b.table t.found t.left) where
      abbrev lost_script : Sent
      lost_script = sent_for (division p e.batch) e.local

      abbrev rest : Rest
      rest = AskBatch e.at e.local e.go

      came : ComesAsFar p b.service b.table others fuel rest (waiting e.past []) t.found t.left
      came = far e.past rest t.found t.left e.comes t.given through

      gone : LostThere Found b t.found t.left (last_table b.table t.left) lost_script after.server
      gone = lost_there Found ways.respects b t.found t.left (last_table b.table t.left) lost_script e.stops_so.server after.server t.is (ways.holds (λ F. MayPerform F e.stops_so.server after.server lost_script) e.stops_so.lost.1)

      found_fits : TableFits b.service.classes b.service.root gone.table
      found_fits = ways.fits_so (last_table b.table t.left) gone.table (subst (TableFits b.service.classes b.service.root) came.table (fits_there rest came.around came.comes)) gone.found_so

      one_of_two : IsServer after.server b t.found t.left gone.table ⊎ IsServer after.server b t.found t.left (table_left b gone.table lost_script)
          → StandsAt b came.around gone.table after ⊎ StandsAt b came.around (table_behind p b.service e.batch e.local gone.table) after
      one_of_two (inl i) = inl (stands_there rest (waiting e.past []) t.found t.left came after.server gone.table i)
      one_of_two (inr i) =
          inr (stands_there rest (waiting e.past []) t.found t.left came after.server (table_behind p b.service e.batch e.local gone.table)
          (subst (IsServer after.server b t.found t.left) (left_behind e.at e.local e.go e.batch came.around gone.table came.comes e.stands found_fits) i))

      loses : LosesBatch Found p fuel b others k before after
      loses = record {
        at = e.at;
        local = e.local;
        go = e.go;
        around = came.around;
        batch = e.batch;
        comes = came.comes;
        stands = e.stands;
        begins = begins_there e.at e.local e.go e.batch came.around came.comes e.stands (outside_of gone.table) found_fits ∙ e.stops_so.begins;
        count = e.stops_so.gives_none.0 ∙ sym (passed_counted p (main_run p fuel) rest (with_nodes e.past.nodes) (waiting e.past []) (client_comes p fuel e.past rest e.comes).passes refl)
            ∙ ap exchanges (sym came.events);
        written = e.stops_so.written ∙ ap (λ es. with_bytes before.out (shown_events es)) (sym came.events);
        loses = record {
          table = gone.table;
          found = subst (λ u. Found (record b { table = u }) gone.table) (sym came.table) gone.found_so;
          stands = one_of_two gone.stands;
        };
      }

    no_bad_reply : (k : ℕ) (why : BadReason) (kind : ℕ) (bytes : List ℕ) (e : EndsAt p fuel (stops.BadReply k why kind bytes) before after) (t : ServedBy e.stops_so.server e.past.sent e.past.nodes)
        → FoundThrough others b.table t.found t.left → ⊥
    no_bad_reply k why kind bytes e t through =
        let rest = AskBatch e.at e.local e.go in
        let c = far e.past rest t.found t.left e.comes t.given through in
        let d = division p e.batch in
        let m = misfit_there b t.found t.left (last_table b.table t.left) (sent_for d e.local) (demand_of d e.local) e.stops_so.server t.is (e.stops_so.lost.1 honest) in
        let x = exchanged e.at e.local e.go c.around c.comes (outside_of m.0) m.1 in
        let same = same_some (batch_at p e.at) x.batch e.batch x.stands e.stands in
        m.2 (subst (λ y. fits_batch (division p y) e.local (node_of p y b.service m.0 e.local) ≡ Ok tt) same x.fits_so)

  -- With the others that there were.

  abbrev Ends : Result runs.Run RunStop → Type 0
  Ends r = (found : Tables) × EndsAsMeant Found p fuel b (ways.others found) r before after

  at_question : (h : Past) (q : Question) (go : Result Value Raised → Rest) → ComesTo p fuel h (Ask q go) → FailsToAnswer p before after h q → Ends (Err stops.WriteFault)
  at_question h (ask.Line at bytes) go comes f =
      let t = served after.server h.sent h.nodes (f.exchanged.served honest) in
      (t.found, in_line (ways.others t.found) (ways.keep after.server h.sent h.nodes t) h at bytes go comes f t (ways.through after.server h.sent h.nodes t))
  at_question h (ask.Taken step) go comes f = absurd f
  at_question h (ask.Invoke at target method args) go comes f = absurd f
  at_question h (ask.Turn at) go comes f = absurd f
  at_question h (ask.ListTurn at) go comes f = absurd f

  writing : (h : Past) (rest : Rest) → ComesTo p fuel h rest → StopsWriting p h rest before after → Ends (Err stops.WriteFault)
  writing h (Done a) comes s = absurd s
  writing h (Ask q go) comes f = at_question h q go comes f
  writing h (AskBatch at l go) comes (o, stands, f) =
      let sent = h.sent ++ sent_for (division p o) l ∷ [] in
      let nodes = h.nodes ++ f.node ∷ [] in
      let t = served after.server sent nodes (f.fails.exchanged.served honest) in
      (t.found, in_batch (ways.others t.found) (ways.keep after.server sent nodes t) h at l go o comes stands f t (ways.through after.server sent nodes t))

  pub ends_as_meant : (r : Result runs.Run RunStop) → Leaves p fuel r before after → Ends r
  ends_as_meant (Ok run) e =
      let ran = ran_so p fuel before after run e in
      let t = served after.server (client p fuel ran.nodes).sent ran.nodes (ran.exchanged.served honest) in
      (t.found, means_program run ran t)
  ends_as_meant (Err (stops.LinkFault k)) e =
      let s = e.stops_so in
      let t = served s.server e.past.sent e.past.nodes (s.served honest) in
      (t.found, loses (ways.others t.found) (ways.keep s.server e.past.sent e.past.nodes t) k e t (ways.through s.server e.past.sent e.past.nodes t))
  ends_as_meant (Err (stops.BadReply k why kind bytes)) e =
      let s = e.stops_so in
      let t = served s.server e.past.sent e.past.nodes (s.served honest) in
      (t.found, no_bad_reply (ways.others t.found) (ways.keep s.server e.past.sent e.past.nodes t) k why kind bytes e t (ways.through s.server e.past.sent e.past.nodes t))
  ends_as_meant (Err stops.WriteFault) e = writing e.past e.rest e.comes e.stops_so
  ends_as_meant (Err stops.Memory) e = ([], tt)

module _ (laws : Laws) (p : Program) (lawful : IsLawful p) (checked : check_program p ≡ Ok tt) (none : HasNoRefusal p) (places : HasPlaces p) (ds : List Division) (divided : divisions p ≡ Ok ds) (fuel : ℕ) (before after : Scene)
    (tells : before.honest → TellsTyped before.server) (r : Result runs.Run RunStop) (e : Leaves p fuel r before after) where
  pub means_so : MeansWhereHonest p fuel r before after
  means_so = λ honest b is. ends_as_meant laws p lawful checked none places ds divided fuel before after b (subst TellsTyped is (tells honest)) honest is FindsFitting (fitting before.honest before.quiet b honest) r e

  pub means_alone : MeansWhereQuiet p fuel r before after
  means_alone = λ honest quiet b is.
      (ends_as_meant laws p lawful checked none places ds divided fuel before after b (subst TellsTyped is (tells honest)) honest is FindsStanding (standing before.honest before.quiet b honest quiet) r e).1
