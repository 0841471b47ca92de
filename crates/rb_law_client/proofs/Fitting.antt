-- What an accepted program is answered on its way fits, each piece of its code keeps types, and no script of it faults Kind.
use Rattle.std.proofs.Common.{◌≡◌, sym, ap, ◌∙◌, subst, ℕ, List, [], Bool as Truth, true, false, All, Option, Some, None, Ok}
use Rattle.std.proofs.lemmas.List.Elements.{All-nil, All-cons, Contains-append_left}
use Rattle.rb_trees.specs.declared.values.Value.{Value}
use Rattle.rb_trees.specs.declared.values.Value.TheVariants as value
use Rattle.rb_trees.specs.declared.outcomes.Raised.{Raised}
use Rattle.rb_trees.specs.declared.services.Object.{Object}
use Rattle.rb_trees.specs.mirror.Declarations.{Program}
use Rattle.rb_trees.specs.mirror.Services.{Service}
use Rattle.rb_meaning_types.specs.Declared.{Declarations, Context, of_program}
use Rattle.rb_meaning_types.specs.Lawful.{IsLawful}
use Rattle.rb_meaning_types.specs.Notes.{type_at, scope_or}
use Rattle.rb_meaning_types.specs.Programs.{check_program}
use Rattle.rb_meaning_types.specs.Scopes.{Scope}
use Rattle.rb_meaning_types.specs.Statements.{catch_scope}
use Rattle.rb_meaning_code.specs.Dialogue.{Outcome, Gave, Faulted, Dialogue, Done, Ask, AskBatch, Run, Handler}
use Rattle.rb_meaning_code.specs.Remote.{Got, Stopped}
use Rattle.rb_meaning_code.specs.ScriptRun.{PlacedFault}
use Rattle.rb_meaning_code.specs.State.{Local, bound}
use Rattle.rb_meaning_flow.specs.Facts.{facts_of}
use Rattle.rb_meaning_flow.specs.Outermost.{Outermost, program_batches}
use Rattle.rb_meaning.specs.Links.{IsTyped}
use Rattle.rb_meaning.specs.Meaning.{Around, around_of, at_batch, in_main}
use Rattle.rb_meaning.specs.Others.{Others}
use Rattle.rb_meaning.specs.RemotePart.{Walked}
use Rattle.rb_meaning.specs.Unsplit.{batch_at, begun, in_batch}
use Rattle.rb_meaning_split.specs.Client.{input_values}
use Rattle.rb_meaning_split.specs.Division.{division}
use Rattle.rb_flow.specs.Program.{HasNoRefusal}
use Rattle.rb_law_types.specs.Around.{HandlerFits}
use Rattle.rb_law_types.specs.Asked.{Side, Own, InBatch, Site, Keeps, IsAskedBatch}
use Rattle.rb_law_types.specs.Batches.{sites_in}
use Rattle.rb_law_types.specs.Code.{AreTyped}
use Rattle.rb_law_types.specs.Ends.{Place, context, Ends}
use Rattle.rb_law_types.specs.Kept.{IsFaultOf, IsOwnFault, FaultFits}
use Rattle.rb_law_types.specs.NodeFaults.{at_most_one, NodesHoldTheFault}
use Rattle.rb_law_types.proofs.Faults.{rule_own}
use Rattle.rb_law_types.proofs.InSurroundings.{types_keep_handled, batches_keep_handled}
use Rattle.rb_law_types.proofs.Parts.{try_parts}
use Rattle.rb_law_types.proofs.Steps.{keeps_more}
use Rattle.rb_law_unsplit.specs.Batches.{program_sites}
use Rattle.rb_law_unsplit.specs.Kept.{AllKeepFitting, HasFittingTable, StandsAround}
use Rattle.rb_law_unsplit.proofs.Admitted.{walks_fine}
use Rattle.rb_law_unsplit.proofs.Found.{batch_found}
use Rattle.rb_law_unsplit.proofs.Handling.{Fine}
use Rattle.rb_law_unsplit.proofs.Others.{stands_at_batch}
use Rattle.rb_law_unsplit.proofs.Programs.{IsTypedProgram, program_typed, batches_in, methods_ask}
use Rattle.rb_law_unsplit.proofs.Standing.{IsBatchOf}
use Rattle.rb_law_unsplit.proofs.Whole.{declared, batch_fits, BodyKeeps, body_begins, same_site}
use Rattle.rb_law_script.specs.Remote.{fault_of, script_run, remote_part}
use Rattle.rb_law_client.specs.Answered.{EndsWithoutKind, NextFits, AlwaysStandsWell, body_run, AnswersFit, CodeKeepsTypes, NoKindIsCaught, EachAnswerFits, EachPieceKeepsTypes, KindIsNeverCaught}
use Rattle.rb_law_client.specs.Below.{LawsBelow}
use Rattle.rb_law_client.specs.Reached.{main_run, ProgramComesTo}
use Rattle.rb_law_client.specs.ScriptFaults.{StopsWithoutKind, ScriptEndsWithoutKind, ScriptsNeverFaultKind}
use Rattle.rb_law_client.proofs.Divided.{walking}
use Rattle.rb_law_client.proofs.Mains as mains
use Rattle.rb_law_client.proofs.Mains.{main_fits, main_kept, reaches}

-- what comes next, where the run keeps types
next_fits : {S A : Type 0} (d : Declarations) (side : Side) (Holds : S → Type 0) (h : Handler S) → HandlerFits d side Holds h → (rest : Run A) (s : S) → Keeps d side EndsWithoutKind rest → Holds s → NextFits d side h rest s
next_fits d side Holds h fits (Done o) s k holds = k
next_fits d side Holds h fits (Ask q go) s k holds = (k.0, fits.answers s q holds k.0)
next_fits d side Holds h fits (AskBatch at l go) s k holds = (k.0, k.1, fits.batches s at l k.0 holds k.1)

always : {S A : Type 0} (Holds : S → Type 0) (d : Declarations) (side : Side) (h : Handler S) → HandlerFits d side Holds h → (P : Outcome A → Type 0) → ((o : Outcome A) → P o → EndsWithoutKind o)
    → (run : Run A) (s : S) → Keeps d side P run → Holds s → AlwaysStandsWell Holds d side h run s
always Holds d side h fits P less run s k holds rest now way =
    let reached = reaches d side Holds h fits EndsWithoutKind run rest s now way (keeps_more d side P EndsWithoutKind run less k) holds in
    record { next = next_fits d side Holds h fits rest now reached.0 reached.1; around = reached.1 }

-- a fault that fits, in a program or a service, is one that typed code ends by
fits_own : (d : Declarations) (r : Raised) → FaultFits d r → IsOwnFault r.fault
fits_own d r h = by d.service h
  where
    by : (service : Truth) → IsFaultOf service r.fault → IsOwnFault r.fault
    by true h = rule_own r.fault h
    by false h = h

-- code that ends as its types say ends without Kind
ends_well : {A : Type 0} (x : Context) (scope after : Scope) (P : List (List ℕ) → A → Type 0) (before : List (List ℕ)) (o : Outcome A) → Ends x scope after P before o → EndsWithoutKind o
ends_well x scope after P before (Gave a l) e = tt
ends_well x scope after P before (Faulted r l) e = fits_own x.declared r e.fault

-- where a run stops without Kind, no other fault stands in its node
none_in_node : (fault : Option PlacedFault) → StopsWithoutKind fault → All (λ f. IsOwnFault f.fault) (at_most_one fault)
none_in_node None h = All-nil (λ x. IsOwnFault x.fault)
none_in_node (Some f) h = All-cons (λ x. IsOwnFault x.fault) f [] h (All-nil (λ x. IsOwnFault x.fault))

-- a walk over the remote part that is fine stops without Kind
walk_stops : (service : Service) (r : Walked) → Fine service (λ (u : Unit {0}). Unit {0}) r → StopsWithoutKind (fault_of r)
walk_stops service (Got u s) h = tt
walk_stops service (Stopped at f s) h = h.0

module _ (below : LawsBelow) (p : Program) (lawful : IsLawful p) (checked : check_program p ≡ Ok tt) (none : HasNoRefusal p) (service : Service) (table : List Object) (served : IsTyped service table) where
  abbrev d : Declarations
  d = of_program p

  abbrev t : IsTypedProgram p
  t = program_typed p checked

  abbrev side : Side
  side = Own (program_sites p)

  abbrev all : List Outermost
  all = program_batches (facts_of p) p

  abbrev site_of : Outermost → List ℕ → Place → Site
  site_of o interface place = record { at = o.at; interface = interface; root = o.root; block = o.block; place = place }

  typed : AreTyped d
  typed = declared below.calls below.exprs_formed below.stmts_formed below.classes_formed below.types_keep p lawful t none service table served

  in_program : HandlerFits d side (StandsAround service) (in_main p service)
  in_program = main_fits below p lawful checked none service table served

  in_batches : HandlerFits d (InBatch (type_at p)) (HasFittingTable service) (in_batch p service)
  in_batches = batch_fits below.calls below.exprs_formed below.stmts_formed below.classes_formed below.types_keep p lawful t none service table served

  main_ends : (o : Outcome (Option Value)) → mains.Ends below p lawful checked none service table served o → EndsWithoutKind o
  main_ends (Gave v l) e = tt
  main_ends (Faulted r l) e = e

  -- ---- a batch that the program comes to

  record IsReached (at : ℕ) (l : Local) (a : Around) : Type 0 where
    holds : HasFittingTable service (at_batch a)
    site : Site
    asked : IsAskedBatch d side at l site
    known : IsBatchOf p all site
    found : batch_at p at ≡ Some known.begun
    here : IsBatchOf p all (site_of known.begun site.interface site.place)
    asked_here : IsAskedBatch d side at l (site_of known.begun site.interface site.place)

  -- of a program that begins on the table, where others do what keeps tables fitting
  abbrev Starts : List Others → Type 0
  Starts others = StandsAround service (around_of table others)

  started : (others : List Others) → AllKeepFitting service others → Starts others
  started others kept = record { table = served.fits; others = kept }

  reached : (others : List Others) → Starts others → (fuel at : ℕ) (l : Local) (go : Outcome (Unit {0}) → Dialogue (Outcome (Option Value))) (a : Around)
      → ProgramComesTo p service table others fuel (AskBatch at l go) a → IsReached at l a
  reached others starts fuel at l go a comes =
      let kept = reaches d side (StandsAround service) (in_main p service) in_program (mains.Ends below p lawful checked none service table served) (main_run p fuel) (AskBatch at l go) (around_of table others) a comes
      (main_kept below p lawful checked none service table served fuel) starts in
      let asked : IsAskedBatch d side at l kept.0.0 = kept.0.1 in
      let known = batches_in p lawful t (below.notes p lawful) kept.0.0 asked.may in
      let same = same_site below.calls below.exprs_formed below.stmts_formed below.classes_formed below.types_keep p lawful t none service table served kept.0.0 known in
      record {
        holds = stands_at_batch service a kept.1;
        site = kept.0.0;
        asked = asked;
        known = known;
        found = ap (batch_at p) (sym (known.at ∙ asked.here)) ∙ batch_found p lawful known.begun known.among;
        here = subst (IsBatchOf p all) (sym same) known;
        asked_here = subst (IsAskedBatch d side at l) (sym same) asked;
      }

  -- its body, from where its root is bound
  body_here : (at : ℕ) (l : Local) (a : Around) (r : IsReached at l a)
      → BodyKeeps below.calls below.exprs_formed below.stmts_formed below.classes_formed below.types_keep p lawful t none service table served r.known.begun r.site.interface r.site.place r.here r.known.among l
  body_here at l a r =
      body_begins below.calls below.exprs_formed below.stmts_formed below.classes_formed below.types_keep p lawful t none service table served r.known.begun r.site.interface r.site.place r.here r.known.among at l r.asked_here

  answers : (others : List Others) → Starts others → (fuel : ℕ) → AnswersFit p service table others fuel
  answers others starts fuel = record {
    main = always (StandsAround service) d side (in_main p service) in_program (mains.Ends below p lawful checked none service table served) main_ends (main_run p fuel) (around_of table others)
        (main_kept below p lawful checked none service table served fuel) starts;
    batches = λ at l go a comes.
        let r = reached others starts fuel at l go a comes in
        let body = body_here at l a r in
        record {
          batch = r.known.begun;
          stands = r.found;
          body = always (HasFittingTable service) d (InBatch (type_at p)) (in_batch p service) in_batches _ (ends_well _ _ _ _ _) (body_run p service r.known.begun l) (begun (at_batch a)) body.keeps r.holds;
        };
  }

  code : CodeKeepsTypes p service
  code = record {
    own = types_keep_handled (StandsAround service) d typed (program_sites p) (methods_ask p) (in_main p service) in_program;
    batches = batches_keep_handled (HasFittingTable service) d typed (type_at p) (in_batch p service) in_batches;
  }

  caught : NoKindIsCaught p service
  caught = record {
    own = λ place at a name b after gas l s leads asks stands holds.
        let x = context d place in
        let parts = try_parts x place.scope at a name b after leads.0 in
        let ends = code.own.blocks place a parts.first gas l (parts.first_typed, leads.1.0)
        (λ may site among. asks may site (Contains-append_left (sites_in x place.scope a) (sites_in x (scope_or place.scope (catch_scope place.scope at name)) b) site among)) stands s holds in
        ends_well _ _ _ _ _ _ ends.0;
    batches = λ place at a name b after gas l s leads noted fits holds.
        let parts = try_parts (context d place) place.scope at a name b after leads.0 in
        let ends = code.batches.blocks place a parts.first gas l (parts.first_typed, leads.1.0) (noted.0.0, noted.1.0) fits s holds in
        ends_well _ _ _ _ _ _ ends.0;
  }

  script_ends : NodesHoldTheFault → (others : List Others) → Starts others → (fuel at : ℕ) (l : Local) (go : Outcome (Unit {0}) → Dialogue (Outcome (Option Value))) (a : Around)
      → ProgramComesTo p service table others fuel (AskBatch at l go) a → ScriptEndsWithoutKind p service at l (at_batch a)
  script_ends nodes others starts fuel at l go a comes =
      let s = at_batch a in
      let r = reached others starts fuel at l go a comes in
      let b = r.known.begun in
      let body = body_here at l a r in
      let served_now : IsTyped service s.server.table = record { lawful = served.lawful; typed = served.typed; fits = r.holds } in
      let walk = walks_fine (walking below) below.conditions below.exprs_formed below.stmts_formed below.classes_formed below.types_keep below.sends p lawful t none service table served
      b r.site.interface r.site.place r.here r.known.agree r.known.among (bound b.root (value.Remote service.root) l) (begun s) r.holds body.start_fits body.begins in
      let performs = below.scripts p lawful checked none service s.server.table served_now r.site r.asked.may b (ap (batch_at p) r.asked.here ∙ r.found) l r.asked.fits in
      let stops = subst StopsWithoutKind (sym performs.fault) (walk_stops service (remote_part p service b l s.server.table) walk) in
      let ran = script_run p service b l s.server.table in
      record {
        batch = b;
        stands = r.found;
        stops = stops;
        node = subst (All (λ f. IsOwnFault f.fault)) (sym (nodes (division p b).script (input_values (division p b).inputs l.names) service.classes service.root s.server.table)) (none_in_node ran.fault stops);
      }

pub answers_fit : LawsBelow → EachAnswerFits
answers_fit below p lawful checked none service table served others kept fuel =
    answers below p lawful checked none service table served others (started below p lawful checked none service table served others kept) fuel

pub pieces_keep : LawsBelow → EachPieceKeepsTypes
pieces_keep below p lawful checked none service table served = code below p lawful checked none service table served

pub none_caught : LawsBelow → KindIsNeverCaught
none_caught below p lawful checked none service table served = caught below p lawful checked none service table served

pub scripts_end : LawsBelow → NodesHoldTheFault → ScriptsNeverFaultKind
scripts_end below nodes p lawful checked none service table served others kept fuel at l go a comes =
    script_ends below p lawful checked none service table served nodes others (started below p lawful checked none service table served others kept) fuel at l go a comes
