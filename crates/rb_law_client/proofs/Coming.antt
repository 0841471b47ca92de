-- However far a client comes on nodes that its own scripts give, the program comes as far.
use Rattle.std.proofs.Common.{◌≡◌, refl, sym, ap, ◌∙◌, subst, ℕ, List, [], ◌∷◌, ◌++◌, append_assoc, append-nil, Bool as Truth, true, false, Some, Ok}
use Rattle.rb_trees.specs.declared.values.Value.TheVariants as value
use Rattle.rb_trees.specs.declared.services.Object.{Object}
use Rattle.rb_trees.specs.mirror.Declarations.{Program}
use Rattle.rb_trees.specs.mirror.Services.{Service}
use Rattle.rb_meaning_bytes.specs.formats.Messages.{Sent}
use Rattle.rb_meaning_types.specs.Declared.{Declarations, of_program}
use Rattle.rb_meaning_types.specs.Lawful.{IsLawful}
use Rattle.rb_meaning_types.specs.Programs.{check_program}
use Rattle.rb_meaning_code.specs.State.{Local}
use Rattle.rb_meaning_code.specs.Dialogue.{Line, Taken, Invoke, Turn, ListTurn, Outcome, Dialogue, AskBatch, Handler}
use Rattle.rb_meaning_code.specs.Led.{Passes, here, answered, performed}
use Rattle.rb_meaning_flow.specs.Outermost.{Outermost}
use Rattle.rb_meaning.specs.State as state
use Rattle.rb_meaning.specs.Unsplit.{batch_at}
use Rattle.rb_meaning.specs.Links.{IsTyped}
use Rattle.rb_meaning.specs.ConstantLists.{takes_too_many}
use Rattle.rb_meaning.specs.Meaning.{Around, answers_around, around_of, in_main}
use Rattle.rb_meaning.specs.Others.{FoundThrough}
use Rattle.rb_meaning_split.specs.Division.{division}
use Rattle.rb_meaning_split.specs.Client.{Waiting, are_too_many, answers_waiting, performs_divided, in_client}
use Rattle.rb_flow.specs.Program.{HasNoRefusal}
use Rattle.rb_law_types.specs.Asked.{Side, Own, Site, Keeps, IsAskedBatch}
use Rattle.rb_law_types.specs.Around.{HandlerFits}
use Rattle.rb_law_unsplit.specs.Batches.{program_sites}
use Rattle.rb_law_unsplit.specs.Kept.{StandsAround}
use Rattle.rb_law_client.specs.Below.{LawsBelow}
use Rattle.rb_law_client.specs.Clients.{ScriptsGive}
use Rattle.rb_law_client.specs.Reached.{main_run, with_nodes, ProgramsComeAsFar}
use Rattle.rb_law_client.proofs.Clients.{same_tail, Grows, grows_same, grows_on, answer_grows, batch_grows, found_at, keeps_here, limit_here, sent_now, done, done_is, too_large_is, too_large_sent, begun_sent, Exchanges, exchanges, behind_exchange, behind_nothing, behind_answer}
use Rattle.rb_law_client.proofs.Mains.{Ends, main_fits, main_kept}
use Rattle.rb_law_client.proofs.Others.{IsBehind}

module _ (below : LawsBelow) (p : Program) (lawful : IsLawful p) (checked : check_program p ≡ Ok tt) (none : HasNoRefusal p) (service : Service) (origin : List Object) (served : IsTyped service origin) where
  abbrev d : Declarations
  d = of_program p

  abbrev side : Side
  side = Own (program_sites p)

  abbrev Holds : Around → Type 0
  Holds = StandsAround service

  abbrev main : Handler Around
  main = in_main p service

  abbrev waiting : Handler Waiting
  waiting = in_client p

  abbrev More : Waiting → Waiting → Type 0
  More w w1 = Grows below p lawful checked none service origin served w w1

  -- on its way a client only sends more
  way_grows : {A : Type 0} (run rest : Dialogue A) (w w1 : Waiting) → Passes waiting run w rest w1 → More w w1
  way_grows _ _ _ _ (here run w) = grows_same below p lawful checked none service origin served w
  way_grows _ _ _ _ (answered q go w w1 rest way) =
      let next = answers_waiting w q in
      grows_on below p lawful checked none service origin served w next.1 w1 (answer_grows below p lawful checked none service origin served w q) (way_grows (go next.0) rest next.1 w1 way)
  way_grows _ _ _ _ (performed at l go w w1 rest way) =
      let next = performs_divided p (batch_at p at) at l w in
      grows_on below p lawful checked none service origin served w next.1 w1 (batch_grows below p lawful checked none service origin served w (batch_at p at) at l)
      (way_grows (go next.0) rest next.1 w1 way)

  -- The program, with this run before it, comes where the client is, and meanwhile its batches found and left these tables.
  pub record Comes {A : Type 0} (run : Dialogue A) (a : Around) (rest : Dialogue A) (w : Waiting) (found left : List (List Object)) : Type 0 where
    pub around : Around
    pub way : Passes main run a rest around
    pub events : around.outside.events ≡ w.events
    pub behind_so : IsBehind a found left around

  -- So it is from where the client has this run before it, and comes where it has the rest.
  abbrev FromHere : {A : Type 0} → (A → Type 0) → Dialogue A → Waiting → Dialogue A → Waiting → Type 0
  FromHere P run w rest w1 = (a : Around) → Keeps d side P run → w.events ≡ a.outside.events → Holds a → (more : List Sent) (found left : List (List Object)) → w1.sent ≡ w.sent ++ more → ScriptsGive service found more w.nodes left
      → FoundThrough a.others a.outside.server.table found left → Comes run a rest w1 found left

  module _ (fits : HandlerFits d side Holds main) {A : Type 0} (P : A → Type 0) where
    -- a batch on the way
    batch_comes : (at : ℕ) (l : Local) (go : Outcome (Unit {0}) → Dialogue A) (w w1 : Waiting) (rest : Dialogue A) → Passes waiting (go (waiting.batch w at l).0) (waiting.batch w at l).1 rest w1
        → FromHere P (go (waiting.batch w at l).0) (waiting.batch w at l).1 rest w1
        → (site : Site) → IsAskedBatch d side at l site → FromHere P (AskBatch at l go) w rest w1
    batch_comes at l go w w1 rest way next site asked a k e holds more found left sent given through = by (takes_too_many p b l.names) refl
      where
        b : Outermost
        b = (found_at below p lawful checked none service origin served at l site asked).batch

        there : batch_at p at ≡ Some b
        there = (found_at below p lawful checked none service origin served at l site asked).found

        limit : takes_too_many p b l.names ≡ are_too_many (division p b) l
        limit = limit_here below p lawful checked none service origin served at l site asked b there

        script : Sent
        script = sent_now below p lawful checked none service origin served b l

        reached : Outcome (Unit {0}) × Waiting
        reached = performs_divided p (batch_at p at) at l w

        grown : More reached.1 w1
        grown = way_grows (go reached.0) rest reached.1 w1 way

        -- what the program does there
        here_main : Outcome (Unit {0}) × Around
        here_main = main.batch a at l

        kept_there : Keeps d side P (go here_main.0)
        kept_there = k.2 here_main.0 (fits.batches a at l k.0 holds k.1)

        holds_there : Holds here_main.1
        holds_there = fits.performed a at l k.0 holds k.1

        -- neither side begins the batch
        neither : takes_too_many p b l.names ≡ true → Comes (AskBatch at l go) a rest w1 found left
        neither many =
            let mine = too_large_sent below p lawful checked none service origin served w at l b there (sym limit ∙ many) in
            let others = too_large_is below p lawful checked none service origin served a at l b there many in
            let kept : Keeps d side P (go reached.0) = subst (λ z. Keeps d side P (go z.0)) (sym mine) (subst (λ z. Keeps d side P (go z.0)) (sym others) kept_there) in
            let after : Comes (go reached.0) a rest w1 found left =
            next a kept (ap (λ z. z.1.events) mine ∙ e) holds more found left (sent ∙ ap (λ z. z.1.sent ++ more) (sym mine)) (subst (λ z. ScriptsGive service found more z.1.nodes left) (sym mine) given) through in
            let way_on : Passes main (go here_main.0) here_main.1 rest after.around =
            subst (λ z. Passes main (go z.0) z.1 rest after.around) others (subst (λ z. Passes main (go z.0) a rest after.around) mine after.way) in
            record { around = after.around; way = performed at l go a after.around rest way_on; events = after.events; behind_so = after.behind_so }

        both : takes_too_many p b l.names ≡ false → Comes (AskBatch at l go) a rest w1 found left
        both few =
            let few' = sym limit ∙ few in
            let reached_sent = begun_sent below p lawful checked none service origin served w at l b there few' in
            let more_is : more ≡ script ∷ grown.more =
            same_tail w.sent more (script ∷ grown.more) (sym sent ∙ grown.same ∙ ap (λ q. q ++ grown.more) reached_sent ∙ append_assoc w.sent (script ∷ []) grown.more) in
            let x : Exchanges below p lawful checked none service origin served a w at l b grown.more found left =
            exchanges below p lawful checked none service origin served a w at l b grown.more found left there few' e (keeps_here below p lawful checked none service origin served a holds at l site asked b there)
            (subst (λ q. ScriptsGive service found q w.nodes left) more_is given) through in
            let did = done below p lawful checked none service origin served b l a in
            let did_is = done_is below p lawful checked none service origin served a at l b there few in
            let kept : Keeps d side P (go reached.0) = subst (λ z. Keeps d side P (go z.0)) (sym x.same) (subst (λ z. Keeps d side P (go z.0)) (sym did_is) kept_there) in
            let after : Comes (go reached.0) did.1 rest w1 x.founds x.lefts =
            next did.1 kept (ap (λ z. z.1.events) x.same) (subst (λ z. Holds z.1) (sym did_is) holds_there) grown.more x.founds x.lefts grown.same
            (subst (λ z. ScriptsGive service x.founds grown.more z.1.nodes x.lefts) (sym x.same) x.given) x.through in
            let way_on : Passes main (go here_main.0) here_main.1 rest after.around =
            subst (λ z. Passes main (go z.0) z.1 rest after.around) did_is (subst (λ z. Passes main (go z.0) did.1 rest after.around) x.same after.way) in
            record {
              around = after.around;
              way = performed at l go a after.around rest way_on;
              events = after.events;
              behind_so = behind_exchange below p lawful checked none service origin served a after.around w at l b grown.more found left x after.behind_so;
            }

        by : (t : Truth) → takes_too_many p b l.names ≡ t → Comes (AskBatch at l go) a rest w1 found left
        by true many = neither many
        by false few = both few

    pub comes : (run rest : Dialogue A) (w w1 : Waiting) → Passes waiting run w rest w1 → FromHere P run w rest w1
    comes _ _ _ _ (here run w) a k e holds more found left sent given through =
        let nothing : [] ≡ more = same_tail w.sent [] more (append-nil w.sent ∙ sent) in
        let behind_so = behind_nothing below p lawful checked none service origin served a found left w.nodes (subst (λ q. ScriptsGive service found q w.nodes left) (sym nothing) given) in
        record { around = a; way = here run a; events = sym e; behind_so = behind_so }
    comes _ _ _ _ (answered (Line at bytes) go w w1 rest way) a k e holds more found left sent given through =
        let q = Line at bytes in
        let after = comes (go (Ok value.Unit)) rest (record w { events = w.events ++ state.Line bytes ∷ [] }) w1 way (answers_around a q).1 (k.1 (Ok value.Unit) tt) (ap (λ z. z ++ state.Line bytes ∷ []) e) (fits.answered a q holds k.0)
        more found left sent given through in
        record { around = after.around; way = answered q go a after.around rest after.way; events = after.events; behind_so = behind_answer below p lawful checked none service origin served a after.around q found left after.behind_so }
    comes _ _ _ _ (answered (ListTurn at) go w w1 rest way) a k e holds more found left sent given through =
        let q = ListTurn at in
        let after = comes (go (Ok value.Unit)) rest w w1 way (answers_around a q).1 (k.1 (Ok value.Unit) tt) e (fits.answered a q holds k.0) more found left sent given through in
        record { around = after.around; way = answered q go a after.around rest after.way; events = after.events; behind_so = behind_answer below p lawful checked none service origin served a after.around q found left after.behind_so }
    comes _ _ _ _ (answered (Taken step) go w w1 rest way) a k e holds more found left sent given through = absurd k.0
    comes _ _ _ _ (answered (Invoke at target method args) go w w1 rest way) a k e holds more found left sent given through = absurd k.0
    comes _ _ _ _ (answered (Turn at) go w w1 rest way) a k e holds more found left sent given through = absurd k.0
    comes _ _ _ _ (performed at l go w w1 rest way) a k e holds more found left sent given through =
        batch_comes at l go w w1 rest way (comes (go (waiting.batch w at l).0) rest (waiting.batch w at l).1 w1 way) k.0 k.1 a k e holds more found left sent given through

pub come_as_far : LawsBelow → ProgramsComeAsFar
come_as_far below p lawful checked none service table served others kept fuel nodes rest w found left client given through =
    let after = comes below p lawful checked none service table served (main_fits below p lawful checked none service table served) (Ends below p lawful checked none service table served)
    (main_run p fuel) rest (with_nodes nodes) w client.passes (around_of table others) (main_kept below p lawful checked none service table served fuel) refl (record { table = served.fits; others = kept }) w.sent found left refl given through in
    record {
      around = after.around;
      comes = after.way;
      events = after.events;
      found_so = after.behind_so.found_so;
      left_so = after.behind_so.left_so;
      table = after.behind_so.table;
      others_so = after.behind_so.others_so;
    }
