-- A client runs a program's code as the program itself does, batch by batch.
use Rattle.std.proofs.Common.{◌≡◌, refl, sym, ap, ◌∙◌, subst, ℕ, List, [], ◌∷◌, ◌++◌, append_assoc, append-nil, drop, nat_lt, Bool as Truth, true, false, Option, Some, None, Ok}
use Rattle.rb_trees.specs.declared.values.Value.TheVariants as value
use Rattle.rb_trees.specs.declared.services.Object.{Object}
use Rattle.rb_trees.specs.mirror.Declarations.{Program}
use Rattle.rb_trees.specs.mirror.Services.{Service}
use Rattle.rb_trees.specs.mirror.Forests.{Node}
use Rattle.rb_meaning_bytes.specs.formats.Items.{most_items}
use Rattle.rb_meaning_bytes.specs.formats.Messages.{Sent}
use Rattle.rb_meaning_types.specs.Declared.{Declarations, of_program}
use Rattle.rb_meaning_types.specs.Lawful.{IsLawful}
use Rattle.rb_meaning_types.specs.Programs.{check_program}
use Rattle.rb_meaning_code.specs.Faults.{input_too_large, raised}
use Rattle.rb_meaning_code.specs.State.{Local}
use Rattle.rb_meaning_code.specs.Dialogue.{Question, Line, Taken, Invoke, Turn, ListTurn, Outcome, Faulted, Dialogue, Done, Ask, AskBatch, Handler, handle}
use Rattle.rb_meaning_flow.specs.Outermost.{Outermost}
use Rattle.rb_meaning.specs.State as state
use Rattle.rb_meaning.specs.State.{Event, Outside}
use Rattle.rb_meaning.specs.Unsplit.{batch_at, performs_batch}
use Rattle.rb_meaning.specs.Links.{IsTyped}
use Rattle.rb_meaning.specs.ConstantLists.{takes_too_many}
use Rattle.rb_meaning.specs.Meaning as whole
use Rattle.rb_meaning.specs.Meaning.{Around, answers_around, around_of, at_batch, behind_batch, performs_found, in_main, ending_of}
use Rattle.rb_meaning.specs.Others.{FoundThrough}
use Rattle.rb_meaning_split.specs.Division.{Division, division}
use Rattle.rb_meaning_split.specs.Client as divided
use Rattle.rb_meaning_split.specs.Client.{Waiting, are_too_many, answers_waiting, sent_for, begins, replays, replays_next, performs_divided, in_client, client}
use Rattle.rb_flow.specs.Program.{HasNoRefusal}
use Rattle.rb_law_types.specs.Asked.{Side, Own, Site, Keeps, IsAskedBatch}
use Rattle.rb_law_types.specs.Around.{HandlerFits}
use Rattle.rb_law_unsplit.specs.Batches.{program_sites}
use Rattle.rb_law_unsplit.specs.Kept.{HasFittingTable, StandsAround}
use Rattle.rb_law_unsplit.proofs.Found.{batch_found}
use Rattle.rb_law_unsplit.proofs.Others.{stands_at_batch}
use Rattle.rb_law_unsplit.proofs.Programs.{program_typed, batches_in}
use Rattle.rb_law_script.specs.Remote.{script_run}
use Rattle.rb_law_client.specs.Below.{LawsBelow}
use Rattle.rb_law_client.specs.Dividing.{KeepsMeaning}
use Rattle.rb_law_client.specs.Clients.{sent_run, ScriptsGive, ClientsMeanWhatProgramsMean}
use Rattle.rb_law_client.specs.Reached.{main_run, with_nodes}
use Rattle.rb_law_client.proofs.Divided.{dividing_keeps}
use Rattle.rb_law_client.proofs.Taken.{inputs_have_items}
use Rattle.rb_law_client.proofs.Mains.{Ends, main_fits, main_kept}
use Rattle.rb_law_client.proofs.Others.{gives_none, gives_first, IsBehind, behind_none, behind_one}

pub same_tail : {A : Type 0} (xs ys zs : List A) → xs ++ ys ≡ xs ++ zs → ys ≡ zs
same_tail [] ys zs e = e
same_tail (x ∷ xs) ys zs e = same_tail xs ys zs (cc (e))

module _ (below : LawsBelow) (p : Program) (lawful : IsLawful p) (checked : check_program p ≡ Ok tt) (none : HasNoRefusal p) (service : Service) (origin : List Object) (served : IsTyped service origin) where
  abbrev d : Declarations
  d = of_program p

  abbrev side : Side
  side = Own (program_sites p)

  abbrev Holds : Around → Type 0
  Holds = StandsAround service

  abbrev main : Handler Around
  main = in_main p service

  abbrev waiting : Handler Waiting
  waiting = in_client p

  -- ---- a client only sends more

  pub record Grows (w w1 : Waiting) : Type 0 where
    pub more : List Sent
    pub same : w1.sent ≡ w.sent ++ more

  pub grows_same : (w : Waiting) → Grows w w
  grows_same w = record { more = []; same = sym (append-nil w.sent) }

  pub grows_on : (a b c : Waiting) → Grows a b → Grows b c → Grows a c
  grows_on a b c g h = record { more = g.more ++ h.more; same = h.same ∙ ap (λ q. q ++ h.more) g.same ∙ append_assoc a.sent g.more h.more }

  pub answer_grows : (w : Waiting) (q : Question) → Grows w (answers_waiting w q).1
  answer_grows w (Line at bytes) = record { more = []; same = sym (append-nil w.sent) }
  answer_grows w (Taken step) = grows_same w
  answer_grows w (Invoke at target method args) = grows_same w
  answer_grows w (Turn at) = grows_same w
  answer_grows w (ListTurn at) = grows_same w

  pub next_grows : (v : Division) (l : Local) (w : Waiting) (nodes : List Node) → (replays_next p v l w nodes).1.sent ≡ w.sent
  next_grows v l w [] = refl
  next_grows v l w (n ∷ ns) = refl

  begins_grows : (many : Truth) (w : Waiting) (b : Outermost) (l : Local) → Grows w (divided.begins_or_faults many p b l w).1
  begins_grows true w b l = grows_same w
  begins_grows false w b l = record { more = sent_for (division p b) l ∷ []; same = next_grows (division p b) l (begins (division p b) l w) w.nodes }

  pub batch_grows : (w : Waiting) (o : Option Outermost) (at : ℕ) (l : Local) → Grows w (performs_divided p o at l w).1
  batch_grows w None at l = grows_same w
  batch_grows w (Some b) at l = begins_grows (are_too_many (division p b) l) w b l

  pub run_grows : {A : Type 0} (run : Dialogue A) (w : Waiting) → Grows w (handle waiting run w).1
  run_grows (Done a) w = grows_same w
  run_grows (Ask q go) w = let next = answers_waiting w q in grows_on w next.1 (handle waiting (go next.0) next.1).1 (answer_grows w q) (run_grows (go next.0) next.1)
  run_grows (AskBatch at l go) w =
      let next = performs_divided p (batch_at p at) at l w in grows_on w next.1 (handle waiting (go next.0) next.1).1 (batch_grows w (batch_at p at) at l) (run_grows (go next.0) next.1)

  -- ---- the batch that code asks for

  pub record IsFoundBatch (at : ℕ) : Type 0 where
    pub batch : Outermost
    pub found : batch_at p at ≡ Some batch

  pub found_at : (at : ℕ) (l : Local) (site : Site) → IsAskedBatch d side at l site → IsFoundBatch at
  found_at at l site asked =
      let known = batches_in p lawful (program_typed p checked) (below.notes p lawful) site asked.may in
      record { batch = known.begun; found = ap (batch_at p) (sym (known.at ∙ asked.here)) ∙ batch_found p lawful known.begun known.among }

  pub typed_now : (s : Outside) → HasFittingTable service s → IsTyped service s.server.table
  typed_now s h = record { lawful = served.lawful; typed = served.typed; fits = h }

  pub keeps_here : (a : Around) → Holds a → (at : ℕ) (l : Local) (site : Site) → IsAskedBatch d side at l site → (b : Outermost) → batch_at p at ≡ Some b → KeepsMeaning p service b l (at_batch a)
  keeps_here a h at l site asked b found = dividing_keeps below p lawful checked none service (at_batch a) (typed_now (at_batch a) (stands_at_batch service a h)) at l site asked b found

  -- the program says as its client does whether a batch has too many items
  pub limit_here : (at : ℕ) (l : Local) (site : Site) → IsAskedBatch d side at l site → (b : Outermost) → batch_at p at ≡ Some b → takes_too_many p b l.names ≡ are_too_many (division p b) l
  limit_here at l site asked b found = ap (nat_lt most_items) (inputs_have_items below p lawful checked at l site asked b found)

  -- ---- the runs

  -- A client and the program ended alike, and meanwhile the program's batches found and left these tables.
  pub record Alike {A : Type 0} (before : Around) (c : A × Waiting) (u : A × Around) (found left : List (List Object)) : Type 0 where
    pub same : c.0 ≡ u.0
    pub events : c.1.events ≡ u.1.outside.events
    pub behind_so : IsBehind before found left u.1

  -- the script that is sent for a batch
  abbrev pub sent_now : Outermost → Local → Sent
  sent_now b l = sent_for (division p b) l

  -- the client's surroundings, where the program's are these
  abbrev pub behind : Around → List Sent → List Node → Waiting
  behind a sent nodes = record { events = a.outside.events; sent = sent; nodes = nodes }

  -- what the program does at a batch
  abbrev pub done : Outermost → Local → Around → Outcome (Unit {0}) × Around
  done b l a = behind_batch a (performs_batch p service b l (at_batch a))

  pub done_is : (a : Around) (at : ℕ) (l : Local) (b : Outermost) → batch_at p at ≡ Some b → takes_too_many p b l.names ≡ false → done b l a ≡ main.batch a at l
  done_is a at l b found few = ap (λ t. whole.begins_or_faults t p service b l a) (sym few) ∙ ap (λ z. performs_found p service z at l a) (sym found)

  -- what both do at a batch that has too many items
  abbrev pub too_large : Outermost → Local → Outcome (Unit {0})
  too_large b l = Faulted (raised input_too_large b.at) l

  pub too_large_is : (a : Around) (at : ℕ) (l : Local) (b : Outermost) → batch_at p at ≡ Some b → takes_too_many p b l.names ≡ true → (too_large b l, a) ≡ main.batch a at l
  too_large_is a at l b found many = ap (λ t. whole.begins_or_faults t p service b l a) (sym many) ∙ ap (λ z. performs_found p service z at l a) (sym found)

  pub too_large_sent : (w : Waiting) (at : ℕ) (l : Local) (b : Outermost) → batch_at p at ≡ Some b → are_too_many (division p b) l ≡ true → performs_divided p (batch_at p at) at l w ≡ (too_large b l, w)
  too_large_sent w at l b found many = ap (λ z. performs_divided p z at l w) found ∙ ap (λ t. divided.begins_or_faults t p b l w) many

  -- a client that begins a batch has sent its script
  pub begun_sent : (w : Waiting) (at : ℕ) (l : Local) (b : Outermost) → batch_at p at ≡ Some b → are_too_many (division p b) l ≡ false → (performs_divided p (batch_at p at) at l w).1.sent ≡ w.sent ++ sent_now b l ∷ []
  begun_sent w at l b found few =
      ap (λ z. (performs_divided p z at l w).1.sent) found ∙ ap (λ t. (divided.begins_or_faults t p b l w).1.sent) few ∙ next_grows (division p b) l (begins (division p b) l w) w.nodes

  -- what a client does on a node that its script gave is what the program does
  pub batch_same : (a : Around) (w : Waiting) (at : ℕ) (l : Local) (b : Outermost) (n : Node) (ns : List Node) → batch_at p at ≡ Some b → are_too_many (division p b) l ≡ false → w.events ≡ a.outside.events → KeepsMeaning p service b l (at_batch a)
      → (script_run p service b l (at_batch a).server.table).node ≡ n → w.nodes ≡ n ∷ ns
      → performs_divided p (batch_at p at) at l w ≡ ((done b l a).0, behind (done b l a).1 (w.sent ++ sent_now b l ∷ []) ns)
  batch_same a w at l b n ns found few e keeps given is =
      let s = at_batch a in
      ap (λ z. performs_divided p z at l w) found
      ∙ ap (λ t. divided.begins_or_faults t p b l w) few
      ∙ ap (replays_next p (division p b) l (begins (division p b) l w)) is
      ∙ ap (λ q. (q.outcome, record { events = q.events; sent = w.sent ++ sent_now b l ∷ []; nodes = ns }))
      (ap (λ z. replays p (division p b) l (z ++ state.Batch ∷ []) n) e ∙ ap (replays p (division p b) l (s.events ++ state.Batch ∷ [])) (sym given))
      ∙ ap (λ q. (q, record { events = (replays p (division p b) l (s.events ++ state.Batch ∷ []) (script_run p service b l s.server.table).node).events; sent = w.sent ++ sent_now b l ∷ []; nodes = ns })) keeps.outcome
      ∙ ap (λ q. ((performs_batch p service b l s).0, record { events = q; sent = w.sent ++ sent_now b l ∷ []; nodes = ns })) keeps.events

  -- A client's first script of these found the table that the program's batch finds, and left the one that the batch leaves. Behind
  -- it client and program stand alike, and the others are still to come.
  pub record Exchanges (a : Around) (w : Waiting) (at : ℕ) (l : Local) (b : Outermost) (more : List Sent) (found left : List (List Object)) : Type 0 where
    pub founds : List (List Object)
    pub nodes : List Node
    pub lefts : List (List Object)
    pub found_so : (at_batch a).server.table ∷ founds ≡ found
    pub left_so : (done b l a).1.outside.server.table ∷ lefts ≡ left
    pub same : performs_divided p (batch_at p at) at l w ≡ ((done b l a).0, behind (done b l a).1 (w.sent ++ sent_now b l ∷ []) nodes)
    pub given : ScriptsGive service founds more nodes lefts
    pub through : FoundThrough (done b l a).1.others (done b l a).1.outside.server.table founds lefts

  pub exchanges : (a : Around) (w : Waiting) (at : ℕ) (l : Local) (b : Outermost) (more : List Sent) (found left : List (List Object)) → batch_at p at ≡ Some b → are_too_many (division p b) l ≡ false → w.events ≡ a.outside.events → KeepsMeaning p service b l (at_batch a)
      → ScriptsGive service found (sent_now b l ∷ more) w.nodes left → FoundThrough a.others a.outside.server.table found left → Exchanges a w at l b more found left
  exchanges a w at l b more found left there few e keeps given through =
      let q = sent_now b l in
      let g = gives_first service found q more w.nodes left given in
      let both : FoundThrough a.others a.outside.server.table (g.table ∷ g.founds) (g.after ∷ g.lefts) =
      subst (λ z. FoundThrough a.others a.outside.server.table z (g.after ∷ g.lefts)) g.found_so (subst (λ z. FoundThrough a.others a.outside.server.table found z) g.left_so through) in
      let gives : (sent_run service (at_batch a).server.table q).node ≡ g.node = subst (λ z. (sent_run service z q).node ≡ g.node) both.0 g.gives in
      let leaves : (sent_run service (at_batch a).server.table q).server.table ≡ g.after = subst (λ z. (sent_run service z q).server.table ≡ g.after) both.0 g.leaves in
      let after : g.after ≡ (done b l a).1.outside.server.table = sym leaves ∙ keeps.table in
      record {
        founds = g.founds;
        nodes = g.later;
        lefts = g.lefts;
        found_so = ap (λ z. z ∷ g.founds) (sym both.0) ∙ sym g.found_so;
        left_so = ap (λ z. z ∷ g.lefts) (sym after) ∙ sym g.left_so;
        same = batch_same a w at l b g.node g.later there few e keeps gives g.nodes_so;
        given = g.rest;
        through = subst (λ z. FoundThrough (drop 1 a.others) z g.founds g.lefts) after both.1;
      }

  pub behind_exchange : (a now : Around) (w : Waiting) (at : ℕ) (l : Local) (b : Outermost) (more : List Sent) (found left : List (List Object)) (x : Exchanges a w at l b more found left)
      → IsBehind (done b l a).1 x.founds x.lefts now → IsBehind a found left now
  behind_exchange a now w at l b more found left x h =
      subst (λ z. IsBehind a z left now) x.found_so (subst (λ z. IsBehind a ((at_batch a).server.table ∷ x.founds) z now) x.left_so (behind_one a now (performs_batch p service b l (at_batch a)) x.founds x.lefts h))

  -- nothing was sent
  pub behind_nothing : (a : Around) (found left : List (List Object)) (nodes : List Node) → ScriptsGive service found [] nodes left → IsBehind a found left a
  behind_nothing a found left nodes given =
      let g = gives_none service found nodes left given in
      subst (λ z. IsBehind a z left a) (sym g.found_so) (subst (λ z. IsBehind a [] z a) (sym g.left_so) (behind_none a))

  -- a question changes nothing of that
  pub behind_answer : (a now : Around) (q : Question) (found left : List (List Object)) → IsBehind (answers_around a q).1 found left now → IsBehind a found left now
  behind_answer a now (Line at bytes) found left h = record { found_so = h.found_so; left_so = h.left_so; table = h.table; others_so = h.others_so }
  behind_answer a now (ListTurn at) found left h = record { found_so = h.found_so; left_so = h.left_so; table = h.table; others_so = h.others_so }
  behind_answer a now (Taken step) found left h = record { found_so = h.found_so; left_so = h.left_so; table = h.table; others_so = h.others_so }
  behind_answer a now (Invoke at target method args) found left h = record { found_so = h.found_so; left_so = h.left_so; table = h.table; others_so = h.others_so }
  behind_answer a now (Turn at) found left h = record { found_so = h.found_so; left_so = h.left_so; table = h.table; others_so = h.others_so }

  module _ (fits : HandlerFits d side Holds main) where
    module _ {A : Type 0} (P : A → Type 0) where
      -- from here client and program end alike, on whatever the client's scripts find, give and leave
      abbrev Runs : Dialogue A → Around → Type 0
      Runs run a = (w : Waiting) → w.events ≡ a.outside.events → (more : List Sent) (found left : List (List Object)) → (handle waiting run w).1.sent ≡ w.sent ++ more → ScriptsGive service found more w.nodes left
          → FoundThrough a.others a.outside.server.table found left → Alike a (handle waiting run w) (handle main run a) found left

      -- behind a batch the runs go on
      batch_runs : (at : ℕ) (l : Local) (go : Outcome (Unit {0}) → Dialogue A) (site : Site) → IsAskedBatch d side at l site → (a : Around) → Holds a → Runs (go (main.batch a at l).0) (main.batch a at l).1 → Runs (AskBatch at l go) a
      batch_runs at l go site asked a holds next w e more found left sent given through = by (takes_too_many p b l.names) refl
        where
          b : Outermost
          b = (found_at at l site asked).batch

          there : batch_at p at ≡ Some b
          there = (found_at at l site asked).found

          limit : takes_too_many p b l.names ≡ are_too_many (division p b) l
          limit = limit_here at l site asked b there

          reached : Outcome (Unit {0}) × Waiting
          reached = performs_divided p (batch_at p at) at l w

          grown : Grows reached.1 (handle waiting (go reached.0) reached.1).1
          grown = run_grows (go reached.0) reached.1

          Ended : Type 0
          Ended = Alike a (handle waiting (AskBatch at l go) w) (handle main (AskBatch at l go) a) found left

          -- neither side begins the batch
          neither : takes_too_many p b l.names ≡ true → Ended
          neither many =
              let mine = too_large_sent w at l b there (sym limit ∙ many) in
              let others = too_large_is a at l b there many in
              subst (λ z. Alike a (handle waiting (go z.0) z.1) (handle main (go (main.batch a at l).0) (main.batch a at l).1) found left) (sym mine)
              (subst (λ z. Alike a (handle waiting (go (too_large b l)) w) (handle main (go z.0) z.1) found left) others
              (subst (λ z. Runs (go z.0) z.1) (sym others) next w e more found left (sym (ap (λ z. (handle waiting (go z.0) z.1).1.sent) mine) ∙ sent) given through))

          both : takes_too_many p b l.names ≡ false → Ended
          both few =
              let few' = sym limit ∙ few in
              let reached_sent = begun_sent w at l b there few' in
              let more_is : more ≡ sent_now b l ∷ grown.more =
              same_tail w.sent more (sent_now b l ∷ grown.more) (sym sent ∙ grown.same ∙ ap (λ q. q ++ grown.more) reached_sent ∙ append_assoc w.sent (sent_now b l ∷ []) grown.more) in
              let x : Exchanges a w at l b grown.more found left =
              exchanges a w at l b grown.more found left there few' e (keeps_here a holds at l site asked b there) (subst (λ q. ScriptsGive service found q w.nodes left) more_is given) through in
              let now : Waiting = behind (done b l a).1 (w.sent ++ sent_now b l ∷ []) x.nodes in
              let did = done_is a at l b there few in
              let sent_on : (handle waiting (go (done b l a).0) now).1.sent ≡ now.sent ++ grown.more =
              sym (ap (λ z. (handle waiting (go z.0) z.1).1.sent) x.same) ∙ grown.same ∙ ap (λ q. q ++ grown.more) reached_sent in
              let on : Alike (done b l a).1 (handle waiting (go (done b l a).0) now) (handle main (go (done b l a).0) (done b l a).1) x.founds x.lefts =
              subst (λ z. Runs (go z.0) z.1) (sym did) next now refl grown.more x.founds x.lefts sent_on x.given x.through in
              subst (λ z. Alike a (handle waiting (go reached.0) reached.1) (handle main (go z.0) z.1) found left) did
              (subst (λ z. Alike a (handle waiting (go z.0) z.1) (handle main (go (done b l a).0) (done b l a).1) found left) (sym x.same)
              (record { same = on.same; events = on.events; behind_so = behind_exchange a (handle main (go (done b l a).0) (done b l a).1).1 w at l b grown.more found left x on.behind_so }))

          by : (t : Truth) → takes_too_many p b l.names ≡ t → Ended
          by true many = neither many
          by false few = both few

      pub runs_alike : (run : Dialogue A) → Keeps d side P run → (a : Around) → Holds a → Runs run a
      runs_alike (Done v) k a holds w e more found left sent given through =
          let nothing : [] ≡ more = same_tail w.sent [] more (append-nil w.sent ∙ sent) in
          record { same = refl; events = e; behind_so = behind_nothing a found left w.nodes (subst (λ q. ScriptsGive service found q w.nodes left) (sym nothing) given) }
      runs_alike (Ask (Line at bytes) go) k a holds w e more found left sent given through =
          let q = Line at bytes in
          let on = runs_alike (go (Ok value.Unit)) (k.1 (Ok value.Unit) tt) (answers_around a q).1 (fits.answered a q holds k.0) (record w { events = w.events ++ state.Line bytes ∷ [] }) (ap (λ z. z ++ state.Line bytes ∷ []) e)
          more found left sent given through in
          record { same = on.same; events = on.events; behind_so = behind_answer a _ q found left on.behind_so }
      runs_alike (Ask (ListTurn at) go) k a holds w e more found left sent given through =
          let on = runs_alike (go (Ok value.Unit)) (k.1 (Ok value.Unit) tt) (answers_around a (ListTurn at)).1 (fits.answered a (ListTurn at) holds k.0) w e more found left sent given through in
          record { same = on.same; events = on.events; behind_so = behind_answer a _ (ListTurn at) found left on.behind_so }
      runs_alike (Ask (Taken step) go) k a holds w e more found left sent given through = absurd k.0
      runs_alike (Ask (Invoke at target method args) go) k a holds w e more found left sent given through = absurd k.0
      runs_alike (Ask (Turn at) go) k a holds w e more found left sent given through = absurd k.0
      runs_alike (AskBatch at l go) k a holds w e more found left sent given through =
          batch_runs at l go k.0 k.1 a holds (runs_alike (go (main.batch a at l).0) (k.2 (main.batch a at l).0 (fits.batches a at l k.0 holds k.1)) (main.batch a at l).1 (fits.performed a at l k.0 holds k.1))
          w e more found left sent given through

      -- ---- there are nodes

      pub record Exists (run : Dialogue A) (a : Around) (before : List Sent) : Type 0 where
        pub found : List (List Object)
        pub nodes : List Node
        pub left : List (List Object)
        pub more : List Sent
        pub sent : (handle waiting run (behind a before nodes)).1.sent ≡ before ++ more
        pub given : ScriptsGive service found more nodes left
        pub through : FoundThrough a.others a.outside.server.table found left

      batch_exists : (at : ℕ) (l : Local) (go : Outcome (Unit {0}) → Dialogue A) (site : Site) → IsAskedBatch d side at l site → (a : Around) → Holds a → (before : List Sent)
          → ((sent : List Sent) → Exists (go (main.batch a at l).0) (main.batch a at l).1 sent) → Exists (AskBatch at l go) a before
      batch_exists at l go site asked a holds before next = by (takes_too_many p b l.names) refl
        where
          b : Outermost
          b = (found_at at l site asked).batch

          there : batch_at p at ≡ Some b
          there = (found_at at l site asked).found

          limit : takes_too_many p b l.names ≡ are_too_many (division p b) l
          limit = limit_here at l site asked b there

          neither : takes_too_many p b l.names ≡ true → Exists (AskBatch at l go) a before
          neither many =
              let r : Exists (go (too_large b l)) a before = subst (λ z. Exists (go z.0) z.1 before) (sym (too_large_is a at l b there many)) (next before) in
              record {
                found = r.found;
                nodes = r.nodes;
                left = r.left;
                more = r.more;
                sent = ap (λ z. (handle waiting (go z.0) z.1).1.sent) (too_large_sent (behind a before r.nodes) at l b there (sym limit ∙ many)) ∙ r.sent;
                given = r.given;
                through = r.through;
              }

          both : takes_too_many p b l.names ≡ false → Exists (AskBatch at l go) a before
          both few =
              let keeps = keeps_here a holds at l site asked b there in
              let table = (at_batch a).server.table in
              let r : Exists (go (done b l a).0) (done b l a).1 (before ++ sent_now b l ∷ []) = subst (λ z. Exists (go z.0) z.1 (before ++ sent_now b l ∷ [])) (sym (done_is a at l b there few)) (next (before ++ sent_now b l ∷ [])) in
              let n = (script_run p service b l table).node in
              let same = batch_same a (behind a before (n ∷ r.nodes)) at l b n r.nodes there (sym limit ∙ few) refl keeps refl refl in
              record {
                found = table ∷ r.found;
                nodes = n ∷ r.nodes;
                left = (done b l a).1.outside.server.table ∷ r.left;
                more = sent_now b l ∷ r.more;
                sent = ap (λ z. (handle waiting (go z.0) z.1).1.sent) same ∙ r.sent ∙ append_assoc before (sent_now b l ∷ []) r.more;
                given = (refl, keeps.table, r.given);
                through = (refl, r.through);
              }

          by : (t : Truth) → takes_too_many p b l.names ≡ t → Exists (AskBatch at l go) a before
          by true many = neither many
          by false few = both few

      pub nodes_exist : (run : Dialogue A) → Keeps d side P run → (a : Around) → Holds a → (before : List Sent) → Exists run a before
      nodes_exist (Done v) k a holds before = record { found = []; nodes = []; left = []; more = []; sent = sym (append-nil before); given = tt; through = tt }
      nodes_exist (Ask (Line at bytes) go) k a holds before =
          let r = nodes_exist (go (Ok value.Unit)) (k.1 (Ok value.Unit) tt) (answers_around a (Line at bytes)).1 (fits.answered a (Line at bytes) holds k.0) before in
          record { found = r.found; nodes = r.nodes; left = r.left; more = r.more; sent = r.sent; given = r.given; through = r.through }
      nodes_exist (Ask (ListTurn at) go) k a holds before =
          let r = nodes_exist (go (Ok value.Unit)) (k.1 (Ok value.Unit) tt) (answers_around a (ListTurn at)).1 (fits.answered a (ListTurn at) holds k.0) before in
          record { found = r.found; nodes = r.nodes; left = r.left; more = r.more; sent = r.sent; given = r.given; through = r.through }
      nodes_exist (Ask (Taken step) go) k a holds before = absurd k.0
      nodes_exist (Ask (Invoke at target method args) go) k a holds before = absurd k.0
      nodes_exist (Ask (Turn at) go) k a holds before = absurd k.0
      nodes_exist (AskBatch at l go) k a holds before =
          batch_exists at l go k.0 k.1 a holds before (λ sent. nodes_exist (go (main.batch a at l).0) (k.2 (main.batch a at l).0 (fits.batches a at l k.0 holds k.1)) (main.batch a at l).1 (fits.performed a at l k.0 holds k.1) sent)

pub clients_mean : LawsBelow → ClientsMeanWhatProgramsMean
clients_mean below p lawful checked none service table served others kept fuel =
    let fits = main_fits below p lawful checked none service table served in
    let keeps = main_kept below p lawful checked none service table served fuel in
    let run = main_run p fuel in
    let ends = Ends below p lawful checked none service table served in
    let start = around_of table others in
    let holds : StandsAround service start = record { table = served.fits; others = kept } in
    let made = nodes_exist below p lawful checked none service table served fits ends run keeps start holds [] in (
      record {
        found = made.found;
        nodes = made.nodes;
        left = made.left;
        given = subst (λ q. ScriptsGive service made.found q made.nodes made.left) (sym made.sent) made.given;
        through = made.through;
      },
      λ found nodes left given through.
          let alike = runs_alike below p lawful checked none service table served fits ends run keeps start holds (with_nodes nodes) refl (client p fuel nodes).sent found left refl given through in
          record {
            ending = ap ending_of alike.same;
            events = alike.events;
            found_so = sym alike.behind_so.found_so;
            left_so = sym alike.behind_so.left_so;
            table = sym alike.behind_so.table;
          },
    )
