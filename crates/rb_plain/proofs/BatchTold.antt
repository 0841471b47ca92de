-- A batch is performed as it means: it begins, its body is led to its end, and a fault is settled.
use Rattle.std.proofs.Common.{◌≡◌, refl, sym, ap, ◌∙◌, subst, ℕ, ◌+◌, List, [], ◌∷◌, ◌++◌, length}
use Rattle.std.specs.Prelude.{Result, Ok, Err}
use Rattle.rb_trees.specs.declared.values.Value.{Value}
use Rattle.rb_trees.specs.declared.values.Value.TheVariants as value
use Rattle.rb_trees.specs.declared.outcomes.Raised.{Raised}
use Rattle.rb_trees.specs.declared.services.Object.{Object}
use Rattle.rb_trees.specs.declared.declarations.Class as class
use Rattle.rb_trees.specs.mirror.Declarations.{Program}
use Rattle.rb_trees.specs.mirror.Services.{Service}
use Rattle.rb_meaning_code.specs.Bodies.{bodies_of}
use Rattle.rb_meaning_code.specs.Dialogue as ask
use Rattle.rb_meaning_code.specs.Dialogue.{Question, Outcome, Gave, Faulted, Run, Dialogue, Done, Ask, AskBatch, Follows, handle}
use Rattle.rb_meaning_code.specs.Remote.{Server, batch_fuel}
use Rattle.rb_meaning_code.specs.State.{Local, Names, bound, closed}
use Rattle.rb_meaning_code.specs.Statements.{performs_all}
use Rattle.rb_meaning.specs.Meaning.{Around, at_batch}
use Rattle.rb_meaning.specs.RemoteAnswers.{remote_answer}
use Rattle.rb_meaning.specs.RemotePart.{remote_only}
use Rattle.rb_meaning.specs.Shown.{exchanges, shown_events}
use Rattle.rb_meaning.specs.State.{Outside}
use Rattle.rb_meaning.specs.Unsplit as unsplit
use Rattle.rb_meaning.specs.Unsplit.{answers_in_batch, faults, in_batch, performs_batch, server_after, settles, table_after, with_answer, with_side}
use Rattle.rb_meaning_flow.specs.Outermost.{Outermost}
use Rattle.rb_meaning_flow.specs.Programs.{is_carried_at}
use Rattle.rb_meaning_flow.specs.Scopes.{opened}
use Rattle.rb_base.specs.Devices.{Device, failed}
use Rattle.rb_base.specs.Sinks.{with_bytes, WrotePrefix}
use Rattle.rb_base.specs.declared.sinks.Failed.{Failed}
use Rattle.rb_base.specs.declared.sinks.Sink as sinks
use Rattle.rb_engine.specs.Answers.{Answered, performed}
use Rattle.rb_engine.specs.Code.{stmts_run}
use Rattle.rb_engine.specs.Ends.{flattened}
use Rattle.rb_engine.specs.Meets.{Led}
use Rattle.rb_engine.specs.declared.world.Halt.{Halt}
use Rattle.rb_engine.specs.declared.world.Halt.TheVariants as halt
use Rattle.rb_flow.specs.Begun.{begun, begun_of}
use Rattle.rb_flow.specs.declared.outermost.OpenBatch.{OpenBatch}
use Rattle.rb_plain.specs.BatchRuns.{Begun, Settles, SettlesStep, sided, whole_from, whole_table}
use Rattle.rb_plain.specs.Batches.{AreBatchesOf}
use Rattle.rb_plain.specs.Staged.{Staged, program_of, service_of}
use Rattle.rb_plain.specs.Entered.{Entered}
use Rattle.rb_plain.specs.Worlds.{CutsBatch, PerformsBatch, SeesAround, SeesBatch, SeesOuter, Told, around_view, batch_view, inner, outer_view, output, performs_around}
use Rattle.rb_plain.specs.declared.batch_run.Start.{Start}
use Rattle.rb_plain.specs.declared.batch_world.BatchWorld.{BatchWorld}
use Rattle.rb_plain.specs.declared.outer_world.OuterWorld.{OuterWorld}
use Rattle.rb_plain.specs.declared.remote_world.RemoteWorld.{RemoteWorld}
use Rattle.rb_plain.proofs.Answering.{batch_as, within}
use Rattle.rb_plain.proofs.BatchFound.{found_so, rest_so, to_around}
use Rattle.rb_plain.proofs.Events.{exchanges_batch, exchanges_line, shown_batch, turned_same}
use Rattle.rb_plain.proofs.Told.{told}

-- code in a batch begins no batch

answered_same : (s : Outside) (r : Result Value Raised × Server) → exchanges (with_answer s r).1.events ≡ exchanges s.events
answered_same s (a, server) = refl

question_same : (p : Program) (service : Service) (s : Outside) (q : Question) → exchanges (answers_in_batch p service s q).1.events ≡ exchanges s.events
question_same p service s (ask.Line at bytes) = exchanges_line s.events bytes
question_same p service s (ask.Taken step) = refl
question_same p service s (ask.Invoke at target method args) = answered_same s (remote_answer p service s.server (ask.Invoke at target method args))
question_same p service s (ask.Turn at) = answered_same s (remote_answer p service s.server (ask.Turn at))
question_same p service s (ask.ListTurn at) = ap exchanges (turned_same (is_carried_at p at) at s)

handled_same : {A : Type 0} (p : Program) (service : Service) (d : Dialogue A) (s : Outside) → exchanges (handle (in_batch p service) d s).1.events ≡ exchanges s.events
handled_same p service (Done a) s = refl
handled_same p service (Ask q go) s = handled_same p service (go (answers_in_batch p service s q).0) (answers_in_batch p service s q).1 ∙ question_same p service s q
handled_same p service (AskBatch at l go) s = handled_same p service (go ((in_batch p service).batch s at l).0) s

-- a batch that was begun is seen so
pub seen_begun : {W : Type 0} (g : sinks.Ghosts W) (first : BatchWorld W) (start : Device (List ℕ)) (s : Outside) (w w1 : BatchWorld W) (root : List ℕ) (b : OpenBatch) (copies : Start) (names names' : Names)
    → SeesBatch g first start w s → w1.out ≡ w.out → Begun root b copies w.remote names w1.remote names' → SeesBatch g first start w1 (unsplit.begun s)
seen_begun g first start s w w1 root b copies names names' sees same h = record {
  stage_so = h.stage_so ∙ sees.stage_so;
  same_output = ap (λ o. o.ghost_name) same ∙ sees.same_output;
  written = ap (λ o. output g o.now) same ∙ sees.written ∙ ap (with_bytes start) (sym (shown_batch s.events));
  server_so = h.server_so ∙ ap (λ x. record { table = x.table; fuel = batch_fuel }) sees.server_so;
}

-- how the body's outcome settles
settled_gave : (p : Program) (n : ℕ) (whole : List Object) (H : Outcome (Unit {0}) × Outside) (u : Unit {0}) (l : Local) → Gave u l ≡ H.0 → settles p n whole H ≡ (Gave u (closed n l), H.1)
settled_gave p n whole (o, s) u l e = subst (λ x. settles p n whole (x, s) ≡ (Gave u (closed n l), s)) e refl

settled_fault : (p : Program) (n : ℕ) (whole : List Object) (H : Outcome (Unit {0}) × Outside) (r : Raised) (l : Local) → Faulted r l ≡ H.0
    → settles p n whole H ≡ faults (with_side p r) (closed n l) whole H.1
settled_fault p n whole (o, s) r l e = subst (λ x. settles p n whole (x, s) ≡ faults (with_side p r) (closed n l) whole s) e refl

settled_events : (p : Program) (n : ℕ) (whole : List Object) (H : Outcome (Unit {0}) × Outside) → (settles p n whole H).1.events ≡ H.1.events
settled_events p n whole (Gave u l, s) = refl
settled_events p n whole (Faulted r l, s) = refl

-- what a batch began with: its names, and what its body means from them
pub record BeganWith {W : Type 0} (g : sinks.Ghosts W) (first : OuterWorld W) (start : Device (List ℕ)) (s : Outside) (o : Outermost) (b : OpenBatch) (copies : Start) (w w1 : OuterWorld W) (l l1 : Local) : Type 0 where
  pub sees : SeesOuter g first start w s
  pub batch_so : begun_of b ≡ begun o
  pub begun_so : Begun o.root b copies w.inner.remote l.names w1.inner.remote l1.names
  pub local_so : l1 ≡ record l { names = l1.names }
  pub out_so : w1.inner.out ≡ w.inner.out
  pub batches_so : w1.batches ≡ w.batches
  pub exchanges_so : w1.exchanges ≡ w.exchanges + 1

module _ {W : Type 0} (g : sinks.Ghosts W) (first : OuterWorld W) (start : Device (List ℕ)) (s : Outside) (o : Outermost) (b : OpenBatch) (copies : Start) (w w1 : OuterWorld W) (l l1 : Local) (began : BeganWith g first start s o b copies w w1 l l1) where
  abbrev st : Staged
  st = first.inner.remote.stage

  abbrev bound_local : Local
  bound_local = bound o.root (value.Remote (service_of st).root) l

  abbrev body : Run (Unit {0})
  body = performs_all (bodies_of (program_of st).classes l.fuel) l.fuel o.block bound_local

  abbrev handled : Outcome (Unit {0}) × Outside
  handled = handle (inner first.inner) body (unsplit.begun s)

  abbrev whole : List Object
  whole = unsplit.whole_table (program_of st) (service_of st) o bound_local (unsplit.begun s).server

  names_so : l1.names ≡ bound_local.names
  names_so = began.begun_so.bound_so ∙ ap (λ x. l.names ++ (o.root, value.Remote x.service.root) ∷ []) began.sees.inner_so.stage_so

  local_so : l1 ≡ bound_local
  local_so = began.local_so ∙ ap (λ ns. record l { names = ns }) names_so

  -- the body as the code runs it
  run_so : (classes : List class.Class) → classes ≡ st.program.classes → stmts_run classes b.block.now l.fuel l1 ≡ body
  run_so classes e =
      ap (λ cs. stmts_run cs b.block.now l.fuel l1) e
      ∙ ap (λ ss. performs_all (bodies_of (program_of st).classes l.fuel) l.fuel ss l1) (ap (λ x. x.block) began.batch_so)
      ∙ ap (λ x. performs_all (bodies_of (program_of st).classes l.fuel) l.fuel o.block x) local_so

  sees_begun : SeesBatch g first.inner start w1.inner (unsplit.begun s)
  sees_begun = seen_begun g first.inner start s w.inner w1.inner o.root b copies l.names l1.names began.sees.inner_so began.out_so began.begun_so

  -- the whole remote part that the start tells is that of the batch's start
  whole_so : (later : RemoteWorld) → later.stage ≡ st → whole_table later.stage b copies ≡ whole
  whole_so later e =
      ap (λ x. whole_table x b copies) (e ∙ sym began.sees.inner_so.stage_so)
      ∙ began.begun_so.whole_so
      ∙ ap (λ x. whole_from x b l1.names w.inner.remote.server.table) began.sees.inner_so.stage_so
      ∙ ap (λ x. (server_after (remote_only (program_of st) (service_of st) x.scope x.block l1.names (record { table = w.inner.remote.server.table; fuel = batch_fuel }))).table) began.batch_so
      ∙ ap (λ ns. (server_after (remote_only (program_of st) (service_of st) (opened o.outer o.at o.root o.block) o.block ns (record { table = w.inner.remote.server.table; fuel = batch_fuel }))).table)
      names_so
      ∙ ap (λ t. (server_after (remote_only (program_of st) (service_of st) (opened o.outer o.at o.root o.block) o.block bound_local.names (record { table = t; fuel = batch_fuel }))).table)
      (ap (λ x. x.table) began.sees.inner_so.server_so)

  exchanges_at_end : (w3 : OuterWorld W) → w3.exchanges ≡ w1.exchanges → w3.exchanges ≡ exchanges handled.1.events
  exchanges_at_end w3 e = e ∙ began.exchanges_so ∙ ap (λ n. n + 1) began.sees.exchanges_so ∙ sym (exchanges_batch s.events)
      ∙ sym (handled_same (program_of st) (service_of st) body (unsplit.begun s))

  abbrev Goal : Local → Result (Result (Unit {0}) Raised) (Halt Failed) → OuterWorld W → Type 0
  Goal l2 q w3 = Answered (performed (closed (length l.names) l2) q) (λ e. Told (outer_view g first start) e w3 (performs_batch (program_of st) (service_of st) o l s))

  batches_at_end : (w3 : OuterWorld W) → w3.batches ≡ w1.batches → AreBatchesOf (program_of st) w3.batches.now
  batches_at_end w3 e = subst (λ x. AreBatchesOf (program_of st) x.now) (sym (e ∙ began.batches_so)) began.sees.batches_so

  -- the body gave nothing
  ends_well : (w2 w3 : OuterWorld W) (l2 : Local) (u : Unit {0}) → w3.inner ≡ w2.inner → w3.batches ≡ w1.batches → w3.exchanges ≡ w1.exchanges
      → Gave u l2 ≡ handled.0 → SeesBatch g first.inner start w2.inner handled.1 → Told {X = Failed} (outer_view g first start) (Ok (Gave u (closed (length l.names) l2))) w3 (performs_batch (program_of st) (service_of st) o l s)
  ends_well w2 w3 l2 u same batches count e sees =
      let f = settled_gave (program_of st) (length l.names) whole handled u l2 e in (
        sym (ap (λ x. x.0) f),
        subst (λ x. SeesOuter g first start w3 x.1) (sym f) (record {
          inner_so = subst (λ x. SeesBatch g first.inner start x handled.1) (sym same) sees;
          batches_so = batches_at_end w3 batches;
          exchanges_so = exchanges_at_end w3 count;
        }),
      )

  -- the body ended by a fault, which is settled
  ends_ill : (w2 w3 : OuterWorld W) (l2 : Local) (r r' : Raised) → w3.inner.out ≡ w2.inner.out → w3.batches ≡ w1.batches → w3.exchanges ≡ w1.exchanges
      → Settles b copies r r' w2.inner.remote w3.inner.remote → Faulted r l2 ≡ handled.0 → SeesBatch g first.inner start w2.inner handled.1
      → Told {X = Failed} (outer_view g first start) (Ok (Faulted r' (closed (length l.names) l2))) w3 (performs_batch (program_of st) (service_of st) o l s)
  ends_ill w2 w3 l2 r r' same batches count h e sees =
      let f = settled_fault (program_of st) (length l.names) whole handled r l2 e in
      let side : r' ≡ with_side (program_of st) r = h.raised_so ∙ ap (λ x. sided x r) sees.stage_so in (
        ap (λ x. Faulted x (closed (length l.names) l2)) side ∙ sym (ap (λ x. x.0) f),
        subst (λ x. SeesOuter g first start w3 x.1) (sym f) (record {
          inner_so = record {
            stage_so = h.table_so.stage_so ∙ sees.stage_so;
            same_output = ap (λ x. x.ghost_name) same ∙ sees.same_output;
            written = ap (λ x. output g x.now) same ∙ sees.written;
            server_so = h.table_so.server_so
                ∙ ap (λ x. record { table = table_after x w2.inner.remote.server.table (whole_table w2.inner.remote.stage b copies); fuel = w2.inner.remote.server.fuel }) side
                ∙ ap (λ x. record { table = table_after (with_side (program_of st) r) x.table (whole_table w2.inner.remote.stage b copies); fuel = x.fuel }) sees.server_so
                ∙ ap (λ x. record { table = table_after (with_side (program_of st) r) handled.1.server.table x; fuel = handled.1.server.fuel }) (whole_so w2.inner.remote sees.stage_so);
          };
          batches_so = batches_at_end w3 batches;
          exchanges_so = exchanges_at_end w3 count;
        }),
      )

  -- a write failed in the body
  is_cut : (w2 w3 : OuterWorld W) → w3.inner ≡ w2.inner → CutsBatch g first.inner start w2.inner handled.1
      → CutsBatch g first.inner start w3.inner (performs_batch (program_of st) (service_of st) o l s).1
  is_cut w2 w3 same c = subst (λ x. CutsBatch g first.inner start x (performs_batch (program_of st) (service_of st) o l s).1) (sym same) (record {
    same_output = c.same_output;
    written = subst (λ es. WrotePrefix (failed start) (output g w2.inner.out.now) (shown_events es)) (sym (settled_events (program_of st) (length l.names) whole handled)) c.written;
  })

  by_end : (w2 w3 : OuterWorld W) (l2 : Local) (r q : Result (Result (Unit {0}) Raised) (Halt Failed)) → w3.inner.out ≡ w2.inner.out → w3.batches ≡ w1.batches → w3.exchanges ≡ w1.exchanges
      → (w3.inner.remote ≡ w2.inner.remote → w3.inner ≡ w2.inner) → SettlesStep b copies r q w2.inner.remote w3.inner.remote → Led (within g) body w1.inner l2 (flattened r) w2.inner → Goal l2 q w3
  by_end w2 w3 l2 (Ok (Ok u)) q same batches count whole_inner h led =
      let t = told (batch_view g first.inner start) (within g) (inner first.inner) (batch_as g first.inner start) body w1.inner w2.inner (unsplit.begun s) (Ok (Gave u l2)) sees_begun led in
      subst (λ x. Goal l2 x w3) (sym h.0) (ends_well w2 w3 l2 u (whole_inner h.1) batches count t.0 t.1)
  by_end w2 w3 l2 (Ok (Err r)) (Ok (Err r')) same batches count whole_inner h led =
      let t = told (batch_view g first.inner start) (within g) (inner first.inner) (batch_as g first.inner start) body w1.inner w2.inner (unsplit.begun s) (Ok (Faulted r l2)) sees_begun led in
      ends_ill w2 w3 l2 r r' same batches count h t.0 t.1
  by_end w2 w3 l2 (Ok (Err r)) (Ok (Ok u)) same batches count whole_inner h led = absurd h
  by_end w2 w3 l2 (Ok (Err r)) (Err halt.Memory) same batches count whole_inner h led = tt
  by_end w2 w3 l2 (Ok (Err r)) (Err (halt.World x)) same batches count whole_inner h led = absurd h
  by_end w2 w3 l2 (Err halt.Memory) q same batches count whole_inner h led = subst (λ x. Goal l2 x w3) (sym h.0) tt
  by_end w2 w3 l2 (Err (halt.World x)) q same batches count whole_inner h led =
      subst (λ y. Goal l2 y w3) (sym h.0) (is_cut w2 w3 (whole_inner h.1)
      (told (batch_view g first.inner start) (within g) (inner first.inner) (batch_as g first.inner start) body w1.inner w2.inner (unsplit.begun s) (Err x) sees_begun led))

  -- what the engine tells of the body
  pub batch_told : (w2 w3 : OuterWorld W) (l2 : Local) (r q : Result (Result (Unit {0}) Raised) (Halt Failed)) (classes : List class.Class) → classes ≡ st.program.classes
      → w3.inner.out ≡ w2.inner.out → w3.batches ≡ w1.batches → w3.exchanges ≡ w1.exchanges → (w3.inner.remote ≡ w2.inner.remote → w3.inner ≡ w2.inner)
      → SettlesStep b copies r q w2.inner.remote w3.inner.remote → Led (within g) (stmts_run classes b.block.now l.fuel l1) w1.inner l2 (flattened r) w2.inner → Goal l2 q w3
  batch_told w2 w3 l2 r q classes e same batches count whole_inner h led =
      by_end w2 w3 l2 r q same batches count whole_inner h (subst (λ d. Led (within g) d w1.inner l2 (flattened r) w2.inner) (run_so classes e) led)

-- what is told of each state of the unsplit meaning
pub performs_so : {W : Type 0} (g : sinks.Ghosts W) (root : List ℕ) (b : OpenBatch) (w w3 : OuterWorld W) (l l2 : Local) (q : Result (Result (Unit {0}) Raised) (Halt Failed))
    → ((first : OuterWorld W) (start : Device (List ℕ)) (a : Around) (o : Outermost) → SeesAround g first start w a → begun_of b ≡ begun o → root ≡ o.root
    → Answered (performed l2 q) (λ e. Told (around_view g first start) e w3 (performs_around first o l a)))
    → Answered (performed l2 q) (λ e. PerformsBatch g root b w l e w3)
performs_so g root b w w3 l l2 (Ok (Ok u)) h = λ first start a o sees same is. h first start a o sees same is
performs_so g root b w w3 l l2 (Ok (Err r)) h = λ first start a o sees same is. h first start a o sees same is
performs_so g root b w w3 l l2 (Err halt.Memory) h = tt
performs_so g root b w w3 l l2 (Err (halt.World x)) h = λ first start a o sees same is. h first start a o sees same is

-- a batch of the program that the code entered, performed and settled
pub perform_so : {W : Type 0} (g : sinks.Ghosts W) (root : List ℕ) (b : OpenBatch) (copies : Start) (w w1 w2 w3 : OuterWorld W) (l l1 l2 l3 : Local) (r q : Result (Result (Unit {0}) Raised) (Halt Failed)) (classes : List class.Class)
    → Entered root b copies w l.names w1 l1.names → l1 ≡ record l { names = l1.names }
    → classes ≡ w.inner.remote.stage.program.classes → w3.inner.out ≡ w2.inner.out → w3.batches ≡ w1.batches → w3.exchanges ≡ w1.exchanges → w3.others ≡ w1.others → (w3.inner.remote ≡ w2.inner.remote → w3.inner ≡ w2.inner)
    → SettlesStep b copies r q w2.inner.remote w3.inner.remote → Led (within g) (stmts_run classes b.block.now l.fuel l1) w1.inner l2 (flattened r) w2.inner → l3 ≡ closed (length l.names) l2
    → Answered (performed l3 q) (λ e. PerformsBatch g root b w l e w3)
perform_so g root b copies w w1 w2 w3 l l1 l2 l3 r q classes entered start_so own same batches3 count3 rest3 whole_inner h led end =
    performs_so g root b w w3 l l3 q (λ first start a o sees batch is.
    subst (λ x. Answered (performed x q) (λ e. Told (around_view g first start) e w3 (performs_around first o l a))) (sym end)
    (to_around g first start a w3 (performs_batch (program_of first.inner.remote.stage) (service_of first.inner.remote.stage) o l (at_batch a)) (closed (length l.names) l2) q
    (rest_so a w entered.there w3 sees.others_so entered.come_so (rest3 ∙ entered.others_so))
    (batch_told g first start (at_batch a) o b copies entered.there w1 l l1
    (record {
      sees = found_so g first start a w entered.there sees entered.come_so;
      batch_so = batch;
      begun_so = subst (λ x. Begun x b copies entered.there.inner.remote l.names w1.inner.remote l1.names) is entered.begun_so;
      local_so = start_so;
      out_so = entered.out_so;
      batches_so = entered.batches_so;
      exchanges_so = entered.exchanges_so;
    })
    w2 w3 l2 r q classes (own ∙ ap (λ x. x.program.classes) sees.outer_so.inner_so.stage_so) same batches3 count3 whole_inner h led)))
