-- From the run of `main` to what an unsplit run leaves.
use Rattle.std.proofs.Common.{◌≡◌, refl, sym, ap, ◌∙◌, subst, ℕ, List, map}
use Rattle.std.specs.Prelude.{Result, Ok, Err}
use Rattle.rb_trees.specs.declared.outcomes.Ending.{Ending}
use Rattle.rb_trees.specs.declared.declarations.Class as class
use Rattle.rb_trees.specs.declared.declarations.Program as program
use Rattle.rb_trees.specs.declared.services.Change.{Change}
use Rattle.rb_trees.specs.declared.services.Object.{Object}
use Rattle.rb_meaning.specs.Changes.{all_changed}
use Rattle.rb_meaning.specs.Meaning.{Around, Meaning, around_of, meant}
use Rattle.rb_meaning.specs.Shown.{exchanges, shown_events}
use Rattle.rb_base.specs.Devices.{failed}
use Rattle.rb_base.specs.Sinks.{with_bytes, WrotePrefix}
use Rattle.rb_base.specs.declared.sinks.Sink as sinks
use Rattle.rb_base.proofs.Pieces.{bytes_none}
use Rattle.rb_plain.specs.Batches.{AreBatchesOf}
use Rattle.rb_plain.specs.MainRuns.{Ends, RunsMain, main_meant}
use Rattle.rb_plain.specs.Staged.{Staged, program_of}
use Rattle.rb_plain.specs.Unsplit.{Leaves, WritesUnlessStarved, meant as meant_unsplit, staged_meaning}
use Rattle.rb_plain.specs.Worlds.{SeesAround, output}
use Rattle.rb_trees.specs.declared.outcomes.Run.{Run}
use Rattle.rb_plain.specs.declared.outer_world.OuterWorld.{OuterWorld}
use Rattle.rb_plain.specs.declared.run.Terms.{Terms}
use Rattle.rb_plain.specs.declared.run.PlainStop.{PlainStop}
use Rattle.rb_plain.specs.declared.run.PlainStop.TheVariants as stops

-- what is around `main` at its start
abbrev pub first_of : List Object → Terms → Around
first_of table t = around_of table (map all_changed t.others.now)

-- nothing was shown yet
pub sees_first : {W : Type 0} (g : sinks.Ghosts W) (w : OuterWorld W) (table : List Object) (t : Terms) → w.inner.remote.server ≡ record { table = table; fuel = 0 } → w.exchanges ≡ 0 → w.others.now ≡ t.others.now
    → AreBatchesOf (program_of w.inner.remote.stage) w.batches.now → SeesAround g w (output g w.inner.out.now) w (first_of table t)
sees_first g w table t server count others batches = record {
  outer_so = record {
    inner_so = record { stage_so = refl; same_output = refl; written = sym (bytes_none (output g w.inner.out.now)); server_so = server };
    batches_so = batches;
    exchanges_so = count;
  };
  others_so = ap (map all_changed) (sym others);
}

-- what a run that ended leaves
pub record Left {W : Type 0} (g : sinks.Ghosts W) (m : Meaning) (ending : Ending) (first last : OuterWorld W) : Type 0 where
  pub ending_so : ending ≡ m.ending
  pub exchanges_so : last.exchanges ≡ exchanges m.events
  pub table_so : last.inner.remote.server.table ≡ m.table
  pub same_output : last.inner.out.ghost_name ≡ first.inner.out.ghost_name
  pub written : output g last.inner.out.now ≡ with_bytes (output g first.inner.out.now) (shown_events m.events)

pub left_by : {W : Type 0} (g : sinks.Ghosts W) (t : Terms) (w w' : OuterWorld W) (table : List Object) (ending : Ending) (r : Result Ending PlainStop) → RunsMain g t.fuel w r w' → r ≡ Ok ending
    → SeesAround g w (output g w.inner.out.now) w (first_of table t) → Left g (meant (main_meant w t.fuel (first_of table t))) ending w w'
left_by g t w w' table ending r h is sees =
    let e = subst (λ x. Ends g w (output g w.inner.out.now) (main_meant w t.fuel (first_of table t)) x w') is (h (output g w.inner.out.now) (first_of table t) sees) in
    record {
      ending_so = e.0;
      exchanges_so = e.1.outer_so.exchanges_so;
      table_so = ap (λ x. x.table) e.1.outer_so.inner_so.server_so;
      same_output = e.1.outer_so.inner_so.same_output;
      written = e.1.outer_so.inner_so.written;
    }

-- what one leaves in which a write failed
pub record FailedIn {W : Type 0} (g : sinks.Ghosts W) (m : Meaning) (first last : OuterWorld W) : Type 0 where
  pub same_output : last.inner.out.ghost_name ≡ first.inner.out.ghost_name
  pub written : WrotePrefix (failed (output g first.inner.out.now)) (output g last.inner.out.now) (shown_events m.events)

pub failed_by : {W : Type 0} (g : sinks.Ghosts W) (t : Terms) (w w' : OuterWorld W) (table : List Object) (r : Result Ending PlainStop) → RunsMain g t.fuel w r w' → r ≡ Err stops.WriteFault
    → SeesAround g w (output g w.inner.out.now) w (first_of table t) → FailedIn g (meant (main_meant w t.fuel (first_of table t))) w w'
failed_by g t w w' table r h is sees =
    let e = subst (λ x. Ends g w (output g w.inner.out.now) (main_meant w t.fuel (first_of table t)) x w') is (h (output g w.inner.out.now) (first_of table t) sees) in
    record { same_output = e.same_output; written = e.written }

pub leaves_so : {W : Type 0} (g : sinks.Ghosts W) (t : Terms) (w w' : OuterWorld W) (stage : Staged) (table : List Object) (ending : Ending) (r : Result Ending PlainStop) (run : Run) (left : List Object) → RunsMain g t.fuel w r w' → r ≡ Ok ending
    → SeesAround g w (output g w.inner.out.now) w (first_of table t) → w.inner.remote.stage ≡ stage → run ≡ record { ending = ending; exchanges = w'.exchanges } → left ≡ w'.inner.remote.server.table → Leaves (staged_meaning stage table t) run left
leaves_so g t w w' stage table ending r run left h is sees e f j =
    let l = left_by g t w w' table ending r h is sees in
    subst (λ st. Leaves (staged_meaning st table t) run left) e (record {
      ending_so = ap (λ x. x.ending) f ∙ l.ending_so;
      exchanges_so = ap (λ x. x.exchanges) f ∙ l.exchanges_so;
      table_so = j ∙ l.table_so;
    })

-- what is left of the output
pub written_so : {W : Type 0} (g : sinks.Ghosts W) (t : Terms) (w w' : OuterWorld W) (stage : Staged) (table : List Object) (before last : W) (r : Result Ending PlainStop) → RunsMain g t.fuel w r w'
    → SeesAround g w (output g w.inner.out.now) w (first_of table t) → w.inner.remote.stage ≡ stage → w.inner.out.now ≡ before → (w'.inner.out.ghost_name ≡ w.inner.out.ghost_name → last ≡ w'.inner.out.now)
    → WritesUnlessStarved (shown_events (staged_meaning stage table t).events) r (output g before) (output g last)
written_so g t w w' stage table before last (Ok ending) h sees e first left =
    let l = left_by g t w w' table ending (Ok ending) h refl sees in
    subst (λ st. WritesUnlessStarved {A = Ending} (shown_events (staged_meaning st table t).events) (Ok ending) (output g before) (output g last)) e
    (ap (output g) (left l.same_output) ∙ l.written ∙ ap (λ x. with_bytes (output g x) (shown_events (meant (main_meant w t.fuel (first_of table t))).events)) first)
written_so g t w w' stage table before last (Err stops.WriteFault) h sees e first left =
    let l = failed_by g t w w' table (Err stops.WriteFault) h refl sees in
    subst (λ st. WritesUnlessStarved {A = Ending} (shown_events (staged_meaning st table t).events) (Err stops.WriteFault) (output g before) (output g last)) e
    (subst (λ x. WrotePrefix (failed (output g x)) (output g last) (shown_events (meant (main_meant w t.fuel (first_of table t))).events)) first
    (subst (λ x. WrotePrefix (failed (output g w.inner.out.now)) (output g x) (shown_events (meant (main_meant w t.fuel (first_of table t))).events)) (sym (left l.same_output)) l.written))
written_so g t w w' stage table before last (Err stops.Memory) h sees e first left = tt

-- the same for another answer that came of this one
pub written_as : {W A : Type 0} (g : sinks.Ghosts W) (text : List ℕ) (before last : W) (r : Result Ending PlainStop) (ending : Ending) (a : A) → r ≡ Ok ending
    → WritesUnlessStarved text r (output g before) (output g last) → WritesUnlessStarved {A = A} text (Ok a) (output g before) (output g last)
written_as g text before last r ending a is h = subst (λ x. WritesUnlessStarved text x (output g before) (output g last)) is h

abbrev ending_err : PlainStop → Result Ending PlainStop
ending_err stop = Err stop

by_stop : {W A : Type 0} (g : sinks.Ghosts W) (text : List ℕ) (before last : W) (stop : PlainStop) (q : Result A PlainStop) → q ≡ Err stop → WritesUnlessStarved text (ending_err stop) (output g before) (output g last)
    → WritesUnlessStarved text q (output g before) (output g last)
by_stop g text before last stops.WriteFault q e h = subst (λ x. WritesUnlessStarved text x (output g before) (output g last)) (sym e) h
by_stop g text before last stops.Memory q e h = subst (λ x. WritesUnlessStarved text x (output g before) (output g last)) (sym e) tt

pub stopped_as : {W A : Type 0} (g : sinks.Ghosts W) (text : List ℕ) (before last : W) (r : Result Ending PlainStop) (stop : PlainStop) (q : Result A PlainStop) → r ≡ Err stop → q ≡ Err stop
    → WritesUnlessStarved text r (output g before) (output g last) → WritesUnlessStarved text q (output g before) (output g last)
stopped_as g text before last r stop q is e h = by_stop g text before last stop q e (subst (λ x. WritesUnlessStarved text x (output g before) (output g last)) is h)

-- what a program means on its stage
pub staged_is : (st : Staged) (t : Terms) (p : program.Program) (classes : List class.Class) (root : ℕ) (table : List Object) (others : List (List Change)) → st ≡ record { program = p; service = record { classes = classes; root = root } }
    → t.others.now ≡ others → staged_meaning st table t ≡ meant_unsplit p classes root table others t.fuel
staged_is st t p classes root table others e f = ap (λ s. staged_meaning s table t) e ∙ ap (λ os. meant_unsplit p classes root table os t.fuel) f
