-- The table that a batch finds, and what is around `main` behind it.
use Rattle.std.proofs.Common.{◌≡◌, refl, sym, ap, ◌∙◌, subst, ℕ, ◌+◌, List, [], ◌∷◌, map, drop}
use Rattle.std.specs.Prelude.{Result, Ok, Err}
use Rattle.rb_trees.specs.declared.outcomes.Raised.{Raised}
use Rattle.rb_trees.specs.declared.services.Change.{Change}
use Rattle.rb_trees.specs.declared.want.Memory.{Memory}
use Rattle.rb_meaning_code.specs.Dialogue.{Outcome}
use Rattle.rb_meaning_code.specs.State.{Local, Names}
use Rattle.rb_meaning.specs.Changes.{all_changed}
use Rattle.rb_meaning.specs.Meaning.{Around, at_batch, behind_batch}
use Rattle.rb_meaning.specs.Others.{found_table}
use Rattle.rb_meaning.specs.State.{Outside}
use Rattle.rb_base.specs.Devices.{Device}
use Rattle.rb_base.specs.declared.sinks.Failed.{Failed}
use Rattle.rb_base.specs.declared.sinks.Sink as sinks
use Rattle.rb_engine.specs.Answers.{Answered, performed}
use Rattle.rb_engine.specs.declared.world.Halt.{Halt}
use Rattle.rb_engine.specs.declared.world.Halt.TheVariants as halt
use Rattle.rb_plain.specs.Batches.{AreBatchesOf}
use Rattle.rb_flow.specs.declared.outermost.OpenBatch.{OpenBatch}
use Rattle.rb_plain.specs.BatchRuns.{Begins}
use Rattle.rb_plain.specs.Entered.{Comes, Enters}
use Rattle.rb_plain.specs.Staged.{program_of}
use Rattle.rb_plain.specs.Worlds.{SeesAround, SeesOuter, Told, around_view, outer_view, output}
use Rattle.rb_plain.specs.declared.batch_run.Start.{Start}
use Rattle.rb_plain.specs.declared.outer_world.OuterWorld.{OuterWorld}

-- a batch that was come to, counted and begun
pub entered_so : {W : Type 0} (root : List ℕ) (b : OpenBatch) (r : Result Start Memory) (w m w' : OuterWorld W) (names names' : Names) → Comes w m → Begins root b r m.inner.remote names w'.inner.remote names'
    → w'.others ≡ m.others → w'.inner.out ≡ m.inner.out → w'.batches ≡ m.batches → w'.exchanges ≡ m.exchanges + 1 → Enters root b r w names w' names'
entered_so root b (Ok start) w m w' names names' come begins others out batches count = record {
  there = m;
  come_so = come;
  begun_so = begins;
  others_so = others;
  out_so = out;
  batches_so = batches;
  exchanges_so = count;
}
entered_so root b (Err want) w m w' names names' come begins others out batches count = tt

-- where the batch was come to, the World is seen as what is around the batch
pub found_so : {W : Type 0} (g : sinks.Ghosts W) (first : OuterWorld W) (start : Device (List ℕ)) (a : Around) (w w' : OuterWorld W) → SeesAround g first start w a → Comes w w' → SeesOuter g first start w' (at_batch a)
found_so g first start a w w' sees come = record {
  inner_so = record {
    stage_so = come.table_so.stage_so ∙ sees.outer_so.inner_so.stage_so;
    same_output = ap (λ o. o.ghost_name) come.out_so ∙ sees.outer_so.inner_so.same_output;
    written = ap (λ o. output g o.now) come.out_so ∙ sees.outer_so.inner_so.written;
    server_so = come.table_so.server_so
        ∙ ap (λ s. record { table = found_table (map all_changed w.others.now) s.table; fuel = s.fuel }) sees.outer_so.inner_so.server_so
        ∙ ap (λ os. record { table = found_table os a.outside.server.table; fuel = a.outside.server.fuel }) (sym sees.others_so);
  };
  batches_so = subst (λ x. AreBatchesOf (program_of first.inner.remote.stage) x.now) (sym come.batches_so) sees.outer_so.batches_so;
  exchanges_so = come.exchanges_so ∙ sees.outer_so.exchanges_so;
}

rest_mapped : (lists : List (List Change)) → drop 1 (map all_changed lists) ≡ map all_changed (drop 1 lists)
rest_mapped [] = refl
rest_mapped (changes ∷ lists) = refl

-- what is left of the changes by others behind the batch
pub rest_so : {W : Type 0} (a : Around) (w w' w'' : OuterWorld W) → a.others ≡ map all_changed w.others.now → Comes w w' → w''.others ≡ w'.others → drop 1 a.others ≡ map all_changed w''.others.now
rest_so a w w' w'' e come f =
    ap (drop 1) e ∙ rest_mapped w.others.now ∙ ap (map all_changed) (sym come.others_so) ∙ ap (λ os. map all_changed os.now) (sym f)

-- what is told of a batch is told behind it
behind_told : {W : Type 0} (g : sinks.Ghosts W) (first : OuterWorld W) (start : Device (List ℕ)) (a : Around) (w : OuterWorld W) (r : Outcome (Unit {0}) × Outside) (o : Outcome (Unit {0})) → drop 1 a.others ≡ map all_changed w.others.now
    → Told {X = Failed} (outer_view g first start) (Ok o) w r → Told {X = Failed} (around_view g first start) (Ok o) w (behind_batch a r)
behind_told g first start a w (p, s) o e t = (t.0, record { outer_so = t.1; others_so = e })

behind_cut : {W : Type 0} (g : sinks.Ghosts W) (first : OuterWorld W) (start : Device (List ℕ)) (a : Around) (w : OuterWorld W) (r : Outcome (Unit {0}) × Outside) (x : Failed)
    → Told {A = Outcome (Unit {0})} (outer_view g first start) (Err x) w r → Told {A = Outcome (Unit {0})} (around_view g first start) (Err x) w (behind_batch a r)
behind_cut g first start a w (p, s) x t = t

pub to_around : {W : Type 0} (g : sinks.Ghosts W) (first : OuterWorld W) (start : Device (List ℕ)) (a : Around) (w : OuterWorld W) (r : Outcome (Unit {0}) × Outside) (l : Local) (q : Result (Result (Unit {0}) Raised) (Halt Failed)) → drop 1 a.others ≡ map all_changed w.others.now
    → Answered (performed l q) (λ e. Told (outer_view g first start) e w r) → Answered (performed l q) (λ e. Told (around_view g first start) e w (behind_batch a r))
to_around g first start a w r l (Ok (Ok u)) e t = behind_told g first start a w r _ e t
to_around g first start a w r l (Ok (Err f)) e t = behind_told g first start a w r _ e t
to_around g first start a w r l (Err halt.Memory) e t = tt
to_around g first start a w r l (Err (halt.World x)) e t = behind_cut g first start a w r x t
