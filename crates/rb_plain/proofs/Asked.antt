-- A batch that a program asks for is found and performed.
use Rattle.std.proofs.Common.{◌≡◌, sym, ap, ◌∙◌, subst, ℕ, List}
use Rattle.std.specs.Prelude.{Bool, true, false, None, Some, Result, Ok, Err}
use Rattle.rb_trees.specs.declared.outcomes.Raised.{Raised}
use Rattle.rb_meaning_code.specs.Dialogue.{Gave, Faulted}
use Rattle.rb_meaning_code.specs.Faults.{input_too_large, kind, raised}
use Rattle.rb_meaning_code.specs.State.{Local}
use Rattle.rb_meaning_flow.specs.Outermost.{Outermost}
use Rattle.rb_meaning.specs.ConstantLists.{takes_too_many}
use Rattle.rb_meaning.specs.Meaning.{Around, begins_or_faults, performs_found}
use Rattle.rb_base.specs.Devices.{Device}
use Rattle.rb_base.specs.declared.sinks.Failed.{Failed}
use Rattle.rb_base.specs.declared.sinks.Sink as sinks
use Rattle.rb_engine.specs.Answers.{Answered, Performed, performed}
use Rattle.rb_engine.specs.declared.world.Halt.{Halt}
use Rattle.rb_engine.specs.declared.world.Halt.TheVariants as halt
use Rattle.rb_flow.specs.Begun.{begun, begun_of}
use Rattle.rb_flow.specs.Views.{facts}
use Rattle.rb_flow.specs.declared.outermost.OpenBatch.{OpenBatch}
use Rattle.rb_plain.specs.Batches.{AreBatchesOf, found, root_of}
use Rattle.rb_plain.specs.Lists.{too_many}
use Rattle.rb_plain.specs.Staged.{program_of, service_of}
use Rattle.rb_plain.specs.Worlds.{FindsBatch, PerformsBatch, SeesAround, Told, around_view, outer_performs}
use Rattle.rb_plain.specs.declared.outer_world.OuterWorld.{OuterWorld}
use Rattle.rb_plain.proofs.Found.{none_found, root_so, some_found}

-- whether a batch takes too many items along, as the code tells it
many_so : {W : Type 0} (g : sinks.Ghosts W) (first w : OuterWorld W) (start : Device (List ℕ)) (a : Around) (b : OpenBatch) (o : Outermost) (l : Local) (many : Bool) → SeesAround g first start w a → begun_of b ≡ begun o
    → many ≡ too_many (facts w.inner.remote.stage.program) (begun_of b) l.names → takes_too_many (program_of first.inner.remote.stage) o l.names ≡ many
many_so g first w start a b o l many sees same is =
    ap (λ x. too_many (facts first.inner.remote.stage.program) x l.names) (sym same)
    ∙ ap (λ st. too_many (facts st.program) (begun_of b) l.names) (sym sees.outer_so.inner_so.stage_so) ∙ sym is

-- a batch that doesn't begins
begins_so : {W : Type 0} (g : sinks.Ghosts W) (w w' : OuterWorld W) (l : Local) (b : OpenBatch) (root : List ℕ × ℕ) (many : Bool) (ended : Performed Failed)
    → many ≡ too_many (facts w.inner.remote.stage.program) (begun_of b) l.names → many ≡ false → PerformsBatch g root.0 b w l ended w' → FindsBatch g root b w l ended w'
begins_so g w w' l b root many ended is few h = λ first start a o sees same root_is.
    let st = first.inner.remote.stage in
    subst (λ m. Told (around_view g first start) ended w' (begins_or_faults m (program_of st) (service_of st) o l a))
    (sym (many_so g first w start a b o l many sees same is ∙ few)) (h first start a o sees same (ap (λ v. v.0) root_is))

pub found_begins : {W : Type 0} (g : sinks.Ghosts W) (w w' : OuterWorld W) (l l' : Local) (b : OpenBatch) (root : List ℕ × ℕ) (many : Bool) (q : Result (Result (Unit {0}) Raised) (Halt Failed))
    → many ≡ too_many (facts w.inner.remote.stage.program) (begun_of b) l.names → many ≡ false
    → Answered (performed l' q) (λ o. PerformsBatch g root.0 b w l o w') → Answered (performed l' q) (λ o. FindsBatch g root b w l o w')
found_begins g w w' l l' b root many (Ok (Ok u)) is few h = begins_so g w w' l b root many (Ok (Gave tt l')) is few h
found_begins g w w' l l' b root many (Ok (Err r)) is few h = begins_so g w w' l b root many (Ok (Faulted r l')) is few h
found_begins g w w' l l' b root many (Err halt.Memory) is few h = tt
found_begins g w w' l l' b root many (Err (halt.World x)) is few h = begins_so g w w' l b root many (Err x) is few h

-- and one that does ends by a fault at its position
pub found_faults : {W : Type 0} (g : sinks.Ghosts W) (w : OuterWorld W) (l : Local) (b : OpenBatch) (root : List ℕ × ℕ) (many : Bool) (r : Raised)
    → many ≡ too_many (facts w.inner.remote.stage.program) (begun_of b) l.names → many ≡ true → r ≡ raised input_too_large root.1 → FindsBatch g root b w l (Ok (Faulted r l)) w
found_faults g w l b root many r is too f = λ first start a o sees same root_is.
    let st = first.inner.remote.stage in
    subst (λ m. Told {X = Failed} (around_view g first start) (Ok (Faulted r l)) w (begins_or_faults m (program_of st) (service_of st) o l a))
    (sym (many_so g first w start a b o l many sees same is ∙ too)) (ap (λ x. Faulted x l) (f ∙ ap (λ v. raised input_too_large v.1) root_is), sees)

-- no batch stands there
pub none_asked : {W : Type 0} (g : sinks.Ghosts W) (w : OuterWorld W) (at : ℕ) (l : Local) (r : Raised) → found w.batches.now at ≡ None → r ≡ raised kind at → outer_performs g w at l (Ok (Faulted r l)) w
none_asked g w at l r is f = λ first start a sees.
    let p = program_of first.inner.remote.stage in
    let service = service_of first.inner.remote.stage in
    let e = none_found p w.batches.now at sees.outer_so.batches_so is in (
      ap (λ x. Faulted x l) f ∙ sym (ap (λ b. (performs_found p service b at l a).0) e),
      subst (λ b. SeesAround g first start w (performs_found p service b at l a).1) (sym e) sees,
    )

-- a batch stands there, and was performed
some_asked : {W : Type 0} (g : sinks.Ghosts W) (w w' : OuterWorld W) (at : ℕ) (l : Local) (b : OpenBatch) (root : List ℕ × ℕ) (ended : Performed Failed) → found w.batches.now at ≡ Some b → root_of b ≡ Some root
    → FindsBatch g root b w l ended w' → outer_performs g w at l ended w'
some_asked g w w' at l b root ended is has h = λ first start a sees.
    let p = program_of first.inner.remote.stage in
    let service = service_of first.inner.remote.stage in
    let f = some_found p w.batches.now at b sees.outer_so.batches_so is in
    let same : Some root ≡ Some (f.0.root, f.0.at) = sym has ∙ root_so b f.0 f.2 in
    subst (λ m. Told (around_view g first start) ended w' (performs_found p service m at l a)) (sym f.1) (h first start a f.0 sees f.2 (cc same))

pub batch_asked : {W : Type 0} (g : sinks.Ghosts W) (w w' : OuterWorld W) (at : ℕ) (l l' : Local) (b : OpenBatch) (root : List ℕ × ℕ) (q : Result (Result (Unit {0}) Raised) (Halt Failed)) → found w.batches.now at ≡ Some b → root_of b ≡ Some root
    → Answered (performed l' q) (λ o. FindsBatch g root b w l o w') → Answered (performed l' q) (λ o. outer_performs g w at l o w')
batch_asked g w w' at l l' b root (Ok (Ok u)) is has h = some_asked g w w' at l b root (Ok (Gave tt l')) is has h
batch_asked g w w' at l l' b root (Ok (Err r)) is has h = some_asked g w w' at l b root (Ok (Faulted r l')) is has h
batch_asked g w w' at l l' b root (Err halt.Memory) is has h = tt
batch_asked g w w' at l l' b root (Err (halt.World x)) is has h = some_asked g w w' at l b root (Err x) is has h

-- a batch that is found has a root
pub has_root : {W P : Type 0} (g : sinks.Ghosts W) (w first : OuterWorld W) (at : ℕ) (b : OpenBatch) → AreBatchesOf (program_of first.inner.remote.stage) w.batches.now → found w.batches.now at ≡ Some b → root_of b ≡ None → P
has_root g w first at b are is none =
    let f = some_found (program_of first.inner.remote.stage) w.batches.now at b are is in
    let e = sym none ∙ root_so b f.0 f.2 in
    absurd (cc e)

pub rootless : {W : Type 0} (g : sinks.Ghosts W) (w w' : OuterWorld W) (at : ℕ) (l : Local) (b : OpenBatch) (ended : Performed Failed) → found w.batches.now at ≡ Some b → root_of b ≡ None → outer_performs g w at l ended w'
rootless g w w' at l b ended is none = λ first start a sees. has_root g w first at b sees.outer_so.batches_so is none
