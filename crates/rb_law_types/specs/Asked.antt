-- What typed code asks of its surroundings, which answers fit, and that it ends as its types say as long as they do.
use Rattle.std.specs.Prelude.{◌≡◌, ℕ, List, [], false, Option, Some, Result, Ok, Err}
use Rattle.std.specs.List.{All, Contains}
use Rattle.rb_trees.specs.declared.values.Value.{Value}
use Rattle.rb_trees.specs.declared.values.Value.TheVariants as value
use Rattle.rb_trees.specs.declared.values.Value.TheViews.{out-Value}
use Rattle.rb_trees.specs.declared.outcomes.Raised.{Raised}
use Rattle.rb_trees.specs.mirror.Code.{Stmts, Batch}
use Rattle.rb_trees.specs.mirror.Declarations.{Interface}
use Rattle.rb_meaning_types.specs.Kinds.{Kind}
use Rattle.rb_meaning_types.specs.Violations.{Checked}
use Rattle.rb_meaning_types.specs.Declared.{Declarations}
use Rattle.rb_meaning_types.specs.Statements.{check_stmt}
use Rattle.rb_meaning_types.specs.Fits.{IsRemoteValue, Fits}
use Rattle.rb_meaning_code.specs.State.{Local}
use Rattle.rb_meaning_code.specs.Dialogue.{Question, Line, Taken, Invoke, Turn, ListTurn, Outcome, Dialogue, Done, Ask, AskBatch}
use Rattle.rb_law_types.specs.Kept.{IsBounded, FaultFits}
use Rattle.rb_law_types.specs.Own.{IsFarKind}
use Rattle.rb_law_types.specs.Ends.{Place, context, FitsPlace, EndsThere}

-- a batch as it stands in code
pub record Site : Type 0 where
  pub at : ℕ
  pub interface : List ℕ
  pub root : List ℕ
  pub block : Stmts
  pub place : Place

-- Where code stands: where no remote value is in scope, and the batches that it may ask; or in a batch, whose expressions
-- have these types by their positions.
pub data Side : Type 0 where
  Own : (batches : List Site) → Side
  InBatch : (types : ℕ → Option (Checked Kind)) → Side

-- what only code in a batch asks
abbrev pub IsFar : Side → Type 0
IsFar (Own batches) = ⊥
IsFar (InBatch types) = Unit {0}

abbrev pub IsNear : Side → Type 0
IsNear (Own batches) = Unit {0}
IsNear (InBatch types) = ⊥

-- A remote call: on a remote object, with arguments within their limits; its type is noted, and one of a remote result.
pub record IsFarCall (interfaces : List Interface) (types : ℕ → Option (Checked Kind)) (at : ℕ) (target : Value) (args : List Value) : Type 0 where
  pub on : IsRemoteValue (out-Value target)
  pub bounded : All IsBounded args
  pub kind : Kind
  pub noted : types at ≡ Some (Ok kind)
  pub far : IsFarKind interfaces kind

abbrev pub IsInvoked : Declarations → Side → ℕ → Value → List Value → Type 0
IsInvoked d (Own batches) at target args = ⊥
IsInvoked d (InBatch types) at target args = IsFarCall d.interfaces types at target args

-- What code asks: a line, unless it is a service's; whether a turn goes on; and in a batch a remote call.
abbrev pub IsAsked : Declarations → Side → Question → Type 0
IsAsked d side (Line at bytes) = d.service ≡ false
IsAsked d side (ListTurn at) = Unit {0}
IsAsked d side (Taken step) = ⊥
IsAsked d side (Invoke at target method args) = IsInvoked d side at target args
IsAsked d side (Turn at) = IsFar side

-- A value that a remote call gives is of the call's type, and holds no object of the own side.
abbrev pub CallGives : Declarations → Side → ℕ → Value → Type 0
CallGives d (Own batches) at v = Unit {0}
CallGives d (InBatch types) at v = (kind : Kind) → types at ≡ Some (Ok kind) → Fits d.interfaces [] kind v

abbrev pub AnswerGives : Declarations → Side → Question → Value → Type 0
AnswerGives d side (Invoke at target method args) v = CallGives d side at v
AnswerGives d side (Line at bytes) v = Unit {0}
AnswerGives d side (ListTurn at) v = Unit {0}
AnswerGives d side (Taken step) v = Unit {0}
AnswerGives d side (Turn at) v = Unit {0}

-- an answer that fits what is asked
abbrev pub IsAnswer : Declarations → Side → Question → Result Value Raised → Type 0
IsAnswer d side q (Ok v) = AnswerGives d side q v
IsAnswer d side q (Err r) = FaultFits d r

-- Code in a batch asks no batch.
abbrev pub MayAsk : Side → Site → Type 0
MayAsk (Own batches) b = Contains batches b
MayAsk (InBatch types) b = ⊥

-- A batch is asked where it stands: it is one of those, it is typed there, and the local state that is lent fits the scope.
pub record IsAskedBatch (d : Declarations) (side : Side) (at : ℕ) (l : Local) (b : Site) : Type 0 where
  pub of_program : d.service ≡ false
  pub here : b.at ≡ at
  pub may : MayAsk side b
  pub typed : check_stmt (context d b.place) b.place.scope (Batch b.at b.interface b.root b.block) ≡ Ok b.place.scope
  pub fits : FitsPlace d b.place l

-- The run asks only what it may, and with answers that fit it ends by what P says. A batch has to end as a statement does.
abbrev pub Keeps : {A : Type 0} → Declarations → Side → (A → Type 0) → Dialogue A → Type 0
Keeps d side P (Done a) = P a
Keeps d side P (Ask q go) = IsAsked d side q × ((a : Result Value Raised) → IsAnswer d side q a → Keeps d side P (go a))
Keeps d side P (AskBatch at l go) = (b : Site) × IsAskedBatch d side at l b × ((o : Outcome (Unit {0})) → EndsThere d b.place l o → Keeps d side P (go o))

-- The run asks nothing but whether turns over lists go on, and where each does, it ends by what P says.
abbrev pub KeepsAlone : {A : Type 0} → (A → Type 0) → Dialogue A → Type 0
KeepsAlone P (Done a) = P a
KeepsAlone P (Ask (ListTurn at) go) = KeepsAlone P (go (Ok value.Unit))
KeepsAlone P (Ask q go) = ⊥
KeepsAlone P (AskBatch at l go) = ⊥
