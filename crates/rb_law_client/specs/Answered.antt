-- Laws of what code is answered on its way, and of the faults that arise there: each fits what typing wants, and none is Kind,
-- not even one that is caught.
use Rattle.std.specs.Prelude.{◌≡◌, ℕ, List, Option, Some, Ok}
use Rattle.rb_trees.specs.declared.values.Value.{Value}
use Rattle.rb_trees.specs.declared.values.Value.TheVariants as value
use Rattle.rb_trees.specs.declared.services.Object.{Object}
use Rattle.rb_trees.specs.mirror.Code.{Stmts, Try}
use Rattle.rb_trees.specs.mirror.Declarations.{Program}
use Rattle.rb_trees.specs.mirror.Services.{Service}
use Rattle.rb_meaning_types.specs.Declared.{Declarations, of_program}
use Rattle.rb_meaning_types.specs.Lawful.{IsLawful}
use Rattle.rb_meaning_types.specs.Notes.{type_at}
use Rattle.rb_meaning_types.specs.Programs.{check_program}
use Rattle.rb_meaning_types.specs.Scopes.{Scope}
use Rattle.rb_meaning_code.specs.Bodies.{bodies_of}
use Rattle.rb_meaning_code.specs.Dialogue.{Outcome, Dialogue, Done, Ask, AskBatch, Run, Handler, handle}
use Rattle.rb_meaning_code.specs.Led.{Passes}
use Rattle.rb_meaning_code.specs.State.{Local, bound}
use Rattle.rb_meaning_code.specs.Statements.{performs_all, block}
use Rattle.rb_meaning_flow.specs.Outermost.{Outermost}
use Rattle.rb_meaning.specs.Links.{IsTyped}
use Rattle.rb_meaning.specs.Meaning.{Around, around_of, at_batch, in_main}
use Rattle.rb_meaning.specs.Others.{Others}
use Rattle.rb_meaning.specs.State.{Outside}
use Rattle.rb_meaning.specs.Unsplit.{batch_at, begun, in_batch}
use Rattle.rb_flow.specs.Program.{HasNoRefusal}
use Rattle.rb_law_types.specs.Around.{EndsHandled}
use Rattle.rb_law_types.specs.Asked.{Side, Own, InBatch, Site, IsAsked, IsAnswer, IsAskedBatch}
use Rattle.rb_law_types.specs.Code.{LeadsTo, Asks, Stands, IsBatchStmt, bodies, OfTypedCode, OfBatchCode}
use Rattle.rb_law_types.specs.Ends.{Place, context, FitsPlace, EndsThere}
use Rattle.rb_law_types.specs.Kept.{IsOwnFault}
use Rattle.rb_law_unsplit.specs.Batches.{program_sites}
use Rattle.rb_law_unsplit.specs.Kept.{AllKeepFitting, HasFittingTable, StandsAround}
use Rattle.rb_law_division.specs.Faults.{EachFault}
use Rattle.rb_law_client.specs.Reached.{main_run, ProgramComesTo}

-- an end by a value, or by a fault that typed code may end by, which isn't Kind
abbrev pub EndsWithoutKind : {A : Type 0} → Outcome A → Type 0
EndsWithoutKind o = EachFault (λ r. IsOwnFault r.fault) o

-- What comes next in a run fits. It ends without Kind; or it asks what it may ask there, and the answer fits what is asked: a
-- value of its type, or a fault that isn't Kind. A batch ends as a statement does where it stands.
abbrev pub NextFits : {S A : Type 0} → Declarations → Side → Handler S → Run A → S → Type 0
NextFits d side h (Done o) s = EndsWithoutKind o
NextFits d side h (Ask q go) s = IsAsked d side q × IsAnswer d side q (h.answer s q).0
NextFits d side h (AskBatch at l go) s = (b : Site) × IsAskedBatch d side at l b × EndsThere d b.place l (h.batch s at l).0

-- A run stands well where what comes next in it fits, and what is around it stands.
pub record StandsWell {S A : Type 0} (Holds : S → Type 0) (d : Declarations) (side : Side) (h : Handler S) (rest : Run A) (s : S) : Type 0 where
  pub next : NextFits d side h rest s
  pub around : Holds s

-- So it is however far the run comes.
abbrev pub AlwaysStandsWell : {S A : Type 0} → (S → Type 0) → Declarations → Side → Handler S → Run A → S → Type 0
AlwaysStandsWell {S = S} {A = A} Holds d side h run s = (rest : Run A) (now : S) → Passes h run s rest now → StandsWell Holds d side h rest now

-- the body of a batch that is asked for in a local state: its root is bound there
abbrev pub body_run : Program → Service → Outermost → Local → Run (Unit {0})
body_run p service b l = performs_all (bodies_of p.classes l.fuel) l.fuel b.block (bound b.root (value.Remote service.root) l)

-- A batch that is asked for stands in the program, and its body always stands well.
pub record BodyStandsWell (p : Program) (service : Service) (at : ℕ) (l : Local) (s : Outside) : Type 0 where
  pub batch : Outermost
  pub stands : batch_at p at ≡ Some batch
  pub body : AlwaysStandsWell (HasFittingTable service) (of_program p) (InBatch (type_at p)) (in_batch p service) (body_run p service batch l) (begun s)

-- `main` always stands well, and so does the body of each batch that it comes to, on the table that the batch finds.
pub record AnswersFit (p : Program) (service : Service) (table : List Object) (others : List Others) (fuel : ℕ) : Type 0 where
  pub main : AlwaysStandsWell (StandsAround service) (of_program p) (Own (program_sites p)) (in_main p service) (main_run p fuel) (around_of table others)
  pub batches : (at : ℕ) (l : Local) (go : Outcome (Unit {0}) → Dialogue (Outcome (Option Value))) (a : Around)
      → ProgramComesTo p service table others fuel (AskBatch at l go) a → BodyStandsWell p service at l (at_batch a)

-- Each typed piece of code of a program, in a batch or not, within a `try` or not, ends as its types say, and never by Kind. It
-- may begin in whatever local state fits where it stands, as long as the server's table fits; and that fits then still.
pub record CodeKeepsTypes (p : Program) (service : Service) : Type 0 where
  pub own : OfTypedCode (of_program p) (program_sites p) (EndsHandled (StandsAround service) (in_main p service))
  pub batches : OfBatchCode (of_program p) (type_at p) (EndsHandled (HasFittingTable service) (in_batch p service))

-- the block that a `try` tries, in its surroundings
abbrev pub tried : {S : Type 0} → Program → ℕ → Stmts → Handler S → Local → S → Outcome (Unit {0})
tried p gas a h l s = (handle h (block (performs_all (bodies (of_program p) gas) gas a) l) s).0

-- What a typed `try` may catch, the fault by which the block ends that it tries, isn't Kind: not in the code around batches, and
-- not in a batch.
pub record NoKindIsCaught (p : Program) (service : Service) : Type 0 where
  pub own : (place : Place) (at : ℕ) (a : Stmts) (name : List ℕ) (b : Stmts) (after : Scope) (gas : ℕ) (l : Local) (s : Around)
      → LeadsTo (of_program p) place (Try at a name b) after → Asks (of_program p) (program_sites p) place (Try at a name b)
      → Stands (of_program p) place l → StandsAround service s → EndsWithoutKind (tried p gas a (in_main p service) l s)
  pub batches : (place : Place) (at : ℕ) (a : Stmts) (name : List ℕ) (b : Stmts) (after : Scope) (gas : ℕ) (l : Local) (s : Outside)
      → LeadsTo (of_program p) place (Try at a name b) after
      → IsBatchStmt (type_at p) (context (of_program p) place) place.scope (Try at a name b)
      → FitsPlace (of_program p) place l → HasFittingTable service s → EndsWithoutKind (tried p gas a (in_batch p service) l s)

-- So it is with each lawful, typed program without refusals, on each typed service whose table fits.
abbrev pub InAccepted : (Program → Service → List Object → Type 0) → Type 0
InAccepted Holds = (p : Program) → IsLawful p → check_program p ≡ Ok tt → HasNoRefusal p
    → (service : Service) (table : List Object) → IsTyped service table → Holds p service table

-- with whatever fuel, whatever others do that keeps tables fitting
abbrev pub EachAnswerFits : Type 0
EachAnswerFits = InAccepted (λ p service table. (others : List Others) → AllKeepFitting service others → (fuel : ℕ) → AnswersFit p service table others fuel)

abbrev pub EachPieceKeepsTypes : Type 0
EachPieceKeepsTypes = InAccepted (λ p service table. CodeKeepsTypes p service)

abbrev pub KindIsNeverCaught : Type 0
KindIsNeverCaught = InAccepted (λ p service table. NoKindIsCaught p service)
